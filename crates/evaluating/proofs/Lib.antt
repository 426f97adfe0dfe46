pub mod PlaceLaws
pub mod ValuedLaws
