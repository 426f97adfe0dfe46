pub mod ValueLaws
pub mod LocalLaws
