pub mod ChangedLaws
