pub mod Opened
pub mod Checked
pub mod Apart
