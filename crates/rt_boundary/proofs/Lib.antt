pub mod Stepped
pub mod Seen
