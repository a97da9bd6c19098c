pub mod Notes
pub mod Fed
pub mod Counting
