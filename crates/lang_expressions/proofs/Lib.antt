pub mod Steps
pub mod Reading
pub mod Levels
pub mod Seen
pub mod Halves
