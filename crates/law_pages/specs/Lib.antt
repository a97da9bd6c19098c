pub mod Keeps
pub mod Updates
pub mod OnePage
pub mod Writes
