pub mod Kept
pub mod Planned
