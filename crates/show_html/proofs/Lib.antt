pub mod Wakes
pub mod Pagings
