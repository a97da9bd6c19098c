pub mod Written
pub mod Recorded
pub mod Reading
pub mod Runs
