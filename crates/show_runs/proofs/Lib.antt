pub mod Runs
pub mod Viewing
