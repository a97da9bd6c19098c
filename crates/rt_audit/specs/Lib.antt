pub mod Fronts
pub mod Finding
pub mod Judging
pub mod Runs
