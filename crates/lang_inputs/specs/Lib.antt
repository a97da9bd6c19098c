pub mod Inputs
pub mod Describes
