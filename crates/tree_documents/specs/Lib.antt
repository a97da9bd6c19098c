pub mod Agrees
pub mod Cuts
