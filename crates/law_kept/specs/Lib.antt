pub mod Calls
pub mod Settles
