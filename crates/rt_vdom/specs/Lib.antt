pub mod Doms
pub mod Calls
pub mod Carried
pub mod Runs
pub mod Handles
