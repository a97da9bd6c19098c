pub mod Machines
pub mod Writings
pub mod Stands
pub mod Runs
pub mod Keeps
