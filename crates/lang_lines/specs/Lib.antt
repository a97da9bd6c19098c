pub mod Told
pub mod Plain
pub mod Runs
pub mod Named
pub mod Read
