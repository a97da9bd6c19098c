pub mod Gathered
pub mod Standing
pub mod Derives
pub mod Telling
