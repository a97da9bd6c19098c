pub mod Nodes
pub mod Forests
pub mod Numbers
pub mod Changed
pub mod Contents
pub mod Applied
pub mod Back
pub mod Cut
