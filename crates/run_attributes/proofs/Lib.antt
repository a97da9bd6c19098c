pub mod Replaced
pub mod Orders
pub mod Contents
pub mod Slots
pub mod Passes
