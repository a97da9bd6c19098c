pub mod Held
pub mod States
pub mod Derivers
pub mod Seen
pub mod Fills
pub mod Applications
pub mod Laws
pub mod Posted
