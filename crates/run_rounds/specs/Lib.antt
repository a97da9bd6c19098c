pub mod Rounds
pub mod Handled
pub mod Steps
pub mod Suspended
pub mod Going
