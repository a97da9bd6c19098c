pub mod Merge
pub mod Rule
pub mod Ends
pub mod Gathered
pub mod Posted
