pub mod Totals
pub mod Posted
pub mod Keeps
pub mod Gathered
pub mod Joined
pub mod Ready
