pub mod Rows
pub mod BreachLemmas
pub mod Refusals
