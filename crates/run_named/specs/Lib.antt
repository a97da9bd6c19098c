pub mod Named
pub mod Standings
