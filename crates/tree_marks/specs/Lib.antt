pub mod Marks
pub mod Deeds
pub mod Writing
pub mod Spots
