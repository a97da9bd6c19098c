mod Openings
pub mod Arms
pub mod Counting
