pub mod Ways
pub mod Found
pub mod Fewer
pub mod More
pub mod Stays
pub mod Went
pub mod Cut
pub mod Around
