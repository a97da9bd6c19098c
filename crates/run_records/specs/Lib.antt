pub mod World
pub mod Provisions
pub mod Enter
pub mod Kept
pub mod Futures
pub mod Records
