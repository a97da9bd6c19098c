pub mod Said
pub mod Sinks
pub mod Reports
pub mod Awaited
pub mod Waiting
pub mod Short
pub mod Parts
pub mod Holders
