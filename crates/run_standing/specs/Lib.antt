pub mod Changes
pub mod Feeds
pub mod Orderly
