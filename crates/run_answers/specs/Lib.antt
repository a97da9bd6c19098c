pub mod Untils
pub mod Owed
pub mod Ranked
pub mod Provided
pub mod Polls
pub mod Barred
