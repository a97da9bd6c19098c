pub mod Merges
pub mod Posted
pub mod Sittings
pub mod Meetings
