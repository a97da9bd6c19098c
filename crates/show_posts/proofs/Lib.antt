pub mod Messages
pub mod Drained
pub mod Postings
