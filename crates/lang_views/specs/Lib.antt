pub mod Handed
pub mod Seen
pub mod Digits
pub mod Plans
pub mod Built
pub mod Meant
pub mod Coding
