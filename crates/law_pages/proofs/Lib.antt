pub mod Keeping
pub mod Listening
pub mod Hearing
pub mod OnePage
mod Writes
