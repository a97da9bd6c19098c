pub mod Framed
mod Kept
mod Keeps
mod Changes
mod Sights
pub mod Orderly
