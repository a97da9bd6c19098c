pub mod Told
pub mod Celled
mod Handed
mod Sided
mod Placed
mod Kids
mod Finished
