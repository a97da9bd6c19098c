pub mod Going
mod Ended
