pub mod Told
pub mod Streamed
