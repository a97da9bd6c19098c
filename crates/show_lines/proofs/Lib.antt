pub mod Cutting
mod Ends
mod Reading
