pub mod Made
pub mod Reading
pub mod Puts
pub mod Preparing
pub mod Agreed
