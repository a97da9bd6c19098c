pub mod Objects
pub mod Lines
pub mod Tellable
pub mod Reading
