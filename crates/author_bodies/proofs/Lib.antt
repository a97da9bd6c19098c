pub mod Meant
pub mod Asked
pub mod Refused
pub mod Contexts
pub mod Following
pub mod Lists
pub mod Placeholders
pub mod Rules
