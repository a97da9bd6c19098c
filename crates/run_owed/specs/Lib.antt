pub mod Lists
pub mod Owing
pub mod Changes
pub mod Orders
pub mod Stands
