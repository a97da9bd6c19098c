pub mod Bools
pub mod Numbers
pub mod Lists
pub mod Options
pub mod Orders
