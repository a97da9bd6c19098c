pub mod Printed
pub mod Forests
pub mod Plain
pub mod Orders
