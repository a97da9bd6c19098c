pub mod Layout
pub mod Screens
pub mod Printed
pub mod Laws
