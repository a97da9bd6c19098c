pub mod Events
pub mod Agenda
pub mod Written
pub mod Behind
pub mod Fresh
pub mod SoFar
pub mod Appended
pub mod Rows
