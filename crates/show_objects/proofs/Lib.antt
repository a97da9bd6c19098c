pub mod Onward
pub mod Written
pub mod Orders
pub mod Refused
pub mod Fit
pub mod Back
