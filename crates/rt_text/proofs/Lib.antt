pub mod Fitted
pub mod Changes
pub mod Quoted
pub mod Leads
pub mod Characters
pub mod Fits
