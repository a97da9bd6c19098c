pub mod Had
pub mod Numbering
pub mod Breaches
pub mod Markup
pub mod Filling
pub mod Answered
