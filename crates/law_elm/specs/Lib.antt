pub mod ErrorsStayAway
pub mod Safe
pub mod NoErrors
pub mod Roots
pub mod RootShows
pub mod Programs
