pub mod Short
pub mod Ends
pub mod Turns
pub mod Among
pub mod Hearings
pub mod Sofar
pub mod Sessions
