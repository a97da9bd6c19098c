pub mod Gathered
pub mod Piled
pub mod Climbs
pub mod Lookups
pub mod Hooked
pub mod ProgramsGoOn
pub mod Told
