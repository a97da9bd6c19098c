pub mod Turn
pub mod Calls
pub mod Answers
pub mod Steps
pub use Rattle.author_programs.specs.Reads
pub use Rattle.author_programs.specs.Contexts
pub mod Hooks
pub mod GoesOn
