pub mod Names
pub mod Rows
pub mod Nodes
pub mod Edits
pub mod Faults
pub mod Entries
pub mod Reports
pub mod Items
pub mod NamedViews
mod NamedWrites
mod NamedCuts
pub mod NamedStates
mod NamedRuns
pub mod NamedMoves
mod NamedSessions
mod Answering
pub mod NamedAnswers
mod Plainly
mod ReadViews
pub mod ReadSources
