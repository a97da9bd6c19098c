mod Asked
pub mod Looked
mod Dues
mod TurnsUp
mod InTurn
pub mod Greatest
pub mod TakenAlone
pub mod LastRanked
mod RanksFilled
mod Passes
mod Sorted
mod CellValues
mod Gathered
