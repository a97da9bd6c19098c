pub mod Fronts
pub mod Pieces
pub mod Failing
pub mod Answering
pub mod Paged
