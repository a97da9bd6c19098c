pub mod One
pub mod Mirror
pub mod ByParts
pub mod Sealed
