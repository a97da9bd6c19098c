pub mod RowsAt
pub mod Boundaries
pub mod KindPlaces
pub mod Gathered
pub mod Futures
