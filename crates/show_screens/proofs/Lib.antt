pub mod RowPuts
pub mod Picturing
