pub mod Lawful
pub mod Formulas
pub mod RowsSay
pub mod Wide
