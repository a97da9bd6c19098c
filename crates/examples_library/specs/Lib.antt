pub mod Shapes
pub mod Meaning
pub mod Sentences
