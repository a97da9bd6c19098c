pub mod Meaning
pub mod Sentences
