pub mod AllLines
pub mod More
