pub mod Asking
pub mod Put
pub mod Stopping
pub mod Going
pub mod Taking
pub mod Answering
pub mod Reading
