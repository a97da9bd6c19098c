pub mod Order
pub mod Content
pub mod Given
