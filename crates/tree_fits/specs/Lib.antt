pub mod Place
pub mod Walk
pub mod Rising
