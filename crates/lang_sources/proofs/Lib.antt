pub mod Origins
pub mod Levels
pub mod Joined
pub mod Texts
pub mod Described
pub mod Outside
