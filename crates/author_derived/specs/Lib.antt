pub mod Derived
pub mod Decides
pub mod Trees
pub mod DerivedShow
