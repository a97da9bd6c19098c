mod Spread
mod TemplatePlaces
pub mod PropsLemmas
pub mod TreePlaces
pub mod Forms
