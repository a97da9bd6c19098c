pub mod Sinks
pub mod Nodes
pub mod Ordered
pub mod Document
pub mod Changing
pub mod Laws
