pub mod Components
pub mod Keeping
pub mod TreeOut
pub mod SealedNodes
pub mod SealedTrees
pub mod SealedComponents
