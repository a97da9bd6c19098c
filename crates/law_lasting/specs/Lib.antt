pub mod CellsLast
pub mod ChildrenLast
pub mod ComponentsLast
pub mod NumbersLast
pub mod OneFinish
