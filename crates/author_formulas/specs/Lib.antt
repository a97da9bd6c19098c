pub mod Looking
pub mod Formulas
pub mod Memos
pub mod Polls
pub mod Loading
