pub mod Comes
pub mod Bodies
pub use Rattle.author_programs.specs.Cells
pub use Rattle.author_programs.specs.Pages
pub use Rattle.author_programs.specs.Means
