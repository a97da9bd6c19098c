pub use Rattle.rt_author.proofs.Lawful
pub use Rattle.rt_author.proofs.Steps
pub use Rattle.rt_author.proofs.Meant
pub use Rattle.rt_author.proofs.Refused as RefusedCalls
pub use Rattle.rt_author.proofs.Contexts
pub use Rattle.rt_author.proofs.Following
pub use Rattle.rt_author.proofs.Maps
pub mod Rules
