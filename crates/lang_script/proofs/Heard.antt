-- What is left of an event.
use Rattle.rt_lemmas.proofs.Bools.{and_false as stopped, or_all as prevented}
pub use Rattle.rt_lemmas.proofs.Bools.{or_none as still-not, and_true as still}

pub ruleset hearing = (still, still-not, stopped, prevented)
