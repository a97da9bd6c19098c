-- What a conjunction of tests says of both.
pub use Rattle.rt_lemmas.proofs.Bools.{and_left as and-left, and_right as and-right}
