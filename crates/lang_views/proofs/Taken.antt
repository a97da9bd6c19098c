-- Items that are taken one after another.
pub use Rattle.rt_lemmas.proofs.Lists.{next_drop, append_nil, map_append as map-append, nothing_left}
