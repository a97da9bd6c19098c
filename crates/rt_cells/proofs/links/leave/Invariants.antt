-- So far the reader left the sources that were met and aren't kept.
use Rattle.std.proofs.Common.{◌≡◌, ◌&&◌, not, take}
use Rattle.std.specs.BTreeSet.{contains}
use Rattle.rt_cells.specs.declared.sources.Reader.{Reader}
use Rattle.rt_cells.specs.declared.places.Place.{Place}
use Rattle.rt_cells.specs.Links.{link_cmp, is_let_go}
use Rattle.rt_cells.proofs.links.leave.Given as goal

abbrev pub invariant-loop-source : goal.invariant-loop-source
invariant-loop-source state = (link : Place × Reader) →
    contains link_cmp state.links link ≡ (contains link_cmp state.initial.links link && not (is_let_go state.reader state.kept (take state.source-index state.sources) link))
