-- So far the reader stands beside the sources that were met.
use Rattle.std.proofs.Common.{◌≡◌, ◌||◌, take}
use Rattle.std.specs.BTreeSet.{contains}
use Rattle.rt_cells.specs.declared.sources.Reader.{Reader}
use Rattle.rt_cells.specs.declared.places.Place.{Place}
use Rattle.rt_cells.specs.Links.{link_cmp, is_linked}
use Rattle.rt_cells.proofs.links.enter.Given as goal

abbrev pub invariant-loop-source : goal.invariant-loop-source
invariant-loop-source state = (link : Place × Reader) →
    contains link_cmp state.links link ≡ (contains link_cmp state.initial.links link || is_linked state.reader (take state.source-index state.sources) link)
