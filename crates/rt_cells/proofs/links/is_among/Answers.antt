-- The search finds what is there.
use Rattle.std.proofs.Common.{◌∙◌}
use Rattle.rt_cells.proofs.Exact.{source_total}
use Rattle.rt_cells.proofs.Searched.{search_finds}
use Rattle.rt_cells.proofs.links.is_among.Goals as goal

pub returns : goal.returns
returns c = record {
  among = c.is_ok.ensures.value ∙ search_finds source_total c.args.sources.now c.args.source c.binary_search.result c.requires.ascending c.binary_search.ensures.position c.binary_search.ensures.bound;
}
