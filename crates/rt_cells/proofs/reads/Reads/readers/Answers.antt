-- The scan finds the readers.
use Rattle.std.proofs.Common.{◌∙◌}
use Rattle.rt_cells.proofs.ReadersOf.{readers_found, readers_ascend, readers_have}
use Rattle.rt_cells.proofs.reads.Reads.readers.Goals as goal

pub returns : goal.returns
returns c =
    let found = rw c.place_of.ensures.place at (c.readers_from.ensures.front)
    ∙ readers_found c.self.inside.sources.entries c.self.inside.links.keys c.args.source c.self.invariant c.readers_from.ensures.ordered in
    record {
      readers = rw (← c.self.view_is) found;
      ascending = rw found (readers_ascend c.args.source c.self.inside.sources.entries c.self.invariant.ascending);
      members = rw (← c.self.view_is) (rw found (readers_have c.args.source c.self.inside.sources.entries c.self.invariant.ascending));
    }
