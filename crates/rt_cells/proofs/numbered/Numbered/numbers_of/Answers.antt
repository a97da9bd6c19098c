-- The scan finds the scope's numbers.
use Rattle.std.proofs.Common.{◌∙◌}
use Rattle.rt_cells.proofs.NumbersOf.{numbers_found, numbers_ascend}
use Rattle.rt_cells.proofs.numbered.Numbered.numbers_of.Goals as goal

pub returns : goal.returns
returns g c =
    let found = c.from_vec.ensures.items ∙ c.in_ok-numbers.ensures.front
    ∙ numbers_found c.self.inside.held.entries c.self.inside.owners.keys c.self.inside.next c.args.owner c.self.invariant c.in_ok-numbers.ensures.ordered in
    record {
      numbers = rw (← c.self.view_is) found;
      ascending = rw found (numbers_ascend c.args.owner c.self.inside.held.entries c.self.invariant.ascending);
    }
