-- The first of the numbers of the height.
use Rattle.run_state.proofs.MetRanks.{first_has, none_has}
use Rattle.run_state.proofs.ranks.Ranks.first_of.Goals as goal

pub returns : goal.returns
returns c =
    record {
      first = first_has c.args.self.now c.args.height c.numbers_of-numbers.result c.numbers_of-numbers.ensures.members c.next.result c.next.new.self c.next.ensures.next;
      none = none_has c.args.self.now c.args.height c.numbers_of-numbers.result c.numbers_of-numbers.ensures.members c.next.result c.next.new.self c.next.ensures.next;
    }
