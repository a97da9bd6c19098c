use Rattle.run_places.proofs.Agreed.{agrees_as, agrees_more}
use Rattle.run_places.proofs.pairs.Pairs.push.Goals as goal

pub invariant_of-self : goal.invariant_of-self
invariant_of-self c = agrees_as c.self.inside.firsts.items c.fill.new.numbers.items c.self.inside.pairs.items c.self.invariant c.fill.ensures.same

pub invariant_of-self-2 : goal.invariant_of-self-2
invariant_of-self-2 c =
    rw (c.put_first.ensures, c.in_ok-push.ensures.items)
    (agrees_more c.fill.new.numbers.items c.self.inside.pairs.items c.args.spot c.args.number (agrees_as c.self.inside.firsts.items c.fill.new.numbers.items c.self.inside.pairs.items c.self.invariant c.fill.ensures.same) c.in_ok-fill.ensures.long)
