-- There is no tree, and nothing of one.
use Rattle.run_places.proofs.side.Side.is_bare.Goals as goal

pub returns-in-None : goal.returns-in-None
returns-in-None g c = λ yes.
    record {
      output = c.in-None.is;
      nodes = c.has_nothing.ensures.nodes yes;
      seats = c.has_nothing.ensures.seats yes;
      numbers = c.has_nothing.ensures.numbers yes;
      children = c.has_nothing.ensures.children yes;
    }
