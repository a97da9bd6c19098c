-- The numbers that the calls of a move give.
use Rattle.std.proofs.Common.{List, [], ◌∷◌}
use Rattle.std.specs.List.{AllByRecursion}
use Rattle.rt_lemmas.proofs.Numbers.{least}
use Rattle.rt_model.specs.Tree.{Types}
use Rattle.rt_model.specs.World.{Firsts, Command, NewCell, NewContext, Application}
use Rattle.law_behavior.specs.Deeds.{Deed, move_deeds}
use Rattle.law_minding.specs.Numbering.{NumberedIn, MovesNumber}
use Rattle.law_minding.proofs.Numbers.{NewFrom, AllNew, AllOf, move_new}
use Rattle.law_minding.proofs.Counting.{LowContext, contexts_count}
use Rattle.law_minding.proofs.Under.{AllLow, AllUnder}
use Rattle.law_minding.proofs.Below.{move_under}

module _ {K : Types} (before behind : Firsts) where
  one_in : (c : Command K) → NewFrom {K = K} before.cells before.contexts c → LowContext {K = K} behind.contexts c → NumberedIn before behind c
  one_in (NewCell n v) f g = f
  one_in (NewContext n target) f g = (f, g)
  one_in c f g = tt

  all_in : (cs : List (Command K)) → AllNew {K = K} before.cells before.contexts cs → AllLow {K = K} contexts_count behind.contexts cs → AllByRecursion (λ (c : Command K). NumberedIn before behind c) cs
  all_in [] f g = tt
  all_in (c ∷ cs) f g = (one_in c f.0 g.0, all_in cs f.1 g.1)

  deeds_in : (ds : List (Deed K)) → AllOf {K = K} before.cells before.contexts ds → AllUnder {K = K} contexts_count behind.contexts ds
      → AllByRecursion (λ (d : Deed K). AllByRecursion (λ (c : Command K). NumberedIn before behind c) d.wants) ds
  deeds_in [] f g = tt
  deeds_in (d ∷ ds) f g = (all_in d.wants f.0 g.0, deeds_in ds f.1 g.1)

pub moves_number : {K : Types} (app : Application K) → MovesNumber app
moves_number app lawful limits m u move step =
    deeds_in m.state.next u.state.next (move_deeds app m move)
    (move_new m.state.next.cells m.state.next.contexts app lawful m move (least m.state.next.cells, least m.state.next.contexts))
    (move_under contexts_count u.state.next.contexts app lawful limits m u move step (least u.state.next.contexts))
