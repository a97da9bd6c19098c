-- What is known of the scopes on the way down to what a removal takes first, after a turn at an item.
use Rattle.std.proofs.Common.{ℕ, nat_eq, List, [], ◌++◌, ◌≡◌, ap, subst}
use Rattle.std.specs.Prelude.{Option, Some, None}
use Rattle.rt_model.specs.Tree.{Types}
use Rattle.rt_model.specs.World.{Application}
use Rattle.rt_model.specs.Laws.{IsLawful}
use Rattle.rt_model.specs.State.{State, Item, Draw, Row, Feed, Make, Drop, Outcome, Done, Cut}
use Rattle.rt_model.specs.Removal.{next_removed, removed}
use Rattle.rt_model.proofs.TakesOne.{removal_takes_one}
use Rattle.law_moves.specs.Turn.{again, and_then, turn_of}
use Rattle.rt_scopes.specs.Knowing.{GoesWhere, Knows, leaf_of}
use Rattle.rt_scopes.proofs.KnownLeft.{known_after, knows_none}

module _ {K : Types} where
  -- a change that was done, with more work after its own, was done
  done_first : (o : Outcome K) (more work : List (Item K)) (v : State K) → and_then o more ≡ Done v work → (own : List (Item K)) × (o ≡ Done v own)
  done_first (Done u own) more work v h = let same : u ≡ v = cc in (own, ap (λ (x : State K). Done x own) same)
  done_first (Cut u fault) more work v h = absurd (cc h)

  -- at an item at which no scope goes nothing is known
  none_known : (w v : State K) (leaf : Option ℕ) (rows : List (ℕ × List ℕ)) → leaf ≡ None → GoesWhere w rows leaf → Knows v rows
  none_known w v leaf rows is h = knows_none v rows (subst (λ (o : Option ℕ). GoesWhere w rows o) is h)

  -- after a turn what led down to the scope that went is known still
  pub turn_knows : (app : Application K) → IsLawful K app → (w v : State K) (item : Item K) (work : List (Item K)) (leaf : Option ℕ) (rows : List (ℕ × List ℕ))
      → turn_of app w item ≡ Done v work → leaf ≡ leaf_of w item → GoesWhere w rows leaf → Knows v rows
  turn_knows app lawful w v (Draw s side p k) work leaf rows done is h = none_known w v leaf rows is h
  turn_knows app lawful w v (Row b step) work leaf rows done is h = none_known w v leaf rows is h
  turn_knows app lawful w v (Feed s side p c) work leaf rows done is h = none_known w v leaf rows is h
  turn_knows app lawful w v (Make s side p c) work leaf rows done is h = none_known w v leaf rows is h
  turn_knows app lawful w v (Drop t s side) work leaf rows done is h =
      let l : ℕ = next_removed w t in
      let own = done_first (removed app w l) (again (nat_eq l t) (Drop t s side)) work v done in
      let took = removal_takes_one app lawful w v l own.0 own.1 in
      known_after w v l took.1 rows (subst (λ (o : Option ℕ). GoesWhere w rows o) is h)
