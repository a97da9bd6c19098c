-- One thing after another, by a loop over them.
use Rattle.std.proofs.Common.{◌≡◌, ℕ, ◌+◌, ◌<◌, ◌≤◌, List, [], length, get_or, drop, ap, ◌∙◌}
use Rattle.std.proofs.Math.ListN.{drop_of_length-le}
pub use Rattle.rt_lemmas.proofs.Lists.{next_drop}
use Rattle.rt_model.specs.Tree.{Types}
use Rattle.rt_model.specs.State.{State, Outcome, Done, onward}
use Rattle.run_state.specs.declared.names.Stop.{Stop}
use Rattle.rt_scopes.specs.Outcomes.{CutBy}
use Rattle.rt_scopes.specs.Hooks.{in_turn}
use Rattle.rt_scopes.proofs.Onward.{cut_on, cut_as}

module _ {K : Types} {X : Type 0} (step : State K → X → Outcome K) where
  -- one of them was done
  pub next_done : (w v : State K) (xs : List X) (i : ℕ) (x : X) → i < length xs → x ≡ get_or xs i x → step w x ≡ Done v [] →
      in_turn step w (drop i xs) ≡ in_turn step v (drop (i + 1) xs)
  next_done w v xs i x low is done =
      ap (λ (ys : List X). in_turn step w ys) (next_drop xs i x low is) ∙ ap (λ (o : Outcome K). onward o (λ u. in_turn step u (drop (i + 1) xs))) done

  -- one of them was cut
  pub next_cut : (w v : State K) (xs : List X) (i : ℕ) (x : X) (stop : Stop) → i < length xs → x ≡ get_or xs i x → CutBy (step w x) v stop →
      CutBy (in_turn step w (drop i xs)) v stop
  next_cut w v xs i x stop low is cut =
      cut_as _ _ v stop (ap (λ (ys : List X). in_turn step w ys) (next_drop xs i x low is)) (cut_on (step w x) (λ u. in_turn step u (drop (i + 1) xs)) v stop cut)

  -- all of them are done
  pub all_done : (w : State K) (xs : List X) (i : ℕ) → length xs ≤ i → in_turn step w (drop i xs) ≡ Done w []
  all_done w xs i end = ap (λ (ys : List X). in_turn step w ys) (drop_of_length-le xs end)
