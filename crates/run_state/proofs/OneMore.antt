-- A number that is drawn.
use Rattle.std.proofs.Common.{◌≡◌, ℕ, ◌+◌, Bool, true, false, [], ap, sym, ◌∙◌}
use Rattle.std.specs.Prelude.{Result, Ok, Err, OnErr, OnOk, if◌then◌else◌}
use Rattle.rt_model.specs.OneLog.{types}
use Rattle.rt_model.specs.Tree.{Types, Place, Kind}
use Rattle.rt_model.specs.World as world
use Rattle.rt_model.specs.State as model
use Rattle.rt_model.specs.State.{change}
use Rattle.rt_model.specs.Run.{with_next}
use Rattle.rt_model.specs.Replay.{numbered, draw_number}
use Rattle.run_places.specs.declared.side.Side.{Side}
use Rattle.run_places.specs.Places.{side_of}
use Rattle.run_places.specs.Sides.{and_child}
use Rattle.run_state.specs.Sides.{more_number}

module _ {K : Types} (w : model.State K) (s : ℕ) (side : model.SideName) (p : Place) (k : Kind) where
  abbrev drawn_by : Bool → model.Outcome K
  drawn_by b = if b then model.Cut w (model.IdsExhausted world.Elements) else model.Done (numbered w s side p k) []

  pub draw_cut : world.at_end (w.next).elements ≡ true → draw_number w s side p k ≡ model.Cut w (model.IdsExhausted world.Elements)
  draw_cut end = ap drawn_by end

  pub draw_done : (v : model.State K) (next : ℕ) → world.at_end (w.next).elements ≡ false → next ≡ (w.next).elements + 1
      → v ≡ change (with_next w (record (w.next) { elements = next })) s (λ x. more_number side (p, k, (w.next).elements) x) → draw_number w s side p k ≡ model.Done v []
  draw_done v next more is made =
      ap drawn_by more
      ∙ ap (λ u. model.Done u [])
      (sym (made ∙ ap (λ (n : ℕ). change (with_next w (record (w.next) { elements = n })) s (λ x. more_number side (p, k, (w.next).elements) x)) is))

module _ {P C Q V H T E L U X : Type 0} where
  -- a child leaves the numbers of its side, as does one that is refused
  pub seat_stays : (r : Result U X) (old new : Side P C Q V H T E L) (child : Place × ℕ) → OnOk r (side_of new ≡ and_child (side_of old) child) → OnErr r (new ≡ old)
      → (side_of new).numbers ≡ (side_of old).numbers
  seat_stays (Ok u) old new child seated same = ap (λ (a : model.Side (types C Q V H T E L)). a.numbers) seated
  seat_stays (Err e) old new child seated same = ap (λ (a : Side P C Q V H T E L). (side_of a).numbers) same
