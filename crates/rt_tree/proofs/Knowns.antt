-- What is written at a mark hangs on the old rows at the top alone.
use Rattle.std.proofs.Common.{ℕ, true, List, ◌≡◌, refl, sym, ap, ◌∙◌}
use Rattle.std.specs.Prelude.{None}
use Rattle.rt_model.specs.Caused.{Both, removals, replaced_by}
use Rattle.rt_model.specs.Document.{Forest}
use Rattle.rt_model.specs.OneLog.{types}
use Rattle.rt_model.specs.State as state
use Rattle.rt_model.specs.Tree.{Types, Tree, Slot, text_slot, placeholder_slot, component_slot, fragment_slot, Trees, no_trees, more_trees, Place}
use Rattle.rt_model.specs.View.{items_view, slot_view, tree_view}
use Rattle.rt_model.specs.World.{Application}
use Rattle.tree_marks.specs.Marks.{Mark, stays, goes, comes, fed, left, made, given, worded, slot_goes, tree_goes, slot_way, tree_way, come_in, go_out, lone}
use Rattle.run_shown.specs.declared.asked.GivenRows.{GivenRows}
use Rattle.run_shown.specs.Given.{given_to}
use Rattle.run_shown.specs.Pieces.{items_tops, slot_tops, tree_tops}
use Rattle.run_shown.specs.Tops.{removed, replaced}
use Rattle.run_shown.specs.Unknowns.{first_in, is_given}
use Rattle.run_shown.proofs.TopsSeen.{items_is, removed-is, replaced-is, slot_is, tree_is}
use Rattle.run_shown.proofs.Unknowns.{tops_known}
use Rattle.rt_tree.specs.declared.patch.Patch.{Patch}
use Rattle.rt_tree.specs.Asks.{asked_at}
use Rattle.rt_tree.specs.Owns.{own_writes}
use Rattle.rt_tree.specs.Served.{both_now}

-- both blocks, where the old one's child scopes show something else
abbrev pub with_old : {K : Types} → Both K → (ℕ → Forest) → Both K
with_old b f = record b { old_child = f }

module _ {K : Types} (rows : GivenRows) (f : ℕ → Forest) (agree : (t : ℕ) → is_given rows t ≡ true → given_to rows t ≡ f t) where
  -- a slot, a tree and items of the old side, where nothing at their top is unknown
  pub slot_known : (side : state.Side K) (old : Slot K) (place : Place) (new : Forest) → first_in rows (slot_tops side old place) ≡ None
      → replaced_by (slot_view side (λ t. given_to rows t) old place) new ≡ replaced_by (slot_view side f old place) new
  slot_known side old place new none =
      sym (replaced-is (slot_view side (λ t. given_to rows t) old place) new)
      ∙ ap (λ (ns : List ℕ). replaced ns new) (slot_is (λ t. given_to rows t) side old place ∙ tops_known rows (λ t. given_to rows t) f agree (slot_tops side old place) none ∙ sym (slot_is f side old place))
      ∙ replaced-is (slot_view side f old place) new

  pub tree_known : (side : state.Side K) (above : Place) (old : Tree K) (new : Forest) → first_in rows (tree_tops side above old) ≡ None
      → replaced_by (tree_view side (λ t. given_to rows t) above old) new ≡ replaced_by (tree_view side f above old) new
  tree_known side above old new none =
      sym (replaced-is (tree_view side (λ t. given_to rows t) above old) new)
      ∙ ap (λ (ns : List ℕ). replaced ns new) (tree_is (λ t. given_to rows t) side above old ∙ tops_known rows (λ t. given_to rows t) f agree (tree_tops side above old) none ∙ sym (tree_is f side above old))
      ∙ replaced-is (tree_view side f above old) new

  pub items_known : (side : state.Side K) (i : ℕ) (place : Place) (old : Trees K) → first_in rows (items_tops side i place old) ≡ None
      → removals (items_view side (λ t. given_to rows t) i place old) ≡ removals (items_view side f i place old)
  items_known side i place old none =
      sym (removed-is (items_view side (λ t. given_to rows t) i place old))
      ∙ ap (λ (ns : List ℕ). removed ns) (items_is (λ t. given_to rows t) side i place old ∙ tops_known rows (λ t. given_to rows t) f agree (items_tops side i place old) none ∙ sym (items_is f side i place old))
      ∙ removed-is (items_view side f i place old)

module _ {P C Q V H T E L : Type 0} (app : Application (types C Q V H T E L)) (p : Patch P C Q V H T E L) (f : ℕ → Forest)
    (agree : (t : ℕ) → is_given p.given t ≡ true → given_to p.given t ≡ f t) where
  -- what is written by the rows so far is what is written by rows that are the same where they were given
  pub known_writes : (m : Mark (types C Q V H T E L)) → asked_at p m ≡ None → own_writes app (both_now p) m ≡ own_writes app (with_old (both_now p) f) m
  known_writes (stays place k) none = refl
  known_writes (goes place k) none = refl
  known_writes (comes place k) none = refl
  known_writes (fed place c d) none = refl
  known_writes (left place c) none = refl
  known_writes (made place d) none = refl
  known_writes (given above whole new old) none = refl
  known_writes (worded place new old) none = refl
  known_writes (slot_goes place old) none = refl
  known_writes (tree_goes above old) none = refl
  known_writes (slot_way place new old) none =
      slot_known p.given f agree (both_now p).old old place (slot_view (both_now p).new (both_now p).new_child new place) none
  known_writes (tree_way above new old) none =
      tree_known p.given f agree (both_now p).old above old (tree_view (both_now p).new (both_now p).new_child above new) none
  known_writes (come_in place front i new) none = refl
  known_writes (go_out place i old) none = items_known p.given f agree (both_now p).old i place old none
  known_writes (lone place (text_slot t)) none = refl
  known_writes (lone place placeholder_slot) none = refl
  known_writes (lone place (component_slot c)) none = refl
  known_writes (lone place (fragment_slot no_trees)) none = refl
  known_writes (lone place (fragment_slot (more_trees y ys))) none = refl
