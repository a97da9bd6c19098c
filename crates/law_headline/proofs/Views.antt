-- Where each scope shows the same in two states, so does the document.
use Rattle.std.proofs.Common.{ℕ, zero, suc, ◌+◌, ◌≡◌, refl, sym, ap, ◌∙◌, arith, length}
use Rattle.std.specs.Prelude.{Option, Some, None}
use Rattle.rt_model.specs.Lists.{at}
use Rattle.rt_model.specs.Tree.{Types}
use Rattle.rt_model.specs.State.{SideName, MainSide, ChildrenSide, FallbackSide, Side, Scope, State, side_of}
use Rattle.rt_model.specs.Document.{Forest, Empty}
use Rattle.rt_model.specs.View.{side_view, scope_view, view_within, nodes_of, view}
use Rattle.law_moves.specs.Trees.{IsUnfolded}
use Rattle.law_moves.specs.Frames.{Shown, shown}
use Rattle.law_moves.proofs.Commanded.{Level}

module _ {K : Types} where
  abbrev side_shown : Shown K → SideName → Side K
  side_shown f MainSide = f.5
  side_shown f ChildrenSide = f.6
  side_shown f FallbackSide = f.7

  abbrev shows_as : (ℕ → Forest) → Shown K → Option SideName → Forest
  shows_as inner f None = Empty
  shows_as inner f (Some a) = side_view inner (side_shown f a)

  -- a scope's nodes by what shows of it
  abbrev nodes_shown : (ℕ → Forest) → Option (Shown K) → Forest
  nodes_shown inner None = Empty
  nodes_shown inner (Some f) = shows_as inner f f.4

  shown_side : (inner : ℕ → Forest) (x : Scope K) (f : Shown K) → Some f ≡ shown (Some x) → (o : Option SideName)
      → elim o as (λ z. Forest) [ None ↦ Empty | Some a ↦ side_view inner (side_of x a) ] ≡ shows_as inner (x.component, x.parent, x.height, x.below, x.shows, x.main_side, x.children_side, x.fallback_side) o
  shown_side inner x f h None = refl
  shown_side inner x f h (Some MainSide) = refl
  shown_side inner x f h (Some ChildrenSide) = refl
  shown_side inner x f h (Some FallbackSide) = refl

  by_shown : (inner : ℕ → Forest) (o : Option (Scope K)) → scope_view inner o ≡ nodes_shown inner (shown o)
  by_shown inner None = refl
  by_shown inner (Some x) = shown_side inner x (x.component, x.parent, x.height, x.below, x.shows, x.main_side, x.children_side, x.fallback_side) refl x.shows

  -- the nodes of child scopes may be given in another way
  inner_same : (f g : ℕ → Forest) → ((t : ℕ) → f t ≡ g t) → (o : Option (Scope K)) → scope_view f o ≡ scope_view g o
  inner_same f g h o = let same : f ≡ g = λ i. (λ t. h t i) in ap (λ (inner : ℕ → Forest). scope_view inner o) same

  -- so deep as may be
  within_same : (w v : State K) → Level w v → (n s : ℕ) → view_within w n s ≡ view_within v n s
  within_same w v h zero s = refl
  within_same w v h (suc n) s =
      inner_same (λ t. view_within w n t) (λ t. view_within v n t) (λ t. within_same w v h n t) (at w.scopes s)
      ∙ by_shown (λ t. view_within v n t) (at w.scopes s)
      ∙ ap (λ (o : Option (Shown K)). nodes_shown (λ t. view_within v n t) o) (sym (h.shows s))
      ∙ sym (by_shown (λ t. view_within v n t) (at v.scopes s))

  -- deeper than enough shows nothing more
  deeper_same : (w : State K) → IsUnfolded w → (k s : ℕ) → view_within w (k + length w.scopes) s ≡ nodes_of w s
  deeper_same w unfolded zero s = let same : 0 + length w.scopes ≡ length w.scopes = omega arith in ap (λ (n : ℕ). view_within w n s) same
  deeper_same w unfolded (suc k) s =
      let same : suc k + length w.scopes ≡ suc (k + length w.scopes) = omega arith in
      ap (λ (n : ℕ). view_within w n s) same
      ∙ inner_same (λ t. view_within w (k + length w.scopes) t) (λ t. nodes_of w t) (λ t. deeper_same w unfolded k t) (at w.scopes s)
      ∙ sym (unfolded s)

  pub level_views : (w v : State K) → IsUnfolded w → IsUnfolded v → Level w v → view v ≡ view w
  level_views w v first second h =
      let n : ℕ = length w.scopes in
      let m : ℕ = length v.scopes in
      let turned : n + m ≡ m + n = omega arith in
      sym (deeper_same v second n 0)
      ∙ sym (within_same w v h (n + m) 0)
      ∙ ap (λ (k : ℕ). view_within w k 0) turned
      ∙ deeper_same w first m 0
