-- The number under a node's index is the one at its place, since no two spots of a tree have one place.
use Rattle.std.proofs.Common.{ℕ, ◌+◌, Bool, true, ◌&&◌, List, [], ◌∷◌, ◌++◌, ◌≡◌, nat_eq, get_or, refl, sym, ap, ◌∙◌}
use Rattle.std.specs.Prelude.{Option, None, Some, if◌then◌else◌, slice_get}
use Rattle.std.proofs.lemmas.Bool.{eqb-true}
use Rattle.rt_lemmas.proofs.Numbers.{apart as other_index}
pub use Rattle.rt_lemmas.proofs.Options.{by_option}
use Rattle.rt_model.specs.Lists.{at, or_else}
use Rattle.rt_model.specs.Tree.{Types, Place, Kind, Spot, same_place, same_kind}
use Rattle.rt_model.specs.World.{Application}
use Rattle.rt_model.specs.Heard.{number_at}
use Rattle.rt_model.specs.Run.{child_at, is_fed, kept_children, kept_numbers}
use Rattle.rt_model.proofs.Among.{kind_same, place_same}
use Rattle.rt_model.proofs.Conjunctions.{and-left, and-right}
use Rattle.rt_model.proofs.Maps.{by_test, pick_true, pick_false}
use Rattle.rt_model.proofs.SamePlaces.{same_place-true, same_kind-true}
use Rattle.run_places.specs.Drawn.{NodesFollow, SeatsFollow, moved, nodes_in, seats_in}
use Rattle.run_places.specs.Places.{placed, seated}

-- what one entry gives, by what stands under its index
pub placed_one : (nodes : List (Place × Kind)) (i n : ℕ) (rest : List (ℕ × ℕ)) (q : Place × Kind) → slice_get nodes i ≡ Some q → placed nodes ((i, n) ∷ rest) ≡ (q.0, q.1, n) ∷ placed nodes rest
placed_one nodes i n rest q h = ap (λ (o : Option (Place × Kind)). elim o as (λ _. List (Place × Kind × ℕ)) [ None ↦ placed nodes rest | Some r ↦ (r.0, r.1, n) ∷ placed nodes rest ]) h

pub placed_none : (nodes : List (Place × Kind)) (i n : ℕ) (rest : List (ℕ × ℕ)) → slice_get nodes i ≡ None → placed nodes ((i, n) ∷ rest) ≡ placed nodes rest
placed_none nodes i n rest h = ap (λ (o : Option (Place × Kind)). elim o as (λ _. List (Place × Kind × ℕ)) [ None ↦ placed nodes rest | Some r ↦ (r.0, r.1, n) ∷ placed nodes rest ]) h

pub seated_one : (seats : List Place) (i n : ℕ) (rest : List (ℕ × ℕ)) (p : Place) → slice_get seats i ≡ Some p → seated seats ((i, n) ∷ rest) ≡ (p, n) ∷ seated seats rest
seated_one seats i n rest p h = ap (λ (o : Option Place). elim o as (λ _. List (Place × ℕ)) [ None ↦ seated seats rest | Some r ↦ (r, n) ∷ seated seats rest ]) h

pub seated_none : (seats : List Place) (i n : ℕ) (rest : List (ℕ × ℕ)) → slice_get seats i ≡ None → seated seats ((i, n) ∷ rest) ≡ seated seats rest
seated_none seats i n rest h = ap (λ (o : Option Place). elim o as (λ _. List (Place × ℕ)) [ None ↦ seated seats rest | Some r ↦ (r, n) ∷ seated seats rest ]) h

module _ (nodes : List (Place × Kind)) (p : Place) (k : Kind) where
  here_number : (q : Place × Kind) (n rest : ℕ) → (same_kind q.1 k && same_place q.0 p) ≡ true → q ≡ (p, k)
  here_number q n rest h =
      let place : q.0 ≡ p = same_place-true q.0 p (and-right (same_kind q.1 k) (same_place q.0 p) h) in
      let kind : q.1 ≡ k = same_kind-true q.1 k (and-left (same_kind q.1 k) (same_place q.0 p) h) in
      λ t. (place t, kind t)

  own_place : (same_kind k k && same_place p p) ≡ true
  own_place = λ t. kind_same k t && place_same p t

  -- the node at this index alone is the one: its number is the first under its index
  pub number_placed : (i : ℕ) → slice_get nodes i ≡ Some (p, k) → ((j : ℕ) → slice_get nodes j ≡ Some (p, k) → j ≡ i) → (pairs : List (ℕ × ℕ)) → number_at (placed nodes pairs) p k ≡ or_else 0 (at pairs i)
  number_placed i here only [] = refl
  number_placed i here only (e ∷ es) =
      let after : ℕ = number_at (placed nodes es) p k in
      by_test (nat_eq e.0 i)
      (
      λ r.
      ap (λ es. number_at es p k) (placed_one nodes e.0 e.1 es (p, k) (ap (λ n. slice_get nodes n) (eqb-true e.0 i r) ∙ here))
      ∙ pick_true e.1 after own_place
      ∙ sym (ap (λ (b : Bool). or_else 0 (if b then Some e.1 else at es i)) r)
      )
      (
      λ r.
      by_option (slice_get nodes e.0)
      (λ none. ap (λ es. number_at es p k) (placed_none nodes e.0 e.1 es none))
      (
      λ q is.
      ap (λ es. number_at es p k) (placed_one nodes e.0 e.1 es q is)
      ∙ by_test (same_kind q.1 k && same_place q.0 p)
      (λ own. absurd (other_index e.0 i r (only e.0 (is ∙ ap Some (here_number q e.1 after own)))))
      (λ other. pick_false e.1 after other)
      )
      ∙ number_placed i here only es
      ∙ sym (ap (λ (b : Bool). or_else 0 (if b then Some e.1 else at es i)) r)
      )

  -- no node is the one
  pub number_nowhere : ((j : ℕ) → slice_get nodes j ≡ Some (p, k) → ⊥) → (pairs : List (ℕ × ℕ)) → number_at (placed nodes pairs) p k ≡ 0
  number_nowhere never [] = refl
  number_nowhere never (e ∷ es) =
      let after : ℕ = number_at (placed nodes es) p k in
      by_option (slice_get nodes e.0)
      (λ none. ap (λ es. number_at es p k) (placed_none nodes e.0 e.1 es none))
      (
      λ q is.
      ap (λ es. number_at es p k) (placed_one nodes e.0 e.1 es q is)
      ∙ by_test (same_kind q.1 k && same_place q.0 p)
      (λ own. absurd (never e.0 (is ∙ ap Some (here_number q e.1 after own))))
      (λ other. pick_false e.1 after other)
      )
      ∙ number_nowhere never es

module _ (seats : List Place) (p : Place) where
  -- the component at this index alone is the one: its child scope is the first under its index
  pub child_seated : (i : ℕ) → slice_get seats i ≡ Some p → ((j : ℕ) → slice_get seats j ≡ Some p → j ≡ i) → (pairs : List (ℕ × ℕ)) → child_at (seated seats pairs) p ≡ at pairs i
  child_seated i here only [] = refl
  child_seated i here only (e ∷ es) =
      let after : Option ℕ = child_at (seated seats es) p in
      by_test (nat_eq e.0 i)
      (
      λ r.
      ap (λ es. child_at es p) (seated_one seats e.0 e.1 es p (ap (λ n. slice_get seats n) (eqb-true e.0 i r) ∙ here))
      ∙ pick_true (Some e.1) after (place_same p)
      ∙ sym (ap (λ (b : Bool). if b then Some e.1 else at es i) r)
      )
      (
      λ r.
      by_option (slice_get seats e.0)
      (λ none. ap (λ es. child_at es p) (seated_none seats e.0 e.1 es none))
      (
      λ q is.
      ap (λ es. child_at es p) (seated_one seats e.0 e.1 es q is)
      ∙ by_test (same_place q p)
      (λ own. absurd (other_index e.0 i r (only e.0 (is ∙ ap Some (same_place-true q p own)))))
      (λ other. pick_false (Some e.1) after other)
      )
      ∙ child_seated i here only es
      ∙ sym (ap (λ (b : Bool). if b then Some e.1 else at es i) r)
      )

  -- no component is the one
  pub child_nowhere : ((j : ℕ) → slice_get seats j ≡ Some p → ⊥) → (pairs : List (ℕ × ℕ)) → child_at (seated seats pairs) p ≡ None
  child_nowhere never [] = refl
  child_nowhere never (e ∷ es) =
      let after : Option ℕ = child_at (seated seats es) p in
      by_option (slice_get seats e.0)
      (λ none. ap (λ es. child_at es p) (seated_none seats e.0 e.1 es none))
      (
      λ q is.
      ap (λ es. child_at es p) (seated_one seats e.0 e.1 es q is)
      ∙ by_test (same_place q p)
      (λ own. absurd (never e.0 (is ∙ ap Some (same_place-true q p own))))
      (λ other. pick_false (Some e.1) after other)
      )
      ∙ child_nowhere never es

-- one more number is one more at its place
pub placed_more : (nodes : List (Place × Kind)) (pairs : List (ℕ × ℕ)) (i n : ℕ) (q : Place × Kind) → slice_get nodes i ≡ Some q → placed nodes (pairs ++ (i, n) ∷ []) ≡ placed nodes pairs ++ (q.0, q.1, n) ∷ []
placed_more nodes [] i n q h = placed_one nodes i n [] q h
placed_more nodes (e ∷ es) i n q h =
    by_option (slice_get nodes e.0)
    (λ none. placed_none nodes e.0 e.1 (es ++ (i, n) ∷ []) none ∙ placed_more nodes es i n q h ∙ ap (λ xs. xs ++ (q.0, q.1, n) ∷ []) (sym (placed_none nodes e.0 e.1 es none)))
    (
    λ r is.
    placed_one nodes e.0 e.1 (es ++ (i, n) ∷ []) r is ∙ ap (λ xs. (r.0, r.1, e.1) ∷ xs) (placed_more nodes es i n q h)
    ∙ ap (λ xs. xs ++ (q.0, q.1, n) ∷ []) (sym (placed_one nodes e.0 e.1 es r is))
    )

pub seated_more : (seats : List Place) (pairs : List (ℕ × ℕ)) (i n : ℕ) (p : Place) → slice_get seats i ≡ Some p → seated seats (pairs ++ (i, n) ∷ []) ≡ seated seats pairs ++ (p, n) ∷ []
seated_more seats [] i n p h = seated_one seats i n [] p h
seated_more seats (e ∷ es) i n p h =
    by_option (slice_get seats e.0)
    (λ none. seated_none seats e.0 e.1 (es ++ (i, n) ∷ []) none ∙ seated_more seats es i n p h ∙ ap (λ xs. xs ++ (p, n) ∷ []) (sym (seated_none seats e.0 e.1 es none)))
    (
    λ r is.
    seated_one seats e.0 e.1 (es ++ (i, n) ∷ []) r is ∙ ap (λ xs. (r, e.1) ∷ xs) (seated_more seats es i n p h)
    ∙ ap (λ xs. xs ++ (p, n) ∷ []) (sym (seated_one seats e.0 e.1 es r is))
    )

moved_one : (to : List (Option ℕ)) (i n j : ℕ) (rest : List (ℕ × ℕ)) → get_or to i None ≡ Some j → moved to ((i, n) ∷ rest) ≡ (j, n) ∷ moved to rest
moved_one to i n j rest h = ap (λ (o : Option ℕ). elim o as (λ _. List (ℕ × ℕ)) [ None ↦ moved to rest | Some s ↦ (s, n) ∷ moved to rest ]) h

moved_none : (to : List (Option ℕ)) (i n : ℕ) (rest : List (ℕ × ℕ)) → get_or to i None ≡ None → moved to ((i, n) ∷ rest) ≡ moved to rest
moved_none to i n rest h = ap (λ (o : Option ℕ). elim o as (λ _. List (ℕ × ℕ)) [ None ↦ moved to rest | Some s ↦ (s, n) ∷ moved to rest ]) h

module _ {K : Types} (olds : List (Place × Kind)) (new : List (Spot K)) (to : List (Option ℕ)) (follow : NodesFollow olds new to) where
  -- the numbers that a patch keeps are those of the definitions
  pub placed_moved : (pairs : List (ℕ × ℕ)) → placed (nodes_in new) (moved to pairs) ≡ kept_numbers new (placed olds pairs)
  placed_moved [] = refl
  placed_moved (e ∷ es) =
      by_option (slice_get olds e.0)
      (
      λ none.
      ap (λ xs. placed (nodes_in new) xs) (moved_none to e.0 e.1 es (follow.ends e.0 none)) ∙ placed_moved es
      ∙ ap (λ xs. kept_numbers new xs) (sym (placed_none olds e.0 e.1 es none))
      )
      (
      λ q is.
      let kept : List (Place × Kind × ℕ) = kept_numbers new (placed olds es) in
      by_option (get_or to e.0 None)
      (
      λ none.
      ap (λ xs. placed (nodes_in new) xs) (moved_none to e.0 e.1 es none) ∙ placed_moved es
      ∙ sym (ap (λ xs. kept_numbers new xs) (placed_one olds e.0 e.1 es q is) ∙ pick_false ((q.0, q.1, e.1) ∷ kept) kept (follow.went e.0 q is none))
      )
      (
      λ j some.
      let there = follow.goes e.0 j q is some in
      ap (λ xs. placed (nodes_in new) xs) (moved_one to e.0 e.1 j es some)
      ∙ placed_one (nodes_in new) j e.1 (moved to es) q there.0
      ∙ ap (λ xs. (q.0, q.1, e.1) ∷ xs) (placed_moved es)
      ∙ sym (ap (λ xs. kept_numbers new xs) (placed_one olds e.0 e.1 es q is) ∙ pick_true ((q.0, q.1, e.1) ∷ kept) kept there.1)
      )
      )

module _ {K : Types} (app : Application K) (olds : List Place) (old new : List (Spot K)) (to : List (Option ℕ)) (follow : SeatsFollow (λ c d. is_fed app c d) olds old new to) where
  -- the child scopes that a patch keeps are those of the definitions
  pub seated_moved : (pairs : List (ℕ × ℕ)) → seated (seats_in new) (moved to pairs) ≡ kept_children app old new (seated olds pairs)
  seated_moved [] = refl
  seated_moved (e ∷ es) =
      by_option (slice_get olds e.0)
      (
      λ none.
      ap (λ xs. seated (seats_in new) xs) (moved_none to e.0 e.1 es (follow.ends e.0 none)) ∙ seated_moved es
      ∙ ap (λ xs. kept_children app old new xs) (sym (seated_none olds e.0 e.1 es none))
      )
      (
      λ p is.
      let kept : List (Place × ℕ) = kept_children app old new (seated olds es) in
      by_option (get_or to e.0 None)
      (
      λ none.
      ap (λ xs. seated (seats_in new) xs) (moved_none to e.0 e.1 es none) ∙ seated_moved es
      ∙ sym (ap (λ xs. kept_children app old new xs) (seated_one olds e.0 e.1 es p is) ∙ pick_false ((p, e.1) ∷ kept) kept (follow.went e.0 p is none))
      )
      (
      λ j some.
      let there = follow.goes e.0 j p is some in
      ap (λ xs. seated (seats_in new) xs) (moved_one to e.0 e.1 j es some)
      ∙ seated_one (seats_in new) j e.1 (moved to es) p there.0
      ∙ ap (λ xs. (p, e.1) ∷ xs) (seated_moved es)
      ∙ sym (ap (λ xs. kept_children app old new xs) (seated_one olds e.0 e.1 es p is) ∙ pick_true ((p, e.1) ∷ kept) kept there.1)
      )
      )
