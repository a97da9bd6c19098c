-- A number of the document stands in one scope, and a child on a side knows its parent.
use Rattle.std.proofs.Common.{◌≡◌, ◌≢◌, ℕ, true, false, List, [], ◌∷◌, ◌++◌, ◌&&◌, map, nat_eq, sym, ap, subst, ◌∙◌}
use Rattle.std.proofs.Math.Logic.{∥∥₁_elim}
use Rattle.std.proofs.lemmas.Bool.{eqb-true}
use Rattle.std.specs.Coded.{Coded-set, coded_option, coded_ℕ}
use Rattle.std.specs.Prelude.{Option, Some, None, is_some, option_map}
use Rattle.rt_model.specs.Heard.{number_at}
use Rattle.rt_model.specs.Lists.{at, has}
use Rattle.rt_model.specs.OneLog.{types}
use Rattle.rt_model.specs.Queries.{Standing, node_place}
use Rattle.rt_model.specs.Run.{child_at}
use Rattle.rt_model.specs.State as model
use Rattle.rt_model.specs.State.{side_of}
use Rattle.rt_model.specs.Tree.{Types, Place, Kind, same_kind, same_place}
use Rattle.rt_model.proofs.Maps.{at_here, at_there, by_test, eq_same, pick_false, pick_true}
use Rattle.rt_model.proofs.Members.{clash, or_left, or_right}
use Rattle.run_owed.specs.Lists.{EachOnce, numbers_of}
use Rattle.run_owed.proofs.Tables.{numbers_has}
use Rattle.run_records.specs.Kept.{each, scope_of}
use Rattle.run_records.specs.Records.{number_of}
use Rattle.run_records.specs.declared.rest.Scope.{Scope}
use Rattle.run_named.specs.Standings.{side_standings, standings}
use Rattle.run_named.proofs.Around.{around}
use Rattle.run_named.proofs.Found.{node_found}
use Rattle.run_places.specs.declared.side.SideName.{SideName}
use Rattle.run_places.specs.Places.{side_name_of}
use Rattle.run_state.specs.Drawn.{standing_scope}
use Rattle.run_state.specs.Mirror.{Unkept, state_of}
use Rattle.run_state.specs.Mounts.{way_of}
use Rattle.run_state.specs.declared.state.State.{State}
use Rattle.run_state.proofs.Each.{at-each}
use Rattle.run_state.proofs.Seats.{at_front, seat_there}
use Rattle.run_state.proofs.Waiting.{way_at}

module _ {A : Type 0} where
  -- what stands in the second of two parts, where no number stands twice
  at_back : (xs ys : List (ℕ × A)) (n : ℕ) (a : A) → EachOnce (numbers_of (xs ++ ys)) → at ys n ≡ Some a → at (xs ++ ys) n ≡ Some a
  at_back [] ys n a once here = here
  at_back (x ∷ xs) ys n a once here =
      let rest : at (xs ++ ys) n ≡ Some a = at_back xs ys n a once.1 here in
      by_test (nat_eq x.0 n)
      (
      λ q.
      clash (numbers_has (xs ++ ys) n ∙ ap (λ (o : Option A). is_some o) rest) (ap (λ k. has (numbers_of (xs ++ ys)) k) (sym (eqb-true x.0 n q)) ∙ once.0)
      )
      (λ q. at_there x.0 x.1 (xs ++ ys) n q ∙ rest)

-- where a number of a side stands
side_at : (s : ℕ) (name : model.SideName) (es : List (Place × Kind × ℕ)) (q : Place) (k : Kind) (n : ℕ) → n ≢ 0 → number_at es q k ≡ n
    → (p : Place) × (at (side_standings s name es) n ≡ Some (s, name, p))
side_at s name [] q k n some h = absurd (some (sym h))
side_at s name (e ∷ es) q k n some h =
    by_test (nat_eq e.2 n)
    (λ here. (e.0, at_here e.2 (s, name, e.0) (side_standings s name es) n here))
    (
    λ other.
    by_test (same_kind e.1 k && same_place e.0 q)
    (λ t. clash (ap (λ m. nat_eq m n) (sym (pick_true e.2 (number_at es q k) t) ∙ h) ∙ eq_same n) other)
    (
    λ t.
    let rest = side_at s name es q k n some (sym (pick_false e.2 (number_at es q k) t) ∙ h) in
    (rest.0, at_there e.2 (s, name, e.0) (side_standings s name es) n other ∙ rest.1)
    )
    )

-- a child at a place is one of the side
child_among : (es : List (Place × ℕ)) (q : Place) (t : ℕ) → child_at es q ≡ Some t → has (map (λ (e : Place × ℕ). e.1) es) t ≡ true
child_among [] q t h = absurd (cc h)
child_among (e ∷ es) q t h =
    by_test (same_place e.0 q)
    (
    λ here.
    let own : Some e.1 ≡ Some t = sym (pick_true (Some e.1) (child_at es q) here) ∙ h in
    let same : e.1 ≡ t = ap (λ (o : Option ℕ). elim o as (λ _. ℕ) [ None ↦ e.1 | Some m ↦ m ]) own in
    or_left (nat_eq e.1 t) (has (map (λ (e : Place × ℕ). e.1) es) t) (ap (λ m. nat_eq m t) same ∙ eq_same t)
    )
    (λ other. or_right (nat_eq e.1 t) (has (map (λ (e : Place × ℕ). e.1) es) t) (child_among es q t (sym (pick_false (Some e.1) (child_at es q) other) ∙ h)))

-- equations of scopes that may be none have one proof
one_scope : (a b : Option ℕ) (p q : a ≡ b) → p ≡ q
one_scope a b p q = Coded-set (coded_option coded_ℕ) a b p q

module _ {K : Types} where
  standing_at : (scopes : List (ℕ × model.Scope K)) (s : ℕ) (x : model.Scope K) (name : model.SideName) (q : Place) (k : Kind) (n : ℕ) → EachOnce (numbers_of (standings scopes)) → at scopes s ≡ Some x
      → n ≢ 0 → number_at (side_of x name).numbers q k ≡ n → standing_scope (at (standings scopes) n) ≡ Some s
  standing_at scopes s x name q k n once live some h =
      let parts = around scopes s x name live in
      let own : List (ℕ × Standing) = side_standings s name (side_of x name).numbers in
      let there = side_at s name (side_of x name).numbers q k n some h in
      ap (λ (ys : List (ℕ × Standing)). standing_scope (at ys n)) parts.was
      ∙ ap (λ (o : Option Standing). standing_scope o)
      (
      at_back parts.front (own ++ parts.back) n (s, name, there.0) (subst (λ (ys : List (ℕ × Standing)). EachOnce (numbers_of ys)) parts.was once) (at_front own parts.back n (s, name, there.0) there.1)
      )

module _ {P C Q V H T E L : Type 0} where
  -- a number on a side of a scope stands in that one
  pub number_stands : (d : State P C Q V H T E L) (s n : ℕ) (x : Scope P C Q V H T E L) (name : SideName) (q : Place) (k : Kind) → at (d.rows).table s ≡ Some x
      → n ≢ 0 → number_at (side_of (scope_of x) (side_name_of name)).numbers q k ≡ n → (g : Unkept (types C Q V H T E L)) → standing_scope (node_place (state_of g d) n) ≡ Some s
  number_stands d s n x name q k live some h g =
      sym (ap (λ (o : Option Standing). standing_scope o) (node_found (state_of g d) n))
      ∙ ∥∥₁_elim d.placed (one_scope (standing_scope (at (standings (each scope_of (d.rows).table)) n)) (Some s))
      (
      λ kept.
      standing_at (each scope_of (d.rows).table) s (scope_of x) (side_name_of name) q k n kept.apart
      (at-each scope_of (d.rows).table s ∙ ap (λ (o : Option (Scope P C Q V H T E L)). option_map scope_of o) live) some h
      )

  -- a live child on a side knows its parent
  pub child_knows : (d : State P C Q V H T E L) (s t : ℕ) (x y : Scope P C Q V H T E L) (name : SideName) (q : Place) → at (d.rows).table s ≡ Some x → at (d.rows).table t ≡ Some y
      → child_at (side_of (scope_of x) (side_name_of name)).children q ≡ Some t → number_of (y.row).parent ≡ Some s
  child_knows d s t x y name q live there h =
      ∥∥₁_elim d.waiting (one_scope (number_of (y.row).parent) (Some s))
      (
      λ kept.
      (kept.seated s t (way_of x) (way_at (d.rows).table s x live)
      (seat_there (scope_of x) (side_name_of name) t (child_among (side_of (scope_of x) (side_name_of name)).children q t h))).1
      (way_of y) (way_at (d.rows).table t y there)
      )
