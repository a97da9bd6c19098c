-- One more number stands, which no other has: it joins the table with its place.
use Rattle.std.proofs.Common.{ℕ, Bool, true, false, List, [], ◌∷◌, ◌++◌, ◌≡◌, ◌||◌, nat_eq, refl, sym, ap, subst, ◌∙◌, append_assoc, append-nil}
use Rattle.std.specs.Prelude.{Option, Some, None, option_map, if◌then◌else◌}
use Rattle.std.proofs.lemmas.Bool.{eqb-true}
use Rattle.rt_model.specs.Lists.{at, first_of, has, put}
use Rattle.rt_model.specs.Tree.{Types}
use Rattle.rt_model.specs.Tree as model
use Rattle.rt_model.specs.State.{SideName, MainSide, ChildrenSide, FallbackSide, Scope, side_of, with_side}
use Rattle.rt_model.specs.Queries.{Standing}
use Rattle.rt_model.proofs.Maps.{by_test, pick_false, eq_same}
use Rattle.rt_model.proofs.Members.{clash, or_left, or_right, turned_round}
use Rattle.tree_nodes.specs.declared.place.Place.{Place}
use Rattle.run_owed.specs.Lists.{EachOnce, numbers_of}
use Rattle.run_named.specs.Named.{Named, named_in, named_of}
use Rattle.run_named.specs.Standings.{IsPlaced, side_standings, scope_standings, standings}
use Rattle.run_named.proofs.Fewer.{absent_none}
use Rattle.run_named.proofs.Found.{at_joined}

-- a list with one more in it
pub record Joined {A : Type 0} (old new : List A) (a : A) : Type 0 where
  pub front : List A
  pub back : List A
  pub was : old ≡ front ++ back
  pub is : new ≡ front ++ a ∷ back

module _ {A : Type 0} where
  joined_last : (xs : List A) (a : A) → Joined xs (xs ++ a ∷ []) a
  joined_last xs a = record { front = xs; back = []; was = sym (append-nil xs); is = refl }

  joined_before : (ws old new : List A) (a : A) → Joined old new a → Joined (ws ++ old) (ws ++ new) a
  joined_before ws old new a j =
      record {
        front = ws ++ j.front;
        back = j.back;
        was = ap (λ (xs : List A). ws ++ xs) j.was ∙ sym (append_assoc ws j.front j.back);
        is = ap (λ (xs : List A). ws ++ xs) j.is ∙ sym (append_assoc ws j.front (a ∷ j.back));
      }

  joined_after : (old new ws : List A) (a : A) → Joined old new a → Joined (old ++ ws) (new ++ ws) a
  joined_after old new ws a j =
      record {
        front = j.front;
        back = j.back ++ ws;
        was = ap (λ (xs : List A). xs ++ ws) j.was ∙ append_assoc j.front j.back ws;
        is = ap (λ (xs : List A). xs ++ ws) j.is ∙ append_assoc j.front (a ∷ j.back) ws;
      }

module _ {A : Type 0} where
  numbers_joined : (xs ys : List (ℕ × A)) → numbers_of (xs ++ ys) ≡ numbers_of xs ++ numbers_of ys
  numbers_joined [] ys = refl
  numbers_joined (x ∷ xs) ys = ap (λ (ns : List ℕ). x.0 ∷ ns) (numbers_joined xs ys)

  -- where one more stands, which no other number is
  joined_at : (front back : List (ℕ × A)) (n : ℕ) (a : A) (m : ℕ) → has (numbers_of (front ++ back)) n ≡ false
      → at (front ++ (n, a) ∷ back) m ≡ (if nat_eq n m then Some a else at (front ++ back) m)
  joined_at [] back n a m none = refl
  joined_at (x ∷ xs) back n a m none =
      by (nat_eq x.0 m) refl (joined_at xs back n a m (by_test (has (numbers_of (xs ++ back)) n) (λ q. clash (or_right (nat_eq x.0 n) (has (numbers_of (xs ++ back)) n) q) none) (λ q. q)))
    where
      by : (b : Bool) → nat_eq x.0 m ≡ b → at (xs ++ (n, a) ∷ back) m ≡ (if nat_eq n m then Some a else at (xs ++ back) m)
          → (if b then Some x.1 else at (xs ++ (n, a) ∷ back) m) ≡ (if nat_eq n m then Some a else (if b then Some x.1 else at (xs ++ back) m))
      by true q h =
          let other : nat_eq n m ≡ false =
          by_test (nat_eq n m)
          (
          λ r.
          let same : x.0 ≡ m = eqb-true x.0 m q in
          clash (or_left (nat_eq x.0 n) (has (numbers_of (xs ++ back)) n) (ap (λ (k : ℕ). nat_eq k n) same ∙ ap (λ (k : ℕ). nat_eq k n) (sym (eqb-true n m r)) ∙ eq_same n)) none
          )
          (λ r. r) in
          sym (pick_false (Some a) (Some x.1) other)
      by false q h = h

  joined_once : (front back : List (ℕ × A)) (n : ℕ) (a : A) → EachOnce (numbers_of (front ++ back)) → has (numbers_of (front ++ back)) n ≡ false → EachOnce (numbers_of (front ++ (n, a) ∷ back))
  joined_once [] back n a once none = (none, once)
  joined_once (x ∷ xs) back n a once none =
      let apart : nat_eq x.0 n ≡ false = by_test (nat_eq x.0 n) (λ q. clash (or_left (nat_eq x.0 n) (has (numbers_of (xs ++ back)) n) q) none) (λ q. q) in
      let rest : has (numbers_of (xs ++ back)) n ≡ false = by_test (has (numbers_of (xs ++ back)) n) (λ q. clash (or_right (nat_eq x.0 n) (has (numbers_of (xs ++ back)) n) q) none) (λ q. q) in
      (still xs x.0 once.0 apart, joined_once xs back n a once.1 rest)
    where
      still : (ys : List (ℕ × A)) (k : ℕ) → has (numbers_of (ys ++ back)) k ≡ false → nat_eq k n ≡ false → has (numbers_of (ys ++ (n, a) ∷ back)) k ≡ false
      still [] k gone other = (λ i. turned_round k n other i || gone i)
      still (y ∷ ys) k gone other =
          let here : nat_eq y.0 k ≡ false = by_test (nat_eq y.0 k) (λ q. clash (or_left (nat_eq y.0 k) (has (numbers_of (ys ++ back)) k) q) gone) (λ q. q) in
          let there : has (numbers_of (ys ++ back)) k ≡ false = by_test (has (numbers_of (ys ++ back)) k) (λ q. clash (or_right (nat_eq y.0 k) (has (numbers_of (ys ++ back)) k) q) gone) (λ q. q) in
          (λ i. here i || still ys k there other i)

-- one more on a side
side_more : (s : ℕ) (name : SideName) (numbers : List (model.Place × model.Kind × ℕ)) (e : model.Place × model.Kind × ℕ)
    → side_standings s name (numbers ++ e ∷ []) ≡ side_standings s name numbers ++ (e.2, (s, name, e.0)) ∷ []
side_more s name [] e = refl
side_more s name (x ∷ xs) e = ap (λ (ys : List (ℕ × Standing)). (x.2, (s, name, x.0)) ∷ ys) (side_more s name xs e)

side_joined : (s : ℕ) (name : SideName) (numbers : List (model.Place × model.Kind × ℕ)) (e : model.Place × model.Kind × ℕ)
    → Joined (side_standings s name numbers) (side_standings s name (numbers ++ e ∷ [])) (e.2, (s, name, e.0))
side_joined s name numbers e =
    let xs : List (ℕ × Standing) = side_standings s name numbers in
    record { front = xs; back = []; was = sym (append-nil xs); is = side_more s name numbers e }

module _ {K : Types} where
  -- one more number on a side
  abbrev pub drawn_on : SideName → model.Place × model.Kind × ℕ → Scope K → Scope K
  drawn_on name e x = with_side x name (record (side_of x name) { numbers = (side_of x name).numbers ++ e ∷ [] })

  scope_joined : (s : ℕ) (x : Scope K) (name : SideName) (e : model.Place × model.Kind × ℕ)
      → Joined (scope_standings s x) (scope_standings s (drawn_on name e x)) (e.2, (s, name, e.0))
  scope_joined s x MainSide e =
      joined_after (side_standings s MainSide (x.main_side).numbers) (side_standings s MainSide ((x.main_side).numbers ++ e ∷ []))
      (side_standings s ChildrenSide (x.children_side).numbers ++ side_standings s FallbackSide (x.fallback_side).numbers) (e.2, (s, MainSide, e.0))
      (side_joined s MainSide (x.main_side).numbers e)
  scope_joined s x ChildrenSide e =
      joined_before (side_standings s MainSide (x.main_side).numbers)
      (side_standings s ChildrenSide (x.children_side).numbers ++ side_standings s FallbackSide (x.fallback_side).numbers)
      (side_standings s ChildrenSide ((x.children_side).numbers ++ e ∷ []) ++ side_standings s FallbackSide (x.fallback_side).numbers) (e.2, (s, ChildrenSide, e.0))
      (
      joined_after (side_standings s ChildrenSide (x.children_side).numbers) (side_standings s ChildrenSide ((x.children_side).numbers ++ e ∷ []))
      (side_standings s FallbackSide (x.fallback_side).numbers) (e.2, (s, ChildrenSide, e.0)) (side_joined s ChildrenSide (x.children_side).numbers e)
      )
  scope_joined s x FallbackSide e =
      joined_before (side_standings s MainSide (x.main_side).numbers)
      (side_standings s ChildrenSide (x.children_side).numbers ++ side_standings s FallbackSide (x.fallback_side).numbers)
      (side_standings s ChildrenSide (x.children_side).numbers ++ side_standings s FallbackSide ((x.fallback_side).numbers ++ e ∷ [])) (e.2, (s, FallbackSide, e.0))
      (
      joined_before (side_standings s ChildrenSide (x.children_side).numbers) (side_standings s FallbackSide (x.fallback_side).numbers)
      (side_standings s FallbackSide ((x.fallback_side).numbers ++ e ∷ [])) (e.2, (s, FallbackSide, e.0)) (side_joined s FallbackSide (x.fallback_side).numbers e)
      )

  -- one more stands, where its scope is live
  pub standings_joined : (scopes : List (ℕ × Scope K)) (s : ℕ) (x : Scope K) (name : SideName) (e : model.Place × model.Kind × ℕ) → at scopes s ≡ Some x
      → Joined (standings scopes) (standings (put scopes s (drawn_on name e x))) (e.2, (s, name, e.0))
  standings_joined [] s x name e live = absurd (cc live)
  standings_joined (r ∷ rs) s x name e live = by (nat_eq r.0 s) refl live (λ h. standings_joined rs s x name e h)
    where
      by : (b : Bool) → nat_eq r.0 s ≡ b → (if b then Some r.1 else at rs s) ≡ Some x
          → (at rs s ≡ Some x → Joined (standings rs) (standings (put rs s (drawn_on name e x))) (e.2, (s, name, e.0)))
          → Joined (scope_standings r.0 r.1 ++ standings rs) (standings (if b then (s, drawn_on name e x) ∷ rs else r ∷ put rs s (drawn_on name e x))) (e.2, (s, name, e.0))
      by true q own more =
          let same : r.0 ≡ s = eqb-true r.0 s q in
          let is : r.1 ≡ x = some_own r.1 x own in
          joined_after (scope_standings r.0 r.1) (scope_standings s (drawn_on name e x)) (standings rs) (e.2, (s, name, e.0))
          (subst (λ (k : ℕ). Joined (scope_standings k r.1) (scope_standings s (drawn_on name e x)) (e.2, (s, name, e.0))) (sym same)
          (subst (λ (y : Scope K). Joined (scope_standings s y) (scope_standings s (drawn_on name e x)) (e.2, (s, name, e.0))) (sym is) (scope_joined s x name e)))
        where
          some_own : (a b : Scope K) → Some a ≡ Some b → a ≡ b
          some_own a b h = ap (λ (o : Option (Scope K)). elim o as (λ _. Scope K) [ None ↦ a | Some y ↦ y ]) h
      by false q rest more =
          joined_before (scope_standings r.0 r.1) (standings rs) (standings (put rs s (drawn_on name e x))) (e.2, (s, name, e.0)) (more rest)

  -- the table with it
  pub placed_more : (old new : List (ℕ × Scope K)) (places : List (ℕ × Place)) (n : ℕ) (at_place : Standing) (p : Place) → IsPlaced old places
      → Joined (standings old) (standings new) (n, at_place) → has (numbers_of (standings old)) n ≡ false → named_in p ≡ named_of at_place
      → IsPlaced new (places ++ (n, p) ∷ [])
  placed_more old new places n at_place p h j none names =
      let free : has (numbers_of (j.front ++ j.back)) n ≡ false = ap (λ (ys : List (ℕ × Standing)). has (numbers_of ys) n) (sym j.was) ∙ none in
      record {
        apart = subst (λ (ys : List (ℕ × Standing)). EachOnce (numbers_of ys)) (sym j.is) (joined_once j.front j.back n at_place (subst (λ (ys : List (ℕ × Standing)). EachOnce (numbers_of ys)) j.was h.apart) free);
        each = λ m.
            ap (λ (o : Option Place). option_map named_in o) (at_joined places ((n, p) ∷ []) m)
            ∙ by m (nat_eq n m) refl
            ∙ ap (λ (o : Option Standing). option_map named_of o)
            (sym (ap (λ (ys : List (ℕ × Standing)). at ys m) j.is ∙ joined_at j.front j.back n at_place m free ∙ ap (λ (ys : List (ℕ × Standing)). if nat_eq n m then Some at_place else at ys m) (sym j.was)));
      }
    where
      bare : (o : Option Standing) → o ≡ None → (q : Option Place) → option_map named_in q ≡ option_map named_of o → q ≡ None
      bare o e None h = refl
      bare o e (Some q) h = absurd (cc (h ∙ ap (λ (r : Option Standing). option_map named_of r) e))

      last : (o : Option Place) → first_of o None ≡ o
      last None = refl
      last (Some q) = refl

      by : (m : ℕ) (b : Bool) → nat_eq n m ≡ b
          → option_map named_in (first_of (at places m) (if b then Some p else None)) ≡ option_map named_of (if b then Some at_place else at (standings old) m)
      by m true q =
          let same : n ≡ m = eqb-true n m q in
          let gone : at (standings old) m ≡ None = absent_none (standings old) m (ap (λ (k : ℕ). has (numbers_of (standings old)) k) (sym same) ∙ none) in
          ap (λ (o : Option Place). option_map named_in (first_of o (Some p))) (bare (at (standings old) m) gone (at places m) (h.each m)) ∙ ap (λ (x : Named). Some x) names
      by m false q = ap (λ (o : Option Place). option_map named_in o) (last (at places m)) ∙ h.each m
