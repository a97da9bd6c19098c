-- Where fewer numbers stand: those that went leave the table, and the others stay as they were.
use Rattle.std.proofs.Common.{ℕ, Bool, true, false, List, [], ◌∷◌, ◌≡◌, ◌||◌, ◌&&◌, nat_eq, refl, sym, ap, subst, ◌∙◌}
use Rattle.std.specs.Prelude.{not, Option, Some, None, option_map, is_some, if◌then◌else◌}
use Rattle.std.proofs.lemmas.Bool.{eqb-true}
use Rattle.rt_model.specs.Lists.{at, has}
use Rattle.rt_model.specs.Tree.{Types}
use Rattle.rt_model.specs.State.{Scope}
use Rattle.rt_model.specs.Queries.{Standing}
use Rattle.rt_model.proofs.Maps.{by_test, pick_true, pick_false}
use Rattle.rt_model.proofs.Members.{by_either, clash, or_left, or_right}
use Rattle.tree_nodes.specs.declared.place.Place.{Place}
use Rattle.run_owed.specs.Lists.{EachOnce, numbers_of}
use Rattle.run_owed.proofs.Tables.{numbers_has}
use Rattle.run_named.specs.Named.{named_in, named_of}
use Rattle.run_named.specs.Standings.{IsPlaced, picked, standings}

module _ {A : Type 0} where
  -- what is picked was there
  pub picked_has : (bs : List Bool) (ys : List (ℕ × A)) (n : ℕ) → has (numbers_of (picked bs ys)) n ≡ true → has (numbers_of ys) n ≡ true
  picked_has [] ys n h = clash h refl
  picked_has (b ∷ bs) [] n h = h
  picked_has (true ∷ bs) (y ∷ ys) n h =
      by_either (nat_eq y.0 n) (has (numbers_of (picked bs ys)) n) h
      (λ q. or_left (nat_eq y.0 n) (has (numbers_of ys) n) q)
      (λ q. or_right (nat_eq y.0 n) (has (numbers_of ys) n) (picked_has bs ys n q))
  picked_has (false ∷ bs) (y ∷ ys) n h = or_right (nat_eq y.0 n) (has (numbers_of ys) n) (picked_has bs ys n h)

  -- each number once, of each number once
  pub picked_once : (bs : List Bool) (ys : List (ℕ × A)) → EachOnce (numbers_of ys) → EachOnce (numbers_of (picked bs ys))
  picked_once [] ys once = tt
  picked_once (b ∷ bs) [] once = tt
  picked_once (true ∷ bs) (y ∷ ys) once =
      (by_test (has (numbers_of (picked bs ys)) y.0) (λ q. clash (picked_has bs ys y.0 q) once.0) (λ q. q), picked_once bs ys once.1)
  picked_once (false ∷ bs) (y ∷ ys) once = picked_once bs ys once.1

  -- what stands under a number that was picked is what stood under it
  picked_at : (bs : List Bool) (ys : List (ℕ × A)) (n : ℕ) → EachOnce (numbers_of ys) → at (picked bs ys) n ≡ (if has (numbers_of (picked bs ys)) n then at ys n else None)
  picked_at [] ys n once = refl
  picked_at (b ∷ bs) [] n once = refl
  picked_at (true ∷ bs) (y ∷ ys) n once = by (nat_eq y.0 n) (picked_at bs ys n once.1)
    where
      by : (b : Bool) → at (picked bs ys) n ≡ (if has (numbers_of (picked bs ys)) n then at ys n else None)
          → (if b then Some y.1 else at (picked bs ys) n) ≡ (if b || has (numbers_of (picked bs ys)) n then (if b then Some y.1 else at ys n) else None)
      by true h = refl
      by false h = h
  picked_at (false ∷ bs) (y ∷ ys) n once =
      picked_at bs ys n once.1
      ∙ by_test (has (numbers_of (picked bs ys)) n)
      (
      λ q.
      let there : has (numbers_of ys) n ≡ true = picked_has bs ys n q in
      let other : nat_eq y.0 n ≡ false = by_test (nat_eq y.0 n) (λ r. clash (ap (λ m. has (numbers_of ys) m) (eqb-true y.0 n r) ∙ there) once.0) (λ r. r) in
      pick_true (at ys n) None q ∙ sym (pick_false (Some y.1) (at ys n) other) ∙ sym (pick_true (at (y ∷ ys) n) None q)
      )
      (λ q. pick_false (at ys n) None q ∙ sym (pick_false (at (y ∷ ys) n) None q))

  -- where a number isn't nothing stands under it
  pub absent_none : (ys : List (ℕ × A)) (n : ℕ) → has (numbers_of ys) n ≡ false → at ys n ≡ None
  absent_none ys n h = none (at ys n) (sym (numbers_has ys n) ∙ h)
    where
      none : (o : Option A) → is_some o ≡ false → o ≡ None
      none None q = refl
      none (Some a) q = clash refl q

module _ {K : Types} where
  -- fewer numbers stand, and those that went left the table
  pub placed_fewer : (old new : List (ℕ × Scope K)) (bs : List Bool) (places left : List (ℕ × Place)) → IsPlaced old places → standings new ≡ picked bs (standings old)
      → ((n : ℕ) → at left n ≡ (if has (numbers_of (standings old)) n && not (has (numbers_of (standings new)) n) then None else at places n))
      → IsPlaced new left
  placed_fewer old new bs places left h fewer gone =
      record {
        apart = ap_once (sym fewer) (picked_once bs (standings old) h.apart);
        each = λ n.
            by_test (has (numbers_of (standings new)) n)
            (
            λ q.
            let stays : at left n ≡ at places n =
            gone n ∙ ap (λ b. if has (numbers_of (standings old)) n && not b then None else at places n) q ∙ never (has (numbers_of (standings old)) n) (at places n) in
            let same : at (standings new) n ≡ at (standings old) n =
            ap (λ ys. at ys n) fewer ∙ picked_at bs (standings old) n h.apart ∙ pick_true (at (standings old) n) None (ap (λ ys. has (numbers_of ys) n) (sym fewer) ∙ q) in
            ap (λ o. option_map named_in o) stays ∙ h.each n ∙ ap (λ o. option_map named_of o) (sym same)
            )
            (
            λ q.
            let none : at (standings new) n ≡ None = absent_none (standings new) n q in
            by_test (has (numbers_of (standings old)) n)
            (
            λ r.
            let went : at left n ≡ None = gone n ∙ (λ i. if r i && not (q i) then None else at places n) in
            ap (λ o. option_map named_in o) went ∙ ap (λ o. option_map named_of o) (sym none)
            )
            (
            λ r.
            let stays : at left n ≡ at places n = gone n ∙ ap (λ b. if b && not (has (numbers_of (standings new)) n) then None else at places n) r in
            ap (λ o. option_map named_in o) stays ∙ h.each n ∙ ap (λ o. option_map named_of o) (absent_none (standings old) n r ∙ sym none)
            )
            );
      }
    where
      ap_once : {xs ys : List (ℕ × Standing)} → xs ≡ ys → EachOnce (numbers_of xs) → EachOnce (numbers_of ys)
      ap_once e once = subst (λ zs. EachOnce (numbers_of zs)) e once

      never : (b : Bool) (o : Option Place) → (if b && not true then None else o) ≡ o
      never true o = refl
      never false o = refl
