-- What stands in a cell, and that a cell is among itself alone.
use Rattle.std.proofs.Common.{ℕ, Bool, true, false, ◌||◌, List, [], ◌∷◌, ◌≡◌, refl, ap, nat_eq}
use Rattle.std.proofs.lemmas.Bool.{eqb-true}
use Rattle.std.specs.Prelude.{Option, Some, None, if◌then◌else◌}
use Rattle.rt_author.proofs.Maps.{eq_same}
use Rattle.rt_author.specs.Lists.{at, has}
use Rattle.rt_author.specs.State.{CellRow}
use Rattle.rt_author.specs.Updates.{values_in}
use Rattle.examples_template.specs.Meaning.{OwnTypes}

value_or : (b : Bool) (c row : CellRow OwnTypes) (o : Option (CellRow OwnTypes)) (p : Option ℕ)
    → (o ≡ Some row → p ≡ Some row.value)
    → (if b then Some c else o) ≡ Some row
    → (if b then Some c.value else p) ≡ Some row.value
value_or true c row o p go h = ap (λ (x : Option (CellRow OwnTypes)). elim x as (λ z. Option ℕ) [ None ↦ None | Some r ↦ Some r.value ]) h
value_or false c row o p go h = go h

-- the value of a cell that is there
pub value_at : (es : List (ℕ × CellRow OwnTypes)) (n : ℕ) (row : CellRow OwnTypes) → at es n ≡ Some row → at (values_in es) n ≡ Some row.value
value_at [] n row h = cc
value_at (e ∷ es) n row h = value_or (nat_eq e.0 n) e.1 row (at es n) (at (values_in es) n) (λ k. value_at es n row k) h

-- a cell is among itself
pub among_itself : (n : ℕ) → has (n ∷ []) n ≡ true
among_itself n = ap (λ (b : Bool). b || false) (eq_same n)

left : (b : Bool) → (b || false) ≡ true → b ≡ true
left true h = refl
left false h = h

-- and no other one is
pub alone : (n m : ℕ) → has (n ∷ []) m ≡ true → n ≡ m
alone n m h = eqb-true n m (left (nat_eq n m) h)
