-- Which sources a removal tells.
use Rattle.std.proofs.Common.{ℕ, Bool, true, false, not, List, [], ◌∷◌, ◌≡◌, inl, inr, refl, sym, ap, ◌∙◌, nat_eq}
use Rattle.std.specs.Prelude.{Option, Some, ◌⊎◌, if◌then◌else◌}
use Rattle.law_moves.proofs.Leaving.{kinds_stay, kinds_named}
pub use Rattle.law_moves.proofs.Leaving.{contexts_named, cells_named}
use Rattle.rt_model.specs.Lists.{at, has, kept_by}
use Rattle.rt_model.specs.Tree.{Types}
use Rattle.rt_model.specs.World.{Context}
use Rattle.rt_model.specs.State.{CellRow, ContextRow}
use Rattle.rt_model.specs.Commands.{names_source}
use Rattle.rt_model.specs.Removal.{kinds_in, cells_in, kinds_of_contexts}
use Rattle.rt_model.proofs.Maps.{by_test, at_here, at_there}
use Rattle.rt_model.proofs.Members.{clash, or_left, or_right}
use Rattle.law_minding.proofs.Polled.{cell_value}

module _ {K : Types} where
  rows_stay : (s : ℕ) (es : List (ℕ × ContextRow K)) (ks : List ℕ) (k : ℕ) → has ks k ≡ true → has (kinds_of_contexts s es ks) k ≡ true
  rows_stay s [] ks k h = h
  rows_stay s (e ∷ es) ks k h = rows_stay s es (kinds_in s (e.1).sources ks) k (kinds_stay s (e.1).sources ks k h)

  -- a kind that a reactive context names is among those that were read
  pub rows_named : (s k n : ℕ) (x : ContextRow K) (es : List (ℕ × ContextRow K)) (ks : List ℕ) → at es n ≡ Some x
      → names_source x.sources (Context k s) ≡ true
      → has (kinds_of_contexts s es ks) k ≡ true
  rows_named s k n x [] ks live h = cc
  rows_named s k n x (e ∷ es) ks live h =
      by_test (nat_eq e.0 n)
      (
      λ q.
      let found : Some e.1 ≡ Some x = sym (at_here e.0 e.1 es n q) ∙ live in
      let same : e.1 ≡ x = cc in
      rows_stay s es (kinds_in s (e.1).sources ks) k
      (kinds_named s k (e.1).sources ks (ap (λ (y : ContextRow K). names_source y.sources (Context k s)) same ∙ h))
      )
      (λ q. rows_named s k n x es (kinds_in s (e.1).sources ks) (sym (at_there e.0 e.1 es n q) ∙ live) h)

  -- the context of another scope stays
  pub row_kept : (s n : ℕ) (x : ContextRow K) → nat_eq x.scope s ≡ false → (es : List (ℕ × ContextRow K)) → at es n ≡ Some x
      → at (kept_by (λ e. not (nat_eq (e.1).scope s)) es) n ≡ Some x
  row_kept s n x other [] h = cc
  row_kept s n x other (e ∷ es) h = on (nat_eq (e.1).scope s) refl (row_kept s n x other es)
    where
      on : (b : Bool) → nat_eq (e.1).scope s ≡ b
          → (at es n ≡ Some x → at (kept_by (λ d. not (nat_eq (d.1).scope s)) es) n ≡ Some x)
          → at (if not b then e ∷ kept_by (λ d. not (nat_eq (d.1).scope s)) es else kept_by (λ d. not (nat_eq (d.1).scope s)) es) n ≡ Some x
      on true is go =
          by_test (nat_eq e.0 n)
          (
          λ q.
          let found : Some e.1 ≡ Some x = sym (at_here e.0 e.1 es n q) ∙ h in
          let same : e.1 ≡ x = cc in
          clash (sym (ap (λ (y : ContextRow K). nat_eq y.scope s) same) ∙ is) other
          )
          (λ q. go (sym (at_there e.0 e.1 es n q) ∙ h))
      on false is go =
          let later : List (ℕ × ContextRow K) = kept_by (λ d. not (nat_eq (d.1).scope s)) es in
          by_test (nat_eq e.0 n)
          (λ q. at_here e.0 e.1 later n q ∙ sym (at_here e.0 e.1 es n q) ∙ h)
          (λ q. at_there e.0 e.1 later n q ∙ go (sym (at_there e.0 e.1 es n q) ∙ h))

  -- and the cell of another scope
  pub cell_kept : (s n : ℕ) (x : CellRow K) → nat_eq x.owner s ≡ false → (es : List (ℕ × CellRow K)) → at es n ≡ Some x
      → at (kept_by (λ e. not (nat_eq (e.1).owner s)) es) n ≡ Some x
  cell_kept s n x other [] h = cc
  cell_kept s n x other (e ∷ es) h = on (nat_eq (e.1).owner s) refl (cell_kept s n x other es)
    where
      on : (b : Bool) → nat_eq (e.1).owner s ≡ b
          → (at es n ≡ Some x → at (kept_by (λ d. not (nat_eq (d.1).owner s)) es) n ≡ Some x)
          → at (if not b then e ∷ kept_by (λ d. not (nat_eq (d.1).owner s)) es else kept_by (λ d. not (nat_eq (d.1).owner s)) es) n ≡ Some x
      on true is go =
          by_test (nat_eq e.0 n)
          (
          λ q.
          let found : Some e.1 ≡ Some x = sym (at_here e.0 e.1 es n q) ∙ h in
          let same : e.1 ≡ x = cc in
          clash (sym (ap (λ (y : CellRow K). nat_eq y.owner s) same) ∙ is) other
          )
          (λ q. go (sym (at_there e.0 e.1 es n q) ∙ h))
      on false is go =
          let later : List (ℕ × CellRow K) = kept_by (λ d. not (nat_eq (d.1).owner s)) es in
          by_test (nat_eq e.0 n)
          (λ q. at_here e.0 e.1 later n q ∙ sym (at_here e.0 e.1 es n q) ∙ h)
          (λ q. at_there e.0 e.1 later n q ∙ go (sym (at_there e.0 e.1 es n q) ∙ h))

  abbrev others : ℕ → List (ℕ × CellRow K) → List (ℕ × CellRow K)
  others s es = kept_by (λ e. not (nat_eq (e.1).owner s)) es

  -- a cell has the value that it had, or it is one of those that go
  pub cell_stays : (s : ℕ) (es : List (ℕ × CellRow K)) (n : ℕ)
      → (cell_value (at es n) ≡ cell_value (at (kept_by (λ e. not (nat_eq (e.1).owner s)) es) n)) ⊎ (has (cells_in s es) n ≡ true)
  cell_stays s [] n = inl refl
  cell_stays s (e ∷ es) n = by_test (nat_eq e.0 n) (λ q. here (nat_eq (e.1).owner s) q) (λ q. there (nat_eq (e.1).owner s) q (cell_stays s es n))
    where
      here : (b : Bool) → nat_eq e.0 n ≡ true
          → (cell_value (at (e ∷ es) n) ≡ cell_value (at (if not b then e ∷ others s es else others s es) n))
          ⊎ (has (if b then e.0 ∷ cells_in s es else cells_in s es) n ≡ true)
      here true q = inr (or_left (nat_eq e.0 n) (has (cells_in s es) n) q)
      here false q = inl (ap (λ (o : Option (CellRow K)). cell_value o) (at_here e.0 e.1 es n q ∙ sym (at_here e.0 e.1 (others s es) n q)))

      there : (b : Bool) → nat_eq e.0 n ≡ false → (cell_value (at es n) ≡ cell_value (at (others s es) n)) ⊎ (has (cells_in s es) n ≡ true)
          → (cell_value (at (e ∷ es) n) ≡ cell_value (at (if not b then e ∷ others s es else others s es) n))
          ⊎ (has (if b then e.0 ∷ cells_in s es else cells_in s es) n ≡ true)
      there true q (inl h) = inl (ap (λ (o : Option (CellRow K)). cell_value o) (at_there e.0 e.1 es n q) ∙ h)
      there true q (inr h) = inr (or_right (nat_eq e.0 n) (has (cells_in s es) n) h)
      there false q (inl h) =
          inl
          (ap (λ (o : Option (CellRow K)). cell_value o) (at_there e.0 e.1 es n q)
          ∙ h
          ∙ sym (ap (λ (o : Option (CellRow K)). cell_value o) (at_there e.0 e.1 (others s es) n q)))
      there false q (inr h) = inr h
