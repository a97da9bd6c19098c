-- Rows that were given stay, and where the last thing at the top is known the last number is.
use Rattle.std.proofs.Common.{ℕ, suc, ◌-◌, Bool, true, ◌||◌, List, [], ◌∷◌, ◌++◌, ◌≡◌, ◌≢◌, length, refl, sym, ap, ◌∙◌, arith}
use Rattle.std.specs.Prelude.{nat_eq, if◌then◌else◌, None, Some, slice_get}
use Rattle.std.specs.List.{list_any}
use Rattle.std.proofs.lemmas.Bool.{true≢false}
use Rattle.rt_edits.specs.declared.doc_node.DocNode.{DocNode}
use Rattle.rt_model.specs.Document.{Forest}
use Rattle.rt_model.proofs.Maps.{by_test, none_some, pick_false, pick_true}
use Rattle.tree_edits.specs.Documents.{forest_of}
use Rattle.run_shown.specs.declared.asked.GivenRows.{GivenRows}
use Rattle.run_shown.specs.declared.pieces.Top.{Top}
use Rattle.run_shown.specs.declared.pieces.Top.TheVariants as top
use Rattle.run_shown.specs.Given.{rows_under}
use Rattle.run_shown.specs.Pieces.{tops_by}
use Rattle.run_shown.specs.Tops.{tops_of}
use Rattle.run_shown.specs.Unknowns.{is_given, last_in, unknown_in, unknown_of}
use Rattle.rt_tree.specs.Owns.{last_or}
use Rattle.rt_tree.proofs.MarkWrites.{last_both}

-- the first row under a scope that has one stays, whatever comes behind
pub rows_more : (xs ys : List (ℕ × List DocNode)) (t : ℕ) → list_any (λ r. nat_eq r.0 t) xs ≡ true → rows_under (xs ++ ys) t ≡ rows_under xs t
rows_more [] ys t h = absurd (true≢false (sym h))
rows_more (x ∷ xs) ys t h =
    by_test (nat_eq x.0 t)
    (λ r. pick_true (forest_of x.1) (rows_under (xs ++ ys) t) r ∙ sym (pick_true (forest_of x.1) (rows_under xs t) r))
    (λ r.
    pick_false (forest_of x.1) (rows_under (xs ++ ys) t) r
    ∙ rows_more xs ys t (sym (ap (λ (b : Bool). b || list_any (λ r. nat_eq r.0 t) xs) r) ∙ h)
    ∙ sym (pick_false (forest_of x.1) (rows_under xs t) r))

-- the last of some numbers, whatever came before them
last_free : (xs : List ℕ) (n m : ℕ) → xs ≢ [] → last_or n xs ≡ last_or m xs
last_free [] n m some = absurd (some refl)
last_free (x ∷ xs) n m some = refl

module _ (rows : GivenRows) (f g : ℕ → Forest) (agree : (t : ℕ) → is_given rows t ≡ true → f t ≡ g t) (some : (t : ℕ) → is_given rows t ≡ true → tops_of (g t) ≢ []) where
  -- of one thing at the top
  last_one : (p : Top) (n m : ℕ) → unknown_in rows p ≡ None → last_or n (tops_by f (p ∷ [])) ≡ last_or m (tops_by g (p ∷ []))
  last_one (top.Own k) n m none = refl
  last_one (top.Child t) n m none =
      by_test (is_given rows t)
      (
      λ has_row.
      last_both n (tops_of (f t)) []
      ∙ ap (λ (x : Forest). last_or n (tops_of x)) (agree t has_row)
      ∙ last_free (tops_of (g t)) n m (some t has_row)
      ∙ sym (last_both m (tops_of (g t)) [])
      )
      (λ has_none. none_some none (ap (λ (b : Bool). if b then None else Some t) has_none))

  -- the last of more is the last of those behind the first
  behind : (p q : Top) (ps : List Top) → last_in rows (p ∷ q ∷ ps) ≡ None → last_in rows (q ∷ ps) ≡ None
  behind p q ps none =
      let e : length (p ∷ q ∷ ps) - 1 ≡ suc (length (q ∷ ps) - 1) = omega arith in
      sym (ap (λ (k : ℕ). unknown_of rows (slice_get (p ∷ q ∷ ps) k)) e) ∙ none

  -- of more
  last_some : (p : Top) (ps : List Top) (n m : ℕ) → last_in rows (p ∷ ps) ≡ None → last_or n (tops_by f (p ∷ ps)) ≡ last_or m (tops_by g (p ∷ ps))
  last_some p [] n m none = last_one p n m none
  last_some (top.Own k) (q ∷ ps) n m none = last_some q ps k k (behind (top.Own k) q ps none)
  last_some (top.Child t) (q ∷ ps) n m none =
      last_both n (tops_of (f t)) (tops_by f (q ∷ ps))
      ∙ last_some q ps (last_or n (tops_of (f t))) (last_or m (tops_of (g t))) (behind (top.Child t) q ps none)
      ∙ sym (last_both m (tops_of (g t)) (tops_by g (q ∷ ps)))

  pub last_known : (ps : List Top) → last_in rows ps ≡ None → last_or 0 (tops_by f ps) ≡ last_or 0 (tops_by g ps)
  last_known [] none = refl
  last_known (p ∷ ps) none = last_some p ps 0 0 none
