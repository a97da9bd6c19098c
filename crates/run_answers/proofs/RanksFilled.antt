-- The live scopes are listed with their heights, one after another.
use Rattle.std.proofs.Common.{ℕ, ◌+◌, ◌<◌, ◌≤◌, Bool, true, false, ◌||◌, ◌&&◌, cond, List, [], ◌∷◌, ◌≡◌, refl, sym, ap, ◌∙◌, drop, get_or, length, nat_eq}
use Rattle.std.proofs.lemmas.Bool.{eqb-true}
use Rattle.std.proofs.Math.ListN.{drop_of_length-le}
use Rattle.std.specs.BTreeMap.{is_at}
use Rattle.std.specs.declared.cmp.Ordering.{Ordering}
use Rattle.std.specs.declared.cmp.Ordering.TheVariants.{Less, Equal, Greater}
use Rattle.std.specs.Ordering.{is_eq, nat_cmp, ordering_then}
use Rattle.rt_lemmas.proofs.Bools.{or_none}
use Rattle.rt_lemmas.proofs.Lists.{next_drop}
use Rattle.rt_lemmas.proofs.Numbers.{ties}
use Rattle.rt_model.specs.Lists.{has}
use Rattle.rt_model.specs.OneLog.{types}
use Rattle.rt_model.specs.Tree.{Types}
use Rattle.rt_model.specs.State as model
use Rattle.rt_model.specs.State.{height_of}
use Rattle.rt_model.specs.Removal.{numbers_of}
use Rattle.rt_model.proofs.Maps.{by_test}
use Rattle.run_records.specs.declared.rest.Scope.{Scope}
use Rattle.run_state.specs.Effects.{has_rank, rank_cmp}
use Rattle.run_state.specs.Mirror.{scopes_of}

-- one pair ties with another where both of their numbers are the same
both_at : (r q : Ordering) → is_eq (ordering_then r q) ≡ (is_eq r && is_eq q)
both_at Less q = refl
both_at Equal q = refl
both_at Greater q = refl

pair_at : (a n h s : ℕ) → is_at (rank_cmp (a, n)) (h, s) ≡ (nat_eq a h && nat_eq n s)
pair_at a n h s = both_at (nat_cmp a h) (nat_cmp n s) ∙ (λ i. ties a h i && ties n s i)

-- one more of a number's own, and one of another
joined_own : (level own among before : Bool) → (cond (level && own) true before || (among && level)) ≡ (before || ((own || among) && level))
joined_own true true among true = refl
joined_own true true among false = refl
joined_own false true true before = refl
joined_own false true false before = refl
joined_own true false among before = refl
joined_own false false among before = refl

joined_other : (other level among before : Bool) → (cond (other && false) true before || (among && level)) ≡ (before || ((false || among) && level))
joined_other true level among before = refl
joined_other false level among before = refl

module _ {K : Types} (scopes : List (ℕ × model.Scope K)) where
  -- a number is among these, and its scope has a height
  abbrev pub ranked_in : List ℕ → ℕ → ℕ → Bool
  ranked_in ns h s = has ns s && nat_eq (height_of scopes s) h

  -- one number more is listed with the height of its scope
  one_ranked : (n : ℕ) (ns : List ℕ) (old new : List (ℕ × ℕ)) (h s : ℕ) → has_rank new h s ≡ cond (is_at (rank_cmp (height_of scopes n, n)) (h, s)) true (has_rank old h s)
      → (has_rank new h s || ranked_in ns h s) ≡ (has_rank old h s || ranked_in (n ∷ ns) h s)
  one_ranked n ns old new h s joined =
      ap (λ (b : Bool). b || ranked_in ns h s) joined
      ∙ ap (λ (b : Bool). cond b true (has_rank old h s) || ranked_in ns h s) (pair_at (height_of scopes n) n h s)
      ∙ by_test (nat_eq n s)
      (
      λ q.
      ap (λ (m : ℕ). cond (nat_eq (height_of scopes m) h && nat_eq n s) true (has_rank old h s) || ranked_in ns h s) (eqb-true n s q)
      ∙ joined_own (nat_eq (height_of scopes s) h) (nat_eq n s) (has ns s) (has_rank old h s)
      )
      (
      λ q.
      ap (λ (b : Bool). cond (nat_eq (height_of scopes n) h && b) true (has_rank old h s) || ranked_in ns h s) q
      ∙ joined_other (nat_eq (height_of scopes n) h) (nat_eq (height_of scopes s) h) (has ns s) (has_rank old h s)
      ∙ sym (ap (λ (b : Bool). has_rank old h s || ((b || has ns s) && nat_eq (height_of scopes s) h)) q)
      )

module _ {P C Q V H T E L : Type 0} (scopes : List (ℕ × model.Scope (types C Q V H T E L))) where
  -- those that are listed and those that are left are those of all rows
  abbrev pub AllRanked : List (ℕ × Scope P C Q V H T E L) → List (ℕ × Scope P C Q V H T E L) → List (ℕ × ℕ) → Type 0
  AllRanked rows left ranks = (h s : ℕ) → (has_rank ranks h s || ranked_in scopes (numbers_of (scopes_of left)) h s) ≡ ranked_in scopes (numbers_of (scopes_of rows)) h s

  -- none is listed at first
  pub none_ranked : (rows : List (ℕ × Scope P C Q V H T E L)) (ranks : List (ℕ × ℕ)) → ranks ≡ [] → AllRanked rows rows ranks
  none_ranked rows ranks empty = λ h s. ap (λ (rs : List (ℕ × ℕ)). has_rank rs h s || ranked_in scopes (numbers_of (scopes_of rows)) h s) empty

  -- one more row
  pub row_ranked : (rows : List (ℕ × Scope P C Q V H T E L)) (i : ℕ) (row : ℕ × Scope P C Q V H T E L) (height : ℕ) (old new : List (ℕ × ℕ))
      → i < length rows
      → row ≡ get_or rows i row
      → height ≡ height_of scopes row.0
      → ((h s : ℕ) → has_rank new h s ≡ cond (is_at (rank_cmp (height, row.0)) (h, s)) true (has_rank old h s))
      → AllRanked rows (drop i rows) old
      → AllRanked rows (drop (i + 1) rows) new
  row_ranked rows i row height old new within is level joined before =
      λ h s.
      one_ranked scopes row.0 (numbers_of (scopes_of (drop (i + 1) rows))) old new h s
      (joined h s ∙ ap (λ (a : ℕ). cond (is_at (rank_cmp (a, row.0)) (h, s)) true (has_rank old h s)) level)
      ∙ ap (λ (rs : List (ℕ × Scope P C Q V H T E L)). has_rank old h s || ranked_in scopes (numbers_of (scopes_of rs)) h s) (sym (next_drop rows i row within is))
      ∙ before h s

  -- all are listed at last
  pub all_ranked : (rows : List (ℕ × Scope P C Q V H T E L)) (i : ℕ) (ranks : List (ℕ × ℕ)) → length rows ≤ i → AllRanked rows (drop i rows) ranks
      → (h s : ℕ) → has_rank ranks h s ≡ ranked_in scopes (numbers_of (scopes_of rows)) h s
  all_ranked rows i ranks end before h s =
      sym (or_none (has_rank ranks h s))
      ∙ ap (λ (rs : List (ℕ × Scope P C Q V H T E L)). has_rank ranks h s || ranked_in scopes (numbers_of (scopes_of rs)) h s) (sym (drop_of_length-le rows end))
      ∙ before h s
