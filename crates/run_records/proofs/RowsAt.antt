-- What the rows hold under a scope's number.
use Rattle.std.proofs.Common.{ℕ, suc, ◌+◌, ◌<◌, ◌≤◌, arith, length, drop, get_or, Bool, true, false, ◌||◌, ◌&&◌, List, [], ◌∷◌, ◌≡◌, refl, sym, ap, ◌∙◌, cond, nat_eq}
use Rattle.std.specs.Prelude.{Option, Some, None, option_map}
use Rattle.std.proofs.lemmas.Bool.{eqb-true}
use Rattle.std.proofs.lemmas.List.{drop_more}
use Rattle.std.proofs.lemmas.Grind.{common_steps}
use Rattle.rt_model.specs.Lists.{at, put, without, has}
use Rattle.rt_model.specs.Program.{parent_in}
use Rattle.rt_model.specs.Tree.{is_error_boundary}
use Rattle.tree_mirror.specs.Sealed.{component_of}
use Rattle.run_table.specs.Found.{Ascends}
use Rattle.run_table.proofs.Rows.{first-end}
use Rattle.run_table.proofs.Search.{first-before}
use Rattle.run_records.specs.Records.{number_of, parents_of}
use Rattle.run_records.specs.World.{rows_in, boundaries_in}
use Rattle.run_records.specs.declared.rest.Scope.{Scope}
use Rattle.run_records.specs.declared.rows.ScopeRow.{ScopeRow}

bound-either : (boundary : Bool) (x n : ℕ) (rest : List ℕ) → has (cond boundary (x ∷ rest) rest) n ≡ (nat_eq x n && boundary) || has rest n
bound-either true x n rest = ap (λ b. b || has rest n) (both-true (nat_eq x n))
  where
    both-true : (b : Bool) → b ≡ b && true
    both-true true = refl
    both-true false = refl
bound-either false x n rest = ap (λ b. b || has rest n) (none-true (nat_eq x n))
  where
    none-true : (b : Bool) → false ≡ b && false
    none-true true = refl
    none-true false = refl

module _ {P C Q V H T E L : Type 0} where
  -- there are as many parents as scopes
  pub length-parents : (scopes : List (ℕ × Scope P C Q V H T E L)) → length (parents_of (rows_in scopes)) ≡ length scopes
  length-parents [] = refl
  length-parents (e ∷ scopes) = ap suc (length-parents scopes)

  row-either : (b : Bool) (x : Scope P C Q V H T E L) (row : Option (ScopeRow P C Q V H T E L)) (there : Option (Scope P C Q V H T E L))
      → row ≡ option_map (λ y. y.row) there → cond b (Some x.row) row ≡ option_map (λ y. y.row) (cond b (Some x) there)
  row-either true x row there h = refl
  row-either false x row there h = h

  -- a row is that of the scope under its number
  pub row-found : (scopes : List (ℕ × Scope P C Q V H T E L)) (n : ℕ) → at (rows_in scopes) n ≡ option_map (λ x. x.row) (at scopes n)
  row-found [] n = refl
  row-found (e ∷ scopes) n = row-either (nat_eq e.0 n) e.1 (at (rows_in scopes) n) (at scopes n) (row-found scopes n)

  rows-either : (b : Bool) (e own : ℕ × Scope P C Q V H T E L) (scopes other : List (ℕ × Scope P C Q V H T E L)) (rows : List (ℕ × ScopeRow P C Q V H T E L))
      → rows_in other ≡ rows → rows_in (cond b (own ∷ scopes) (e ∷ other)) ≡ cond b ((own.0, (own.1).row) ∷ rows_in scopes) ((e.0, (e.1).row) ∷ rows)
  rows-either true e own scopes other rows h = refl
  rows-either false e own scopes other rows h = ap (λ rs. (e.0, (e.1).row) ∷ rs) h

  -- what is put under a number has its row there
  pub row-put : (scopes : List (ℕ × Scope P C Q V H T E L)) (n : ℕ) (x : Scope P C Q V H T E L) → rows_in (put scopes n x) ≡ put (rows_in scopes) n x.row
  row-put [] n x = refl
  row-put (e ∷ scopes) n x = rows-either (nat_eq e.0 n) e (n, x) scopes (put scopes n x) (put (rows_in scopes) n x.row) (row-put scopes n x)

  rows-fewer : (b : Bool) (e : ℕ × Scope P C Q V H T E L) (scopes : List (ℕ × Scope P C Q V H T E L)) (rows : List (ℕ × ScopeRow P C Q V H T E L))
      → rows_in scopes ≡ rows → rows_in (cond b scopes (e ∷ scopes)) ≡ cond b rows ((e.0, (e.1).row) ∷ rows)
  rows-fewer true e scopes rows h = h
  rows-fewer false e scopes rows h = ap (λ rs. (e.0, (e.1).row) ∷ rs) h

  -- what is taken out has other row left
  pub row-without : (scopes : List (ℕ × Scope P C Q V H T E L)) (n : ℕ) → rows_in (without scopes n) ≡ without (rows_in scopes) n
  row-without [] n = refl
  row-without (e ∷ scopes) n = rows-fewer (nat_eq e.0 n) e (without scopes n) (without (rows_in scopes) n) (row-without scopes n)

  -- the parent that stands in a row
  abbrev pub parent_of : Option (ScopeRow P C Q V H T E L) → Option ℕ
  parent_of None = None
  parent_of (Some row) = number_of row.parent

  parent-either : (b : Bool) (row : ScopeRow P C Q V H T E L) (there : Option (Option ℕ)) (rest : Option (ScopeRow P C Q V H T E L))
      → elim there [ None ↦ None | Some p ↦ p ] ≡ parent_of rest
      → elim (cond b (Some (number_of row.parent)) there) [ None ↦ None | Some p ↦ p ] ≡ parent_of (cond b (Some row) rest)
  parent-either true row there rest h = refl
  parent-either false row there rest h = h

  -- the parent of a scope is that of its row
  pub parent-found : (rows : List (ℕ × ScopeRow P C Q V H T E L)) (n : ℕ) → parent_in (parents_of rows) n ≡ parent_of (at rows n)
  parent-found [] n = refl
  parent-found (e ∷ rows) n = parent-either (nat_eq e.0 n) e.1 (at (parents_of rows) n) (at rows n) (parent-found rows n)

  -- a scope is the one, and a boundary
  abbrev pub bounds : ℕ → ℕ × Scope P C Q V H T E L → Bool
  bounds n e = nat_eq e.0 n && is_error_boundary (component_of (e.1.rest).component)

  -- whether a scope is among the boundaries, by the first row and those after it
  pub bound-step : (scopes : List (ℕ × Scope P C Q V H T E L)) (n i : ℕ) (d : ℕ × Scope P C Q V H T E L) → i < length scopes
      → has (boundaries_in (drop i scopes)) n
      ≡ bounds n (get_or scopes i d) || has (boundaries_in (drop (i + 1) scopes)) n
  bound-step scopes n i d within =
      ap (λ rest. has (boundaries_in rest) n) (drop_more scopes i d within)
      ∙ bound-either (is_error_boundary (component_of ((get_or scopes i d).1.rest).component)) (get_or scopes i d).0 n (boundaries_in (drop (i + 1) scopes))

  -- a scope that isn't the one is passed
  pub bound-past : (scopes : List (ℕ × Scope P C Q V H T E L)) (n i : ℕ) (e : ℕ × Scope P C Q V H T E L) → i < length scopes → e ≡ get_or scopes i e → bounds n e ≡ false
      → has (boundaries_in (drop (i + 1) scopes)) n ≡ has (boundaries_in (drop i scopes)) n
  bound-past scopes n i e within is other =
      ap (λ b. b || has (boundaries_in (drop (i + 1) scopes)) n) (sym (ap (bounds n) (sym is) ∙ other)) ∙ sym (bound-step scopes n i e within)

  -- the one is found
  pub bound-here : (scopes : List (ℕ × Scope P C Q V H T E L)) (n i : ℕ) (e : ℕ × Scope P C Q V H T E L) → i < length scopes → e ≡ get_or scopes i e → bounds n e ≡ true
      → true ≡ has (boundaries_in (drop i scopes)) n
  bound-here scopes n i e within is own =
      ap (λ b. b || has (boundaries_in (drop (i + 1) scopes)) n) (sym (ap (bounds n) (sym is) ∙ own)) ∙ sym (bound-step scopes n i e within)

  drop-all : (scopes : List (ℕ × Scope P C Q V H T E L)) (i : ℕ) → length scopes ≤ i → drop i scopes ≡ []
  drop-all scopes i end = grind (arith, common_steps)

  -- past the last one
  pub bound-end : (scopes : List (ℕ × Scope P C Q V H T E L)) (n i : ℕ) → length scopes ≤ i → false ≡ has (boundaries_in (drop i scopes)) n
  bound-end scopes n i end = ap (λ rest. has (boundaries_in rest) n) (sym (drop-all scopes i end))

or-none : (b c : Bool) → c ≡ false → ((true && b) || c) ≡ b
or-none true c none = refl
or-none false c none = none

module _ {P C Q V H T E L : Type 0} where
  -- what was found is a boundary
  abbrev pub bound_found : Option (Scope P C Q V H T E L) → Bool
  bound_found None = false
  bound_found (Some x) = is_error_boundary (component_of (x.rest).component)

  -- where no scope has the number no boundary has
  bound-none : (scopes : List (ℕ × Scope P C Q V H T E L)) (n : ℕ) → at scopes n ≡ None → has (boundaries_in scopes) n ≡ false
  bound-none [] n none = refl
  bound-none (e ∷ scopes) n none =
      bound-either (is_error_boundary (component_of (e.1.rest).component)) e.0 n (boundaries_in scopes)
      ∙ by (nat_eq e.0 n) none (λ rest. bound-none scopes n rest)
    where
      by : (b : Bool) → cond b (Some e.1) (at scopes n) ≡ None → (at scopes n ≡ None → has (boundaries_in scopes) n ≡ false)
          → ((b && is_error_boundary (component_of (e.1.rest).component)) || has (boundaries_in scopes) n) ≡ false
      by true some rest = absurd (cc some)
      by false absent rest = rest absent

  -- where numbers rise, the scope that is found tells it
  pub bound-at : (scopes : List (ℕ × Scope P C Q V H T E L)) (n : ℕ) → Ascends scopes → has (boundaries_in scopes) n ≡ bound_found (at scopes n)
  bound-at [] n up = refl
  bound-at (e ∷ scopes) n up =
      bound-either (is_error_boundary (component_of (e.1.rest).component)) e.0 n (boundaries_in scopes)
      ∙ by (nat_eq e.0 n) refl (bound-at scopes n (λ i j d low high. up (suc i) (suc j) d (omega (arith, low)) (omega (arith, high))))
    where
      others : e.0 ≡ n → at scopes n ≡ None
      others same =
          first-end scopes n (length scopes) (omega arith)
          (first-before scopes n (length scopes) (omega arith) (λ k d low here. let above : e.0 < (get_or scopes k d).0 = up 0 (suc k) d (omega arith) (omega (arith, low)) in omega (arith, above, same, here)))

      by : (b : Bool) → nat_eq e.0 n ≡ b → has (boundaries_in scopes) n ≡ bound_found (at scopes n)
          → ((b && is_error_boundary (component_of (e.1.rest).component)) || has (boundaries_in scopes) n) ≡ bound_found (cond b (Some e.1) (at scopes n))
      by true own rest = or-none (is_error_boundary (component_of (e.1.rest).component)) (has (boundaries_in scopes) n) (bound-none scopes n (others (eqb-true e.0 n own)))
      by false other rest = rest

-- what is found in the rows
pub ruleset found = (row-found, row-put, row-without, parent-found, length-parents)
