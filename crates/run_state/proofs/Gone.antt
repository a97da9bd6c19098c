-- A scope's record goes.
use Rattle.std.proofs.Common.{◌≡◌, ℕ, Bool, true, false, List, [], ◌∷◌, refl, ap, ◌∙◌, nat_eq}
use Rattle.std.specs.Prelude.{Some, is_some, if◌then◌else◌}
use Rattle.rt_model.specs.Lists.{at, without}
use Rattle.rt_model.specs.OneLog.{types}
use Rattle.rt_model.specs.Tree.{Types}
use Rattle.rt_model.specs.State as model
use Rattle.rt_cells.specs.Cells as tracked
use Rattle.run_records.specs.Kept.{each, scope_of}
use Rattle.run_records.specs.declared.rest.Scope.{Scope}
use Rattle.run_owed.specs.Owing.{Owing}
use Rattle.run_state.specs.Mirror.{Unkept, cell_of, contexts_of, scopes_of, state_of}
use Rattle.run_state.specs.declared.state.State.{State}
use Rattle.run_state.proofs.Each.{without-each}
use Rattle.run_state.proofs.Posts.{with_all}

-- nothing goes where nothing has the number
absent_stays : {A : Type 0} (es : List (ℕ × A)) (n : ℕ) → is_some (at es n) ≡ false → es ≡ without es n
absent_stays [] n none = refl
absent_stays {A = A} (e ∷ es) n none = by (nat_eq e.0 n) none (λ h. absent_stays es n h)
  where
    by : (b : Bool) → is_some (if b then Some e.1 else at es n) ≡ false → (is_some (at es n) ≡ false → es ≡ without es n) → e ∷ es ≡ (if b then without es n else e ∷ without es n)
    by true h rest = absurd (cc h)
    by false h rest = ap (λ (xs : List (ℕ × A)). e ∷ xs) (rest h)

module _ {K : Types} where
  pub without_none : (w : model.State K) (s : ℕ) → model.is_live w s ≡ false → w ≡ record w { scopes = without w.scopes s }
  without_none w s none = ap (λ (es : List (ℕ × model.Scope K)). let v : model.State K = record w { scopes = es } in v) (absent_stays w.scopes s none)

module _ {P C Q V H T E L : Type 0} where
  pub scopes_less : (g : Unkept (types C Q V H T E L)) (d : State P C Q V H T E L) (o : Owing) (cells : tracked.State V) (new : List (ℕ × Scope P C Q V H T E L)) (s : ℕ)
      → o ≡ record d.owed { scopes = without (d.owed).scopes s } → cells.cells ≡ (d.cells).cells → cells.contexts ≡ (d.cells).contexts → new ≡ without (d.rows).table s
      → record (with_all (state_of g d) o) { scopes = scopes_of new; cells = each cell_of cells.cells; contexts = contexts_of d.read_order cells.contexts } ≡ record (state_of g d) { scopes = without (state_of g d).scopes s }
  scopes_less g d o cells new s left same heard less =
      (λ i. record (with_all (state_of g d) (left i)) { scopes = scopes_of (less i); cells = each cell_of (same i); contexts = contexts_of d.read_order (heard i) })
      ∙ ap (λ (es : List (ℕ × model.Scope (types C Q V H T E L))). let w : model.State (types C Q V H T E L) = record (state_of g d) { scopes = es } in w) (without-each scope_of (d.rows).table s)
