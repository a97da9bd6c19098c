-- A look shows the scopes as they stand, and as they stood where it is kept what has changed.
use Rattle.std.proofs.Common.{ℕ, nat_eq, suc, Bool, true, false, List, [], ◌∷◌, ◌++◌, ◌≡◌, refl, sym, ap, ◌∙◌, length}
use Rattle.std.specs.Prelude.{Option, Some, None, option_map, if◌then◌else◌}
use Rattle.std.proofs.lemmas.Bool.{eqb-true}
use Rattle.rt_model.specs.OneLog.{types}
use Rattle.rt_model.specs.Lists.{at}
use Rattle.rt_model.specs.State as state
use Rattle.run_records.specs.declared.rest.Scope.{Scope}
use Rattle.run_records.specs.Kept.{each, scope_of}
use Rattle.run_shown.specs.declared.look.Look.{Look}
use Rattle.run_shown.specs.declared.look.Stood.{Stood}
use Rattle.run_shown.specs.Look.{ShowsScopes, look_at, seen_in, sight_in, sight_of}
use Rattle.run_shown.specs.Stands.{Stands}

module _ {P C Q V H T E L : Type 0} where
  found_each : (rows : List (ℕ × Scope P C Q V H T E L)) (s : ℕ) → at (each scope_of rows) s ≡ option_map scope_of (at rows s)
  found_each [] s = refl
  found_each (e ∷ es) s = by (nat_eq e.0 s) (found_each es s)
    where
      by : (b : Bool) → at (each scope_of es) s ≡ option_map scope_of (at es s) → (if b then Some (scope_of e.1) else at (each scope_of es) s) ≡ option_map scope_of (if b then Some e.1 else at es s)
      by true h = refl
      by false h = h

  length_each : (rows : List (ℕ × Scope P C Q V H T E L)) → length (each scope_of rows) ≡ length rows
  length_each [] = refl
  length_each (e ∷ es) = ap suc (length_each es)

  stands : (o : Option (Scope P C Q V H T E L)) → option_map sight_in (seen_in None o) ≡ option_map sight_of (option_map scope_of o)
  stands None = refl
  stands (Some x) = refl

  -- what a look sees of a scope is what it was, where that is kept, or where it shows what it did
  seen_as : (o : Option (Option (Stood P C Q V H T E L))) (present : Option (Scope P C Q V H T E L)) (was : Option (state.Scope (types C Q V H T E L)))
      → ((x : Option (Stood P C Q V H T E L)) → o ≡ Some x → option_map sight_in x ≡ option_map sight_of was)
      → (o ≡ None → option_map sight_of (option_map scope_of present) ≡ option_map sight_of was)
      → option_map sight_in (seen_in o present) ≡ option_map sight_of was
  seen_as None present was kept others = stands present ∙ others refl
  seen_as (Some (Some x)) present was kept others = kept (Some x) refl
  seen_as (Some None) present was kept others = kept None refl

  -- a look shows each state of which it was kept what has changed since
  pub shows_stood : (look : Look P C Q V H T E L) (rows : List (ℕ × Scope P C Q V H T E L)) (stood : List (ℕ × Option (Stood P C Q V H T E L))) (count : ℕ)
      → ((s : ℕ) → look_at look s ≡ seen_in (at stood s) (at rows s)) → look.scopes ≡ count
      → (w : state.State (types C Q V H T E L)) → Stands stood w.scopes (each scope_of rows) → count ≡ length w.scopes → ShowsScopes look w
  shows_stood look rows stood count seen many w h is =
      record {
        each = λ s.
            ap (λ o. option_map sight_in o) (seen s) ∙
            seen_as (at stood s) (at rows s) (at w.scopes s) (λ x some. h.kept s x some) (λ none. ap (λ o. option_map sight_of o) (sym (found_each rows s)) ∙ h.others s none);
        count = many ∙ is;
      }

  -- a look at the scopes as they stand shows them
  pub shows_rows : (look : Look P C Q V H T E L) (rows : List (ℕ × Scope P C Q V H T E L)) → ((s : ℕ) → look_at look s ≡ seen_in None (at rows s)) → look.scopes ≡ length rows
      → (w : state.State (types C Q V H T E L)) → w.scopes ≡ each scope_of rows → ShowsScopes look w
  shows_rows look rows seen many w is =
      record {
        each = λ s. ap (λ o. option_map sight_in o) (seen s) ∙ stands (at rows s) ∙ ap (λ o. option_map sight_of o) (sym (found_each rows s) ∙ ap (λ xs. at xs s) (sym is));
        count = many ∙ sym (length_each rows) ∙ ap length (sym is);
      }

-- an entry at the end of a list counts where none stands before it
joined_at : {A : Type 0} (xs : List (ℕ × A)) (t : ℕ) (a : A) (s : ℕ)
    → at (xs ++ (t, a) ∷ []) s ≡ elim (at xs s) as (λ o. Option A) [ None ↦ (if nat_eq t s then Some a else None) | Some x ↦ Some x ]
joined_at [] t a s = refl
joined_at {A} (e ∷ es) t a s = by (nat_eq e.0 s) (joined_at es t a s)
  where
    by : (b : Bool)
        → at (es ++ (t, a) ∷ []) s ≡ elim (at es s) as (λ o. Option A) [ None ↦ (if nat_eq t s then Some a else None) | Some x ↦ Some x ]
        → (if b then Some e.1 else at (es ++ (t, a) ∷ []) s)
        ≡ elim (if b then Some e.1 else at es s) as (λ o. Option A) [ None ↦ (if nat_eq t s then Some a else None) | Some x ↦ Some x ]
    by true h = refl
    by false h = h

module _ {P C Q V H T E L : Type 0} where
  -- nothing has changed yet
  pub stands_begun : (scopes : List (ℕ × state.Scope (types C Q V H T E L))) → Stands {P = P} [] scopes scopes
  stands_begun scopes = record { kept = λ s o some. cc some; others = λ s none. refl }

  -- it is kept what a scope shows now, where nothing was kept of it
  pub stands_kept : (stood : List (ℕ × Option (Stood P C Q V H T E L))) (was now : List (ℕ × state.Scope (types C Q V H T E L))) (t : ℕ) (x : Option (Stood P C Q V H T E L))
      → Stands stood was now → at stood t ≡ None → option_map sight_in x ≡ option_map sight_of (at now t) → Stands (stood ++ (t, x) ∷ []) was now
  stands_kept stood was now t x h first shown =
      record {
        kept = λ s o some. kept_by s o (at stood s) refl (sym (joined_at stood t x s) ∙ some);
        others = λ s none. h.others s (none_by s (at stood s) refl (sym (joined_at stood t x s) ∙ none));
      }
    where
      new : (s : ℕ) (o : Option (Stood P C Q V H T E L)) (b : Bool) → at stood s ≡ None → b ≡ nat_eq t s → (if b then Some x else None) ≡ Some o
          → option_map sight_in o ≡ option_map sight_of (at was s)
      new s o false none q e = cc e
      new s o true none q e =
          ap (λ y. option_map sight_in y) (let it : o ≡ x = cc e in it) ∙ shown ∙ ap (λ m. option_map sight_of (at now m)) (eqb-true t s (sym q)) ∙ h.others s none

      kept_by : (s : ℕ) (o : Option (Stood P C Q V H T E L)) (found : Option (Option (Stood P C Q V H T E L))) → at stood s ≡ found
          → elim found as (λ y. Option (Option (Stood P C Q V H T E L))) [ None ↦ (if nat_eq t s then Some x else None) | Some y ↦ Some y ] ≡ Some o
          → option_map sight_in o ≡ option_map sight_of (at was s)
      kept_by s o (Some y) is e = h.kept s o (is ∙ e)
      kept_by s o None is e = new s o (nat_eq t s) is refl e

      none_by : (s : ℕ) (found : Option (Option (Stood P C Q V H T E L))) → at stood s ≡ found
          → elim found as (λ y. Option (Option (Stood P C Q V H T E L))) [ None ↦ (if nat_eq t s then Some x else None) | Some y ↦ Some y ] ≡ None
          → at stood s ≡ None
      none_by s None is e = is
      none_by s (Some y) is e = cc e

  -- scopes of which nothing is kept show what they did
  pub stands_changed : (stood : List (ℕ × Option (Stood P C Q V H T E L))) (was now next : List (ℕ × state.Scope (types C Q V H T E L)))
      → Stands stood was now → ((s : ℕ) → at stood s ≡ None → option_map sight_of (at next s) ≡ option_map sight_of (at now s)) → Stands stood was next
  stands_changed stood was now next h same = record { kept = h.kept; others = λ s none. same s none ∙ h.others s none }
