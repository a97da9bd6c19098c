-- What is seen of the scope under a number, as scopes change, come and go.
use Rattle.std.proofs.Common.{◌≡◌, ℕ, Bool, true, false, List, [], ◌∷◌, ◌++◌, nat_eq, refl, sym, ap, ◌∙◌}
use Rattle.std.specs.Prelude.{Option, Some, None, option_map, is_some, if◌then◌else◌}
use Rattle.std.proofs.lemmas.Bool.{eqb-true}
use Rattle.rt_model.specs.Lists.{at, put, without}
use Rattle.rt_model.specs.OneLog.{types}
use Rattle.rt_model.specs.Tree as tree
use Rattle.rt_model.specs.State as model
use Rattle.rt_model.proofs.Maps.{at_put_here, at_put_other, at_without_here, at_without_other, by_test, pick_false, pick_true}
use Rattle.run_records.specs.Kept.{each, scope_of}
use Rattle.run_records.specs.declared.rest.Scope.{Scope}
use Rattle.run_state.specs.Sides.{more_number}
use Rattle.run_state.proofs.Each.{append-each, at-each, put-each, without-each}

module _ {K : tree.Types} {X : Type 0} (look : Option (model.Scope K) → X) where
  -- another scope, of which the same is seen
  pub same_put : (es : List (ℕ × model.Scope K)) (s : ℕ) (x y : model.Scope K) → at es s ≡ Some x → look (Some y) ≡ look (Some x) → (t : ℕ) → look (at (put es s y) t) ≡ look (at es t)
  same_put es s x y here same t =
      by_test (nat_eq s t)
      (
      λ q.
      ap look (at_put_here es s y t q)
      ∙ same
      ∙ sym (ap look (ap (λ (n : ℕ). at es n) (sym (eqb-true s t q)) ∙ here))
      )
      (λ q. ap look (at_put_other es s y t q))

  -- another scope
  pub seen_put : (es : List (ℕ × model.Scope K)) (s : ℕ) (y : model.Scope K) (t : ℕ) → look (at (put es s y) t) ≡ (if nat_eq s t then look (Some y) else look (at es t))
  seen_put es s y t =
      by_test (nat_eq s t)
      (λ q. ap look (at_put_here es s y t q) ∙ sym (pick_true (look (Some y)) (look (at es t)) q))
      (λ q. ap look (at_put_other es s y t q) ∙ sym (pick_false (look (Some y)) (look (at es t)) q))

  -- one more at the end, of which nothing is seen
  pub same_pushed : (es : List (ℕ × model.Scope K)) (s : ℕ) (x : model.Scope K) → look (Some x) ≡ look None → (t : ℕ) → look (at (es ++ (s, x) ∷ []) t) ≡ look (at es t)
  same_pushed [] s x none t = by (nat_eq s t)
    where
      by : (b : Bool) → look (if b then Some x else None) ≡ look None
      by true = none
      by false = refl
  same_pushed (e ∷ es) s x none t = by (nat_eq e.0 t) (same_pushed es s x none t)
    where
      by : (b : Bool) → look (at (es ++ (s, x) ∷ []) t) ≡ look (at es t) → look (if b then Some e.1 else at (es ++ (s, x) ∷ []) t) ≡ look (if b then Some e.1 else at es t)
      by true rest = refl
      by false rest = rest

  -- one that is gone
  pub seen_without : (es : List (ℕ × model.Scope K)) (s t : ℕ) → look (at (without es s) t) ≡ (if nat_eq s t then look None else look (at es t))
  seen_without es s t =
      by_test (nat_eq s t)
      (λ q. ap look (at_without_here es s t q) ∙ sym (pick_true (look None) (look (at es t)) q))
      (λ q. ap look (at_without_other es s t q) ∙ sym (pick_false (look None) (look (at es t)) q))

module _ {P C Q V H T E L : Type 0} {X : Type 0} (look : Option (model.Scope (types C Q V H T E L)) → X) where
  -- a change of a scope that leaves what is seen
  pub same_changed : (R : Scope P C Q V H T E L → Scope P C Q V H T E L → Type 0) (old new : List (ℕ × Scope P C Q V H T E L)) (s : ℕ)
      → (at old s ≡ None → new ≡ old)
      → ((x : Scope P C Q V H T E L) → at old s ≡ Some x → (y : Scope P C Q V H T E L) × R x y × (new ≡ put old s y))
      → ((x y : Scope P C Q V H T E L) → R x y → look (Some (scope_of y)) ≡ look (Some (scope_of x)))
      → (t : ℕ) → look (at (each scope_of new) t) ≡ look (at (each scope_of old) t)
  same_changed R old new s absent changed stay t = by (at old s) refl
    where
      by : (o : Option (Scope P C Q V H T E L)) → at old s ≡ o → look (at (each scope_of new) t) ≡ look (at (each scope_of old) t)
      by None e = ap (λ (es : List (ℕ × Scope P C Q V H T E L)). look (at (each scope_of es) t)) (absent e)
      by (Some x) e =
          let made = changed x e in
          ap (λ (es : List (ℕ × Scope P C Q V H T E L)). look (at (each scope_of es) t)) made.2
          ∙ ap (λ (es : List (ℕ × model.Scope (types C Q V H T E L))). look (at es t)) (put-each scope_of old s made.0)
          ∙ same_put look (each scope_of old) s (scope_of x) (scope_of made.0)
          (at-each scope_of old s ∙ ap (λ (o : Option (Scope P C Q V H T E L)). option_map scope_of o) e)
          (stay x made.0 made.1) t

  -- a scope comes, of which nothing is seen
  pub same_come : (old new : List (ℕ × Scope P C Q V H T E L)) (s : ℕ) (x : Scope P C Q V H T E L) → new ≡ old ++ (s, x) ∷ [] → look (Some (scope_of x)) ≡ look None
      → (t : ℕ) → look (at (each scope_of new) t) ≡ look (at (each scope_of old) t)
  same_come old new s x is none t =
      ap (λ (es : List (ℕ × Scope P C Q V H T E L)). look (at (each scope_of es) t)) is
      ∙ ap (λ (es : List (ℕ × model.Scope (types C Q V H T E L))). look (at es t)) (append-each scope_of old ((s, x) ∷ []))
      ∙ same_pushed look (each scope_of old) s (scope_of x) none t

  -- a number joins a side of a scope, of which the same is seen
  pub same_numbered : (old new : List (ℕ × Scope P C Q V H T E L)) (s : ℕ) (side : model.SideName) (e : tree.Place × tree.Kind × ℕ) → is_some (at old s) ≡ true
      → ((x : Scope P C Q V H T E L) → at old s ≡ Some x → each scope_of new ≡ put (each scope_of old) s (more_number side e (scope_of x)))
      → ((x : model.Scope (types C Q V H T E L)) → look (Some (more_number side e x)) ≡ look (Some x))
      → (t : ℕ) → look (at (each scope_of new) t) ≡ look (at (each scope_of old) t)
  same_numbered old new s side e live made stay t = by (at old s) refl live
    where
      by : (o : Option (Scope P C Q V H T E L)) → at old s ≡ o → is_some o ≡ true → look (at (each scope_of new) t) ≡ look (at (each scope_of old) t)
      by None here q = absurd (cc q)
      by (Some x) here q =
          ap (λ (es : List (ℕ × model.Scope (types C Q V H T E L))). look (at es t)) (made x here)
          ∙ same_put look (each scope_of old) s (scope_of x) (more_number side e (scope_of x))
          (at-each scope_of old s ∙ ap (λ (f : Option (Scope P C Q V H T E L)). option_map scope_of f) here) (stay (scope_of x)) t

  -- another scope under a number
  pub seen_changed : (R : Scope P C Q V H T E L → Scope P C Q V H T E L → Type 0) (old new : List (ℕ × Scope P C Q V H T E L)) (s : ℕ) (found : Scope P C Q V H T E L)
      → Some found ≡ at old s
      → ((x : Scope P C Q V H T E L) → at old s ≡ Some x → (y : Scope P C Q V H T E L) × R x y × (new ≡ put old s y))
      → (v : X) → ((x y : Scope P C Q V H T E L) → R x y → look (Some (scope_of y)) ≡ v)
      → (t : ℕ) → look (at (each scope_of new) t) ≡ (if nat_eq s t then v else look (at (each scope_of old) t))
  seen_changed R old new s found there changed v step t =
      let made = changed found (sym there) in
      ap (λ (es : List (ℕ × Scope P C Q V H T E L)). look (at (each scope_of es) t)) made.2
      ∙ ap (λ (es : List (ℕ × model.Scope (types C Q V H T E L))). look (at es t)) (put-each scope_of old s made.0)
      ∙ seen_put look (each scope_of old) s (scope_of made.0) t
      ∙ ap (λ (w : X). if nat_eq s t then w else look (at (each scope_of old) t)) (step found made.0 made.1)

  -- a scope goes
  pub seen_gone : (old new : List (ℕ × Scope P C Q V H T E L)) (s : ℕ) → new ≡ without old s → (t : ℕ) → look (at (each scope_of new) t) ≡ (if nat_eq s t then look None else look (at (each scope_of old) t))
  seen_gone old new s is t =
      ap (λ (es : List (ℕ × Scope P C Q V H T E L)). look (at (each scope_of es) t)) is
      ∙ ap (λ (es : List (ℕ × model.Scope (types C Q V H T E L))). look (at es t)) (without-each scope_of old s)
      ∙ seen_without look (each scope_of old) s t
