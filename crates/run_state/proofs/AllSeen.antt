-- Every live scope is seen.
use Rattle.std.proofs.Common.{◌≡◌, ℕ, true, List, [], ◌∷◌, refl, ap, sym, ◌∙◌, nat_eq}
use Rattle.std.specs.Prelude.{is_some}
use Rattle.rt_model.specs.Lists.{at, has, join}
use Rattle.rt_model.specs.OneLog.{types}
use Rattle.rt_model.specs.Tree.{Types}
use Rattle.rt_model.specs.State as model
use Rattle.rt_model.specs.Sentences.{all_marked_now}
use Rattle.rt_model.proofs.Maps.{eq_same, pick_true}
use Rattle.rt_model.proofs.Members.{or_left, or_right}
use Rattle.run_records.specs.declared.rest.Scope.{Scope}
use Rattle.run_owed.specs.Lists.{joins, numbers_of}
use Rattle.run_owed.proofs.Tables.{numbers_has}
use Rattle.run_state.specs.Mirror.{Unkept, scopes_of, state_of}
use Rattle.run_state.specs.declared.state.State.{State}

module _ {K : Types} where
  -- the state with other seen scopes
  abbrev with_seen : model.State K → List ℕ → model.State K
  with_seen w ns = record w { seen = ns }

  -- those of some rows are seen, which are among the live ones
  marks_all : (es : List (ℕ × model.Scope K)) (w : model.State K) (seen : List ℕ) → ((n : ℕ) → has (numbers_of es) n ≡ true → is_some (at w.scopes n) ≡ true)
      → all_marked_now es (with_seen w seen) ≡ with_seen w (joins seen (numbers_of es))
  marks_all [] w seen live = refl
  marks_all (e ∷ es) w seen live =
      ap (λ (v : model.State K). all_marked_now es v) (pick_true (with_seen w (join seen e.0)) (with_seen w seen) (live e.0 (or_left (nat_eq e.0 e.0) (has (numbers_of es) e.0) (eq_same e.0))))
      ∙ marks_all es w (join seen e.0) (λ n h. live n (or_right (nat_eq e.0 n) (has (numbers_of es) n) h))

module _ {P C Q V H T E L : Type 0} where
  pub numbers_each : (es : List (ℕ × Scope P C Q V H T E L)) → numbers_of (scopes_of es) ≡ numbers_of es
  numbers_each [] = refl
  numbers_each (e ∷ es) = ap (λ (ns : List ℕ). e.0 ∷ ns) (numbers_each es)

  pub all_seen : (g : Unkept (types C Q V H T E L)) (d : State P C Q V H T E L) (seen : List ℕ) → seen ≡ joins (d.owed).seen (numbers_of (d.rows).table)
      → with_seen (state_of g d) seen ≡ all_marked_now (scopes_of (d.rows).table) (state_of g d)
  all_seen g d seen is =
      ap (λ (ns : List ℕ). with_seen (state_of g d) ns) (is ∙ ap (λ (ns : List ℕ). joins (d.owed).seen ns) (sym (numbers_each (d.rows).table)))
      ∙ sym (marks_all (scopes_of (d.rows).table) (state_of g d) (d.owed).seen (λ n h. sym (numbers_has (scopes_of (d.rows).table) n) ∙ h))
