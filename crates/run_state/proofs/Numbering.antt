-- A number joins a side of a live scope.
use Rattle.std.proofs.Common.{◌≡◌, ℕ, true, false, List, [], ◌∷◌, refl, ap, sym, ◌∙◌}
use Rattle.std.specs.Borrow.{Bor}
use Rattle.std.specs.Prelude.{Option, Some, None, is_some, option_map}
use Rattle.std.specs.Option.{option_copied}
use Rattle.rt_model.specs.Lists.{at, put}
use Rattle.rt_model.specs.OneLog.{types}
use Rattle.rt_model.specs.Tree.{Types, Place, Kind}
use Rattle.rt_model.specs.State as model
use Rattle.rt_model.specs.State.{change, changed_scope}
use Rattle.run_records.specs.Kept.{each, scope_of}
use Rattle.run_records.specs.declared.rest.Scope.{Scope}
use Rattle.run_owed.specs.Lists.{values_of}
use Rattle.run_owed.proofs.Tables.{values_put}
use Rattle.run_state.specs.Heights.{height_in, heights_of}
use Rattle.run_state.specs.Mounts.{way_in, ways_in, ways_of}
use Rattle.run_state.specs.Mirror.{Unkept, at_first, state_of}
use Rattle.run_state.specs.Sides.{more_number}
use Rattle.run_state.specs.declared.state.State.{State}
use Rattle.run_state.proofs.Each.{at-each, live-each, put-each}
use Rattle.run_state.proofs.Unchanged.{put-same}

-- nothing stands where a look finds nothing
pub none_there : {A : Type 0} (es : List (ℕ × A)) (n : ℕ) (found : Option (Bor A)) → option_copied found ≡ at es n → is_some found ≡ false → at es n ≡ None
none_there es n None is q = sym is
none_there es n (Some a) is q = absurd (cc q)

module _ {K : Types} where
  -- nothing changes where the scope isn't live
  pub not_numbered : (w : model.State K) (s : ℕ) (h : model.Scope K → model.Scope K) → model.is_live w s ≡ false → w ≡ change w s h
  not_numbered w s h none = by (at w.scopes s) none
    where
      by : (o : Option (model.Scope K)) → is_some o ≡ false → w ≡ changed_scope w s h o
      by None q = refl
      by (Some x) q = absurd (cc q)

module _ {K : Types} where
  abbrev height_at : model.Scope K → ℕ
  height_at x = x.height

  -- one more number leaves the height
  height_more : (side : model.SideName) (e : Place × Kind × ℕ) (x : model.Scope K) → height_at (more_number side e x) ≡ height_at x
  height_more model.MainSide e x = refl
  height_more model.ChildrenSide e x = refl
  height_more model.FallbackSide e x = refl

module _ {K : Types} where
  -- one more number leaves what says where a scope shows
  way_more : (side : model.SideName) (e : Place × Kind × ℕ) (x : model.Scope K) → way_in (more_number side e x) ≡ way_in x
  way_more model.MainSide e x = refl
  way_more model.ChildrenSide e x = refl
  way_more model.FallbackSide e x = refl

  ways_numbered : (old new : List (ℕ × model.Scope K)) (s : ℕ) (side : model.SideName) (e : Place × Kind × ℕ) (x : model.Scope K) → at old s ≡ Some x → new ≡ put old s (more_number side e x) → ways_in new ≡ ways_in old
  ways_numbered old new s side e x live made =
      ap (λ (es : List (ℕ × model.Scope K)). ways_in es) made
      ∙ put-each way_in old s (more_number side e x)
      ∙ ap (λ w. put (ways_in old) s w) (way_more side e x)
      ∙ put-same (ways_in old) s (way_in x) (at-each way_in old s ∙ ap (λ (o : Option (model.Scope K)). option_map way_in o) live)

module _ {P C Q V H T E L : Type 0} where
  pub ways_drawn : (old new : List (ℕ × Scope P C Q V H T E L)) (s : ℕ) (side : model.SideName) (e : Place × Kind × ℕ) → is_some (at old s) ≡ true
      → ((x : Scope P C Q V H T E L) → at old s ≡ Some x → each scope_of new ≡ put (each scope_of old) s (more_number side e (scope_of x))) → ways_of new ≡ ways_of old
  ways_drawn old new s side e live made = by (at old s) refl live
    where
      by : (o : Option (Scope P C Q V H T E L)) → at old s ≡ o → is_some o ≡ true → ways_of new ≡ ways_of old
      by None here q = absurd (cc q)
      by (Some x) here q =
          ways_numbered (each scope_of old) (each scope_of new) s side e (scope_of x) (at-each scope_of old s ∙ ap (λ (f : Option (Scope P C Q V H T E L)). option_map scope_of f) here) (made x here)

module _ {P C Q V H T E L : Type 0} where
  -- the heights of a table are those that the model has
  heights_each : (es : List (ℕ × Scope P C Q V H T E L)) → values_of height_at (each scope_of es) ≡ heights_of es
  heights_each [] = refl
  heights_each (e ∷ es) = ap (λ (rest : List (ℕ × ℕ)). (e.0, height_in e.1) ∷ rest) (heights_each es)

  -- a live scope is in the table
  pub scope_there : (d : State P C Q V H T E L) (s : ℕ) → model.is_live (state_of at_first d) s ≡ true → is_some (at (d.rows).table s) ≡ true
  scope_there d s live = sym (live-each scope_of (d.rows).table s) ∙ live

  pub numbered_same : (old new : List (ℕ × Scope P C Q V H T E L)) (s : ℕ) (side : model.SideName) (e : Place × Kind × ℕ) → is_some (at old s) ≡ true
      → ((x : Scope P C Q V H T E L) → at old s ≡ Some x → each scope_of new ≡ put (each scope_of old) s (more_number side e (scope_of x))) → heights_of new ≡ heights_of old
  numbered_same old new s side e live made = by (at old s) refl live
    where
      by : (o : Option (Scope P C Q V H T E L)) → at old s ≡ o → is_some o ≡ true → heights_of new ≡ heights_of old
      by None here q = absurd (cc q)
      by (Some x) here q =
          sym (heights_each new)
          ∙ ap (λ (es : List (ℕ × model.Scope (types C Q V H T E L))). values_of height_at es) (made x here)
          ∙ values_put height_at (each scope_of old) s (more_number side e (scope_of x)) (scope_of x)
          (at-each scope_of old s ∙ ap (λ (f : Option (Scope P C Q V H T E L)). option_map scope_of f) here) (height_more side e (scope_of x))
          ∙ heights_each old

  pub numbered_state : (g : Unkept (types C Q V H T E L)) (d : State P C Q V H T E L) (new : List (ℕ × Scope P C Q V H T E L)) (s : ℕ) (side : model.SideName) (e : Place × Kind × ℕ) → is_some (at (d.rows).table s) ≡ true
      → ((x : Scope P C Q V H T E L) → at (d.rows).table s ≡ Some x → each scope_of new ≡ put (each scope_of (d.rows).table) s (more_number side e (scope_of x)))
      → record (state_of g d) { scopes = each scope_of new } ≡ change (state_of g d) s (λ x. more_number side e x)
  numbered_state g d new s side e live made = by (at (d.rows).table s) refl live
    where
      by : (o : Option (Scope P C Q V H T E L)) → at (d.rows).table s ≡ o → is_some o ≡ true → record (state_of g d) { scopes = each scope_of new } ≡ change (state_of g d) s (λ x. more_number side e x)
      by None here q = absurd (cc q)
      by (Some x) here q =
          let w : model.State (types C Q V H T E L) = state_of g d in
          ap (λ (es : List (ℕ × model.Scope (types C Q V H T E L))). let v : model.State (types C Q V H T E L) = record w { scopes = es } in v) (made x here)
          ∙ sym (
          ap (λ (o : Option (model.Scope (types C Q V H T E L))). changed_scope w s (λ y. more_number side e y) o)
          (at-each scope_of (d.rows).table s ∙ ap (λ (f : Option (Scope P C Q V H T E L)). option_map scope_of f) here)
          )
