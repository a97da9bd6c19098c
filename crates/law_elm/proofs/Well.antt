-- A fact of each scope that is there, and of each cell with its owner, and changes of a state that keep it.
use Rattle.std.proofs.Common.{ℕ, ◌≤◌, Bool, true, false, not, ◌||◌, List, [], ◌∷◌, ◌++◌, ◌≡◌, refl, sym, ap, ◌∙◌, subst, nat_eq}
use Rattle.std.proofs.lemmas.Bool.{eqb-true}
use Rattle.std.specs.Prelude.{Option, Some, None, is_some}
use Rattle.std.specs.List.{AllByRecursion}
use Rattle.rt_model.specs.Lists.{at, put, without, kept_by}
use Rattle.rt_model.specs.Tree.{Types}
use Rattle.rt_model.specs.State.{CellRow, Scope, State, changed_scope, change, is_live, is_shown}
use Rattle.rt_model.specs.Commands.{released}
use Rattle.rt_model.specs.Replay.{mounted, mounted_state}
use Rattle.rt_model.proofs.Maps.{by_test, eq_same, pick_true, pick_false, at_here, at_there, at_put_here, at_put_other, at_without_other}
use Rattle.law_reduce.proofs.Owners.{owners_in, owners_of}
use Rattle.law_elm.proofs.Each.{Each, each_same, each_put, each_without, each_released, each_mounted}

module _ {K : Types} where
  -- what lives goes on to
  abbrev pub Lives : State K → State K → Type 0
  Lives w v = (n : ℕ) → is_live w n ≡ true → is_live v n ≡ true

  same_live : (w v : State K) → v.scopes ≡ w.scopes → Lives w v
  same_live w v same = λ n h. ap (λ (es : List (ℕ × Scope K)). is_some (at es n)) same ∙ h

  put_live : (w : State K) (s : ℕ) (y : Scope K) → Lives w (record w { scopes = put w.scopes s y })
  put_live w s y = λ n h.
      by_test (nat_eq s n)
      (λ q. ap (λ (o : Option (Scope K)). is_some o) (at_put_here w.scopes s y n q))
      (λ q. ap (λ (o : Option (Scope K)). is_some o) (at_put_other w.scopes s y n q) ∙ h)

  released_live : (es : List (ℕ × Scope K)) (t n : ℕ) → is_some (at es n) ≡ true → is_some (at (released es t) n) ≡ true
  released_live [] t n h = h
  released_live (e ∷ es) t n h =
      let row : Scope K = record (e.1) { holders = kept_by (λ d. not (nat_eq d.0 t)) (e.1).holders } in
      by_test (nat_eq e.0 n)
      (λ q. ap (λ (o : Option (Scope K)). is_some o) (at_here e.0 row (released es t) n q))
      (
      λ q.
      ap (λ (o : Option (Scope K)). is_some o) (at_there e.0 row (released es t) n q)
      ∙ released_live es t n (sym (ap (λ (o : Option (Scope K)). is_some o) (at_there e.0 e.1 es n q)) ∙ h)
      )

  mounted_live : (w : State K) (es : List (ℕ × Scope K)) (n : ℕ) → is_some (at es n) ≡ true → is_some (at (mounted w es) n) ≡ true
  mounted_live w [] n h = h
  mounted_live w (e ∷ es) n h =
      let row : Scope K = record (e.1) { mounted = (e.1).mounted || is_shown w e.0 } in
      by_test (nat_eq e.0 n)
      (λ q. ap (λ (o : Option (Scope K)). is_some o) (at_here e.0 row (mounted w es) n q))
      (
      λ q.
      ap (λ (o : Option (Scope K)). is_some o) (at_there e.0 row (mounted w es) n q)
      ∙ mounted_live w es n (sym (ap (λ (o : Option (Scope K)). is_some o) (at_there e.0 e.1 es n q)) ∙ h)
      )

  -- a change of a scope brings none to life
  pub live_changed : (w : State K) (s : ℕ) (f : Scope K → Scope K) (n : ℕ) → is_live (change w s f) n ≡ true → is_live w n ≡ true
  live_changed w s f n h = on (at w.scopes s) refl h
    where
      on : (o : Option (Scope K)) → at w.scopes s ≡ o → is_live (changed_scope w s f o) n ≡ true → is_live w n ≡ true
      on None e g = g
      on (Some x) e g =
          by_test (nat_eq s n)
          (λ q. ap (λ (o : Option (Scope K)). is_some o) (ap (λ (m : ℕ). at w.scopes m) (sym (eqb-true s n q)) ∙ e))
          (λ q. ap (λ (o : Option (Scope K)). is_some o) (sym (at_put_other w.scopes s (f x) n q)) ∙ g)

module _ {K : Types} (R : ℕ → Scope K → Type 0) (C : ℕ → ℕ → Type 0) (bound : ℕ) where
  -- what is said of a cell: its number and its owner, which is live
  abbrev pub Owns : State K → ℕ × ℕ → Type 0
  Owns w e = C e.0 e.1 × (is_live w e.1 ≡ true)

  abbrev pub OwnAll : State K → List (ℕ × ℕ) → Type 0
  OwnAll w os = AllByRecursion (λ (e : ℕ × ℕ). Owns w e) os

  -- so it is of all that are there, and numbers of scopes were drawn up to a bound
  pub record Well (w : State K) : Type 0 where
    pub rows : Each R w
    pub cells : OwnAll w (owners_of w)
    pub drawn : bound ≤ w.next_scope

  pub own_on : (w v : State K) → Lives w v → (os : List (ℕ × ℕ)) → OwnAll w os → OwnAll v os
  own_on w v lives [] h = tt
  own_on w v lives (e ∷ os) h = (((h.0).0, lives e.1 (h.0).1), own_on w v lives os h.1)

  -- the same owners
  owned : (w v : State K) → Lives w v → owners_of v ≡ owners_of w → Well w → OwnAll v (owners_of v)
  owned w v lives same h = subst (λ (os : List (ℕ × ℕ)). OwnAll v os) (sym same) (own_on w v lives (owners_of w) h.cells)

  drawn_on : (w v : State K) → v.next_scope ≡ w.next_scope → Well w → bound ≤ v.next_scope
  drawn_on w v same h = subst (λ (n : ℕ). bound ≤ n) (sym same) h.drawn

  pub well_same : (w v : State K) → v.scopes ≡ w.scopes → owners_of v ≡ owners_of w → v.next_scope ≡ w.next_scope → Well w → Well v
  well_same w v same cells next h =
      record { rows = each_same R w v same h.rows; cells = owned w v (same_live w v same) cells h; drawn = drawn_on w v next h }

  -- another record of a scope
  pub well_put : (w : State K) (s : ℕ) (y : Scope K) → R s y → Well w → Well (record w { scopes = put w.scopes s y })
  well_put w s y fine h =
      record { rows = each_put R w s y fine h.rows; cells = owned w (record w { scopes = put w.scopes s y }) (put_live w s y) refl h; drawn = h.drawn }

  pub well_change : (w : State K) (s : ℕ) (f : Scope K → Scope K) → ((x : Scope K) → R s x → R s (f x)) → Well w → Well (change w s f)
  well_change w s f keeps h = on (at w.scopes s) refl
    where
      on : (o : Option (Scope K)) → at w.scopes s ≡ o → Well (changed_scope w s f o)
      on None e = h
      on (Some x) e = well_put w s (f x) (keeps x (h.rows s x e)) h

  -- one cell more
  more_owners : (es : List (ℕ × CellRow K)) (n s : ℕ) (v : K.Value) → owners_in (es ++ (n, record { owner = s; value = v }) ∷ []) ≡ owners_in es ++ (n, s) ∷ []
  more_owners [] n s v = refl
  more_owners (e ∷ es) n s v = ap (λ (os : List (ℕ × ℕ)). (e.0, (e.1).owner) ∷ os) (more_owners es n s v)

  one_more : (w : State K) (os : List (ℕ × ℕ)) (e : ℕ × ℕ) → OwnAll w os → Owns w e → OwnAll w (os ++ e ∷ [])
  one_more w [] e h g = (g, tt)
  one_more w (d ∷ os) e h g = (h.0, one_more w os e h.1 g)

  pub well_cell : (w : State K) (s n : ℕ) (v : K.Value) → C n s → is_live w s ≡ true → Well w → Well (record w { cells = w.cells ++ (n, record { owner = s; value = v }) ∷ [] })
  well_cell w s n v may live h =
      let u : State K = record w { cells = w.cells ++ (n, record { owner = s; value = v }) ∷ [] } in
      record {
        rows = h.rows;
        cells =
            subst (λ (os : List (ℕ × ℕ)). OwnAll u os) (sym (more_owners w.cells n s v))
            (one_more u (owners_of w) (n, s) (own_on w u (λ m q. q) (owners_of w) h.cells) (may, live));
        drawn = h.drawn;
      }

  -- a task that ends
  pub well_released : (w v : State K) (t : ℕ) → v.scopes ≡ released w.scopes t → owners_of v ≡ owners_of w → v.next_scope ≡ w.next_scope
      → ((n : ℕ) (x : Scope K) → R n x → R n (record x { holders = kept_by (λ d. not (nat_eq d.0 t)) x.holders }))
      → Well w
      → Well v
  well_released w v t same cells next keeps h =
      record {
        rows = each_released R w v t same keeps h.rows;
        cells = owned w v (λ n q. ap (λ (es : List (ℕ × Scope K)). is_some (at es n)) same ∙ released_live w.scopes t n q) cells h;
        drawn = drawn_on w v next h;
      }

  -- what is mounted
  pub well_mounted : (w : State K) → ((n : ℕ) (x : Scope K) (b : Bool) → R n x → R n (record x { mounted = b })) → Well w → Well (mounted_state w)
  well_mounted w keeps h =
      record {
        rows = each_mounted R w (mounted_state w) refl keeps h.rows;
        cells = owned w (mounted_state w) (λ n q. mounted_live w w.scopes n q) refl h;
        drawn = h.drawn;
      }

  -- a scope that goes, with its cells
  pub well_gone : (w v : State K) (s : ℕ) → v.scopes ≡ without w.scopes s → v.cells ≡ kept_by (λ e. not (nat_eq (e.1).owner s)) w.cells → v.next_scope ≡ w.next_scope → Well w → Well v
  well_gone w v s same cells next h =
      record {
        rows = each_without R w v s same h.rows;
        cells = subst (λ (es : List (ℕ × CellRow K)). OwnAll v (owners_in es)) (sym cells) (left w.cells h.cells);
        drawn = drawn_on w v next h;
      }
    where
      stays : (o : ℕ) → nat_eq o s ≡ false → is_live w o ≡ true → is_live v o ≡ true
      stays o other live =
          by_test (nat_eq s o)
          (λ q. let absurdity : true ≡ false = sym (ap (λ (n : ℕ). nat_eq o n) (eqb-true s o q) ∙ eq_same o) ∙ other in cc)
          (λ q. ap (λ (es : List (ℕ × Scope K)). is_some (at es o)) same ∙ ap (λ (x : Option (Scope K)). is_some x) (at_without_other w.scopes s o q) ∙ live)

      left : (es : List (ℕ × CellRow K)) → OwnAll w (owners_in es) → OwnAll v (owners_in (kept_by (λ e. not (nat_eq (e.1).owner s)) es))
      left [] g = tt
      left (e ∷ es) g =
          by_test (nat_eq (e.1).owner s)
          (
          λ q.
          subst (λ (ds : List (ℕ × CellRow K)). OwnAll v (owners_in ds))
          (sym (pick_false (e ∷ kept_by (λ d. not (nat_eq (d.1).owner s)) es) (kept_by (λ d. not (nat_eq (d.1).owner s)) es) (ap (λ (b : Bool). not b) q)))
          (left es g.1)
          )
          (
          λ q.
          subst (λ (ds : List (ℕ × CellRow K)). OwnAll v (owners_in ds))
          (sym (pick_true (e ∷ kept_by (λ d. not (nat_eq (d.1).owner s)) es) (kept_by (λ d. not (nat_eq (d.1).owner s)) es) (ap (λ (b : Bool). not b) q)))
          (((g.0).0, stays (e.1).owner q (g.0).1), left es g.1)
          )
