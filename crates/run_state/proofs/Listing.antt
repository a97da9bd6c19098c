-- The scopes that have queued effects are listed, and those that tasks hold paired with these, as scopes change, come and go.
use Rattle.std.proofs.Common.{◌≡◌, ℕ, Bool, true, false, List, [], ◌∷◌, ◌++◌, nat_eq, refl, sym, ap, subst, ◌∙◌}
use Rattle.std.specs.Prelude.{cond, Option, Some, None, is_some, option_map, if◌then◌else◌}
use Rattle.std.specs.BTreeMap.{is_at}
use Rattle.std.specs.List.{list_any}
use Rattle.std.specs.Cmp.{Equal-is}
use Rattle.std.proofs.lemmas.Bool.{eqb-true}
use Rattle.rt_model.specs.Lists.{at, put, without}
use Rattle.rt_model.specs.OneLog.{types}
use Rattle.rt_model.specs.Tree as tree
use Rattle.rt_model.specs.State as model
use Rattle.rt_model.specs.State.{change, changed_scope, height_of, holds}
use Rattle.rt_model.proofs.Maps.{at_put_here, at_put_other, by_test, eq_same, pick_false, pick_true}
use Rattle.run_records.specs.Kept.{each, scope_of}
use Rattle.run_records.specs.declared.rest.Scope.{Scope}
use Rattle.run_places.specs.declared.side.Side.{Side}
use Rattle.run_places.specs.declared.side.SideName.{SideName}
use Rattle.run_places.specs.declared.side.SideName.TheVariants as sides
use Rattle.run_state.specs.Effects.{AreListed, IsListed, has_rank, holds_at, queues_at, queues_some, rank_cmp}
use Rattle.run_state.specs.Sides.{more_number, side_put}
use Rattle.run_state.proofs.Each.{at-each, put-each}
use Rattle.run_state.proofs.Ranked.{rank_exact}
use Rattle.run_state.proofs.Stays.{same_changed, same_come, same_numbered, seen_gone}
use Rattle.run_state.proofs.Unchanged.{put-same}

-- whether there are some, of a scope of a height
abbrev some_of : {E : Type 0} → ℕ → List E → ℕ → Bool
some_of height effects h = elim effects [ [] ↦ false | e ∷ es ↦ nat_eq height h ]

-- whether there are effects, at which height, and which tasks hold
abbrev pub listed_by : {E : Type 0} → ℕ → List E → List (ℕ × ℕ) → (ℕ → Bool) × (ℕ → Bool)
listed_by height effects holders = (λ h. some_of height effects h, λ t. list_any (λ h. nat_eq h.0 t) holders)

module _ {K : tree.Types} where
  abbrev queues_found : ℕ → Option (model.Scope K) → Bool
  queues_found h found = elim found [ None ↦ false | Some x ↦ queues_some x h ]

  abbrev holds_found : ℕ → Option (model.Scope K) → Bool
  holds_found t found = elim found [ None ↦ false | Some x ↦ holds x t ]

  abbrev listed_found : Option (model.Scope K) → (ℕ → Bool) × (ℕ → Bool)
  listed_found found = elim found [ None ↦ (λ h. false, λ t. false) | Some x ↦ listed_by x.height x.effects x.holders ]

  queues_is : (h : ℕ) (o : Option (model.Scope K)) → queues_found h o ≡ (listed_found o).0 h
  queues_is h None = refl
  queues_is h (Some x) = refl

  holds_is : (t : ℕ) (o : Option (model.Scope K)) → holds_found t o ≡ (listed_found o).1 t
  holds_is t None = refl
  holds_is t (Some x) = refl

  -- scopes of which the same is seen
  listed_same : (old new : List (ℕ × model.Scope K)) (effects held : List (ℕ × ℕ)) → ((s : ℕ) → listed_found (at new s) ≡ listed_found (at old s))
      → AreListed old effects held → AreListed new effects held
  listed_same old new effects held same h =
      record {
        each = λ s k q. h.each s k (queues_is k (at old s) ∙ sym (ap (λ p. p.0 k) (same s)) ∙ sym (queues_is k (at new s)) ∙ q);
        pairs = λ s t q. h.pairs s t (holds_is t (at old s) ∙ sym (ap (λ p. p.1 t) (same s)) ∙ sym (holds_is t (at new s)) ∙ q);
      }

  -- one more is listed
  pub listed_more : (scopes : List (ℕ × model.Scope K)) (effects more held : List (ℕ × ℕ)) (s k : ℕ)
      → ((h n : ℕ) → has_rank more h n ≡ cond (is_at (rank_cmp (k, s)) (h, n)) true (has_rank effects h n)) → AreListed scopes effects held → AreListed scopes more held
  listed_more scopes effects more held s k joins was =
      record {
        each = λ t h q. joins h t ∙ either (is_at (rank_cmp (k, s)) (h, t)) (has_rank effects h t) (was.each t h q);
        pairs = was.pairs;
      }
    where
      either : (b o : Bool) → o ≡ true → cond b true o ≡ true
      either true o q = refl
      either false o q = q

  -- one that has none is listed no more
  pub listed_less : (scopes : List (ℕ × model.Scope K)) (effects fewer held : List (ℕ × ℕ)) (s k : ℕ)
      → ((h n : ℕ) → has_rank fewer h n ≡ cond (is_at (rank_cmp (k, s)) (h, n)) false (has_rank effects h n)) → queues_at scopes s k ≡ false
      → AreListed scopes effects held → AreListed scopes fewer held
  listed_less scopes effects fewer held s k left none was =
      record {
        each = λ t h q.
            by_test (is_at (rank_cmp (k, s)) (h, t))
            (
            λ p.
            let same : (k, s) ≡ (h, t) = rank_exact (k, s) (h, t) ((Equal-is (rank_cmp (k, s) (h, t))).0 p) in
            absurd (cc (sym q ∙ ap (λ (r : ℕ × ℕ). queues_at scopes r.1 r.0) (sym same) ∙ none))
            )
            (λ p. left h t ∙ ap (λ b. cond b false (has_rank effects h t)) p ∙ was.each t h q);
        pairs = was.pairs;
      }

  -- whose effects were taken out has none
  pub cleared_none : (w : model.State K) (s h : ℕ) → queues_at (change w s (λ x. record x { effects = [] })).scopes s h ≡ false
  cleared_none w s h = by (at w.scopes s) refl
    where
      by : (o : Option (model.Scope K)) → at w.scopes s ≡ o → queues_at (changed_scope w s (λ x. record x { effects = [] }) o).scopes s h ≡ false
      by None e = ap (λ o. queues_found h o) e
      by (Some x) e = ap (λ o. queues_found h o) (at_put_here w.scopes s (record x { effects = [] }) s (eq_same s))

  -- of a scope that has none, or isn't live, none are taken out
  pub cleared_same : (w : model.State K) (s : ℕ) → queues_at w.scopes s (height_of w.scopes s) ≡ false → w ≡ change w s (λ x. record x { effects = [] })
  cleared_same w s none = by (at w.scopes s) refl none
    where
      as_it_was : (x : model.Scope K) (effects : List K.Effect) → x.effects ≡ effects → some_of x.height effects x.height ≡ false → record x { effects = [] } ≡ x
      as_it_was x [] e q = ap (λ (es : List K.Effect). let y : model.Scope K = record x { effects = es } in y) (sym e)
      as_it_was x (f ∷ fs) e q = absurd (cc (sym (eq_same x.height) ∙ q))

      by : (o : Option (model.Scope K)) → at w.scopes s ≡ o → queues_found (elim o as (λ _. ℕ) [ None ↦ 0 | Some x ↦ x.height ]) o ≡ false
          → w ≡ changed_scope w s (λ x. record x { effects = [] }) o
      by None e q = refl
      by (Some x) e q =
          sym
          (
          ap (λ (es : List (ℕ × model.Scope K)). let v : model.State K = record w { scopes = es } in v)
          (ap (λ (y : model.Scope K). put w.scopes s y) (as_it_was x x.effects refl q) ∙ put-same w.scopes s x e)
          )

  -- who isn't listed has none
  pub unlisted_none : (scopes : List (ℕ × model.Scope K)) (effects held : List (ℕ × ℕ)) (s h : ℕ) → AreListed scopes effects held → has_rank effects h s ≡ false → queues_at scopes s h ≡ false
  unlisted_none scopes effects held s h was out = by_test (queues_at scopes s h) (λ q. absurd (cc (sym (was.each s h q) ∙ out))) (λ q. q)

  -- a scope has queued effects at its own height alone
  queued_height : (x : model.Scope K) (h : ℕ) → queues_some x h ≡ true → x.height ≡ h
  queued_height x h q = by x.effects q
    where
      by : (es : List K.Effect) → some_of x.height es h ≡ true → x.height ≡ h
      by [] p = absurd (cc p)
      by (f ∷ fs) p = eqb-true x.height h p

  -- one more number leaves both
  listed_number : (side : model.SideName) (e : tree.Place × tree.Kind × ℕ) (x : model.Scope K) → listed_found (Some (more_number side e x)) ≡ listed_found (Some x)
  listed_number model.MainSide e x = refl
  listed_number model.ChildrenSide e x = refl
  listed_number model.FallbackSide e x = refl

module _ {P C Q V H T E L : Type 0} where
  -- where there is no scope
  pub listed_empty : (es : List (ℕ × Scope P C Q V H T E L)) (effects held : List (ℕ × ℕ)) → es ≡ [] → AreListed (each scope_of es) effects held
  listed_empty es effects held none =
      subst (λ (fs : List (ℕ × Scope P C Q V H T E L)). AreListed (each scope_of fs) effects held) (sym none) (record { each = λ t h q. absurd (cc q); pairs = λ s t q. absurd (cc q) })

  -- a change of a scope that leaves its effects and holders
  pub listed_changed : (R : Scope P C Q V H T E L → Scope P C Q V H T E L → Type 0) (old new : List (ℕ × Scope P C Q V H T E L)) (s : ℕ) (effects held : List (ℕ × ℕ))
      → (at old s ≡ None → new ≡ old)
      → ((x : Scope P C Q V H T E L) → at old s ≡ Some x → (y : Scope P C Q V H T E L) × R x y × (new ≡ put old s y))
      → ((x y : Scope P C Q V H T E L) → R x y → listed_by (y.rest).height (y.rest).effects (y.rest).holders ≡ listed_by (x.rest).height (x.rest).effects (x.rest).holders)
      → AreListed (each scope_of old) effects held → AreListed (each scope_of new) effects held
  listed_changed R old new s effects held absent changed stay h =
      listed_same (each scope_of old) (each scope_of new) effects held (same_changed (λ o. listed_found o) R old new s absent changed stay) h

  -- another side leaves both
  pub effects_put : (name : SideName) (side : Side P C Q V H T E L) (x : Scope P C Q V H T E L)
      → listed_by ((side_put name side x).rest).height ((side_put name side x).rest).effects ((side_put name side x).rest).holders
      ≡ listed_by (x.rest).height (x.rest).effects (x.rest).holders
  effects_put sides.Main side x = refl
  effects_put sides.Children side x = refl
  effects_put sides.Fallback side x = refl

  -- a scope without effects or holders comes
  pub listed_come : (old new : List (ℕ × Scope P C Q V H T E L)) (s : ℕ) (x : Scope P C Q V H T E L) (effects held : List (ℕ × ℕ)) → new ≡ old ++ (s, x) ∷ []
      → (scope_of x).effects ≡ [] → (scope_of x).holders ≡ [] → AreListed (each scope_of old) effects held → AreListed (each scope_of new) effects held
  listed_come old new s x effects held is none free h =
      listed_same (each scope_of old) (each scope_of new) effects held (same_come (λ o. listed_found o) old new s x is (λ i. listed_by (scope_of x).height (none i) (free i))) h

  -- a number joins a side of a scope
  pub listed_numbered : (old new : List (ℕ × Scope P C Q V H T E L)) (s : ℕ) (side : model.SideName) (e : tree.Place × tree.Kind × ℕ) (effects held : List (ℕ × ℕ)) → is_some (at old s) ≡ true
      → ((x : Scope P C Q V H T E L) → at old s ≡ Some x → each scope_of new ≡ put (each scope_of old) s (more_number side e (scope_of x)))
      → AreListed (each scope_of old) effects held → AreListed (each scope_of new) effects held
  listed_numbered old new s side e effects held live made h =
      listed_same (each scope_of old) (each scope_of new) effects held (same_numbered (λ o. listed_found o) old new s side e live made (λ x. listed_number side e x)) h

  -- a scope goes, and with it its pairs
  pub listed_gone : (old new : List (ℕ × Scope P C Q V H T E L)) (s : ℕ) (effects held fewer : List (ℕ × ℕ)) → new ≡ without old s
      → ((t n : ℕ) → nat_eq s n ≡ false → has_rank fewer t n ≡ has_rank held t n)
      → AreListed (each scope_of old) effects held → AreListed (each scope_of new) effects fewer
  listed_gone old new s effects held fewer is left h =
      record {
        each = λ n k q. one (nat_eq s n) n k (sym (seen_gone (λ o. queues_found k o) old new s is n) ∙ q);
        pairs = λ n t q. other n t (sym (seen_gone (λ o. holds_found t o) old new s is n) ∙ q);
      }
    where
      one : (b : Bool) (n k : ℕ) → (if b then false else queues_at (each scope_of old) n k) ≡ true → has_rank effects k n ≡ true
      one true n k q = absurd (cc q)
      one false n k q = h.each n k q

      other : (n t : ℕ) → (if nat_eq s n then false else holds_at (each scope_of old) n t) ≡ true → has_rank fewer t n ≡ true
      other n t q =
          by_test (nat_eq s n)
          (λ p. absurd (cc (sym (pick_true false (holds_at (each scope_of old) n t) p) ∙ q)))
          (
          λ p. left t n p ∙ h.pairs n t (sym (pick_false false (holds_at (each scope_of old) n t) p) ∙ q)
          )

  -- a change of a scope that stays listed
  pub listed_own : (R : Scope P C Q V H T E L → Scope P C Q V H T E L → Type 0) (old new : List (ℕ × Scope P C Q V H T E L)) (s : ℕ) (effects held : List (ℕ × ℕ))
      → ((x y : Scope P C Q V H T E L) → at old s ≡ Some x → R x y → IsListed effects held s (scope_of x) → IsListed effects held s (scope_of y))
      → (at old s ≡ None → new ≡ old)
      → ((x : Scope P C Q V H T E L) → at old s ≡ Some x → (y : Scope P C Q V H T E L) × R x y × (new ≡ put old s y))
      → AreListed (each scope_of old) effects held → AreListed (each scope_of new) effects held
  listed_own R old new s effects held keeps absent changed h = by (at old s) refl
    where
      by : (o : Option (Scope P C Q V H T E L)) → at old s ≡ o → AreListed (each scope_of new) effects held
      by None e = subst (λ (es : List (ℕ × Scope P C Q V H T E L)). AreListed (each scope_of es) effects held) (sym (absent e)) h
      by (Some x) e =
          let made = changed x e in
          let is : each scope_of new ≡ put (each scope_of old) s (scope_of made.0) = ap (λ (es : List (ℕ × Scope P C Q V H T E L)). each scope_of es) made.2 ∙ put-each scope_of old s made.0 in
          let there : at (each scope_of old) s ≡ Some (scope_of x) = at-each scope_of old s ∙ ap (λ (o : Option (Scope P C Q V H T E L)). elim o as (λ _. Option (model.Scope (types C Q V H T E L))) [ None ↦ None | Some y ↦ Some (scope_of y) ]) e in
          let was : IsListed effects held s (scope_of x) = record {
            queues = λ k q. h.each s k (ap (λ o. queues_found k o) there ∙ q);
            holders = λ t q. h.pairs s t (ap (λ o. holds_found t o) there ∙ q);
          } in
          let now = keeps x made.0 e made.1 was in
          subst (λ (es : List (ℕ × model.Scope (types C Q V H T E L))). AreListed es effects held) (sym is)
          (record {
            each = λ n k q.
                by_test (nat_eq s n)
                (
                λ p.
                ap (λ (m : ℕ). has_rank effects k m) (sym (eqb-true s n p))
                ∙ now.queues k (sym (ap (λ o. queues_found k o) (at_put_here (each scope_of old) s (scope_of made.0) n p)) ∙ q)
                )
                (λ p. h.each n k (sym (ap (λ o. queues_found k o) (at_put_other (each scope_of old) s (scope_of made.0) n p)) ∙ q));
            pairs = λ n t q.
                by_test (nat_eq s n)
                (
                λ p.
                ap (λ (m : ℕ). has_rank held t m) (sym (eqb-true s n p))
                ∙ now.holders t (sym (ap (λ o. holds_found t o) (at_put_here (each scope_of old) s (scope_of made.0) n p)) ∙ q)
                )
                (λ p. h.pairs n t (sym (ap (λ o. holds_found t o) (at_put_other (each scope_of old) s (scope_of made.0) n p)) ∙ q));
          })

  -- a scope that is listed with its height is where it queues effects, as long as the height stays
  pub queued_rank : (rows : List (ℕ × Scope P C Q V H T E L)) (effects : List (ℕ × ℕ)) (s : ℕ) (x y : Scope P C Q V H T E L) (h : ℕ) → at rows s ≡ Some x
      → (y.rest).height ≡ (x.rest).height → has_rank effects (height_of (each scope_of rows) s) s ≡ true → queues_some (scope_of y) h ≡ true → has_rank effects h s ≡ true
  queued_rank rows effects s x y h found level listed q =
      let there : at (each scope_of rows) s ≡ Some (scope_of x) = at-each scope_of rows s ∙ ap (λ (o : Option (Scope P C Q V H T E L)). option_map scope_of o) found in
      let own : height_of (each scope_of rows) s ≡ (x.rest).height =
      ap (λ (o : Option (model.Scope (types C Q V H T E L))). elim o as (λ _. ℕ) [ None ↦ 0 | Some z ↦ z.height ]) there in
      ap (λ (n : ℕ). has_rank effects n s) (sym (own ∙ sym level ∙ queued_height (scope_of y) h q)) ∙ listed
