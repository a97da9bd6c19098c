-- Scopes become mounted one after another, and what shows doesn't hang on that.
use Rattle.std.proofs.Common.{◌≡◌, ℕ, zero, suc, ◌+◌, ◌<◌, Bool, true, false, ◌&&◌, ◌||◌, List, [], ◌∷◌, length, get_or, drop, map, nat_eq, refl, ap, sym, ◌∙◌}
use Rattle.std.specs.Prelude.{is_some, Option, Some, None, Result, Ok, Err, OnOk, option_map, remove, if◌then◌else◌}
use Rattle.std.specs.List.{list_any}
use Rattle.std.proofs.lemmas.Bool.{eqb-true, or_parts}
use Rattle.std.proofs.lemmas.List.{drop_more}
use Rattle.rt_lemmas.proofs.Bools.{or_none as set_before, or_all as set_after, or_assoc as set_twice}
use Rattle.rt_model.specs.Lists.{at, has, or_else, put}
use Rattle.rt_model.specs.OneLog.{types}
use Rattle.rt_model.specs.Tree.{Types}
use Rattle.rt_model.specs.State as model
use Rattle.rt_model.specs.State.{SideName, height_of, shown_at, shown_from, is_shown, is_side}
use Rattle.rt_model.specs.Replay.{mounted, mounted_state}
use Rattle.rt_model.proofs.Maps.{at_here, at_there, by_test, eq_same, pick_false, pick_true}
use Rattle.rt_model.proofs.Members.{by_either, clash, turned_round}
use Rattle.run_records.specs.Kept.{each, scope_of}
use Rattle.run_records.specs.declared.rest.Scope.{Scope}
use Rattle.run_owed.specs.Lists.{EachOnce, numbers_of}
use Rattle.run_owed.proofs.Tables.{numbers_has}
use Rattle.run_state.specs.Mirror.{Unkept, scopes_of, state_of}
use Rattle.run_state.specs.Mounts.{IsWaiting, Way, covers, hides, mounted_by, mounts_in, shown_in, way_of, ways_in, ways_of}
use Rattle.run_state.specs.declared.state.State.{State}
use Rattle.run_state.proofs.Each.{at-each, live-each}
use Rattle.run_state.proofs.Climbed.{live_shows}
use Rattle.run_state.proofs.Waiting.{held_covered, rows_apart, scope_mounted, way_at}
use Rattle.run_state.proofs.Ways.{any_one, both_second, hides_unshown}

module _ {K : Types} where
  -- a scope, whether it is mounted or not
  abbrev bare : model.Scope K → model.Scope K
  bare x = record x { mounted = false }

  module _ (scopes : List (ℕ × model.Scope K)) where
    height_bare : (s : ℕ) → height_of (each bare scopes) s ≡ height_of scopes s
    height_bare s = ap (λ o. elim o as (λ _. ℕ) [ None ↦ 0 | Some x ↦ x.height ]) (at-each bare scopes s) ∙ same (at scopes s)
      where
        same : (o : Option (model.Scope K)) → elim (option_map bare o) as (λ _. ℕ) [ None ↦ 0 | Some x ↦ x.height ] ≡ elim o as (λ _. ℕ) [ None ↦ 0 | Some x ↦ x.height ]
        same None = refl
        same (Some x) = refl

    up_bare : (n p : ℕ) (below : SideName) → shown_from (each bare scopes) n p ≡ shown_from scopes n p → (o : Option (model.Scope K))
        → elim (option_map bare o) as (λ _. Bool) [ None ↦ false | Some y ↦ is_side y.shows below && shown_from (each bare scopes) n p ]
        ≡ elim o as (λ _. Bool) [ None ↦ false | Some y ↦ is_side y.shows below && shown_from scopes n p ]
    up_bare n p below rest None = refl
    up_bare n p below rest (Some y) = ap (λ b. is_side y.shows below && b) rest

    way_bare : (n : ℕ) → ((p : ℕ) → shown_from (each bare scopes) n p ≡ shown_from scopes n p) → (below : SideName) (o : Option ℕ)
        → shown_at (each bare scopes) (λ p. shown_from (each bare scopes) n p) below o ≡ shown_at scopes (λ p. shown_from scopes n p) below o
    way_bare n rest below None = refl
    way_bare n rest below (Some p) =
        ap (λ o. elim o as (λ _. Bool) [ None ↦ false | Some y ↦ is_side y.shows below && shown_from (each bare scopes) n p ]) (at-each bare scopes p)
        ∙ up_bare n p below (rest p) (at scopes p)

    step_bare : (n : ℕ) → ((p : ℕ) → shown_from (each bare scopes) n p ≡ shown_from scopes n p) → (o : Option (model.Scope K))
        → elim (option_map bare o) as (λ _. Bool) [ None ↦ false | Some x ↦ shown_at (each bare scopes) (λ p. shown_from (each bare scopes) n p) x.below x.parent ]
        ≡ elim o as (λ _. Bool) [ None ↦ false | Some x ↦ shown_at scopes (λ p. shown_from scopes n p) x.below x.parent ]
    step_bare n rest None = refl
    step_bare n rest (Some x) = way_bare n rest x.below x.parent

    from_bare : (n s : ℕ) → shown_from (each bare scopes) n s ≡ shown_from scopes n s
    from_bare zero s = refl
    from_bare (suc n) s =
        ap (λ o. elim o as (λ _. Bool) [ None ↦ false | Some x ↦ shown_at (each bare scopes) (λ p. shown_from (each bare scopes) n p) x.below x.parent ]) (at-each bare scopes s)
        ∙ step_bare n (λ p. from_bare n p) (at scopes s)

    -- what shows doesn't hang on what is mounted
    shown_bare : (s : ℕ) → shown_in (each bare scopes) s ≡ shown_in scopes s
    shown_bare s =
        (λ i. live-each bare scopes s i && shown_from (each bare scopes) (height_bare s i) s)
        ∙ ap (λ b. is_some (at scopes s) && b) (from_bare (height_of scopes s) s)

first_or_rest : (q h t : Bool) → ((h && t) || ((q || false) && t)) ≡ ((q || h) && t)
first_or_rest true true true = refl
first_or_rest true true false = refl
first_or_rest true false true = refl
first_or_rest true false false = refl
first_or_rest false true true = refl
first_or_rest false true false = refl
first_or_rest false false true = refl
first_or_rest false false false = refl

-- what holds of any outcome holds of one that came off
pub whatever : {U X A : Type 0} (r : Result U X) → A → OnOk r A
whatever (Ok u) a = a
whatever (Err e) a = tt

-- what stands later in a list in which no number stands twice
later_one : {A : Type 0} (e : ℕ × A) (es : List (ℕ × A)) (n : ℕ) (x : A) → has (numbers_of es) e.0 ≡ false → at es n ≡ Some x → at (e ∷ es) n ≡ Some x
later_one e es n x none there =
    by_test (nat_eq e.0 n)
    (
    λ q.
    clash
    (ap (λ k. has (numbers_of es) k) (eqb-true e.0 n q) ∙ numbers_has es n ∙ ap (λ o. is_some o) there)
    none
    )
    (λ q. at_there e.0 e.1 es n q ∙ there)

module _ {K : Types} where
  -- a scope that isn't mounted is fresh, or doesn't show
  covered_flag : (scopes : List (ℕ × model.Scope K)) (fresh : List ℕ) (hidden : List (ℕ × ℕ)) (s : ℕ) (x : model.Scope K) → at scopes s ≡ Some x
      → covers (ways_in scopes) fresh hidden x.height s ≡ true → (has fresh s && shown_in scopes s) ≡ shown_in scopes s
  covered_flag scopes fresh hidden s x stood h =
      by_either (has fresh s) (list_any (λ e. nat_eq e.1 s && hides (ways_in scopes) e.0 x.height s) hidden) h
      (λ q. ap (λ b. b && shown_in scopes s) q)
      (
      λ q.
      let one = any_one (λ e. nat_eq e.1 s && hides (ways_in scopes) e.0 x.height s) hidden q in
      let unshown : shown_from scopes x.height s ≡ false =
      hides_unshown scopes (one.0).0 x.height s (both_second (nat_eq (one.0).1 s) (hides (ways_in scopes) (one.0).0 x.height s) one.1) in
      let none : shown_in scopes s ≡ false = sym (live_shows scopes s x false stood (sym unshown)) in
      ap (λ b. has fresh s && b) none ∙ none_of (has fresh s) ∙ sym none
      )
    where
      none_of : (b : Bool) → (b && false) ≡ false
      none_of true = refl
      none_of false = refl

module _ {P C Q V H T E L : Type 0} where
  -- a scope with this flag
  abbrev marked : ℕ × Scope P C Q V H T E L → Bool → ℕ × Scope P C Q V H T E L
  marked e b = (e.0, record (e.1) { rest = record (e.1.rest) { mounted = b } })

  -- whatever becomes mounted, what shows stays
  bare_by : (of : ℕ × Scope P C Q V H T E L → Bool) (es : List (ℕ × Scope P C Q V H T E L)) → each bare (scopes_of (map (λ e. mounted_by (of e) e) es)) ≡ each bare (scopes_of es)
  bare_by of [] = refl
  bare_by of (e ∷ es) = ap (λ rest. (e.0, bare (scope_of e.1)) ∷ rest) (bare_by of es)

  shown_by : (of : ℕ × Scope P C Q V H T E L → Bool) (es : List (ℕ × Scope P C Q V H T E L)) (s : ℕ) → shown_in (scopes_of (map (λ e. mounted_by (of e) e) es)) s ≡ shown_in (scopes_of es) s
  shown_by of es s =
      sym (shown_bare (scopes_of (map (λ e. mounted_by (of e) e) es)) s) ∙ ap (λ ys. shown_in ys s) (bare_by of es) ∙ shown_bare (scopes_of es) s

  -- what showed before some became mounted does so then
  pub shows_then : (start new : List (ℕ × Scope P C Q V H T E L)) (ns : List ℕ) → new ≡ map (mounts_in (scopes_of start) ns) start
      → (s : ℕ) → shown_in (scopes_of start) s ≡ true → shown_in (scopes_of new) s ≡ true
  shows_then start new ns is s shows =
      ap (λ (es : List (ℕ × Scope P C Q V H T E L)). shown_in (scopes_of es) s) is
      ∙ shown_by (λ e. has ns e.0 && shown_in (scopes_of start) e.0) start s
      ∙ shows

  -- a number more
  module _ (all now : List (ℕ × model.Scope (types C Q V H T E L))) (same : (s : ℕ) → shown_in now s ≡ shown_in all s) (ns : List ℕ) (n : ℕ) where
    next_row : (e : ℕ × Scope P C Q V H T E L) → mounts_in now (n ∷ []) (mounts_in all ns e) ≡ mounts_in all (n ∷ ns) e
    next_row e =
        let m : Bool = (e.1.rest).mounted in
        let h : Bool = has ns e.0 in
        let q : Bool = nat_eq n e.0 in
        let t : Bool = shown_in all e.0 in
        ap (λ b. marked e b)
        (
        ap (λ u. (m || (h && t)) || ((q || false) && u)) (same e.0)
        ∙ set_twice m (h && t) ((q || false) && t)
        ∙ ap (λ b. m || b) (first_or_rest q h t)
        )

    next_rows : (es : List (ℕ × Scope P C Q V H T E L)) → map (mounts_in now (n ∷ [])) (map (mounts_in all ns) es) ≡ map (mounts_in all (n ∷ ns)) es
    next_rows [] = refl
    next_rows (e ∷ es) = λ i. next_row e i ∷ next_rows es i

  -- none of them
  pub mounts_none : (all : List (ℕ × model.Scope (types C Q V H T E L))) (es : List (ℕ × Scope P C Q V H T E L)) → es ≡ map (mounts_in all []) es
  mounts_none all [] = refl
  mounts_none all (e ∷ es) = λ i. marked e (sym (set_before (e.1.rest).mounted) i) ∷ mounts_none all es i

  -- one more step of the loop, from behind
  pub mount_step : (start now new : List (ℕ × Scope P C Q V H T E L)) (unmounted : List ℕ) (i k : ℕ) (n : ℕ) → i < length unmounted → k ≡ i + 1 → n ≡ get_or unmounted i 0
      → now ≡ map (mounts_in (scopes_of start) (drop k unmounted)) start
      → new ≡ map (mounts_in (scopes_of now) (n ∷ [])) now
      → new ≡ map (mounts_in (scopes_of start) (drop i unmounted)) start
  mount_step start now new unmounted i k n within next own so_far one =
      let all : List (ℕ × model.Scope (types C Q V H T E L)) = scopes_of start in
      let ns : List ℕ = drop k unmounted in
      let shows : (s : ℕ) → shown_in (scopes_of now) s ≡ shown_in all s =
      λ s. ap (λ (es : List (ℕ × Scope P C Q V H T E L)). shown_in (scopes_of es) s) so_far ∙ shown_by (λ e. has ns e.0 && shown_in all e.0) start s in
      one
      ∙ ap (λ (es : List (ℕ × Scope P C Q V H T E L)). map (mounts_in (scopes_of now) (n ∷ [])) es) so_far
      ∙ next_rows all (scopes_of now) shows ns n start
      ∙ ap (λ (ms : List ℕ). map (mounts_in all ms) start)
      (ap (λ m. m ∷ drop k unmounted) own ∙ ap (λ j. get_or unmounted i 0 ∷ drop j unmounted) next ∙ sym (drop_more unmounted i 0 within))

  -- all that are fresh are gone through
  module _ (w : model.State (types C Q V H T E L)) (rows : List (ℕ × Scope P C Q V H T E L)) (same : w.scopes ≡ scopes_of rows) (fresh : List ℕ) (hidden : List (ℕ × ℕ))
      (covered : (s : ℕ) (x : Way) → at (ways_of rows) s ≡ Some x → x.mounted ≡ false → covers (ways_of rows) fresh hidden x.height s ≡ true) where
    own_flag : (e : ℕ × Scope P C Q V H T E L) → at rows e.0 ≡ Some e.1 → (m : Bool) → (e.1.rest).mounted ≡ m → (m || (has fresh e.0 && shown_in w.scopes e.0)) ≡ (m || is_shown w e.0)
    own_flag e stood true is = refl
    own_flag e stood false is =
        ap (λ scopes. has fresh e.0 && shown_in scopes e.0) same
        ∙ covered_flag (scopes_of rows) fresh hidden e.0 (scope_of e.1) (at-each scope_of rows e.0 ∙ ap (λ (o : Option (Scope P C Q V H T E L)). option_map scope_of o) stood) (covered e.0 (way_of e.1) (way_at rows e.0 e.1 stood) is)
        ∙ ap (λ scopes. shown_in scopes e.0) (sym same)

    all_of_them : (es : List (ℕ × Scope P C Q V H T E L)) → EachOnce (numbers_of es) → ((n : ℕ) (x : Scope P C Q V H T E L) → at es n ≡ Some x → at rows n ≡ Some x)
        → scopes_of (map (mounts_in w.scopes fresh) es) ≡ mounted w (scopes_of es)
    all_of_them [] once among = refl
    all_of_them (e ∷ es) once among =
        let stood : at rows e.0 ≡ Some e.1 = among e.0 e.1 (at_here e.0 e.1 es e.0 (eq_same e.0)) in
        λ i.
        (e.0, record (scope_of e.1) { mounted = own_flag e stood (e.1.rest).mounted refl i })
        ∷ all_of_them es once.1 (λ n x there. among n x (later_one e es n x once.0 there)) i

  -- where no index is left
  pub mount_end : (g : Unkept (types C Q V H T E L)) (start : State P C Q V H T E L) (now : List (ℕ × Scope P C Q V H T E L)) (v : model.State (types C Q V H T E L)) (k : ℕ)
      → v ≡ record (state_of g start) { scopes = scopes_of now } → k ≡ 0
      → now ≡ map (mounts_in (scopes_of (start.rows).table) (drop k start.fresh)) (start.rows).table
      → v ≡ mounted_state (state_of g start)
  mount_end g start now v k same none done =
      let w : model.State (types C Q V H T E L) = state_of g start in
      let rows : List (ℕ × Scope P C Q V H T E L) = (start.rows).table in
      same
      ∙ ap (λ es. let u : model.State (types C Q V H T E L) = record w { scopes = scopes_of es } in u) (done ∙ ap (λ j. map (mounts_in (scopes_of rows) (drop j start.fresh)) rows) none)
      ∙ ap (λ es. let u : model.State (types C Q V H T E L) = record w { scopes = es } in u)
      (
      all_of_them w rows refl start.fresh start.hidden (λ s x there unmounted. held_covered (ways_of rows) start.fresh start.hidden start.next_scope start.waiting s x there unmounted) rows
      (rows_apart rows start.fresh start.hidden start.next_scope start.waiting) (λ n x there. there)
      )

  -- a scope of its own number alone becomes mounted, where it shows
  rest_stays : (all : List (ℕ × model.Scope (types C Q V H T E L))) (n : ℕ) (es : List (ℕ × Scope P C Q V H T E L)) → has (numbers_of es) n ≡ false → es ≡ map (mounts_in all (n ∷ [])) es
  rest_stays all n [] none = refl
  rest_stays all n (e ∷ es) none =
      let parts = or_parts (nat_eq e.0 n) (has (numbers_of es) n) none in
      let m : Bool = (e.1.rest).mounted in
      λ i. marked e ((sym (set_before m) ∙ sym (ap (λ q. m || ((q || false) && shown_in all e.0)) (turned_round e.0 n parts.0))) i) ∷ rest_stays all n es parts.1 i

  one_shown : (all : List (ℕ × model.Scope (types C Q V H T E L))) (n : ℕ) (es : List (ℕ × Scope P C Q V H T E L)) (x : Scope P C Q V H T E L) → EachOnce (numbers_of es) → at es n ≡ Some x → shown_in all n ≡ true
      → put es n (record x { rest = record (x.rest) { mounted = true } }) ≡ map (mounts_in all (n ∷ [])) es
  one_shown all n [] x once live shows = absurd (cc live)
  one_shown all n (e ∷ es) x once live shows =
      by_test (nat_eq e.0 n)
      (
      λ q.
      let is : e.0 ≡ n = eqb-true e.0 n q in
      let own : Some e.1 ≡ Some x = sym (pick_true (Some e.1) (at es n) q) ∙ live in
      let y : Scope P C Q V H T E L = record x { rest = record (x.rest) { mounted = true } } in
      pick_true ((n, y) ∷ es) (e ∷ put es n y) q
      ∙ ap (λ (o : Option (Scope P C Q V H T E L)). (n, mounting (or_else x o)) ∷ es) (sym own)
      ∙ ap (λ k. (k, mounting e.1) ∷ es) (sym is)
      ∙ (λ i. marked e (head e is i) ∷ rest_stays all n es (ap (λ k. has (numbers_of es) k) (sym is) ∙ once.0) i)
      )
      (
      λ q.
      let y : Scope P C Q V H T E L = record x { rest = record (x.rest) { mounted = true } } in
      let m : Bool = (e.1.rest).mounted in
      pick_false ((n, y) ∷ es) (e ∷ put es n y) q
      ∙ (
      λ i.
      marked e ((sym (set_before m) ∙ sym (ap (λ b. m || ((b || false) && shown_in all e.0)) (turned_round e.0 n q))) i)
      ∷ one_shown all n es x once.1 (sym (pick_false (Some e.1) (at es n) q) ∙ live) shows i
      )
      )
    where
      mounting : Scope P C Q V H T E L → Scope P C Q V H T E L
      mounting z = record z { rest = record (z.rest) { mounted = true } }

      -- the flag of the scope itself
      head : (d : ℕ × Scope P C Q V H T E L) → d.0 ≡ n → true ≡ ((d.1.rest).mounted || ((nat_eq n d.0 || false) && shown_in all d.0))
      head d is =
          sym (set_after (d.1.rest).mounted)
          ∙ ap (λ b. (d.1.rest).mounted || ((b || false) && true)) (sym (ap (λ k. nat_eq n k) is ∙ eq_same n))
          ∙ ap (λ b. (d.1.rest).mounted || ((nat_eq n d.0 || false) && b)) (sym (ap (λ k. shown_in all k) is ∙ shows))

  -- a scope that doesn't show stays
  hidden_stays : (all : List (ℕ × model.Scope (types C Q V H T E L))) (n : ℕ) (es : List (ℕ × Scope P C Q V H T E L)) → shown_in all n ≡ false → es ≡ map (mounts_in all (n ∷ [])) es
  hidden_stays all n [] hidden = refl
  hidden_stays all n (e ∷ es) hidden =
      λ i. marked e (flag i) ∷ hidden_stays all n es hidden i
    where
      own : (b : Bool) → nat_eq n e.0 ≡ b → ((b || false) && shown_in all e.0) ≡ false
      own true q = ap (λ k. shown_in all k) (sym (eqb-true n e.0 q)) ∙ hidden
      own false q = refl

      flag : (e.1.rest).mounted ≡ ((e.1.rest).mounted || ((nat_eq n e.0 || false) && shown_in all e.0))
      flag = sym (set_before (e.1.rest).mounted) ∙ ap (λ b. (e.1.rest).mounted || b) (sym (own (nat_eq n e.0) refl))

  pub mount_hidden : (rows : List (ℕ × Scope P C Q V H T E L)) (n m : ℕ) → n ≡ m → shown_in (scopes_of rows) n ≡ false → rows ≡ map (mounts_in (scopes_of rows) (m ∷ [])) rows
  mount_hidden rows n m is hidden = hidden_stays (scopes_of rows) m rows (ap (λ k. shown_in (scopes_of rows) k) (sym is) ∙ hidden)

  -- what shows is live
  pub shown_live : (rows : List (ℕ × Scope P C Q V H T E L)) (n : ℕ) → shown_in (scopes_of rows) n ≡ true → is_some (at rows n) ≡ true
  shown_live rows n shows = sym (live-each scope_of rows n) ∙ both_first (is_some (at (scopes_of rows) n)) (shown_from (scopes_of rows) (height_of (scopes_of rows) n) n) shows
    where
      both_first : (a b : Bool) → (a && b) ≡ true → a ≡ true
      both_first true b is = refl
      both_first false b is = absurd (cc is)

  -- the change of a scope that shows, by a closure whose work is known
  module _ (R : Scope P C Q V H T E L → Scope P C Q V H T E L → Type 0) (rows new : List (ℕ × Scope P C Q V H T E L)) (n : ℕ)
      (shows : shown_in (scopes_of rows) n ≡ true)
      (changed : (x : Scope P C Q V H T E L) → at rows n ≡ Some x → (y : Scope P C Q V H T E L) × R x y × (new ≡ put rows n y))
      (step : (x y : Scope P C Q V H T E L) → R x y → y ≡ record x { rest = record (x.rest) { mounted = true } }) where
    -- the scope itself, before and after
    found : (x : Scope P C Q V H T E L) × (at rows n ≡ Some x) × (new ≡ put rows n (record x { rest = record (x.rest) { mounted = true } }))
    found = by (at rows n) refl (shown_live rows n shows)
      where
        by : (o : Option (Scope P C Q V H T E L)) → at rows n ≡ o → is_some o ≡ true → (x : Scope P C Q V H T E L) × (at rows n ≡ Some x) × (new ≡ put rows n (record x { rest = record (x.rest) { mounted = true } }))
        by None here q = absurd (cc q)
        by (Some x) here q = let made = changed x here in (x, here, made.2 ∙ ap (λ y. put rows n y) (step x made.0 made.1))

    pub mount_shows : (m : ℕ) → n ≡ m → EachOnce (numbers_of rows) → new ≡ map (mounts_in (scopes_of rows) (m ∷ [])) rows
    mount_shows m is once =
        found.2 ∙ one_shown (scopes_of rows) n rows found.0 once found.1 shows ∙ ap (λ k. map (mounts_in (scopes_of rows) (k ∷ [])) rows) is

    pub mount_waits : (fresh less : List ℕ) (hidden : List (ℕ × ℕ)) (bound i : ℕ) → get_or fresh i 0 ≡ n → less ≡ remove fresh i → IsWaiting (ways_of rows) fresh hidden bound → IsWaiting (ways_of new) less hidden bound
    mount_waits fresh less hidden bound i own taken h =
        scope_mounted rows new fresh less hidden bound n i found.0 (record (found.0) { rest = record ((found.0).rest) { mounted = true } }) found.1 found.2 refl own taken h
