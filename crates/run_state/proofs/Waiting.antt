-- What isn't mounted, as scopes come, change, become mounted and go.
use Rattle.std.proofs.Common.{◌≡◌, ℕ, zero, suc, ◌+◌, ◌<◌, true, false, List, [], ◌∷◌, ◌++◌, length, get_or, nat_eq, refl, sym, ap, subst, ◌∙◌, arith}
use Rattle.std.proofs.Math.Logic.{∥∥₁_elim}
use Rattle.std.proofs.lemmas.Bool.{lt-ltb, ltb-true}
use Rattle.std.proofs.lemmas.List.{same_from_push}
use Rattle.std.specs.Coded.{Coded-set, coded_bool, ×_prop, Unit-prop}
use Rattle.std.specs.List.{list_any}
use Rattle.std.specs.Prelude.{MatchOption, nat_lt, Option, Some, None, option_map, remove, slice_set}
use Rattle.rt_model.specs.Lists.{at, has, put, without}
use Rattle.rt_model.specs.OneLog.{types}
use Rattle.rt_model.specs.State as model
use Rattle.run_records.specs.Kept.{each, scope_of}
use Rattle.run_records.specs.declared.rest.Scope.{Scope}
use Rattle.run_owed.specs.Lists.{EachOnce, numbers_of}
use Rattle.run_state.specs.Mounts.{IsSeated, IsWaiting, Way, covers, is_above, seatless, sideless, way_in, way_of, ways_of}
use Rattle.run_state.proofs.Each.{append-each, at-each, put-each, without-each}
use Rattle.run_state.proofs.Unchanged.{put-same}
use Rattle.run_state.proofs.Covers.{one_found}
use Rattle.run_state.proofs.Hidings.{one_goes, one_joins, one_mounts, one_seats, one_turns, uncovered}

-- that no number stands twice has one proof
once_one : (ns : List ℕ) (p q : EachOnce ns) → p ≡ q
once_one [] = Unit-prop
once_one (n ∷ ns) = ×_prop (Coded-set coded_bool (has ns n) false) (once_one ns)

module _ (ways : List (ℕ × Way)) (fresh : List ℕ) (hidden : List (ℕ × ℕ)) (bound : ℕ) (held : ∥ IsWaiting ways fresh hidden bound ∥₁) where
  -- what a state keeps of it
  pub held_apart : EachOnce (numbers_of ways)
  held_apart = ∥∥₁_elim held (once_one (numbers_of ways)) (λ h. h.apart)

  pub held_covered : (s : ℕ) (x : Way) → at ways s ≡ Some x → x.mounted ≡ false → covers ways fresh hidden x.height s ≡ true
  held_covered s x is unmounted =
      ∥∥₁_elim held (Coded-set coded_bool (covers ways fresh hidden x.height s) true) (λ h. h.covered s x is unmounted)

-- where what says of scopes where they show stays
pub waits_stay : (new old : List (ℕ × Way)) (fresh : List ℕ) (hidden : List (ℕ × ℕ)) (bound : ℕ) → new ≡ old → ∥ IsWaiting old fresh hidden bound ∥₁ → ∥ IsWaiting new fresh hidden bound ∥₁
waits_stay new old fresh hidden bound same held = subst (λ (ws : List (ℕ × Way)). ∥ IsWaiting ws fresh hidden bound ∥₁) (sym same) held

module _ {A B : Type 0} (f : A → B) where
  -- a change of one row that keeps what each is put through leaves that of all
  put_stays : (old : List (ℕ × A)) (n : ℕ) (x y : A) → at old n ≡ Some x → f y ≡ f x → each f (put old n y) ≡ each f old
  put_stays old n x y is same =
      put-each f old n y
      ∙ ap (λ b. put (each f old) n b) same
      ∙ put-same (each f old) n (f x) (at-each f old n ∙ ap (λ (o : Option A). option_map f o) is)

  pub each_changed : (R : A → A → Type 0) (old new : List (ℕ × A)) (n : ℕ)
      → (at old n ≡ None → new ≡ old)
      → ((x : A) → at old n ≡ Some x → (y : A) × R x y × (new ≡ put old n y))
      → ((x y : A) → R x y → f y ≡ f x)
      → each f new ≡ each f old
  each_changed R old new n absent changed stay = by (at old n) refl
    where
      by : (o : Option A) → at old n ≡ o → each f new ≡ each f old
      by None e = ap (λ (es : List (ℕ × A)). each f es) (absent e)
      by (Some x) e =
          let made = changed x e in
          ap (λ (es : List (ℕ × A)). each f es) made.2 ∙ put_stays old n x made.0 e (stay x made.0 made.1)

  set_stays : (es : List (ℕ × A)) (i : ℕ) (d : ℕ × A) (a : A) → i < length es → f a ≡ f (get_or es i d).1 → each f (slice_set es i ((get_or es i d).0, a)) ≡ each f es
  set_stays [] i d a within same = absurd (omega (arith, within))
  set_stays (e ∷ es) zero d a within same = ap (λ b. (e.0, b) ∷ each f es) same
  set_stays (e ∷ es) (suc i) d a within same = ap (λ (rest : List (ℕ × B)). (e.0, f e.1) ∷ rest) (set_stays es i d a (omega (arith, within)) same)

  pub each_entry : (R : A → A → Type 0) (old new : List (ℕ × A)) (i : ℕ) → i < length old
      → ((row : ℕ × A) → (a : A) × R (get_or old i row).1 a × (new ≡ slice_set old i ((get_or old i row).0, a)))
      → ((x y : A) → R x y → f y ≡ f x)
      → each f new ≡ each f old
  each_entry R [] new i within made stay = absurd (omega (arith, within))
  each_entry R (e ∷ es) new i within made stay =
      let one = made e in
      ap (λ (fs : List (ℕ × A)). each f fs) one.2 ∙ set_stays (e ∷ es) i e one.0 within (stay (get_or (e ∷ es) i e).1 one.0 one.1)

-- each put through two changes
twice_each : {A B C : Type 0} (f : A → B) (h : B → C) (es : List (ℕ × A)) → each h (each f es) ≡ each (λ a. h (f a)) es
twice_each f h [] = refl
twice_each f h (e ∷ es) = ap (λ rest. (e.0, h (f e.1)) ∷ rest) (twice_each f h es)

module _ {P C Q V H T E L : Type 0} where
  pub ways_changed : (R : Scope P C Q V H T E L → Scope P C Q V H T E L → Type 0) (old new : List (ℕ × Scope P C Q V H T E L)) (n : ℕ)
      → (at old n ≡ None → new ≡ old)
      → ((x : Scope P C Q V H T E L) → at old n ≡ Some x → (y : Scope P C Q V H T E L) × R x y × (new ≡ put old n y))
      → ((x y : Scope P C Q V H T E L) → R x y → way_of y ≡ way_of x)
      → ways_of new ≡ ways_of old
  ways_changed R old new n absent changed stay =
      twice_each scope_of way_in new ∙ each_changed (λ x. way_of x) R old new n absent changed stay ∙ sym (twice_each scope_of way_in old)

  pub ways_entry : (R : Scope P C Q V H T E L → Scope P C Q V H T E L → Type 0) (old new : List (ℕ × Scope P C Q V H T E L)) (i : ℕ) → i < length old
      → ((row : ℕ × Scope P C Q V H T E L) → (a : Scope P C Q V H T E L) × R (get_or old i row).1 a × (new ≡ slice_set old i ((get_or old i row).0, a)))
      → ((x y : Scope P C Q V H T E L) → R x y → way_of y ≡ way_of x)
      → ways_of new ≡ ways_of old
  ways_entry R old new i within made stay =
      twice_each scope_of way_in new ∙ each_entry (λ x. way_of x) R old new i within made stay ∙ sym (twice_each scope_of way_in old)

-- the number of a parent is below that of its child
pub parent_below : (n : ℕ) (o : Option ℕ) → is_above n o ≡ true → (p : ℕ) → o ≡ Some p → p < n
parent_below n None above p up = absurd (cc up)
parent_below n (Some m) above p up =
    let same : m ≡ p = one_found (Some m) m p refl up in
    let low : m < n = ltb-true m n above in
    omega (arith, same, low)

-- what was put at the end is taken off again
pub taken_off : (all more less : List ℕ) (n : ℕ) (last : Option ℕ) → more ≡ all ++ n ∷ []
    → MatchOption last ((more ≡ []) × (less ≡ [])) (λ m. more ≡ less ++ m ∷ []) → less ≡ all
taken_off all more less n None put_on off = absurd (some_last all (sym put_on ∙ off.0))
  where
    some_last : (ms : List ℕ) → ms ++ n ∷ [] ≡ [] → ⊥
    some_last [] is = cc is
    some_last (m ∷ ms) is = cc is
taken_off all more less n (Some m) put_on off = (same_from_push less all m n (sym off ∙ put_on)).0

numbers_each : {A B : Type 0} (f : A → B) (es : List (ℕ × A)) → numbers_of (each f es) ≡ numbers_of es
numbers_each f [] = refl
numbers_each f (e ∷ es) = ap (λ (ns : List ℕ). e.0 ∷ ns) (numbers_each f es)

module _ {P C Q V H T E L : Type 0} where
  -- no scope waits
  pub none_waits : (rows : List (ℕ × Scope P C Q V H T E L)) (fresh : List ℕ) (hidden : List (ℕ × ℕ)) → rows ≡ [] → fresh ≡ [] → hidden ≡ [] → ∥ IsWaiting (ways_of rows) fresh hidden 0 ∥₁
  none_waits rows fresh hidden empty none bare =
      subst (λ (es : List (ℕ × Scope P C Q V H T E L)). ∥ IsWaiting (ways_of es) fresh hidden 0 ∥₁) (sym empty)
      (subst (λ (ks : List ℕ). ∥ IsWaiting [] ks hidden 0 ∥₁) (sym none) (subst (λ (es : List (ℕ × ℕ)). ∥ IsWaiting [] [] es 0 ∥₁) (sym bare) ∣ nothing ∣₁))
    where
      nothing : IsWaiting [] [] [] 0
      nothing = record { apart = tt; low = λ s x there. absurd (cc there); covered = λ s x there unmounted. absurd (cc there); seated = λ s t x there child. absurd (cc there) }

  ways_more : (rows : List (ℕ × Scope P C Q V H T E L)) (n : ℕ) (x : Scope P C Q V H T E L) → ways_of (rows ++ (n, x) ∷ []) ≡ ways_of rows ++ (n, way_of x) ∷ []
  ways_more rows n x = ap (λ es. each way_in es) (append-each scope_of rows ((n, x) ∷ [])) ∙ append-each way_in (each scope_of rows) ((n, scope_of x) ∷ [])

  ways_put : (rows : List (ℕ × Scope P C Q V H T E L)) (n : ℕ) (x : Scope P C Q V H T E L) → ways_of (put rows n x) ≡ put (ways_of rows) n (way_of x)
  ways_put rows n x = ap (λ es. each way_in es) (put-each scope_of rows n x) ∙ put-each way_in (each scope_of rows) n (scope_of x)

  ways_without : (rows : List (ℕ × Scope P C Q V H T E L)) (n : ℕ) → ways_of (without rows n) ≡ without (ways_of rows) n
  ways_without rows n = ap (λ es. each way_in es) (without-each scope_of rows n) ∙ without-each way_in (each scope_of rows) n

  pub way_at : (rows : List (ℕ × Scope P C Q V H T E L)) (n : ℕ) (x : Scope P C Q V H T E L) → at rows n ≡ Some x → at (ways_of rows) n ≡ Some (way_of x)
  way_at rows n x live =
      at-each way_in (each scope_of rows) n
      ∙ ap (λ (o : Option (model.Scope (types C Q V H T E L))). option_map way_in o) (at-each scope_of rows n)
      ∙ ap (λ (o : Option (Scope P C Q V H T E L)). option_map way_in (option_map scope_of o)) live

  -- the scopes are apart
  pub rows_apart : (rows : List (ℕ × Scope P C Q V H T E L)) (fresh : List ℕ) (hidden : List (ℕ × ℕ)) (bound : ℕ) → ∥ IsWaiting (ways_of rows) fresh hidden bound ∥₁ → EachOnce (numbers_of rows)
  rows_apart rows fresh hidden bound held =
      subst (λ (ks : List ℕ). EachOnce ks) (numbers_each way_in (each scope_of rows) ∙ numbers_each scope_of rows) (held_apart (ways_of rows) fresh hidden bound held)

  -- a scope comes under the next number
  pub scope_waits : (rows new : List (ℕ × Scope P C Q V H T E L)) (fresh more : List ℕ) (hidden : List (ℕ × ℕ)) (next n : ℕ) (x : Scope P C Q V H T E L)
      → new ≡ rows ++ (n, x) ∷ [] → more ≡ fresh ++ n ∷ [] → next ≡ n + 1 → is_above n (way_of x).parent ≡ true → (way_of x).children ≡ []
      → IsWaiting (ways_of rows) fresh hidden n → IsWaiting (ways_of new) more hidden next
  scope_waits rows new fresh more hidden next n x is joined past above bare h =
      one_joins (ways_of rows) (ways_of new) fresh more hidden n next n (way_of x) h (ap (λ (es : List (ℕ × Scope P C Q V H T E L)). ways_of es) is ∙ ways_more rows n x) joined (omega arith) past
      (parent_below n (way_of x).parent above) bare

  -- the number of a live scope is below the next one
  pub row_below : (rows : List (ℕ × Scope P C Q V H T E L)) (fresh : List ℕ) (hidden : List (ℕ × ℕ)) (bound s : ℕ) (x : Scope P C Q V H T E L)
      → ∥ IsWaiting (ways_of rows) fresh hidden bound ∥₁ → at rows s ≡ Some x → nat_lt s bound ≡ true
  row_below rows fresh hidden bound s x held live =
      ∥∥₁_elim held (Coded-set coded_bool (nat_lt s bound) true) (λ h. lt-ltb s bound (h.low s (way_of x) (way_at rows s x live)).0)

  pub scope_left : (rows new : List (ℕ × Scope P C Q V H T E L)) (fresh less : List ℕ) (hidden fewer : List (ℕ × ℕ)) (bound n : ℕ)
      → new ≡ without rows n → ((ws : List (ℕ × Way)) (height s : ℕ) → nat_eq n s ≡ false → covers ws fresh hidden height s ≡ true → covers ws less fewer height s ≡ true)
      → IsWaiting (ways_of rows) fresh hidden bound → IsWaiting (ways_of new) less fewer bound
  scope_left rows new fresh less hidden fewer bound n is left h =
      one_goes (ways_of rows) (ways_of new) fresh less hidden fewer bound n h (ap (λ (es : List (ℕ × Scope P C Q V H T E L)). ways_of es) is ∙ ways_without rows n) left

  pub scope_mounted : (rows new : List (ℕ × Scope P C Q V H T E L)) (fresh less : List ℕ) (hidden : List (ℕ × ℕ)) (bound n i : ℕ) (x y : Scope P C Q V H T E L)
      → at rows n ≡ Some x → new ≡ put rows n y → way_of y ≡ record (way_of x) { mounted = true } → get_or fresh i 0 ≡ n → less ≡ remove fresh i
      → IsWaiting (ways_of rows) fresh hidden bound → IsWaiting (ways_of new) less hidden bound
  scope_mounted rows new fresh less hidden bound n i x y live is like own taken h =
      one_mounts (ways_of rows) (ways_of new) fresh less hidden bound n i (way_of x) h (way_at rows n x live)
      (ap (λ (es : List (ℕ × Scope P C Q V H T E L)). ways_of es) is ∙ ways_put rows n y ∙ ap (λ w. put (ways_of rows) n w) like) own taken

  -- a scope of which another side may show
  pub scope_turned : (R : Scope P C Q V H T E L → Scope P C Q V H T E L → Type 0) (rows new : List (ℕ × Scope P C Q V H T E L)) (fresh more : List ℕ) (hidden fewer : List (ℕ × ℕ)) (bound b : ℕ)
      → ((ws : List (ℕ × Way)) (height s : ℕ) → covers ws fresh hidden height s ≡ true → covers ws more fewer height s ≡ true)
      → list_any (λ e. nat_eq e.0 b) fewer ≡ false
      → (at rows b ≡ None → new ≡ rows)
      → ((x : Scope P C Q V H T E L) → at rows b ≡ Some x → (y : Scope P C Q V H T E L) × R x y × (new ≡ put rows b y))
      → ((x y : Scope P C Q V H T E L) → R x y → sideless y ≡ sideless x)
      → IsWaiting (ways_of rows) fresh hidden bound → IsWaiting (ways_of new) more fewer bound
  scope_turned R rows new fresh more hidden fewer bound b still none absent changed stay h = by (at rows b) refl
    where
      now : IsWaiting (ways_of rows) more fewer bound
      now = uncovered (ways_of rows) fresh more hidden fewer bound still h

      by : (o : Option (Scope P C Q V H T E L)) → at rows b ≡ o → IsWaiting (ways_of new) more fewer bound
      by None e = subst (λ (es : List (ℕ × Scope P C Q V H T E L)). IsWaiting (ways_of es) more fewer bound) (sym (absent e)) now
      by (Some x) e =
          let made = changed x e in
          one_turns (ways_of rows) (ways_of new) more fewer bound b (way_of x) (way_of made.0) now none (way_at rows b x e)
          (ap (λ (es : List (ℕ × Scope P C Q V H T E L)). ways_of es) made.2 ∙ ways_put rows b made.0) (stay x made.0 made.1)

  -- a scope on whose sides other children stand, each of which knows it
  pub scope_seated : (R : Scope P C Q V H T E L → Scope P C Q V H T E L → Type 0) (rows new : List (ℕ × Scope P C Q V H T E L)) (fresh : List ℕ) (hidden : List (ℕ × ℕ)) (bound n : ℕ)
      → (at rows n ≡ None → new ≡ rows)
      → ((x : Scope P C Q V H T E L) → at rows n ≡ Some x → (y : Scope P C Q V H T E L) × R x y × (new ≡ put rows n y))
      → ((x y : Scope P C Q V H T E L) → at rows n ≡ Some x → R x y → seatless y ≡ seatless x)
      → ((x y : Scope P C Q V H T E L) → at rows n ≡ Some x → R x y → IsWaiting (ways_of rows) fresh hidden bound → (t : ℕ) → has (way_of y).children t ≡ true → IsSeated (ways_of rows) bound n t)
      → IsWaiting (ways_of rows) fresh hidden bound → IsWaiting (ways_of new) fresh hidden bound
  scope_seated R rows new fresh hidden bound n absent changed like known h = by (at rows n) refl
    where
      by : (o : Option (Scope P C Q V H T E L)) → at rows n ≡ o → IsWaiting (ways_of new) fresh hidden bound
      by None e = subst (λ (es : List (ℕ × Scope P C Q V H T E L)). IsWaiting (ways_of es) fresh hidden bound) (sym (absent e)) h
      by (Some x) e =
          let made = changed x e in
          one_seats (ways_of rows) (ways_of new) fresh hidden bound n (way_of x) (way_of made.0) h (way_at rows n x e)
          (ap (λ (es : List (ℕ × Scope P C Q V H T E L)). ways_of es) made.2 ∙ ways_put rows n made.0) (like x made.0 e made.1) (known x made.0 e made.1 h)
