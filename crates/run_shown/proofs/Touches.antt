-- Scopes that a unit may have changed are gathered with those above them; all others show what they did.
use Rattle.std.proofs.Common.{ℕ, Bool, true, false, ◌||◌, List, [], ◌∷◌, ◌++◌, ◌≡◌, nat_eq, refl, subst, sym, ap, ◌∙◌, ◌+◌, ◌<◌, ◌≤◌, take, drop, length, get_or}
use Rattle.std.specs.Prelude.{IfOk, IfSome, Option, Result, Some, None, option_map, if◌then◌else◌}
use Rattle.std.proofs.lemmas.List.{drop_all, drop_more}
use Rattle.rt_lemmas.proofs.Numbers.{eq_same as itself, eq_is as same_number}
use Rattle.rt_lemmas.proofs.Options.{some_is as one_some, none_is as none_some}
use Rattle.rt_lemmas.proofs.Bools.{clash_back as absurd_test}
use Rattle.rt_model.specs.OneLog.{types}
use Rattle.rt_model.specs.Lists.{at, has}
use Rattle.rt_model.specs.State as state
use Rattle.rt_model.specs.State.{parent_of}
use Rattle.rt_model.proofs.Maps.{by_test}
use Rattle.run_shown.specs.declared.look.Look.{Look}
use Rattle.run_shown.specs.declared.look.Stood.{Stood}
use Rattle.run_shown.specs.Look.{Sight, ShowsScopes, look_at, look_parent, sight_in, sight_of}
use Rattle.run_shown.specs.Stands.{Stands}
use Rattle.run_shown.specs.Touched.{Climbs, Covers, Reaches, Stays}

or_right : (a : Bool) {b : Bool} → b ≡ true → (a || b) ≡ true
or_right true h = refl
or_right false h = h

or_left : {a : Bool} (b : Bool) → a ≡ true → (a || b) ≡ true
or_left b h = rw h refl

-- among these are all of those
abbrev pub Within : List ℕ → List ℕ → Type 0
Within xs ys = (t : ℕ) → has xs t ≡ true → has ys t ≡ true

-- one more number
abbrev pub Gains : List ℕ → ℕ → List ℕ → Type 0
Gains xs n ys = (t : ℕ) → has ys t ≡ (nat_eq n t || has xs t)

gains_own : (xs ys : List ℕ) (n : ℕ) → Gains xs n ys → has ys n ≡ true
gains_own xs ys n more = more n ∙ or_left (has xs n) (itself n)

gains_all : (xs ys : List ℕ) (n : ℕ) → Gains xs n ys → Within xs ys
gains_all xs ys n more t h = more t ∙ or_right (nat_eq n t) h

gains_case : {A : Type 0} (xs ys : List ℕ) (n t : ℕ) → Gains xs n ys → has ys t ≡ true → (n ≡ t → A) → (has xs t ≡ true → A) → A
gains_case xs ys n t more h one others =
    by_test (nat_eq n t) (λ q. one (same_number n t q)) (λ q. others (sym (ap (λ b. b || has xs t) q) ∙ sym (more t) ∙ h))

module _ {P C Q V H T E L : Type 0} (look : Look P C Q V H T E L) where
  -- the way up has come to a scope: with that one, and those above it, all that is asked would be there
  pub record Comes (former scopes : List ℕ) (s next : ℕ) : Type 0 where
    pub others : Within former scopes
    pub own : (all : List ℕ) → Within scopes all → has all next ≡ true → has all s ≡ true
    pub above : Climbs look former former → (all : List ℕ) → Within scopes all → has all next ≡ true → Climbs look scopes all

  pub comes_first : (former : List ℕ) (s : ℕ) → Comes former former s s
  comes_first former s = record {
    others = λ t h. h;
    own = λ all within here. here;
    above = λ closed all within here t p h up. within p (closed t p h up);
  }

  -- it is there already
  pub reaches_there : (former scopes new : List ℕ) (s next : ℕ) → Comes former scopes s next → Gains scopes next new → has scopes next ≡ true → Reaches former new look s
  reaches_there former scopes new s next h more there =
      let all : Within scopes new = gains_all scopes new next more in
      let back : Within new scopes = λ t q. gains_case scopes new next t more q (λ e. ap (λ n. has scopes n) (sym e) ∙ there) (λ k. k) in
      record {
        own = h.own new all (all next there);
        others = λ t q. all t (h.others t q);
        above = λ closed t p q up. h.above closed new all (all next there) t p (back t q) up;
      }

  -- it has no parent
  pub reaches_top : (former scopes new : List ℕ) (s next : ℕ) → Comes former scopes s next → Gains scopes next new → look_parent look next ≡ None → Reaches former new look s
  reaches_top former scopes new s next h more top =
      let all : Within scopes new = gains_all scopes new next more in
      let here : has new next ≡ true = gains_own scopes new next more in
      record {
        own = h.own new all here;
        others = λ t q. all t (h.others t q);
        above = λ closed t p q up.
            gains_case scopes new next t more q
            (λ e. none_some p (sym top ∙ ap (λ n. look_parent look n) e ∙ up))
            (λ k. h.above closed new all here t p k up);
      }

  -- it has one, which comes next
  pub comes_on : (former scopes new : List ℕ) (s next parent : ℕ) → Comes former scopes s next → Gains scopes next new → look_parent look next ≡ Some parent → Comes former new s parent
  comes_on former scopes new s next parent h more is =
      let all : Within scopes new = gains_all scopes new next more in
      let here : has new next ≡ true = gains_own scopes new next more in
      record {
        others = λ t q. all t (h.others t q);
        own = λ xs within there. h.own xs (λ t q. within t (all t q)) (within next here);
        above = λ closed xs within there t p q up.
            gains_case scopes new next t more q
            (λ e. ap (λ n. has xs n) (one_some (sym up ∙ ap (λ n. look_parent look n) (sym e) ∙ is)) ∙ there)
            (λ k. h.above closed xs (λ u r. within u (all u r)) (within next here) t p k up);
      }

  -- what was changed so far is there, with what is above it
  pub record Gathers (scopes : List ℕ) (stood left : List (ℕ × Option (Stood P C Q V H T E L))) : Type 0 where
    pub changed : (all : List ℕ) → Within scopes all → ((s : ℕ) (o : Option (Stood P C Q V H T E L)) → at left s ≡ Some o → has all s ≡ true)
        → (s : ℕ) (o : Option (Stood P C Q V H T E L)) → at stood s ≡ Some o → has all s ≡ true
    pub above : Climbs look scopes scopes

  pub gathers_first : (stood : List (ℕ × Option (Stood P C Q V H T E L))) (scopes : List ℕ) → scopes ≡ [] → Gathers scopes stood stood
  gathers_first stood scopes none = record {
    changed = λ all within rest. rest;
    above = λ t p h up. absurd_test (has scopes t) (ap (λ xs. has xs t) none) h;
  }

  one_of : (e : ℕ × Option (Stood P C Q V H T E L)) (left : List (ℕ × Option (Stood P C Q V H T E L))) (all : List ℕ) → has all e.0 ≡ true
      → ((s : ℕ) (o : Option (Stood P C Q V H T E L)) → at left s ≡ Some o → has all s ≡ true)
      → (s : ℕ) (o : Option (Stood P C Q V H T E L)) → at (e ∷ left) s ≡ Some o → has all s ≡ true
  one_of e left all own rest s o some =
      by_test (nat_eq e.0 s)
      (λ q. ap (λ n. has all n) (sym (same_number e.0 s q)) ∙ own)
      (λ q. rest s o (sym (ap (λ b. if b then Some e.1 else at left s) q) ∙ some))

  pub gathers_more : (stood : List (ℕ × Option (Stood P C Q V H T E L))) (i : ℕ) (e : ℕ × Option (Stood P C Q V H T E L)) (scopes new : List ℕ) → i < length stood → e ≡ get_or stood i e
      → Gathers scopes stood (drop i stood) → Reaches scopes new look e.0 → Gathers new stood (drop (i + 1) stood)
  gathers_more stood i e scopes new low is h reaches =
      let split : drop i stood ≡ e ∷ drop (i + 1) stood = drop_more stood i e low ∙ ap (λ x. x ∷ drop (i + 1) stood) (sym is) in
      record {
        changed = λ all within rest.
            h.changed all (λ t q. within t (reaches.others t q))
            (λ s o some. one_of e (drop (i + 1) stood) all (within e.0 reaches.own) rest s o (ap (λ xs. at xs s) (sym split) ∙ some));
        above = reaches.above h.above;
      }

  pub covers_all : (stood : List (ℕ × Option (Stood P C Q V H T E L))) (i : ℕ) (scopes : List ℕ) → length stood ≤ i → Gathers scopes stood (drop i stood) → Covers scopes stood look
  covers_all stood i scopes end h =
      let none : drop i stood ≡ [] = drop_all i stood end in
      record {
        changed = h.changed scopes (λ t q. q) (λ s o some. none_some o (sym (ap (λ xs. at xs s) none) ∙ some));
        above = h.above;
      }

  -- of one scope alone
  pub covers_one : (e : ℕ × Option (Stood P C Q V H T E L)) (former scopes : List ℕ) → former ≡ [] → Reaches former scopes look e.0 → Covers scopes (e ∷ []) look
  covers_one e former scopes none reaches = record {
    changed = one_of e [] scopes reaches.own (λ s o some. none_some o some);
    above = reaches.above (λ t p h up. absurd_test (has former t) (ap (λ xs. has xs t) none) h);
  }

  -- of the same rows
  pub touched_of : {F : Type 0} (r : Result (Option (List ℕ)) F) (rows stood : List (ℕ × Option (Stood P C Q V H T E L))) → rows ≡ stood
      → IfOk r (λ found. IfSome found (λ scopes. Covers scopes rows look)) → IfOk r (λ found. IfSome found (λ scopes. Covers scopes stood look))
  touched_of r rows stood is h = subst (λ xs. IfOk r (λ found. IfSome found (λ scopes. Covers scopes xs look))) is h

  -- of no scope
  pub covers_none : (scopes : List ℕ) → scopes ≡ [] → Covers scopes [] look
  covers_none scopes none = record {
    changed = λ s o some. none_some o some;
    above = λ t p h up. absurd_test (has scopes t) (ap (λ xs. has xs t) none) h;
  }

module _ {C Q V H T E L : Type 0} where
  scope_parent : (o : Option (state.Scope (types C Q V H T E L))) → elim (option_map sight_of o) as (λ x. Option ℕ) [ None ↦ None | Some x ↦ x.parent ] ≡ elim o as (λ x. Option ℕ) [ None ↦ None | Some x ↦ x.parent ]
  scope_parent None = refl
  scope_parent (Some x) = refl

module _ {P C Q V H T E L : Type 0} where
  stood_parent : (o : Option (Stood P C Q V H T E L)) → elim o as (λ x. Option ℕ) [ None ↦ None | Some x ↦ x.parent ] ≡ elim (option_map sight_in o) as (λ x. Option ℕ) [ None ↦ None | Some x ↦ x.parent ]
  stood_parent None = refl
  stood_parent (Some x) = refl

  parents_agree : (look : Look P C Q V H T E L) (v : state.State (types C Q V H T E L)) → ShowsScopes look v → (s : ℕ) → look_parent look s ≡ parent_of v.scopes s
  parents_agree look v h s =
      stood_parent (look_at look s)
      ∙ ap (λ (o : Option (Sight (types C Q V H T E L))). elim o as (λ x. Option ℕ) [ None ↦ None | Some x ↦ x.parent ]) (h.each s)
      ∙ scope_parent (at v.scopes s)

  -- what is among none of them shows what it did
  pub stays_by : (scopes : List ℕ) (stood : List (ℕ × Option (Stood P C Q V H T E L))) (after : Look P C Q V H T E L) (w v : state.State (types C Q V H T E L))
      → Covers scopes stood after → Stands stood w.scopes v.scopes → ShowsScopes after v → Stays w v (λ s. has scopes s)
  stays_by scopes stood after w v covers stands shows = record {
    alike = λ s out. sym (stands.others s (kept_none s out (at stood s) refl));
    above = λ t s q up. covers.above t s q (parents_agree after v shows t ∙ up);
  }
    where
      kept_none : (s : ℕ) → has scopes s ≡ false → (o : Option (Option (Stood P C Q V H T E L))) → at stood s ≡ o → at stood s ≡ None
      kept_none s out None is = is
      kept_none s out (Some x) is = absurd_test (has scopes s) out (covers.changed s x is)
