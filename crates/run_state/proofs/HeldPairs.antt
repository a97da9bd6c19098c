-- The boundaries that a task holds, met by their pairs: marked, and let go.
use Rattle.std.proofs.Common.{◌≡◌, ℕ, Bool, true, false, cond, List, [], ◌∷◌, ◌++◌, ◌&&◌, map, nat_eq, refl, sym, ap, ◌∙◌, arith}
use Rattle.std.specs.Prelude.{Option, Some, None, is_some, not, if◌then◌else◌}
use Rattle.std.specs.Ordering.{eq_by_cmp, nat_cmp}
use Rattle.std.specs.Cmp.{Equal-is}
use Rattle.std.specs.FinMap.{nat_cmp-IsAntisymmetric}
use Rattle.std.specs.BTreeMap.{is_at}
use Rattle.std.specs.List.{filter, list_any}
use Rattle.std.specs.List.Sorted.{IsStrictlySortedBy}
use Rattle.std.proofs.lemmas.Bool.{eqb-true}
use Rattle.std.proofs.lemmas.Grind.{common_steps}
use Rattle.std.proofs.lemmas.List.Kept.{IsStrictlySortedBy-filter}
use Rattle.rt_lemmas.proofs.Bools.{neither, and_false, and_true}
use Rattle.rt_cells.specs.Index.{passes}
use Rattle.rt_cells.proofs.Linked.{any_and}
use Rattle.rt_cells.proofs.Pairs.{any-filter, any_same}
use Rattle.rt_model.specs.Lists.{at, has, kept_by, put}
use Rattle.rt_model.specs.Tree.{Types}
use Rattle.rt_model.specs.State as model
use Rattle.rt_model.specs.State.{change, changed_scope, holds}
use Rattle.rt_model.specs.Commands.{holding, released}
use Rattle.rt_model.proofs.Maps.{at_put_here, by_test, eq_same, pick_false, pick_true}
use Rattle.run_records.specs.Kept.{scope_of}
use Rattle.run_records.specs.declared.rest.Scope.{Scope}
use Rattle.run_owed.specs.Lists.{EachOnce, numbers_of}
use Rattle.run_owed.proofs.Tables.{numbers_has, numbers_put}
use Rattle.run_table.specs.Found.{Ascends}
use Rattle.run_state.specs.Effects.{AreListed, has_rank, holds_at, rank_cmp}
use Rattle.run_state.specs.Mirror.{scopes_of}
use Rattle.run_state.proofs.Each.{live-each}
use Rattle.run_state.proofs.Risen.{rises, rises_each}
use Rattle.run_state.proofs.Ranked.{rank_exact}
use Rattle.run_state.proofs.Told.{named, rising, same_named}

-- holders without a task have it no more, and the same once more
holds_none : (hs : List (ℕ × ℕ)) (t : ℕ) → list_any (λ h. nat_eq h.0 t) (kept_by (λ h. not (nat_eq h.0 t)) hs) ≡ false
holds_none [] t = refl
holds_none (h ∷ hs) t = grind (arith, common_steps, holds_none hs t)

-- where a task is none of them all are kept
kept_free : (hs : List (ℕ × ℕ)) (t : ℕ) → list_any (λ h. nat_eq h.0 t) hs ≡ false → kept_by (λ h. not (nat_eq h.0 t)) hs ≡ hs
kept_free [] t q = refl
kept_free (h ∷ hs) t q =
    let parts = neither (nat_eq h.0 t) (list_any (λ e. nat_eq e.0 t) hs) q in
    pick_true (h ∷ kept_by (λ e. not (nat_eq e.0 t)) hs) (kept_by (λ e. not (nat_eq e.0 t)) hs) (ap (λ (b : Bool). not b) parts.0) ∙ ap (λ (es : List (ℕ × ℕ)). h ∷ es) (kept_free hs t parts.1)

kept_twice : (hs : List (ℕ × ℕ)) (t : ℕ) → kept_by (λ h. not (nat_eq h.0 t)) (kept_by (λ h. not (nat_eq h.0 t)) hs) ≡ kept_by (λ h. not (nat_eq h.0 t)) hs
kept_twice [] t = refl
kept_twice (h ∷ hs) t = grind (arith, common_steps, kept_twice hs t)

module _ {K : Types} where
  -- a scope that a task holds no more
  abbrev let_off : ℕ → model.Scope K → model.Scope K
  let_off t x = record x { holders = kept_by (λ h. not (nat_eq h.0 t)) x.holders }

  holds_found : ℕ → Option (model.Scope K) → Bool
  holds_found t found = elim found [ None ↦ false | Some x ↦ holds x t ]

  -- what a change of one boundary leaves
  module _ (w : model.State K) (b t : ℕ) where
    one_released : (es : List (ℕ × model.Scope K)) (x : model.Scope K) → at es b ≡ Some x → released (put es b (let_off t x)) t ≡ released es t
    one_released [] x e = absurd (cc e)
    one_released (e ∷ es) x here =
        by_test (nat_eq e.0 b)
        (
        λ q.
        let same : Some e.1 ≡ Some x = sym (pick_true (Some e.1) (at es b) q) ∙ here in
        ap (λ (fs : List (ℕ × model.Scope K)). released fs t) (pick_true ((b, let_off t x) ∷ es) (e ∷ put es b (let_off t x)) q)
        ∙ ap (λ (hs : List (ℕ × ℕ)). (b, record x { holders = hs }) ∷ released es t) (kept_twice x.holders t)
        ∙ ap (λ (n : ℕ). (n, let_off t x) ∷ released es t) (sym (eqb-true e.0 b q))
        ∙ ap (λ (o : Option (model.Scope K)). (e.0, let_off t (elim o as (λ _. model.Scope K) [ None ↦ x | Some y ↦ y ])) ∷ released es t) (sym same)
        )
        (
        λ q.
        ap (λ (fs : List (ℕ × model.Scope K)). released fs t) (pick_false ((b, let_off t x) ∷ es) (e ∷ put es b (let_off t x)) q)
        ∙ ap (λ (fs : List (ℕ × model.Scope K)). (e.0, let_off t e.1) ∷ fs) (one_released es x (sym (pick_false (Some e.1) (at es b) q) ∙ here))
        )

    pub let_released : released (change w b (λ x. let_off t x)).scopes t ≡ released w.scopes t
    let_released = by (at w.scopes b) refl
      where
        by : (o : Option (model.Scope K)) → at w.scopes b ≡ o → released (changed_scope w b (λ x. let_off t x) o).scopes t ≡ released w.scopes t
        by None e = refl
        by (Some x) e = one_released w.scopes x e

    pub let_free : holds_at (change w b (λ x. let_off t x)).scopes b t ≡ false
    unfolding holds_found
    let_free = by (at w.scopes b) refl
      where
        by : (o : Option (model.Scope K)) → at w.scopes b ≡ o → holds_at (changed_scope w b (λ x. let_off t x) o).scopes b t ≡ false
        by None e = ap (λ (o : Option (model.Scope K)). holds_found t o) e
        by (Some x) e = ap (λ (o : Option (model.Scope K)). holds_found t o) (at_put_here w.scopes b (let_off t x) b (eq_same b)) ∙ holds_none x.holders t

    pub let_numbers : numbers_of (change w b (λ x. let_off t x)).scopes ≡ numbers_of w.scopes
    let_numbers = by (at w.scopes b) refl
      where
        by : (o : Option (model.Scope K)) → at w.scopes b ≡ o → numbers_of (changed_scope w b (λ x. let_off t x) o).scopes ≡ numbers_of w.scopes
        by None e = refl
        by (Some x) e = numbers_put w.scopes b (let_off t x) x e

    pub let_others : change w b (λ x. let_off t x) ≡ record w { scopes = (change w b (λ x. let_off t x)).scopes }
    let_others = by (at w.scopes b)
      where
        by : (o : Option (model.Scope K)) → changed_scope w b (λ x. let_off t x) o ≡ record w { scopes = (changed_scope w b (λ x. let_off t x) o).scopes }
        by None = refl
        by (Some x) = refl

  -- where a task holds none, none is let go
  free_row : (x : model.Scope K) (t : ℕ) → holds x t ≡ false → let_off t x ≡ x
  free_row x t free = ap (λ (ks : List (ℕ × ℕ)). let y : model.Scope K = record x { holders = ks } in y) (kept_free x.holders t free)

  pub all_free : (es : List (ℕ × model.Scope K)) (t : ℕ) → EachOnce (numbers_of es) → ((s : ℕ) → holds_at es s t ≡ false) → released es t ≡ es
  unfolding holds_found
  all_free [] t once free = refl
  all_free (e ∷ es) t once free =
      λ i.
      (e.0, free_row e.1 t (sym (ap (λ (o : Option (model.Scope K)). holds_found t o) (pick_true (Some e.1) (at es e.0) (eq_same e.0))) ∙ free e.0) i)
      ∷ all_free es t once.1 rest i
    where
      none : (s : ℕ) (o : Option (model.Scope K)) → is_some o ≡ false → holds_found t o ≡ false
      none s None q = refl
      none s (Some x) q = absurd (cc q)

      rest : (s : ℕ) → holds_at es s t ≡ false
      rest s =
          by_test (nat_eq e.0 s)
          (λ q. none s (at es s) (sym (numbers_has es s) ∙ ap (λ (n : ℕ). has (numbers_of es) n) (sym (eqb-true e.0 s q)) ∙ once.0))
          (λ q. sym (ap (λ (o : Option (model.Scope K)). holds_found t o) (pick_false (Some e.1) (at es s) q)) ∙ free s)

  -- a pair of a task and a scope goes, which the task doesn't hold
  pub pair_gone : (es : List (ℕ × model.Scope K)) (effects held fewer : List (ℕ × ℕ)) (t b : ℕ)
      → ((h n : ℕ) → has_rank fewer h n ≡ cond (is_at (rank_cmp (t, b)) (h, n)) false (has_rank held h n)) → holds_at es b t ≡ false
      → AreListed es effects held → AreListed es effects fewer
  pair_gone es effects held fewer t b left free h =
      record {
        each = h.each;
        pairs = λ s u q.
            by_test (is_at (rank_cmp (t, b)) (u, s))
            (
            λ p.
            let same : (t, b) ≡ (u, s) = rank_exact (t, b) (u, s) ((Equal-is (rank_cmp (t, b) (u, s))).0 p) in
            absurd (cc (sym q ∙ ap (λ (r : ℕ × ℕ). holds_at es r.1 r.0) (sym same) ∙ free))
            )
            (λ p. left u s ∙ ap (λ c. cond c false (has_rank held u s)) p ∙ h.pairs s u q);
      }

  -- one more pair
  pub pair_more : (es : List (ℕ × model.Scope K)) (effects held more : List (ℕ × ℕ)) (t b : ℕ)
      → ((h n : ℕ) → has_rank more h n ≡ cond (is_at (rank_cmp (t, b)) (h, n)) true (has_rank held h n)) → AreListed es effects held → AreListed es effects more
  pair_more es effects held more t b joins h =
      record {
        each = h.each;
        pairs = λ s u q. joins u s ∙ either (is_at (rank_cmp (t, b)) (u, s)) (has_rank held u s) (h.pairs s u q);
      }
    where
      either : (c o : Bool) → o ≡ true → cond c true o ≡ true
      either true o q = refl
      either false o q = q

-- the marks of those of some numbers that pass
abbrev pub marks_of : (ℕ → Bool) → List ℕ → List model.Posted
marks_of p [] = []
marks_of p (n ∷ ns) = (if p n then model.Mark n ∷ [] else []) ++ marks_of p ns

marks_kept : (p : ℕ → Bool) (ns : List ℕ) → marks_of p ns ≡ map (λ n. model.Mark n) (filter p ns)
marks_kept p [] = refl
marks_kept p (n ∷ ns) =
    elim (p n) as (λ b. ((if b then model.Mark n ∷ [] else []) ++ marks_of p ns) ≡ map (λ n. model.Mark n) (cond b (n ∷ filter p ns) (filter p ns))) [
      | true ↦ ap (λ (ms : List model.Posted). model.Mark n ∷ ms) (marks_kept p ns)
      | false ↦ marks_kept p ns
    ]

both : (a b : Bool) → (a ≡ true → b ≡ true) → (a && b) ≡ a
both true b so = so refl
both false b so = refl

-- a number passes as one that ties with it
alike : (p : ℕ → Bool) (q n : ℕ) → (p n && eq_by_cmp nat_cmp q n) ≡ (eq_by_cmp nat_cmp q n && p q)
alike p q n =
    elim (eq_by_cmp nat_cmp q n) as (λ b. eq_by_cmp nat_cmp q n ≡ b → (p n && b) ≡ (b && p q)) [
      | true ↦ λ tie. and_true (p n) ∙ ap p (sym (nat_cmp-IsAntisymmetric q n ((Equal-is (nat_cmp q n)).0 tie)))
      | false ↦ λ _. and_false (p n)
    ] refl

module _ {K : Types} (t : ℕ) where
  -- the marks of the scopes that the task holds, by their numbers
  named_marks : (es : List (ℕ × model.Scope K)) → map (λ n. model.Mark n) (named (λ x. holds x t) es) ≡ holding es t
  named_marks [] = refl
  named_marks (e ∷ es) =
      elim (holds e.1 t) as (λ b. map (λ n. model.Mark n) (map (λ d. d.0) (cond b (e ∷ filter (λ d. holds d.1 t) es) (filter (λ d. holds d.1 t) es))) ≡ (if b then model.Mark e.0 ∷ holding es t else holding es t)) [
        | true ↦ ap (λ (ms : List model.Posted). model.Mark e.0 ∷ ms) (named_marks es)
        | false ↦ named_marks es
      ]

  held_passes : (es : List (ℕ × model.Scope K)) (s : ℕ) → holds_at es s t ≡ passes (λ x. holds x t) (at es s)
  held_passes es s = by (at es s)
    where
      by : (o : Option (model.Scope K)) → elim o as (λ _. Bool) [ None ↦ false | Some x ↦ holds x t ] ≡ passes (λ x. holds x t) o
      by None = refl
      by (Some x) = refl

module _ {P C Q V H T E L : Type 0} (rows : List (ℕ × Scope P C Q V H T E L)) (held : List (ℕ × ℕ)) (t : ℕ) (up : Ascends rows) where
  abbrev own : ℕ → Bool
  own s = holds_at (scopes_of rows) s t

  -- of numbers that are just those paired with the task, those that it holds are marked
  pub held_posted : (ns : List ℕ) → ((s : ℕ) → own s ≡ true → has_rank held t s ≡ true) → IsStrictlySortedBy nat_cmp ns
      → ((s : ℕ) → list_any (is_at (nat_cmp s)) ns ≡ has_rank held t s) → marks_of own ns ≡ holding (scopes_of rows) t
  held_posted ns paired sorted members =
      marks_kept own ns
      ∙ ap (map (λ n. model.Mark n))
      (same_named (λ x. holds x t) (scopes_of rows) (filter own ns) (rising (scopes_of rows) (rises_each scope_of rows (rises rows up))) (IsStrictlySortedBy-filter nat_cmp own ns sorted)
      (λ q. any-filter (eq_by_cmp nat_cmp q) own ns
      ∙ any_same _ _ (λ n. alike own q n) ns
      ∙ any_and (eq_by_cmp nat_cmp q) (own q) ns
      ∙ ap (λ b. own q && b) (members q)
      ∙ both (own q) (has_rank held t q) (paired q)
      ∙ held_passes t (scopes_of rows) q))
      ∙ named_marks t (scopes_of rows)

module _ {K : Types} (t : ℕ) where
  -- what is held is there
  held_there : (o : Option (model.Scope K)) → elim o as (λ _. Bool) [ None ↦ false | Some x ↦ holds x t ] ≡ true → is_some o ≡ true
  held_there None q = absurd (cc q)
  held_there (Some y) q = refl

-- a scope that the task holds is entered
pub held_entered : {P C Q V H T E L : Type 0} (rows : List (ℕ × Scope P C Q V H T E L)) (t b : ℕ) (entered : List ℕ) → numbers_of rows ≡ entered → holds_at (scopes_of rows) b t ≡ true
    → has entered b ≡ true
held_entered rows t b entered are own =
    ap (λ (ns : List ℕ). has ns b) (sym are)
    ∙ numbers_has rows b
    ∙ sym (live-each scope_of rows b)
    ∙ held_there t (at (scopes_of rows) b) own

module _ {K : Types} (scopes : List (ℕ × model.Scope K)) (t s : ℕ) where
  -- whether a scope that was found is held
  pub found_held : (x : model.Scope K) → at scopes s ≡ Some x → holds x t ≡ holds_at scopes s t
  unfolding holds_found
  found_held x here = sym (ap (λ (o : Option (model.Scope K)). holds_found t o) here)

  -- one that is gone isn't
  pub gone_free : at scopes s ≡ None → false ≡ holds_at scopes s t
  unfolding holds_found
  gone_free gone = sym (ap (λ (o : Option (model.Scope K)). holds_found t o) gone)
