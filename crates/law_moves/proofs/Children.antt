-- A child that is made: its parent alone changes, and it joins.
use Rattle.std.proofs.Common.{ℕ, ◌+◌, ◌≤◌, true, false, List, [], ◌∷◌, ◌++◌, ◌≡◌, inl, inr, refl, sym, ap, ◌∙◌, arith, nat_eq}
use Rattle.std.proofs.lemmas.Bool.{eqb-true}
use Rattle.std.specs.Prelude.{Option, Some, None, is_some}
use Rattle.std.specs.List.{AllByRecursion}
use Rattle.rt_lemmas.proofs.Numbers.{eq_false as not_one}
use Rattle.rt_model.specs.Lists.{at, put}
use Rattle.rt_model.specs.Tree.{Types, Place, Kind, VComponent}
use Rattle.rt_model.specs.World.{Source, Cell, Error, Context}
use Rattle.rt_model.specs.State.{SideName, MainSide, ChildrenSide, FallbackSide, Scope, State, Item, Draw, Row, Feed, Make, Drop, Outcome, Done, Cut, side_of, with_side, new_scope, is_live, height_of}
use Rattle.rt_model.specs.Next.{next}
use Rattle.rt_model.specs.Run.{with_next}
use Rattle.rt_model.specs.Replay.{numbered, with_child, with_new_scope}
use Rattle.rt_model.proofs.Maps.{by_test, pick_false, eq_same, at_here, at_append_none, at_put_none, at_there}
use Rattle.law_moves.proofs.Woven.{owner, After, Stack}
use Rattle.law_moves.proofs.Made.{at_child, part}
use Rattle.law_moves.specs.Heeds.{leavings, SameOf}
use Rattle.law_moves.proofs.Told.{change_quiet}
use Rattle.law_moves.proofs.Calm.{standing, error_of, context_of, holders_of, Unique, unique_put, Quiet, quiet_then}
use Rattle.law_moves.proofs.Looks.{next_quiet}
use Rattle.law_moves.proofs.Owed.{rows_of}
use Rattle.law_moves.proofs.Alone.{Alone, Then}

module _ {K : Types} where
  -- work of which nothing is of this scope has no step of its run
  pub no_rows : (t : ℕ) (work : List (Item K)) → AllByRecursion (λ (i : Item K). owner i ≡ t → ⊥) work → rows_of t work ≡ []
  no_rows t [] h = refl
  no_rows t (Row b step ∷ work) h = pick_false (step ∷ rows_of t work) (rows_of t work) (not_one b t h.0) ∙ no_rows t work h.1
  no_rows t (Draw s a p k ∷ work) h = no_rows t work h.1
  no_rows t (Feed s a p c ∷ work) h = no_rows t work h.1
  no_rows t (Make s a p c ∷ work) h = no_rows t work h.1
  no_rows t (Drop u s a ∷ work) h = no_rows t work h.1

  -- all open work is of live scopes
  pub others_own : (w : State K) (n : ℕ) (work : List (Item K)) → at w.scopes n ≡ None → Stack w work → AllByRecursion (λ (i : Item K). owner i ≡ n → ⊥) work
  others_own w n [] none h = tt
  others_own w n (i ∷ work) none h = (
    λ e.
        let gone : is_live w (owner i) ≡ false = ap (λ (k : ℕ). is_live w k) e ∙ ap (λ (o : Option (Scope K)). is_some o) none in
        let absurdity : true ≡ false = sym h.0 ∙ gone in
        cc,
    others_own w n work none h.3,
  )

  -- what comes behind a feed is of other scopes than the child
  pub fed_others : (w : State K) (s t : ℕ) (a : SideName) (p : Place) (c : VComponent K) (work : List (Item K)) → height_of w.scopes t ≡ height_of w.scopes s + 1
      → AllByRecursion (λ (j : Item K). After w (Feed s a p c) j) work
      → AllByRecursion (λ (i : Item K). owner i ≡ t → ⊥) work
  fed_others w s t a p c [] step h = tt
  fed_others w s t a p c (j ∷ work) step h = (one h.0, fed_others w s t a p c work step h.1)
    where
      one : After w (Feed s a p c) j → owner j ≡ t → ⊥
      one (inl low) e = let level : height_of w.scopes (owner j) ≡ height_of w.scopes t = ap (λ (k : ℕ). height_of w.scopes k) e in omega (arith, low, level, step)
      one (inr same) e =
          let here : height_of w.scopes (owner j) ≡ height_of w.scopes s = ap (λ (k : ℕ). height_of w.scopes k) same.0 in
          let level : height_of w.scopes (owner j) ≡ height_of w.scopes t = ap (λ (k : ℕ). height_of w.scopes k) e in
          omega (arith, here, level, step)

  pub then_is : (P : State K → List (Item K) → Type 0) (o : Outcome K) → ((v : State K) (work : List (Item K)) → o ≡ Done v work → P v work) → Then P o
  then_is P (Done v work) h = h v work refl
  then_is P (Cut v fault) h = tt

  unique_append : (es : List (ℕ × Scope K)) (n : ℕ) (x : Scope K) → at es n ≡ None → Unique es → Unique (es ++ (n, x) ∷ [])
  unique_append [] n x none h = (refl, tt)
  unique_append (e ∷ es) n x none h =
      by_test (nat_eq e.0 n)
      (λ q. let absurdity : Some e.1 ≡ None = sym (at_here e.0 e.1 es n q) ∙ none in cc)
      (
      λ q.
      let back : nat_eq n e.0 ≡ false = not_one n e.0 (λ i. let absurdity : true ≡ false = sym (eq_same e.0) ∙ ap (λ (k : ℕ). nat_eq e.0 k) (sym i) ∙ q in cc) in (
        at_append_none es n x e.0 back ∙ h.0,
        unique_append es n x (sym (at_there e.0 e.1 es n q) ∙ none) h.1,
      )
      )

  numbers_stand : (x : Scope K) (a : SideName) (numbers : List (Place × Kind × ℕ)) → standing (Some (with_side x a (record (side_of x a) { numbers = numbers }))) ≡ standing (Some x)
  numbers_stand x MainSide numbers = refl
  numbers_stand x ChildrenSide numbers = refl
  numbers_stand x FallbackSide numbers = refl

  pub numbered_quiet : (w : State K) (s : ℕ) (a : SideName) (p : Place) (k : Kind) → Quiet w (numbered w s a p k)
  numbered_quiet w s a p k =
      let v : State K = with_next w (record (w.next) { elements = w.next.elements + 1 }) in
      let level : w.next.cells ≤ w.next.cells = omega arith in
      quiet_then w v (numbered w s a p k) (next_quiet w (record (w.next) { elements = w.next.elements + 1 }) level)
      (change_quiet v s (λ x. with_side x a (record (side_of x a) { numbers = (side_of x a).numbers ++ (p, k, w.next.elements) ∷ [] })) (λ x. numbers_stand x a ((side_of x a).numbers ++ (p, k, w.next.elements) ∷ [])))

  child_stands : (x : Scope K) (a : SideName) (p : Place) (t : ℕ) → standing (Some (with_child a p t x)) ≡ standing (Some x)
  child_stands x MainSide p t = refl
  child_stands x ChildrenSide p t = refl
  child_stands x FallbackSide p t = refl

  child_leaves : (x : Scope K) (a : SideName) (p : Place) (t : ℕ) → leavings (Some (with_child a p t x)) ≡ leavings (Some x)
  child_leaves x MainSide p t = refl
  child_leaves x ChildrenSide p t = refl
  child_leaves x FallbackSide p t = refl

  child_sources : (x : Scope K) (a : SideName) (p : Place) (t : ℕ) → ((with_child a p t x).error ≡ x.error) × ((with_child a p t x).contexts ≡ x.contexts) × ((with_child a p t x).holders ≡ x.holders)
  child_sources x MainSide p t = (refl, refl, refl)
  child_sources x ChildrenSide p t = (refl, refl, refl)
  child_sources x FallbackSide p t = (refl, refl, refl)

  -- a scope is made: it alone is new
  module _ (w : State K) (s : ℕ) (a : SideName) (p : Place) (c : VComponent K) (x : Scope K) (found : at w.scopes s ≡ Some x) (fresh : at w.scopes w.next_scope ≡ None) where
    abbrev n : ℕ
    n = w.next_scope

    abbrev v : State K
    v = with_new_scope w s a p c x

    new_part : {A : Type 0} (g : Option (Scope K) → A) → g (Some (with_child a p n x)) ≡ g (Some x) → g None ≡ g (Some (new_scope c (Some s) (x.height + 1) a)) → (t : ℕ) → g (at w.scopes t) ≡ g (at v.scopes t)
    new_part g same none t =
        by_test (nat_eq n t)
        (
        λ q.
        ap (λ (i : ℕ). g (at w.scopes i)) (sym (eqb-true n t q))
        ∙ ap g fresh
        ∙ none
        ∙ sym (ap g (at_child w s a p c x found fresh))
        ∙ ap (λ (i : ℕ). g (at v.scopes i)) (eqb-true n t q)
        )
        (λ q. sym (part w s a p c x found fresh g t q same))

    new_alike : (i : Source) → SameOf w v i
    new_alike (Cell m) = refl
    new_alike (Error t) = new_part (λ o. error_of o) (child_sources x a p n).0 refl t
    new_alike (Context k t) = new_part (λ o. context_of k o) (ap (λ (es : List (ℕ × K.Value)). at es k) (child_sources x a p n).1) refl t

    pub new_alone : Alone n w v
    new_alone =
        record {
          others = λ t q. part w s a p c x found fresh (λ (o : Option (Scope K)). leavings o) t q (child_leaves x a p n);
          calls = λ t q. refl;
          alike = new_alike;
          holders = λ t. sym (new_part (λ o. holders_of o) (child_sources x a p n).2 refl t);
          tasks = refl;
          unique =
              λ h.
              unique_append (put w.scopes s (with_child a p n x)) n (new_scope c (Some s) (x.height + 1) a) (at_put_none w.scopes s (with_child a p n x) x n found fresh)
              (unique_put w.scopes s x (with_child a p n x) found h);
          posted = refl;
          seen = refl;
          queued = refl;
          skipped = refl;
          next = refl;
        }
