-- Each scope has an output on the side that shows, or a step of its run that is left gives it one.
use Rattle.std.proofs.Common.{ℕ, Bool, true, false, List, [], ◌∷◌, ◌++◌, ◌≡◌, ◌⊎◌, inl, inr, refl, sym, ap, ◌∙◌, subst}
use Rattle.std.specs.Prelude.{Option, Some, None, if◌then◌else◌, is_some}
use Rattle.std.specs.List.{AllByRecursion}
use Rattle.rt_lemmas.proofs.Bools.{contrary as boundary_not}
use Rattle.rt_model.specs.Lists.{at}
use Rattle.rt_model.specs.Tree.{Types, Tree, is_suspense_boundary}
use Rattle.rt_model.specs.World.{Application}
use Rattle.rt_model.specs.State.{SideName, MainSide, ChildrenSide, FallbackSide, RowStep, PatchChildren, MadeChildren, RunFallback, ShowFallback, ShowChildren, DropFallback, Resolve, Side, Scope, State, Item, Row, empty_side, side_of, with_side, is_held}
use Rattle.rt_model.specs.Run.{row_of, row_items}
use Rattle.rt_model.specs.Boundary.{drop_items}
use Rattle.rt_model.proofs.Among.{Among, among_left, among_right}
use Rattle.law_moves.proofs.Woven.{owner}
use Rattle.law_moves.proofs.Lists.{every_among}
use Rattle.law_moves.specs.Frames.{shown}
use Rattle.law_headline.proofs.Did.{Matches, after_of, that_side, other_side, side_shows, Patch, renewed, agenda, RunDid, StepDid}
use Rattle.law_headline.proofs.Lines.{clash, among_either, Ahead, NoStep, IsDropped, drop_items_of, agenda_of}

module _ {K : Types} where
  -- a step of a run is left
  abbrev pub Left : List (Item K) → ℕ → RowStep → Type 0
  Left work b step = Among work (Row b step)

  -- a scope with one side, which shows and has an output
  pub record Plain (work : List (Item K)) (b : ℕ) (x : Scope K) : Type 0 where
    pub shows : x.shows ≡ Some MainSide
    pub output : is_some x.main_side.output ≡ true
    pub none : (step : RowStep) → Left work b step → ⊥

  -- a side shows
  abbrev pub IsTurned : Scope K → Type 0
  IsTurned x = (x.shows ≡ Some ChildrenSide) ⊎ (x.shows ≡ Some FallbackSide)

  -- a step that turns to a side is left
  abbrev pub Coming : List (Item K) → ℕ → Type 0
  Coming work b = Left work b MadeChildren ⊎ (Left work b ShowFallback ⊎ Left work b ShowChildren)

  -- a scope with two sides: what shows has an output, and what is to show will have one
  pub record Twofold (work : List (Item K)) (b : ℕ) (x : Scope K) : Type 0 where
    pub kids : (is_some x.children_side.output ≡ true) ⊎ Left work b PatchChildren
    pub turned : IsTurned x ⊎ Coming work b
    pub fall : x.shows ≡ Some FallbackSide → is_some x.fallback_side.output ≡ true
    pub hides : Left work b ShowFallback → (is_some x.fallback_side.output ≡ true) ⊎ Left work b RunFallback
    pub drops : Left work b DropFallback → (x.shows ≡ Some ChildrenSide) ⊎ Left work b ShowChildren

  abbrev pub Dressed : List (Item K) → ℕ → Scope K → Type 0
  Dressed work b x = Plain work b x ⊎ Twofold work b x

  -- a scope that is made and hasn't run
  abbrev pub Raw : Scope K → Type 0
  Raw x = ((is_suspense_boundary x.component ≡ true) × (x.shows ≡ None)) ⊎ ((is_suspense_boundary x.component ≡ false) × (x.shows ≡ Some MainSide))

  pub side_output : {i j : Side K} → i ≡ j → i.output ≡ j.output
  side_output h = ap (λ (z : Side K). z.output) h

  -- the same steps of a scope's run are left
  abbrev pub SameRows : List (Item K) → List (Item K) → ℕ → Type 0
  SameRows work after b = (step : RowStep) → (Left work b step → Left after b step) × (Left after b step → Left work b step)

  -- of another record that shows the same, but for its main side
  twofold_by : (work after : List (Item K)) (b : ℕ) (x y : Scope K) → y.shows ≡ x.shows → y.children_side.output ≡ x.children_side.output → y.fallback_side.output ≡ x.fallback_side.output → SameRows work after b → Twofold work b x → Twofold after b y
  twofold_by work after b x y shows kids fall same h =
      record {
        kids = elim h.kids [ inl o ↦ inl (ap (λ (i : Option (Tree K)). is_some i) kids ∙ o) | inr l ↦ inr ((same PatchChildren).0 l) ];
        turned =
            elim h.turned [
              | inl t ↦ inl (elim t [ inl e ↦ inl (shows ∙ e) | inr e ↦ inr (shows ∙ e) ])
              | inr c ↦ inr (elim c [ inl l ↦ inl ((same MadeChildren).0 l) | inr d ↦ inr (elim d [ inl l ↦ inl ((same ShowFallback).0 l) | inr l ↦ inr ((same ShowChildren).0 l) ]) ])
            ];
        fall = λ e. ap (λ (i : Option (Tree K)). is_some i) fall ∙ h.fall (sym shows ∙ e);
        hides =
            λ l.
            elim (h.hides ((same ShowFallback).1 l)) [ inl o ↦ inl (ap (λ (i : Option (Tree K)). is_some i) fall ∙ o) | inr r ↦ inr ((same RunFallback).0 r) ];
        drops = λ l. elim (h.drops ((same DropFallback).1 l)) [ inl e ↦ inl (shows ∙ e) | inr r ↦ inr ((same ShowChildren).0 r) ];
      }

  pub dressed_by : (work after : List (Item K)) (b : ℕ) (x y : Scope K) → y.shows ≡ x.shows → ((a : SideName) → (side_of y a).output ≡ (side_of x a).output) → SameRows work after b → Dressed work b x → Dressed after b y
  dressed_by work after b x y shows outputs same (inl h) =
      inl (record { shows = shows ∙ h.shows; output = ap (λ (i : Option (Tree K)). is_some i) (outputs MainSide) ∙ h.output; none = λ step l. h.none step ((same step).1 l) })
  dressed_by work after b x y shows outputs same (inr h) = inr (twofold_by work after b x y shows (outputs ChildrenSide) (outputs FallbackSide) same h)

  -- no item of the work is of this scope
  abbrev pub NoneOf : ℕ → List (Item K) → Type 0
  NoneOf s rest = (j : Item K) → Among rest j → owner j ≡ s → ⊥

  none_left : {P : Type 0} (rest : List (Item K)) (s : ℕ) (step : RowStep) → NoneOf s rest → Left rest s step → P
  none_left rest s step n l = absurd (n (Row s step) l refl)

  -- behind these come items of other scopes
  grown : (work rest : List (Item K)) (s : ℕ) → NoneOf s rest → SameRows work (work ++ rest) s
  grown work rest s n step = (λ l. among_left work rest (Row s step) l, λ l. elim (among_either work rest (Row s step) l) [ inl g ↦ g | inr g ↦ none_left rest s step n g ])

  -- work that holds no step of a run
  no_steps : {P : Type 0} (work : List (Item K)) (s : ℕ) (step : RowStep) → AllByRecursion (λ (i : Item K). NoStep i) work → Left work s step → P
  no_steps work s step h l = absurd (every_among (λ (i : Item K). NoStep i) work (Row s step) h l)

  empty_rows : (work : List (Item K)) (s : ℕ) → AllByRecursion (λ (i : Item K). NoStep i) work → SameRows [] work s
  empty_rows work s h step = (λ l. absurd l, λ l. no_steps work s step h l)

  rows_then : (u v w : List (Item K)) (s : ℕ) → SameRows u v s → SameRows v w s → SameRows u w s
  rows_then u v w s f g step = (λ l. (g step).0 ((f step).0 l), λ l. (f step).1 ((g step).1 l))

  -- a run

  twofold_rows : (s : ℕ) (x : Scope K) (o : Option SideName) (held : Bool) → x.shows ≡ o → Twofold [] s x → Twofold (row_items s (row_of o held)) s x
  twofold_rows s x None held is h =
      elim h.turned [
        | inl t ↦ elim t [ inl e ↦ (let absurdity : None ≡ Some ChildrenSide = sym is ∙ e in cc) | inr e ↦ (let absurdity : None ≡ Some FallbackSide = sym is ∙ e in cc) ]
        | inr c ↦ elim c [ inl l ↦ absurd l | inr d ↦ elim d [ inl l ↦ absurd l | inr l ↦ absurd l ] ]
      ]
  twofold_rows s x (Some MainSide) held is h =
      elim h.turned [
        | inl t ↦ elim t [ inl e ↦ (let absurdity : Some MainSide ≡ Some ChildrenSide = sym is ∙ e in cc) | inr e ↦ (let absurdity : Some MainSide ≡ Some FallbackSide = sym is ∙ e in cc) ]
        | inr c ↦ elim c [ inl l ↦ absurd l | inr d ↦ elim d [ inl l ↦ absurd l | inr l ↦ absurd l ] ]
      ]
  twofold_rows s x (Some FallbackSide) true is h =
      record { kids = inr (inr (inl refl)); turned = inl (inr is); fall = h.fall; hides = λ l. inl (h.fall is); drops = λ l. absurd (no_drop l) }
    where
      no_drop : Left (row_items s (row_of (Some FallbackSide) true)) s DropFallback → ⊥
      no_drop (inl e) = cc
      no_drop (inr (inl e)) = cc
      no_drop (inr (inr e)) = e
  twofold_rows s x (Some FallbackSide) false is h =
      record { kids = inr (inl refl); turned = inl (inr is); fall = h.fall; hides = λ l. inl (h.fall is); drops = λ l. inr (inr (inl refl)) }
  twofold_rows s x (Some ChildrenSide) true is h =
      record { kids = inr (inr (inr (inl refl))); turned = inl (inl is); fall = h.fall; hides = λ l. inr (inl refl); drops = λ l. inl is }
  twofold_rows s x (Some ChildrenSide) false is h =
      record { kids = inr (inl refl); turned = inl (inl is); fall = h.fall; hides = λ l. absurd (no_hide l); drops = λ l. inl is }
    where
      no_hide : Left (row_items s (row_of (Some ChildrenSide) false)) s ShowFallback → ⊥
      no_hide (inl e) = cc
      no_hide (inr e) = e

  raw_rows : (s : ℕ) (x : Scope K) (o : Option SideName) (held : Bool) → x.shows ≡ o → o ≡ None → Twofold (row_items s (row_of o held)) s x
  raw_rows s x None held is e =
      record {
        kids = inr (inl refl);
        turned = inr (inl (inr (inl refl)));
        fall = λ q. let absurdity : None ≡ Some FallbackSide = sym is ∙ q in cc;
        hides = λ l. absurd (no_hide l);
        drops = λ l. absurd (no_drop l);
      }
    where
      no_hide : Left (row_items s (row_of None held)) s ShowFallback → ⊥
      no_hide (inl q) = cc
      no_hide (inr (inl q)) = cc
      no_hide (inr (inr q)) = q

      no_drop : Left (row_items s (row_of None held)) s DropFallback → ⊥
      no_drop (inl q) = cc
      no_drop (inr (inl q)) = cc
      no_drop (inr (inr q)) = q
  raw_rows s x (Some a) held is e = cc

  plain_rows : {P : Type 0} (work : List (Item K)) (s : ℕ) (o : Option SideName) (held : Bool) (step : RowStep) → work ≡ row_items s (row_of o held) → o ≡ Some MainSide → Left work s step → P
  plain_rows work s None held step items e l = cc
  plain_rows work s (Some MainSide) held step items e l = absurd (subst (λ (xs : List (Item K)). Left xs s step) items l)
  plain_rows work s (Some ChildrenSide) held step items e l = cc
  plain_rows work s (Some FallbackSide) held step items e l = cc

  steps_none : (s : ℕ) (xs : List (Item K)) → AllByRecursion (λ (i : Item K). (owner i ≡ s) × NoStep i) xs → AllByRecursion (λ (i : Item K). NoStep i) xs
  steps_none s [] h = tt
  steps_none s (i ∷ xs) h = (h.0.1, steps_none s xs h.1)

  module _ (app : Application K) (w v : State K) (s : ℕ) (x y : Scope K) (work rest : List (Item K)) (found : at v.scopes s ≡ Some y) where
    patch_items : (a : SideName) → Patch app s a x v work → AllByRecursion (λ (i : Item K). NoStep i) work
    patch_items a p =
        subst (λ (xs : List (Item K)). AllByRecursion (λ (i : Item K). NoStep i) xs) (sym p.opens)
        (steps_none s (agenda app s a (side_of x a) p.tree) (agenda_of app s a (side_of x a) p.tree))

    patch_matches : (a : SideName) (p : Patch app s a x v work) → Matches y (with_side x a (renewed app (side_of x a) p.tree))
    patch_matches a p = after_of (at v.scopes s) (with_side x a (renewed app (side_of x a) p.tree)) y p.here found

    patch_output : (a : SideName) (p : Patch app s a x v work) → is_some (side_of y a).output ≡ true
    patch_output a p =
        ap (λ (i : Side K). is_some i.output) ((patch_matches a p).sides a) ∙ ap (λ (i : Side K). is_some i.output) (that_side x a (renewed app (side_of x a) p.tree))

    patch_other : (a b : SideName) (p : Patch app s a x v work) → (b ≡ a → ⊥) → side_of y b ≡ side_of x b
    patch_other a b p n = (patch_matches a p).sides b ∙ other_side x a b (renewed app (side_of x a) p.tree) n

    patch_shows : (a : SideName) (p : Patch app s a x v work) → y.shows ≡ x.shows
    patch_shows a p = (patch_matches a p).shows ∙ side_shows x a (renewed app (side_of x a) p.tree)

    module _ (none : NoneOf s rest) where
      open_rows : AllByRecursion (λ (i : Item K). NoStep i) work → SameRows [] (work ++ rest) s
      open_rows h = rows_then [] work (work ++ rest) s (empty_rows work s h) (grown work rest s none)

      plain_now : AllByRecursion (λ (i : Item K). NoStep i) work → y.shows ≡ Some MainSide → is_some y.main_side.output ≡ true → Dressed (work ++ rest) s y
      plain_now h shows output = inl (record { shows = shows; output = output; none = λ step l. absurd ((open_rows h step).1 l) })

      patched_dressed : Patch app s MainSide x v work → is_suspense_boundary x.component ≡ false → Dressed [] s x ⊎ Raw x → Dressed (work ++ rest) s y
      patched_dressed p no_boundary (inl (inl h)) = plain_now (patch_items MainSide p) (patch_shows MainSide p ∙ h.shows) (patch_output MainSide p)
      patched_dressed p no_boundary (inl (inr h)) =
          inr
          (twofold_by [] (work ++ rest) s x y (patch_shows MainSide p) (side_output (patch_other MainSide ChildrenSide p (λ e. cc))) (side_output (patch_other MainSide FallbackSide p (λ e. cc)))
          (open_rows (patch_items MainSide p)) h)
      patched_dressed p no_boundary (inr (inl h)) = boundary_not (is_suspense_boundary x.component) h.0 no_boundary
      patched_dressed p no_boundary (inr (inr h)) = plain_now (patch_items MainSide p) (patch_shows MainSide p ∙ h.1) (patch_output MainSide p)

      kept_dressed : work ≡ [] → shown (at v.scopes s) ≡ shown (Some x) → is_some x.main_side.output ≡ true → is_suspense_boundary x.component ≡ false → Dressed [] s x ⊎ Raw x → Dressed (work ++ rest) s y
      kept_dressed idle same output no_boundary given = by_given given
        where
          m : Matches y x
          m = after_of (at v.scopes s) x y same found

          no_work : AllByRecursion (λ (i : Item K). NoStep i) work
          no_work = subst (λ (xs : List (Item K)). AllByRecursion (λ (i : Item K). NoStep i) xs) (sym idle) tt

          by_given : Dressed [] s x ⊎ Raw x → Dressed (work ++ rest) s y
          by_given (inl h) = dressed_by [] (work ++ rest) s x y m.shows (λ a. side_output (m.sides a)) (open_rows no_work) h
          by_given (inr (inl h)) = boundary_not (is_suspense_boundary x.component) h.0 no_boundary
          by_given (inr (inr h)) = plain_now no_work (m.shows ∙ h.1) (ap (λ (i : Side K). is_some i.output) (m.sides MainSide) ∙ output)

      rows_dressed : shown (at v.scopes s) ≡ shown (Some x) → work ≡ row_items s (row_of x.shows (is_held x)) → is_suspense_boundary x.component ≡ true → Dressed [] s x ⊎ Raw x → Dressed (work ++ rest) s y
      rows_dressed same items boundary given = by_given given
        where
          m : Matches y x
          m = after_of (at v.scopes s) x y same found

          rows : List (Item K)
          rows = row_items s (row_of x.shows (is_held x))

          after : SameRows rows (work ++ rest) s
          after = subst (λ (xs : List (Item K)). SameRows rows (xs ++ rest) s) (sym items) (grown rows rest s none)

          by_given : Dressed [] s x ⊎ Raw x → Dressed (work ++ rest) s y
          by_given (inl (inl h)) =
              inl
              (record {
                shows = m.shows ∙ h.shows;
                output = ap (λ (i : Side K). is_some i.output) (m.sides MainSide) ∙ h.output;
                none = λ step l. plain_rows rows s x.shows (is_held x) step refl h.shows ((after step).1 l);
              })
          by_given (inl (inr h)) = inr (twofold_by rows (work ++ rest) s x y m.shows (side_output (m.sides ChildrenSide)) (side_output (m.sides FallbackSide)) after (twofold_rows s x x.shows (is_held x) refl h))
          by_given (inr (inl h)) = inr (twofold_by rows (work ++ rest) s x y m.shows (side_output (m.sides ChildrenSide)) (side_output (m.sides FallbackSide)) after (raw_rows s x x.shows (is_held x) refl h.1))
          by_given (inr (inr h)) = boundary_not (is_suspense_boundary x.component) boundary h.0

      -- after its run a scope is dressed
      pub run_dressed : at w.scopes s ≡ Some x → RunDid app w s x v work → Dressed [] s x ⊎ Raw x → Dressed (work ++ rest) s y
      run_dressed here (inl h) given = rows_dressed (h.1.0.shows s ∙ ap (λ (o : Option (Scope K)). shown o) here) h.1.1 h.0 given
      run_dressed here (inr (no_boundary, inl p)) given = patched_dressed p no_boundary given
      run_dressed here (inr (no_boundary, inr h)) given = kept_dressed h.0 (h.1.shows s ∙ ap (λ (o : Option (Scope K)). shown o) here) h.2 no_boundary given

  abbrev step_named : Item K → RowStep
  step_named (Row b step) = step
  step_named _ = Resolve

  -- a step of a boundary's run

  module _ (b : ℕ) (step : RowStep) (work rest : List (Item K)) (line : AllByRecursion (λ (j : Item K). Ahead (Row b step) j) rest) where
    not_ahead : {P : Type 0} (i : RowStep) → clash step i ≡ true → Left rest b i → P
    not_ahead i bad l = boundary_not (clash step i) bad (every_among (λ (j : Item K). Ahead (Row b step) j) rest (Row b i) line l refl)

    later : (i : RowStep) → (step ≡ i → ⊥) → Left (Row b step ∷ rest) b i → Left (work ++ rest) b i
    later i n (inl e) = absurd (n (ap (λ (j : Item K). step_named j) e))
    later i n (inr l) = among_right work rest (Row b i) l

    behind : {P : Type 0} (i : RowStep) → (step ≡ i → ⊥) → clash step i ≡ true → Left (Row b step ∷ rest) b i → P
    behind i n bad (inl e) = absurd (n (ap (λ (j : Item K). step_named j) e))
    behind i n bad (inr l) = not_ahead i bad l

    later_turn : (step ≡ MadeChildren → ⊥) → (step ≡ ShowFallback → ⊥) → (step ≡ ShowChildren → ⊥) → (x y : Scope K) → y.shows ≡ x.shows → IsTurned x ⊎ Coming (Row b step ∷ rest) b → IsTurned y ⊎ Coming (work ++ rest) b
    later_turn n m k x y shows (inl t) = inl (elim t [ inl e ↦ inl (shows ∙ e) | inr e ↦ inr (shows ∙ e) ])
    later_turn n m k x y shows (inr c) =
        inr (elim c [ inl l ↦ inl (later MadeChildren n l) | inr d ↦ inr (elim d [ inl l ↦ inl (later ShowFallback m l) | inr l ↦ inr (later ShowChildren k l) ]) ])

    -- where the step opens no step of the run
    module _ (quiet : AllByRecursion (λ (i : Item K). NoStep i) work) where
      earlier : (i : RowStep) → Left (work ++ rest) b i → Left rest b i
      earlier i l = elim (among_either work rest (Row b i) l) [ inl g ↦ no_steps work b i quiet g | inr g ↦ g ]

  kids_by : (x y : Scope K) {Q R : Type 0} → side_of y ChildrenSide ≡ side_of x ChildrenSide → (Q → R) → (is_some x.children_side.output ≡ true) ⊎ Q → (is_some y.children_side.output ≡ true) ⊎ R
  kids_by x y same f (inl o) = inl (ap (λ (i : Side K). is_some i.output) same ∙ o)
  kids_by x y same f (inr q) = inr (f q)

  module _ (app : Application K) (v : State K) (b : ℕ) (x y : Scope K) (work rest : List (Item K)) (found : at v.scopes b ≡ Some y) where
    fall_by : {Q R : Type 0} → side_of y FallbackSide ≡ side_of x FallbackSide → (Q → R) → (is_some x.fallback_side.output ≡ true) ⊎ Q → (is_some y.fallback_side.output ≡ true) ⊎ R
    fall_by same f (inl o) = inl (ap (λ (i : Side K). is_some i.output) same ∙ o)
    fall_by same f (inr q) = inr (f q)

    child_by : {Q R : Type 0} → y.shows ≡ x.shows → (Q → R) → (x.shows ≡ Some ChildrenSide) ⊎ Q → (y.shows ≡ Some ChildrenSide) ⊎ R
    child_by same f (inl e) = inl (same ∙ e)
    child_by same f (inr q) = inr (f q)

    children_step : AllByRecursion (λ (j : Item K). Ahead (Row b PatchChildren) j) rest → Patch app b ChildrenSide x v work → Twofold (Row b PatchChildren ∷ rest) b x → Twofold (work ++ rest) b y
    children_step line p h =
        let quiet = patch_items app v v b x y work rest found ChildrenSide p in
        let shows = patch_shows app v v b x y work rest found ChildrenSide p in
        let fall = patch_other app v v b x y work rest found ChildrenSide FallbackSide p (λ e. cc) in
        record {
          kids = inl (patch_output app v v b x y work rest found ChildrenSide p);
          turned = later_turn b PatchChildren work rest line (λ e. cc) (λ e. cc) (λ e. cc) x y shows h.turned;
          fall = λ e. ap (λ (i : Side K). is_some i.output) fall ∙ h.fall (sym shows ∙ e);
          hides = λ l. fall_by fall (λ r. later b PatchChildren work rest line RunFallback (λ e. cc) r) (h.hides (inr (earlier b PatchChildren work rest line quiet ShowFallback l)));
          drops = λ l. child_by shows (λ r. later b PatchChildren work rest line ShowChildren (λ e. cc) r) (h.drops (inr (earlier b PatchChildren work rest line quiet DropFallback l)));
        }

    fallback_step : AllByRecursion (λ (j : Item K). Ahead (Row b RunFallback) j) rest → Patch app b FallbackSide x v work → Twofold (Row b RunFallback ∷ rest) b x → Twofold (work ++ rest) b y
    fallback_step line p h =
        let quiet = patch_items app v v b x y work rest found FallbackSide p in
        let shows = patch_shows app v v b x y work rest found FallbackSide p in
        let kid = patch_other app v v b x y work rest found FallbackSide ChildrenSide p (λ e. cc) in
        let out = patch_output app v v b x y work rest found FallbackSide p in
        record {
          kids = kids_by x y kid (λ r. later b RunFallback work rest line PatchChildren (λ e. cc) r) h.kids;
          turned = later_turn b RunFallback work rest line (λ e. cc) (λ e. cc) (λ e. cc) x y shows h.turned;
          fall = λ e. out;
          hides = λ l. inl out;
          drops = λ l. child_by shows (λ r. later b RunFallback work rest line ShowChildren (λ e. cc) r) (h.drops (inr (earlier b RunFallback work rest line quiet DropFallback l)));
        }

    ask_held : AllByRecursion (λ (j : Item K). Ahead (Row b MadeChildren) j) rest → Matches y x → Twofold (Row b MadeChildren ∷ rest) b x → Twofold (Row b RunFallback ∷ Row b ShowFallback ∷ rest) b y
    ask_held line m h =
        record {
          kids = kids_by x y (m.sides ChildrenSide) (λ l. behind b MadeChildren [] rest line PatchChildren (λ e. cc) refl l) h.kids;
          turned = inr (inr (inl (inr (inl refl))));
          fall = λ e. ap (λ (i : Side K). is_some i.output) (m.sides FallbackSide) ∙ h.fall (sym m.shows ∙ e);
          hides = λ l. inr (inl refl);
          drops = λ l. absurd (no_drop l);
        }
      where
        no_drop : Left (Row b RunFallback ∷ Row b ShowFallback ∷ rest) b DropFallback → ⊥
        no_drop (inl e) = cc
        no_drop (inr (inl e)) = cc
        no_drop (inr (inr l)) = not_ahead b MadeChildren [] rest line DropFallback refl l

    ask_free : AllByRecursion (λ (j : Item K). Ahead (Row b MadeChildren) j) rest → Matches y x → Twofold (Row b MadeChildren ∷ rest) b x → Twofold (Row b ShowChildren ∷ Row b Resolve ∷ rest) b y
    ask_free line m h =
        record {
          kids = kids_by x y (m.sides ChildrenSide) (λ l. behind b MadeChildren [] rest line PatchChildren (λ e. cc) refl l) h.kids;
          turned = inr (inr (inr (inl refl)));
          fall = λ e. ap (λ (i : Side K). is_some i.output) (m.sides FallbackSide) ∙ h.fall (sym m.shows ∙ e);
          hides = λ l. absurd (no_hide l);
          drops = λ l. inr (inl refl);
        }
      where
        no_hide : Left (Row b ShowChildren ∷ Row b Resolve ∷ rest) b ShowFallback → ⊥
        no_hide (inl e) = cc
        no_hide (inr (inl e)) = cc
        no_hide (inr (inr l)) = not_ahead b MadeChildren [] rest line ShowFallback refl l

    ask_step : (held : Bool) → AllByRecursion (λ (j : Item K). Ahead (Row b MadeChildren) j) rest → Matches y x → work ≡ row_items b (if held then RunFallback ∷ ShowFallback ∷ [] else ShowChildren ∷ Resolve ∷ []) → Twofold (Row b MadeChildren ∷ rest) b x
        → Twofold (work ++ rest) b y
    ask_step true line m items h = subst (λ (xs : List (Item K)). Twofold (xs ++ rest) b y) (sym items) (ask_held line m h)
    ask_step false line m items h = subst (λ (xs : List (Item K)). Twofold (xs ++ rest) b y) (sym items) (ask_free line m h)

    hide_step : AllByRecursion (λ (j : Item K). Ahead (Row b ShowFallback) j) rest → Matches y (record x { shows = Some FallbackSide }) → AllByRecursion (λ (i : Item K). NoStep i) work → Twofold (Row b ShowFallback ∷ rest) b x
        → Twofold (work ++ rest) b y
    hide_step line m quiet h =
        let had : is_some x.fallback_side.output ≡ true = elim (h.hides (inl refl)) [ inl o ↦ o | inr r ↦ behind b ShowFallback work rest line RunFallback (λ e. cc) refl r ] in
        let out : is_some y.fallback_side.output ≡ true = ap (λ (i : Side K). is_some i.output) (m.sides FallbackSide) ∙ had in
        record {
          kids = kids_by x y (m.sides ChildrenSide) (λ r. later b ShowFallback work rest line PatchChildren (λ e. cc) r) h.kids;
          turned = inl (inr m.shows);
          fall = λ e. out;
          hides = λ l. inl out;
          drops = λ l. not_ahead b ShowFallback work rest line DropFallback refl (earlier b ShowFallback work rest line quiet DropFallback l);
        }

    show_step : AllByRecursion (λ (j : Item K). Ahead (Row b ShowChildren) j) rest → Matches y (record x { shows = Some ChildrenSide }) → AllByRecursion (λ (i : Item K). NoStep i) work → Twofold (Row b ShowChildren ∷ rest) b x
        → Twofold (work ++ rest) b y
    show_step line m quiet h =
        record {
          kids = kids_by x y (m.sides ChildrenSide) (λ r. later b ShowChildren work rest line PatchChildren (λ e. cc) r) h.kids;
          turned = inl (inl m.shows);
          fall = λ e. let absurdity : Some ChildrenSide ≡ Some FallbackSide = sym m.shows ∙ e in cc;
          hides =
              λ l.
              fall_by (m.sides FallbackSide) (λ r. later b ShowChildren work rest line RunFallback (λ e. cc) r) (h.hides (inr (earlier b ShowChildren work rest line quiet ShowFallback l)));
          drops = λ l. inl m.shows;
        }

    clear_step : AllByRecursion (λ (j : Item K). Ahead (Row b DropFallback) j) rest → Matches y (record x { fallback_side = empty_side }) → AllByRecursion (λ (i : Item K). NoStep i) work
        → Twofold (Row b DropFallback ∷ rest) b x → Twofold (work ++ rest) b y
    clear_step line m quiet h =
        let shows : y.shows ≡ Some ChildrenSide = m.shows ∙ elim (h.drops (inl refl)) [ inl e ↦ e | inr r ↦ behind b DropFallback work rest line ShowChildren (λ e. cc) refl r ] in
        record {
          kids = kids_by x y (m.sides ChildrenSide) (λ r. later b DropFallback work rest line PatchChildren (λ e. cc) r) h.kids;
          turned = inl (inl shows);
          fall = λ e. let absurdity : Some ChildrenSide ≡ Some FallbackSide = sym shows ∙ e in cc;
          hides = λ l. not_ahead b DropFallback work rest line ShowFallback refl (earlier b DropFallback work rest line quiet ShowFallback l);
          drops = λ l. inl shows;
        }

    end_step : AllByRecursion (λ (j : Item K). Ahead (Row b Resolve) j) rest → Matches y x → AllByRecursion (λ (i : Item K). NoStep i) work → Twofold (Row b Resolve ∷ rest) b x → Twofold (work ++ rest) b y
    end_step line m quiet h =
        record {
          kids = kids_by x y (m.sides ChildrenSide) (λ r. later b Resolve work rest line PatchChildren (λ e. cc) r) h.kids;
          turned = later_turn b Resolve work rest line (λ e. cc) (λ e. cc) (λ e. cc) x y m.shows h.turned;
          fall = λ e. ap (λ (i : Side K). is_some i.output) (m.sides FallbackSide) ∙ h.fall (sym m.shows ∙ e);
          hides = λ l. fall_by (m.sides FallbackSide) (λ r. later b Resolve work rest line RunFallback (λ e. cc) r) (h.hides (inr (earlier b Resolve work rest line quiet ShowFallback l)));
          drops = λ l. child_by m.shows (λ r. later b Resolve work rest line ShowChildren (λ e. cc) r) (h.drops (inr (earlier b Resolve work rest line quiet DropFallback l)));
        }

    no_work : work ≡ [] → AllByRecursion (λ (i : Item K). NoStep i) work
    no_work idle = subst (λ (xs : List (Item K)). AllByRecursion (λ (i : Item K). NoStep i) xs) (sym idle) tt

    dropped_quiet : (ts : List ℕ) → work ≡ drop_items b FallbackSide ts → AllByRecursion (λ (i : Item K). NoStep i) work
    dropped_quiet ts items =
        subst (λ (xs : List (Item K)). AllByRecursion (λ (i : Item K). NoStep i) xs) (sym items) (drops_quiet (drop_items b FallbackSide ts) (drop_items_of K b FallbackSide ts))
      where
        drops_quiet : (xs : List (Item K)) → AllByRecursion (λ (i : Item K). (owner i ≡ b) × IsDropped i × NoStep i) xs → AllByRecursion (λ (i : Item K). NoStep i) xs
        drops_quiet [] h = tt
        drops_quiet (i ∷ xs) h = (h.0.2, drops_quiet xs h.1)

    twofold_step : (step : RowStep) → AllByRecursion (λ (j : Item K). Ahead (Row b step) j) rest → StepDid app v b x step v work → Twofold (Row b step ∷ rest) b x → Twofold (work ++ rest) b y
    twofold_step PatchChildren line did h = children_step line did h
    twofold_step MadeChildren line did h = ask_step (is_held x) line (after_of (at v.scopes b) x y did.0 found) did.1 h
    twofold_step RunFallback line did h = fallback_step line did h
    twofold_step ShowFallback line did h = hide_step line (after_of (at v.scopes b) (record x { shows = Some FallbackSide }) y did.0 found) (no_work did.1) h
    twofold_step ShowChildren line did h = show_step line (after_of (at v.scopes b) (record x { shows = Some ChildrenSide }) y did.0 found) (no_work did.1) h
    twofold_step DropFallback line did h =
        clear_step line (after_of (at v.scopes b) (record x { fallback_side = empty_side }) y did.0 found) (dropped_quiet did.1.0 did.1.1) h
    twofold_step Resolve line did h = end_step line (after_of (at v.scopes b) x y did.0 found) (no_work did.1) h

    -- after a step its boundary is dressed
    pub step_dressed : (step : RowStep) → AllByRecursion (λ (j : Item K). Ahead (Row b step) j) rest → StepDid app v b x step v work → Dressed (Row b step ∷ rest) b x → Dressed (work ++ rest) b y
    step_dressed step line did (inl h) = absurd (h.none step (inl refl))
    step_dressed step line did (inr h) = inr (twofold_step step line did h)
