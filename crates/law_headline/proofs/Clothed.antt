-- Wherever moves lead after the build has begun, the open work is in line and each scope has an output on the side that shows.
use Rattle.std.proofs.Common.{ℕ, ◌+◌, Bool, true, false, List, [], ◌∷◌, ◌++◌, ◌≡◌, ◌⊎◌, inl, inr, refl, sym, ap, ◌∙◌, subst, arith, nat_eq}
use Rattle.std.specs.Prelude.{Option, Some, None, if◌then◌else◌, is_some}
use Rattle.std.specs.List.{AllByRecursion}
use Rattle.std.proofs.lemmas.Bool.{eqb-true}
use Rattle.std.proofs.lemmas.List.{append-nil}
use Rattle.rt_model.specs.Lists.{at, put}
use Rattle.rt_model.specs.Tree.{Types, Place, Kind, VComponent, Root, Tree, is_suspense_boundary}
use Rattle.rt_model.specs.World.{Scopes, Elements, at_end, before_render_kind, Firsts, Application}
use Rattle.rt_model.specs.Laws.{IsLawful}
use Rattle.rt_model.specs.State.{SideName, MainSide, ChildrenSide, FallbackSide, Fault, IdsExhausted, RowStep, PatchChildren, MadeChildren, RunFallback, ShowFallback, ShowChildren, DropFallback, Resolve, Scope, State, Item, Draw, Row, Feed, Make, Drop, Outcome, Done, Cut, onward, side_of, with_side, new_scope, changed_scope, change, is_live, is_held, height_of}
use Rattle.rt_model.specs.Run.{child_at, with_next, row_of, hooks_called, unmarked, run_as, run}
use Rattle.rt_model.specs.Boundary.{drop_items, boundary_step}
use Rattle.rt_model.specs.Removal.{removed}
use Rattle.rt_model.specs.Replay.{Input, Machine, numbered, draw_number, with_child, with_new_scope, made_in, keeps, with_props, handed, outcome_of}
use Rattle.rt_model.specs.Causes.{Limits}
use Rattle.rt_model.proofs.Maps.{by_test, none_some, eq_same, at_put_here, at_put_other}
use Rattle.rt_model.proofs.Among.{Among, among_right}
use Rattle.rt_model.proofs.TakesOne.{removal_takes_one}
use Rattle.law_moves.specs.Calls.{IsReady}
use Rattle.law_moves.specs.Reached.{first_scope, start_at, Reached}
use Rattle.law_moves.proofs.Twigs.{found_live, up_height, kids}
use Rattle.law_moves.proofs.Woven.{owner}
use Rattle.law_moves.proofs.Lists.{every_among}
use Rattle.law_moves.proofs.Weaves.{knows_of}
use Rattle.law_moves.proofs.Made.{at_child, part}
use Rattle.law_moves.proofs.Everywhere.{fed_kid}
use Rattle.law_moves.specs.Frames.{Shown, shown, Keeps}
use Rattle.law_moves.proofs.Untouched.{run_leaves, item_leaves, removal_leaves}
use Rattle.law_headline.proofs.Steps.{Ready, Outlasts, built_keep}
use Rattle.law_headline.proofs.Did.{change_there, agenda, Patch, RunDid, run_did, StepDid, step_did}
use Rattle.law_headline.proofs.Lines.{clash, among_either, every_of, Ahead, Line, NoStep, AllOf, rows_of, drop_items_of, IsDropped, agenda_of, agenda_line, rows_line, made_line, line_join, ahead_apart, ahead_step, behind_step, behind_feed, owner_lives}
use Rattle.law_headline.proofs.Trees.{keeps_of, apart_has}
use Rattle.law_headline.proofs.Dressed.{Left, Dressed, Raw, SameRows, NoneOf, dressed_by, run_dressed, step_dressed}

-- which side of a scope shows, and the output of each side
abbrev pub Dress : Types → Type 0
Dress K = Option SideName × Option (Tree K) × Option (Tree K) × Option (Tree K)

pub not_itself : {P : Type 0} (s t : ℕ) → s ≡ t → nat_eq s t ≡ false → P
not_itself s t e q = let absurdity : true ≡ false = sym (eq_same s) ∙ ap (λ (n : ℕ). nat_eq s n) e ∙ q in cc

module _ {K : Types} where
  abbrev pub dress : Option (Scope K) → Option (Dress K)
  dress None = None
  dress (Some x) = Some (x.shows, x.main_side.output, x.children_side.output, x.fallback_side.output)

  abbrev dress_in : Option (Shown K) → Option (Dress K)
  dress_in None = None
  dress_in (Some f) = Some (f.4, f.5.output, f.6.output, f.7.output)

  dress_shown : (o : Option (Scope K)) → dress o ≡ dress_in (shown o)
  dress_shown None = refl
  dress_shown (Some x) = refl

  pub dress_by : (o p : Option (Scope K)) → shown o ≡ shown p → dress o ≡ dress p
  dress_by o p h = dress_shown o ∙ ap (λ (f : Option (Shown K)). dress_in f) h ∙ sym (dress_shown p)

  abbrev shows_in : Option (Dress K) → Option SideName
  shows_in None = None
  shows_in (Some f) = f.0

  abbrev output_in : SideName → Option (Dress K) → Option (Tree K)
  output_in a None = None
  output_in MainSide (Some f) = f.1
  output_in ChildrenSide (Some f) = f.2
  output_in FallbackSide (Some f) = f.3

  outputs_by : (y x : Scope K) → dress (Some y) ≡ dress (Some x) → (a : SideName) → (side_of y a).output ≡ (side_of x a).output
  outputs_by y x h MainSide = ap (λ o. output_in MainSide o) h
  outputs_by y x h ChildrenSide = ap (λ o. output_in ChildrenSide o) h
  outputs_by y x h FallbackSide = ap (λ o. output_in FallbackSide o) h

  -- the open work is in line, and each scope has an output on the side that shows, or will have one
  pub record Clothed (w : State K) (work : List (Item K)) : Type 0 where
    pub line : Line work
    pub dressed : (b : ℕ) (x : Scope K) → at w.scopes b ≡ Some x → Dressed work b x

  -- of a scope that is dressed as another one
  redressed : (work after : List (Item K)) (t : ℕ) (o : Option (Scope K)) (y : Scope K) → dress (Some y) ≡ dress o → SameRows work after t → ((x : Scope K) → o ≡ Some x → Dressed work t x) → Dressed after t y
  redressed work after t None y h rows f = cc
  redressed work after t (Some x) y h rows f = dressed_by work after t x y (ap (λ o. shows_in o) h) (λ a. outputs_by y x h a) rows (f x refl)

  redressed_at : (work after : List (Item K)) (w v : State K) (t : ℕ) (y : Scope K) → dress (at v.scopes t) ≡ dress (at w.scopes t) → at v.scopes t ≡ Some y → SameRows work after t
      → ((x : Scope K) → at w.scopes t ≡ Some x → Dressed work t x) → Dressed after t y
  redressed_at work after w v t y h found rows f = redressed work after t (at w.scopes t) y (sym (ap (λ (o : Option (Scope K)). dress o) found) ∙ h) rows f

  -- nothing of what is dressed changes
  same_clothed : (w v : State K) (work after : List (Item K)) → ((t : ℕ) → dress (at v.scopes t) ≡ dress (at w.scopes t)) → ((t : ℕ) → SameRows work after t) → Line after → Clothed w work → Clothed v after
  same_clothed w v work after same rows line h = record { line = line; dressed = λ t y found. redressed_at work after w v t y (same t) found (rows t) (λ x e. h.dressed t x e) }

  -- the first item was no step of this scope's run
  rest_rows : (item : Item K) (rest : List (Item K)) (t : ℕ) → ((step : RowStep) → item ≡ Row t step → ⊥) → SameRows (item ∷ rest) rest t
  rest_rows item rest t n step = (λ l. elim l [ inl e ↦ absurd (n step e) | inr g ↦ g ], λ l. inr l)

  more_rows : (work rest : List (Item K)) (t : ℕ) → ((step : RowStep) → Left work t step → ⊥) → SameRows rest (work ++ rest) t
  more_rows work rest t n step =
      (λ l. among_right work rest (Row t step) l, λ l. elim (among_either work rest (Row t step) l) [ inl g ↦ absurd (n step g) | inr g ↦ g ])

  all_other : (work : List (Item K)) (s t : ℕ) → AllOf s work → nat_eq s t ≡ false → (step : RowStep) → Left work t step → ⊥
  all_other work s t all q step l = not_itself s t (sym (every_among (λ (i : Item K). owner i ≡ s) work (Row t step) all l)) q

  -- one scope's change opens work of its own
  opened_clothed : (w v : State K) (s : ℕ) (work rest : List (Item K)) → ((t : ℕ) → nat_eq s t ≡ false → dress (at v.scopes t) ≡ dress (at w.scopes t)) → AllOf s work → Line (work ++ rest)
      → ((t : ℕ) (x : Scope K) → nat_eq s t ≡ false → at w.scopes t ≡ Some x → Dressed rest t x)
      → ((y : Scope K) → at v.scopes s ≡ Some y → Dressed (work ++ rest) s y)
      → Clothed v (work ++ rest)
  opened_clothed w v s work rest others all line before own =
      record {
        line = line;
        dressed =
            λ t y found.
            by_test (nat_eq s t)
            (λ q. subst (λ (n : ℕ). Dressed (work ++ rest) n y) (eqb-true s t q) (own y (ap (λ (n : ℕ). at v.scopes n) (eqb-true s t q) ∙ found)))
            (λ q. redressed_at rest (work ++ rest) w v t y (others t q) found (more_rows work rest t (all_other work s t all q)) (λ x e. before t x q e));
      }

  -- work of one scope before work of others
  line_opened : (s : ℕ) (work rest : List (Item K)) → Line work → Line rest → AllOf s work → NoneOf s rest → Line (work ++ rest)
  line_opened s work rest l r all none =
      line_join work rest l r
      (λ i j f g. ahead_apart i j (λ e. none j g (sym e ∙ every_among (λ (k : Item K). owner k ≡ s) work i all f)))

  -- one record is another one that is dressed alike
  put_dress : (es : List (ℕ × Scope K)) (s : ℕ) (x y : Scope K) → at es s ≡ Some x → dress (Some y) ≡ dress (Some x) → (t : ℕ) → dress (at (put es s y) t) ≡ dress (at es t)
  put_dress es s x y here same t =
      by_test (nat_eq s t)
      (λ q. ap (λ (o : Option (Scope K)). dress o) (at_put_here es s y t q) ∙ same ∙ ap (λ (o : Option (Scope K)). dress o) (sym here ∙ ap (λ (k : ℕ). at es k) (eqb-true s t q)))
      (λ q. ap (λ (o : Option (Scope K)). dress o) (at_put_other es s y t q))

  changed_dress : (w : State K) (s : ℕ) (f : Scope K → Scope K) (o : Option (Scope K)) → at w.scopes s ≡ o → ((x : Scope K) → dress (Some (f x)) ≡ dress (Some x)) → (t : ℕ) → dress (at (changed_scope w s f o).scopes t) ≡ dress (at w.scopes t)
  changed_dress w s f None here same t = refl
  changed_dress w s f (Some x) here same t = put_dress w.scopes s x (f x) here (same x) t

  change_dress : (w : State K) (s : ℕ) (f : Scope K → Scope K) → ((x : Scope K) → dress (Some (f x)) ≡ dress (Some x)) → (t : ℕ) → dress (at (change w s f).scopes t) ≡ dress (at w.scopes t)
  change_dress w s f same t = changed_dress w s f (at w.scopes s) refl same t

  number_dress : (x : Scope K) (a : SideName) (e : Place × Kind × ℕ) → dress (Some (with_side x a (record (side_of x a) { numbers = (side_of x a).numbers ++ e ∷ [] }))) ≡ dress (Some x)
  number_dress x MainSide e = refl
  number_dress x ChildrenSide e = refl
  number_dress x FallbackSide e = refl

  child_dress : (x : Scope K) (a : SideName) (p : Place) (n : ℕ) → dress (Some (with_child a p n x)) ≡ dress (Some x)
  child_dress x MainSide p n = refl
  child_dress x ChildrenSide p n = refl
  child_dress x FallbackSide p n = refl

  pub drawn_is : (w u v : State K) (work : List (Item K)) (fault : Fault) (b : Bool) → (if b then Cut w fault else Done u []) ≡ Done v work → (u ≡ v) × ([] ≡ work)
  drawn_is w u v work fault true e = cc
  drawn_is w u v work fault false e = (cc, cc)

  raw_new : (c : VComponent K) (parent : Option ℕ) (height : ℕ) (a : SideName) → Raw (new_scope c parent height a)
  raw_new c parent height a =
      by_test (is_suspense_boundary c) (λ q. inl (q, ap (λ (b : Bool). if b then None else Some MainSide) q)) (λ q. inr (q, ap (λ (b : Bool). if b then None else Some MainSide) q))

  firsts : (s : ℕ) (xs : List (Item K)) → AllByRecursion (λ (i : Item K). (owner i ≡ s) × NoStep i) xs → AllOf s xs
  firsts s [] h = tt
  firsts s (i ∷ xs) h = (h.0.0, firsts s xs h.1)

  drop_firsts : (s : ℕ) (xs : List (Item K)) → AllByRecursion (λ (i : Item K). (owner i ≡ s) × IsDropped i × NoStep i) xs → AllOf s xs
  drop_firsts s [] h = tt
  drop_firsts s (i ∷ xs) h = (h.0.0, drop_firsts s xs h.1)

  drop_line : (xs : List (Item K)) (s : ℕ) → AllByRecursion (λ (i : Item K). (owner i ≡ s) × IsDropped i × NoStep i) xs → Line xs
  drop_line [] s h = tt
  drop_line (i ∷ xs) s h = (every_of (λ (j : Item K). Ahead i j) xs (λ j g. behind i j h.0.1), drop_line xs s h.1)
    where
      behind : (i j : Item K) → IsDropped i → Ahead i j
      behind (Drop t u b) j d = tt
      behind (Draw t b p k) j d = tt
      behind (Make t b p k) j d = tt
      behind (Feed t b p k) j d = absurd d
      behind (Row b step) j d = absurd d

module _ {K : Types} (app : Application K) where
  patch_all : (s : ℕ) (a : SideName) (x : Scope K) (v : State K) (work : List (Item K)) → Patch app s a x v work → AllOf s work × Line work
  patch_all s a x v work p =
      subst (λ (xs : List (Item K)). AllOf s xs × Line xs) (sym p.opens)
      (firsts s (agenda app s a (side_of x a) p.tree) (agenda_of app s a (side_of x a) p.tree), agenda_line app s a (side_of x a) p.tree)

  -- what a run opens is of its scope, and in line
  pub run_all : (w v : State K) (s : ℕ) (x : Scope K) (work : List (Item K)) → RunDid app w s x v work → AllOf s work × Line work
  run_all w v s x work (inl h) =
      subst (λ (xs : List (Item K)). AllOf s xs × Line xs) (sym h.1.1) (rows_of K s (row_of x.shows (is_held x)), rows_line K s x.shows (is_held x))
  run_all w v s x work (inr (no_boundary, inl p)) = patch_all s MainSide x v work p
  run_all w v s x work (inr (no_boundary, inr h)) = subst (λ (xs : List (Item K)). AllOf s xs × Line xs) (sym h.0) (tt, tt)

  pub step_all : (w v : State K) (b : ℕ) (x : Scope K) (step : RowStep) (work : List (Item K)) → StepDid app w b x step v work → AllOf b work × Line work
  step_all w v b x PatchChildren work p = patch_all b ChildrenSide x v work p
  step_all w v b x MadeChildren work h =
      subst (λ (xs : List (Item K)). AllOf b xs × Line xs) (sym h.1)
      (rows_of K b (if is_held x then RunFallback ∷ ShowFallback ∷ [] else ShowChildren ∷ Resolve ∷ []), made_line K b (is_held x))
  step_all w v b x RunFallback work p = patch_all b FallbackSide x v work p
  step_all w v b x ShowFallback work h = subst (λ (xs : List (Item K)). AllOf b xs × Line xs) (sym h.1) (tt, tt)
  step_all w v b x ShowChildren work h = subst (λ (xs : List (Item K)). AllOf b xs × Line xs) (sym h.1) (tt, tt)
  step_all w v b x DropFallback work h =
      subst (λ (xs : List (Item K)). AllOf b xs × Line xs) (sym h.1.1)
      (drop_firsts b (drop_items b FallbackSide h.1.0) (drop_items_of K b FallbackSide h.1.0), drop_line (drop_items b FallbackSide h.1.0) b (drop_items_of K b FallbackSide h.1.0))
  step_all w v b x Resolve work h = subst (λ (xs : List (Item K)). AllOf b xs × Line xs) (sym h.1) (tt, tt)

  -- what a step opens, but for the question whether the boundary is held, holds no step
  pub step_quiet : (w v : State K) (b : ℕ) (x : Scope K) (step : RowStep) (work : List (Item K)) → StepDid app w b x step v work → (step ≡ MadeChildren) ⊎ AllByRecursion (λ (i : Item K). NoStep i) work
  step_quiet w v b x PatchChildren work p = inr (patch_quiet ChildrenSide p)
    where
      seconds : (xs : List (Item K)) → AllByRecursion (λ (i : Item K). (owner i ≡ b) × NoStep i) xs → AllByRecursion (λ (i : Item K). NoStep i) xs
      seconds [] h = tt
      seconds (i ∷ xs) h = (h.0.1, seconds xs h.1)

      patch_quiet : (a : SideName) → Patch app b a x v work → AllByRecursion (λ (i : Item K). NoStep i) work
      patch_quiet a p = subst (λ (xs : List (Item K)). AllByRecursion (λ (i : Item K). NoStep i) xs) (sym p.opens) (seconds (agenda app b a (side_of x a) p.tree) (agenda_of app b a (side_of x a) p.tree))
  step_quiet w v b x MadeChildren work h = inl refl
  step_quiet w v b x RunFallback work p = inr (patch_quiet FallbackSide p)
    where
      seconds : (xs : List (Item K)) → AllByRecursion (λ (i : Item K). (owner i ≡ b) × NoStep i) xs → AllByRecursion (λ (i : Item K). NoStep i) xs
      seconds [] h = tt
      seconds (i ∷ xs) h = (h.0.1, seconds xs h.1)

      patch_quiet : (a : SideName) → Patch app b a x v work → AllByRecursion (λ (i : Item K). NoStep i) work
      patch_quiet a p = subst (λ (xs : List (Item K)). AllByRecursion (λ (i : Item K). NoStep i) xs) (sym p.opens) (seconds (agenda app b a (side_of x a) p.tree) (agenda_of app b a (side_of x a) p.tree))
  step_quiet w v b x ShowFallback work h = inr (subst (λ (xs : List (Item K)). AllByRecursion (λ (i : Item K). NoStep i) xs) (sym h.1) tt)
  step_quiet w v b x ShowChildren work h = inr (subst (λ (xs : List (Item K)). AllByRecursion (λ (i : Item K). NoStep i) xs) (sym h.1) tt)
  step_quiet w v b x DropFallback work h = inr (subst (λ (xs : List (Item K)). AllByRecursion (λ (i : Item K). NoStep i) xs) (sym h.1.1) (thirds (drop_items b FallbackSide h.1.0) (drop_items_of K b FallbackSide h.1.0)))
    where
      thirds : (xs : List (Item K)) → AllByRecursion (λ (i : Item K). (owner i ≡ b) × IsDropped i × NoStep i) xs → AllByRecursion (λ (i : Item K). NoStep i) xs
      thirds [] h = tt
      thirds (i ∷ xs) h = (h.0.2, thirds xs h.1)
  step_quiet w v b x Resolve work h = inr (subst (λ (xs : List (Item K)). AllByRecursion (λ (i : Item K). NoStep i) xs) (sym h.1) tt)

  pub step_line : (w v : State K) (b : ℕ) (x : Scope K) (step : RowStep) (rest work : List (Item K)) → Ready w (Row b step ∷ rest) → Line (Row b step ∷ rest) → StepDid app w b x step v work → Line (work ++ rest)
  step_line w v b x step rest work ready line did =
      line_join work rest (step_all w v b x step work did).1 line.1 (λ i j f g. ahead i j f g (nat_eq (owner j) b) refl)
    where
      ahead_row : (i : Item K) (other : RowStep) → Among work i → Among rest (Row b other) → (step ≡ MadeChildren) ⊎ AllByRecursion (λ (k : Item K). NoStep k) work → Ahead i (Row b other)
      ahead_row i other f g (inr quiet) = ahead_step i b other (every_among (λ (k : Item K). NoStep k) work i quiet f)
      ahead_row i other f g (inl made) =
          let bad : clash step other ≡ false = every_among (λ (k : Item K). Ahead (Row b step) k) rest (Row b other) line.0 g refl in
          let absurdity : true ≡ false = sym (ap (λ (z : RowStep). clash z other) made) ∙ bad in
          cc

      ahead : (i j : Item K) → Among work i → Among rest j → (q : Bool) → nat_eq (owner j) b ≡ q → Ahead i j
      ahead i j f g true q =
          let is = behind_step w b step rest j ready.woven.stack.2 g (eqb-true (owner j) b q) in
          subst (λ (k : Item K). Ahead i k) (sym is.1) (ahead_row i is.0 f (subst (λ (k : Item K). Among rest k) is.1 g) (step_quiet w v b x step work did))
      ahead i j f g false q =
          ahead_apart i j
          (λ e. not_itself (owner j) b (sym e ∙ every_among (λ (k : Item K). owner k ≡ b) work i (step_all w v b x step work did).0 f) q)

module _ {K : Types} (app : Application K) (lawful : IsLawful K app) where
  -- a run of a scope that is dressed, or raw
  run_clothed : (w u v : State K) (s : ℕ) (rest work : List (Item K)) (x : Scope K) → at u.scopes s ≡ Some x → run app u s ≡ Done v work → Line rest → NoneOf s rest
      → ((t : ℕ) (z : Scope K) → nat_eq s t ≡ false → at u.scopes t ≡ Some z → Dressed rest t z) → Dressed [] s x ⊎ Raw x
      → Clothed v (work ++ rest)
  run_clothed w u v s rest work x found e line none before own =
      let did : RunDid app u s x v work = run_did app u v s x work found e in
      let all = run_all app u v s x work did in
      let k : Keeps (s ∷ []) [] u v = keeps_of (s ∷ []) [] u v work (run app u s) (run_leaves app u s) e in
      opened_clothed u v s work rest (λ t q. dress_by (at v.scopes t) (at u.scopes t) (k.sides t (apart_has s t q))) all.0 (line_opened s work rest all.1 line all.0 none) before
      (λ y there. run_dressed app u v s x y work rest there none found did own)

  row_clothed : (w v : State K) (b : ℕ) (step : RowStep) (rest work : List (Item K)) → Ready w (Row b step ∷ rest) → Clothed w (Row b step ∷ rest) → boundary_step app w b step ≡ Done v work → Clothed v (work ++ rest)
  row_clothed w v b step rest work ready h e =
      let x = found_live (at w.scopes b) ready.woven.stack.0 in
      let did : StepDid app w b x.0 step v work = step_did app lawful w v b x.0 step work x.1 e in
      let k : Keeps (b ∷ []) [] w v = keeps_of (b ∷ []) [] w v work (boundary_step app w b step) (item_leaves app w (Row b step)) e in
      opened_clothed w v b work rest (λ t q. dress_by (at v.scopes t) (at w.scopes t) (k.sides t (apart_has b t q))) (step_all app w v b x.0 step work did).0
      (step_line app w v b x.0 step rest work ready h.line did)
      (
      λ t z q there.
      dressed_by (Row b step ∷ rest) rest t z z refl (λ a. refl) (rest_rows (Row b step) rest t (λ other same. not_itself b t (ap (λ (i : Item K). owner i) same) q)) (h.dressed t z there)
      )
      (λ y there. step_dressed app v b x.0 y work rest there step h.line.0 did (h.dressed b x.0 x.1))

  draw_clothed : (w v : State K) (s : ℕ) (a : SideName) (p : Place) (kind : Kind) (rest work : List (Item K)) → Clothed w (Draw s a p kind ∷ rest) → draw_number w s a p kind ≡ Done v work → Clothed v (work ++ rest)
  draw_clothed w v s a p kind rest work h e =
      let u : State K = numbered w s a p kind in
      let is = drawn_is w u v work (IdsExhausted Elements) (at_end w.next.elements) e in
      let next : State K = with_next w (record (w.next) { elements = w.next.elements + 1 }) in
      let now : Clothed u rest =
      same_clothed w u (Draw s a p kind ∷ rest) rest
      (λ t. change_dress next s (λ x. with_side x a (record (side_of x a) { numbers = (side_of x a).numbers ++ (p, kind, w.next.elements) ∷ [] })) (λ x. number_dress x a (p, kind, w.next.elements)) t)
      (λ t. rest_rows (Draw s a p kind) rest t (λ step same. cc)) h.line.1 h in
      subst (λ (xs : List (Item K)). Clothed v (xs ++ rest)) is.1 (subst (λ (z : State K). Clothed z rest) is.0 now)

  -- what comes behind a feed is of no scope that is as high as the child
  pub feed_none : (w : State K) (s t : ℕ) (a : SideName) (p : Place) (c : VComponent K) (rest : List (Item K)) → Ready w (Feed s a p c ∷ rest) → child_at (kids w s a) p ≡ Some t → is_live w t ≡ true → NoneOf t rest
  feed_none w s t a p c rest ready kid live j g e =
      let step : height_of w.scopes t ≡ height_of w.scopes s + 1 =
      up_height w (Feed s a p c ∷ rest) ready.rooted ready.stands t s ((knows_of w (Feed s a p c ∷ rest) ready.stands).parents s t a p kid live).0 ready.woven.stack.0 in
      let level : height_of w.scopes (owner j) ≡ height_of w.scopes t = ap (λ (n : ℕ). height_of w.scopes n) e in
      elim (behind_feed w s a p c rest j ready.woven.stack.2 g) [
        | inl low ↦ absurd (omega (arith, low, level, step))
        | inr same ↦ (let here : height_of w.scopes (owner j) ≡ height_of w.scopes s = ap (λ (n : ℕ). height_of w.scopes n) same in absurd (omega (arith, here, level, step)))
      ]

  props_dress : (x : Scope K) (c : VComponent K) → dress (Some (record x { component = c })) ≡ dress (Some x)
  props_dress x c = refl

  handed_clothed : (w v : State K) (t : ℕ) (c : VComponent K) (item : Item K) (rest work : List (Item K)) (b : Bool) → is_live w t ≡ true → NoneOf t rest → ((n : ℕ) (step : RowStep) → item ≡ Row n step → ⊥) → Clothed w (item ∷ rest)
      → (if b then Done (with_props app w t c) [] else run app (with_props app w t c) t) ≡ Done v work → Clothed v (work ++ rest)
  handed_clothed w v t c item rest work true live none no_row h e =
      let u : State K = with_props app w t c in
      let state : u ≡ v = cc in
      let items : [] ≡ work = cc in
      let now : Clothed u rest =
      same_clothed w u (item ∷ rest) rest (λ n. change_dress w t (λ x. record x { component = c }) (λ x. refl) n) (λ n. rest_rows item rest n (λ step same. no_row n step same)) h.line.1 h in
      subst (λ (xs : List (Item K)). Clothed v (xs ++ rest)) items (subst (λ (z : State K). Clothed z rest) state now)
  handed_clothed w v t c item rest work false live none no_row h e =
      let u : State K = with_props app w t c in
      let x = found_live (at w.scopes t) live in
      let there : at u.scopes t ≡ Some (record x.0 { component = c }) = change_there w t (λ z. record z { component = c }) x.0 x.1 in
      let before : Clothed u rest =
      same_clothed w u (item ∷ rest) rest (λ n. change_dress w t (λ z. record z { component = c }) (λ z. refl) n) (λ n. rest_rows item rest n (λ step same. no_row n step same)) h.line.1 h in
      run_clothed w u v t rest work (record x.0 { component = c }) there e h.line.1 none (λ n z q found. before.dressed n z found)
      (inl (dressed_by rest [] t (record x.0 { component = c }) (record x.0 { component = c }) refl (λ a. refl) (λ step. (λ l. absurd (none (Row t step) l refl), λ l. absurd l)) (before.dressed t (record x.0 { component = c }) there)))

  feed_clothed : (w v : State K) (s : ℕ) (a : SideName) (p : Place) (c : VComponent K) (rest work : List (Item K)) → Ready w (Feed s a p c ∷ rest) → Clothed w (Feed s a p c ∷ rest) → outcome_of app w (Feed s a p c) ≡ Done v work
      → Clothed v (work ++ rest)
  feed_clothed w v s a p c rest work ready h e =
      let kid = ready.woven.stack.1 in
      let t : ℕ = kid.0 in
      let is : handed app w t c ≡ Done v work =
      sym (ap (λ (o : Option ℕ). elim o as (λ z. Outcome K) [ None ↦ Done w [] | Some i ↦ handed app w i c ]) (fed_kid w s a p ∙ kid.1)) ∙ e in
      handed_clothed w v t c (Feed s a p c) rest work (keeps app w t c) kid.2 (feed_none w s t a p c rest ready kid.1 kid.2) (λ n step same. cc) h is

  pub made_is : (w u v : State K) (n : ℕ) (work : List (Item K)) (b : Bool) → (if b then Cut w (IdsExhausted Scopes) else run app u n) ≡ Done v work → run app u n ≡ Done v work
  made_is w u v n work true e = cc
  made_is w u v n work false e = e

  make_clothed : (w v : State K) (s : ℕ) (a : SideName) (p : Place) (c : VComponent K) (rest work : List (Item K)) → Ready w (Make s a p c ∷ rest) → Clothed w (Make s a p c ∷ rest) → outcome_of app w (Make s a p c) ≡ Done v work
      → Clothed v (work ++ rest)
  make_clothed w v s a p c rest work ready h e =
      let n : ℕ = w.next_scope in
      let fresh : at w.scopes n ≡ None = (ready.rooted).drawn n (omega arith) in
      let x = found_live (at w.scopes s) ready.woven.stack.0 in
      let u : State K = with_new_scope w s a p c x.0 in
      let new : Scope K = new_scope c (Some s) ((x.0).height + 1) a in
      let ran : run app u n ≡ Done v work =
      made_is w u v n work (at_end w.next_scope)
      (sym (ap (λ (o : Option (Scope K)). elim o as (λ z. Outcome K) [ None ↦ Done w [] | Some y ↦ made_in app w s a p c y ]) x.1) ∙ e) in
      let none : NoneOf n rest =
      λ j g same.
      let live : is_live w n ≡ true = ap (λ (i : ℕ). is_live w i) (sym same) ∙ owner_lives w rest j ready.woven.stack.3 g in
      let absurdity : true ≡ false = sym live ∙ ap (λ (o : Option (Scope K)). is_some o) fresh in
      cc in
      run_clothed w u v n rest work new (at_child w s a p c x.0 x.1 fresh) ran h.line.1 none
      (
      λ t z q found.
      redressed_at (Make s a p c ∷ rest) rest w u t z (part w s a p c x.0 x.1 fresh (λ (o : Option (Scope K)). dress o) t q (child_dress x.0 a p n)) found
      (rest_rows (Make s a p c) rest t (λ step same. cc)) (λ y there. h.dressed t y there)
      )
      (inr (raw_new c (Some s) ((x.0).height + 1) a))

  served_clothed : (w v : State K) (item : Item K) (rest work : List (Item K)) → Ready w (item ∷ rest) → IsReady w item → Clothed w (item ∷ rest) → outcome_of app w item ≡ Done v work → Clothed v (work ++ rest)
  served_clothed w v (Draw s a p k) rest work ready there h e = draw_clothed w v s a p k rest work h e
  served_clothed w v (Row b step) rest work ready there h e = row_clothed w v b step rest work ready h e
  served_clothed w v (Feed s a p c) rest work ready there h e = feed_clothed w v s a p c rest work ready h e
  served_clothed w v (Make s a p c) rest work ready there h e = make_clothed w v s a p c rest work ready h e
  served_clothed w v (Drop t s a) rest work ready there h e = absurd there

  gone_clothed : (w v : State K) (l : ℕ) (before after work : List (Item K)) → removed app w l ≡ Done v work → ((t : ℕ) → SameRows before after t) → Line after → Clothed w before → Clothed v (work ++ after)
  gone_clothed w v l before after work e rows line h =
      let took = removal_takes_one app lawful w v l work e in
      let k : Keeps (l ∷ []) (l ∷ []) w v = keeps_of (l ∷ []) (l ∷ []) w v work (removed app w l) (removal_leaves app w l) e in
      subst (λ (xs : List (Item K)). Clothed v (xs ++ after)) (sym took.0)
      (record {
        line = line;
        dressed =
            λ t y found.
            by_test (nat_eq l t)
            (λ q. none_some took.1.gone (ap (λ (n : ℕ). at v.scopes n) (eqb-true l t q) ∙ found))
            (λ q. redressed_at before after w v t y (dress_by (at v.scopes t) (at w.scopes t) (k.sides t (apart_has l t q))) found (rows t) (λ x there. h.dressed t x there));
      })

  same_rows : (work : List (Item K)) (t : ℕ) → SameRows work work t
  same_rows work t step = (λ l. l, λ l. l)

  pub clothed_lasts : Outlasts app lawful Clothed
  clothed_lasts =
      record {
        inside =
            record {
              serves = λ w v item rest work before after ready p e. served_clothed w v item rest work before ready p e;
              drops =
                  λ w v scope parent side rest work before after first live p e.
                  gone_clothed w v scope (Drop scope parent side ∷ rest) rest work e (λ t. rest_rows (Drop scope parent side) rest t (λ step same. cc)) p.line.1 p;
              thins =
                  λ w v scope top parent side rest work before after first other live p e.
                  gone_clothed w v scope (Drop top parent side ∷ rest) (Drop top parent side ∷ rest) work e (λ t. same_rows (Drop top parent side ∷ rest) t) p.line p;
            };
        calms = λ w v level h. same_clothed w v [] [] (λ t. dress_by (at v.scopes t) (at w.scopes t) (level.shows t)) (λ t. same_rows [] t) tt h;
        runs = λ w v s work before after h e. run_begins w v s work h e (at w.scopes s) refl;
      }
    where
      run_begins : (w v : State K) (s : ℕ) (work : List (Item K)) → Clothed w [] → run app w s ≡ Done v work → (o : Option (Scope K)) → at w.scopes s ≡ o → Clothed v work
      run_begins w v s work h e None found =
          let is : Done w [] ≡ Done v work = sym (ap (λ (o : Option (Scope K)). elim o as (λ z. Outcome K) [
            | None ↦ Done w []
            | Some x ↦ onward (hooks_called app before_render_kind (unmarked w s) s x.hooks) (λ u. run_as app u s x x.component)
          ]) found) ∙ e in
          let state : w ≡ v = cc in
          let items : [] ≡ work = cc in
          subst (λ (xs : List (Item K)). Clothed v xs) items (subst (λ (z : State K). Clothed z []) state h)
      run_begins w v s work h e (Some x) found =
          subst (λ (xs : List (Item K)). Clothed v xs) (append-nil work) (run_clothed w w v s [] work x found e tt (λ j g same. absurd g) (λ t z q there. h.dressed t z there) (inl (h.dressed s x found)))

  first_clothed : (props : K.Props) (firsts : Firsts) (contexts : List (ℕ × K.Value)) (inputs : List (Input K)) (v : State K) (work : List (Item K))
      → run app (start_at app props firsts contexts inputs).state 0 ≡ Done v work → Clothed v work
  first_clothed props firsts contexts inputs v work e =
      let w : State K = (start_at app props firsts contexts inputs).state in
      let x : Scope K = first_scope app props contexts in
      subst (λ (xs : List (Item K)). Clothed v xs) (append-nil work)
      (run_clothed w w v 0 [] work x refl e tt (λ j g same. absurd g) (λ t z q there. none_some (ap (λ (b : Bool). if b then Some x else None) q) there) (inr (raw_new {K = K} (Root app.root props) None 0 MainSide)))

  -- once the build has begun each scope is dressed
  pub reached_clothed : (limits : Limits) (props : K.Props) (inputs : List (Input K)) (m : Machine K) → Reached app limits props inputs m → m.dead ≡ None → m.built ≡ true → Clothed m.state m.work
  reached_clothed limits props inputs m reached alive built =
      built_keep app lawful Clothed clothed_lasts limits props inputs m reached alive built (λ v work ready e. first_clothed props reached.firsts reached.contexts inputs v work e)
