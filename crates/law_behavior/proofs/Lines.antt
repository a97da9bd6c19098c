-- The order of open work that keeps bodies from running twice: no place is fed twice, and no side is patched again after it was.
use Rattle.std.proofs.Common.{ℕ, Bool, true, false, List, [], ◌∷◌, ◌++◌, ◌≡◌, inl, inr, refl, sym, ap, ◌∙◌, arith}
use Rattle.std.specs.Prelude.{Option, Some, None, if◌then◌else◌}
use Rattle.std.specs.List.{AllByRecursion}
use Rattle.rt_model.specs.Lists.{at}
use Rattle.rt_model.specs.Tree.{Types, Tree, placeholder_tree, Place, Kind, VComponent, Own, Root, Fragment, ErrorBoundary, SuspenseBoundary, Element, rendered, failed, suspended, Spot, node_at, component_at, spots}
use Rattle.rt_model.specs.World.{CallFault, before_render_kind, World, Meaning, Application}
use Rattle.rt_model.specs.State.{SideName, MainSide, ChildrenSide, FallbackSide, RowStep, PatchChildren, MadeChildren, RunFallback, ShowFallback, ShowChildren, DropFallback, Resolve, BadNode, Scope, State, Item, Draw, Row, Feed, Make, Drop, Outcome, Done, Cut, onward, side_of, change, is_held, is_live, world_of, height_of}
use Rattle.rt_model.specs.Commands.{commands}
use Rattle.rt_model.specs.Run.{has_node, component_in, is_fed, serves, drops_of, fault_of, with_next, called_where, is_own, answer_fits, kept_call, body_of, call_body, unmarked, row_of, runs_fallback, row_items, hooks_called, after_hooks, acted, spots_of, patched, start_agenda, settled_answer, has_output, new_output, after_answer, run_as, run}
use Rattle.rt_model.specs.Boundary.{tree_or_placeholder, children_of, counts_render, counted_render, fallback_answered, called_back, drop_items, side_scopes, row_step}
use Rattle.rt_model.proofs.Places.{place_of, Distinct, spots_distinct}
use Rattle.law_moves.proofs.Woven.{owner, After}
use Rattle.law_moves.proofs.Lists.{all_among, every_join, serves_every, drops_every}

-- the side whose children a step of a boundary's run patches, or a step that it leads to
abbrev pub turns : RowStep → Option SideName
turns PatchChildren = Some ChildrenSide
turns MadeChildren = Some FallbackSide
turns RunFallback = Some FallbackSide
turns ShowFallback = None
turns ShowChildren = None
turns DropFallback = None
turns Resolve = None

module _ {K : Types} where
  -- an item may stand before another one
  abbrev pub Ahead : Item K → Item K → Type 0
  Ahead (Feed s a p c) (Feed t b q d) = s ≡ t → a ≡ b → p ≡ q → ⊥
  Ahead (Feed s a p c) (Row b step) = s ≡ b → turns step ≡ Some a → ⊥
  Ahead (Make s a p c) (Row b step) = s ≡ b → turns step ≡ Some a → ⊥
  Ahead (Row b step) (Row c other) = b ≡ c → (a : SideName) → turns step ≡ Some a → turns other ≡ Some a → ⊥
  Ahead i j = Unit {0}

  -- each item before all behind it
  abbrev pub Line : List (Item K) → Type 0
  Line [] = Unit {0}
  Line (i ∷ rest) = AllByRecursion (λ (j : Item K). Ahead i j) rest × Line rest

  -- an item of one scope, of sides that may be patched
  abbrev pub OfTurn : ℕ → (SideName → Type 0) → Item K → Type 0
  OfTurn b ok (Draw s a p k) = s ≡ b
  OfTurn b ok (Feed s a p c) = (s ≡ b) × ok a
  OfTurn b ok (Make s a p c) = (s ≡ b) × ok a
  OfTurn b ok (Row c other) = (c ≡ b) × ((a : SideName) → turns other ≡ Some a → ok a)
  OfTurn b ok (Drop t s a) = s ≡ b

  pub turn_owner : (b : ℕ) (ok : SideName → Type 0) (i : Item K) → OfTurn b ok i → owner i ≡ b
  turn_owner b ok (Draw s a p k) h = h
  turn_owner b ok (Feed s a p c) h = h.0
  turn_owner b ok (Make s a p c) h = h.0
  turn_owner b ok (Row c other) h = h.0
  turn_owner b ok (Drop t s a) h = h

  -- later work doesn't feed that scope, and patches none of these sides
  abbrev pub Clear : ℕ → (SideName → Type 0) → Item K → Type 0
  Clear b ok (Feed t a q d) = t ≡ b → ⊥
  Clear b ok (Row c other) = c ≡ b → (a : SideName) → turns other ≡ Some a → ok a → ⊥
  Clear b ok j = Unit {0}

  ahead_clear : (b : ℕ) (ok : SideName → Type 0) (i j : Item K) → OfTurn b ok i → Clear b ok j → Ahead i j
  ahead_clear b ok (Feed s a p c) (Feed t e q d) h g = λ same side place. g (sym same ∙ h.0)
  ahead_clear b ok (Feed s a p c) (Row t step) h g = λ same turn. g (sym same ∙ h.0) a turn h.1
  ahead_clear b ok (Make s a p c) (Row t step) h g = λ same turn. g (sym same ∙ h.0) a turn h.1
  ahead_clear b ok (Row s step) (Row t other) h g = λ same a one two. g (sym same ∙ h.0) a two (h.1 a one)
  ahead_clear b ok (Draw s a p k) j h g = tt
  ahead_clear b ok (Drop t s a) j h g = tt
  ahead_clear b ok (Feed s a p c) (Draw t e q k) h g = tt
  ahead_clear b ok (Feed s a p c) (Make t e q d) h g = tt
  ahead_clear b ok (Feed s a p c) (Drop u t e) h g = tt
  ahead_clear b ok (Make s a p c) (Draw t e q k) h g = tt
  ahead_clear b ok (Make s a p c) (Feed t e q d) h g = tt
  ahead_clear b ok (Make s a p c) (Make t e q d) h g = tt
  ahead_clear b ok (Make s a p c) (Drop u t e) h g = tt
  ahead_clear b ok (Row s step) (Draw t e q k) h g = tt
  ahead_clear b ok (Row s step) (Feed t e q d) h g = tt
  ahead_clear b ok (Row s step) (Make t e q d) h g = tt
  ahead_clear b ok (Row s step) (Drop u t e) h g = tt

  aheads_clear : (b : ℕ) (ok : SideName → Type 0) (i : Item K) (rest : List (Item K)) → OfTurn b ok i → AllByRecursion (λ (j : Item K). Clear b ok j) rest → AllByRecursion (λ (j : Item K). Ahead i j) rest
  aheads_clear b ok i [] h g = tt
  aheads_clear b ok i (j ∷ rest) h g = (ahead_clear b ok i j h g.0, aheads_clear b ok i rest h g.1)

  -- new work comes before the rest
  pub line_opened : (b : ℕ) (ok : SideName → Type 0) (work rest : List (Item K)) → Line work → AllByRecursion (λ (i : Item K). OfTurn b ok i) work → AllByRecursion (λ (j : Item K). Clear b ok j) rest → Line rest → Line (work ++ rest)
  line_opened b ok [] rest l h g r = r
  line_opened b ok (i ∷ work) rest l h g r =
      (every_join (λ (j : Item K). Ahead i j) work rest l.0 (aheads_clear b ok i rest h.0 g), line_opened b ok work rest l.1 h.1 g r)

  -- work of other scopes is clear of a run
  pub clear_others : (b : ℕ) (ok : SideName → Type 0) (rest : List (Item K)) → AllByRecursion (λ (j : Item K). owner j ≡ b → ⊥) rest → AllByRecursion (λ (j : Item K). Clear b ok j) rest
  clear_others b ok [] h = tt
  clear_others b ok (j ∷ rest) h = (one j h.0, clear_others b ok rest h.1)
    where
      one : (j : Item K) → (owner j ≡ b → ⊥) → Clear b ok j
      one (Feed t a q d) n = n
      one (Row c other) n = λ e a turn k. n e
      one (Draw t a q k) n = tt
      one (Make t a q d) n = tt
      one (Drop u t a) n = tt

  -- what comes behind a step is clear of what that step opens
  pub clear_step : (w : State K) (b : ℕ) (step : RowStep) (rest : List (Item K)) → AllByRecursion (λ (j : Item K). After w (Row b step) j) rest → AllByRecursion (λ (j : Item K). Ahead (Row b step) j) rest
      → AllByRecursion (λ (j : Item K). Clear b (λ (a : SideName). turns step ≡ Some a) j) rest
  clear_step w b step [] h g = tt
  clear_step w b step (j ∷ rest) h g = (one j h.0 g.0, clear_step w b step rest h.1 g.1)
    where
      one : (j : Item K) → After w (Row b step) j → Ahead (Row b step) j → Clear b (λ (a : SideName). turns step ≡ Some a) j
      one (Feed t a q d) (inl low) f = λ e. let level : height_of w.scopes t ≡ height_of w.scopes b = ap (λ (n : ℕ). height_of w.scopes n) e in omega (arith, low, level)
      one (Feed t a q d) (inr same) f = λ e. absurd same.1
      one (Row c other) h f = λ e a turn own. f (sym e) a own turn
      one (Draw t a q k) h f = tt
      one (Make t a q d) h f = tt
      one (Drop u t a) h f = tt

  -- what a change opens, unless it is cut
  abbrev pub Lined : ℕ → (SideName → Type 0) → Outcome K → Type 0
  Lined b ok (Done v work) = Line work × AllByRecursion (λ (i : Item K). OfTurn b ok i) work
  Lined b ok (Cut v fault) = Unit {0}

  lined_either : (b : ℕ) (ok : SideName → Type 0) (c : Bool) (x y : Outcome K) → Lined b ok x → Lined b ok y → Lined b ok (if c then x else y)
  lined_either b ok true x y f g = f
  lined_either b ok false x y f g = g

  lined_onward : (b : ℕ) (ok : SideName → Type 0) (o : Outcome K) (f : State K → Outcome K) → ((v : State K) → Lined b ok (f v)) → Lined b ok (onward o f)
  lined_onward b ok (Done v work) f h = h v
  lined_onward b ok (Cut v fault) f h = tt

  -- an item that may stand before any, and one that may stand behind any
  abbrev Loose : Item K → Type 0
  Loose i = (j : Item K) → Ahead i j × Ahead j i

  ahead_drop : (i : Item K) (t s : ℕ) (a : SideName) → Ahead i (Drop t s a)
  ahead_drop (Draw t2 b p k) t s a = tt
  ahead_drop (Feed t2 b p c) t s a = tt
  ahead_drop (Make t2 b p c) t s a = tt
  ahead_drop (Row b step) t s a = tt
  ahead_drop (Drop t2 s2 b) t s a = tt

  drop_loose : (t s : ℕ) (a : SideName) → Loose (Drop t s a)
  drop_loose t s a = λ j. (tt, ahead_drop j t s a)

  loose_behind : (i : Item K) (ys : List (Item K)) → AllByRecursion (λ (j : Item K). Loose j) ys → AllByRecursion (λ (j : Item K). Ahead i j) ys
  loose_behind i [] h = tt
  loose_behind i (j ∷ ys) h = ((h.0 i).1, loose_behind i ys h.1)

  line_loose : (xs ys : List (Item K)) → Line xs → AllByRecursion (λ (j : Item K). Loose j) ys → Line (xs ++ ys)
  line_loose [] [] l h = tt
  line_loose [] (j ∷ ys) l h = (loose_behind j ys h.1, line_loose [] ys tt h.1)
  line_loose (i ∷ xs) ys l h = (every_join (λ (j : Item K). Ahead i j) xs ys l.0 (loose_behind i ys h), line_loose xs ys l.1 h)

  line_if : (b : Bool) (xs ys : List (Item K)) → Line xs → Line ys → Line (if b then xs else ys)
  line_if true xs ys p q = p
  line_if false xs ys p q = q

  draw_ahead : (s : ℕ) (a : SideName) (p : Place) (k : Kind) (xs : List (Item K)) → AllByRecursion (λ (j : Item K). Ahead (Draw s a p k) j) xs
  draw_ahead s a p k [] = tt
  draw_ahead s a p k (x ∷ xs) = (tt, draw_ahead s a p k xs)

drops_loose : (K : Types) (b : ℕ) (a : SideName) (ts : List ℕ) → AllByRecursion (λ (j : Item K). Loose j) (drop_items b a ts)
drops_loose K b a [] = tt
drops_loose K b a (t ∷ ts) = (drop_loose t b a, drops_loose K b a ts)

drops_turn : (K : Types) (b : ℕ) (ok : SideName → Type 0) (a : SideName) (ts : List ℕ) → AllByRecursion (λ (i : Item K). OfTurn b ok i) (drop_items b a ts)
drops_turn K b ok a [] = tt
drops_turn K b ok a (t ∷ ts) = (refl, drops_turn K b ok a ts)

children_fallback : (a : SideName) → Some ChildrenSide ≡ Some a → Some FallbackSide ≡ Some a → ⊥
children_fallback a f g = let absurdity : Some ChildrenSide ≡ Some FallbackSide = f ∙ sym g in cc

no_turn : (a : SideName) → None ≡ Some a → ⊥
no_turn a f = cc

abbrev pub Any : SideName → Type 0
Any a = Unit {0}

rows_line : (K : Types) (b : ℕ) (shows : Option SideName) (held : Bool) → Line {K = K} (row_items b (row_of shows held))
rows_line K b None held = (((λ e a f g. children_fallback a f g), tt), (tt, tt))
rows_line K b (Some FallbackSide) true = (((λ e a f g. children_fallback a g f), tt), (tt, tt))
rows_line K b (Some FallbackSide) false = (
  ((λ e a f g. no_turn a g), ((λ e a f g. no_turn a g), ((λ e a f g. no_turn a g), tt))),
  (((λ e a f g. no_turn a f), ((λ e a f g. no_turn a f), tt)), (((λ e a f g. no_turn a f), tt), (tt, tt))),
)
rows_line K b (Some ChildrenSide) true = (((λ e a f g. no_turn a g), ((λ e a f g. children_fallback a g f), tt)), (((λ e a f g. no_turn a f), tt), (tt, tt)))
rows_line K b (Some ChildrenSide) false = (tt, tt)
rows_line K b (Some MainSide) held = tt

rows_turn : (K : Types) (b : ℕ) (steps : List RowStep) → AllByRecursion (λ (i : Item K). OfTurn b Any i) (row_items b steps)
rows_turn K b [] = tt
rows_turn K b (step ∷ steps) = ((refl, λ a e. tt), rows_turn K b steps)

module _ {K : Types} (app : Application K) where
  module _ (u : ℕ) (a : SideName) (old : List (Spot K)) where
    serves_line : (new : List (Spot K)) → Distinct new → Line (serves app u a old new)
    serves_line [] d = tt
    serves_line (node_at q k ∷ new) d =
        let tail = serves_line new d.1 in
        line_if (has_node old q k) (serves app u a old new) (Draw u a q k ∷ serves app u a old new) tail (draw_ahead u a q k (serves app u a old new), tail)
    serves_line (component_at q c ∷ new) d =
        let tail = serves_line new d.1 in
        line_if (is_fed app (component_in old q) (Some c)) (Feed u a q c ∷ serves app u a old new) (Make u a q c ∷ serves app u a old new) (
          serves_every app u a old (λ (j : Item K). Ahead (Feed u a q c) j) new (λ p k. tt) (λ p e h fed. λ same side place. all_among (λ (f : Spot K). q ≡ place_of f → ⊥) new (component_at p e) d.0 h place) (λ p e h fed. tt),
          tail,
        )
        (serves_every app u a old (λ (j : Item K). Ahead (Make u a q c) j) new (λ p k. tt) (λ p e h fed. tt) (λ p e h fed. tt), tail)

  agenda_at : (w : State K) (s : ℕ) (ok : SideName → Type 0) (a : SideName) (tree : Tree K) (o : Option (Scope K)) → ok a
      → Lined s ok (elim o as (λ z. Outcome K) [ None ↦ Done w [] | Some x ↦ patched app w s a tree (spots_of (side_of x a).output) (spots [] tree) (side_of x a) x ])
  agenda_at w s ok a tree None k = (tt, tt)
  agenda_at w s ok a tree (Some x) k =
      let old : List (Spot K) = spots_of (side_of x a).output in
      let new : List (Spot K) = spots [] tree in
      let kids : List (Place × ℕ) = (side_of x a).children in
      let first : List (Item K) = serves app s a old new in
      let last : List (Item K) = drops_of app s a new kids old in (
        line_loose first last (serves_line s a old new (spots_distinct [] tree))
            (drops_every app s a new kids (λ (j : Item K). Loose j) old (λ p c t h gone e. drop_loose t s a)),
        every_join (λ (i : Item K). OfTurn s ok i) first last
            (serves_every app s a old (λ (i : Item K). OfTurn s ok i) new (λ p l. refl) (λ p c h fed. (refl, k)) (λ p c h fed. (refl, k)))
            (drops_every app s a new kids (λ (i : Item K). OfTurn s ok i) old (λ p c t h gone e. refl)),
      )

  agenda_lined : (w : State K) (s : ℕ) (ok : SideName → Type 0) (a : SideName) (tree : Tree K) → ok a → Lined s ok (start_agenda app w s a tree)
  agenda_lined w s ok a tree k = agenda_at w s ok a tree (at w.scopes s) k

  output_lined : (w : State K) (s : ℕ) (answer : Element K) → Lined s Any (new_output app w s answer)
  output_lined w s (rendered tree) = agenda_lined w s Any MainSide tree tt
  output_lined w s (failed e) = lined_either s Any (has_output w s) (Done w []) (start_agenda app w s MainSide placeholder_tree) (tt, tt) (agenda_lined w s Any MainSide placeholder_tree tt)
  output_lined w s (suspended origin t) = lined_either s Any (has_output w s) (Done w []) (start_agenda app w s MainSide placeholder_tree) (tt, tt) (agenda_lined w s Any MainSide placeholder_tree tt)

  answer_lined : (w : State K) (s : ℕ) (answer : Element K) → Lined s Any (after_answer app w s answer)
  answer_lined w s answer =
      lined_onward s Any (onward (settled_answer app w s answer) (λ v. after_hooks app v s)) (λ v. new_output app v s answer) (λ v. output_lined v s answer)

  fits_lined : (b : ℕ) (ok : SideName → Type 0) (u w : State K) (answer : Element K) (then_on : State K → Element K → Outcome K) (s : ℕ) (c : Bool) → ((v : State K) (a : Element K) → Lined b ok (then_on v a))
      → Lined b ok (if c then then_on u answer else Cut w (BadNode s))
  fits_lined b ok u w answer then_on s true h = h u answer
  fits_lined b ok u w answer then_on s false h = tt

  fault_lined : (b : ℕ) (ok : SideName → Type 0) (w : State K) (s : ℕ) (world : World K) (then_on : State K → Element K → Outcome K) (m : Meaning K (Element K)) (o : Option CallFault)
      → ((v : State K) (a : Element K) → Lined b ok (then_on v a))
      → Lined b ok (elim o as (λ z. Outcome K) [
        | Some f ↦ Cut (with_next w m.next) (fault_of f)
        | None ↦ if answer_fits m.answer then then_on (commands app (kept_call w s world m) s None m.commands) m.answer else Cut (kept_call w s world m) (BadNode s)
      ])
  fault_lined b ok w s world then_on m (Some f) h = tt
  fault_lined b ok w s world then_on m None h = fits_lined b ok (commands app (kept_call w s world m) s None m.commands) (kept_call w s world m) m.answer then_on s (answer_fits m.answer) h

  call_lined : (b : ℕ) (ok : SideName → Type 0) (w : State K) (s : ℕ) (c : VComponent K) (then_on : State K → Element K → Outcome K) → ((v : State K) (a : Element K) → Lined b ok (then_on v a))
      → Lined b ok (call_body app w s c then_on)
  call_lined b ok w s c then_on h =
      let world : World K = world_of w s None true in
      let m : Meaning K (Element K) = body_of app c world in
      fault_lined b ok (called_where (is_own c world) w) s world then_on m m.fault h

  run_as_lined : (w : State K) (s : ℕ) (x : Scope K) (c : VComponent K) → Lined s Any (run_as app w s x c)
  run_as_lined w s x (SuspenseBoundary children fallback) =
      let steps : List RowStep = row_of x.shows (is_held x) in
      let all : Lined {K = K} s Any (Done w (row_items s steps)) = (rows_line K s x.shows (is_held x), rows_turn K s steps) in
      lined_either s Any (runs_fallback steps) (Done w (row_items s steps)) (onward (after_hooks app w s) (λ v. Done v (row_items s steps))) all
      (lined_onward s Any (after_hooks app w s) (λ v. Done v (row_items s steps)) (λ v. all))
  run_as_lined w s x (Own component props) = call_lined s Any w s (Own component props) (λ v a. after_answer app v s a) (λ v a. answer_lined v s a)
  run_as_lined w s x (Root component props) = call_lined s Any w s (Root component props) (λ v a. after_answer app v s a) (λ v a. answer_lined v s a)
  run_as_lined w s x (Fragment children) = call_lined s Any w s (Fragment children) (λ v a. after_answer app v s a) (λ v a. answer_lined v s a)
  run_as_lined w s x (ErrorBoundary children handler) = call_lined s Any w s (ErrorBoundary children handler) (λ v a. after_answer app v s a) (λ v a. answer_lined v s a)

  run_lined_at : (w : State K) (s : ℕ) (o : Option (Scope K)) → Lined s Any (elim o as (λ z. Outcome K) [
    | None ↦ Done w []
    | Some x ↦ onward (hooks_called app before_render_kind (unmarked w s) s x.hooks) (λ v. run_as app v s x x.component)
  ])
  run_lined_at w s None = (tt, tt)
  run_lined_at w s (Some x) = lined_onward s Any (hooks_called app before_render_kind (unmarked w s) s x.hooks) (λ v. run_as app v s x x.component) (λ v. run_as_lined v s x x.component)

  -- the work that a run opens is in line
  pub run_lined : (w : State K) (s : ℕ) → Lined s Any (run app w s)
  run_lined w s = run_lined_at w s (at w.scopes s)

  back_lined : (b : ℕ) (ok : SideName → Type 0) (w : State K) (es : List (ℕ × K.Effect)) → Lined b ok (called_back app w es)
  back_lined b ok w [] = (tt, tt)
  back_lined b ok w (e ∷ es) =
      lined_either b ok (is_live w e.0) (onward (acted app w e.0 e.1 false) (λ v. called_back app v es)) (called_back app w es)
      (lined_onward b ok (acted app w e.0 e.1 false) (λ v. called_back app v es) (λ v. back_lined b ok v es))
      (back_lined b ok w es)

  made_lined : (w : State K) (b : ℕ) (held : Bool) → Lined b (λ (a : SideName). Some FallbackSide ≡ Some a) (Done w (row_items b (if held then RunFallback ∷ ShowFallback ∷ [] else ShowChildren ∷ Resolve ∷ [])))
  made_lined w b true = ((((λ e a f g. no_turn a g), tt), (tt, tt)), ((refl, λ a e. e), ((refl, λ a e. absurd (no_turn a e)), tt)))
  made_lined w b false = ((((λ e a f g. no_turn a g), tt), (tt, tt)), ((refl, λ a e. absurd (no_turn a e)), ((refl, λ a e. absurd (no_turn a e)), tt)))

  -- and so is what a step of a boundary's run opens, of the side that it patches
  pub row_lined : (w : State K) (b : ℕ) (x : Scope K) (step : RowStep) → Lined b (λ (a : SideName). turns step ≡ Some a) (row_step app w b x step)
  row_lined w b x PatchChildren = agenda_lined w b (λ (a : SideName). Some ChildrenSide ≡ Some a) ChildrenSide (children_of x.component) refl
  row_lined w b x MadeChildren = made_lined w b (is_held x)
  row_lined w b x RunFallback =
      let ok : SideName → Type 0 = λ (a : SideName). Some FallbackSide ≡ Some a in
      call_lined b ok w b x.component (λ v answer. fallback_answered app v b x.component answer)
      (
      λ v answer.
      lined_onward b ok (onward (counted_render app v b (counts_render x.component answer)) (λ u. after_hooks app u b)) (λ u. start_agenda app u b FallbackSide (tree_or_placeholder answer))
      (λ u. agenda_lined u b ok FallbackSide (tree_or_placeholder answer) refl)
      )
  row_lined w b x ShowFallback = (tt, tt)
  row_lined w b x ShowChildren = (tt, tt)
  row_lined w b x DropFallback =
      let ts : List ℕ = side_scopes w x.fallback_side in
      (line_loose [] (drop_items b FallbackSide ts) tt (drops_loose K b FallbackSide ts), drops_turn K b (λ (a : SideName). None ≡ Some a) FallbackSide ts)
  row_lined w b x Resolve = back_lined b (λ (a : SideName). None ≡ Some a) (change (record w { resolved = w.resolved ++ b ∷ [] }) b (λ y. record y { callbacks = [] })) x.callbacks
