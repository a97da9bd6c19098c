-- What a run and a step leave of the scopes round the application's root, and the work that they open.
use Rattle.std.proofs.Common.{ℕ, ◌+◌, Bool, true, false, List, [], ◌∷◌, ◌++◌, ◌≡◌, inl, inr, refl, sym, ap, ◌∙◌, subst, nat_eq}
use Rattle.std.specs.Prelude.{Option, Some, None, if◌then◌else◌}
use Rattle.std.specs.List.{AllByRecursion}
use Rattle.rt_model.specs.Lists.{at, put, without, drop_number}
use Rattle.rt_model.specs.Tree.{Types, Tree, VComponent, Element, rendered, Place, Spot, node_at, component_at, spots}
use Rattle.rt_model.specs.World.{before_render_kind, CallFault, World, Meaning, Application}
use Rattle.rt_model.specs.Laws.{IsLawful}
use Rattle.rt_model.specs.State.{SideName, MainSide, ChildrenSide, FallbackSide, Fault, RowStep, PatchChildren, MadeChildren, RunFallback, ShowFallback, ShowChildren, DropFallback, Resolve, Scope, State, Item, Draw, Row, Feed, Make, Drop, Outcome, Done, Cut, onward, BadNode, empty_side, side_of, changed_scope, change, is_held, world_of}
use Rattle.rt_model.specs.Commands.{commands}
use Rattle.rt_model.specs.Run.{child_at, component_in, spots_of, fault_of, with_next, called_where, is_own, kept_call, answer_fits, has_node, is_fed, kept_numbers, kept_children, drop_at, serves, drops_of, patched, runs_fallback, row_items, unmarked, hooks_called, after_hooks, body_of, call_body, start_agenda, settled_answer, new_output, after_answer, boundary_run, run_as, run}
use Rattle.rt_model.specs.Boundary.{side_scopes, tree_or_placeholder, children_of, drop_items, counts_render, counted_render, fallback_answered, called_back, row_step}
use Rattle.rt_model.proofs.Maps.{eq_same, at_put_here}
use Rattle.rt_model.proofs.Members.{clash}
use Rattle.rt_model.proofs.NumbersRun.{Idle, called_back_idle}
use Rattle.law_moves.specs.Frames.{Shown, shown}
use Rattle.law_moves.proofs.Commanded.{Level, level_trans, commands_level}
use Rattle.law_moves.proofs.Called.{LevelO, onward_level, where_level, kept_level, unmarked_level, hooks_level, after_hooks_level, settled_answer_level, counted_level, called_back_level}
use Rattle.law_moves.proofs.Opens.{Opens, OwnRows, run_opens}

-- another number than 0
not_zero : {P : Type 0} (n : ℕ) → nat_eq n 0 ≡ false → n ≡ 0 → P
not_zero n h e = clash (ap (λ (m : ℕ). nat_eq m 0) e) h

module _ {K : Types} where
  pub some_shown : (f g : Shown K) → Some f ≡ Some g → f ≡ g
  some_shown f g h = cc

  -- what shows of a scope's record
  abbrev pub shape : Scope K → Shown K
  shape x = (x.component, x.parent, x.height, x.below, x.shows, x.main_side, x.children_side, x.fallback_side)

  -- a scope of which this shows is there
  pub row_shown : (o : Option (Scope K)) (f : Shown K) → shown o ≡ Some f → (x : Scope K) × (o ≡ Some x) × (shape x ≡ f)
  row_shown None f h = cc
  row_shown (Some x) f h = (x, refl, some_shown (shape x) f h)

  -- what shows of a scope is so
  pub record SeenAs (n : ℕ) (R : Shown K → Type 0) (w : State K) : Type 0 where
    pub now : Shown K
    pub is : shown (at w.scopes n) ≡ Some now
    pub fine : R now

  -- told of its record
  pub record RowOf (n : ℕ) (R : Shown K → Type 0) (w : State K) : Type 0 where
    pub row : Scope K
    pub there : at w.scopes n ≡ Some row
    pub fine : R (shape row)

  pub row_seen : (n : ℕ) (R : Shown K → Type 0) (w : State K) → SeenAs n R w → RowOf n R w
  row_seen n R w h =
      let found = row_shown (at w.scopes n) h.now h.is in
      record { row = found.0; there = found.1; fine = subst (λ (f : Shown K). R f) (sym found.2) h.fine }

  -- where a change isn't cut
  abbrev pub SeenO : ℕ → (Shown K → Type 0) → Outcome K → Type 0
  SeenO n R (Done v work) = SeenAs n R v
  SeenO n R (Cut v fault) = Unit {0}

  pub changed_here : (w : State K) (b : ℕ) (f : Scope K → Scope K) (x : Scope K) (o : Option (Scope K)) → o ≡ Some x → shown (at (changed_scope w b f o).scopes b) ≡ Some (shape (f x))
  changed_here w b f x None e = cc
  changed_here w b f x (Some y) e =
      let same : y ≡ x = cc in
      ap (λ (o : Option (Scope K)). shown o) (at_put_here w.scopes b (f y) b (eq_same b)) ∙ ap (λ (z : Scope K). Some (shape (f z))) same

module _ {K : Types} (around : VComponent K) where
  -- what is made or handed on the main side of scope 0 is that component
  abbrev pub ItemFits : Item K → Type 0
  ItemFits (Feed s a q d) = s ≡ 0 → a ≡ MainSide → d ≡ around
  ItemFits (Make s a q d) = s ≡ 0 → a ≡ MainSide → d ≡ around
  ItemFits (Draw s a q k) = Unit {0}
  ItemFits (Row b step) = Unit {0}
  ItemFits (Drop t s a) = Unit {0}

  abbrev pub AllFit : List (Item K) → Type 0
  AllFit work = AllByRecursion (λ (i : Item K). ItemFits i) work

  abbrev pub FitO : Outcome K → Type 0
  FitO (Done v work) = AllFit work
  FitO (Cut v fault) = Unit {0}

  abbrev pub SpotFits : ℕ → SideName → Spot K → Type 0
  SpotFits s a (node_at q k) = Unit {0}
  SpotFits s a (component_at q d) = s ≡ 0 → a ≡ MainSide → d ≡ around

  abbrev pub SpotsFit : ℕ → SideName → List (Spot K) → Type 0
  SpotsFit s a spots = AllByRecursion (λ (x : Spot K). SpotFits s a x) spots

  pub both_fit : (xs ys : List (Item K)) → AllFit xs → AllFit ys → AllFit (xs ++ ys)
  both_fit [] ys f g = g
  both_fit (x ∷ xs) ys f g = (f.0, both_fit xs ys f.1 g)

  either_fit : (b : Bool) (xs ys : List (Item K)) → AllFit xs → AllFit ys → AllFit (if b then xs else ys)
  either_fit true xs ys f g = f
  either_fit false xs ys f g = g

  rows_fit : (s : ℕ) (work : List (Item K)) → OwnRows s work → AllFit work
  rows_fit s [] h = tt
  rows_fit s (Row b step ∷ work) h = (tt, rows_fit s work h.1)
  rows_fit s (Draw r a q k ∷ work) h = absurd ((h.0).1)
  rows_fit s (Feed r a q d ∷ work) h = absurd ((h.0).1)
  rows_fit s (Make r a q d ∷ work) h = absurd ((h.0).1)
  rows_fit s (Drop t r a ∷ work) h = absurd ((h.0).1)

  pub steps_fit : (b : ℕ) (steps : List RowStep) → AllFit (row_items b steps)
  steps_fit b [] = tt
  steps_fit b (step ∷ steps) = (tt, steps_fit b steps)

  pub drops_fit : (b : ℕ) (a : SideName) (ts : List ℕ) → AllFit (drop_items b a ts)
  drops_fit b a [] = tt
  drops_fit b a (t ∷ ts) = (tt, drops_fit b a ts)

  -- a side whose tree can't be that of the main side of scope 0
  pub spots_else : (s : ℕ) (a : SideName) (new : List (Spot K)) → (s ≡ 0 → a ≡ MainSide → ⊥) → SpotsFit s a new
  spots_else s a [] other = tt
  spots_else s a (node_at q k ∷ new) other = (tt, spots_else s a new other)
  spots_else s a (component_at q d ∷ new) other = ((λ e f. absurd (other e f)), spots_else s a new other)

  module _ (app : Application K) where
    serves_fit : (s : ℕ) (a : SideName) (old new : List (Spot K)) → SpotsFit s a new → AllFit (serves app s a old new)
    serves_fit s a old [] h = tt
    serves_fit s a old (node_at q k ∷ new) h =
        let rest : AllFit (serves app s a old new) = serves_fit s a old new h.1 in
        either_fit (has_node old q k) (serves app s a old new) (Draw s a q k ∷ serves app s a old new) rest (tt, rest)
    serves_fit s a old (component_at q d ∷ new) h =
        let rest : AllFit (serves app s a old new) = serves_fit s a old new h.1 in
        either_fit (is_fed app (component_in old q) (Some d)) (Feed s a q d ∷ serves app s a old new) (Make s a q d ∷ serves app s a old new) (h.0, rest) (h.0, rest)

    drop_fit : (s : ℕ) (a : SideName) (o : Option ℕ) → AllFit (drop_at s a o)
    drop_fit s a None = tt
    drop_fit s a (Some t) = (tt, tt)

    gone_fit : (s : ℕ) (a : SideName) (new : List (Spot K)) (children : List (Place × ℕ)) (old : List (Spot K)) → AllFit (drops_of app s a new children old)
    gone_fit s a new children [] = tt
    gone_fit s a new children (node_at q k ∷ old) = gone_fit s a new children old
    gone_fit s a new children (component_at q d ∷ old) =
        let rest : AllFit (drops_of app s a new children old) = gone_fit s a new children old in
        either_fit (is_fed app (Some d) (component_in new q)) (drops_of app s a new children old) (drop_at s a (child_at children q) ++ drops_of app s a new children old) rest
        (both_fit (drop_at s a (child_at children q)) (drops_of app s a new children old) (drop_fit s a (child_at children q)) rest)

    -- the work of a patch
    pub patch_fit : (s : ℕ) (a : SideName) (old new : List (Spot K)) (children : List (Place × ℕ)) → SpotsFit s a new → AllFit (serves app s a old new ++ drops_of app s a new children old)
    patch_fit s a old new children h = both_fit (serves app s a old new) (drops_of app s a new children old) (serves_fit s a old new h) (gone_fit s a new children old)

    agenda_fit_at : (w : State K) (s : ℕ) (a : SideName) (tree : Tree K) (o : Option (Scope K)) → SpotsFit s a (spots [] tree)
        → FitO (elim o as (λ z. Outcome K) [ None ↦ Done w [] | Some x ↦ patched app w s a tree (spots_of (side_of x a).output) (spots [] tree) (side_of x a) x ])
    agenda_fit_at w s a tree None h = tt
    agenda_fit_at w s a tree (Some x) h = patch_fit s a (spots_of (side_of x a).output) (spots [] tree) (side_of x a).children h

    -- the work that a run of another scope opens
    opened_fit : (w : State K) (s : ℕ) (o : Outcome K) → nat_eq s 0 ≡ false → Opens app w s o → FitO o
    opened_fit w s (Cut v fault) other h = tt
    opened_fit w s (Done v work) other (inl h) = rows_fit s work h.1
    opened_fit w s (Done v work) other (inr h) =
        let tree : Tree K = h.1 in
        let u : State K = h.2 in
        subst (λ (o : Outcome K). FitO o) h.4
        (agenda_fit_at u s h.0 tree (at u.scopes s) (spots_else s h.0 (spots [] tree) (λ e f. not_zero s other e)))

  pub run_fit : (app : Application K) → IsLawful K app → (w : State K) (s : ℕ) → nat_eq s 0 ≡ false → FitO (run app w s)
  run_fit app lawful w s other = opened_fit app w s (run app w s) other (run_opens app lawful w s)

-- a fact of what a call of a scope leads to, where this shows of the scope when it begins, and a fault says nothing
module _ {K : Types} (app : Application K) (b : ℕ) (g : Shown K) (Q : Outcome K → Type 0) (cuts : (v : State K) (f : Fault) → Q (Cut v f)) where
  abbrev pub Here : State K → Type 0
  Here w = shown (at w.scopes b) ≡ Some g

  on_level : (w v : State K) → Level w v → Here w → Here v
  on_level w v level here = level.shows b ∙ here

  either_q : (c : Bool) (x y : Outcome K) → Q x → Q y → Q (if c then x else y)
  either_q true x y f h = f
  either_q false x y f h = h

  onward_q : (w : State K) (o : Outcome K) (f : State K → Outcome K) → LevelO w o → Here w → ((v : State K) → Here v → Q (f v)) → Q (onward o f)
  onward_q w (Done v work) f level here h = h v (on_level w v level here)
  onward_q w (Cut v fault) f level here h = cuts v fault

  answered_q : (w : State K) (world : World K) (go : State K → Element K → Outcome K) (m : Meaning K (Element K)) (o : Option CallFault) → Here w → ((v : State K) → Here v → Q (go v m.answer))
      → Q (elim o as (λ z. Outcome K) [
        | Some f ↦ Cut (with_next w m.next) (fault_of f)
        | None ↦ if answer_fits m.answer then go (commands app (kept_call w b world m) b None m.commands) m.answer else Cut (kept_call w b world m) (BadNode b)
      ])
  answered_q w world go m (Some f) here h = cuts (with_next w m.next) (fault_of f)
  answered_q w world go m None here h =
      let u : State K = kept_call w b world m in
      let v : State K = commands app u b None m.commands in
      either_q (answer_fits m.answer) (go v m.answer) (Cut u (BadNode b))
      (h v (on_level w v (level_trans w u v (kept_level w b world m) (commands_level app u b None m.commands)) here))
      (cuts u (BadNode b))

  pub call_q : (w : State K) (c : VComponent K) (go : State K → Element K → Outcome K) → Here w → ((v : State K) → Here v → Q (go v (body_of app c (world_of w b None true)).answer)) → Q (call_body app w b c go)
  call_q w c go here h =
      let world : World K = world_of w b None true in
      let u : State K = called_where (is_own c world) w in
      answered_q u world go (body_of app c world) (body_of app c world).fault (on_level w u (where_level (is_own c world) w) here) h

  -- a run, told of what comes after the hooks before it
  pub run_q : (w : State K) (x : Scope K) → at w.scopes b ≡ Some x → Here w → ((v : State K) → Here v → Q (run_as app v b x x.component)) → Q (run app w b)
  run_q w x there here h =
      let u : State K = unmarked w b in
      let begun : Q (onward (hooks_called app before_render_kind u b x.hooks) (λ v. run_as app v b x x.component)) =
      onward_q u (hooks_called app before_render_kind u b x.hooks) (λ v. run_as app v b x x.component) (hooks_level app before_render_kind u b x.hooks) (on_level w u (unmarked_level w b) here) h in
      subst
      (λ (o : Option (Scope K)). Q (elim o as (λ z. Outcome K) [
        | None ↦ Done w []
        | Some y ↦ onward (hooks_called app before_render_kind (unmarked w b) b y.hooks) (λ v. run_as app v b y y.component)
      ]))
      (sym there) begun

  -- the run of a suspense boundary
  pub boundary_q : (w : State K) (steps : List RowStep) → Here w → ((v : State K) → Here v → Q (Done v (row_items b steps))) → Q (boundary_run app w b steps)
  boundary_q w steps here h =
      either_q (runs_fallback steps) (Done w (row_items b steps)) (onward (after_hooks app w b) (λ v. Done v (row_items b steps))) (h w here)
      (onward_q w (after_hooks app w b) (λ v. Done v (row_items b steps)) (after_hooks_level app w b) here h)

  -- a call whose answer is a tree
  pub rendered_q : (w : State K) (tree : Tree K) → Here w → ((v : State K) → Here v → Q (start_agenda app v b MainSide tree)) → Q (after_answer app w b (rendered tree))
  rendered_q w tree here h =
      let first : Outcome K = onward (settled_answer app w b (rendered tree)) (λ v. after_hooks app v b) in
      onward_q w first (λ v. new_output app v b (rendered tree))
      (onward_level w (settled_answer app w b (rendered tree)) (λ v. after_hooks app v b) (settled_answer_level app w b (rendered tree)) (λ v. after_hooks_level app v b))
      here h

  -- a fallback's answer
  pub fallback_q : (w : State K) (c : VComponent K) (a : Element K) → Here w → ((v : State K) → Here v → Q (start_agenda app v b FallbackSide (tree_or_placeholder a))) → Q (fallback_answered app w b c a)
  fallback_q w c a here h =
      let first : Outcome K = onward (counted_render app w b (counts_render c a)) (λ v. after_hooks app v b) in
      onward_q w first (λ v. start_agenda app v b FallbackSide (tree_or_placeholder a))
      (onward_level w (counted_render app w b (counts_render c a)) (λ v. after_hooks app v b) (counted_level app w b (counts_render c a)) (λ v. after_hooks_level app v b))
      here h

  -- a patch of a side, told of the record that it patches
  pub patch_q : (w : State K) (a : SideName) (tree : Tree K) → Here w
      → ((x : Scope K) → shape x ≡ g → Q (patched app w b a tree (spots_of (side_of x a).output) (spots [] tree) (side_of x a) x))
      → Q (start_agenda app w b a tree)
  patch_q w a tree here h =
      let row = row_shown (at w.scopes b) g here in
      subst
      (λ (o : Option (Scope K)). Q (elim o as (λ z. Outcome K) [ None ↦ Done w [] | Some x ↦ patched app w b a tree (spots_of (side_of x a).output) (spots [] tree) (side_of x a) x ]))
      (sym row.1) (h row.0 row.2)

-- what shows of a scope but for the side that it shows and its fallback
module _ {K : Types} where
  pub record Like (g f : Shown K) : Type 0 where
    pub component : f.0 ≡ g.0
    pub parent : f.1 ≡ g.1
    pub main : f.5 ≡ g.5
    pub children : f.6 ≡ g.6

  pub like_same : (g : Shown K) → Like g g
  like_same g = record { component = refl; parent = refl; main = refl; children = refl }

-- a fact of what shows of a scope that no other side of it matters to, and of the work: the steps of a boundary's run keep it, where the
-- patch of its children does
module _
    {K : Types} (app : Application K) (lawful : IsLawful K app) (around : VComponent K) (b : ℕ) (g : Shown K) (Q : Outcome K → Type 0) (cuts : (v : State K) (f : Fault) → Q (Cut v f))
    (likes : (v : State K) (f : Shown K) (work : List (Item K)) → shown (at v.scopes b) ≡ Some f → Like g f → AllFit around work → Q (Done v work))
    (patches : (v : State K) (y : Scope K) → shape y ≡ g → Q (patched app v b ChildrenSide (children_of y.component) (spots_of y.children_side.output) (spots [] (children_of y.component)) y.children_side y))
  where
    idle_q : (w : State K) (o : Outcome K) → LevelO w o → Idle o → shown (at w.scopes b) ≡ Some g → Q o
    idle_q w (Done v work) level idle here = likes v g work (level.shows b ∙ here) (like_same g) (subst (λ (xs : List (Item K)). AllFit around xs) (sym idle) tt)
    idle_q w (Cut v fault) level idle here = cuts v fault

    -- another record of the scope
    changed_q : (u : State K) (x : Scope K) (f : Scope K → Scope K) (work : List (Item K)) → at u.scopes b ≡ Some x → Like g (shape (f x)) → AllFit around work → Q (Done (change u b f) work)
    changed_q u x f work there like fit = likes (change u b f) (shape (f x)) work (changed_here u b f x (at u.scopes b) there) like fit

    likely : (x : Scope K) (f : Shown K) → shape x ≡ g → Like (shape x) f → Like g f
    likely x f same like = subst (λ (z : Shown K). Like z f) same like

    fallback_patched : (v : State K) (tree : Tree K) (y : Scope K) → shape y ≡ g → Q (patched app v b FallbackSide tree (spots_of y.fallback_side.output) (spots [] tree) y.fallback_side y)
    fallback_patched v tree y same =
        let old : List (Spot K) = spots_of y.fallback_side.output in
        let new : List (Spot K) = spots [] tree in
        let z : Scope K = record y { fallback_side = record { output = Some tree; numbers = kept_numbers new y.fallback_side.numbers; children = kept_children app old new y.fallback_side.children } } in
        likes (record v { scopes = put v.scopes b z }) (shape z) (serves app b FallbackSide old new ++ drops_of app b FallbackSide new y.fallback_side.children old)
        (ap (λ (o : Option (Scope K)). shown o) (at_put_here v.scopes b z b (eq_same b)))
        (likely y (shape z) same (record { component = refl; parent = refl; main = refl; children = refl }))
        (patch_fit around app b FallbackSide old new y.fallback_side.children (spots_else around b FallbackSide new (λ e f. cc)))

    pub row_q : (w : State K) (x : Scope K) (step : RowStep) → at w.scopes b ≡ Some x → shape x ≡ g → Q (row_step app w b x step)
    row_q w x PatchChildren there same =
        let here : shown (at w.scopes b) ≡ Some g = ap (λ (o : Option (Scope K)). shown o) there ∙ ap (λ (f : Shown K). Some f) same in
        patch_q app b g Q cuts w ChildrenSide (children_of x.component) here
        (
        λ y e.
        let one : y.component ≡ x.component = ap (λ (f : Shown K). f.0) (e ∙ sym same) in
        subst (λ (d : VComponent K). Q (patched app w b ChildrenSide (children_of d) (spots_of y.children_side.output) (spots [] (children_of d)) y.children_side y)) one (patches w y e)
        )
    row_q w x MadeChildren there same =
        let here : shown (at w.scopes b) ≡ Some g = ap (λ (o : Option (Scope K)). shown o) there ∙ ap (λ (f : Shown K). Some f) same in
        let steps : List RowStep = if is_held x then RunFallback ∷ ShowFallback ∷ [] else ShowChildren ∷ Resolve ∷ [] in
        likes w g (row_items b steps) here (like_same g) (steps_fit around b steps)
    row_q w x RunFallback there same =
        let here : shown (at w.scopes b) ≡ Some g = ap (λ (o : Option (Scope K)). shown o) there ∙ ap (λ (f : Shown K). Some f) same in
        let answer : Element K = (body_of app x.component (world_of w b None true)).answer in
        call_q app b g Q cuts w x.component (λ v a. fallback_answered app v b x.component a) here
        (λ v h. fallback_q app b g Q cuts v x.component answer h (λ u k. patch_q app b g Q cuts u FallbackSide (tree_or_placeholder answer) k (λ y e. fallback_patched u (tree_or_placeholder answer) y e)))
    row_q w x ShowFallback there same =
        changed_q (record w { resolved = drop_number w.resolved b }) x (λ y. record y { shows = Some FallbackSide }) [] there
        (likely x (shape (record x { shows = Some FallbackSide })) same (record { component = refl; parent = refl; main = refl; children = refl })) tt
    row_q w x ShowChildren there same =
        changed_q (record w { last_calls = without w.last_calls b }) x (λ y. record y { shows = Some ChildrenSide; reads = [] }) [] there
        (likely x (shape (record x { shows = Some ChildrenSide; reads = [] })) same (record { component = refl; parent = refl; main = refl; children = refl })) tt
    row_q w x DropFallback there same =
        changed_q w x (λ y. record y { fallback_side = empty_side }) (drop_items b FallbackSide (side_scopes w x.fallback_side)) there
        (likely x (shape (record x { fallback_side = empty_side })) same (record { component = refl; parent = refl; main = refl; children = refl }))
        (drops_fit around b FallbackSide (side_scopes w x.fallback_side))
    row_q w x Resolve there same =
        let u : State K = record w { resolved = w.resolved ++ b ∷ [] } in
        let v : State K = change u b (λ y. record y { callbacks = [] }) in
        let here : shown (at v.scopes b) ≡ Some g = changed_here u b (λ y. record y { callbacks = [] }) x (at u.scopes b) there ∙ ap (λ (f : Shown K). Some f) same in
        idle_q v (called_back app v x.callbacks) (called_back_level app v x.callbacks) (called_back_idle app lawful v x.callbacks) here
