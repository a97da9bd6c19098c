-- One step of a boundary's run leads to fewer steps than it counts for itself.
use Rattle.std.proofs.Common.{ℕ, ◌+◌, ◌≤◌, Bool, true, false, List, [], ◌∷◌, ◌++◌, ◌≡◌, refl, arith}
use Rattle.std.specs.Prelude.{Option, Some, None, if◌then◌else◌}
use Rattle.rt_model.specs.Lists.{at}
use Rattle.rt_model.specs.Tree.{Types, Tree, VComponent, Element, Place, Spot, node_at, component_at, spots}
use Rattle.rt_model.specs.World.{CallFault, World, Meaning, Application}
use Rattle.rt_model.specs.State.{SideName, ChildrenSide, FallbackSide, RowStep, PatchChildren, MadeChildren, RunFallback, ShowFallback, ShowChildren, DropFallback, Resolve, Scope, State, Item, Draw, Row, Feed, Make, Drop, Outcome, Done, Cut, BadNode, onward, side_of, is_live, is_held, world_of, change}
use Rattle.rt_model.specs.Commands.{commands}
use Rattle.rt_model.specs.Run.{fault_of, with_next, called_where, is_own, kept_call, answer_fits, is_fed, component_in, has_node, child_at, spots_of, serves, drop_at, drops_of, patched, start_agenda, row_items, acted, after_hooks, body_of, call_body}
use Rattle.rt_model.specs.Boundary.{tree_or_placeholder, children_of, counts_render, counted_render, side_scopes, drop_items, fallback_answered, called_back, row_step, boundary_step}
use Rattle.rt_model.specs.Replay.{Machine, step_weight, rows_left, ended_by}

-- each step counts
pub counts : (step : RowStep) → 1 ≤ step_weight step
counts PatchChildren = omega arith
counts MadeChildren = omega arith
counts RunFallback = omega arith
counts ShowFallback = omega arith
counts ShowChildren = omega arith
counts DropFallback = omega arith
counts Resolve = omega arith

module _ {K : Types} where
  -- how many steps come with what a change leads to
  abbrev pub rows_after : Outcome K → ℕ
  rows_after (Done w work) = rows_left work
  rows_after (Cut w fault) = 0

  pub rows-append : (xs ys : List (Item K)) → rows_left (xs ++ ys) ≡ rows_left xs + rows_left ys
  rows-append [] ys = omega arith
  rows-append (Draw s side p k ∷ xs) ys = rows-append xs ys
  rows-append (Row b step ∷ xs) ys = let tail = rows-append xs ys in omega (arith, tail)
  rows-append (Feed s side p c ∷ xs) ys = rows-append xs ys
  rows-append (Make s side p c ∷ xs) ys = rows-append xs ys
  rows-append (Drop t s side ∷ xs) ys = rows-append xs ys

  -- the open work after a change
  pub rows_ended : (m : Machine K) (item : Option (Item K)) (rest : List (Item K)) (o : Outcome K) → rows_left (ended_by m item rest o).work ≤ rows_after o + rows_left rest
  rows_ended m item rest (Done w work) = let sum = rows-append work rest in omega (arith, sum)
  rows_ended m item rest (Cut w fault) = omega arith

  -- no step comes with this work
  abbrev Rowless : List (Item K) → Type 0
  Rowless work = rows_left work ≡ 0

  -- no step comes with what this change leads to
  abbrev Quiet : Outcome K → Type 0
  Quiet o = rows_after o ≡ 0

  rowless_if : (b : Bool) (xs ys : List (Item K)) → Rowless xs → Rowless ys → Rowless (if b then xs else ys)
  rowless_if true xs ys p q = p
  rowless_if false xs ys p q = q

  rowless_both : (xs ys : List (Item K)) → Rowless xs → Rowless ys → Rowless (xs ++ ys)
  rowless_both xs ys p q = let sum = rows-append xs ys in omega (arith, sum, p, q)

  quiet_if : (b : Bool) (x y : Outcome K) → Quiet x → Quiet y → Quiet (if b then x else y)
  quiet_if true x y p q = p
  quiet_if false x y p q = q

  quiet_onward : (o : Outcome K) (f : State K → Outcome K) → ((w : State K) → Quiet (f w)) → Quiet (onward o f)
  quiet_onward (Done w work) f h = h w
  quiet_onward (Cut w fault) f h = refl

rowless_drops : (K : Types) (b : ℕ) (side : SideName) (ts : List ℕ) → Rowless (drop_items {K = K} b side ts)
rowless_drops K b side [] = refl
rowless_drops K b side (t ∷ ts) = rowless_drops K b side ts

rowless_drop : (K : Types) (s : ℕ) (side : SideName) (o : Option ℕ) → Rowless (drop_at {K = K} s side o)
rowless_drop K s side None = refl
rowless_drop K s side (Some t) = refl

-- what follows the children of a boundary that is made
rowless_made : (K : Types) (b : ℕ) (held : Bool) → rows_left (row_items {K = K} b (if held then RunFallback ∷ ShowFallback ∷ [] else ShowChildren ∷ Resolve ∷ [])) ≡ 2
rowless_made K b true = refl
rowless_made K b false = refl

-- what leads to no step counts for less than any step
less_than_step : (rows weight : ℕ) → rows ≡ 0 → 1 ≤ weight → rows + 1 ≤ weight
less_than_step rows weight none h = omega (arith, none, h)

module _ {K : Types} (app : Application K) where
  rowless_serves : (s : ℕ) (side : SideName) (old new : List (Spot K)) → Rowless (serves app s side old new)
  rowless_serves s side old [] = refl
  rowless_serves s side old (node_at p k ∷ new) =
      let tail = rowless_serves s side old new in
      rowless_if (has_node old p k) (serves app s side old new) (Draw s side p k ∷ serves app s side old new) tail tail
  rowless_serves s side old (component_at p c ∷ new) =
      let tail = rowless_serves s side old new in
      rowless_if (is_fed app (component_in old p) (Some c)) (Feed s side p c ∷ serves app s side old new) (Make s side p c ∷ serves app s side old new) tail tail

  rowless_gone : (s : ℕ) (side : SideName) (new : List (Spot K)) (children : List (Place × ℕ)) (old : List (Spot K)) → Rowless (drops_of app s side new children old)
  rowless_gone s side new children [] = refl
  rowless_gone s side new children (node_at p k ∷ old) = rowless_gone s side new children old
  rowless_gone s side new children (component_at p c ∷ old) =
      let tail = rowless_gone s side new children old in
      let here : List (Item K) = drop_at s side (child_at children p) in
      rowless_if (is_fed app (Some c) (component_in new p)) (drops_of app s side new children old) (here ++ drops_of app s side new children old) tail
      (rowless_both here (drops_of app s side new children old) (rowless_drop K s side (child_at children p)) tail)

  quiet_agenda_at : (w : State K) (s : ℕ) (side : SideName) (tree : Tree K) (o : Option (Scope K))
      → Quiet (elim o as (λ z. Outcome K) [ None ↦ Done w [] | Some x ↦ patched app w s side tree (spots_of (side_of x side).output) (spots [] tree) (side_of x side) x ])
  quiet_agenda_at w s side tree None = refl
  quiet_agenda_at w s side tree (Some x) =
      let old : List (Spot K) = spots_of (side_of x side).output in
      let new : List (Spot K) = spots [] tree in
      let children : List (Place × ℕ) = (side_of x side).children in
      rowless_both (serves app s side old new) (drops_of app s side new children old) (rowless_serves s side old new) (rowless_gone s side new children old)

  quiet_agenda : (w : State K) (s : ℕ) (side : SideName) (tree : Tree K) → Quiet (start_agenda app w s side tree)
  quiet_agenda w s side tree = quiet_agenda_at w s side tree (at w.scopes s)

  quiet_answer : (w : State K) (s : ℕ) (world : World K) (then_on : State K → Element K → Outcome K) (m : Meaning K (Element K)) (o : Option CallFault)
      → ((v : State K) (answer : Element K) → Quiet (then_on v answer))
      → Quiet (elim o as (λ z. Outcome K) [
        | Some f ↦ Cut (with_next w m.next) (fault_of f)
        | None ↦ if answer_fits m.answer then then_on (commands app (kept_call w s world m) s None m.commands) m.answer else Cut (kept_call w s world m) (BadNode s)
      ])
  quiet_answer w s world then_on m (Some f) h = refl
  quiet_answer w s world then_on m None h =
      let v : State K = commands app (kept_call w s world m) s None m.commands in
      quiet_if (answer_fits m.answer) (then_on v m.answer) (Cut (kept_call w s world m) (BadNode s)) (h v m.answer) refl

  quiet_call : (w : State K) (s : ℕ) (c : VComponent K) (then_on : State K → Element K → Outcome K) → ((v : State K) (answer : Element K) → Quiet (then_on v answer)) → Quiet (call_body app w s c then_on)
  quiet_call w s c then_on h =
      let world : World K = world_of w s None true in
      let m : Meaning K (Element K) = body_of app c world in
      quiet_answer (called_where (is_own c world) w) s world then_on m m.fault h

  quiet_fallback : (w : State K) (b : ℕ) (c : VComponent K) (answer : Element K) → Quiet (fallback_answered app w b c answer)
  quiet_fallback w b c answer =
      let tree : Tree K = tree_or_placeholder answer in
      quiet_onward (onward (counted_render app w b (counts_render c answer)) (λ v. after_hooks app v b)) (λ v. start_agenda app v b FallbackSide tree)
      (λ v. quiet_agenda v b FallbackSide tree)

  quiet_callbacks : (w : State K) (es : List (ℕ × K.Effect)) → Quiet (called_back app w es)
  quiet_callbacks w [] = refl
  quiet_callbacks w (e ∷ es) =
      quiet_if (is_live w e.0) (onward (acted app w e.0 e.1 false) (λ v. called_back app v es)) (called_back app w es)
      (quiet_onward (acted app w e.0 e.1 false) (λ v. called_back app v es) (λ v. quiet_callbacks v es))
      (quiet_callbacks w es)

  row_falls : (w : State K) (b : ℕ) (x : Scope K) (step : RowStep) → rows_after (row_step app w b x step) + 1 ≤ step_weight step
  row_falls w b x PatchChildren = less_than_step _ 1 (quiet_agenda w b ChildrenSide (children_of x.component)) (omega arith)
  row_falls w b x MadeChildren = let two = rowless_made K b (is_held x) in omega (arith, two)
  row_falls w b x RunFallback =
      less_than_step _ 1 (quiet_call w b x.component (λ v answer. fallback_answered app v b x.component answer) (λ v answer. quiet_fallback v b x.component answer)) (omega arith)
  row_falls w b x ShowFallback = omega arith
  row_falls w b x ShowChildren = omega arith
  row_falls w b x DropFallback = less_than_step _ 1 (rowless_drops K b FallbackSide (side_scopes w x.fallback_side)) (omega arith)
  row_falls w b x Resolve =
      let v : State K = change (record w { resolved = w.resolved ++ b ∷ [] }) b (λ y. record y { callbacks = [] }) in
      less_than_step _ 1 (quiet_callbacks v x.callbacks) (omega arith)

  boundary_falls_at : (w : State K) (b : ℕ) (step : RowStep) (o : Option (Scope K)) → rows_after (elim o as (λ z. Outcome K) [ None ↦ Done w [] | Some x ↦ row_step app w b x step ]) + 1 ≤ step_weight step
  boundary_falls_at w b step None = let one = counts step in omega (arith, one)
  boundary_falls_at w b step (Some x) = row_falls w b x step

  -- a step leads to fewer steps than it counts for
  pub boundary_falls : (w : State K) (b : ℕ) (step : RowStep) → rows_after (boundary_step app w b step) + 1 ≤ step_weight step
  boundary_falls w b step = boundary_falls_at w b step (at w.scopes b)

  -- so after it fewer are left
  pub falls : (m : Machine K) (b : ℕ) (step : RowStep) (rest : List (Item K)) → rows_left (ended_by m (Some (Row b step)) rest (boundary_step app m.state b step)).work + 1 ≤ rows_left (Row b step ∷ rest)
  falls m b step rest =
      let ended = rows_ended m (Some (Row b step)) rest (boundary_step app m.state b step) in
      let less = boundary_falls m.state b step in
      omega (arith, ended, less)
