-- The start of a runtime, and a scope that is made.
use Rattle.std.proofs.Common.{◌≡◌, ℕ, ◌+◌, List, [], ◌∷◌, ◌++◌, refl, ap, ◌∙◌}
use Rattle.std.specs.Prelude.{Option, Some, None}
use Rattle.tree_nodes.specs.declared.vnode.VComponent.TheVariants as code
use Rattle.rt_model.specs.Lists.{at, put}
use Rattle.rt_model.specs.OneLog.{types}
use Rattle.rt_model.specs.Tree as tree
use Rattle.rt_model.specs.State as model
use Rattle.rt_model.specs.State.{new_scope, MainSide, change}
use Rattle.rt_model.specs.Replay.{first_state, with_new_scope}
use Rattle.tree_mirror.specs.Sealed.{component_of}
use Rattle.tree_mirror.proofs.SealedComponents.{component_Root}
use Rattle.run_records.specs.Records.{firsts_of}
use Rattle.run_records.specs.Kept.{each}
use Rattle.run_records.specs.declared.rest.Scope.{Scope}
use Rattle.run_records.specs.declared.world.Firsts.{Firsts}
use Rattle.run_state.specs.Mirror.{Unkept, at_first, cell_of, contexts_of, task_of, scopes_of, state_of}
use Rattle.run_state.specs.Names.{scope_numbers}
use Rattle.run_state.specs.Sides.{more_child}
use Rattle.run_state.specs.Starts.{IsEmpty}
use Rattle.run_state.specs.declared.state.State.{State}
use Rattle.run_state.proofs.Seats.{change_front}

module _ {P C Q V H T E L : Type 0} where
  -- the start: the root wrapper alone
  pub starts : (root : C) (props : Q) (firsts : Firsts) (d : State P C Q V H T E L) (u : model.State (types C Q V H T E L)) (next : ℕ)
      → IsEmpty firsts d
      → u ≡ record (state_of at_first d) {
        scopes = (state_of at_first d).scopes ++ (d.next_scope, new_scope (component_of {P = P} {C = C} {Q = Q} {V = V} {H = H} {T = T} {E = E} {L = L} (code.Root (record { component = root; props = props }))) None 0 MainSide) ∷ [];
        next_scope = next;
      }
      → next ≡ d.next_scope + 1
      → u ≡ first_state root props (firsts_of firsts)
  starts root props firsts d u next empty pushed one_more =
      let w : model.State (types C Q V H T E L) = first_state root props (firsts_of firsts) in
      let top = component_of {P = P} {C = C} {Q = Q} {V = V} {H = H} {T = T} {E = E} {L = L} (code.Root (record { component = root; props = props })) in
      let one : (state_of at_first d).scopes ++ (d.next_scope, new_scope top None 0 MainSide) ∷ [] ≡ (0, new_scope (tree.Root root props) None 0 MainSide) ∷ [] =
      ap (λ (es : List (ℕ × Scope P C Q V H T E L)). scopes_of es ++ (d.next_scope, new_scope top None 0 MainSide) ∷ []) empty.rows
      ∙ ap (λ (n : ℕ). (n, new_scope top None 0 MainSide) ∷ []) empty.number
      ∙ ap (λ (c : tree.VComponent (types C Q V H T E L)). (0, new_scope c None 0 MainSide) ∷ []) (component_Root (record { component = root; props = props })) in
      let first : next ≡ 1 = one_more ∙ ap (λ (n : ℕ). n + 1) empty.number in
      pushed
      ∙ (λ i. record w {
        scopes = one i;
        cells = ap (each cell_of) empty.cells i;
        contexts = ap (λ es. contexts_of d.read_order es) empty.contexts i;
        tasks = ap (each task_of) empty.tasks i;
        posted = empty.posted i;
        seen = empty.seen i;
        queued = empty.queued i;
        resolved = empty.resolved i;
        skipped = ap scope_numbers empty.skipped i;
        next_scope = first i;
        next = ap firsts_of empty.next i;
      })

  -- a scope joins the others, and then its parent knows it
  pub newly_made : (g : Unkept (types C Q V H T E L)) (d v : State P C Q V H T E L) (s : ℕ) (side : model.SideName) (p : tree.Place) (c : tree.VComponent (types C Q V H T E L)) (x : model.Scope (types C Q V H T E L))
      (u : model.State (types C Q V H T E L)) (height next : ℕ)
      → at (state_of g d).scopes s ≡ Some x
      → state_of g v ≡ record (state_of g d) { scopes = (state_of g d).scopes ++ (d.next_scope, new_scope c (Some s) height side) ∷ []; next_scope = next }
      → u ≡ change (state_of g v) s (λ y. more_child side (p, d.next_scope) y)
      → height ≡ x.height + 1
      → next ≡ d.next_scope + 1
      → u ≡ with_new_scope (state_of g d) s side p c x
  newly_made g d v s side p c x u height next found pushed known higher one_more =
      let w : model.State (types C Q V H T E L) = state_of g d in
      let f : model.Scope (types C Q V H T E L) → model.Scope (types C Q V H T E L) = λ y. more_child side (p, d.next_scope) y in
      known
      ∙ ap (λ (v : model.State (types C Q V H T E L)). change v s f) pushed
      ∙ change_front w d.next_scope s next x (new_scope c (Some s) height side) f found
      ∙ (λ i. record w { scopes = put w.scopes s (f x) ++ (d.next_scope, new_scope c (Some s) (higher i) side) ∷ []; next_scope = one_more i })
