-- The child at a component's place.
use Rattle.std.proofs.Common.{◌++◌, sym, ap, ◌∙◌, append-nil}
use Rattle.rt_model.specs.Boundary.{live_child}
use Rattle.run_state.specs.Mirror.{state_of}
use Rattle.run_state.proofs.Changed.{on_ok}
use Rattle.rt_scopes.proofs.Spots.{node_has_none, component_has}
use Rattle.rt_scopes.proofs.children.add_child.Goals as goal

pub returns-in-Node : goal.returns-in-Node
returns-in-Node g c = λ kept.
    sym (append-nil c.args.scopes.now) ∙ ap (λ xs. c.args.scopes.now ++ xs) (sym (node_has_none (state_of kept c.args.state.now) c.args.side.now c.args.spot.now _ _ c.in-Node.is))

pub returns-in-Component : goal.returns-in-Component
returns-in-Component g c =
    on_ok c.add_live.result c.add_live.ensures (λ is kept.
    is kept
    ∙ ap (λ o. c.args.scopes.now ++ live_child (state_of kept c.args.state.now) o) c.child_at.ensures
    ∙ ap (λ xs. c.args.scopes.now ++ xs) (sym (component_has (state_of kept c.args.state.now) c.args.side.now c.args.spot.now _ _ c.in-Component.is)))
