use Rattle.std.proofs.Common.{◌≡◌, ◌++◌, ◌∷◌, [], length, map, sym, ap, ◌∙◌, append_assoc, append-nil, arith}
use Rattle.std.specs.Vec.Iter.{into_iter_items}
use Rattle.rt_lemmas.proofs.Lists.{nothing_left}
use Rattle.rt_model.specs.Commands.{commands}
use Rattle.run_records.specs.Records.{command_of}
use Rattle.run_state.specs.Anew.{left_of}
use Rattle.run_state.specs.Mirror.{state_of}
use Rattle.run_state.proofs.Changed.{on_ok}
use Rattle.run_state.proofs.ReadAnew.{commands_append}
use Rattle.run_state.proofs.state.State.do_commands.Goals as goal

pub loop-command-preserved : goal.loop-command-preserved
loop-command-preserved g c =
    let steps : into_iter_items c.loop-command.command-iterator ≡ c.in-Some.command ∷ into_iter_items c.next.new.self = c.in-Some.ensures.steps.0 in
    record {
      done =
          λ app decides kept.
          let was = state_of kept c.loop-command.self in
          let rest = map command_of (into_iter_items c.next.new.self) in
          commands_append app (state_of kept c.command_after.new.self) c.args.scope c.args.polled (left_of c.in_ok-later.later) rest
          ∙ ap (λ u. commands app u c.args.scope c.args.polled rest) (c.in_ok-later.ensures app decides kept)
          ∙ sym (commands_append app was c.args.scope c.args.polled (left_of c.loop-command.left ++ command_of c.in-Some.command ∷ []) rest)
          ∙ ap (λ cs. commands app was c.args.scope c.args.polled cs) (append_assoc (left_of c.loop-command.left) (command_of c.in-Some.command ∷ []) rest)
          ∙ ap (λ xs. commands app was c.args.scope c.args.polled (left_of c.loop-command.left ++ map command_of xs)) (sym steps)
          ∙ c.loop-command.invariant.done app decides kept;
      count =
          let was = c.loop-command.invariant.count in
          let gone = c.in-Some.ensures.steps.1 in
          let short = ap length steps in
          omega arith;
    }

pub returns : goal.returns
returns g c =
    λ app decides.
    let none = c.in-None.ensures.steps in
    let empty : into_iter_items c.loop-command.command-iterator ≡ [] = nothing_left _ (sym c.loop-command.invariant.count ∙ none.0) in
    on_ok c.reread.result c.reread.ensures (λ is kept. is kept app c.args.scope c.args.polled
    ∙ ap (λ cs. commands app (state_of kept c.loop-command.self) c.args.scope c.args.polled cs) (sym (append-nil (left_of c.loop-command.left)))
    ∙ ap (λ xs. commands app (state_of kept c.loop-command.self) c.args.scope c.args.polled (left_of c.loop-command.left ++ map command_of xs)) (sym empty)
    ∙ c.loop-command.invariant.done app decides kept)
