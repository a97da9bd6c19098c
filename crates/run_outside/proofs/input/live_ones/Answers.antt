use Rattle.std.proofs.Common.{◌≡◌, ◌∷◌, ◌++◌, [], length, sym, ap, ◌∙◌, append_assoc, arith}
use Rattle.std.proofs.lemmas.List.{append-nil}
use Rattle.std.specs.Vec.Iter.{into_iter_items}
use Rattle.run_state.specs.Mirror.{state_of}
use Rattle.run_shown.specs.Hearing.{listener_in, listeners_of}
use Rattle.run_outside.specs.Hearings.{live_listeners}
use Rattle.run_outside.proofs.Reports.{nothing_left}
use Rattle.run_outside.proofs.Waiting.{live_more}
use Rattle.run_outside.proofs.input.live_ones.Goals as goal

pub loop-listener-preserved : goal.loop-listener-preserved
loop-listener-preserved g c =
    let steps : into_iter_items c.loop-listener.listener-iterator ≡ c.in-Some.listener ∷ into_iter_items c.next.new.self = c.in-Some.ensures.steps.0 in
    record {
      done =
          λ kept.
          let w = state_of kept c.args.state.now in
          let rest = live_listeners w (listeners_of (into_iter_items c.next.new.self)) in
          ap (λ xs. xs ++ rest) (c.in_ok-add_live.ensures kept)
          ∙ append_assoc (listeners_of c.loop-listener.live) (live_listeners w (listener_in c.in-Some.listener ∷ [])) rest
          ∙ ap (λ xs. listeners_of c.loop-listener.live ++ xs) (sym (live_more w (listener_in c.in-Some.listener) (listeners_of (into_iter_items c.next.new.self))))
          ∙ ap (λ xs. listeners_of c.loop-listener.live ++ live_listeners w (listeners_of xs)) (sym steps)
          ∙ c.loop-listener.invariant.done kept;
      count =
          let was = c.loop-listener.invariant.count in
          let gone = c.in-Some.ensures.steps.1 in
          let short = ap length steps in
          omega arith;
    }

pub returns : goal.returns
returns g c =
    λ kept.
    let none = c.in-None.ensures.steps in
    let empty : into_iter_items c.loop-listener.listener-iterator ≡ [] = nothing_left _ (sym c.loop-listener.invariant.count ∙ none.0) in
    sym (append-nil (listeners_of c.loop-listener.live))
    ∙ ap (λ xs. listeners_of c.loop-listener.live ++ live_listeners (state_of kept c.args.state.now) (listeners_of xs)) (sym empty)
    ∙ c.loop-listener.invariant.done kept
