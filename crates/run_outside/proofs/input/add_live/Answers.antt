use Rattle.std.proofs.Common.{◌∙◌, ◌∷◌, ◌++◌, [], ap, sym}
use Rattle.std.proofs.lemmas.List.{map-append, append-nil}
use Rattle.run_state.specs.Mirror.{state_of}
use Rattle.run_shown.specs.Hearing.{listener_in, listeners_of}
use Rattle.run_outside.proofs.Said.{on_ok}
use Rattle.run_outside.proofs.Waiting.{one_live, none_live}
use Rattle.run_outside.proofs.input.add_live.Goals as goal

pub returns-then-is_live : goal.returns-then-is_live
returns-then-is_live g c =
    on_ok c.push.result c.push.ensures.ok
    (
    λ h kept.
    ap (λ xs. listeners_of xs) h
    ∙ map-append listener_in c.args.live.now (c.args.listener ∷ [])
    ∙ ap (λ xs. listeners_of c.args.live.now ++ xs) (sym (one_live (state_of kept c.args.state.now) (listener_in c.args.listener) (sym (c.is_live.ensures kept) ∙ c.if-is_live.true)))
    )

pub returns-else-is_live : goal.returns-else-is_live
returns-else-is_live g c =
    λ kept.
    sym (append-nil (listeners_of c.args.live.now))
    ∙ ap (λ xs. listeners_of c.args.live.now ++ xs) (sym (none_live (state_of kept c.args.state.now) (listener_in c.args.listener) (sym (c.is_live.ensures kept) ∙ c.if-is_live.false)))
