use Rattle.std.proofs.Common.{◌≡◌, ap, sym, ◌∙◌}
use Rattle.rt_model.specs.Lists.{has, drop_number}
use Rattle.run_state.proofs.Drops.{number_less, number_none}
use Rattle.run_state.proofs.numbers.drop_number.Goals as goal

pub loop-index-preserved : goal.loop-index-preserved
loop-index-preserved c =
    ap (λ xs. drop_number xs c.args.number) c.remove.ensures.others
    ∙ number_less c.loop-index.numbers c.as_slice.result.now c.args.number c.in-Some.index c.as_slice.ensures.items c.in-Some.ensures.within (c.in-Some.ensures.own 0)
    ∙ c.loop-index.invariant

pub returns : goal.returns
returns c =
    sym (number_none c.loop-index.numbers c.args.number (ap (λ xs. has xs c.args.number) (sym c.as_slice.ensures.items) ∙ c.in_default.ensures.none)) ∙ c.loop-index.invariant
