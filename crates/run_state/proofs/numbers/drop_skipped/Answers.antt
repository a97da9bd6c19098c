use Rattle.std.proofs.Common.{◌≡◌, ap, sym, ◌∙◌}
use Rattle.std.specs.Prelude.{nat_eq}
use Rattle.std.specs.List.{list_any}
use Rattle.rt_model.specs.Lists.{drop_number}
use Rattle.run_state.specs.Names.{scope_numbers}
use Rattle.run_state.proofs.Drops.{scope_less, scope_none}
use Rattle.run_state.proofs.numbers.drop_skipped.Goals as goal

pub loop-index-preserved : goal.loop-index-preserved
loop-index-preserved c =
    ap (λ xs. drop_number (scope_numbers xs) c.args.scope) c.remove.ensures.others
    ∙ scope_less c.loop-index.scopes c.as_slice.result.now c.args.scope c.in-Some.index c.remove.result c.as_slice.ensures.items c.in-Some.ensures.within (c.in-Some.ensures.own c.remove.result)
    ∙ c.loop-index.invariant

pub returns : goal.returns
returns c =
    sym (scope_none c.loop-index.scopes c.args.scope (ap (list_any (λ own. nat_eq own.0 c.args.scope)) (sym c.as_slice.ensures.items) ∙ c.in_default.ensures.none)) ∙ c.loop-index.invariant
