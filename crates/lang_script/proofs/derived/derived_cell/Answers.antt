-- A resource, and a memo.
use Rattle.std.proofs.Common.{List, ap, sym, ◌∙◌}
use Rattle.rt_language.specs.Values.{Value}
use Rattle.lang_syntax.specs.Mirror.{derived_of}
use Rattle.lang_script.proofs.Derivings.{made_of, cell_by}
use Rattle.lang_script.proofs.derived.derived_cell.Goals as goal

pub returns-in_ok-use_resource-clause-came : goal.returns-in_ok-use_resource-clause-came
returns-in_ok-use_resource-clause-came c =
    cell_by c.args.cx.now c.use_resource.new.cx c.in_ok-of.of c.args.frame.now.held (derived_of c.args.formula.now) _ c.in_ok-use_resource.field-0
    (c.in_ok-of.ensures ∙ ap (λ (xs : List Value). made_of xs (derived_of c.args.formula.now)) c.as_slice.ensures.items)
    (sym c.is_loaded.ensures ∙ c.if-is_loaded.true)
    c.in_ok-use_resource.ensures.came

pub returns-in_ok-use_memo-clause-came : goal.returns-in_ok-use_memo-clause-came
returns-in_ok-use_memo-clause-came c =
    cell_by c.args.cx.now c.use_memo.new.cx c.in_ok-of.of c.args.frame.now.held (derived_of c.args.formula.now) _ c.in_ok-use_memo.field-0
    (c.in_ok-of.ensures ∙ ap (λ (xs : List Value). made_of xs (derived_of c.args.formula.now)) c.as_slice.ensures.items)
    (sym c.is_loaded.ensures ∙ c.if-is_loaded.false)
    c.in_ok-use_memo.ensures.came
