-- One text more that comes after the last one, or one that doesn't.
use Rattle.std.proofs.Common.{◌+◌, ◌∙◌, drop, refl, sym, ap, rules}
use Rattle.lang_expressions.specs.Ascending.{rises}
use Rattle.lang_expressions.proofs.Halves.{rises_not, rises_on, rises_end}
use Rattle.lang_expressions.proofs.context_keys.rises.Goals as goal

pub loop-at-init : goal.loop-at-init
loop-at-init c = (c.utf8.first, refl)

pub returns-then-not-comes_before : goal.returns-then-not-comes_before
returns-then-not-comes_before c =
    rises_not c.args.rest.now _ _ c.loop-at.at c.loop-at-test.true c.index-rest-at.is (sym c.comes_before.ensures ∙ c.if-not-comes_before.true) ∙ c.loop-at.invariant.1

pub loop-at-preserved : goal.loop-at-preserved
loop-at-preserved c = (
  search rules,
  ap (λ t. rises t (drop (c.loop-at.at + 1) c.args.rest.now)) c.as_str-last.ensures.text
      ∙ rises_on c.args.rest.now _ _ c.loop-at.at c.loop-at-test.true c.index-rest-at.is (sym c.comes_before.ensures ∙ c.if-not-comes_before.false)
      ∙ c.loop-at.invariant.1,
)

pub returns : goal.returns
returns c = rises_end c.args.rest.now _ c.loop-at.at c.loop-at-test.false ∙ c.loop-at.invariant.1
