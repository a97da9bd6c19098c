-- A scope that isn't live in one look, or doesn't show in both, writes nothing.
use Rattle.std.proofs.Common.{◌∙◌, sym}
use Rattle.std.proofs.lemmas.Result.{IfOk-weaker}
use Rattle.run_shown.proofs.BothLooks.{none_after, none_before}
use Rattle.run_shown.proofs.Looks.{rung_found, rung_none}
use Rattle.run_shown.proofs.ScopesWrite.{both_hidden, both_shown}
use Rattle.run_shown.proofs.own.shown_written.Goals as goal

pub returns-in_default : goal.returns-in_default
returns-in_default g c = λ app tests passes.
    c.nothing.ensures ∙
    sym (both_hidden app c.args.unit.now c.args.depth c.args.scope
    (none_before c.args.unit.now.before.now c.args.unit.now.after.now c.args.scope (rung_none c.args.unit.now.before.now c.args.scope c.in_default.ensures)))

pub returns-in_default-find : goal.returns-in_default-find
returns-in_default-find g c = λ app tests passes.
    c.nothing-in_default-find.ensures ∙
    sym (both_hidden app c.args.unit.now c.args.depth c.args.scope
    (none_after c.args.unit.now.before.now c.args.unit.now.after.now c.args.scope (rung_none c.args.unit.now.after.now c.args.scope c.in_default-find.ensures)))

pub is_shown_too-requires : goal.is_shown_too-requires
is_shown_too-requires g c = record {
  alike = c.requires.alike;
  stood = rung_found c.args.unit.now.before.now c.args.scope _ _ c.in-Some.ensures c.rung.ensures;
  stands = rung_found c.args.unit.now.after.now c.args.scope _ _ c.in-Some-find.ensures c.rung-2.ensures;
}

pub returns-then-not-is_shown_too : goal.returns-then-not-is_shown_too
returns-then-not-is_shown_too g c = λ app tests passes.
    c.nothing-then-not-is_shown_too.ensures ∙
    sym (both_hidden app c.args.unit.now c.args.depth c.args.scope (sym c.if-not-is_shown_too.true ∙ c.is_shown_too.ensures))

pub found_written-requires : goal.found_written-requires
found_written-requires g c = record { before = sym c.in-Some.ensures; after = sym c.in-Some-find.ensures }

pub returns : goal.returns
returns g c =
    IfOk-weaker c.found_written.result _ _
    (λ written is app tests passes. is app tests passes ∙
    sym (both_shown app c.args.unit.now c.args.depth c.args.scope (sym c.if-not-is_shown_too.false ∙ c.is_shown_too.ensures)))
    c.found_written.ensures
