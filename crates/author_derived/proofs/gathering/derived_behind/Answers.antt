-- One more derived cell, none, and the end.
use Rattle.std.proofs.Common.{rules, false, ◌≡◌, ◌∙◌, ◌++◌, ◌∷◌, [], length, sym, ap, arith}
use Rattle.std.specs.Prelude.{Some, None}
use Rattle.std.specs.Vec.Iter.{into_iter_items}
use Rattle.run_records.specs.Records.{world_of}
use Rattle.author_calls.specs.Calls.{call_of}
use Rattle.author_programs.specs.Came.{came, reached}
use Rattle.author_formulas.specs.Memos.{own_memo}
use Rattle.author_derived.specs.Derived.{derived_behind}
use Rattle.author_derived.proofs.Gathered.{derived_end, derived_more, derived_none}
use Rattle.author_derived.proofs.gathering.derived_behind.Goals as goal

pub loop-formula-init : goal.loop-formula-init
loop-formula-init g c =
    let items = c.into_iter-formula-iterator.ensures.into_iter_gives in
    record {
      came = ap (λ fs. came (world_of c.args.cx.now.world) (derived_behind g.P.KeepsCells.keeping g.S.HasMemo.state (g.S.HasMemo.formulas c.args.app.now).empty fs c.args.own) (call_of c.args.cx.now))
          (sym (items.0 ∙ c.into_vec-formula-items.ensures.items));
      world = search rules;
      count = search rules;
    }

pub loop-formula-preserved : goal.loop-formula-preserved
loop-formula-preserved g c =
    let w = world_of c.args.cx.now.world in
    let k = g.P.KeepsCells.keeping in
    let state = g.S.HasMemo.state in
    let empty = (g.S.HasMemo.formulas c.args.app.now).empty in
    let before = call_of c.loop-formula.cx in
    let after = call_of c.use_memo.new.cx in
    let f = c.in-Some.formula in
    let rest = into_iter_items c.next.new.self in
    let steps : into_iter_items c.loop-formula.formula-iterator ≡ f ∷ rest = c.in-Some.ensures.steps.0 in
    let made : came w (own_memo k state empty f false) before ≡ reached (Some c.in-Some-made.cell) after = search rules in
    let same : c.push.new.self ≡ c.loop-formula.all ++ c.in-Some-made.cell ∷ [] = search rules in
    record {
      came =
          c.loop-formula.invariant.came
          ∙ ap (λ fs. came w (derived_behind k state empty fs c.loop-formula.all) before) steps
          ∙ derived_more w k state before after empty f rest c.loop-formula.all c.push.new.self c.in-Some-made.cell made same;
      world = search rules;
      count =
          let was = c.loop-formula.invariant.count in
          let gone = c.in-Some.ensures.steps.1 in
          let short = ap length steps in
          omega arith;
    }

pub returns-in-None-made-clause-came : goal.returns-in-None-made-clause-came
returns-in-None-made-clause-came g c = λ had.
    let w = world_of c.args.cx.now.world in
    let k = g.P.KeepsCells.keeping in
    let state = g.S.HasMemo.state in
    let empty = (g.S.HasMemo.formulas c.args.app.now).empty in
    let before = call_of c.loop-formula.cx in
    let after = call_of c.use_memo.new.cx in
    let f = c.in-Some.formula in
    let rest = into_iter_items c.next.new.self in
    let steps : into_iter_items c.loop-formula.formula-iterator ≡ f ∷ rest = c.in-Some.ensures.steps.0 in
    let made : came w (own_memo k state empty f false) before ≡ reached None after = search (rules, had) in
    c.loop-formula.invariant.came
    ∙ ap (λ fs. came w (derived_behind k state empty fs c.loop-formula.all) before) steps
    ∙ derived_none w k state before after empty f rest c.loop-formula.all made

pub returns-clause-came : goal.returns-clause-came
returns-clause-came g c =
    let none = c.in-None.ensures.steps in
    c.loop-formula.invariant.came
    ∙ derived_end (world_of c.args.cx.now.world) g.P.KeepsCells.keeping g.S.HasMemo.state (call_of c.loop-formula.cx) (g.S.HasMemo.formulas c.args.app.now).empty
    (into_iter_items c.loop-formula.formula-iterator) c.loop-formula.all (sym c.loop-formula.invariant.count ∙ none.0)
