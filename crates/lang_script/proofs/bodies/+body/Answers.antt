-- One more statement, and none.
use Rattle.std.proofs.Common.{true, ℕ, List, take, sym, subst, rules, ◌≡◌, ◌∙◌, arith, ap}
use Rattle.run_records.specs.Records.{world_of}
use Rattle.author_calls.specs.Calls.{call_of}
use Rattle.rt_model.specs.World.{World}
use Rattle.rt_language.specs.Expressions.{SourceTypes, Caller}
use Rattle.rt_language.specs.Statements as statements
use Rattle.rt_language.specs.Statements.{Running, WentOn, perform, run_statements}
use Rattle.lang_syntax.specs.Mirror.{expression_of, statement_of, statements_of}
use Rattle.rt_language.specs.Values.{Value, is_true}
use Rattle.lang_script.specs.declared.caller.Frame.{Frame}
use Rattle.author_programs.specs.Came.{came, reached}
use Rattle.lang_script.specs.Seen.{caller_of, frame_of, outcome_of, ScriptWorld}
use Rattle.lang_script.proofs.Statements.{one_statement, no_statement, moved, went, knows, stops, follows-on, when_true, kept-held}
use Rattle.author_programs.proofs.Steps.{at_done}
use Rattle.lang_script.proofs.bodies.+body.Goals as goal

pub run_body-loop-statement-preserved : goal.run_body-loop-statement-preserved
run_body-loop-statement-preserved t c =
    let inv = c.loop-statement.invariant in
    let f : statements.Frame = frame_of c.perform.new.frame in
    let p : Caller → Running = λ b. perform b (frame_of c.loop-statement.frame) (statement_of c.statement-item.result) in
    let h : came (world_of c.args.cx.now.world) (p (caller_of c.args.frame.now.by)) (call_of c.loop-statement.cx) ≡ reached (WentOn f) (call_of c.perform.new.cx) =
    went c.loop-statement.cx c.perform.new.cx _ c.loop-statement.frame.by c.args.frame.now.by p c.in_ok-outcome.outcome f inv.1 inv.2.by c.in-WentOn.is c.in_ok-outcome.ensures.came in
    (inv.0 ∙ one_statement _ _ _ c.args.statements.now _ _ (WentOn f) _ _ (omega arith) c.statement-item.is h, c.in_ok-outcome.ensures.world ∙ inv.1, follows-on _ _ _ inv.2 c.in_ok-outcome.ensures.follows)

pub run_body-returns-in_default : goal.run_body-returns-in_default
run_body-returns-in_default t c =
    let inv = c.loop-statement.invariant in
    let w : World SourceTypes = world_of c.args.cx.now.world in
    let f : statements.Frame = frame_of c.perform.new.frame in
    let o = c.in_ok-outcome.outcome in
    let p : Caller → Running = λ b. perform b (frame_of c.loop-statement.frame) (statement_of c.statement-item.result) in
    record {
      came = knows o _ (λ h. inv.0
          ∙ one_statement w _ _ c.args.statements.now c.loop-statement.statement-index c.statement-item.result (outcome_of o f) _ _ (omega arith) c.statement-item.is
          (moved c.loop-statement.cx c.perform.new.cx _ c.loop-statement.frame.by c.args.frame.now.by p (outcome_of o f) inv.1 inv.2.by h)
          ∙ ap (λ (q : Running). came w q (call_of c.perform.new.cx)) (stops o f _ c.in_default.not-WentOn)
          ∙ at_done w (outcome_of o f) (call_of c.perform.new.cx)) c.in_ok-outcome.ensures.came;
      world = c.in_ok-outcome.ensures.world ∙ inv.1;
      follows = follows-on _ _ _ inv.2 c.in_ok-outcome.ensures.follows;
    }

pub run_body-returns-clause-came : goal.run_body-returns-clause-came
run_body-returns-clause-came t c = c.loop-statement.invariant.0 ∙ no_statement _ _ _ c.args.statements.now _ _ (omega arith)

pub run_when-returns-clause-came : goal.run_when-returns-clause-came
run_when-returns-clause-came t c =
    let f : Frame = c.args.frame.now in
    let inner : Frame = c.run_body.new.frame in
    let w : World SourceTypes = world_of c.args.cx.now.world in
    let o = c.in_ok-outcome.outcome in
    let chosen : is_true c.in_ok-evaluate.field-0 ≡ true = search rules in
    let front : take c.len-bound.result inner.held ≡ f.held =
    ap (λ (n : ℕ). take n inner.held) c.len-bound.ensures.items ∙ kept-held f.held inner.held c.in_ok-outcome.ensures.follows.held in
    let kept : frame_of c.keep.new.self ≡ record (frame_of inner) { held = f.held } =
    ap frame_of c.keep.ensures.kept ∙ ap (λ (xs : List Value). record (frame_of inner) { held = xs }) front in
    knows o c.run_body.new.cx
    (λ h. when_true w (caller_of f.by) (frame_of f) (frame_of inner) (expression_of c.args.test.now) (statements_of c.args.statements.now) c.in_ok-evaluate.field-0 o _ _ _ chosen c.in_ok-evaluate.ensures.came
    (subst (λ (u : ScriptWorld). came (world_of u) (run_statements (caller_of f.by) (frame_of f) (statements_of c.args.statements.now)) (call_of c.evaluate.new.cx) ≡ reached (outcome_of o (frame_of inner)) (call_of c.run_body.new.cx)) c.in_ok-evaluate.ensures.world h)
    ∙ ap (λ (x : statements.Frame). reached (outcome_of o x) (call_of c.run_body.new.cx)) (sym kept))
    c.in_ok-outcome.ensures.came
