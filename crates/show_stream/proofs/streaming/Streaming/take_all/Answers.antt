-- One input after the other.
use Rattle.std.proofs.Common.{rules, ◌≡◌, ◌∷◌, Err, length, map, sym, ap, ◌∙◌, subst, arith}
use Rattle.std.specs.Vec.Iter.{into_iter_items}
use Rattle.run_outside.proofs.Reports.{nothing_left}
use Rattle.run_reports.specs.Seen.{input_of}
use Rattle.show_stream.proofs.Taking.{TookSome, took_all, took_more, took_none, took_stop}
use Rattle.show_stream.proofs.streaming.Streaming.take_all.Goals as goal

pub loop-input-init : goal.loop-input-init
loop-input-init g c =
    let items = c.into_iter-input-iterator.ensures.into_iter_gives in
    record {
      took = λ source asked said text at is.
          took_none g.T.Tells.form source asked said text c.args.self.now _ _ at (ap (map input_of) (items.0 ∙ c.into_vec-input-items.ensures.items) ∙ is);
      later = omega arith;
      count = search rules;
    }

pub loop-input-preserved : goal.loop-input-preserved
loop-input-preserved g c =
    let steps : into_iter_items c.loop-input.input-iterator ≡ c.in-Some.input ∷ into_iter_items c.next.new.self = c.in-Some.ensures.steps.0 in
    record {
      took = λ source asked said text at is.
          took_more g.T.Tells.form source asked said text (input_of c.in-Some.input) (map input_of (into_iter_items c.next.new.self)) c.loop-input.self c.take.new.self
          (g.O.Out.puts c.args.out.now) (g.O.Out.puts c.loop-input.out) (g.O.Out.puts c.take.new.out) (g.O.Out.faults c.loop-input.out) (g.O.Out.faults c.take.new.out)
          (subst (λ left. TookSome g.T.Tells.form source asked said text left (g.O.Out.puts c.args.out.now) (g.O.Out.puts c.loop-input.out) c.loop-input.self) (ap (map input_of) steps) (c.loop-input.invariant.took source asked said text at is))
          c.in_ok-take.ensures.takes;
      later =
          let before = c.loop-input.invariant.later in
          let now = c.in_ok-take.ensures.later in
          omega (arith, before, now);
      count =
          let was = c.loop-input.invariant.count in
          let gone = c.in-Some.ensures.steps.1 in
          let short = ap length steps in
          omega arith;
    }

pub returns-in_err-take-clause-takes : goal.returns-in_err-take-clause-takes
returns-in_err-take-clause-takes g c =
    let steps : into_iter_items c.loop-input.input-iterator ≡ c.in-Some.input ∷ into_iter_items c.next.new.self = c.in-Some.ensures.steps.0 in
    let stopped : c.from_residual.result ≡ Err c.in_err-take.field-0.0 = search rules in
    λ source asked said text at is.
    rw stopped
    (took_stop g.T.Tells.form source asked said text (input_of c.in-Some.input) (map input_of (into_iter_items c.next.new.self)) c.loop-input.self c.take.new.self
    (g.O.Out.puts c.args.out.now) (g.O.Out.puts c.loop-input.out) (g.O.Out.puts c.take.new.out)
    (g.O.Out.faults c.args.out.now) (g.O.Out.faults c.loop-input.out) (g.O.Out.faults c.take.new.out) c.in_err-take.field-0.0
    (subst (λ left. TookSome g.T.Tells.form source asked said text left (g.O.Out.puts c.args.out.now) (g.O.Out.puts c.loop-input.out) c.loop-input.self) (ap (map input_of) steps) (c.loop-input.invariant.took source asked said text at is))
    c.loop-input.invariant.later c.in_err-take.ensures.takes)

pub returns-clause-takes : goal.returns-clause-takes
returns-clause-takes g c =
    let none = c.in-None.ensures.steps in
    λ source asked said text at is.
    took_all g.T.Tells.form source asked said text _ c.loop-input.self _ _ (ap (map input_of) (nothing_left _ (sym c.loop-input.invariant.count ∙ none.0)))
    (c.loop-input.invariant.took source asked said text at is)
