-- A line is answered, or the program stops there.
use Rattle.std.proofs.Common.{rules, ◌≡◌, [], ◌∷◌, ◌++◌, Some, Err, refl, subst}
use Rattle.std.specs.Prelude.{IfSome}
use Rattle.lang_inputs.specs.Describes.{DescribesInput}
use Rattle.lang_syntax.specs.Mirror.{input_of}
use Rattle.show_stream.proofs.Answering.{answered, refused_cut, refused_put, says_none, wanting}
use Rattle.show_stream.specs.Streams.{own_asked}
use Rattle.show_words.specs.Outs.{stop_of}
use Rattle.show_words.specs.declared.reason.Stop.TheVariants as stops
use Rattle.show_stream.proofs.streaming.Streaming.answer.Goals as goal

pub returns-in_err-said-clause-answers : goal.returns-in_err-said-clause-answers
returns-in_err-said-clause-answers g c = λ first lines text is.
    let stopped : c.from_residual.result ≡ Err stops.OutOfMemory = search rules in
    rw stopped
    (wanting g.T.Tells.form first lines c.args.bytes.now text c.args.self.now is (g.O.Out.puts c.args.out.now) (g.O.Out.puts c.args.out.now) (g.O.Out.faults c.args.out.now) (g.O.Out.faults c.args.out.now) c.args.self.now
    c.held.ensures.held refl)

pub returns-in_err-inputs-in-Some-clause-answers : goal.returns-in_err-inputs-in-Some-clause-answers
returns-in_err-inputs-in-Some-clause-answers g c = λ first lines text is.
    let stopped : c.from_residual-in_err-inputs-in-Some.result ≡ Err stops.OutOfMemory = search rules in
    rw stopped
    (wanting g.T.Tells.form first lines c.args.bytes.now text c.args.self.now is (g.O.Out.puts c.args.out.now) (g.O.Out.puts c.args.out.now) (g.O.Out.faults c.args.out.now) (g.O.Out.faults c.args.out.now) c.args.self.now
    c.held.ensures.held refl)

pub returns-in_ok-inputs-in-Some-clause-answers : goal.returns-in_ok-inputs-in-Some-clause-answers
returns-in_ok-inputs-in-Some-clause-answers g c = λ first lines text is.
    let describes : DescribesInput c.args.bytes.now (input_of c.in-Some.said) =
    subst (λ read. IfSome read (λ found. DescribesInput c.args.bytes.now (input_of found))) c.in-Some.is c.in_ok-said.ensures.described in
    answered g.T.Tells.form first lines c.args.bytes.now text c.args.self.now is (input_of c.in-Some.said) (g.O.Out.puts c.args.out.now) (g.O.Out.puts c.take_all.new.out)
    (g.O.Out.faults c.args.out.now) (g.O.Out.faults c.take_all.new.out) c.take_all.new.self c.take_all.result describes
    (c.take_all.ensures.takes is.source (own_asked is.source ++ is.said) (input_of c.in-Some.said ∷ []) text is.at c.in_ok-inputs-in-Some.ensures.input)

pub returns-in_err-put_refusal-in-None-clause-answers : goal.returns-in_err-put_refusal-in-None-clause-answers
returns-in_err-put_refusal-in-None-clause-answers g c = λ first lines text is.
    let stopped : c.from_residual-in_err-put_refusal-in-None.result ≡ Err (stop_of c.in_err-put_refusal-in-None.field-0.0) = search rules in
    rw stopped
    (refused_cut g.T.Tells.form first lines c.args.bytes.now text c.args.self.now is (g.O.Out.puts c.args.out.now) (g.O.Out.puts c.put_refusal.new.out)
    (g.O.Out.faults c.args.out.now) (g.O.Out.faults c.put_refusal.new.out) c.args.self.now c.in_err-put_refusal-in-None.field-0.0
    (says_none c.args.bytes.now c.in_ok-said.field-0 c.in-None.is c.in_ok-said.ensures.answered)
    c.held.ensures.held
    c.in_err-put_refusal-in-None.ensures.writes)

pub returns-in_ok-put_refusal-in-None-clause-answers : goal.returns-in_ok-put_refusal-in-None-clause-answers
returns-in_ok-put_refusal-in-None-clause-answers g c = λ first lines text is.
    refused_put g.T.Tells.form first lines c.args.bytes.now text c.args.self.now is (g.O.Out.puts c.args.out.now) (g.O.Out.puts c.put_refusal.new.out)
    (g.O.Out.faults c.args.out.now) (g.O.Out.faults c.put_refusal.new.out)
    (says_none c.args.bytes.now c.in_ok-said.field-0 c.in-None.is c.in_ok-said.ensures.answered) c.in_ok-put_refusal-in-None.ensures.writes.ok
