-- A first line that describes an application, or none.
use Rattle.std.proofs.Common.{rules, ◌≡◌, Err, refl, inl, subst}
use Rattle.std.specs.Prelude.{IfSome}
use Rattle.lang_sources.specs.Describes.{Describes}
use Rattle.lang_syntax.specs.Mirror.{source_of}
use Rattle.show_stream.proofs.Answering.{no_source, opens_of}
use Rattle.show_words.specs.declared.reason.Stop.TheVariants as stops
use Rattle.show_stream.proofs.streaming.Streaming.open.Goals as goal

pub returns-in_err-described-clause-opens : goal.returns-in_err-described-clause-opens
returns-in_err-described-clause-opens g c =
    let stopped : c.from_residual.result ≡ Err stops.OutOfMemory = search rules in
    rw stopped (inl refl)

pub returns-in-Some-clause-opens : goal.returns-in-Some-clause-opens
returns-in-Some-clause-opens g c =
    let describes : Describes c.args.first.now (source_of c.in-Some.described) =
    subst (λ read. IfSome read (λ found. Describes c.args.first.now (source_of found))) c.in-Some.is c.in_ok-described.ensures.described in
    opens_of g.T.Tells.form c.args.first.now (source_of c.in-Some.described) (g.O.Out.puts c.args.out.now) (g.O.Out.puts c.run.new.out)
    (g.O.Out.faults c.args.out.now) (g.O.Out.faults c.run.new.out) c.run.result describes c.run.ensures.begins

pub returns-in-None-clause-opens : goal.returns-in-None-clause-opens
returns-in-None-clause-opens g c = (no_source c.args.first.now c.in_ok-described.field-0 c.in-None.is c.in_ok-described.ensures.answered, refl)
