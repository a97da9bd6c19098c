-- One more write is made, and at the end all of them are.
use Rattle.std.proofs.Common.{rules, arith, ◌≡◌, ◌+◌, ◌*◌, ◌%◌, ap}
use Rattle.rt_language.specs.Shorthand.{write_number}
use Rattle.lang_syntax.specs.Mirror.{input_of}
use Rattle.lang_syntax.specs.declared.expression.Literal.{Literal}
use Rattle.lang_syntax.specs.declared.source.InputSource.TheVariants.{Write}
use Rattle.show_words.proofs.Made.{write_put, made_of}
use Rattle.show_words.proofs.generating.generated.Goals as goal

pub loop-write-preserved : goal.loop-write-preserved
loop-write-preserved c =
    let means : input_of (Write ((7 * c.loop-write.write) % c.args.rows + 1) c.number.result) ≡ write_number ((7 * c.loop-write.write) % c.args.rows + 1) c.loop-write.write =
    ap (λ (said : Literal). input_of (Write ((7 * c.loop-write.write) % c.args.rows + 1) said)) (c.number.ensures.said (omega (arith, c.loop-write-test.true, c.requires.few))) in
    write_put c.args.rows c.loop-write.write c.loop-write.inputs c.push-in-loop-write.new.self (Write ((7 * c.loop-write.write) % c.args.rows + 1) c.number.result) c.loop-write-test.true
    (search rules) means c.loop-write.invariant

pub returns : goal.returns
returns c = record {
  generated = made_of c.args.rows c.loop-write.write c.push.new.self c.new.result c.new-2.result c.new-3.result c.loop-write.inputs c.new-4.result
      (search rules) (search rules) (search rules) (search rules) (search rules) (omega arith) c.loop-write.invariant;
}
