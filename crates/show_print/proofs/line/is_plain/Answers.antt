-- One byte more, which is no quote, no backslash and no control.
use Rattle.std.proofs.Common.{◌+◌, refl}
use Rattle.show_print.proofs.Plain.{plain-more}
use Rattle.show_print.proofs.line.is_plain.Goals as goal

pub loop-byte-preserved : goal.loop-byte-preserved
loop-byte-preserved c =
    plain-more c.args.bytes.now c.loop-byte.byte-index (c.loop-byte.byte-index + 1) 0 c.loop-byte-test.true refl c.loop-byte.invariant
    c.if-byte-eq34.false c.if-byte-eq92.false c.if-byte-lt32.false
