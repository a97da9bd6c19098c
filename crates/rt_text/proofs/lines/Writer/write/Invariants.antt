-- What is written so far, with the bytes that are left, is what the whole text gives.
use Rattle.std.proofs.Common.{◌≡◌, drop}
use Rattle.rt_text.specs.Layout.{with_text}
use Rattle.rt_text.proofs.lines.Writer.write.Given as goal

abbrev pub invariant-loop-byte : goal.invariant-loop-byte
invariant-loop-byte l = with_text l.width (drop l.byte-index l.byte-items) l.self ≡ with_text l.width l.text l.fn.self
