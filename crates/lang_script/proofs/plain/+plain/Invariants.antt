-- The whole text is the text so far with that of the parts that are left.
use Rattle.std.proofs.Common.{◌≡◌, ◌++◌, drop, string_bytes}
use Rattle.lang_script.proofs.Plainly.{joined}
use Rattle.lang_script.proofs.plain.+plain.Given as goal

abbrev pub invariant-plain_text-loop-part : goal.invariant-plain_text-loop-part
invariant-plain_text-loop-part l = joined l.held l.parts ≡ string_bytes l.text ++ joined l.held (drop l.part-index l.parts)
