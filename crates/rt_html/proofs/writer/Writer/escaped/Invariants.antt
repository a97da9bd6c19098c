-- The characters so far are written as their bytes are spelt.
use Rattle.std.proofs.Common.{◌≡◌, ◌++◌, encode_utf8_all}
use Rattle.rt_html.specs.Spelling.{escaped}
use Rattle.rt_html.proofs.writer.Writer.escaped.Given as goal

abbrev pub invariant-loop-character : goal.invariant-loop-character
invariant-loop-character l = l.self ≡ l.fn.self ++ escaped (encode_utf8_all l.yielded)
