-- What is read so far, with what the parts that are left say, is what all parts say.
use Rattle.std.proofs.Common.{◌≡◌, ◌++◌, List, ℕ, true, drop, map, string_bytes}
use Rattle.std.specs.Borrow.{Bor}
use Rattle.rt_html.specs.Parts.{parts_read}
use Rattle.rt_html.proofs.tokens.put_parts.Given as goal

abbrev pub invariant-loop-part : goal.invariant-loop-part
invariant-loop-part l =
    string_bytes l.read ++ parts_read l.is_first (map (λ (part : Bor (List ℕ)). part.now) (drop l.part-index l.parts))
    ≡ string_bytes l.fn.read ++ parts_read true (map (λ (part : Bor (List ℕ)). part.now) l.parts)
