-- What is taken so far, and then the parts that are left, come to what all parts come to.
use Rattle.std.proofs.Common.{◌≡◌, List, ℕ, None, drop, map}
use Rattle.std.specs.Borrow.{Bor}
use Rattle.std.specs.List.{fold}
use Rattle.rt_html.specs.Parts.{take_part, taking_of}
use Rattle.rt_html.proofs.tokens.take_parts.Given as goal

abbrev pub invariant-loop-part : goal.invariant-loop-part
invariant-loop-part l =
    fold take_part (taking_of l.done l.held) (map (λ (part : Bor (List ℕ)). part.now) (drop l.part-index l.parts))
    ≡ fold take_part (taking_of l.fn.done None) (map (λ (part : Bor (List ℕ)). part.now) l.parts)
