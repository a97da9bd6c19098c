-- What is read so far, and then the parts that are left, come to what all parts come to.
use Rattle.std.proofs.Common.{◌≡◌, List, ℕ, drop, map}
use Rattle.std.specs.Borrow.{Bor}
use Rattle.std.specs.List.{fold}
use Rattle.rt_html.specs.Parts.{standing_of, take_on}
use Rattle.rt_html.proofs.reader.Reader.take_all.Given as goal

abbrev pub invariant-loop-part : goal.invariant-loop-part
invariant-loop-part l =
    fold take_on (standing_of l.self) (map (λ (part : Bor (List ℕ)). part.now) (drop l.part-index l.parts))
    ≡ fold take_on (standing_of l.fn.self) (map (λ (part : Bor (List ℕ)). part.now) l.parts)
