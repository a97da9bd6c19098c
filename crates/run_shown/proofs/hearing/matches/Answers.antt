-- The bytes from the third on are tested.
use Rattle.std.proofs.Common.{◌≡◌, ◌≤◌, ◌∙◌, ap, arith, drop, length, sym}
use Rattle.std.specs.List.{slice_range}
use Rattle.run_shown.proofs.OneByOne.{range_to_end}
use Rattle.run_shown.proofs.Hearings.{long_name}
use Rattle.run_shown.proofs.hearing.matches.Goals as goal

pub returns : goal.returns
returns c =
    let front : slice_range c.as_bytes.result.now 2 (length c.as_bytes.result.now) ≡ drop 2 c.args.name.now =
    range_to_end c.as_bytes.result.now 2 ∙ ap (λ xs. drop 2 xs) c.as_bytes.ensures.bytes in
    let long : 2 ≤ length c.args.name.now = omega (arith, c.if-len-lt2.false, c.len.ensures.bytes) in
    long_name c.same_slice.result c.args.name.now c.args.event.now long
    (λ yes. sym front ∙ c.same_slice.ensures.same.0 yes ∙ c.as_bytes-2.ensures.bytes)
    (λ is. c.same_slice.ensures.same.1 (front ∙ is ∙ sym c.as_bytes-2.ensures.bytes))
