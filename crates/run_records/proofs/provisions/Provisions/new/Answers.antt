-- No kind has an index.
use Rattle.std.proofs.Common.{refl}
use Rattle.run_records.proofs.provisions.Provisions.new.Goals as goal

pub invariant_of-result : goal.invariant_of-result
invariant_of-result g c = λ kind. rw (c.new.ensures.empty, c.new-2.ensures.empty) refl
