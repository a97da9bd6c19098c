-- Bytes that weren't had are none that could lack something.
use Rattle.std.proofs.Common.{ℕ, List, Option, inl, inr}
use Rattle.show_words.specs.Runs.{ReadsFor, ReadsAny}
use Rattle.show_words.specs.declared.reason.Stop.{Stop}
use Rattle.show_words.specs.declared.reason.Stop.TheVariants as stops

pub for_any : (Lack : List ℕ → Type 0) (left after : Option (List ℕ)) (before now : ℕ) (stop : Stop) →
    ReadsAny left after before now stop → ReadsFor Lack left after before now stop
for_any Lack left after before now stops.Form (inl longer) = inl longer
for_any Lack left after before now stops.Form (inr none) = absurd none.none
for_any Lack left after before now stops.Source reads = reads
for_any Lack left after before now stops.OutOfMemory reads = reads
for_any Lack left after before now stops.Words reads = absurd reads
for_any Lack left after before now stops.Fault reads = absurd reads
for_any Lack left after before now stops.Out reads = absurd reads
