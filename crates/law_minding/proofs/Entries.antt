-- Which entries remove a scope, and which poll a task.
use Rattle.std.proofs.Common.{ℕ, true, ◌≡◌, refl, ap, nat_eq}
use Rattle.std.proofs.lemmas.Bool.{eqb-true}
use Rattle.rt_model.specs.Replay.{Entry, Build, Taken, Heard, Rerun, Poll, Effects, Made, Fed, Kept, Removed}
use Rattle.rt_model.proofs.Members.{clash}
use Rattle.law_behavior.specs.Along.{removed_in}
use Rattle.law_behavior.specs.Owed.{polled_in}

-- an entry that removes a scope
pub removes : (s : ℕ) (e : Entry) → removed_in s e ≡ true → (r : ℕ) × (e ≡ Removed r) × (nat_eq r s ≡ true)
removes s (Removed r) h = (r, refl, h)
removes s Build h = clash h refl
removes s (Taken k) h = clash h refl
removes s (Heard r) h = clash h refl
removes s (Rerun r) h = clash h refl
removes s (Poll u) h = clash h refl
removes s (Effects r) h = clash h refl
removes s (Made r) h = clash h refl
removes s (Fed r) h = clash h refl
removes s (Kept r) h = clash h refl

-- and one that polls a task
pub polls_it : (t : ℕ) (e : Entry) → polled_in t e ≡ true → e ≡ Poll t
polls_it t (Poll u) h = ap (λ (n : ℕ). Poll n) (eqb-true u t h)
polls_it t Build h = clash h refl
polls_it t (Taken k) h = clash h refl
polls_it t (Heard r) h = clash h refl
polls_it t (Rerun r) h = clash h refl
polls_it t (Effects r) h = clash h refl
polls_it t (Made r) h = clash h refl
polls_it t (Fed r) h = clash h refl
polls_it t (Kept r) h = clash h refl
polls_it t (Removed r) h = clash h refl
