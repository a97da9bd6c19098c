-- What putting a fault comes to.
use Rattle.std.specs.Prelude.{◌≡◌, ◌⊎◌, ℕ, ◌<◌, List, [], ◌∷◌, ◌++◌, Option, Some, Result, Ok, Err}
use Rattle.rt_model.specs.State.{Fault}
use Rattle.show_answers.specs.Told.{Form, ToldFault}
use Rattle.show_streams.specs.Writes.{AddsFront, Puts, grown}
use Rattle.show_streams.specs.declared.out.OutError.{OutError}
use Rattle.show_streams.specs.declared.out.OutError.TheVariants as errors
use Rattle.show_words.specs.declared.reason.Stop.{Stop}
use Rattle.show_words.specs.declared.reason.Stop.TheVariants as stops

-- the lines of edits and the line of a fault
abbrev pub faulted : (form : Form) → List (List ℕ) → Fault → List (List ℕ)
faulted form lines fault = lines ++ form (ToldFault fault) ∷ []

-- of a fault that has a line
abbrev pub OfFault : Option Fault → (Fault → Type 0) → Type 0
OfFault fault Is = (f : Fault) × (fault ≡ Some f) × Is f

-- the lines and the fault's were put, by what is answered: or a front of them, or where memory was wanting before it nothing
abbrev pub PutsLast : (form : Form) → List (List ℕ) → Option Fault → (old new : Puts) (before now : ℕ) → Result (Unit {0}) OutError → Type 0
PutsLast form lines fault old new before now (Ok u) = OfFault fault (λ f. new ≡ grown old (faulted form lines f))
PutsLast form lines fault old new before now (Err errors.Failed) =
    (before < now) × OfFault fault (λ f. AddsFront old new (faulted form lines f))
PutsLast form lines fault old new before now (Err errors.OutOfMemory) =
    (new ≡ old) ⊎ OfFault fault (λ f. AddsFront old new (faulted form lines f))

-- the same, by where the program stops then
abbrev pub PutsFault : (form : Form) → List (List ℕ) → Option Fault → (old new : Puts) (before now : ℕ) → Stop → Type 0
PutsFault form lines fault old new before now stops.Fault = PutsLast form lines fault old new before now (Ok tt)
PutsFault form lines fault old new before now stops.Out = PutsLast form lines fault old new before now (Err errors.Failed)
PutsFault form lines fault old new before now stops.OutOfMemory = PutsLast form lines fault old new before now (Err errors.OutOfMemory)
PutsFault form lines fault old new before now stops.Words = ⊥
PutsFault form lines fault old new before now stops.Form = ⊥
PutsFault form lines fault old new before now stops.Source = ⊥
