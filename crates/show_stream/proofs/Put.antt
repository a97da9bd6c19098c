-- Putting a fault.
use Rattle.std.proofs.Common.{◌≡◌, ℕ, List, [], ◌∷◌, ◌++◌, Option, Some, None, Result, Ok, Err, refl, sym, ap, subst, inr, append-nil}
use Rattle.std.specs.Prelude.{option_map}
use Rattle.rt_model.specs.State.{Fault}
use Rattle.show_answers.specs.Told.{Form, ToldFault}
use Rattle.show_stream.specs.Put.{PutsFault, PutsLast}
use Rattle.show_streams.specs.Writes.{Puts, Writes, grown}
use Rattle.show_streams.specs.declared.out.OutError.{OutError}
use Rattle.show_streams.specs.declared.out.OutError.TheVariants as errors
use Rattle.show_words.specs.Outs.{stop_of}

-- nothing was put
pub put_none : (old : Puts) → old ≡ grown old []
put_none None = refl
put_none (Some puts) = ap Some (sym (append-nil puts))

-- what is said of a fault is its line
named : (form : Form) (fault : Option Fault) (said : List ℕ) → Some said ≡ option_map (λ f. form (ToldFault f)) fault
    → (f : Fault) × (fault ≡ Some f) × (said ≡ form (ToldFault f))
named form None said is = absurd (cc is)
named form (Some fault) said is = (fault, refl, cc is)

-- a line that is put behind others is that of the fault
put_of : (form : Form) → (lines : List (List ℕ)) (last : List ℕ) (fault : Option Fault) (f : Fault) (old new : Puts) (before now : ℕ) (result : Result (Unit {0}) OutError)
    → fault ≡ Some f → Writes (lines ++ form (ToldFault f) ∷ []) old new before now result → PutsLast form lines fault old new before now result
put_of form lines last fault f old new before now (Ok u) is put = (f, is, put.ok)
put_of form lines last fault f old new before now (Err errors.Failed) is put = (put.cause refl, (f, is, put.front))
put_of form lines last fault f old new before now (Err errors.OutOfMemory) is put = inr ((f, is, put.front))

pub last_put : (form : Form) → (lines : List (List ℕ)) (last : List ℕ) (fault : Option Fault) (old new : Puts) (before now : ℕ) (result : Result (Unit {0}) OutError)
    → Some last ≡ option_map (λ f. form (ToldFault f)) fault → Writes (lines ++ last ∷ []) old new before now result
    → PutsLast form lines fault old new before now result
last_put form lines last fault old new before now result is put =
    let name = named form fault last is in
    put_of form lines last fault name.0 old new before now result name.1
    (subst (λ (l : List ℕ). Writes (lines ++ l ∷ []) old new before now result) name.2 put)

-- where the program stops then
pub fault_stops : (form : Form) → (lines : List (List ℕ)) (fault : Option Fault) (old new : Puts) (before now : ℕ) (error : OutError)
    → PutsLast form lines fault old new before now (Err error) → PutsFault form lines fault old new before now (stop_of error)
fault_stops form lines fault old new before now errors.Failed puts = puts
fault_stops form lines fault old new before now errors.OutOfMemory puts = puts
