-- What a put does where all of its bytes were written, or none.
use Rattle.std.proofs.Common.{◌≡◌, ℕ, ◌<◌, ◌≤◌, List, [], ◌∷◌, ◌++◌, Option, Some, None, Ok, Err, refl, sym, ap, ◌∙◌, append-nil, arith}
use Rattle.std.specs.Prelude.{Result, OnOk, IsErrOf}
use Rattle.show_streams.specs.declared.out.OutError.{OutError}
use Rattle.show_streams.specs.Writes.{Puts, Writes, grown}
use Rattle.show_streams.specs.declared.out.OutError.TheVariants as errors

-- nothing was put besides
pub grown_none : (old : Puts) → grown old [] ≡ old
grown_none None = refl
grown_none (Some puts) = ap Some (append-nil puts)

-- nothing was put, and nothing was to be
pub writes_none : (written : Puts) (faults : ℕ) → Writes [] written written faults faults (Ok tt)
writes_none written faults = record {
  ok = sym (grown_none written);
  front = record { front = []; part = []; rest = []; whole = refl; begun = tt; added = sym (grown_none written) };
  later = omega arith;
  cause = λ failed. absurd (cc);
}

-- for want of memory none of the texts was put
pub nothing_put : (texts : List (List ℕ)) (written : Puts) (faults : ℕ) → Writes texts written written faults faults (Err errors.OutOfMemory)
nothing_put texts written faults = record {
  ok = tt;
  front = record { front = []; part = []; rest = texts; whole = refl; begun = tt; added = sym (grown_none written) };
  later = omega arith;
  cause = λ failed. absurd (cc failed);
}

-- all of them were
pub all_put : (bytes : List ℕ) (old new : Puts) (before after : ℕ) → new ≡ grown old (bytes ∷ []) → before ≤ after
    → Writes (bytes ∷ []) old new before after (Ok tt)
all_put bytes old new before after put later = record {
  ok = put;
  front = record { front = bytes ∷ []; part = []; rest = []; whole = refl; begun = tt; added = put };
  later = later;
  cause = λ failed. absurd (cc failed);
}

-- none was, for want of memory
pub none_kept : (bytes : List ℕ) (old new : Puts) (before after : ℕ) → new ≡ old → before ≤ after
    → Writes (bytes ∷ []) old new before after (Err errors.OutOfMemory)
none_kept bytes old new before after same later = record {
  ok = tt;
  front = record { front = []; part = []; rest = bytes ∷ []; whole = refl; begun = tt; added = same ∙ sym (grown_none old) };
  later = later;
  cause = λ failed. absurd (cc failed);
}

-- none was, by a failure
pub none_put : (bytes : List ℕ) (old new : Puts) (before after : ℕ) → new ≡ old → before < after
    → Writes (bytes ∷ []) old new before after (Err errors.Failed)
none_put bytes old new before after same rises = record {
  ok = tt;
  front = record { front = []; part = []; rest = bytes ∷ []; whole = refl; begun = tt; added = same ∙ sym (grown_none old) };
  later = omega arith;
  cause = λ failed. rises;
}

-- where it isn't told what was put, nothing is to be said of it
none_told : (texts : List (List ℕ)) (result : Result (Unit {0}) OutError) → OnOk result (None ≡ grown None texts)
none_told texts (Ok u) = refl
none_told texts (Err fault) = tt

-- but how often a put has failed
pub untold : (bytes : List ℕ) (before after : ℕ) (result : Result (Unit {0}) OutError) → before ≤ after
    → (IsErrOf result errors.Failed → before < after) → Writes (bytes ∷ []) None None before after result
untold bytes before after result later cause = record {
  ok = none_told (bytes ∷ []) result;
  front = record { front = []; part = []; rest = bytes ∷ []; whole = refl; begun = tt; added = refl };
  later = later;
  cause = cause;
}

pub ruleset puts = (all_put, none_kept, none_put)
