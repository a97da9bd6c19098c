-- What an out holds after texts were put, each by one put, of which the last may have failed within it.
use Rattle.std.specs.Prelude.{◌≡◌, ℕ, ◌<◌, ◌≤◌, List, [], ◌∷◌, ◌++◌, Option, Some, None, Result, OnOk, IsErrOf}
use Rattle.std.specs.List.{concat}
use Rattle.show_streams.specs.declared.out.OutError.{OutError}
use Rattle.show_streams.specs.declared.out.OutError.TheVariants as errors

-- what each put wrote, in order, where an out tells it
abbrev pub Puts : Type 0
Puts = Option (List (List ℕ))

-- so much was put besides, where it is told
abbrev pub grown : Puts → List (List ℕ) → Puts
grown None more = None
grown (Some puts) more = Some (puts ++ more)

-- of these texts nothing was put, or of the first one a front of its bytes
abbrev pub Begins : List (List ℕ) → List (List ℕ) → Type 0
Begins [] texts = Unit {0}
Begins (part ∷ parts) [] = ⊥
Begins (part ∷ parts) (text ∷ texts) = (parts ≡ []) × ((more : List ℕ) × (text ≡ part ++ more))

-- what was added to the out, where it is told, is a front of these texts: some whole, and maybe a part of the next one
pub record AddsFront (old new : Puts) (texts : List (List ℕ)) : Type 0 where
  -- those of the texts that were put whole
  pub front : List (List ℕ)
  -- what was written of the next one, by a put that failed within it
  pub part : List (List ℕ)
  -- those that were not put whole
  pub rest : List (List ℕ)
  pub whole : texts ≡ front ++ rest
  pub begun : Begins part rest
  pub added : new ≡ grown old (front ++ part)

-- texts were put to an out, one after the other
pub record Writes
    (texts : List (List ℕ)) (old new : Puts) (before after : ℕ) (result : Result (Unit {0}) OutError)
    : Type 0 where
  -- at Ok all of them were
  pub ok : OnOk result (new ≡ grown old texts)
  -- after an error a front of them
  pub front : AddsFront old new texts
  -- the count of failures never falls
  pub later : before ≤ after
  -- a failure is counted
  pub cause : IsErrOf result errors.Failed → before < after

-- the bytes of all puts, one behind the other, where they are told
abbrev pub bytes_in : Puts → Option (List ℕ)
bytes_in None = None
bytes_in (Some puts) = Some (concat puts)

-- bytes behind those that were there, where they are told
abbrev pub longer : Option (List ℕ) → List ℕ → Option (List ℕ)
longer None more = None
longer (Some bytes) more = Some (bytes ++ more)

-- the bytes that were added, where they are told, are a front of these
pub record AddsBytes (old new : Option (List ℕ)) (bytes : List ℕ) : Type 0 where
  pub front : List ℕ
  pub rest : List ℕ
  pub whole : bytes ≡ front ++ rest
  pub added : new ≡ longer old front
