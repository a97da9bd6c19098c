-- The reports of a session: what each tells, that the build and each input have one, and that they count right.
use Rattle.std.specs.Prelude.{ℕ, ◌+◌, Bool, true, false, List, [], ◌∷◌, length, ◌≡◌}
use Rattle.rt_model.specs.Tree.{Types}
use Rattle.rt_model.specs.Replay.{Entry, Build, Taken, Input}
use Rattle.rt_model.specs.Told.{Told, is_unit, is_body, count_entries}

-- what a session tells of the build or of one input
pub record Report : Type 0 where
  -- its entries
  pub log : List Entry
  -- how many units there were
  pub units : ℕ
  -- how many bodies ran
  pub bodies : ℕ
  -- how many edits were written
  pub edits : ℕ
  -- no listener prevented the event's default
  pub default_enabled : Bool

-- the log of each report
abbrev pub logs_of : List Report → List (List Entry)
logs_of [] = []
logs_of (r ∷ rs) = r.log ∷ logs_of rs

-- the entries with which a report's log opens: the build, an input that is taken in
abbrev pub is_opening : Entry → Bool
is_opening Build = true
is_opening (Taken k) = true
is_opening _ = false

-- the log begins with this entry, and no other build or input is in it
abbrev pub OpensWith : Entry → List Entry → Type 0
OpensWith first [] = ⊥
OpensWith first (e ∷ log) = (e ≡ first) × (count_entries is_opening log ≡ 0)

-- one log for each input, from the k-th on
abbrev pub InputsFrom : {K : Types} → ℕ → List (Input K) → List (List Entry) → Type 0
InputsFrom k [] [] = Unit {0}
InputsFrom k (input ∷ inputs) (log ∷ logs) = OpensWith (Taken k) log × InputsFrom (k + 1) inputs logs
InputsFrom k _ _ = ⊥

-- one log for the build and one for each input, in order
abbrev pub OneEach : {K : Types} → List (Input K) → List (List Entry) → Type 0
OneEach inputs [] = ⊥
OneEach inputs (log ∷ logs) = OpensWith Build log × InputsFrom 1 inputs logs

-- one log for each input from the k-th on that was finished, and the last log opens with the next input
abbrev pub CutFrom : {K : Types} → ℕ → List (Input K) → List (List Entry) → List Entry → Type 0
CutFrom k (input ∷ inputs) [] last = OpensWith (Taken k) last
CutFrom k (input ∷ inputs) (log ∷ logs) last = OpensWith (Taken k) log × CutFrom (k + 1) inputs logs last
CutFrom k [] logs last = ⊥

-- one log for the build and for each input that was finished, in order, and the last log opens with what came next
abbrev pub OneEachThen : {K : Types} → List (Input K) → List (List Entry) → List Entry → Type 0
OneEachThen inputs [] last = OpensWith Build last
OneEachThen inputs (log ∷ logs) last = OpensWith Build log × CutFrom 1 inputs logs last

module _ {K : Types} where
  -- a report counts its units, its bodies and its edits, and says whether the default was prevented
  pub record Counts (report : Report) (told : Told K) : Type 0 where
    pub units : report.units ≡ count_entries is_unit report.log
    pub bodies : report.bodies ≡ count_entries is_body report.log
    pub edits : report.edits ≡ length told.edits
    pub default_enabled : report.default_enabled ≡ told.machine.default_enabled

  -- each report counts right
  abbrev pub AllCount : List Report → List (Told K) → Type 0
  AllCount [] [] = Unit {0}
  AllCount (report ∷ reports) (told ∷ rest) = Counts report told × AllCount reports rest
  AllCount _ _ = ⊥
