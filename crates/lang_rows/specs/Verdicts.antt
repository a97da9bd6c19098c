-- What a recorded log is judged to be, entry by entry.
use Rattle.std.specs.Prelude.{◌≡◌, ℕ, zero, suc, ◌+◌, Bool, true, false, ◌&&◌, not, List, [], ◌∷◌, ◌++◌, length, Option, Some, None, if◌then◌else◌}
use Rattle.rt_model.specs.Tree.{Types}
use Rattle.rt_model.specs.World.{Application}
use Rattle.rt_model.specs.Replay.{Entry, Build, Taken, Input, Machine, same_entry, accepts, start}
use Rattle.rt_model.specs.Told.{is_settled}
use Rattle.rt_model.specs.Reports.{is_opening}

-- a recorded log is accepted, or refused at an entry of one of its lists
pub data Verdict : Type 0 where
  Accepted : Verdict
  Refused : (report entry : ℕ) → Verdict

-- the entry that opens a list
abbrev pub opening : ℕ → Entry
opening zero = Build
opening (suc k) = Taken (suc k)

-- the first entry of a list is its opening, the others are neither a build nor an input
abbrev pub is_placed : ℕ → ℕ → Entry → Bool
is_placed r zero e = same_entry e (opening r)
is_placed r (suc n) e = not (is_opening e)

-- a list may not be empty
abbrev pub is_some_entry : ℕ → Bool
is_some_entry zero = false
is_some_entry (suc n) = true

module _ {K : Types} (app : Application K) where
  -- the replay after an entry, where it is one for this place of its list and comes next
  abbrev pub allowed : ℕ → ℕ → Machine K → Entry → Option (Machine K)
  allowed r n m e = if is_placed r n e then accepts app m e else None

  -- a list may end after so many entries: nothing is left of a run, nothing waits and nothing is owed. After a refusal none may
  abbrev pub may_end : ℕ → Machine K → Bool
  may_end n m = is_some_entry n && is_settled m

  -- the verdict on what is left of a list, and then on the next ones
  abbrev pub verdict_on : ℕ → ℕ → Machine K → List Entry → (Machine K → Verdict) → Verdict
  verdict_on r n m [] later = if may_end n m then later m else Refused r n
  verdict_on r n m (e ∷ log) later = elim (allowed r n m e) [ None ↦ Refused r n | Some u ↦ verdict_on r (suc n) u log later ]

  -- the verdict on lists from this one on
  abbrev pub verdict_from : ℕ → Machine K → List (List Entry) → Verdict
  verdict_from r m [] = Accepted
  verdict_from r m (log ∷ logs) = verdict_on r 0 m log (λ u. verdict_from (suc r) u logs)

  -- the verdict on a recorded log
  abbrev pub verdict : K.Props → List (Input K) → List (List Entry) → Verdict
  verdict props inputs logs = verdict_from 0 (start app props inputs) logs

  -- entries of a list are allowed, one after another
  abbrev pub Goes : ℕ → ℕ → Machine K → List Entry → Machine K → Type 0
  Goes r n m [] v = m ≡ v
  Goes r n m (e ∷ log) v = (u : Machine K) × (allowed r n m e ≡ Some u) × Goes r (suc n) u log v

  -- whole lists are good: each ends with nothing left
  abbrev pub AreGood : ℕ → Machine K → List (List Entry) → Machine K → Type 0
  AreGood r m [] v = m ≡ v
  AreGood r m (log ∷ logs) v = (u : Machine K) × Goes r 0 m log u × (may_end (length log) u ≡ true) × AreGood (suc r) u logs v

  -- the next entry isn't allowed, or the list ends here too early
  abbrev pub Stops : ℕ → ℕ → Machine K → List Entry → Type 0
  Stops r n m [] = may_end n m ≡ false
  Stops r n m (e ∷ log) = allowed r n m e ≡ None

  -- whole lists are good, then a list goes up to an entry, and there the log stops
  pub record StopsAt (m : Machine K) (logs : List (List Entry)) (report entry : ℕ) : Type 0 where
    pub front : List (List Entry)
    pub later : List (List Entry)
    pub here : List Entry
    pub rest : List Entry
    pub at : Machine K
    pub last : Machine K
    pub lists : logs ≡ front ++ (here ++ rest) ∷ later
    pub reports : length front ≡ report
    pub entries : length here ≡ entry
    pub good : AreGood 0 m front at
    pub goes : Goes report 0 at here last
    pub stops : Stops report entry last rest

  -- accepted exactly where all lists are good
  abbrev pub AcceptedExactly : Type 0
  AcceptedExactly =
      (m : Machine K) (logs : List (List Entry))
      → (verdict_from 0 m logs ≡ Accepted → (v : Machine K) × AreGood 0 m logs v)
      ×
      ((v : Machine K) → AreGood 0 m logs v → verdict_from 0 m logs ≡ Accepted)

  -- refused exactly where the log stops
  abbrev pub RefusedExactly : Type 0
  RefusedExactly =
      (m : Machine K) (logs : List (List Entry)) (r e : ℕ)
      → (verdict_from 0 m logs ≡ Refused r e → StopsAt m logs r e)
      ×
      (StopsAt m logs r e → verdict_from 0 m logs ≡ Refused r e)
