-- Lists of numbers, each once; tables by number; and the scopes and tasks of what is posted.
use Rattle.std.specs.Prelude.{ℕ, false, nat_eq, List, [], ◌∷◌, ◌≡◌, Option, Some, None, if◌then◌else◌}
use Rattle.rt_model.specs.Lists.{at, has, join, or_else}
use Rattle.rt_model.specs.State.{Posted, Mark, Woken}

-- a list that others join, one after another, each once
abbrev pub joins : List ℕ → List ℕ → List ℕ
joins seen [] = seen
joins seen (n ∷ ns) = joins (join seen n) ns

-- no number stands twice
abbrev pub EachOnce : List ℕ → Type 0
EachOnce [] = Unit {0}
EachOnce (n ∷ ns) = (has ns n ≡ false) × EachOnce ns

-- the value that a number was entered with, 0 where it isn't entered
abbrev pub held : List (ℕ × ℕ) → ℕ → ℕ
held es n = or_else 0 (at es n)

-- the scopes whose marks are posted
abbrev pub marks_in : List Posted → List ℕ
marks_in [] = []
marks_in (Mark s ∷ ps) = s ∷ marks_in ps
marks_in (Woken t ∷ ps) = marks_in ps

-- the tasks whose wakes are posted
abbrev pub wakes_in : List Posted → List ℕ
wakes_in [] = []
wakes_in (Mark s ∷ ps) = wakes_in ps
wakes_in (Woken t ∷ ps) = t ∷ wakes_in ps

-- the numbers of a table
abbrev pub numbers_of : {A : Type 0} → List (ℕ × A) → List ℕ
numbers_of [] = []
numbers_of (e ∷ es) = e.0 ∷ numbers_of es

-- the rows of a table, each with one value
abbrev pub values_of : {A : Type 0} → (A → ℕ) → List (ℕ × A) → List (ℕ × ℕ)
values_of value [] = []
values_of value (e ∷ es) = (e.0, value e.1) ∷ values_of value es

-- the first number that was entered with a value
abbrev pub first_with : ℕ → List (ℕ × ℕ) → Option ℕ
first_with v [] = None
first_with v (e ∷ es) = if nat_eq e.1 v then Some e.0 else first_with v es
