-- What a page shows at its scope's first run: its page's function of the first values of the cells that the run made.
use Rattle.std.specs.Prelude.{ℕ, ◌+◌, ◌≤◌, List, [], ◌∷◌, map, length, nat_lt, Option, Some, None, if◌then◌else◌, ◌≡◌}
use Rattle.rt_model.specs.Current.{AllCurrent}
use Rattle.rt_model.specs.Lists.{at, first_of}
use Rattle.rt_model.specs.State.{State, Scope, LastCall, values_of}
use Rattle.rt_model.specs.Tree.{Types, Own}
use Rattle.rt_model.specs.World.{last_number}
use Rattle.author_programs.specs.Cells.{Keeping}
use Rattle.author_programs.specs.Pages.{Pages, meaning_of_pages}

-- the number that a value was made to keep is read back
abbrev pub GivesBack : {V : Type 0} → Keeping V → Type 0
GivesBack k = (n : ℕ) → k.kept (k.keeps n) ≡ Some n

-- the numbers of cells that are made one after another
abbrev pub numbers_from : {V : Type 0} → ℕ → List V → List ℕ
numbers_from n [] = []
numbers_from n (v ∷ vs) = n ∷ numbers_from (n + 1) vs

-- these cells with their first values, the last one first, before those that were made earlier
abbrev pub made_from : {V : Type 0} → List (ℕ × V) → ℕ → List V → List (ℕ × V)
made_from made n [] = made
made_from made n (v ∷ vs) = made_from ((n, v) ∷ made) (n + 1) vs

-- a cell that was made has its first value, another one its present value, and a number that isn't drawn has none
abbrev pub first_value : {K : Types} → State K → LastCall K → List K.Value → ℕ → Option K.Value
first_value w last firsts n =
    if nat_lt n (last.given.given.next.cells + length firsts)
    then first_of (at (made_from [] last.given.given.next.cells firsts) n) ((values_of w).cell n)
    else None

-- where every output is current, a scope of a page that has run once shows its page's function of these values
abbrev pub FirstPagesShow : Types → Type 0
FirstPagesShow K =
    (k : Keeping K.Value) (a : Pages K) (w : State K)
    → GivesBack k
    → AllCurrent (meaning_of_pages k a) w
    → (s : ℕ) (x : Scope K) (last : LastCall K) (c : K.Component) (p : K.Props)
    → at w.scopes s ≡ Some x
    → at w.last_calls s ≡ Some last
    → x.component ≡ Own c p
    → last.given.given.hooks ≡ []
    → last.given.given.next.cells + length (a.page c p).cells ≤ last_number
    → x.main_side.output
    ≡ Some ((a.page c p).shows last.given.given.scope
    (numbers_from last.given.given.next.cells (a.page c p).cells)
    (map (first_value w last (a.page c p).cells) ((a.page c p).reads (numbers_from last.given.given.next.cells (a.page c p).cells))))
