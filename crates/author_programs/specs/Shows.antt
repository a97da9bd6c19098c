-- What a page shows once its scope has its cells: a function of their values.
use Rattle.std.specs.Prelude.{ℕ, ◌+◌, List, [], ◌∷◌, map, length, nat_lt, Option, Some, None, if◌then◌else◌, ◌≡◌}
use Rattle.rt_model.specs.Lists.{nth}
use Rattle.rt_model.specs.Program.{body_means}
use Rattle.rt_model.specs.Tree.{Types, rendered}
use Rattle.rt_model.specs.World.{World, Hook, HookValue}
use Rattle.author_programs.specs.Cells.{Keeping}
use Rattle.author_programs.specs.Pages.{Page, page_body}

-- the hook keeps the cell
pub record IsKept {K : Types} (k : Keeping K.Value) (hook : Option (Hook K)) (cell : ℕ) : Type 0 where
  pub value : K.Value
  pub is : hook ≡ Some (HookValue k.kind value)
  pub keeps : k.kept value ≡ Some cell

module _ {K : Types} where
  -- the hooks of a scope keep these cells, from an index on
  abbrev pub KeepAll : Keeping K.Value → List (Hook K) → ℕ → List ℕ → Type 0
  KeepAll k hooks i [] = Unit {0}
  KeepAll k hooks i (n ∷ ns) = IsKept k (nth hooks i) n × KeepAll k hooks (i + 1) ns

  -- the present value of a cell, none where the number isn't drawn
  abbrev pub present : World K → ℕ → Option K.Value
  present w n = if nat_lt n w.given.next.cells then w.values.cell n else None

-- a page whose scope has its cells shows what its function gives of the present values
abbrev pub ShowsPresentValues : Types → Type 0
ShowsPresentValues K =
    (k : Keeping K.Value) (page : Page K) (w : World K) (own : List ℕ)
    → KeepAll k w.given.hooks 0 own
    → length page.cells ≡ length own
    → (body_means (page_body k page) w).answer ≡ rendered (page.shows w.given.scope own (map (present w) (page.reads own)))
