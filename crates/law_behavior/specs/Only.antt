-- A write posts nobody but readers.
use Rattle.std.specs.Prelude.{ℕ, true, ◌≡◌, ◌⊎◌}
use Rattle.rt_model.specs.Tree.{Types}
use Rattle.rt_model.specs.World.{Source, Cell}
use Rattle.rt_model.specs.State.{Posted, Mark, Scope, ContextRow, State}
use Rattle.rt_model.specs.Commands.{names_source, write_cell}
use Rattle.law_behavior.specs.Marking.{IsPosted, Targets}
use Rattle.law_behavior.specs.Hidden.{StandsIn}

module _ {K : Types} where
  -- this is the mark of a scope that read a source
  pub record IsReadersMark (w : State K) (source : Source) (p : Posted) : Type 0 where
    pub scope : ℕ
    pub row : Scope K
    pub stands : StandsIn w.scopes (scope, row)
    pub reads : names_source row.reads source ≡ true
    pub is : p ≡ Mark scope

  -- this is what a reactive context targets in which a source was read
  pub record IsContextsPost (w : State K) (source : Source) (p : Posted) : Type 0 where
    pub context : ℕ
    pub row : ContextRow K
    pub stands : StandsIn w.contexts (context, row)
    pub reads : names_source row.sources source ≡ true
    pub targets : Targets w row.target p

-- what is posted after a write was posted before, or it is of a reader
abbrev pub WritesPostOnlyReaders : Types → Type 0
WritesPostOnlyReaders K =
    (w : State K) (n : ℕ) (v : K.Value) (p : Posted)
    → IsPosted (write_cell w n v).posted p
    → IsPosted w.posted p ⊎ (IsReadersMark w (Cell n) p ⊎ IsContextsPost w (Cell n) p)
