-- The start of a runtime.
use Rattle.std.specs.Prelude.{◌≡◌, []}
use Rattle.run_records.specs.declared.world.Firsts.{Firsts}
use Rattle.run_state.specs.declared.state.State.{State}

module _ {P C Q V H T E L : Type 0} where
  -- nothing is kept, and these numbers come first
  pub record IsEmpty (firsts : Firsts) (d : State P C Q V H T E L) : Type 0 where
    pub rows : (d.rows).table ≡ []
    pub cells : (d.cells).cells ≡ []
    pub contexts : (d.cells).contexts ≡ []
    pub tasks : d.tasks ≡ []
    pub posted : (d.owed).posted ≡ []
    pub seen : (d.owed).seen ≡ []
    pub queued : (d.owed).queued ≡ []
    pub resolved : d.resolved ≡ []
    pub skipped : d.skipped ≡ []
    pub number : d.next_scope ≡ 0
    pub next : d.next ≡ firsts
