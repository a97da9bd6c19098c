-- The end of a patch.
use Rattle.std.specs.Prelude.{◌≡◌, []}
use Rattle.rt_tree.specs.declared.patch.Patch.{Patch}
use Rattle.rt_tree.specs.Awaits.{awaited, no_answer}

module _ {P Component Props Value Handler TaskState Effect Payload : Type 0} where
  -- all steps of a patch were done
  pub record IsDone (p : Patch P Component Props Value Handler TaskState Effect Payload) : Type 0 where
    pub edits : p.edits.items ≡ []
    pub plan : p.plan.items ≡ []
    pub drops : p.drops.items ≡ []
    pub gone : p.gone.items ≡ []
    pub free : awaited p.phase ≡ no_answer
