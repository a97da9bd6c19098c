-- The effects of a batch in turn.
use Rattle.std.proofs.Common.{sym}
use Rattle.rt_scopes.proofs.scopes.Scopes.call_effects.Goals as goal

pub returns : goal.returns
returns g c =
    record {
      run = λ kept. rw (sym c.id-scope.ensures.id, sym c.as_slice.ensures.items) (c.act_all.ensures.acted kept);
    }
