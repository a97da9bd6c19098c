-- The render count rises, or stays.
use Rattle.std.proofs.Common.{refl}
use Rattle.rt_model.specs.Run.{raised}
use Rattle.rt_scopes.proofs.Told.{told}
use Rattle.rt_boundary.proofs.fallbacks.count.Goals as goal

pub returns-then-counts : goal.returns-then-counts
returns-then-counts g c =
    record {
      counted = rw c.if-counts.true (λ app count. told (λ w. raised w c.args.boundary) c.args.scopes.now.state c.raised.new.self count c.raised.result c.raised.ensures.done c.raised.ensures.cut);
    }

pub returns-else-counts : goal.returns-else-counts
returns-else-counts g c =
    record {
      counted = rw c.if-counts.false (λ app count kept. (kept, refl, λ was. was));
    }
