-- A key that was found among keys that ascend stands at its only place.
use Rattle.std.proofs.Common.{sym}
use Rattle.lang_expressions.proofs.Halves.{place_found}
use Rattle.lang_expressions.proofs.context_keys.ContextKeys.place_of.Goals as goal

pub returns-in-Ok : goal.returns-in-Ok
returns-in-Ok c =
    let is = c.as_slice-2.ensures.items in
    let keys = c.self.inside.keys in
    let key = c.args.key.now in
    record {
      place = rw (← c.self.view_is)
          (sym (place_found keys key c.in-Ok.at key (c.self.invariant c.if-not-self.false) (rw (← is) c.in-Ok.ensures.within) (rw (← is) (c.in-Ok.ensures.position key))));
    }
