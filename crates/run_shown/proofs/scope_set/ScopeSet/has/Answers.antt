-- Among the few, or among the others.
use Rattle.std.proofs.Common.{◌∙◌, ap, sym}
use Rattle.rt_model.specs.Lists.{has}
use Rattle.run_shown.proofs.Members.{in_few, in_rest}
use Rattle.run_shown.proofs.scope_set.ScopeSet.has.Goals as goal

pub returns-then-is_among : goal.returns-then-is_among
returns-then-is_among c = rw (← c.self.view_is) (sym (in_few c.self.inside.few.items c.self.inside.numbers.keys c.args.scope (ap (λ xs. has xs c.args.scope) (sym c.as_slice.ensures.value) ∙ sym c.is_among.ensures ∙ c.if-is_among.true)))

pub returns : goal.returns
returns c = rw (← c.self.view_is) (c.is_below.ensures ∙ sym (in_rest c.self.inside.few.items c.self.inside.numbers.keys c.args.scope (ap (λ xs. has xs c.args.scope) (sym c.as_slice.ensures.value) ∙ sym c.is_among.ensures ∙ c.if-is_among.false)))
