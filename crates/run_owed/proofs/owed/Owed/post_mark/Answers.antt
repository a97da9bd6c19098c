-- One more mark, under the order of an entered scope.
use Rattle.std.proofs.Common.{◌≡◌, true, ap, sym, ◌∙◌}
use Rattle.rt_model.specs.Lists.{has}
use Rattle.run_owed.specs.Changes.{owing_by}
use Rattle.run_owed.specs.Lists.{numbers_of}
use Rattle.run_owed.specs.Owing.{Owing}
use Rattle.run_owed.specs.Stands.{entered_order}
use Rattle.run_owed.proofs.Firsts.{scope_found, scope_stands}
use Rattle.run_owed.proofs.Stood.{stood_marked}
use Rattle.run_owed.proofs.owed.Owed.post_mark.Goals as goal

pub post_scope-done-requires : goal.post_scope-done-requires
post_scope-done-requires c =
    let o = owing_by c.self.inside.told in
    let live : has (numbers_of o.scopes) c.args.scope ≡ true = ap (λ (p : Owing). has (numbers_of p.scopes) c.args.scope) c.self.view_is ∙ c.requires.entered in
    let found = scope_found o c.self.inside.queues c.self.inside.next c.self.invariant c.args.scope live in
    let own : entered_order o.scopes c.args.scope ≡ c.in-Some.order = cc in
    record { entered = rw (← own) (scope_stands o c.self.inside.queues c.self.inside.next c.self.invariant c.args.scope live) }

pub invariant_of-self : goal.invariant_of-self
invariant_of-self c =
    let o = owing_by c.self.inside.told in
    let live : has (numbers_of o.scopes) c.args.scope ≡ true = ap (λ (p : Owing). has (numbers_of p.scopes) c.args.scope) c.self.view_is ∙ c.requires.entered in
    let found = scope_found o c.self.inside.queues c.self.inside.next c.self.invariant c.args.scope live in
    let own : entered_order o.scopes c.args.scope ≡ c.in-Some.order = cc in
    rw (c.tell.ensures, c.post_scope-done.ensures.posted, ← own) (stood_marked o c.self.inside.queues c.self.inside.next c.self.invariant c.args.scope live)

pub returns-in-Some : goal.returns-in-Some
returns-in-Some c = record { posted = rw (← c.self.view_is) (ap owing_by c.tell.ensures) }

pub returns-in_default : goal.returns-in_default
returns-in_default c =
    let o = owing_by c.self.inside.told in
    let live : has (numbers_of o.scopes) c.args.scope ≡ true = ap (λ (p : Owing). has (numbers_of p.scopes) c.args.scope) c.self.view_is ∙ c.requires.entered in
    let found = scope_found o c.self.inside.queues c.self.inside.next c.self.invariant c.args.scope live in
    absurd (cc (sym found ∙ sym c.in_default.ensures.order))
