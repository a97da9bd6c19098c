-- A value goes to the index of its kind, or to the end, where its kind gets one.
use Rattle.std.proofs.Common.{◌≡◌, ◌∙◌, ap, sym, rules}
use Rattle.run_records.specs.Provisions.{kind_place}
use Rattle.run_records.proofs.KindPlaces.{put_there, put_new, kinds_kept, index_more, index_back}
use Rattle.run_records.proofs.provisions.Provisions.put.Goals as goal

pub set-requires : goal.set-requires
set-requires g c = record { within = (put_there c.self.inside.all c.args.kind c.in-Some.at c.args.value (rw c.self.view_is c.in-Some.ensures)).0 }

pub invariant_of-self : goal.invariant_of-self
invariant_of-self g c = λ q.
    c.self.invariant q
    ∙ sym (ap (λ qs. kind_place qs q) c.set.ensures.set ∙ kinds_kept c.self.inside.all c.args.kind c.in-Some.at c.args.value q (rw c.self.view_is c.in-Some.ensures))

pub invariant_of-self-then-is_err : goal.invariant_of-self-then-is_err
invariant_of-self-then-is_err g c = λ q.
    let same : c.push.new.self ≡ c.self.inside.all = search rules in
    index_back c.self.inside.all c.args.kind c.self.inside.places c.insert.new.self c.remove.new.self c.len-end.result c.self.invariant (rw c.self.view_is c.in_default.ensures)
    c.in_ok-insert.ensures.updates.0 c.remove.ensures.updates.0 q
    ∙ sym (ap (λ qs. kind_place qs q) same)

pub invariant_of-self-else-is_err : goal.invariant_of-self-else-is_err
invariant_of-self-else-is_err g c =
    index_more c.self.inside.all c.push.new.self c.args.kind c.args.value c.self.inside.places c.insert.new.self c.len-end.result c.self.invariant (rw c.self.view_is c.in_default.ensures)
    c.len-end.ensures.items (search rules) c.in_ok-insert.ensures.updates.0

pub returns-in-Some-clause-put : goal.returns-in-Some-clause-put
returns-in-Some-clause-put g c =
    rw (← c.self.view_is) (c.set.ensures.set ∙ sym (put_there c.self.inside.all c.args.kind c.in-Some.at c.args.value (rw c.self.view_is c.in-Some.ensures)).1)

pub returns-clause-put : goal.returns-clause-put
returns-clause-put g c = rw (← c.self.view_is) (search rules ∙ sym (put_new c.self.inside.all c.args.kind c.args.value (rw c.self.view_is c.in_default.ensures)))
