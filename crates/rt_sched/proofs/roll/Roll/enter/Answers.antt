use Rattle.std.proofs.Common.{◌≡◌, true, false, refl, ap, sym, ◌∙◌}
use Rattle.std.specs.Option.{is_some}
use Rattle.rt_sched.specs.Lines.{Row, Joins, waits, with_last, with_waiting, order_in}
use Rattle.rt_sched.specs.Rosters.{Roster}
use Rattle.rt_sched.proofs.RollLemmas.{lines_enter, order_in_waits, under_absent}
use Rattle.rt_sched.proofs.roll.Roll.enter.Goals as goal

pub returns-then-is_some-clause-ok : goal.returns-then-is_some-clause-ok
returns-then-is_some-clause-ok c =
    let entered : c.self.inside.entered.waiting ≡ c.args.self.now.entered = ap (λ (r : Roster). r.entered) c.self.view_is in
    let some : is_some (order_in c.args.number c.self.inside.entered.waiting) ≡ true = ap is_some (sym c.order_of.ensures.order) ∙ sym c.is_some.ensures ∙ c.if-is_some.true in
    let here : waits c.args.number c.args.self.now.entered ≡ true = rw (← entered) (sym (order_in_waits c.args.number c.self.inside.entered.waiting) ∙ some) in
    rw here refl

pub enter_all-requires : goal.enter_all-requires
enter_all-requires c =
    let none : is_some (order_in c.args.number c.self.inside.entered.waiting) ≡ false = ap is_some (sym c.order_of.ensures.order) ∙ sym c.is_some.ensures ∙ c.if-is_some.false in
    let absent : waits c.args.number c.self.inside.entered.waiting ≡ false = sym (order_in_waits c.args.number c.self.inside.entered.waiting) ∙ none in
    let lines = c.self.invariant in
    record {
      new = (lines.entered_members c.args.number ∙ absent, lines.ready_members c.args.number ∙ absent, lines.posted_members c.args.number ∙ absent);
      absent = (absent, under_absent c.args.number c.self.inside.entered.waiting c.self.inside.ready.waiting lines.ready_under absent);
    }

pub invariant_of-self-2 : goal.invariant_of-self-2
invariant_of-self-2 c =
    let none : is_some (order_in c.args.number c.self.inside.entered.waiting) ≡ false = ap is_some (sym c.order_of.ensures.order) ∙ sym c.is_some.ensures ∙ c.if-is_some.false in
    let absent : waits c.args.number c.self.inside.entered.waiting ≡ false = sym (order_in_waits c.args.number c.self.inside.entered.waiting) ∙ none in
    let all = c.in_ok-enter_all.ensures in
    let members : c.push.new.self.members ≡ c.enter_all.new.first.members = ap (λ (r : Row). r.members) c.push.ensures.waits in
    let joins : Joins c.args.number c.self.inside.entered.members c.push.new.self.members = rw members all.ok.0 in
    let waiting : c.push.new.self.waiting ≡ with_last c.args.order c.args.number c.self.inside.entered.waiting =
    ap (λ (r : Row). r.waiting) c.push.ensures.waits ∙ ap (with_waiting c.args.order c.args.number) all.waiting.0 ∙ rw absent refl in
    lines_enter c.args.number c.args.order c.self.inside.entered c.self.inside.ready c.self.inside.posted c.push.new.self c.enter_all.new.second c.enter_all.new.third
    c.self.invariant absent joins all.ok.1 all.ok.2 waiting all.waiting.1 all.waiting.2
