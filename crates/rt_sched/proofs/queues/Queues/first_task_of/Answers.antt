use Rattle.std.proofs.Common.{◌≡◌, ℕ, None, Option, ap, sym, ◌∙◌}
use Rattle.std.specs.Option.{option_map}
use Rattle.rt_sched.specs.Queues.{Waiting, first_task_of}
use Rattle.rt_sched.proofs.Firsts.{first_task_under, no_task_of, task_named}
use Rattle.rt_sched.proofs.queues.Queues.first_task_of.Goals as goal

pub returns-in_err-order : goal.returns-in_err-order
returns-in_err-order g c =
    let tasks : c.self.inside.tasks.entered ≡ c.args.self.now.tasks = ap (λ (q : Waiting g.row.E.Denot). q.tasks) c.self.view_is in
    let by = no_task_of c.args.id.0 c.self.inside.scopes.entered c.self.inside.tasks.entered (sym c.in_err-order.ensures.order) c.self.invariant.of_scopes in
    let none : first_task_of c.args.id.0 c.args.self.now.tasks ≡ None = rw tasks at by in
    rw none (record { first = c.from_residual.ensures })

pub returns-in_err-number : goal.returns-in_err-number
returns-in_err-number g c =
    let tasks : c.self.inside.tasks.entered ≡ c.args.self.now.tasks = ap (λ (q : Waiting g.row.E.Denot). q.tasks) c.self.view_is in
    let by = first_task_under c.args.id.0 c.in_ok-order.order c.self.inside.scopes.entered c.self.inside.tasks.entered c.self.invariant.entered_tagged (sym c.in_ok-order.ensures.order) c.self.invariant.of_scopes in
    let found = by ∙ ap (λ (o : Option ℕ). option_map task_named o) (sym c.in_err-number.ensures.first) in
    let none : first_task_of c.args.id.0 c.args.self.now.tasks ≡ None = rw tasks at found in
    rw none (record { first = c.from_residual-in_err-number.ensures })

pub returns : goal.returns
returns g c =
    let tasks : c.self.inside.tasks.entered ≡ c.args.self.now.tasks = ap (λ (q : Waiting g.row.E.Denot). q.tasks) c.self.view_is in
    let by = first_task_under c.args.id.0 c.in_ok-order.order c.self.inside.scopes.entered c.self.inside.tasks.entered c.self.invariant.entered_tagged (sym c.in_ok-order.ensures.order) c.self.invariant.of_scopes in
    let found = by ∙ ap (λ (o : Option ℕ). option_map task_named o) (sym c.in_ok-number.ensures.first) in
    record { first = sym (rw tasks at found) }
