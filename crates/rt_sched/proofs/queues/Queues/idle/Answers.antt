use Rattle.std.proofs.Common.{◌≡◌, [], ap, sym, ◌∙◌}
use Rattle.std.proofs.lemmas.Bool.{both_ways}
use Rattle.rt_sched.specs.Lines.{orders_of}
use Rattle.rt_sched.specs.Queues.{Waiting}
use Rattle.rt_sched.proofs.KeptLemmas.{no_orders}
use Rattle.rt_sched.proofs.queues.Queues.idle.Goals as goal
use Rattle.rt_sched.proofs.queues.Queues.idle.Goals.{then-is_quiet, else-is_quiet}

pub returns-else-is_quiet-2 : goal.returns-else-is_quiet-2
returns-else-is_quiet-2 g c =
    let W = Waiting g.row.E.Denot in
    let s = c.self.inside.scopes in
    let t = c.self.inside.tasks in
    let none : (c.args.self.now.seen ≡ []) × (c.args.self.now.queued ≡ []) × (c.args.self.now.posted_scopes ≡ []) × (c.args.self.now.posted_tasks ≡ []) × (c.args.self.now.effects ≡ []) → ⊥ =
    λ h.
    let ready : s.ready ≡ [] = no_orders s.ready (ap (λ (q : W). q.seen) c.self.view_is ∙ h.0) in
    let posted : s.posted ≡ [] = no_orders s.posted (ap (λ (q : W). q.posted_scopes) c.self.view_is ∙ h.2) in
    let queued : t.ready ≡ [] = ap (λ (q : W). q.queued) c.self.view_is ∙ h.1 in
    let woken : t.posted ≡ [] = ap (λ (q : W). q.posted_tasks) c.self.view_is ∙ h.3 in
    elim c.if-is_quiet.branch [
      | then-is_quiet w ↦ both_ways _ (sym w.value-is ∙ c.if-is_quiet-2.false) (w.is_quiet-then-is_quiet.ensures.quiet.1 (queued, woken))
      | else-is_quiet w ↦ both_ways _ w.if-is_quiet.false (c.is_quiet.ensures.quiet.1 (ready, posted))
    ] in
    record { nothing = (λ h. absurd (both_ways _ c.if-is_quiet-2.false h), λ h. absurd (none h)) }

pub returns-then-is_quiet-2 : goal.returns-then-is_quiet-2
returns-then-is_quiet-2 g c =
    let W = Waiting g.row.E.Denot in
    let s = c.self.inside.scopes in
    let t = c.self.inside.tasks in
    let effects : c.self.inside.effects ≡ c.args.self.now.effects = ap (λ (q : W). q.effects) c.self.view_is in
    elim c.if-is_quiet.branch [
      | then-is_quiet w ↦
          let scopes = c.is_quiet.ensures.quiet.0 w.if-is_quiet.true in
          let tasks = w.is_quiet-then-is_quiet.ensures.quiet.0 (sym w.value-is ∙ c.if-is_quiet-2.true) in
          let seen : c.args.self.now.seen ≡ [] = sym (ap (λ (q : W). q.seen) c.self.view_is) ∙ ap orders_of scopes.0 in
          let posted : c.args.self.now.posted_scopes ≡ [] = sym (ap (λ (q : W). q.posted_scopes) c.self.view_is) ∙ ap orders_of scopes.1 in
          let queued : c.args.self.now.queued ≡ [] = sym (ap (λ (q : W). q.queued) c.self.view_is) ∙ tasks.0 in
          let woken : c.args.self.now.posted_tasks ≡ [] = sym (ap (λ (q : W). q.posted_tasks) c.self.view_is) ∙ tasks.1 in
          record { nothing = (λ h. (seen, queued, posted, woken, sym effects ∙ c.is_empty.ensures.empty.0 h), λ h. c.is_empty.ensures.empty.1 (effects ∙ h.4)) }
      | else-is_quiet w ↦ absurd (both_ways _ w.if-is_quiet.false (sym w.value-is ∙ c.if-is_quiet-2.true))
    ]
