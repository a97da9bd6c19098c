use Rattle.std.proofs.Common.{refl, sym}
use Rattle.rt_sched.proofs.KeptLemmas.{tasks_under, no_tasks}
use Rattle.rt_sched.proofs.queues.forget_tasks_of.Goals as goal

pub returns-in-Some : goal.returns-in-Some
returns-in-Some c =
    let ss = c.args.scopes.now.entered in
    let t = c.args.tasks.now in
    let n = c.args.number in
    let o = c.in-Some.order in
    let kept = c.requires.kept in
    let order = sym c.in-Some.ensures.order in
    record { forgotten = rw (c.forget_under.ensures.forgotten, tasks_under n o ss t.entered kept.entered_tagged order kept.of_scopes, tasks_under n o ss t.ready kept.entered_tagged order kept.ready_of_scopes, tasks_under n o ss t.posted kept.entered_tagged order kept.posted_of_scopes) refl }

pub returns-in_default : goal.returns-in_default
returns-in_default c =
    let ss = c.args.scopes.now.entered in
    let t = c.args.tasks.now in
    let n = c.args.number in
    let kept = c.requires.kept in
    let none = sym c.in_default.ensures.order in
    record { forgotten = rw (no_tasks n ss t.entered none kept.of_scopes, no_tasks n ss t.ready none kept.ready_of_scopes, no_tasks n ss t.posted none kept.posted_of_scopes) refl }
