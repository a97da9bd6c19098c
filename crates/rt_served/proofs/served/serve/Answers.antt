-- What is served is the page, and behind it what the wakes are answered with.
use Rattle.std.proofs.Common.{rules, ◌≡◌, ℕ, Err, List, subst, refl}
use Rattle.std.proofs.lemmas.Result.{err_from_is_err_and}
use Rattle.rt_values.specs.declared.names.Task.{Task}
use Rattle.rt_served.specs.Faults.{run_fault}
use Rattle.rt_served.specs.Stood.{AnsweredAs}
use Rattle.rt_served.proofs.Answering.{tasks_of}
use Rattle.rt_served.proofs.Paged.{all_served, cause_opened, cause_served, cause_unmade, complete, part_opened, part_served, part_unmade, unmade}
use Rattle.rt_served.proofs.served.serve.Goals as goal

pub returns-in_err-dom-clause-part : goal.returns-in_err-dom-clause-part
returns-in_err-dom-clause-part g c =
    let failed : c.from_residual.result ≡ Err (run_fault c.in_err-dom.field-0.0) = search rules in
    rw failed
    (part_unmade (λ a. g.A.App.meaning a) c.args.app c.args.limits c.args.props (tasks_of c.args.wakes) _ _ c.in_err-dom.field-0.0
    c.in_err-dom.ensures.cause refl)

pub returns-in_err-dom-clause-cause : goal.returns-in_err-dom-clause-cause
returns-in_err-dom-clause-cause g c =
    let failed : c.from_residual.result ≡ Err (run_fault c.in_err-dom.field-0.0) = search rules in
    rw failed
    (cause_unmade (λ a. g.A.App.meaning a) c.args.app c.args.limits c.args.props (tasks_of c.args.wakes) _ _ c.in_err-dom.field-0.0
    c.in_err-dom.ensures.cause)

pub returns-in_err-dom-clause-completes : goal.returns-in_err-dom-clause-completes
returns-in_err-dom-clause-completes g c =
    let failed : c.from_residual.result ≡ Err (run_fault c.in_err-dom.field-0.0) = search rules in
    rw failed (λ servable calm. unmade c.in_err-dom.field-0.0 c.in_err-dom.ensures.cause)

pub returns-in_err-open_page-clause-part : goal.returns-in_err-open_page-clause-part
returns-in_err-open_page-clause-part g c =
    let failed = err_from_is_err_and c.from_residual-in_err-open_page.result c.from_residual-in_err-open_page.ensures.1 in
    rw (failed.1, failed.2)
    (part_opened (λ a. g.A.App.meaning a) c.args.app c.args.limits c.args.props (tasks_of c.args.wakes) _ _ c.in_err-open_page.field-0.0
    (c.in_err-open_page.ensures.opens c.args.app c.args.limits c.args.props c.in_ok-dom.ensures.started).0)

pub returns-in_err-open_page-clause-cause : goal.returns-in_err-open_page-clause-cause
returns-in_err-open_page-clause-cause g c =
    let failed = err_from_is_err_and c.from_residual-in_err-open_page.result c.from_residual-in_err-open_page.ensures.1 in
    rw (failed.1, failed.2)
    (cause_opened (λ a. g.A.App.meaning a) c.args.app c.args.limits c.args.props (tasks_of c.args.wakes) _ _ c.in_err-open_page.field-0.0
    (c.in_err-open_page.ensures.opens c.args.app c.args.limits c.args.props c.in_ok-dom.ensures.started).1)

pub returns-in_err-open_page-clause-completes : goal.returns-in_err-open_page-clause-completes
returns-in_err-open_page-clause-completes g c =
    let failed = err_from_is_err_and c.from_residual-in_err-open_page.result c.from_residual-in_err-open_page.ensures.1 in
    rw (failed.1, failed.2)
    (λ servable calm.
    complete (λ a. g.A.App.meaning a) c.args.app c.args.limits c.args.props (tasks_of c.args.wakes) _ _ {A = ℕ} (Err c.in_err-open_page.field-0.0)
    (cause_opened (λ a. g.A.App.meaning a) c.args.app c.args.limits c.args.props (tasks_of c.args.wakes) _ _ c.in_err-open_page.field-0.0
    (c.in_err-open_page.ensures.opens c.args.app c.args.limits c.args.props c.in_ok-dom.ensures.started).1)
    servable calm)

pub returns-clause-served : goal.returns-clause-served
returns-clause-served g c =
    let same : c.as_slice.result.now ≡ c.args.wakes = search rules in
    let o = c.in_ok-open_page.ensures.opens c.args.app c.args.limits c.args.props c.in_ok-dom.ensures.started in
    all_served (λ a. g.A.App.meaning a) c.args.app c.args.limits c.args.props (tasks_of c.args.wakes) c.open_page.new.dom c.answer_wakes.new.dom
    _ _ _ 0 _ _ o c.answer_wakes.result
    (subst
    (λ (wakes : List Task).
    AnsweredAs (λ a. g.A.App.meaning a) c.args.app c.args.limits c.args.props o.first (tasks_of wakes) c.answer_wakes.new.dom
    (g.O.Out.puts c.open_page.new.out) (g.O.Out.puts c.answer_wakes.new.out) (g.O.Out.faults c.open_page.new.out)
    (g.O.Out.faults c.answer_wakes.new.out) c.answer_wakes.result)
    same (c.answer_wakes.ensures.answers c.args.app c.args.limits c.args.props o.first o.keeps))

pub returns-clause-part : goal.returns-clause-part
returns-clause-part g c =
    let same : c.as_slice.result.now ≡ c.args.wakes = search rules in
    let o = c.in_ok-open_page.ensures.opens c.args.app c.args.limits c.args.props c.in_ok-dom.ensures.started in
    part_served (λ a. g.A.App.meaning a) c.args.app c.args.limits c.args.props (tasks_of c.args.wakes) c.open_page.new.dom
    c.answer_wakes.new.dom _ _ _ 0 _ _ o c.answer_wakes.result
    (subst
    (λ (wakes : List Task).
    AnsweredAs (λ a. g.A.App.meaning a) c.args.app c.args.limits c.args.props o.first (tasks_of wakes) c.answer_wakes.new.dom
    (g.O.Out.puts c.open_page.new.out) (g.O.Out.puts c.answer_wakes.new.out) (g.O.Out.faults c.open_page.new.out)
    (g.O.Out.faults c.answer_wakes.new.out) c.answer_wakes.result)
    same (c.answer_wakes.ensures.answers c.args.app c.args.limits c.args.props o.first o.keeps))

pub returns-clause-cause : goal.returns-clause-cause
returns-clause-cause g c =
    let same : c.as_slice.result.now ≡ c.args.wakes = search rules in
    let o = c.in_ok-open_page.ensures.opens c.args.app c.args.limits c.args.props c.in_ok-dom.ensures.started in
    cause_served (λ a. g.A.App.meaning a) c.args.app c.args.limits c.args.props (tasks_of c.args.wakes) c.open_page.new.dom
    c.answer_wakes.new.dom _ _ _ _ _ _ o c.answer_wakes.result c.in_ok-open_page.ensures.counted
    (subst
    (λ (wakes : List Task).
    AnsweredAs (λ a. g.A.App.meaning a) c.args.app c.args.limits c.args.props o.first (tasks_of wakes) c.answer_wakes.new.dom
    (g.O.Out.puts c.open_page.new.out) (g.O.Out.puts c.answer_wakes.new.out) (g.O.Out.faults c.open_page.new.out)
    (g.O.Out.faults c.answer_wakes.new.out) c.answer_wakes.result)
    same (c.answer_wakes.ensures.answers c.args.app c.args.limits c.args.props o.first o.keeps))

pub returns-clause-completes : goal.returns-clause-completes
returns-clause-completes g c =
    let same : c.as_slice.result.now ≡ c.args.wakes = search rules in
    let o = c.in_ok-open_page.ensures.opens c.args.app c.args.limits c.args.props c.in_ok-dom.ensures.started in
    λ servable calm.
    complete (λ a. g.A.App.meaning a) c.args.app c.args.limits c.args.props (tasks_of c.args.wakes) (g.O.Out.faults c.args.out.now)
    (g.O.Out.faults c.answer_wakes.new.out) c.answer_wakes.result
    (cause_served (λ a. g.A.App.meaning a) c.args.app c.args.limits c.args.props (tasks_of c.args.wakes) c.open_page.new.dom
    c.answer_wakes.new.dom (g.O.Out.puts c.args.out.now) _ _ _ _ _ o c.answer_wakes.result c.in_ok-open_page.ensures.counted
    (subst
    (λ (wakes : List Task).
    AnsweredAs (λ a. g.A.App.meaning a) c.args.app c.args.limits c.args.props o.first (tasks_of wakes) c.answer_wakes.new.dom
    (g.O.Out.puts c.open_page.new.out) (g.O.Out.puts c.answer_wakes.new.out) (g.O.Out.faults c.open_page.new.out)
    (g.O.Out.faults c.answer_wakes.new.out) c.answer_wakes.result)
    same (c.answer_wakes.ensures.answers c.args.app c.args.limits c.args.props o.first o.keeps)))
    servable calm
