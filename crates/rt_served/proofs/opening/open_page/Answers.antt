-- The page is put, or the build or the render after it comes to a fault.
use Rattle.std.proofs.Common.{rules, ◌≡◌, ◌∷◌, [], Err, true}
use Rattle.rt_html.specs.Spelling.{are_namable}
use Rattle.rt_model.specs.View.{nodes_of}
use Rattle.rt_served.specs.Faults.{dom_fault}
use Rattle.rt_served.specs.Serving.{page}
use Rattle.rt_served.specs.Stood.{PageUnspelt}
use Rattle.rt_served.proofs.Answering.{put_of, rendered}
use Rattle.rt_served.proofs.Failing.{build_fails, render_fails}
use Rattle.rt_served.proofs.Paged.{build_stopped, built, page_put, render_stopped}
use Rattle.rt_served.proofs.opening.open_page.Goals as goal

pub returns-in_err-rebuild_in_place-clause-opens : goal.returns-in_err-rebuild_in_place-clause-opens
returns-in_err-rebuild_in_place-clause-opens g c =
    let failed : c.from_residual.result ≡ Err (dom_fault c.in_err-rebuild_in_place.field-0.0) = search rules in
    λ app limits props started.
    rw failed
    (build_stopped (λ a. g.A.App.meaning a) app limits props c.rebuild_in_place.new.self _ _ (dom_fault c.in_err-rebuild_in_place.field-0.0)
    (build_fails (λ a. g.A.App.meaning a) app limits props c.args.dom.now c.rebuild_in_place.new.self c.in_err-rebuild_in_place.field-0.0
    (PageUnspelt (λ a. g.A.App.meaning a) app limits props) _ _ started c.in_err-rebuild_in_place.ensures.builds
    c.in_err-rebuild_in_place.ensures.caused))

pub returns-in_err-render_suspense_immediate-clause-opens : goal.returns-in_err-render_suspense_immediate-clause-opens
returns-in_err-render_suspense_immediate-clause-opens g c =
    let failed : c.from_residual-in_err-render_suspense_immediate.result ≡ Err (dom_fault c.in_err-render_suspense_immediate.field-0.0) =
    search rules in
    λ app limits props started.
    let b =
    built (λ a. g.A.App.meaning a) app limits props c.args.dom.now c.rebuild_in_place.new.self _ started
    c.in_ok-rebuild_in_place.ensures.builds c.in_ok-rebuild_in_place.ensures.owned in
    rw failed
    (render_stopped (λ a. g.A.App.meaning a) app limits props c.rebuild_in_place.new.self c.render_suspense_immediate.new.self _ _
    (dom_fault c.in_err-render_suspense_immediate.field-0.0) b
    (render_fails (λ a. g.A.App.meaning a) app limits props true b.state c.rebuild_in_place.new.self c.render_suspense_immediate.new.self
    c.in_err-render_suspense_immediate.field-0.0 (PageUnspelt (λ a. g.A.App.meaning a) app limits props) _ _ b.keeps
    c.in_err-render_suspense_immediate.ensures.renders c.in_err-render_suspense_immediate.ensures.owned
    c.in_err-render_suspense_immediate.ensures.caused))

pub returns-clause-opens : goal.returns-clause-opens
returns-clause-opens g c = λ app limits props started.
    let b =
    built (λ a. g.A.App.meaning a) app limits props c.args.dom.now c.rebuild_in_place.new.self _ started
    c.in_ok-rebuild_in_place.ensures.builds c.in_ok-rebuild_in_place.ensures.owned in
    let r =
    rendered (λ a. g.A.App.meaning a) app limits props true b.state c.rebuild_in_place.new.self c.render_suspense_immediate.new.self _ b.keeps
    c.in_ok-render_suspense_immediate.ensures.renders c.in_ok-render_suspense_immediate.ensures.owned in
    page_put (λ a. g.A.App.meaning a) app limits props c.rebuild_in_place.new.self c.render_suspense_immediate.new.self _ _ _ _ _
    c.put_page.result b r
    (put_of (λ a. g.A.App.meaning a) app limits props _ r.next c.render_suspense_immediate.new.self (λ x. page x ∷ [])
    (λ x. are_namable (nodes_of x 0)) _ _ _ _ c.put_page.result r.keeps c.put_page.ensures.puts)
