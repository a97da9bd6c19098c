-- The page is put.
use Rattle.std.proofs.Common.{rules, ◌≡◌, ◌∙◌, Err, ap, sym}
use Rattle.rt_html.specs.Spelling.{are_namable, page_html}
use Rattle.tree_edits.specs.Documents.{forest_of}
use Rattle.rt_vdom.specs.Doms.{StateIn}
use Rattle.rt_served.specs.Faults.{html_fault, put_fault}
use Rattle.rt_served.specs.declared.refusal.ServeFault.TheVariants as faults
use Rattle.rt_served.proofs.Pieces.{page_put, page_unput, some_of, unspelt, wanting}
use Rattle.rt_served.proofs.putting.put_page.Goals as goal

pub returns-in_err-nodes_of-clause-puts : goal.returns-in_err-nodes_of-clause-puts
returns-in_err-nodes_of-clause-puts g c =
    let failed : c.from_residual.result ≡ Err faults.OutOfMemory = search rules in
    λ k. rw failed (wanting _ _ _ _)

pub returns-in-None-clause-puts : goal.returns-in-None-clause-puts
returns-in-None-clause-puts g c = λ k. wanting _ _ _ _

pub returns-in_err-text-in-Some-clause-puts : goal.returns-in_err-text-in-Some-clause-puts
returns-in_err-text-in-Some-clause-puts g c =
    let failed : c.from_residual-in_err-text-in-Some.result ≡ Err (html_fault c.in_err-text-in-Some.field-0.0) = search rules in
    let same : c.as_slice.result.now ≡ c.in-Some.nodes = search rules in
    λ k.
    rw failed
    (unspelt _ _ _ _ c.in_err-text-in-Some.field-0.0
    (λ is.
    ap are_namable (sym (ap forest_of same ∙ some_of _ c.in-Some.nodes _ c.in-Some.is c.in_ok-nodes_of.ensures.nodes k))
    ∙ c.in_err-text-in-Some.ensures.bad_name.0 (ap Err is)))

pub returns-in_err-put-in-Some-clause-puts : goal.returns-in_err-put-in-Some-clause-puts
returns-in_err-put-in-Some-clause-puts g c =
    let failed : c.from_residual-in_err-put-in-Some.result ≡ Err (put_fault c.in_err-put-in-Some.field-0.0) = search rules in
    let same : c.as_slice.result.now ≡ c.in-Some.nodes = search rules in
    let bytes : c.as_bytes.result.now ≡ c.in_ok-text-in-Some.text = search rules in
    λ k.
    rw failed
    (page_unput (StateIn k c.args.dom.now) _ _ _ _ _ c.in_err-put-in-Some.field-0.0
    (bytes ∙ c.in_ok-text-in-Some.ensures.page
    ∙ ap page_html (ap forest_of same ∙ some_of _ c.in-Some.nodes _ c.in-Some.is c.in_ok-nodes_of.ensures.nodes k))
    c.in_err-put-in-Some.ensures.writes)

pub returns-in_err-put-in-Some-clause-counted : goal.returns-in_err-put-in-Some-clause-counted
returns-in_err-put-in-Some-clause-counted g c = c.in_err-put-in-Some.ensures.writes.later

pub returns-in_ok-put-in-Some-clause-puts : goal.returns-in_ok-put-in-Some-clause-puts
returns-in_ok-put-in-Some-clause-puts g c =
    let same : c.as_slice.result.now ≡ c.in-Some.nodes = search rules in
    let bytes : c.as_bytes.result.now ≡ c.in_ok-text-in-Some.text = search rules in
    λ k.
    page_put (StateIn k c.args.dom.now) _ _ _ _ _
    (bytes ∙ c.in_ok-text-in-Some.ensures.page
    ∙ ap page_html (ap forest_of same ∙ some_of _ c.in-Some.nodes _ c.in-Some.is c.in_ok-nodes_of.ensures.nodes k))
    c.in_ok-put-in-Some.ensures.writes

pub returns-in_ok-put-in-Some-clause-counted : goal.returns-in_ok-put-in-Some-clause-counted
returns-in_ok-put-in-Some-clause-counted g c = c.in_ok-put-in-Some.ensures.writes.later
