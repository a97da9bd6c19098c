-- By what the mark is.
use Rattle.std.proofs.Common.{◌∙◌, ap, sym}
use Rattle.std.proofs.lemmas.Result.{IfOk-weaker}
use Rattle.run_met.specs.Mets.{mark_of}
use Rattle.run_shown.specs.Unknowns.{first_in, last_in}
use Rattle.rt_tree.specs.Asks.{asked_at}
use Rattle.rt_tree.proofs.Asking.{in_asks, out_asks}
use Rattle.rt_tree.proofs.patch.Patch.unknown_at.Goals as goal

pub returns-in-SlotGoes : goal.returns-in-SlotGoes
returns-in-SlotGoes g c =
    IfOk-weaker c.slot_unknown.result _ _ (λ unknown h. h ∙ ap (λ m. asked_at c.args.self.now (mark_of m)) (sym c.in-SlotGoes.is)) c.slot_unknown.ensures

pub returns-in-TreeGoes : goal.returns-in-TreeGoes
returns-in-TreeGoes g c =
    IfOk-weaker c.tree_unknown.result _ _ (λ unknown h. h ∙ ap (λ m. asked_at c.args.self.now (mark_of m)) (sym c.in-TreeGoes.is)) c.tree_unknown.ensures

pub returns-in-SlotWay : goal.returns-in-SlotWay
returns-in-SlotWay g c =
    IfOk-weaker c.slot_unknown-in-SlotWay.result _ _ (λ unknown h. h ∙ ap (λ m. asked_at c.args.self.now (mark_of m)) (sym c.in-SlotWay.is))
    c.slot_unknown-in-SlotWay.ensures

pub returns-in-TreeWay : goal.returns-in-TreeWay
returns-in-TreeWay g c =
    IfOk-weaker c.tree_unknown-in-TreeWay.result _ _ (λ unknown h. h ∙ ap (λ m. asked_at c.args.self.now (mark_of m)) (sym c.in-TreeWay.is))
    c.tree_unknown-in-TreeWay.ensures

pub returns-in_ok-front-in-ComeIn : goal.returns-in_ok-front-in-ComeIn
returns-in_ok-front-in-ComeIn g c =
    let p = c.args.self.now in
    let n = c.in-ComeIn in
    c.last_unknown.ensures
    ∙ ap (λ ts. last_in p.given ts) c.as_slice.ensures.items
    ∙ in_asks p c.args.met.now n.place n.trees n.first c.in_ok-front-in-ComeIn.front n.is c.in_ok-front-in-ComeIn.ensures

pub returns-in_ok-tops-in-GoOut : goal.returns-in_ok-tops-in-GoOut
returns-in_ok-tops-in-GoOut g c =
    let p = c.args.self.now in
    let n = c.in-GoOut in
    c.first_unknown.ensures
    ∙ ap (λ ts. first_in p.given ts) c.as_slice-in-GoOut.ensures.items
    ∙ out_asks p c.args.met.now n.place n.trees n.first c.in_ok-tops-in-GoOut.tops n.is c.in_ok-tops-in-GoOut.ensures
