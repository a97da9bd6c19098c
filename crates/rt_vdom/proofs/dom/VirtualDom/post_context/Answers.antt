-- What a reactive context targets is posted.
use Rattle.std.proofs.Common.{Some, None, ◌∷◌, [], refl, sym, ap, ◌∙◌}
use Rattle.std.specs.Prelude.{option_map}
use Rattle.run_records.specs.Records.{target_of}
use Rattle.rt_model.specs.Asides.{Asked}
use Rattle.rt_model.specs.Lists.{at}
use Rattle.rt_model.proofs.Members.{clash}
use Rattle.rt_vdom.specs.Calls.{context_posted}
use Rattle.rt_vdom.specs.Doms.{StateIn}
use Rattle.rt_vdom.proofs.Standing.{stands_on, stands_still, context_there, context_gone, context_live, context_dead, asked_target, target_asked, target_draws}
use Rattle.rt_vdom.proofs.dom.VirtualDom.post_context.Goals as goal

pub returns-in-Ok-clause-posted : goal.returns-in-Ok-clause-posted
returns-in-Ok-clause-posted g c =
    λ props whole w s.
    let d = c.args.self.now in
    let app = g.A.App.meaning d.app in
    let t = target_of c.in-Some.target in
    let same =
    context_there w c.args.context t (ap (option_map target_of) (sym c.in-Some.is) ∙ c.context_target.ensures s.kept ∙ ap (λ x. option_map (λ y. y.target) (at x.contexts c.args.context)) s.is)
    ∙ target_asked app w t in
    stands_on (λ app. g.A.App.meaning app) (Asked 0 w.next (asked_target app t ∷ [])) (λ x. context_posted x c.args.context) d c.post_target.new.self
    props whole w (c.leads.ensures props whole) tt (g.met.A.App.lawful d.app) (target_draws app w.next t) same
    (λ kept. c.in-Ok.ensures.posted kept ∙ sym (context_there (StateIn kept d) c.args.context t (ap (option_map target_of) (sym c.in-Some.is) ∙ c.context_target.ensures kept))) s

pub returns-in-None-clause-posted : goal.returns-in-None-clause-posted
returns-in-None-clause-posted g c =
    λ props whole w s.
    let d = c.args.self.now in
    let gone =
    ap (option_map target_of) (sym c.in-None.is)
    ∙ c.context_target.ensures s.kept
    ∙ ap (λ x. option_map (λ y. y.target) (at x.contexts c.args.context)) s.is in
    stands_still (λ app. g.A.App.meaning app) d props whole w (context_posted w c.args.context) (context_gone w c.args.context gone) s

pub returns-in-Err-clause-refused : goal.returns-in-Err-clause-refused
returns-in-Err-clause-refused g c = clash c.in-Err.ensures.ok refl

pub returns-in-Ok-clause-live : goal.returns-in-Ok-clause-live
returns-in-Ok-clause-live g c = λ kept.
    context_live (StateIn kept c.args.self.now) c.args.context (target_of c.in-Some.target)
    (ap (option_map target_of) (sym c.in-Some.is) ∙ c.context_target.ensures kept)

pub returns-in-None-clause-live : goal.returns-in-None-clause-live
returns-in-None-clause-live g c = λ kept.
    context_dead (StateIn kept c.args.self.now) c.args.context (ap (option_map target_of) (sym c.in-None.is) ∙ c.context_target.ensures kept)
