use Rattle.std.proofs.Common.{map, refl, ap, ◌∙◌}
use Rattle.rt_model.specs.Asides.{Asked}
use Rattle.rt_model.specs.Replay.{post_messages}
use Rattle.run_reports.specs.Seen.{message_of}
use Rattle.rt_vdom.specs.Doms.{StateIn}
use Rattle.rt_vdom.specs.Handles.{taken_in}
use Rattle.rt_vdom.proofs.Standing.{stands_on, all_asked, draws_none, messages_asked}
use Rattle.rt_vdom.proofs.dom.VirtualDom.take_messages.Goals as goal

pub returns-in-Ok-clause-taken : goal.returns-in-Ok-clause-taken
returns-in-Ok-clause-taken g c = λ props whole w s.
    let d = c.args.self.now in
    let ms = map message_of (c.args.drained.now).messages in
    stands_on (λ app. g.A.App.meaning app) (Asked 0 w.next (all_asked w.scopes ms)) (λ x. taken_in x c.args.drained.now) d c.post_messages.new.state props whole w
    (c.leads.ensures props whole) tt (g.met.A.App.lawful d.app) (draws_none (g.A.App.meaning d.app) w.scopes ms w.next)
    (messages_asked (g.A.App.meaning d.app) ms w)
    (λ h. c.in-Ok.ensures h ∙ ap (λ xs. post_messages (StateIn h d) (map message_of xs)) c.as_slice.ensures.items) s
