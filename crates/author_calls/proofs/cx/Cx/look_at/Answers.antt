-- Nothing is the call's own there, so the read was noted.
use Rattle.std.proofs.Common.{rules, None, ◌≡◌, sym, ap, ◌∙◌}
use Rattle.rt_model.specs.Program.{noted, own_context}
use Rattle.rt_model.specs.World.{Context}
use Rattle.run_records.specs.Records.{world_of}
use Rattle.author_calls.specs.Calls.{call_of}
use Rattle.author_calls.proofs.Climbs.{found-call}
use Rattle.author_calls.proofs.cx.Cx.look_at.Goals as goal

pub returns-clause-call : goal.returns-clause-call
returns-clause-call g c =
    let own : own_context (call_of c.args.self.now).provided c.args.kind c.args.scope.0 ≡ None = search rules in
    let moved : call_of c.or_refuse-2.new.self ≡ noted (call_of c.args.self.now) (Context c.args.kind c.args.scope.0) =
    ap call_of c.in_ok-value-2.ensures.ok.1
    ∙ c.in_ok-note.ensures.call
    ∙ ap (λ d. noted d (Context c.args.kind c.args.scope.0)) (ap call_of c.in_ok-value.ensures.ok.1) in
    moved ∙ sym (found-call (world_of c.args.self.now.world) c.args.kind c.args.scope.0 (call_of c.args.self.now) _ _ own)
