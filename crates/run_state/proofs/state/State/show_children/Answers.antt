use Rattle.std.proofs.Common.{[], ◌∙◌, ap, refl, map}
use Rattle.std.specs.Prelude.{Some}
use Rattle.rt_model.specs.State as model
use Rattle.rt_model.specs.State.{change}
use Rattle.run_records.specs.Records.{source_of}
use Rattle.run_state.specs.Mirror.{forgets, state_of}
use Rattle.run_state.proofs.Changed.{on_ok}
use Rattle.run_state.proofs.Rereads.{changed_twice}
use Rattle.run_state.proofs.state.State.show_children.Goals as goal

pub returns : goal.returns
returns g c =
    on_ok c.put_reads.result c.put_reads.ensures
    (
    λ read kept.
    read (forgets kept c.args.boundary)
    ∙ ap (λ xs. change (state_of (forgets kept c.args.boundary) c.show.new.self) c.args.boundary (λ x. record x { reads = map source_of xs })) c.new.ensures.empty
    ∙ ap (λ w. change w c.args.boundary (λ x. record x { reads = [] })) (c.in_ok-show.ensures (forgets kept c.args.boundary))
    ∙ changed_twice (state_of (forgets kept c.args.boundary) c.args.self.now) c.args.boundary (λ x. record x { shows = Some model.ChildrenSide }) (λ x. record x { reads = [] })
    (λ x. record x { shows = Some model.ChildrenSide; reads = [] }) (λ x. refl)
    )
