use Rattle.std.proofs.Common.{rules, ◌≡◌, ◌++◌, take, drop, ap, sym, ◌∙◌}
use Rattle.std.specs.List.{insert}
use Rattle.rt_model.specs.Lists.{insert_number}
use Rattle.run_state.specs.Kinds.{stands_at}
use Rattle.run_state.proofs.KindsInPlace.{number_kept, number_put, lower_in, here_in}
use Rattle.run_state.proofs.numbers.insert_number.Goals as goal

pub returns-then-stands_at : goal.returns-then-stands_at
returns-then-stands_at c =
    number_kept c.args.numbers.now.items c.args.number c.place_of-index.result (lower_in c.as_slice.result.now c.args.numbers.now.items c.args.number c.place_of-index.result c.as_slice.ensures.value c.place_of-index.ensures.lower)
    (ap (λ xs. stands_at xs c.place_of-index.result c.args.number) (sym c.as_slice-2.ensures.value) ∙ sym c.stands_at.ensures ∙ c.if-stands_at.true)

pub returns : goal.returns
returns c =
    let made : c.insert.new.self.items ≡ insert c.args.numbers.now.items c.place_of-index.result c.args.number = search rules in
    made
    ∙ number_put c.args.numbers.now.items c.args.number c.place_of-index.result (lower_in c.as_slice.result.now c.args.numbers.now.items c.args.number c.place_of-index.result c.as_slice.ensures.value c.place_of-index.ensures.lower)
    (ap (λ xs. stands_at xs c.place_of-index.result c.args.number) (sym c.as_slice-2.ensures.value) ∙ sym c.stands_at.ensures ∙ c.if-stands_at.false)
    (here_in c.as_slice.result.now c.args.numbers.now.items c.args.number c.place_of-index.result c.as_slice.ensures.value c.place_of-index.ensures.here)
