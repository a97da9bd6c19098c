-- The closure gives a row's number.
use Rattle.std.proofs.Common.{rules}
use Rattle.std.proofs.lemmas.List.Sorted.{answers_always}
use Rattle.rt_sched.proofs.Taken.{searched}
use Rattle.rt_sched.proofs.seating.search.Goals as goal

pub returns : goal.returns
returns c =
    let facts = c.binary_search_by_key.ensures in
    let by_number = facts.position (λ row. row.0) (answers_always _ _ _ (λ f a r g called. search rules)) in
    rw c.ok.ensures.value (searched c.args.rows.now c.requires.rises c.args.number c.binary_search_by_key.result facts.bound by_number)
