-- A row that has the number is the first that has it, where numbers rise.
use Rattle.std.proofs.Common.{◌≡◌, ◌<◌, ◌∙◌, length, get_or, ap, arith}
use Rattle.std.proofs.lemmas.List.{get_or_default}
use Rattle.std.proofs.lemmas.Bool.Decides.{nat_tests}
use Rattle.run_table.proofs.Search.{first-own}
use Rattle.run_table.proofs.table.stands_at.Goals as goal

pub returns-then-index-rows-clause-first : goal.returns-then-index-rows-clause-first
returns-then-index-rows-clause-first g c =
    λ same.
    let rows = c.args.rows.now in
    let i = c.args.index in
    let within : i < length rows = grind (arith, nat_tests, c.if-index-rows.true) in
    let read : (get_or rows i c.index-rows-index.result).0 ≡ c.args.number = grind (arith, nat_tests, same) in
    first-own rows c.requires.ascending c.args.number i within
    (λ row. ap (λ p. p.0) (get_or_default rows i row c.index-rows-index.result within) ∙ read)
