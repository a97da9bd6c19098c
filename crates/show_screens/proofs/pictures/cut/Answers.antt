-- Where no more are there, all of them are the first ones.
use Rattle.std.proofs.Common.{rules, ◌≤◌, length, sym}
use Rattle.std.proofs.Math.ListN.{drop_of_length-le}
use Rattle.std.proofs.lemmas.List.{take_all}
use Rattle.show_screens.proofs.pictures.cut.Goals as goal

pub returns-then-count-edits-clause-first : goal.returns-then-count-edits-clause-first
returns-then-count-edits-clause-first c =
    let few : length c.args.edits.now ≤ c.args.count = search rules in
    sym (take_all c.args.count c.args.edits.now few)

pub returns-then-count-edits-clause-behind : goal.returns-then-count-edits-clause-behind
returns-then-count-edits-clause-behind c =
    let few : length c.args.edits.now ≤ c.args.count = search rules in
    sym (drop_of_length-le c.args.edits.now few)
