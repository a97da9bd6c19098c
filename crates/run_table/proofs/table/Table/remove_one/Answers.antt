use Rattle.std.proofs.Common.{sym, ◌∙◌}
use Rattle.run_table.proofs.Rows.{without-absent}
use Rattle.run_table.proofs.Single.{removed-once}
use Rattle.run_table.proofs.table.Table.remove_one.Goals as goal

pub returns-in-Some : goal.returns-in-Some
returns-in-Some g c =
    record {
      others =
          c.remove_at.ensures.others
          ∙ removed-once c.args.self.now c.args.number c.in-Some.index c.requires.ascending c.in-Some.ensures.within c.in-Some.ensures.own;
    }

pub returns-in-None : goal.returns-in-None
returns-in-None g c = record { others = sym (without-absent c.args.self.now c.args.number c.in-None.ensures.absent) }
