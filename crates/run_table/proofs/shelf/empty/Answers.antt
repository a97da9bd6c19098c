use Rattle.std.proofs.Common.{rules, not, nat_eq, ap, ◌∙◌}
use Rattle.std.proofs.lemmas.Fn.{filter_same}
use Rattle.run_table.specs.Stands.{live}
use Rattle.run_table.proofs.Lives.{rises-filter, live-others}
use Rattle.run_table.proofs.shelf.empty.Goals as goal

pub empty_one-requires : goal.empty_one-requires
empty_one-requires g c = record { rises = c.requires.rises c.if-rising.true }

pub returns-then-rising-clause-rises : goal.returns-then-rising-clause-rises
returns-then-rising-clause-rises g c = λ _. c.empty_one.ensures.rises

pub returns-clause-rises : goal.returns-clause-rises
returns-clause-rises g c =
    λ rising.
    rw (filter_same _ (λ row. not (nat_eq row.0 c.args.number)) _ (λ x b f call. search rules) c.args.rows.now.items c.retain.new.self.items c.retain.ensures.filtered)
    (rises-filter (λ row. not (nat_eq row.0 c.args.number)) c.args.rows.now.items 0 (c.requires.rises rising))

pub returns-clause-others : goal.returns-clause-others
returns-clause-others g c =
    ap live (filter_same _ (λ row. not (nat_eq row.0 c.args.number)) _ (λ x b f call. search rules) c.args.rows.now.items c.retain.new.self.items c.retain.ensures.filtered)
    ∙ live-others c.args.rows.now.items c.args.number
