-- The first pair of the height has the next one.
use Rattle.std.proofs.Common.{◌∙◌, sym, ap, nat_eq}
use Rattle.std.proofs.lemmas.Bool.{ne_eqb}
use Rattle.rt_model.proofs.Maps.{eq_same}
use Rattle.run_state.proofs.MetRanks.{met_first, met_none, met_end}
use Rattle.run_state.proofs.ranks.RankNumbers.next.Goals as goal
use Rattle.run_state.proofs.ranks.RankNumbers.next.Goals.{then-height-pair, else-height-pair}

pub returns-in_err-pair : goal.returns-in_err-pair
returns-in_err-pair c =
    record { next = rw (c.from_residual.ensures, ← c.self.view_is) (met_end c.self.inside.height c.self.inside.pairs c.in_err-pair.ensures.steps.0) }

pub returns : goal.returns
returns c = record {
  next = elim c.if-height-pair.branch [
    | then-height-pair w ↦ rw (w.result-is, ← c.self.view_is)
        (met_first c.self.inside.height c.self.inside.pairs c.next.new.self c.in_ok-pair.pair.now c.in_ok-pair.ensures.steps
        (ap (λ n. nat_eq c.self.inside.height n) (sym w.if-height-pair.true) ∙ eq_same c.self.inside.height))
    | else-height-pair w ↦ rw (w.result-is, ← c.self.view_is)
        (met_none c.self.inside.height c.self.inside.pairs c.next.new.self c.in_ok-pair.pair.now c.in_ok-pair.ensures.steps
        (ne_eqb c.self.inside.height c.in_ok-pair.pair.now.0 w.if-height-pair.false))
  ];
}
