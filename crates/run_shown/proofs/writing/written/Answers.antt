-- Without a way nothing is refused.
use Rattle.std.proofs.Common.{ap, subst, sym, ◌∙◌}
use Rattle.std.specs.Prelude.{IfSome}
use Rattle.std.proofs.lemmas.Result.{IfOk-weaker}
use Rattle.rt_model.specs.Lists.{at}
use Rattle.run_shown.specs.Look.{seen_in}
use Rattle.run_shown.specs.Touched.{Covers}
use Rattle.run_shown.proofs.Claimed.{caused_is, touched_is}
use Rattle.run_shown.proofs.writing.written.Goals as goal

pub returns-in-Some : goal.returns-in-Some
returns-in-Some g c = record {
  written = IfOk-weaker c.edits_of.result _ _
      (
      λ edits is.
      touched_is edits (c.args.rows.now).table c.args.stood.now c.args.lived c.before-before.result c.now-after.result (record { ref_ptr = (0, 0); now = _ }) c.args.scope c.before-before.ensures.shows c.now-after.ensures.shows
      (subst (λ o. IfSome o (λ scopes. Covers scopes c.args.stood.now c.now-after.result)) c.in-Some.is c.in_ok-found.ensures) is
      )
      c.edits_of.ensures;
}

pub returns-in-None : goal.returns-in-None
returns-in-None g c = record {
  written = IfOk-weaker c.edits_of-in-None.result _ _
      (λ edits is. caused_is edits (c.args.rows.now).table c.args.stood.now c.args.lived c.before-before.result c.now-after.result c.args.scope c.before-before.ensures.shows c.now-after.ensures.shows is)
      c.edits_of-in-None.ensures;
}

pub edits_of-requires : goal.edits_of-requires
edits_of-requires g c = record {
  alike = λ s none.
      c.now-after.ensures.each s
      ∙ sym (c.before-before.ensures.each s ∙ ap (λ o. seen_in o (at (c.args.rows.now).table s)) (sym (ap (λ xs. at xs s) c.before-before.ensures.stood) ∙ none));
}

pub edits_of-requires-in-None : goal.edits_of-requires-in-None
edits_of-requires-in-None g c = record {
  alike = λ s none.
      c.now-after.ensures.each s
      ∙ sym (c.before-before.ensures.each s ∙ ap (λ o. seen_in o (at (c.args.rows.now).table s)) (sym (ap (λ xs. at xs s) c.before-before.ensures.stood) ∙ none));
}
