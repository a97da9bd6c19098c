-- What is heard of the climb is what the definitions hear.
use Rattle.std.proofs.Common.{◌∙◌, ap, sym}
use Rattle.std.proofs.lemmas.Result.{IfOk-weaker}
use Rattle.run_shown.specs.Climbs.{climb_found}
use Rattle.run_shown.specs.Hearing.{listeners_of}
use Rattle.run_shown.proofs.HeardBy.{heard_nowhere, heard_absent, heard_there}
use Rattle.run_shown.proofs.hearing.heard.Goals as goal

pub returns-then-element-eq0 : goal.returns-then-element-eq0
returns-then-element-eq0 g c =
    record { heard = λ w shows. ap (λ ls. listeners_of ls) c.new.ensures.empty ∙ heard_nowhere w c.args.event.now c.args.element c.args.bubbles c.if-element-eq0.true }

pub returns-in-Some : goal.returns-in-Some
returns-in-Some g c = record {
  heard =
      IfOk-weaker c.heard_on.result _ _
      (λ listeners on w shows. on ∙
      heard_there c.args.look.now w shows c.args.event.now c.args.element c.args.bubbles c.in-Some.climb c.if-element-eq0.false (ap climb_found (sym c.in-Some.is) ∙ c.in_ok-climb.ensures))
      c.heard_on.ensures;
}

pub returns-in-None : goal.returns-in-None
returns-in-None g c = record {
  heard = λ w shows.
      ap (λ ls. listeners_of ls) c.new-in-None.ensures.empty ∙
      heard_absent c.args.look.now w shows c.args.event.now c.args.element c.args.bubbles c.if-element-eq0.false (ap climb_found (sym c.in-None.is) ∙ c.in_ok-climb.ensures);
}
