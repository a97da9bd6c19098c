use Rattle.std.proofs.Common.{ap, refl, sym, ◌∙◌}
use Rattle.serde_json.specs.View.{view}
use Rattle.show_logs.specs.Recorded.{without_log}
use Rattle.show_logs.proofs.Runs.{object_left}
use Rattle.show_logs.proofs.reading.without_log.Goals as goal

pub returns-in-Object : goal.returns-in-Object
returns-in-Object c = record {
  rest =
      object_left c.in-Object.members c.remove.new.self _ c.remove.ensures.entries (λ l. refl)
      ∙ sym (ap (λ v. without_log (view v)) c.in-Object.is);
}
