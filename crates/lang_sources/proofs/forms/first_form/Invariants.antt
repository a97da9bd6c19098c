-- The members behind decide.
use Rattle.std.proofs.Common.{◌≡◌}
use Rattle.serde_json.specs.View.{members_view}
use Rattle.lang_sources.specs.Forms.{first_form}
use Rattle.lang_sources.proofs.forms.first_form.Given as goal

abbrev pub invariant-loop-key : goal.invariant-loop-key
invariant-loop-key l = first_form (members_view l.members.entries) ≡ first_form (members_view l.key-iterator)
