-- What is read so far stands before the rest.
use Rattle.std.proofs.Common.{◌≡◌}
use Rattle.serde_json.specs.View.{members_view}
use Rattle.lang_expressions.specs.Lists.{read_members}
use Rattle.lang_expressions.proofs.Steps.{after}
use Rattle.lang_expressions.specs.Attributes.{attribute_in}
use Rattle.lang_expressions.proofs.attributes.attributes.Given as goal

abbrev pub invariant-loop-name : goal.invariant-loop-name
invariant-loop-name l =
    read_members (attribute_in l.names l.variables) (members_view l.members.entries) ≡ after l.read.items (read_members (attribute_in l.names l.variables) (members_view l.name-iterator))
