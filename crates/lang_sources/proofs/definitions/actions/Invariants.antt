-- What is read so far stands before the rest.
use Rattle.std.proofs.Common.{◌≡◌}
use Rattle.serde_json.specs.View.{members_view}
use Rattle.lang_expressions.specs.Lists.{read_members}
use Rattle.lang_expressions.proofs.Steps.{after}
use Rattle.lang_sources.specs.Definitions.{action_in}
use Rattle.lang_sources.proofs.definitions.actions.Given as goal

abbrev pub invariant-loop-name : goal.invariant-loop-name
invariant-loop-name l = read_members (λ _. action_in l.names) (members_view l.members.entries) ≡ after l.read.items (read_members (λ _. action_in l.names) (members_view l._name-iterator))
