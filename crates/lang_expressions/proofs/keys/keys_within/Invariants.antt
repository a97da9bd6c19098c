-- The members behind decide.
use Rattle.std.proofs.Common.{◌≡◌, map}
use Rattle.serde_json.specs.View.{members_view}
use Rattle.lang_expressions.specs.Keys.{keys_within}
use Rattle.lang_expressions.proofs.keys.keys_within.Given as goal

abbrev pub invariant-loop-key : goal.invariant-loop-key
invariant-loop-key l =
    keys_within (map (λ key. key.now) l.known) (members_view l.members.entries) ≡ keys_within (map (λ key. key.now) l.known) (members_view l.key-iterator)
