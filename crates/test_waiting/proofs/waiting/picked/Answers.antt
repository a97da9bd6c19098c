-- Where the cell doesn't hold 0 a placeholder shows.
use Rattle.std.proofs.Common.{rules, ◌≡◌, Some, None, false, nat_eq, sym}
use Rattle.test_waiting.proofs.Placeholders.{shows_nothing}
use Rattle.test_waiting.proofs.waiting.picked.Goals as goal

pub returns-in_ok-empty-in-Some : goal.returns-in_ok-empty-in-Some
returns-in_ok-empty-in-Some c =
    let held : c.args.value ≡ Some c.in-Some.held = search rules in
    let other : nat_eq c.in-Some.held 0 ≡ false = search rules in
    record { picked = rw (held, other) (sym (shows_nothing c.in_ok-empty-in-Some.field-0 c.in_ok-empty-in-Some.ensures)) }

pub returns-in_ok-empty-in-None : goal.returns-in_ok-empty-in-None
returns-in_ok-empty-in-None c =
    let gone : c.args.value ≡ None = search rules in
    record { picked = rw gone (sym (shows_nothing c.in_ok-empty-in-None.field-0 c.in_ok-empty-in-None.ensures)) }
