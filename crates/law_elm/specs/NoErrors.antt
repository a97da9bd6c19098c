-- Pages in which nothing fails: no scope ever keeps an error.
use Rattle.std.specs.Prelude.{ℕ, List, Some, None, ◌≡◌}
use Rattle.rt_model.specs.Lists.{at}
use Rattle.rt_model.specs.Tree.{Types}
use Rattle.rt_model.specs.State.{Scope, State}
use Rattle.rt_model.specs.Replay.{Entry, Input, Machine, replay_on, start}
use Rattle.author_programs.specs.Cells.{Keeping}
use Rattle.author_programs.specs.Pages.{Pages, meaning_of_pages}
use Rattle.law_elm.specs.Safe.{NoneFails}

-- no live scope keeps an error
abbrev pub NoErrors : {K : Types} → State K → Type 0
NoErrors {K = K} w = (n : ℕ) (x : Scope K) → at w.scopes n ≡ Some x → x.error ≡ None

-- so it is wherever a log leads from the start of a session, until a fault ends the run
abbrev pub PagesKeepNoError : Types → Type 0
PagesKeepNoError K =
    (k : Keeping K.Value) (a : Pages K)
    → NoneFails a
    → (props : K.Props) (inputs : List (Input K)) (v : Machine K) (log : List Entry)
    → replay_on (meaning_of_pages k a) (Some (start (meaning_of_pages k a) props inputs)) log ≡ Some v
    → v.dead ≡ None
    → NoErrors v.state
