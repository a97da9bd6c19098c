-- What a look does.
use Rattle.std.specs.Prelude.{ℕ, true, [], ◌≡◌, is_some}
use Rattle.rt_model.specs.Lists.{at, has}
use Rattle.rt_model.specs.Tree.{Types}
use Rattle.rt_model.specs.State.{State, is_live}
use Rattle.rt_model.specs.Next.{look}
use Rattle.law_behavior.specs.Owed.{IsMarked, IsWoken}

-- after a look nothing is posted: each live scope that was marked is seen, each task that was woken and hasn't ended is queued
pub record TakesAll {K : Types} (w : State K) : Type 0 where
  pub unposted : (look w).posted ≡ []
  pub seen : (s : ℕ) → is_live w s ≡ true → IsMarked w s → has (look w).seen s ≡ true
  pub queued : (t : ℕ) → is_some (at w.tasks t) ≡ true → IsWoken w t → has (look w).queued t ≡ true

-- a look takes all that is posted
abbrev pub LooksTakeAll : Types → Type 0
LooksTakeAll K = (w : State K) → TakesAll w
