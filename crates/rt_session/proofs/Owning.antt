-- The owner's part, and the whole, by their parts.
use Rattle.std.proofs.Common.{◌≡◌, ℕ, List, refl, sym, ap, ◌∙◌, inr}
use Rattle.std.specs.Prelude.{◌⊎◌, Option, Result, Ok, Err}
use Rattle.rt_edits.specs.declared.edit.Edit.{Edit}
use Rattle.rt_inbox.specs.Ends.{IsOwnerOf, taken_of}
use Rattle.rt_inbox.specs.declared.inbox.Inbox.{Inbox}
use Rattle.rt_inbox.specs.declared.message.Msg.{Msg}
use Rattle.rt_inbox.specs.declared.message.Post.{Post}
use Rattle.rt_inbox.specs.declared.owner.Owner.{Owner}
use Rattle.rt_inbox.specs.declared.taken.Taken.{Taken}
use Rattle.run_outside.specs.declared.ended.Ended.{Ended}
use Rattle.rt_model.specs.Lists.{joined}
use Rattle.rt_model.specs.OneLog.{types}
use Rattle.rt_model.specs.World.{Application}
use Rattle.run_reports.specs.declared.limits.Limits.{Limits}
use Rattle.run_reports.specs.declared.report.Report.{Report}
use Rattle.rt_session.specs.Meetings.{Fails, HasTaken, HoldsAs, OwnsAs, Succeeds}
use Rattle.rt_session.specs.Sittings.{IsUnbuilt, IsWanting, TakesIn}
use Rattle.rt_session.specs.declared.sitting.Sitting.{Sitting}

-- the drains are as they were
pub same_taken : (owner : Owner) (old new : List (List Msg)) (ended : Ended) → new ≡ old → taken_of owner ≡ joined old
    → IsWanting ended ⊎ (taken_of owner ≡ joined new)
same_taken owner old new ended same start = inr (start ∙ sym (ap joined same))

module _ {P C Q V H T E L : Type 0} (app : Application (types C Q V H T E L)) (limits : Limits) (inbox : Inbox) (old new : Owner)
    (before : Option (List Edit)) (faults : ℕ) (now : Option (List Edit)) (count : ℕ) (was is : Sitting P C Q V H T E L)
    (result : Result (Unit {0}) Ended) where
  pub owned : IsOwnerOf inbox new
      → ((props : Q) → IsUnbuilt app props was → TakesIn app limits props before faults now count is result)
      → (taken_of old ≡ joined was.drains → HasTaken new is.drains result)
      → OwnsAs app limits inbox old new before faults now count was is result
  unfolding OwnsAs
  owned own takes taken = (own, takes, taken)

  pub owned_own : OwnsAs app limits inbox old new before faults now count was is result → IsOwnerOf inbox new
  unfolding OwnsAs
  owned_own owns = owns.0

  pub owned_takes : OwnsAs app limits inbox old new before faults now count was is result → (props : Q) → IsUnbuilt app props was
      → TakesIn app limits props before faults now count is result
  unfolding OwnsAs
  owned_takes owns = owns.1

  pub owned_taken : OwnsAs app limits inbox old new before faults now count was is result → taken_of old ≡ joined was.drains
      → HasTaken new is.drains result
  unfolding OwnsAs
  owned_taken owns = owns.2

module _ {C Q V H T E L : Type 0} (app : Application (types C Q V H T E L)) (limits : Limits) (props : Q) (posts : List (List Post))
    (before : Option (List Edit)) (faults : ℕ) (now : Option (List Edit)) (count : ℕ) (drains : List (List Msg)) (reports : List Report) where
  pub held_ok : (inbox : Taken) → Succeeds app limits props posts before faults now count drains reports inbox
      → HoldsAs app limits props posts before faults now count drains reports (Ok inbox)
  unfolding HoldsAs
  held_ok inbox done = done

  pub held_err : (ended : Ended) → Fails app limits props posts before faults now count drains reports ended
      → HoldsAs app limits props posts before faults now count drains reports (Err ended)
  unfolding HoldsAs
  held_err ended failed = failed

  pub ok_held : (inbox : Taken) → HoldsAs app limits props posts before faults now count drains reports (Ok inbox)
      → Succeeds app limits props posts before faults now count drains reports inbox
  unfolding HoldsAs
  ok_held inbox holds = holds

  pub err_held : (ended : Ended) → HoldsAs app limits props posts before faults now count drains reports (Err ended)
      → Fails app limits props posts before faults now count drains reports ended
  unfolding HoldsAs
  err_held ended holds = holds
