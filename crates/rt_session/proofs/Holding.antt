-- What stands behind the drains where a posted session ends.
use Rattle.std.proofs.Common.{◌≡◌, ℕ, ◌≤◌, List, [], ◌++◌, sym, ap, ◌∙◌, subst, inl, inr}
use Rattle.std.specs.Prelude.{◌⊎◌, Option, Result, Ok, Err}
use Rattle.rt_edits.specs.declared.edit.Edit.{Edit}
use Rattle.rt_inbox.specs.Ends.{accepted_lists, left_list, taken_list, taken_of}
use Rattle.rt_inbox.specs.Merge.{IsMerge}
use Rattle.rt_inbox.specs.declared.message.Msg.{Msg}
use Rattle.rt_inbox.specs.declared.message.Post.{Post}
use Rattle.rt_inbox.specs.declared.owner.Owner.{Owner}
use Rattle.rt_inbox.specs.declared.taken.Taken.{Taken}
use Rattle.run_outside.specs.declared.ended.Ended.{Ended}
use Rattle.rt_model.specs.Lists.{joined}
use Rattle.rt_model.specs.OneLog.{types}
use Rattle.rt_model.specs.World.{Application}
use Rattle.run_reports.specs.declared.limits.Limits.{Limits}
use Rattle.rt_session.specs.Meetings.{AllTaken, Fails, Meets, Succeeds}
use Rattle.rt_session.specs.Sittings.{Awaits, Ceases, IsWanting, KeepsAll}
use Rattle.rt_session.specs.declared.sitting.Sitting.{Sitting}
use Rattle.rt_session.proofs.Failing.{IsLeft, failed, succeeded}

-- where the drains hold what the owner took, what was left makes them a merge
pub merge_drained : (posts : List (List Post)) (owner : Owner) (inbox : Taken) (drains : List (List Msg)) → AllTaken posts owner inbox
    → taken_of owner ≡ joined drains → IsMerge (joined drains ++ left_list inbox) posts
merge_drained posts owner inbox drains all same = subst (λ ms. IsMerge (ms ++ left_list inbox) posts) (all.taken ∙ same) all.merged

-- the owner's part ended early
pub left_at_end : (posts : List (List Post)) (owner : Owner) (inbox : Taken) (drains : List (List Msg)) (ended : Ended) → AllTaken posts owner inbox
    → IsWanting ended ⊎ (taken_of owner ≡ joined drains) → IsWanting ended ⊎ IsLeft posts drains
left_at_end posts owner inbox drains ended all (inl memory) = inl memory
left_at_end posts owner inbox drains ended all (inr same) = inr (left_list inbox, merge_drained posts owner inbox drains all same)

-- what was left was taken in up to some message
pub left_after : (posts : List (List Post)) (inbox : Taken) (left : List Msg) (old new : List (List Msg)) (ended : Ended)
    → IsMerge (taken_list inbox ++ left_list inbox) posts → taken_list inbox ≡ joined old → left ≡ left_list inbox
    → KeepsAll old new left (Err ended) → IsWanting ended ⊎ IsLeft posts new
left_after posts inbox left old new ended merge same is (inl memory) = inl memory
left_after posts inbox left old new ended merge same is (inr kept) =
    inr (kept.0, subst (λ (ms : List Msg). IsMerge ms posts) (ap (λ (ms : List Msg). ms ++ left_list inbox) same ∙ ap (λ (ms : List Msg). joined old ++ ms) (sym is) ∙ sym kept.1) merge)

-- all of it was taken in
pub all_messages : (inbox : Taken) (left : List Msg) (old new : List (List Msg)) → taken_list inbox ≡ joined old → left ≡ left_list inbox
    → joined new ≡ joined old ++ left → taken_list inbox ++ left_list inbox ≡ joined new
all_messages inbox left old new same is kept =
    ap (λ (ms : List Msg). ms ++ left_list inbox) same ∙ ap (λ (ms : List Msg). joined old ++ ms) (sym is) ∙ sym kept

pub merge_all : (posts : List (List Post)) (inbox : Taken) (left : List Msg) (old new : List (List Msg))
    → IsMerge (taken_list inbox ++ left_list inbox) posts → taken_list inbox ≡ joined old → left ≡ left_list inbox
    → joined new ≡ joined old ++ left → IsMerge (joined new) posts
merge_all posts inbox left old new merge same is kept =
    subst (λ (ms : List Msg). IsMerge ms posts) (all_messages inbox left old new same is kept) merge

-- at first nothing was taken
pub nothing_yet : (owner : Owner) (drains : List (List Msg)) → taken_of owner ≡ [] → drains ≡ [] → taken_of owner ≡ joined drains
nothing_yet owner drains untouched none = untouched ∙ sym (ap joined none)

module _ {P C Q V H T E L : Type 0} (app : Application (types C Q V H T E L)) (limits : Limits) (props : Q) (posts : List (List Post))
    (before : Option (List Edit)) (faults : ℕ) (now : Option (List Edit)) (count : ℕ) where
  -- the owner's part goes on, and all was accepted
  pub met : (s : Sitting P C Q V H T E L) (owner : Owner) (inbox : Taken) → AllTaken posts owner inbox → taken_of owner ≡ joined s.drains
      → Awaits app limits props before faults now count s → Meets app limits props posts before faults now count s inbox
  met s owner inbox all same awaits =
      record { awaits = awaits; taken = all.taken ∙ same; merged = all.merged; accepted = all.accepted }

  -- what was left was taken in up to some message
  pub left_failed : (then : Option (List Edit)) (later : ℕ) (old new : Sitting P C Q V H T E L) (inbox : Taken) (left : List Msg) (ended : Ended)
      → Meets app limits props posts before faults now count old inbox → left ≡ left_list inbox → 1 ≤ limits.drain
      → Ceases app limits props before faults then later new ended → KeepsAll old.drains new.drains left (Err ended)
      → Fails app limits props posts before faults then later new.drains new.reports ended
  left_failed then later old new inbox left ended meets is some ceased kept =
      failed app limits props posts before faults then later new ended ceased
      (left_after posts inbox left old.drains new.drains ended meets.merged meets.taken is kept) some

  -- all of it was taken in
  pub left_succeeded : (then : Option (List Edit)) (later : ℕ) (old new : Sitting P C Q V H T E L) (inbox : Taken) (left : List Msg)
      → Meets app limits props posts before faults now count old inbox → left ≡ left_list inbox
      → Awaits app limits props before faults then later new → joined new.drains ≡ joined old.drains ++ left
      → Succeeds app limits props posts before faults then later new.drains new.reports inbox
  left_succeeded then later old new inbox left meets is awaits kept =
      succeeded app limits props posts before faults then later new inbox awaits
      (merge_all posts inbox left old.drains new.drains meets.merged meets.taken is kept)
      (all_messages inbox left old.drains new.drains meets.taken is kept) meets.accepted
