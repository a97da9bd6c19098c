-- An inbox with its owner and its posters, before they meet and after.
use Rattle.std.specs.Prelude.{◌≡◌, ◌⊎◌, ℕ, ◌<◌, ◌≤◌, true, List, [], ◌++◌, length, map, slice_index_or, vec_capacity, Option, Some, None, Result, Ok, Err}
use Rattle.std.specs.declared.alloc.Global.{Global}
use Rattle.std.specs.declared.vec.Vec.{Vec}
use Rattle.rt_edits.specs.declared.edit.Edit.{Edit}
use Rattle.rt_inbox.specs.Ends.{IsNotifierOf, IsOwnerOf, accepted_lists, left_list, number_of, posters_of, posts_of, taken_list, taken_of}
use Rattle.rt_inbox.specs.Merge.{IsMerge}
use Rattle.rt_inbox.specs.declared.inbox.Inbox.{Inbox}
use Rattle.rt_inbox.specs.declared.message.Msg.{Msg}
use Rattle.rt_inbox.specs.declared.message.Post.{Post}
use Rattle.rt_inbox.specs.declared.notifier.Notifier.{Notifier}
use Rattle.rt_inbox.specs.declared.owner.Owner.{Owner}
use Rattle.rt_inbox.specs.declared.taken.Taken.{Taken}
use Rattle.run_outside.specs.Ends.{Ends, fault_in}
use Rattle.run_outside.specs.Sessions.{BrokeOff, Finished, FinishedAt}
use Rattle.run_outside.specs.Short.{PartBy}
use Rattle.run_outside.specs.declared.ended.Ended.{Ended}
use Rattle.rt_model.specs.Lists.{joined}
use Rattle.rt_model.specs.Merge.{AreSized, HasFronts, ValidOverCuts, drained}
use Rattle.rt_model.specs.OneLog.{types}
use Rattle.rt_model.specs.State as model
use Rattle.rt_model.specs.World.{Application}
use Rattle.rt_inbox.specs.Posted.{AllPosted, AllReady}
use Rattle.rt_inbox.specs.declared.posters.Poster.{Poster}
use Rattle.run_reports.specs.Counted.{edits_in}
use Rattle.run_reports.specs.Seen.{limits_of, report_of}
use Rattle.run_reports.specs.declared.limits.Limits.{Limits}
use Rattle.run_reports.specs.declared.report.Report.{Report}
use Rattle.rt_session.specs.Posted.{TookAll, drains_of, lists_of}
use Rattle.rt_session.specs.Sittings.{Awaits, IsUnbuilt, IsWanting, TakesIn}
use Rattle.rt_session.specs.declared.sitting.Sitting.{Sitting}

-- the poster at each place has that number, and is to post the list of that place
pub record AreFor (inbox : Inbox) (posts : List (List Post)) (posters : List Poster) : Type 0 where
  pub count : posters_of inbox ≡ length posts
  pub each : length posters ≡ length posts
  pub ready : AllReady inbox posters
  pub numbered :
      (k : ℕ) (d : Poster) → k < length posters
      → (number_of (slice_index_or posters k d).notifier ≡ k) × ((slice_index_or posters k d).posts ≡ slice_index_or posts k [])

-- the poster at each place has posted the list of that place, if all of it was accepted
pub record HavePosted (inbox : Inbox) (posts : List (List Post)) (posters : List Poster) : Type 0 where
  pub count : posters_of inbox ≡ length posts
  pub each : length posters ≡ length posts
  pub own : (k : ℕ) (d : Poster) → k < length posters → IsNotifierOf inbox (slice_index_or posters k d).notifier
  pub numbered : (k : ℕ) (d : Poster) → k < length posters → number_of (slice_index_or posters k d).notifier ≡ k
  pub posted :
      (k : ℕ) (d : Poster) → k < length posters → (slice_index_or posters k d).accepted ≡ true
      → posts_of (slice_index_or posters k d).notifier ≡ slice_index_or posts k []

-- an inbox with its owner, a poster for each list, and room for their ends
pub record Convened (posts : List (List Post)) (inbox : Inbox) (owner : Owner) (posters : Vec Poster Global) (room : Vec Notifier Global) :
    Type 0 where
  pub own : IsOwnerOf inbox owner
  pub untouched : taken_of owner ≡ []
  pub made : AreFor inbox posts posters.items
  pub empty : room.items ≡ []
  pub spare : length posts ≤ vec_capacity room

-- the owner took what the drains hold, unless memory was wanting
abbrev pub HasTaken : {X : Type 0} → Owner → List (List Msg) → Result X Ended → Type 0
HasTaken owner drains (Ok u) = taken_of owner ≡ joined drains
HasTaken owner drains (Err ended) = IsWanting ended ⊎ (taken_of owner ≡ joined drains)

-- every post was accepted, and the messages taken and left are a merge of the posts
pub record AllTaken (posts : List (List Post)) (owner : Owner) (inbox : Taken) : Type 0 where
  pub taken : taken_list inbox ≡ taken_of owner
  pub merged : IsMerge (taken_list inbox ++ left_list inbox) posts
  pub accepted : accepted_lists inbox ≡ posts

module _ {P C Q V H T E L : Type 0} (app : Application (types C Q V H T E L)) (limits : Limits) (inbox : Inbox) (old new : Owner)
    (before : Option (List Edit)) (faults : ℕ) (now : Option (List Edit)) (count : ℕ) where
  -- the owner's part is done: whatever was built goes on or ended early, and the drains hold what the owner took
  unfoldable pub OwnsAs : (was is : Sitting P C Q V H T E L) → Result (Unit {0}) Ended → Type 0
  OwnsAs was is result =
      IsOwnerOf inbox new
      × ((props : Q) → IsUnbuilt app props was → TakesIn app limits props before faults now count is result)
      × (taken_of old ≡ joined was.drains → HasTaken new is.drains result)

module _ {C Q V H T E L : Type 0} (app : Application (types C Q V H T E L)) (limits : Limits) (props : Q) (posts : List (List Post))
    (before : Option (List Edit)) (faults : ℕ) (now : Option (List Edit)) (count : ℕ) (drains : List (List Msg)) (reports : List Report) where
  -- it ended early over these drains
  pub record Fails (ended : Ended) : Type 0 where
    pub cause : Ends limits (edits_in reports) before now faults count ended
    pub sized : AreSized limits.drain (drains_of drains)
    pub fronts : IsWanting ended ⊎ HasFronts (drains_of drains) (lists_of posts)
    -- at a fault of the definitions, which doesn't come where no cut of the posts leads to one
    pub came :
        (fault : model.Fault) → fault_in ended ≡ Some fault
        → FinishedAt app props (drained (drains_of drains)) (limits_of limits) before now (map report_of reports) fault
    pub valid : ValidOverCuts app props (lists_of posts) (limits_of limits) → fault_in ended ≡ None
    -- or it broke off, or want of memory is told for such a fault
    pub broke :
        fault_in ended ≡ None
        → BrokeOff app props (drained (drains_of drains)) (limits_of limits) before now (map report_of reports) (PartBy ended)
        ⊎ (IsWanting ended × (fault : model.Fault)
        × FinishedAt app props (drained (drains_of drains)) (limits_of limits) before now (map report_of reports) fault)

  -- it finished, and all was taken
  pub record Succeeds (inbox : Taken) : Type 0 where
    pub finished : Finished app props (drained (drains_of drains)) (limits_of limits) before now (map report_of reports)
    pub counted : faults ≤ count
    pub taken : TookAll posts limits.drain drains inbox

  -- by what is answered
  unfoldable pub HoldsAs : Result Taken Ended → Type 0
  HoldsAs (Ok inbox) = Succeeds inbox
  HoldsAs (Err ended) = Fails ended

module _ {P C Q V H T E L : Type 0} (app : Application (types C Q V H T E L)) (limits : Limits) (props : Q) (posts : List (List Post))
    (before : Option (List Edit)) (faults : ℕ) (now : Option (List Edit)) (count : ℕ) where
  -- the inbox has ended, all was posted, and the session goes on: what was left is still to be taken in
  pub record Meets (s : Sitting P C Q V H T E L) (inbox : Taken) : Type 0 where
    pub awaits : Awaits app limits props before faults now count s
    pub taken : taken_list inbox ≡ joined s.drains
    pub merged : IsMerge (taken_list inbox ++ left_list inbox) posts
    pub accepted : accepted_lists inbox ≡ posts

  -- by what is answered
  abbrev pub MeetsAs : Sitting P C Q V H T E L → Result Taken Ended → Type 0
  MeetsAs s (Ok inbox) = Meets s inbox
  MeetsAs s (Err ended) = Fails app limits props posts before faults now count s.drains s.reports ended
