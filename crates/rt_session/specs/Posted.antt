-- What a posted session takes and tells.
use Rattle.std.specs.Prelude.{◌≡◌, ◌≢◌, ◌⊎◌, ℕ, List, ◌++◌, map, Option}
use Rattle.rt_edits.specs.declared.edit.Edit.{Edit}
use Rattle.rt_inbox.specs.Ends.{accepted_lists, left_list, taken_list}
use Rattle.rt_inbox.specs.declared.message.Msg.{Msg}
use Rattle.rt_inbox.specs.declared.message.Post.{Post}
use Rattle.rt_inbox.specs.declared.taken.Taken.{Taken}
use Rattle.run_outside.specs.Sessions.{Broken, CameAt}
use Rattle.run_outside.specs.Short.{PartOf}
use Rattle.rt_model.specs.Causes as causes
use Rattle.rt_model.specs.Lists.{joined}
use Rattle.rt_model.specs.Merge.{AreSized, HasFronts, IsCut}
use Rattle.rt_model.specs.Replay as replay
use Rattle.rt_model.specs.Reports.{Report}
use Rattle.rt_model.specs.State as model
use Rattle.rt_model.specs.Tree.{Types}
use Rattle.rt_model.specs.World.{Application}
use Rattle.run_reports.specs.Seen.{message_of, post_of}
use Rattle.run_reports.specs.declared.fault.Fault.{Fault}
use Rattle.run_reports.specs.declared.fault.Fault.TheVariants as faults

-- drains as those of the definitions
abbrev pub drains_of : List (List Msg) → List (List replay.Message)
drains_of drains = map (map message_of) drains

-- lists of posts as those of the definitions
abbrev pub lists_of : List (List Post) → List (List replay.Post)
lists_of posts = map (map post_of) posts

-- all posts were accepted and taken: the drains are a cut of a merge of the posts, and hold what the inbox had taken and then what was left
pub record TookAll (posts : List (List Post)) (most : ℕ) (drains : List (List Msg)) (inbox : Taken) : Type 0 where
  pub cut : IsCut (lists_of posts) most (drains_of drains)
  pub messages : taken_list inbox ++ left_list inbox ≡ joined drains
  pub accepted : accepted_lists inbox ≡ posts

-- no drain is empty or too long, and unless memory was wanting they hold of each poster a front of its posts, in order
pub record TookFronts (posts : List (List Post)) (most : ℕ) (drains : List (List Msg)) (fault : Fault) : Type 0 where
  pub sized : AreSized most (drains_of drains)
  pub fronts : fault ≢ faults.OutOfMemory → HasFronts (drains_of drains) (lists_of posts)

module _ {K : Types} (app : Application K) (props : K.Props) (inputs : List (replay.Input K)) (limits : causes.Limits)
    (before after : Option (List Edit)) (reports : List Report) where
  -- memory was wanting, or the sink failed: the session broke off, or it came to a fault for which want of memory is told, since a post was
  -- refused or the inbox could not be ended
  abbrev pub BreaksOff : Fault → Type 0
  BreaksOff fault =
      Broken app props inputs limits before after reports (PartOf fault)
      ⊎ ((fault ≡ faults.OutOfMemory) × (cause : model.Fault) × CameAt app props inputs limits before after reports cause)
