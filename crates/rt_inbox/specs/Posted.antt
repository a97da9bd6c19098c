-- What posters are to post, what they have posted, and what the owner has drained.
use Rattle.std.specs.Prelude.{◌≡◌, ℕ, ◌<◌, ◌≤◌, true, List, [], ◌∷◌, ◌++◌, length, slice_index_or, All, Result, OnOk}
use Rattle.rt_inbox.specs.Ends.{IsNotifierOf, IsOwnerOf, number_of, posts_of, taken_of}
use Rattle.rt_inbox.specs.declared.message.Msg.{Msg}
use Rattle.rt_inbox.specs.declared.notifier.Notifier.{Notifier}
use Rattle.rt_inbox.specs.declared.owner.Owner.{Owner}
use Rattle.rt_values.specs.declared.memory.OutOfMemory.{OutOfMemory}
use Rattle.rt_inbox.specs.declared.inbox.Inbox.{Inbox}
use Rattle.rt_inbox.specs.declared.message.Post.{Post}
use Rattle.rt_inbox.specs.declared.posters.Poster.{Poster}

-- a poster's end
abbrev pub notifier_of : Poster → Notifier
notifier_of poster = poster.notifier

-- a poster's list
abbrev pub list_of : Poster → List Post
list_of poster = poster.posts

-- the end is one of this inbox's own and has posted nothing, and the list has at most a million posts
pub record IsReady (inbox : Inbox) (poster : Poster) : Type 0 where
  pub own : IsNotifierOf inbox poster.notifier
  pub nothing : posts_of poster.notifier ≡ []
  pub few : length poster.posts ≤ 1000000

-- a front of the list was accepted, and the whole of it where the poster says so
pub record HasPosted (inbox : Inbox) (old new : Poster) : Type 0 where
  pub own : IsNotifierOf inbox new.notifier
  pub number : number_of new.notifier ≡ number_of old.notifier
  pub posts : new.posts ≡ old.posts
  pub front : (rest : List Post) × (posts_of new.notifier ++ rest ≡ old.posts)
  pub all : new.accepted ≡ true → posts_of new.notifier ≡ old.posts

-- each of them is ready
abbrev pub AllReady : Inbox → List Poster → Type 0
AllReady inbox posters = All (IsReady inbox) posters

-- each at its place has posted
abbrev pub AllPosted : Inbox → List Poster → List Poster → Type 0
AllPosted inbox old new =
    (length new ≡ length old)
    × ((k : ℕ) (d : Poster) → k < length old → HasPosted inbox (slice_index_or old k d) (slice_index_or new k d))

-- the messages of drains, one after another
abbrev pub joined : List (List Msg) → List Msg
joined [] = []
joined (drain ∷ drains) = drain ++ joined drains

-- drains were added, and what they hold is what the owner took besides
abbrev pub HasDrained : Owner → Owner → List (List Msg) → List (List Msg) → Type 0
HasDrained old new before after =
    (later : List (List Msg)) × (after ≡ before ++ later) × (taken_of new ≡ taken_of old ++ joined later)

-- the same unless memory was wanted, and the owner is this inbox's own in both cases
abbrev pub Drains : Inbox → Owner → Owner → List (List Msg) → List (List Msg) → Result (Unit {0}) OutOfMemory → Type 0
Drains inbox old new before after result = IsOwnerOf inbox new × OnOk result (HasDrained old new before after)
