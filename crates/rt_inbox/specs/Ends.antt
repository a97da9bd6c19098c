-- Which ends are an inbox's own, and what a contract sees of them.
use Rattle.std.specs.Prelude.{◌≡◌, ℕ, ◌<◌, List, [], length, slice_index_or}
use Rattle.crossbeam_queue.specs.SegTies.{IsSegPassOf}
use Rattle.rt_inbox.specs.declared.message.Post.{Post}
use Rattle.rt_inbox.specs.declared.message.Msg.{Msg}
use Rattle.rt_inbox.specs.declared.view.View.{View}
use Rattle.rt_inbox.specs.declared.view.View.TheVariants.{Posting, Owning}
use Rattle.rt_inbox.specs.declared.inbox.Inbox.{Inbox}
use Rattle.rt_inbox.specs.declared.notifier.Notifier.{Notifier}
use Rattle.rt_inbox.specs.declared.owner.Owner.{Owner}
use Rattle.rt_inbox.specs.declared.taken.Taken.{Taken}

-- how many posters the inbox has
abbrev pub posters_of : Inbox → ℕ
posters_of i = i.posters

-- a notifier's number among the posters
abbrev pub number_of : Notifier → ℕ
number_of n = n.number

-- the posts of a notifier that were accepted, in order
abbrev pub posts_of : Notifier → List Post
posts_of n = n.accepted.items

-- the messages that the owner took, in order
abbrev pub taken_of : Owner → List Msg
taken_of o = o.taken.items

-- what the owner knows by its pass
abbrev pub view_of : Owner → View
view_of o = o.seat.pass.me.view.client

-- the owner's count of pops that found none, as its pass keeps it
abbrev pub nones_of : Owner → ℕ
nones_of o = o.seat.nones

-- what an ended inbox has: the messages taken
abbrev pub taken_list : Taken → List Msg
taken_list t = t.taken.items

-- the messages left
abbrev pub left_list : Taken → List Msg
left_list t = t.left.items

-- the accepted posts of each poster, by its number
abbrev pub accepted_lists : Taken → List (List Post)
accepted_lists t = t.accepted.items

-- the notifier is one of this inbox's own, and its pass knows its number and its accepted posts
abbrev pub IsNotifierOf : Inbox → Notifier → Type 0
IsNotifierOf i n =
    IsSegPassOf i.line n.pass × (n.pass.me.view.client ≡ Posting (number_of n) (posts_of n))
    × (number_of n < posters_of i)

-- the owner is this inbox's own: its pass knows what it took, that all were made and none joined
abbrev pub IsOwnerOf : Inbox → Owner → Type 0
IsOwnerOf i o =
    IsSegPassOf i.line o.seat.pass × (view_of o ≡ Owning (taken_of o) (posters_of i) [])

-- the fact holds of each item and its index
abbrev pub EachAt : {A : Type 0} → (ℕ → A → Type 0) → List A → Type 0
EachAt {A} fact items =
    (k : ℕ) (default : A) → k < length items → fact k (slice_index_or items k default)

-- the notifier at each index has that number
abbrev pub AreNumbered : List Notifier → Type 0
AreNumbered ns = EachAt (λ k n. number_of n ≡ k) ns

-- the notifier of poster k as it is made, with nothing posted
abbrev pub IsMade : Inbox → ℕ → Notifier → Type 0
IsMade i k n =
    IsSegPassOf i.line n.pass × (n.pass.me.view.client ≡ Posting k [])
    × (number_of n ≡ k) × (posts_of n ≡ [])
