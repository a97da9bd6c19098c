-- The rule of the queue: what it holds and what each pass knows fit together.
use Rattle.std.specs.Prelude.{◌≡◌, ℕ, ◌+◌, ◌<◌, ◌≤◌, nat_eq, if◌then◌else◌, List, [], ◌∷◌, ◌++◌, length}
use mathlib.Core.Option.{some}
use lib.ListN.{get_elem?}
use Rattle.rt_inbox.specs.declared.message.Post.{Post}
use Rattle.rt_inbox.specs.declared.message.Msg.{Msg}
use Rattle.rt_inbox.specs.declared.view.View.{View}
use Rattle.rt_inbox.specs.declared.view.View.TheVariants.{Posting, Owning, Spent}
use Rattle.rt_inbox.specs.Merge.{of_poster, HasPosted}

-- a poster's number, with its list of accepted posts
abbrev pub Entry : Type 0
Entry = ℕ × List Post

-- the posters whose numbers and lists a view has: a poster itself, or those joined to the owner
abbrev pub entries : View → List Entry
entries (Posting number posts) = (number, posts) ∷ []
entries (Owning taken made joined) = joined
entries Spent = []

-- how often the number stands among the posters
abbrev pub times : ℕ → List Entry → ℕ
times p [] = 0
times p (e ∷ es) = (if nat_eq e.0 p then 1 else 0) + times p es

-- how often the view has the number
abbrev pub has : ℕ → View → ℕ
has p v = times p (entries v)

-- 1 for the owner's view, 0 for others
abbrev pub owners : View → ℕ
owners (Posting number posts) = 0
owners (Owning taken made joined) = 1
owners Spent = 0

-- a count, added up over the views
abbrev pub total : (View → ℕ) → List View → ℕ
total count [] = 0
total count (v ∷ vs) = count v + total count vs

-- the messages are, of each of the posters, its posts, whole and in order
abbrev pub AllPosted : List Msg → List Entry → Type 0
AllPosted messages [] = Unit {0}
AllPosted messages (e ∷ es) = HasPosted messages e.0 e.1 × AllPosted messages es

-- what the owner's view says of the messages taken and of the posters made is so
abbrev pub IsOwned : List Msg → ℕ → View → Type 0
IsOwned taken made (Owning t m joined) = (t ≡ taken) × (m ≡ made)
IsOwned taken made v = Unit {0}

-- The queue holds the items, and the passes have the views. Spent views don't count.
pub record Delivers (items : List Msg) (views : List View) : Type 0 where
  pub taken : List Msg
  -- how many posters were made
  pub made : ℕ
  -- one view is the owner's, and it has the list of what was taken
  pub one_owner : total owners views ≡ 1
  pub owned : (pass : ℕ) (v : View) → get_elem? views pass ≡ some v → IsOwned taken made v
  -- each number below the count of posters stands in the views once, and no other number does
  pub once : (p : ℕ) → p < made → total (has p) views ≡ 1
  pub no_more : (p : ℕ) → made ≤ p → total (has p) views ≡ 0
  -- what was taken and then what the queue holds is a merge of the lists in the views
  pub merged : (pass : ℕ) (v : View) → get_elem? views pass ≡ some v
      → AllPosted (taken ++ items) (entries v)
  pub no_other : (p : ℕ) → made ≤ p → of_poster p (taken ++ items) ≡ []

-- the rule allows that the queue holds the items while a pass has this view
abbrev pub WasAt : List Msg → View → Type 0
WasAt items v =
    (pass : ℕ) × (views : List View) × Delivers items views × (get_elem? views pass ≡ some v)

-- the messages taken, of the owner's view
abbrev pub taken_in : View → List Msg
taken_in (Owning taken made joined) = taken
taken_in v = []

-- how many posters were made, of the owner's view
abbrev pub made_in : View → ℕ
made_in (Owning taken made joined) = made
made_in v = 0

-- it is the owner's view
abbrev pub Owns : View → Type 0
Owns v = v ≡ Owning (taken_in v) (made_in v) (entries v)

-- the number of a poster's view
abbrev pub number_in : View → ℕ
number_in (Posting number posts) = number
number_in v = 0

-- the accepted posts of a poster's view
abbrev pub posts_in : View → List Post
posts_in (Posting number posts) = posts
posts_in v = []

-- it is a poster's view
abbrev pub Posts : View → Type 0
Posts v = v ≡ Posting (number_in v) (posts_in v)

-- the message by which a poster posts this next
abbrev pub message_of : View → Post → Msg
message_of v what = record { poster = number_in v; seq = length (posts_in v); what = what }

-- a poster's view with one post more
abbrev pub with_post : Post → View → View
with_post what (Posting number posts) = Posting number (posts ++ what ∷ [])
with_post what v = v

-- the owner's view with one message more taken
abbrev pub with_taken : Msg → View → View
with_taken m (Owning taken made joined) = Owning (taken ++ m ∷ []) made joined
with_taken m v = v

-- the owner's view with one poster more made
abbrev pub with_poster : View → View
with_poster (Owning taken made joined) = Owning taken (made + 1) joined
with_poster v = v

-- the view of the poster that is made next
abbrev pub next_poster : View → View
next_poster (Owning taken made joined) = Posting made []
next_poster v = Spent

-- the owner's view with a poster's joined to it
abbrev pub with_joined : View → View → View
with_joined (Owning taken made joined) v = Owning taken made (entries v ++ joined)
with_joined w v = w
