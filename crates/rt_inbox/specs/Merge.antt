-- Messages that are a merge of the posters' lists.
use Rattle.std.specs.Prelude.{◌≡◌, ℕ, ◌+◌, ◌<◌, ◌≤◌, nat_eq, List, [], ◌∷◌, length, slice_index_or}
use Rattle.std.specs.List.{filter}
use Rattle.rt_inbox.specs.declared.message.Post.{Post}
use Rattle.rt_inbox.specs.declared.message.Msg.{Msg}

-- the messages of one poster, in order
abbrev pub of_poster : ℕ → List Msg → List Msg
of_poster p messages = filter (λ (m : Msg). nat_eq m.poster p) messages

-- a poster's posts as messages, which count up from n
abbrev pub numbered : ℕ → ℕ → List Post → List Msg
numbered p n [] = []
numbered p n (what ∷ posts) = record { poster = p; seq = n; what = what } ∷ numbered p (n + 1) posts

-- the messages of the poster count up from 0, and ask for just these posts
abbrev pub HasPosted : List Msg → ℕ → List Post → Type 0
HasPosted messages p posts = of_poster p messages ≡ numbered p 0 posts

-- of each poster its posts, whole and in order, and no other message
pub record IsMerge (messages : List Msg) (posts : List (List Post)) : Type 0 where
  -- each poster's messages are its posts
  pub each : (p : ℕ) → p < length posts → HasPosted messages p (slice_index_or posts p [])
  -- no message is of another poster
  pub no_other : (p : ℕ) → length posts ≤ p → of_poster p messages ≡ []
