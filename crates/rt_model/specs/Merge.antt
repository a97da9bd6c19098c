-- Messages that were taken are a merge of the posters' lists, cut into drains.
use Rattle.std.specs.Prelude.{ℕ, ◌+◌, ◌<◌, ◌≤◌, nat_eq, List, [], ◌∷◌, length, Some, ◌≡◌}
use Rattle.std.specs.List.{AllByRecursion}
use Rattle.rt_model.specs.Lists.{nth, kept_by, joined}
use Rattle.rt_model.specs.Tree.{Types}
use Rattle.rt_model.specs.World.{Application}
use Rattle.rt_model.specs.Replay.{Post, Message, Input, Drain}
use Rattle.rt_model.specs.Causes.{Limits, IsValid}

-- the messages of one poster, in order
abbrev pub of_poster : ℕ → List Message → List Message
of_poster p messages = kept_by (λ m. nat_eq m.poster p) messages

-- the messages count up from this number, and ask for these posts
abbrev pub IsPosted : ℕ → List Message → List Post → Type 0
IsPosted n [] [] = Unit {0}
IsPosted n (m ∷ messages) (p ∷ posts) = (m.sequence ≡ n) × (m.what ≡ p) × IsPosted (n + 1) messages posts
IsPosted n _ _ = ⊥

-- of each poster its posts, whole and in order, and no other message
pub record IsMerge (messages : List Message) (posts : List (List Post)) : Type 0 where
  -- each poster's messages are its posts
  pub each : (p : ℕ) (list : List Post) → nth posts p ≡ Some list → IsPosted 0 (of_poster p messages) list
  -- every message is a poster's
  pub no_other : AllByRecursion (λ (m : Message). m.poster < length posts) messages

-- the messages count up from this number, and ask for the first of these posts
abbrev pub IsPostedSoFar : ℕ → List Message → List Post → Type 0
IsPostedSoFar n [] posts = Unit {0}
IsPostedSoFar n (m ∷ messages) (p ∷ posts) = (m.sequence ≡ n) × (m.what ≡ p) × IsPostedSoFar (n + 1) messages posts
IsPostedSoFar n (m ∷ messages) [] = ⊥

-- drains that hold of each poster a front of its posts, in order, and no other message
pub record HasFronts (drains : List (List Message)) (posts : List (List Post)) : Type 0 where
  -- each poster's messages are a front of its posts
  pub each : (p : ℕ) (list : List Post) → nth posts p ≡ Some list → IsPostedSoFar 0 (of_poster p (joined drains)) list
  -- every message is a poster's
  pub no_other : AllByRecursion (λ (m : Message). m.poster < length posts) (joined drains)

-- no drain is empty, and none has more messages than this
abbrev pub AreSized : ℕ → List (List Message) → Type 0
AreSized most drains = AllByRecursion (λ (d : List Message). (1 ≤ length d) × (length d ≤ most)) drains

-- a cut of a merge of the posts into drains
pub record IsCut (posts : List (List Post)) (most : ℕ) (drains : List (List Message)) : Type 0 where
  pub merged : IsMerge (joined drains) posts
  pub sized : AreSized most drains

-- drains as the inputs of a session
abbrev pub drained : {K : Types} → List (List Message) → List (Input K)
drained [] = []
drained (d ∷ drains) = Drain d ∷ drained drains

-- whichever cut of whichever merge of the posts is taken, the inputs are valid
abbrev pub ValidOverCuts : {K : Types} → Application K → K.Props → List (List Post) → Limits → Type 0
ValidOverCuts app props posts limits =
    (drains : List (List Message)) → IsCut posts limits.drain drains → IsValid app props (drained drains) limits
