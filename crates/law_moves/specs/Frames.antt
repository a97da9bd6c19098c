-- What a change leaves as it was of the scopes that it doesn't serve: where each stands, which side shows, and what its sides hold.
use Rattle.std.specs.Prelude.{ℕ, ◌+◌, false, List, [], ◌∷◌, Option, Some, None, ◌≡◌, ◌⊎◌}
use Rattle.rt_model.specs.Lists.{at, has}
use Rattle.rt_model.specs.Tree.{Types, VComponent, Place}
use Rattle.rt_model.specs.State.{SideName, Side, Scope, State, Item, Draw, Row, Feed, Make, Drop, Outcome, Done, Cut, new_scope}
use Rattle.rt_model.specs.Replay.{fed_child, with_child}

-- where a scope stands: its parent, its height, and the side that it is below
abbrev pub Stand : Type 0
Stand = Option ℕ × ℕ × SideName

-- what shows of a scope: its component, where it stands, the side that shows, and its sides
abbrev pub Shown : Types → Type 0
Shown K = VComponent K × Option ℕ × ℕ × SideName × Option SideName × Side K × Side K × Side K

-- the one scope of an option
abbrev pub those : Option ℕ → List ℕ
those None = []
those (Some t) = t ∷ []

module _ {K : Types} where
  -- where a live scope stands
  abbrev pub stand : Option (Scope K) → Option Stand
  stand None = None
  stand (Some x) = Some (x.parent, x.height, x.below)

  -- what shows of a live scope
  abbrev pub shown : Option (Scope K) → Option (Shown K)
  shown None = None
  shown (Some x) = Some (x.component, x.parent, x.height, x.below, x.shows, x.main_side, x.children_side, x.fallback_side)

  -- from w to v no scope but these came or went or shows something else, and none but the others stands elsewhere
  pub record Keeps (served moved : List ℕ) (w v : State K) : Type 0 where
    pub sides : (t : ℕ) → has served t ≡ false → shown (at v.scopes t) ≡ shown (at w.scopes t)
    pub stands : (t : ℕ) → has moved t ≡ false → stand (at v.scopes t) ≡ stand (at w.scopes t)

  -- so it is with the state that a change leads to, and with the one at which a fault cut it
  abbrev pub Leaves : List ℕ → List ℕ → State K → Outcome K → Type 0
  Leaves served moved w (Done v work) = Keeps served moved w v
  Leaves served moved w (Cut v fault) = Keeps served moved w v

  -- the scopes that an item serves: its own one, the child that it feeds, or its own one with the child that it makes
  abbrev pub served_by : State K → Item K → List ℕ
  served_by w (Draw s side p k) = s ∷ []
  served_by w (Row b step) = b ∷ []
  served_by w (Feed s side p c) = those (fed_child w s side p)
  served_by w (Make s side p c) = s ∷ w.next_scope ∷ []
  served_by w (Drop t s side) = []

  -- the scope that an item makes
  abbrev pub made_by : State K → Item K → List ℕ
  made_by w (Make s side p c) = w.next_scope ∷ []
  made_by w _ = []

module _ {K : Types} where
  -- after a make the parent of the new scope has one more child and else what it had, and the new scope stands below it
  abbrev pub Joins : ℕ → SideName → Place → VComponent K → State K → Scope K → State K → Type 0
  Joins s side p c w x v =
      (shown (at v.scopes s) ≡ shown (Some (with_child side p w.next_scope x)))
      ×
      (stand (at v.scopes w.next_scope) ≡ stand (Some (new_scope c (Some s) (x.height + 1) side)))

  -- where the counter of scopes isn't at its end
  abbrev pub JoinsO : ℕ → SideName → Place → VComponent K → State K → Scope K → Outcome K → Type 0
  JoinsO s side p c w x (Done v work) = Joins s side p c w x v
  JoinsO s side p c w x (Cut v fault) = (v ≡ w) ⊎ Joins s side p c w x v
