-- Where a number that is looked for stands: the scopes that lead to it, and the one place of each of their sides.
use Rattle.std.specs.Prelude.{ℕ, Bool, true, false, nat_eq, List, [], ◌∷◌, ◌++◌, Option, Some, None, if◌then◌else◌, ◌≡◌, ◌≢◌}
use Rattle.rt_model.specs.Lists.{has}
use Rattle.rt_model.specs.Tree as model
use Rattle.rt_model.specs.Tree.{Place}
use Rattle.tree_mirror.specs.Sealed.{template_of}
use Rattle.run_places.specs.declared.side.Side.{Side}
use Rattle.run_places.specs.Places.{at_path}
use Rattle.run_places.specs.Sides.{child_in, number_in}
use Rattle.run_places.specs.Trails.{place_on}
use Rattle.run_shown.specs.declared.climb.Rooted.{Rooted}
use Rattle.run_shown.specs.declared.look.Look.{Look}
use Rattle.run_shown.specs.declared.sought.Sought.{Sought}
use Rattle.run_shown.specs.Climbs.{scope_climb}
use Rattle.run_shown.specs.Look.{look_live, look_parent, look_shown}
use Rattle.run_shown.specs.Touched.{Climbs}

-- an index is the one that was found before, if one was
abbrev pub same_spot : Option ℕ → ℕ → Bool
same_spot None i = true
same_spot (Some j) i = nat_eq j i

-- the one index beside all the numbers of which a test holds, with one that was found before; none where there are two
abbrev pub lone_after : Option ℕ → (ℕ → Bool) → List (ℕ × ℕ) → Option (Option ℕ)
lone_after found test [] = Some found
lone_after found test (e ∷ es) =
    if test e.1 then (if same_spot found e.0 then lone_after (Some e.0) test es else None) else lone_after found test es

-- the same with nothing found before
abbrev pub lone_where : (ℕ → Bool) → List (ℕ × ℕ) → Option (Option ℕ)
lone_where test es = lone_after None test es

module _ {P C Q V H T E L : Type 0} where
  -- what shows of no other scope has the number, if it is one
  pub record IsHolder (look : Look P C Q V H T E L) (number : ℕ) (holder : Option ℕ) : Type 0 where
    pub alone : (s : ℕ) (side : Side P C Q V H T E L) (q : Place) (k : model.Kind)
        → look_shown look s ≡ Some side → number_in side q k ≡ number → number ≢ 0 → holder ≡ Some s

  -- a live child on what shows of a scope has that scope as its parent
  pub record KnowSeats (look : Look P C Q V H T E L) : Type 0 where
    pub parents : (s t : ℕ) (side : Side P C Q V H T E L) (q : Place)
        → look_shown look s ≡ Some side → child_in side q ≡ Some t → look_live look t ≡ true → look_parent look t ≡ Some s

  -- a scope, with all that stand above it
  pub record IsWay (look : Look P C Q V H T E L) (s : ℕ) (way : List ℕ) : Type 0 where
    pub own : has way s ≡ true
    pub above : Climbs look way way

  -- the scopes that lead to a number: below no other one it is found
  pub record Leads (look : Look P C Q V H T E L) (number : ℕ) (way : List ℕ) : Type 0 where
    pub some : number ≢ 0
    pub others : (n s : ℕ) → has way s ≡ false → scope_climb look number n s ≡ None

  -- those of what is looked for
  abbrev pub LeadsTo : Look P C Q V H T E L → Sought → Type 0
  LeadsTo look sought = Leads look sought.number sought.way.now

  -- at a place of a side stands neither the number nor a child that leads to it
  pub record Misses (side : Side P C Q V H T E L) (sought : Sought) (q : Place) : Type 0 where
    pub number : (k : model.Kind) → nat_eq (number_in side q k) sought.number ≡ false
    pub child : (t : ℕ) → child_in side q ≡ Some t → has sought.way.now t ≡ false

  -- at all places but one
  abbrev pub IsOnly : Side P C Q V H T E L → Sought → Place → Type 0
  IsOnly side sought p = (q : Place) → q ≢ p → Misses side sought q

  -- at all but the one that was found
  abbrev pub IsOnlyAt : Side P C Q V H T E L → Sought → Option Place → Type 0
  IsOnlyAt side sought None = Unit {0}
  IsOnlyAt side sought (Some p) = IsOnly side sought p

  -- at all places below one, but where these steps lead
  abbrev pub IsOnlyBelow : Side P C Q V H T E L → Sought → Place → Place → Type 0
  IsOnlyBelow side sought above rest = (x : model.Step) (r : Place) → x ∷ r ≢ rest → Misses side sought (above ++ x ∷ r)

  -- at a place itself and below it, but where these steps lead
  abbrev pub IsOnlyFrom : Side P C Q V H T E L → Sought → Place → Place → Type 0
  IsOnlyFrom side sought place rest = (r : Place) → r ≢ rest → Misses side sought (place ++ r)

  -- at all places of a template and below them, but from the node with a path where these steps lead
  abbrev pub IsOnlyAlong : Side P C Q V H T E L → Sought → model.Template → Place → List ℕ → Place → Type 0
  IsOnlyAlong side sought whole above goal rest =
      (path : List ℕ) (r : Place) → (path ≡ goal → r ≢ rest) → Misses side sought (at_path whole above path ++ r)

  -- the same of a tree's template
  abbrev pub IsOnlyInside : Rooted P C Q V H T E L → Sought → List ℕ → Place → Type 0
  IsOnlyInside standing sought goal rest =
      IsOnlyAlong (standing.shown.now).side.now sought (template_of (standing.tree.now).template) (place_on standing.above.now) goal rest
