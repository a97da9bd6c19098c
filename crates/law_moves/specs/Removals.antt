-- A removal as a walk down the first children, and what it leaves as it was.
use Rattle.std.specs.Prelude.{ℕ, ◌+◌, true, false, nat_eq, List, [], ◌∷◌, ◌≡◌, ◌≤◌}
use Rattle.std.specs.List.{AllByRecursion}
use Rattle.rt_model.specs.Lists.{at}
use Rattle.rt_model.specs.Tree.{Types}
use Rattle.rt_model.specs.World.{Application}
use Rattle.rt_model.specs.Laws.{IsLawful}
use Rattle.rt_model.specs.State.{State, Item, Done, is_live, height_of}
use Rattle.rt_model.specs.Removal.{children_below, next_removed, removed}
use Rattle.rt_model.specs.Framed.{framed}

-- no number stands twice in a list
abbrev pub Apart : List ℕ → Type 0
Apart [] = Unit {0}
Apart (n ∷ ns) = AllByRecursion (λ (k : ℕ). nat_eq n k ≡ false) ns × Apart ns

module _ {K : Types} where
  -- the live children of a scope, in the order in which a removal takes them
  abbrev pub children_at : State K → ℕ → List ℕ
  children_at w s = children_below w (at w.scopes s)

  -- the children of each scope stand one level below it, each once
  pub record Wooded (w : State K) : Type 0 where
    pub rises : (s : ℕ) → AllByRecursion (λ (child : ℕ). height_of w.scopes child ≡ height_of w.scopes s + 1) (children_at w s)
    pub apart : (s : ℕ) → Apart (children_at w s)

  -- the way down from one scope to another, over first children alone
  abbrev pub IsWay : State K → List ℕ → ℕ → ℕ → Type 0
  IsWay w [] top s = top ≡ s
  IsWay w (child ∷ path) top s = ((others : List ℕ) × (children_at w top ≡ child ∷ others)) × IsWay w path child s

  -- no scope came, each one left is framed as before, and the scopes of which `stays` holds are as they were, there or not
  pub record Thins (w v : State K) (stays : ℕ → Type 0) : Type 0 where
    pub thin : (s : ℕ) → is_live v s ≡ true → framed (at v.scopes s) ≡ framed (at w.scopes s)
    pub kept : (s : ℕ) → stays s → framed (at v.scopes s) ≡ framed (at w.scopes s)

  -- a scope stands no higher than another
  abbrev pub NoHigher : State K → ℕ → ℕ → Type 0
  NoHigher w t s = height_of w.scopes s ≤ height_of w.scopes t

  -- another scope that stands no higher
  abbrev pub Others : State K → ℕ → ℕ → Type 0
  Others w t s = (nat_eq t s ≡ false) × NoHigher w t s

  -- a scope went, and beside it only what is higher may have gone
  pub record Pruned (w v : State K) (t : ℕ) : Type 0 where
    pub gone : is_live v t ≡ false
    pub thins : Thins w v (Others w t)

  -- of a removal some children are gone, and these are left; the way down to its scope is as it was
  pub record Removing (w : State K) (path : List ℕ) (top scope : ℕ) (left : List ℕ) (v : State K) : Type 0 where
    pub thins : Thins w v (NoHigher w scope)
    pub left_is : children_at v scope ≡ left
    pub way : IsWay v path top scope
    pub wooded : Wooded v
    pub live : is_live v scope ≡ true

  -- what is removed first of a scope is what is removed first of its first child
  abbrev pub FirstChildsLeaf : State K → Type 0
  FirstChildsLeaf w = (s child : ℕ) (others : List ℕ) → children_at w s ≡ child ∷ others → next_removed w s ≡ next_removed w child

  -- a scope without a child is itself what is removed first
  abbrev pub LeafItself : State K → Type 0
  LeafItself w = (s : ℕ) → children_at w s ≡ [] → next_removed w s ≡ s

  -- all the way down over first children what is removed first is the same
  abbrev pub WaysLeaf : State K → Type 0
  WaysLeaf w = (path : List ℕ) (top s : ℕ) → IsWay w path top s → next_removed w top ≡ next_removed w s

-- what a removal takes first is found by a walk down the first children
abbrev pub RemovalWalks : Types → Type 0
RemovalWalks K = (w : State K) → Wooded w → FirstChildsLeaf w × LeafItself w × WaysLeaf w

-- where the first child went, the other children are left, and the way down to their parent is as it was
abbrev pub OthersAreLeft : Types → Type 0
OthersAreLeft K =
    (w v : State K) (path : List ℕ) (top s child : ℕ) (others : List ℕ)
    → Wooded w
    → IsWay w path top s
    → children_at w s ≡ child ∷ others
    → Pruned w v child
    → (children_at v s ≡ others) × IsWay v path top s × Wooded v

-- beside the children that went before, one more went
abbrev pub OneMoreWent : Types → Type 0
OneMoreWent K =
    (w v u : State K) (s child : ℕ)
    → height_of v.scopes child ≡ height_of v.scopes s + 1
    → Thins w v (NoHigher w s)
    → Pruned v u child
    → Thins w u (NoHigher w s)

-- where its children went and then the scope itself, the scope went with what was below it
abbrev pub LeafEnds : Types → Type 0
LeafEnds K = (w v u : State K) (s : ℕ) → Thins w v (NoHigher w s) → Pruned v u s → Pruned w u s

-- a removal that isn't cut leads to no work, and its scope alone goes
abbrev pub LeafPrunes : {K : Types} → Application K → Type 0
LeafPrunes {K = K} app =
    IsLawful K app → (w v : State K) (s : ℕ) (work : List (Item K)) → removed app w s ≡ Done v work → (work ≡ []) × Pruned w v s
