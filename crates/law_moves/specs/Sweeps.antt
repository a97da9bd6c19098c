-- A scope in two states, what a unit claims of it and of the scopes below, and the theorem of two states.
use Rattle.std.specs.Prelude.{ℕ, zero, suc, ◌+◌, true, false, ◌&&◌, [], Option, Some, None, if◌then◌else◌, ◌≡◌}
use Rattle.rt_model.specs.Lists.{at}
use Rattle.rt_model.specs.Tree.{Types, Tree}
use Rattle.rt_model.specs.World.{Application}
use Rattle.rt_model.specs.State.{SideName, same_side, Side, Scope, State, side_of, is_shown}
use Rattle.rt_model.specs.Document.{count_of}
use Rattle.rt_model.specs.View.{nodes_of}
use Rattle.rt_model.specs.Caused.{Written, Both, written_within}
use Rattle.law_moves.specs.Meets.{HasNode, TreeMeets, tree_claims}

module _ {K : Types} (w v : State K) where
  -- one side in the two states, where nothing is refused and under gives what child scopes write
  abbrev pub between : (ℕ → Written) → Side K → Side K → Both K
  between under p q =
      record {
        old = p;
        new = q;
        old_child = λ t. nodes_of w t;
        new_child = λ t. nodes_of v t;
        under = under;
        stop = None;
        on_way = λ t. false;
      }

  -- a scope that is live and shown in both states, with the side that shows in each
  pub record Stays (s : ℕ) : Type 0 where
    pub old : Scope K
    pub new : Scope K
    pub old_side : SideName
    pub new_side : SideName
    pub lived : at w.scopes s ≡ Some old
    pub lives : at v.scopes s ≡ Some new
    pub seen : (is_shown w s && is_shown v s) ≡ true
    pub showed : old.shows ≡ Some old_side
    pub shows : new.shows ≡ Some new_side

module _ {K : Types} (app : Application K) (w v : State K) where
  -- a side that has an output in both states, and the two meet
  pub record SideMeets (child : ℕ → Type 0) (under : ℕ → Written) (p q : Side K) : Type 0 where
    pub old : Tree K
    pub new : Tree K
    pub had : p.output ≡ Some old
    pub has : q.output ≡ Some new
    pub meets : TreeMeets app (between w v under p q) child [] new old

  -- a scope whose side shows still and meets, or another side shows and what showed has a node
  pub record ScopeMeets (child : ℕ → Type 0) (under : ℕ → Written) (s : ℕ) : Type 0 where
    pub stays : Stays w v s
    pub kept :
        same_side stays.old_side stays.new_side ≡ true
        → SideMeets child under (side_of stays.old stays.old_side) (side_of stays.new stays.old_side)
    pub turned : same_side stays.old_side stays.new_side ≡ false → HasNode (nodes_of w s)

  -- what the scopes below write, at most n deep
  abbrev pub under : ℕ → ℕ → Written
  under n t = written_within app [] w v n t

  -- so it is with a scope and, at most n deep, with each scope that is fed below it
  abbrev pub MeetsDown : ℕ → ℕ → Type 0
  MeetsDown zero s = ⊥
  MeetsDown (suc n) s = ScopeMeets (λ t. MeetsDown n t) (under n) s

  -- what the edits between two outputs claim, by what is claimed below
  abbrev pub outputs_claims : (ℕ → Written) → (ℕ → ℕ → ℕ) → ℕ → Side K → Side K → Option (Tree K) → Option (Tree K) → ℕ
  outputs_claims below claims n p q (Some old) (Some new) = tree_claims app (between w v below p q) claims n [] new old
  outputs_claims below claims n p q _ _ = 0

  -- those of the side that shows in both states; both nodes where the side turned
  abbrev pub sides_claims : (ℕ → Written) → (ℕ → ℕ → ℕ) → ℕ → ℕ → Scope K → Scope K → Option SideName → Option SideName → ℕ
  sides_claims below claims s n x y (Some a) (Some c) =
      if same_side a c
      then outputs_claims below claims n (side_of x a) (side_of y a) (side_of x a).output (side_of y a).output
      else count_of n (nodes_of w s) + count_of n (nodes_of v s)
  sides_claims below claims s n x y _ _ = 0

  -- those of a scope that is live in both states
  abbrev pub live_claims : (ℕ → Written) → (ℕ → ℕ → ℕ) → ℕ → ℕ → Option (Scope K) → Option (Scope K) → ℕ
  live_claims below claims s n (Some x) (Some y) = sides_claims below claims s n x y x.shows y.shows
  live_claims below claims s n _ _ = 0

  -- how often the edits of a scope claim a number, at most so many scopes deep
  abbrev pub scope_claims : ℕ → ℕ → ℕ → ℕ
  scope_claims zero s n = 0
  scope_claims (suc m) s n = live_claims (under m) (λ t k. scope_claims m t k) s n (at w.scopes s) (at v.scopes s)
