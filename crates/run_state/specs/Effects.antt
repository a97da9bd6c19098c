-- The effects that scopes have queued.
use Rattle.std.specs.Prelude.{◌≡◌, ◌&&◌, ℕ, Bool, true, false, nat_eq, List, [], ◌∷◌, Some, None}
use Rattle.std.specs.declared.cmp.Ordering.{Ordering}
use Rattle.std.specs.BTreeMap.{is_at}
use Rattle.std.specs.List.{list_any}
use Rattle.std.specs.Ordering.{nat_cmp, on, then_cmp}
use Rattle.rt_model.specs.Lists.{at}
use Rattle.rt_model.specs.Tree.{Types}
use Rattle.rt_model.specs.State.{Scope, State, height_of, holds}

module _ {K : Types} where
  -- what waits for a live boundary's turn to its children, each with its scope
  abbrev pub callbacks_of : State K → ℕ → List (ℕ × K.Effect)
  callbacks_of w b = elim (at w.scopes b) [ None ↦ [] | Some x ↦ x.callbacks ]

  -- a mounted scope has queued effects
  abbrev pub has_effects : Scope K → Bool
  has_effects x = elim x.effects [ [] ↦ false | e ∷ es ↦ x.mounted ]

module _ {K : Types} where
  -- a scope of a height has queued effects, mounted or not
  abbrev pub queues_some : Scope K → ℕ → Bool
  queues_some x h = elim x.effects [ [] ↦ false | e ∷ es ↦ nat_eq x.height h ]

  -- the scope of a number is live, has a height and has queued effects
  abbrev pub queues_at : List (ℕ × Scope K) → ℕ → ℕ → Bool
  queues_at scopes s h = elim (at scopes s) [ None ↦ false | Some x ↦ queues_some x h ]

  -- the scope of a number is live, mounted and has queued effects
  abbrev pub effects_at : List (ℕ × Scope K) → ℕ → Bool
  effects_at scopes s = elim (at scopes s) [ None ↦ false | Some x ↦ has_effects x ]

  -- the same, where it has a height
  abbrev pub comes_up : List (ℕ × Scope K) → ℕ → ℕ → Bool
  comes_up scopes h s = nat_eq h (height_of scopes s) && effects_at scopes s

  -- the scope of a number is live and a task holds it
  abbrev pub holds_at : List (ℕ × Scope K) → ℕ → ℕ → Bool
  holds_at scopes s t = elim (at scopes s) [ None ↦ false | Some x ↦ holds x t ]

-- pairs of a height and a number, by height and then by number
abbrev pub rank_cmp : ℕ × ℕ → ℕ × ℕ → Ordering
rank_cmp = then_cmp (on (λ rank. rank.0) nat_cmp) (on (λ rank. rank.1) nat_cmp)

-- a number is listed with a height, or a scope is paired with a task
abbrev pub has_rank : List (ℕ × ℕ) → ℕ → ℕ → Bool
has_rank ranks h s = list_any (is_at (rank_cmp (h, s))) ranks

module _ {K : Types} where
  -- a scope with queued effects is listed with its height, and paired with each task that holds it
  pub record IsListed (effects held : List (ℕ × ℕ)) (s : ℕ) (x : Scope K) : Type 0 where
    pub queues : (h : ℕ) → queues_some x h ≡ true → has_rank effects h s ≡ true
    pub holders : (t : ℕ) → holds x t ≡ true → has_rank held t s ≡ true

  -- so is each live scope
  pub record AreListed (scopes : List (ℕ × Scope K)) (effects held : List (ℕ × ℕ)) : Type 0 where
    pub each : (s h : ℕ) → queues_at scopes s h ≡ true → has_rank effects h s ≡ true
    pub pairs : (s t : ℕ) → holds_at scopes s t ≡ true → has_rank held t s ≡ true
