-- Programs that only look: at cells, at what scopes provide, and at the scope in which they are called.
use Rattle.std.specs.Prelude.{ℕ, zero, suc, ◌+◌, false, length, List, [], ◌∷◌, Option, Some, None, ◌≡◌}
use Rattle.rt_model.specs.Laws.{Agree}
use Rattle.rt_model.specs.Program.{Program, done, current_scope, parent_scope, current_task, rendering, generation, read, error, consume_context, has_context, new_context, run_in, reset_and_run_in, leave, new_cell, write, drop_cell, spawn, remove_future, wake, set_active, queue_effect, after_suspense_resolved, freeze, provide, needs_update, captured, throw, clear_errors, hook_is_new, use_hook, use_effect, Call, noted, parent_in}
use Rattle.rt_model.specs.Tree.{Types}
use Rattle.rt_model.specs.World.{Source, Given, World}
use Rattle.author_programs.specs.Came.{came}

module _ {K : Types} {A : Type 0} where
  -- each call of the program reads a cell, looks up what is provided from its own scope upwards, or asks for that scope
  unfoldable pub Looks : Program K A → Type 0
  Looks (done a) = Unit {0}
  Looks (current_scope f) = (s : ℕ) → Looks (f s)
  Looks (read n f) = (v : Option K.Value) → Looks (f v)
  Looks (consume_context None k f) = (v : Option K.Value) → Looks (f v)
  Looks (consume_context (Some s) k f) = ⊥
  Looks (has_context k f) = (v : Option K.Value) → Looks (f v)
  Looks (parent_scope f) = ⊥
  Looks (current_task f) = ⊥
  Looks (rendering f) = ⊥
  Looks (generation f) = ⊥
  Looks (error f) = ⊥
  Looks (new_context t f) = ⊥
  Looks (run_in n p) = ⊥
  Looks (reset_and_run_in n p) = ⊥
  Looks (leave p) = ⊥
  Looks (new_cell v f) = ⊥
  Looks (write n v p) = ⊥
  Looks (drop_cell n p) = ⊥
  Looks (spawn a forever isomorphic f) = ⊥
  Looks (remove_future t p) = ⊥
  Looks (wake t p) = ⊥
  Looks (set_active t b p) = ⊥
  Looks (queue_effect e p) = ⊥
  Looks (after_suspense_resolved e p) = ⊥
  Looks (freeze p) = ⊥
  Looks (provide root k v p) = ⊥
  Looks (needs_update s p) = ⊥
  Looks (captured text f) = ⊥
  Looks (throw e p) = ⊥
  Looks (clear_errors p) = ⊥
  Looks (hook_is_new f) = ⊥
  Looks (use_hook k v f) = ⊥
  Looks (use_effect k e f) = ⊥

-- the scopes from one upwards, at most so many
abbrev pub way_up : List (ℕ × Option ℕ) → ℕ → ℕ → List ℕ
way_up parents zero s = []
way_up parents (suc n) s = s ∷ elim (parent_in parents s) [ None ↦ [] | Some p ↦ way_up parents n p ]

module _ {K : Types} where
  -- reads that were noted, one after another
  abbrev pub all_noted : Call K → List Source → Call K
  all_noted c [] = c
  all_noted c (x ∷ xs) = all_noted (noted c x) xs

  -- the calling scope and those above it
  abbrev pub own_way : Given K → List ℕ
  own_way g = way_up g.parents (length g.parents + 1) g.scope

  -- the call is no body, and has made and provided nothing since it began in the world
  pub record MadeNothing (w : World K) (c : Call K) : Type 0 where
    pub outside : c.in_body ≡ false
    pub cells : c.cells ≡ []
    pub provided : c.provided ≡ []
    pub next : c.next.cells ≡ w.given.next.cells

  -- two worlds have the same calling scope, with the same scopes above it
  pub record StandAlike (v w : World K) : Type 0 where
    pub scope : v.given.scope ≡ w.given.scope
    pub way : own_way v.given ≡ own_way w.given

-- of its call a program that only looks leaves nothing but reads that were noted
abbrev pub LookingReads : (K : Types) → Type 0 → Type 0
LookingReads K A =
    (w : World K) (p : Program K A) (c : Call K)
    → Looks p
    → (sources : List Source) × ((came w p c).call ≡ all_noted c sources)

-- worlds that agree on the scopes from the calling one upwards, and on the values of what was looked at, give the same answer
abbrev pub LookingDecides : (K : Types) → Type 0 → Type 0
LookingDecides K A =
    (v w : World K) (p : Program K A) (c d : Call K)
    → Looks p
    → MadeNothing v c
    → MadeNothing v d
    → StandAlike v w
    → Agree v w (came v p c).call.aside
    → (came v p c).answer ≡ (came w p d).answer
