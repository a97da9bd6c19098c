-- Tasks that are spawned, paused or made active; a task that a body waits for.
use Rattle.std.proofs.Common.{◌≡◌, ℕ, Bool, true, false, ◌&&◌, List, [], ◌∷◌, ◌++◌, ap, sym, ◌∙◌}
use Rattle.std.specs.declared.snapshot.Snapshot.{Snapshot}
use Rattle.std.specs.Prelude.{not, Option, Some, None, if◌then◌else◌}
use Rattle.rt_model.specs.Lists.{at, put}
use Rattle.rt_model.specs.OneLog.{types}
use Rattle.rt_model.specs.Tree.{Types}
use Rattle.rt_model.specs.State as model
use Rattle.rt_model.specs.State.{change, holds}
use Rattle.rt_model.specs.Commands.{post, spawned, activated}
use Rattle.rt_model.specs.Run.{joins}
use Rattle.run_state.specs.Names.{task_kind_of}
use Rattle.run_state.specs.Mirror.{Unkept, task_of, changed_task, change_task, state_of}
use Rattle.run_state.specs.declared.names.TaskKind.{TaskKind}
use Rattle.run_state.specs.declared.state.TaskRow.{TaskRow}
use Rattle.run_state.specs.declared.state.State.{State}

module _ {K : Types} where
  abbrev with_tasks : model.State K → List (ℕ × model.TaskRow K) → model.State K
  with_tasks w ts = record w { tasks = ts }

module _ {P C Q V H T E L : Type 0} where
  -- the row of a task that is spawned
  abbrev pub row_of : Option ℕ → ℕ → T → Snapshot T → TaskKind → TaskRow P C Q V H T E L
  row_of polled s a was kind = record { scope = s; parent = polled; state = Some a; was = was; active = true; kind = kind }

  pub spawned_in : (d : State P C Q V H T E L) (polled : Option ℕ) (s t : ℕ) (a : T) (isomorphic : Bool) (was : Snapshot T) (kind : TaskKind)
      → ((g : Unkept (types C Q V H T E L)) → model.is_live (state_of g d) s ≡ true)
      → task_kind_of kind ≡ (if isomorphic then model.Isomorphic else model.ClientOnly)
      → (g : Unkept (types C Q V H T E L)) (v : model.State (types C Q V H T E L))
      → v ≡ with_tasks (state_of g d) ((state_of g d).tasks ++ (t, task_of (row_of polled s a was kind)) ∷ [])
      → post v (model.Woken t) ≡ spawned (state_of g d) polled s t a isomorphic
  spawned_in d polled s t a isomorphic was kind live kinds g v is =
      let w : model.State (types C Q V H T E L) = state_of g d in
      ap (λ (u : model.State (types C Q V H T E L)). post u (model.Woken t)) is
      ∙ ap (λ k. post (with_tasks w (w.tasks ++ (t, record { scope = s; parent = polled; state = a; active = true; kind = k }) ∷ [])) (model.Woken t)) kinds
      ∙ ap (λ b. if b then post (with_tasks w (w.tasks ++ (t, record { scope = s; parent = polled; state = a; active = true; kind = if isomorphic then model.Isomorphic else model.ClientOnly }) ∷ [])) (model.Woken t) else w) (sym (live g))

  pub not_spawned : (d : State P C Q V H T E L) (polled : Option ℕ) (s t : ℕ) (a : T) (isomorphic : Bool) → ((g : Unkept (types C Q V H T E L)) → model.is_live (state_of g d) s ≡ false)
      → (g : Unkept (types C Q V H T E L)) → state_of g d ≡ spawned (state_of g d) polled s t a isomorphic
  not_spawned d polled s t a isomorphic gone g =
      let w : model.State (types C Q V H T E L) = state_of g d in
      ap (λ b. if b then post (with_tasks w (w.tasks ++ (t, record { scope = s; parent = polled; state = a; active = true; kind = if isomorphic then model.Isomorphic else model.ClientOnly }) ∷ [])) (model.Woken t) else w) (sym (gone g))

module _ {K : Types} where
  pub activated_gone : (w : model.State K) (t : ℕ) (active : Bool) → at w.tasks t ≡ None → w ≡ activated w t active (at w.tasks t)
  activated_gone w t active gone = ap (λ o. activated w t active o) (sym gone)

  -- a task that becomes active is woken
  pub activated_woken : (w v : model.State K) (t : ℕ) (active : Bool) (x : model.TaskRow K) → at w.tasks t ≡ Some x → active && not x.active ≡ true
      → v ≡ change_task w t (λ y. record y { active = active }) → post v (model.Woken t) ≡ activated w t active (at w.tasks t)
  activated_woken w v t active x stood wakes is =
      ap (λ u. post u (model.Woken t)) (is ∙ ap (λ o. changed_task w t (λ y. record y { active = active }) o) stood)
      ∙ ap (λ b. if b then post (with_tasks w (put w.tasks t (record x { active = active }))) (model.Woken t) else with_tasks w (put w.tasks t (record x { active = active }))) (sym wakes)
      ∙ ap (λ o. activated w t active o) (sym stood)

  pub activated_quiet : (w v : model.State K) (t : ℕ) (active : Bool) (x : model.TaskRow K) → at w.tasks t ≡ Some x → active && not x.active ≡ false
      → v ≡ change_task w t (λ y. record y { active = active }) → v ≡ activated w t active (at w.tasks t)
  activated_quiet w v t active x stood quiet is =
      is ∙ ap (λ o. changed_task w t (λ y. record y { active = active }) o) stood
      ∙ ap (λ b. if b then post (with_tasks w (put w.tasks t (record x { active = active }))) (model.Woken t) else with_tasks w (put w.tasks t (record x { active = active }))) (sym quiet)
      ∙ ap (λ o. activated w t active o) (sym stood)

  -- the boundary is gone, or held by the task already
  pub joins_gone : (w : model.State K) (origin t b : ℕ) → at w.scopes b ≡ None → w ≡ joins w origin t (Some (b, model.ChildrenSide))
  joins_gone w origin t b gone =
      ap (λ (o : Option (model.Scope K)). elim o as (λ _. model.State K) [ None ↦ w | Some x ↦ (if holds x t then w else post (change w b (λ y. record y { holders = y.holders ++ (t, origin) ∷ [] })) (model.Mark b)) ]) (sym gone)

  joined_by : (w : model.State K) (origin t b : ℕ) (x : model.Scope K) → at w.scopes b ≡ Some x
      → (if holds x t then w else post (change w b (λ y. record y { holders = y.holders ++ (t, origin) ∷ [] })) (model.Mark b)) ≡ joins w origin t (Some (b, model.ChildrenSide))
  joined_by w origin t b x stood =
      ap (λ (o : Option (model.Scope K)). elim o as (λ _. model.State K) [ None ↦ w | Some y ↦ (if holds y t then w else post (change w b (λ z. record z { holders = z.holders ++ (t, origin) ∷ [] })) (model.Mark b)) ]) (sym stood)

  pub joins_held : (w : model.State K) (origin t b : ℕ) (x : model.Scope K) → at w.scopes b ≡ Some x → holds x t ≡ true → w ≡ joins w origin t (Some (b, model.ChildrenSide))
  joins_held w origin t b x stood held =
      ap (λ c. if c then w else post (change w b (λ y. record y { holders = y.holders ++ (t, origin) ∷ [] })) (model.Mark b)) (sym held) ∙ joined_by w origin t b x stood

  -- the task joins its holders, and it is marked
  pub joins_new : (w v : model.State K) (origin t b : ℕ) (x : model.Scope K) → at w.scopes b ≡ Some x → holds x t ≡ false → v ≡ change w b (λ y. record y { holders = y.holders ++ (t, origin) ∷ [] })
      → post v (model.Mark b) ≡ joins w origin t (Some (b, model.ChildrenSide))
  joins_new w v origin t b x stood free is =
      ap (λ u. post u (model.Mark b)) is
      ∙ ap (λ c. if c then w else post (change w b (λ y. record y { holders = y.holders ++ (t, origin) ∷ [] })) (model.Mark b)) (sym free)
      ∙ joined_by w origin t b x stood
