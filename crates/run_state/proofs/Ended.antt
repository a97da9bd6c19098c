-- A task's end, by what is owed and by the scopes that it lets go.
use Rattle.std.proofs.Common.{◌≡◌, ℕ, true, List, ◌++◌, map, ap, sym, ◌∙◌}
use Rattle.std.specs.Prelude.{is_some}
use Rattle.rt_model.specs.Lists.{at, without, drop_number}
use Rattle.rt_model.specs.OneLog.{types}
use Rattle.rt_model.specs.State as model
use Rattle.rt_model.specs.Commands.{drop_posted, end, holding}
use Rattle.run_records.specs.Kept.{each}
use Rattle.run_owed.specs.Owing.{Owing}
use Rattle.run_state.specs.Holders.{let_go}
use Rattle.run_state.specs.Mirror.{Unkept, scopes_of, state_of, task_of}
use Rattle.run_state.specs.declared.state.State.{State}
use Rattle.run_state.specs.declared.state.TaskRow.{TaskRow}
use Rattle.run_state.proofs.Posts.{with_all, with_owed}
use Rattle.run_state.proofs.Released.{ended}

module _ {P C Q V H T E L : Type 0} where
  -- what is owed once the task's wakes went and its boundaries are marked
  abbrev pub owed_after : State P C Q V H T E L → ℕ → Owing
  owed_after d t = record d.owed {
    posted = drop_posted (d.owed).posted (model.Woken t) ++ holding (scopes_of (d.rows).table) t;
    queued = drop_number (d.owed).queued t;
    tasks = without (d.owed).tasks t;
  }

  pub owed_ended : (d : State P C Q V H T E L) (t : ℕ) (a b : Owing) → a ≡ record d.owed { posted = drop_posted (d.owed).posted (model.Woken t); queued = drop_number (d.owed).queued t; tasks = without (d.owed).tasks t }
      → b ≡ with_owed a (a.posted ++ holding (scopes_of (d.rows).table) t) → b ≡ owed_after d t
  owed_ended d t a b ends marks = marks ∙ ap (λ (o : Owing). with_owed o (o.posted ++ holding (scopes_of (d.rows).table) t)) ends

  pub ended_by : (d : State P C Q V H T E L) (t : ℕ) (g : Unkept (types C Q V H T E L)) (tasks : List (ℕ × TaskRow P C Q V H T E L)) (o : Owing) (u : model.State (types C Q V H T E L))
      → is_some (at (state_of g d).tasks t) ≡ true → tasks ≡ without d.tasks t → o ≡ owed_after d t
      → u ≡ record (with_all (state_of g d) o) { tasks = each task_of tasks; scopes = scopes_of (map (let_go t) (d.rows).table) } → u ≡ end (state_of g d) t
  ended_by d t g tasks o u live less owed is =
      ended d t g tasks o.posted o.queued (before o) u live less (ap (λ (p : Owing). p.posted) owed) (ap (λ (p : Owing). p.queued) owed)
      (ap (λ (p : Owing). before p) owed ∙ sym (ap (λ (p : Owing). back p) owed)) is
    where
      before : Owing → model.State (types C Q V H T E L)
      before p = record (with_all (state_of g d) p) { tasks = each task_of tasks }

      back : Owing → model.State (types C Q V H T E L)
      back p = record (state_of g d) { tasks = each task_of tasks; posted = p.posted; queued = p.queued }
