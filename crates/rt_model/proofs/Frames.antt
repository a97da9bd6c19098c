-- What commands leave as it was: which scopes live, their parents and heights, which tasks have ended.
use Rattle.std.proofs.Common.{ℕ, List, ◌≡◌, refl}
use Rattle.std.specs.Prelude.{Option, Some, None}
use Rattle.rt_model.specs.Lists.{at, put}
use Rattle.rt_model.specs.Tree.{Types, CapturedError}
use Rattle.rt_model.specs.World.{Command, Application}
use Rattle.rt_model.specs.State.{Posted, Scope, TaskRow, State, change}
use Rattle.rt_model.specs.Commands.{post, end, write_cell, throw_error, commands}
use Rattle.rt_model.proofs.Tour as tour
use Rattle.rt_model.proofs.Tour.{Steady, Kept, AllFresh}

module _ {K : Types} where
  -- a scope's parent and height
  abbrev pub shape : Option (Scope K) → Option (Option ℕ × ℕ)
  shape None = None
  shape (Some x) = Some (x.parent, x.height)

  pub shape_steady : Steady shape
  shape_steady =
      record {
        hooks = λ x hs. refl;
        error = λ x e. refl;
        contexts = λ x cs. refl;
        effects = λ x es. refl;
        callbacks = λ x es. refl;
        frozen = λ x b. refl;
        holders = λ x hs. refl;
        renders = λ x n. refl;
        reads = λ x ss. refl;
        mounted = λ x b. refl;
      }

  -- v has w's scopes with their parents and heights, and no task below the bound that w hasn't
  abbrev pub Same : ℕ → State K → State K → Type 0
  Same b w v = Kept shape b w v

  pub same_refl : (b : ℕ) (w : State K) → Same b w w
  same_refl b w = tour.kept_refl shape b w

  pub same_trans : (b : ℕ) (u v w : State K) → Same b u v → Same b v w → Same b u w
  same_trans b u v w p q = tour.kept_trans shape b u v w p q

  -- other parts of the state may change
  pub same_rest : (b : ℕ) (w v : State K) → v.scopes ≡ w.scopes → v.tasks ≡ w.tasks → v.next ≡ w.next → v.next_scope ≡ w.next_scope → Same b w v
  same_rest b w v p q r s = tour.kept_rest shape b w v p q r s

  -- a scope's record may change where its parent and height stay
  pub with_put : (b : ℕ) (w : State K) (s : ℕ) (x y : Scope K) → at w.scopes s ≡ Some x → shape (Some y) ≡ shape (Some x)
      → Same b w (record w { scopes = put w.scopes s y })
  with_put b w s x y h same = tour.with_put shape b w s x y h same

  pub change_same : (b : ℕ) (w : State K) (s : ℕ) (f : Scope K → Scope K) → ((x : Scope K) → shape (Some (f x)) ≡ shape (Some x)) → Same b w (change w s f)
  change_same b w s f same = tour.change_kept shape b w s f same

  pub post_same : (b : ℕ) (w : State K) (p : Posted) → Same b w (post w p)
  post_same b w p = tour.post_kept shape b w p

  pub end_same : (b : ℕ) (w : State K) (t : ℕ) → Same b w (end w t)
  end_same b w t = tour.end_kept shape shape_steady b w t

  pub write_same : (b : ℕ) (w : State K) (n : ℕ) (v : K.Value) → Same b w (write_cell w n v)
  write_same b w n v = tour.write_kept shape shape_steady b w n v

  pub throw_same : (b : ℕ) (w : State K) (s : ℕ) (e : CapturedError) → Same b w (throw_error w s e)
  throw_same b w s e = tour.throw_kept shape shape_steady b w s e

  -- a task's row may change
  pub task_same : (b : ℕ) (w : State K) (t : ℕ) (x y : TaskRow K) → at w.tasks t ≡ Some x → Same b w (record w { tasks = put w.tasks t y })
  task_same b w t x y h = tour.task_kept shape shape_steady b w t x y h

  -- the commands of a call
  pub commands_same : (app : Application K) (b : ℕ) (w : State K) (s : ℕ) (polled : Option ℕ) (cs : List (Command K)) → AllFresh app b cs
      → Same b w (commands app w s polled cs)
  commands_same app b w s polled cs f = tour.commands_kept shape shape_steady app b w s polled cs f
