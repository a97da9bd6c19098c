-- What commands leave as it was: which scopes live, where each stands, and what shows of it.
use Rattle.std.proofs.Common.{ℕ, Bool, true, false, List, ◌≡◌, refl, ap, ◌∙◌}
use Rattle.std.specs.Prelude.{Option, Some, if◌then◌else◌}
use Rattle.rt_model.specs.Lists.{at, put}
use Rattle.rt_model.specs.Tree.{Types}
use Rattle.rt_model.specs.World.{Command, Application}
use Rattle.rt_model.specs.State.{Posted, Scope, State, change}
use Rattle.rt_model.specs.Commands.{post, end, write_cell, commands}
use Rattle.rt_model.proofs.Tour as tour
use Rattle.rt_model.proofs.Tour.{Steady, Kept}
use Rattle.law_moves.specs.Frames.{shown}

module _ {K : Types} where
  -- each scope shows in v what it shows in w, and the next one has the same number
  pub record Level (w v : State K) : Type 0 where
    pub shows : (s : ℕ) → shown (at v.scopes s) ≡ shown (at w.scopes s)
    pub next_scope : v.next_scope ≡ w.next_scope

  -- one change after another
  pub level_trans : (u v w : State K) → Level u v → Level v w → Level u w
  level_trans u v w p q = record { shows = λ s. q.shows s ∙ p.shows s; next_scope = q.next_scope ∙ p.next_scope }

  -- what shows is equal
  pub level_equal : (w v : State K) → ((s : ℕ) → shown (at v.scopes s) ≡ shown (at w.scopes s)) → v.next_scope ≡ w.next_scope → Level w v
  level_equal w v f q = record { shows = f; next_scope = q }

  -- no change
  pub level_refl : (w : State K) → Level w w
  level_refl w = level_equal w w (λ s. refl) refl

  -- other parts of the state may change
  pub level_rest : (w v : State K) → v.scopes ≡ w.scopes → v.next_scope ≡ w.next_scope → Level w v
  level_rest w v p s = level_equal w v (λ n. ap (λ (xs : List (ℕ × Scope K)). shown (at xs n)) p) s

  -- one of two changes
  pub level_either : (w x y : State K) (c : Bool) → Level w x → Level w y → Level w (if c then x else y)
  level_either w x y true p q = p
  level_either w x y false p q = q

  pub shown_steady : Steady {K = K} shown
  shown_steady =
      record {
        hooks = λ x hs. refl;
        error = λ x e. refl;
        contexts = λ x cs. refl;
        effects = λ x es. refl;
        callbacks = λ x es. refl;
        frozen = λ x b. refl;
        holders = λ x hs. refl;
        renders = λ x n. refl;
        reads = λ x ss. refl;
        mounted = λ x b. refl;
      }

  -- what leaves all that is shown does
  pub level_kept : (w v : State K) → Kept shown 0 w v → Level w v
  level_kept w v h = record { shows = h.seen; next_scope = h.next_scope }

  -- a scope's record is replaced by one that is shown alike
  pub with_put : (w : State K) (s : ℕ) (x y : Scope K) → at w.scopes s ≡ Some x → shown (Some y) ≡ shown (Some x)
      → Level w (record w { scopes = put w.scopes s y })
  with_put w s x y h same = level_kept w _ (tour.with_put shown 0 w s x y h same)

  -- a change of one record that leaves its frame
  pub change_level : (w : State K) (s : ℕ) (f : Scope K → Scope K) → ((x : Scope K) → shown (Some (f x)) ≡ shown (Some x)) → Level w (change w s f)
  change_level w s f same = level_kept w (change w s f) (tour.change_kept shown 0 w s f same)

  -- what is posted
  pub post_level : (w : State K) (p : Posted) → Level w (post w p)
  post_level w p = level_kept w (post w p) (tour.post_kept shown 0 w p)

  -- a task ends
  pub end_level : (w : State K) (t : ℕ) → Level w (end w t)
  end_level w t = level_kept w (end w t) (tour.end_kept shown shown_steady 0 w t)

  -- a cell is written
  pub write_level : (w : State K) (n : ℕ) (v : K.Value) → Level w (write_cell w n v)
  write_level w n v = level_kept w (write_cell w n v) (tour.write_kept shown shown_steady 0 w n v)

  -- the commands of a call
  pub commands_level : (app : Application K) (w : State K) (s : ℕ) (polled : Option ℕ) (cs : List (Command K)) → Level w (commands app w s polled cs)
  commands_level app w s polled cs = level_kept w (commands app w s polled cs) (tour.commands_seen shown shown_steady app w s polled cs)
