-- What calls, hooks, callbacks, polls and looks leave as it was, also where a fault cuts them: what shows of each scope.
use Rattle.std.proofs.Common.{ℕ, Bool, true, false, List, refl}
use Rattle.std.specs.Prelude.{Option}
use Rattle.rt_model.specs.Tree.{Types, Element}
use Rattle.rt_model.specs.World.{Firsts, Hook, World, Meaning, Application}
use Rattle.rt_model.specs.State.{State, Outcome, onward, change}
use Rattle.rt_model.specs.Commands.{commands}
use Rattle.rt_model.specs.Next.{look, drops, at_rest}
use Rattle.rt_model.specs.Run.{with_next, kept_call, unmarked, acted, hooks_called, after_hooks, settled_answer, called_once, called_where}
use Rattle.rt_model.specs.Boundary.{counted_render, called_back}
use Rattle.rt_model.specs.Removal.{without_scope, gone, stopped}
use Rattle.rt_model.specs.Replay.{mounted_state, polled, polled_now, effects_run}
use Rattle.rt_model.specs.Asides.{left_of}
use Rattle.rt_model.proofs.TourLooks as looks
use Rattle.rt_model.proofs.TourCalls as calls
use Rattle.rt_model.proofs.TourCalls.{state_of, Goes, Calls}
use Rattle.law_moves.specs.Frames.{shown}
use Rattle.law_moves.proofs.Advanced.{advanced_goes}
use Rattle.law_moves.proofs.Commanded.{Level, shown_steady, level_trans, level_refl, level_kept, level_rest, change_level, commands_level}

module _ {K : Types} where
  -- a change leaves what shows, also where it is cut
  abbrev pub LevelO : State K → Outcome K → Type 0
  LevelO w o = Level w (state_of o)

  pub level_goes : Goes shown Level (λ (w : State K). 0)
  level_goes = record { after = level_trans; small = level_kept }

  -- a change, then one that may be cut
  pub from_level : (w v : State K) (o : Outcome K) → Level w v → LevelO v o → LevelO w o
  from_level w v o h g = level_trans w v (state_of o) h g

  -- two changes that may be cut, one after the other
  pub onward_level : (w : State K) (o : Outcome K) (f : State K → Outcome K) → LevelO w o → ((v : State K) → LevelO v (f v)) → LevelO w (onward o f)
  onward_level w o f h g = calls.onward_goes shown Level (λ v. 0) shown_steady level_goes w o f h g

  -- marks go
  pub unmarked_level : (w : State K) (s : ℕ) → Level w (unmarked w s)
  unmarked_level w s = level_kept w (unmarked w s) (looks.unmarked_kept shown 0 w s)

  -- a look
  pub look_level : (w : State K) → Level w (look w)
  look_level w = level_kept w (look w) (looks.look_kept shown 0 w)

  pub drops_level : (qs : List ℕ) (w : State K) → Level w (drops qs w)
  drops_level qs w = level_kept w (drops qs w) (looks.drops_kept shown 0 qs w)

  -- paused tasks are dropped
  pub rest_level : (w : State K) → Level w (at_rest w)
  rest_level w = level_kept w (at_rest w) (looks.rest_kept shown 0 w)

  -- shown scopes become mounted
  pub mounted_level : (w : State K) → Level w (mounted_state w)
  mounted_level w = level_kept w (mounted_state w) (looks.mounted_kept shown shown_steady 0 w)

  -- a scope stops
  pub stopped_level : (w : State K) (s : ℕ) → Level w (stopped w s)
  stopped_level w s = level_kept w (stopped w s) (looks.stopped_kept shown shown_steady 0 w s)

  -- what it owned is told after its record went
  pub told_level : (w : State K) (s : ℕ) → Level (without_scope w s) (gone w s)
  told_level w s = level_kept (without_scope w s) (gone w s) (looks.gone_kept shown 0 w s)

  -- other numbers come next
  pub next_level : (w : State K) (next : Firsts) → Level w (with_next w next)
  next_level w next = level_rest w (with_next w next) refl refl

  pub once_level : (w : State K) → Level w (called_once w)
  once_level w = level_kept w (called_once w) (looks.once_kept shown 0 w)

  pub where_level : (b : Bool) (w : State K) → Level w (called_where b w)
  where_level true w = once_level w
  where_level false w = level_refl w

  -- a body's call is kept
  pub kept_level : (w : State K) (s : ℕ) (world : World K) (m : Meaning K (Element K)) → Level w (kept_call w s world m)
  kept_level w s world m =
      let v : State K = change (with_next w m.next) s (λ x. record x { reads = m.reads }) in
      level_trans w (with_next w m.next) (kept_call w s world m) (next_level w m.next)
      (level_trans (with_next w m.next) v (kept_call w s world m)
      (change_level (with_next w m.next) s (λ x. record x { reads = m.reads }) (λ x. refl))
      (level_rest v (kept_call w s world m) refl refl))

module _ {K : Types} (app : Application K) where
  -- the commands of a call
  pub called_level : {A : Type 0} (w : State K) (s : ℕ) (polled : Option ℕ) (m : Meaning K A) → Level w (commands app (with_next w m.next) s polled m.commands)
  called_level w s polled m =
      level_trans w (with_next w m.next) (commands app (with_next w m.next) s polled m.commands) (next_level w m.next) (commands_level app (with_next w m.next) s polled m.commands)

  level_calls : Calls shown Level (λ (w : State K). 0) shown_steady level_goes app (λ f cs g. Unit {0})
  level_calls = record { effects = λ e world. tt; polls = λ a world. tt; next = λ w m n. next_level w m.next; called = λ w s t m n. called_level w s t m }

  -- an effect with its commands
  pub acted_level : (w : State K) (s : ℕ) (e : K.Effect) (rendering : Bool) → LevelO w (acted app w s e rendering)
  acted_level w s e rendering = calls.acted_goes shown Level (λ v. 0) shown_steady level_goes app (λ f cs g. Unit {0}) level_calls w s e rendering

  -- the hooks of one kind
  pub hooks_level : (kind : ℕ) (w : State K) (s : ℕ) (hs : List (Hook K)) → LevelO w (hooks_called app kind w s hs)
  hooks_level kind w s hs = calls.hooks_goes shown Level (λ v. 0) shown_steady level_goes app (λ f cs g. Unit {0}) level_calls kind w s hs

  -- the hooks after a render
  pub after_hooks_level : (w : State K) (s : ℕ) → LevelO w (after_hooks app w s)
  after_hooks_level w s = calls.after_hooks_goes shown Level (λ v. 0) shown_steady level_goes app (λ f cs g. Unit {0}) level_calls w s

  -- what an answer counts, throws or holds
  pub settled_answer_level : (w : State K) (s : ℕ) (a : Element K) → LevelO w (settled_answer app w s a)
  settled_answer_level w s a = calls.settled_answer_goes shown Level (λ v. 0) shown_steady level_goes app w s a

  -- a render is counted
  pub counted_level : (w : State K) (b : ℕ) (c : Bool) → LevelO w (counted_render app w b c)
  counted_level w b c = calls.counted_goes shown Level (λ v. 0) shown_steady level_goes app w b c

  -- the callbacks of a boundary
  pub called_back_level : (w : State K) (es : List (ℕ × K.Effect)) → LevelO w (called_back app w es)
  called_back_level w es = calls.called_back_goes shown Level (λ v. 0) shown_steady level_goes app (λ f cs g. Unit {0}) level_calls w es

  -- a poll
  pub polled_level : (w : State K) (t : ℕ) → LevelO w (polled app w t)
  polled_level w t = calls.polled_goes shown Level (λ v. 0) shown_steady level_goes app (λ f cs g. Unit {0}) level_calls w t

  -- a task that is polled at once
  pub advanced_level : (w : State K) (t : ℕ) → Level w (left_of w (polled_now app w t))
  advanced_level w t = advanced_goes shown Level (λ v. 0) shown_steady level_goes app (λ f cs g. Unit {0}) level_calls w t

  -- the effects of a scope
  pub effects_level : (w : State K) (s : ℕ) → LevelO w (effects_run app w s)
  effects_level w s = calls.effects_goes shown Level (λ v. 0) shown_steady level_goes app (λ f cs g. Unit {0}) level_calls w s
