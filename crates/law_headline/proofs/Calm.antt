-- What inputs, listeners and calls that log no entry leave as it was: what shows of each scope.
use Rattle.std.proofs.Common.{zero, suc, length, ℕ, ◌+◌, true, false, not, List, [], ◌∷◌, refl}
use Rattle.std.specs.Prelude.{Option, Some, None}
use Rattle.rt_model.specs.Lists.{join, drop_number}
use Rattle.rt_model.specs.Tree.{Types}
use Rattle.rt_model.specs.World.{CallFault, Event, Meaning, Application}
use Rattle.rt_model.specs.State.{Mark, Woken, Scope, State, is_live, world_of}
use Rattle.rt_model.specs.Commands.{post, commands}
use Rattle.rt_model.specs.Next.{Work, RerunScope, PollTask, RunEffects, first_seen, found, look}
use Rattle.rt_model.specs.Run.{fault_of, with_next, called_once}
use Rattle.rt_model.specs.Heard.{Listener}
use Rattle.rt_model.specs.Replay.{Post, MarkScope, WakeTask, AllDirty, Message, Input, EventAt, WakeOf, WriteOf, MarkOf, Drain, Machine, waiting, post_all, post_message, post_messages, looked_where_quiet, then_looked, taken_in, take_next, further, heard_event}
use Rattle.rt_model.specs.Asides.{Aside, Asked, Marked, AllMarked, Looked, Thinned, Rested, Raised, Passed, Polling, Answered, Advanced, aside_state}
use Rattle.rt_model.specs.Rendering.{may_poll, may_rerun, pass_over, passes, rendering_rest, tasks_passed, polling_rest, nothing_resolved}
use Rattle.law_moves.proofs.Asides.{asks}
use Rattle.rt_model.specs.Sentences.{marked_now, all_marked_now}
use Rattle.law_moves.proofs.Commanded.{Level, level_trans, level_refl, level_rest, level_either, post_level, write_level}
use Rattle.law_moves.proofs.Called.{look_level, drops_level, rest_level, next_level, once_level, called_level, advanced_level}

module _ {K : Types} where
  post_all_level : (es : List (ℕ × Scope K)) (w : State K) → Level w (post_all es w)
  post_all_level [] w = level_refl w
  post_all_level (e ∷ es) w = level_trans w (post w (Mark e.0)) (post_all es (post w (Mark e.0))) (post_level w (Mark e.0)) (post_all_level es (post w (Mark e.0)))

  message_level : (w : State K) (p : Post) → Level w (post_message w p)
  message_level w (MarkScope s) = post_level w (Mark s)
  message_level w (WakeTask t) = post_level w (Woken t)
  message_level w AllDirty = post_all_level w.scopes w

  messages_level : (w : State K) (ms : List Message) → Level w (post_messages w ms)
  messages_level w [] = level_refl w
  messages_level w (m ∷ ms) = level_trans w (post_message w m.what) (post_messages (post_message w m.what) ms) (message_level w m.what) (messages_level (post_message w m.what) ms)

  marked_level : (w : State K) (s : ℕ) → Level w (marked_now w s)
  marked_level w s = let v : State K = record w { seen = join w.seen s } in level_either w v w (is_live w s) (level_rest w v refl refl) (level_refl w)

  all_marked_level : (es : List (ℕ × Scope K)) (w : State K) → Level w (all_marked_now es w)
  all_marked_level [] w = level_refl w
  all_marked_level (e ∷ es) w = let v : State K = marked_now w e.0 in level_trans w v (all_marked_now es v) (marked_level w e.0) (all_marked_level es v)

  over_level : (go : State K → State K) (w : State K) (o : Option Work) → ((v : State K) → Level v (go v)) → Level w (pass_over go w o)
  over_level go w None h = level_refl w
  over_level go w (Some (RunEffects s)) h = level_refl w
  over_level go w (Some (RerunScope s)) h =
      let v : State K = record w { seen = drop_number w.seen s; skipped = join w.skipped s } in
      level_either w w (go v) (may_rerun w s) (level_refl w) (level_trans w v (go v) (level_rest w v refl refl) (h v))
  over_level go w (Some (PollTask t)) h =
      let v : State K = record w { queued = drop_number w.queued t } in
      level_either w w (go v) (may_poll w t) (level_refl w) (level_trans w v (go v) (level_rest w v refl refl) (h v))

  passes_level : (n : ℕ) (w : State K) → Level w (passes n w)
  passes_level zero w = level_refl w
  passes_level (suc n) w = over_level (λ v. passes n v) w (found w) (λ v. passes_level n v)

  tasks_level : (n : ℕ) (w : State K) → Level w (tasks_passed n w)
  tasks_level zero w = level_refl w
  tasks_level (suc n) w = seen_or (λ v. tasks_passed n v) w (first_seen w) (λ v. tasks_level n v)
    where
      seen_or : (go : State K → State K) (w : State K) (o : Option ℕ) → ((v : State K) → Level v (go v)) → Level w (elim o as (λ z. State K) [ None ↦ pass_over go w (found w) | Some s ↦ w ])
      seen_or go w None h = over_level go w (found w) h
      seen_or go w (Some s) h = level_refl w

  quiet_level : (m : Machine K) (ls : List (Listener K)) → Level m.state (looked_where_quiet m ls).state
  quiet_level m [] = look_level m.state
  quiet_level m (l ∷ ls) = level_refl m.state

  looked_level : (m : Machine K) → Level m.state (then_looked m).state
  looked_level m = quiet_level m (waiting m)

  taken_level : (m : Machine K) (i : Input K) → Level m.state (taken_in m i).state
  taken_level m (EventAt name payload element bubbles) = level_refl m.state
  taken_level m (WakeOf t) = post_level m.state (Woken t)
  taken_level m (WriteOf n v) = write_level m.state n v
  taken_level m (MarkOf s) = post_level m.state (Mark s)
  taken_level m (Drain messages) = messages_level m.state messages

  -- an input is taken in
  pub take_level : (m : Machine K) (is : List (Input K)) → Level m.state (take_next m is).state
  take_level m [] = level_refl m.state
  take_level m (i ∷ rest) =
      let u : Machine K = record m { inputs = rest; taken = m.taken + 1; units = 0; default_enabled = true; listeners = [] } in
      let v : Machine K = taken_in u i in
      level_trans m.state v.state (then_looked v).state (taken_level u i) (looked_level v)

module _ {K : Types} (app : Application K) where
  heard_at : (m : Machine K) (l : Listener K) (ls : List (Listener K)) (meaning : Meaning K (Event K)) (o : Option CallFault)
      → Level m.state (elim o as (λ z. Machine K) [
        | None ↦
            then_looked
            (record m {
              state = commands app (with_next m.state meaning.next) l.origin None meaning.commands;
              event = Some meaning.answer;
              default_enabled = not meaning.answer.prevented;
              listeners = further app m meaning.answer ls;
            })
        | Some f ↦ record m { state = with_next m.state meaning.next; listeners = ls; dead = Some (fault_of f); refused = None }
      ]).state
  heard_at m l ls meaning None =
      let v : Machine K = record m {
        state = commands app (with_next m.state meaning.next) l.origin None meaning.commands;
        event = Some meaning.answer;
        default_enabled = not meaning.answer.prevented;
        listeners = further app m meaning.answer ls;
      } in
      level_trans m.state v.state (then_looked v).state (called_level app m.state l.origin None meaning) (looked_level v)
  heard_at m l ls meaning (Some f) = next_level m.state meaning.next

  -- a listener
  pub heard_level : (m : Machine K) (l : Listener K) (ls : List (Listener K)) (o : Option (Event K)) → Level m.state (heard_event app m l ls o).state
  heard_level m l ls None = level_refl m.state
  heard_level m l ls (Some event) =
      let meaning : Meaning K (Event K) = app.handle l.handler event (world_of m.state l.origin None false) in
      let u : Machine K = record m { state = called_once m.state } in
      level_trans m.state u.state (heard_event app m l ls (Some event)).state (once_level m.state) (heard_at u l ls meaning meaning.fault)

  -- a call that logs no entry
  pub aside_level : (w : State K) (a : Aside K) → Level w (aside_state app w a)
  aside_level w (Asked s next cs) = called_level app w s None (asks app s (Asked s next cs))
  aside_level w (Marked s) = marked_level w s
  aside_level w AllMarked = all_marked_level w.scopes w
  aside_level w Looked = look_level w
  aside_level w Thinned = drops_level w.queued w
  aside_level w Rested = rest_level w
  aside_level w (Raised name payload element bubbles prevented) = level_refl w
  aside_level w Passed = let v : State K = look w in level_trans w v (rendering_rest w) (look_level w) (passes_level (length v.seen + length v.queued) v)
  aside_level w Polling = let v : State K = look w in level_trans w v (polling_rest w) (look_level w) (tasks_level (length v.queued) v)
  aside_level w Answered = level_rest w (nothing_resolved w) refl refl
  aside_level w (Advanced t) = advanced_level app w t
