-- A removal heeds all scopes but the one that goes.
use Rattle.std.proofs.Common.{ℕ, true, List, [], ◌∷◌, ◌++◌, ◌≤◌, refl, arith}
use Rattle.std.specs.Prelude.{Option, Some, None}
use Rattle.rt_model.specs.Tree.{Types}
use Rattle.rt_model.specs.World.{CallFault, Command, Meaning, Nothing, Application}
use Rattle.rt_model.specs.Laws.{IsNumbered, IsLawful}
use Rattle.rt_model.specs.State.{State, Outcome, Cut, hooks_of, world_of}
use Rattle.rt_model.specs.Commands.{end, commands}
use Rattle.rt_model.specs.Run.{fault_of, with_next, called_once, unmarked}
use Rattle.rt_model.specs.Removal.{tasks_in, end_all, clean_ups, gone, stopped, cleaned, removed}
use Rattle.law_moves.specs.Heeding.{AllFrom}
use Rattle.law_moves.proofs.Told.{change_quiet, CalmO, from_calm}
use Rattle.law_moves.proofs.Calm.{Calm, calm_then, calm_to, calm_refl, quiet_calm}
use Rattle.law_moves.proofs.CalmCommands.{commands_calm}
use Rattle.law_moves.proofs.Tasks.{end_calm}
use Rattle.law_moves.proofs.Leaving.{gone_calm}
use Rattle.law_moves.proofs.Looks.{all_from, cells_rise, next_quiet, once_quiet, unmarked_calm}

module _ {K : Types} where
  ends_calm : (n : ℕ) (w : State K) (ts : List ℕ) → Calm None n w (end_all w ts)
  ends_calm n w [] = calm_refl None n w
  ends_calm n w (t ∷ ts) = calm_then None n w (end w t) (end_all (end w t) ts) (end_calm n w t) (ends_calm n (end w t) ts)

  stopped_calm : (n : ℕ) (w : State K) (s : ℕ) → Calm (Some s) n w (stopped w s)
  stopped_calm n w s =
      let u : State K = end_all w (tasks_in s w.tasks) in
      let v : State K = unmarked u s in
      calm_then (Some s) n w u (stopped w s) (calm_to (Some s) n w u (ends_calm n w (tasks_in s w.tasks)))
      (calm_then (Some s) n u v (stopped w s) (unmarked_calm n u s) (quiet_calm (Some s) n v (stopped w s) (change_quiet v s (λ x. record x { effects = [] }) (λ x. refl))))

  more_from : (n : ℕ) (cs ds : List (Command K)) → AllFrom n cs → AllFrom n ds → AllFrom n (cs ++ ds)
  more_from n [] ds f g = g
  more_from n (c ∷ cs) ds f g = (f.0, more_from n cs ds f.1 g)

module _ {K : Types} (app : Application K) (lawful : IsLawful K app) where
  cleaned_by_calm : (n : ℕ) (s : ℕ) (es : List K.Effect) (w : State K) (waiting : List (Command K)) (m : Meaning K Nothing) (o : Option CallFault)
      → n ≤ w.next.cells → IsNumbered w.next m.commands m.next → AllFrom n waiting
      → ((v : State K) (cs : List (Command K)) → n ≤ v.next.cells → AllFrom n cs → CalmO (Some s) n v (cleaned app s es v cs))
      → CalmO (Some s) n w (elim o as (λ z. Outcome K) [ None ↦ cleaned app s es (with_next w m.next) (waiting ++ m.commands) | Some f ↦ Cut (with_next w m.next) (fault_of f) ])
  cleaned_by_calm n s es w waiting m (Some f) low numbered from go = tt
  cleaned_by_calm n s es w waiting m None low numbered from go =
      let v : State K = with_next w m.next in
      let rises = cells_rise w.next m.next m.commands numbered in
      let more : n ≤ v.next.cells = omega (arith, low, rises) in
      from_calm (Some s) n w v (cleaned app s es v (waiting ++ m.commands)) (quiet_calm (Some s) n w v (next_quiet w m.next rises))
      (go v (waiting ++ m.commands) more (more_from n waiting m.commands from (all_from n w.next m.next m.commands low numbered)))

  cleaned_calm : (n : ℕ) (s : ℕ) (es : List K.Effect) (w : State K) (waiting : List (Command K)) → n ≤ w.next.cells → AllFrom n waiting → CalmO (Some s) n w (cleaned app s es w waiting)
  cleaned_calm n s [] w waiting low from =
      let v : State K = gone w s in
      calm_then (Some s) n w v (commands app v s None waiting) (gone_calm n w s) (calm_to (Some s) n v (commands app v s None waiting) (commands_calm app lawful.tests_values n v s None waiting from))
  cleaned_calm n s (e ∷ es) w waiting low from =
      let u : State K = called_once w in
      let m : Meaning K Nothing = app.effect e (world_of w s None true) in
      from_calm (Some s) n w u (cleaned app s (e ∷ es) w waiting) (quiet_calm (Some s) n w u (once_quiet w))
      (cleaned_by_calm n s es u waiting m m.fault low (lawful.effects_number e (world_of w s None true)) from (λ v cs more all. cleaned_calm n s es v cs more all))

  pub removed_calm : (n : ℕ) (w : State K) (s : ℕ) → n ≤ w.next.cells → CalmO (Some s) n w (removed app w s)
  removed_calm n w s low =
      let v : State K = stopped w s in
      let f : Calm (Some s) n w v = stopped_calm n w s in
      let rises = f.rises in
      let more : n ≤ v.next.cells = omega (arith, low, rises) in
      from_calm (Some s) n w v (removed app w s) f (cleaned_calm n s (clean_ups (hooks_of v s) []) v [] more tt)
