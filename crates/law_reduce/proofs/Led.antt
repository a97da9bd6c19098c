-- A machine that a log leads to from the start of a session is reached, and so are those after it.
use Rattle.std.proofs.Common.{List, [], ◌∷◌, ◌++◌, ◌≡◌, refl, sym, ap, ◌∙◌}
use Rattle.std.specs.Prelude.{Option, Some, None}
use Rattle.rt_model.specs.Tree.{Types}
use Rattle.rt_model.specs.World.{Application}
use Rattle.rt_model.specs.Replay.{Entry, Input, Machine, replay_on, start}
use Rattle.rt_model.specs.Causes.{Limits, accepts_within, replay_within}
use Rattle.rt_model.proofs.ToldReplayed.{replay-append, within-replays}
use Rattle.law_moves.specs.Moves.{Move, entries, IsSettled, Leads}
use Rattle.law_moves.specs.Reached.{Reached}
use Rattle.law_moves.proofs.Limited.{some_limits}
use Rattle.law_moves.proofs.Logs.{logs_are_moves}
use Rattle.law_moves.proofs.Ways.{start_reached, reached_moved}
use Rattle.law_headline.proofs.Reports.{one_machine}

module _ {K : Types} (app : Application K) where
  -- a log leads there from the start of a session
  pub record LedTo (props : K.Props) (all : List (Input K)) (m : Machine K) : Type 0 where
    pub done : List Entry
    pub goes : replay_on app (Some (start app props all)) done ≡ Some m

  pub led_start : (props : K.Props) (all : List (Input K)) → LedTo props all (start app props all)
  led_start props all = record { done = []; goes = refl }

  both_logs : (props : K.Props) (all : List (Input K)) (m v : Machine K) (log : List Entry) (h : LedTo props all m) → replay_on app (Some m) log ≡ Some v
      → replay_on app (Some (start app props all)) (h.done ++ log) ≡ Some v
  both_logs props all m v log h g =
      replay-append app h.done log (Some (start app props all)) ∙ ap (λ (o : Option (Machine K)). replay_on app o log) h.goes ∙ g

  pub led_on : (props : K.Props) (all : List (Input K)) (m v : Machine K) (log : List Entry) → LedTo props all m → replay_on app (Some m) log ≡ Some v → LedTo props all v
  led_on props all m v log h g = record { done = h.done ++ log; goes = both_logs props all m v log h g }

  -- the first of two logs in a row is accepted too
  split_within : (limits : Limits) (o : Option (Machine K)) (xs ys : List Entry) (last : Machine K) → replay_within app limits o (xs ++ ys) ≡ Some last
      → (u : Machine K) × (replay_within app limits o xs ≡ Some u) × (replay_within app limits (Some u) ys ≡ Some last)
  split_within limits None xs ys last h = cc
  split_within limits (Some m) [] ys last h = (m, refl, h)
  split_within limits (Some m) (e ∷ xs) ys last h = split_within limits (accepts_within app limits m e) xs ys last h

  -- within some limits it is reached, and a log from it is that of moves
  pub record Way (props : K.Props) (all : List (Input K)) (m : Machine K) (log : List Entry) (v : Machine K) : Type 0 where
    pub limits : Limits
    pub reached : Reached app limits props all m
    pub moves : List Move
    pub leads : Leads app limits m moves v
    pub entries_are : entries moves ≡ log

  pub way_on : (props : K.Props) (all : List (Input K)) (m v : Machine K) (log : List Entry) → IsSettled m → LedTo props all m → replay_on app (Some m) log ≡ Some v → Way props all m log v
  way_on props all m v log settled h g =
      let first : Machine K = start app props all in
      let found = some_limits app (h.done ++ log) first v (both_logs props all m v log h g) in
      let parts = split_within found.0 (Some first) h.done log v found.1 in
      let same : parts.0 ≡ m = one_machine parts.0 m (sym (within-replays app found.0 h.done first parts.0 parts.1) ∙ h.goes) in
      let here : replay_within app found.0 (Some first) h.done ≡ Some m = parts.1 ∙ ap (λ (z : Machine K). Some z) same in
      let there : replay_within app found.0 (Some m) log ≡ Some v = ap (λ (z : Machine K). replay_within app found.0 (Some z) log) (sym same) ∙ parts.2 in
      let before = logs_are_moves app found.0 first m h.done refl here in
      let after = logs_are_moves app found.0 m v log settled there in
      record {
        limits = found.0;
        reached = reached_moved app found.0 props all first m before.0 (start_reached app found.0 props all) before.1;
        moves = after.0;
        leads = after.1;
        entries_are = after.2;
      }
