-- How a posted session ends: by the drains so far and what is known of the messages behind them.
use Rattle.std.proofs.Common.{◌≡◌, ℕ, ◌≤◌, List, [], ◌∷◌, ◌++◌, map, refl, sym, ap, ◌∙◌, subst, append-nil, inl, inr}
use Rattle.std.specs.Prelude.{◌⊎◌, Option, Some, None, Result, Ok, Err}
use Rattle.rt_edits.specs.declared.edit.Edit.{Edit}
use Rattle.rt_inbox.specs.Ends.{accepted_lists, left_list, taken_list}
use Rattle.rt_inbox.specs.Merge.{IsMerge}
use Rattle.rt_inbox.specs.declared.message.Msg.{Msg}
use Rattle.rt_inbox.specs.declared.message.Post.{Post}
use Rattle.rt_inbox.specs.declared.taken.Taken.{Taken}
use Rattle.run_outside.specs.Ends.{Ends, fault_in}
use Rattle.run_outside.specs.Sessions.{BrokeOff, Finished, FinishedAt}
use Rattle.run_outside.specs.Short.{PartBy}
use Rattle.run_machine.specs.Stands.{RunsAs}
use Rattle.run_outside.specs.declared.ended.Ended.{Ended}
use Rattle.run_outside.specs.declared.ended.Ended.TheVariants as ends
use Rattle.run_machine.proofs.Reporting.{runs_ended, runs_none_wanting, wanting}
use Rattle.run_outside.proofs.Reports.{sofar-end}
use Rattle.run_outside.proofs.Short.{short_as}
use Rattle.run_outside.proofs.Sinks.{ends-run}
use Rattle.rt_model.specs.Document as doc
use Rattle.rt_model.specs.Lists.{joined}
use Rattle.rt_model.specs.Merge.{AreSized, HasFronts, ValidOverCuts, drained}
use Rattle.rt_model.specs.OneLog.{types}
use Rattle.rt_model.specs.Replay as replay
use Rattle.rt_model.specs.Sentences.{IsFrontOf}
use Rattle.rt_model.specs.State as model
use Rattle.rt_model.specs.World.{Application}
use Rattle.run_reports.specs.Counted.{edits_in}
use Rattle.run_reports.specs.Seen.{limits_of, message_of, report_of}
use Rattle.run_reports.specs.declared.limits.Limits.{Limits}
use Rattle.run_reports.specs.declared.report.Report.{Report}
use Rattle.run_state.specs.declared.names.Stop.TheVariants as stops
use Rattle.rt_session.specs.Meetings.{AllTaken, Fails, Succeeds}
use Rattle.rt_session.specs.Posted.{TookAll, drains_of, lists_of}
use Rattle.rt_session.specs.Sittings.{Awaits, Ceases, IsUnbuilt, IsWanting, TakesIn}
use Rattle.rt_session.specs.declared.sitting.Sitting.{Sitting}
use Rattle.rt_session.proofs.Cuts.{cut_of, fronts_of, singles, valid_of}
use Rattle.rt_session.proofs.Ending.{never_refused, never_some}
use Rattle.rt_session.proofs.Going.{wants}

-- what was taken of a unit that was cut is a front of its edits
part_front : (ended : Ended) (taken edits : List doc.Edit) → PartBy ended taken edits → PartBy (ends.Run stops.OutOfMemory) taken edits
part_front ends.Sink taken edits h = (h.0 ∷ h.1, h.2)
part_front (ends.OutOfTurns units) taken edits h = h
part_front (ends.TooDeep height) taken edits h = h
part_front (ends.Run stop) taken edits h = h

-- an end told as want of memory
ends_wanting : (limits : Limits) (least : ℕ) (old new : Option (List Edit)) (f g : ℕ) (ended : Ended) → Ends limits least old new f g ended
    → Ends limits least old new f g (ends.Run stops.OutOfMemory)
ends_wanting limits least old new f g ended e = record { edits = e.edits; told = e.told; counted = e.counted; later = e.later; cause = tt }

-- messages behind the drains make them a merge of the posts
abbrev pub IsLeft : List (List Post) → List (List Msg) → Type 0
IsLeft posts drains = (rest : List Msg) × IsMerge (joined drains ++ rest) posts

-- unless memory was wanting they hold fronts
held_fronts : (posts : List (List Post)) (drains : List (List Msg)) (ended : Ended) → IsWanting ended ⊎ IsLeft posts drains
    → IsWanting ended ⊎ HasFronts (drains_of drains) (lists_of posts)
held_fronts posts drains ended (inl memory) = inl memory
held_fronts posts drains ended (inr left) = inr (fronts_of drains left.0 posts left.1)

module _ {C Q V H T E L : Type 0} (app : Application (types C Q V H T E L)) (limits : Limits) (props : Q) (before now : Option (List Edit)) where
  -- with no input behind the drains
  none_behind : (drains : List (List Msg)) (reports : List Report) (result : Result (Unit {0}) Ended)
      → RunsAs app (limits_of limits) props (drained (drains_of drains) ++ []) before now reports result
      → RunsAs app (limits_of limits) props (drained (drains_of drains)) before now reports result
  none_behind drains reports result runs =
      subst (λ (ins : List (replay.Input (types C Q V H T E L))). RunsAs app (limits_of limits) props ins before now reports result)
      (append-nil (drained (drains_of drains))) runs

module _ {P C Q V H T E L : Type 0} (app : Application (types C Q V H T E L)) (limits : Limits) (props : Q) (posts : List (List Post))
    (before : Option (List Edit)) (faults : ℕ) (now : Option (List Edit)) (count : ℕ) where
  -- where cuts are valid no fault was come to
  no_fault : (s : Sitting P C Q V H T E L) (ended : Ended)
      → Ceases app limits props before faults now count s ended
      → IsWanting ended ⊎ IsLeft posts s.drains
      → 1 ≤ limits.drain
      → ValidOverCuts app props (lists_of posts) (limits_of limits)
      → fault_in ended ≡ None
  no_fault s ended ceased (inl memory) some valid = ap fault_in memory
  no_fault s ended ceased (inr left) some valid =
      never_some (fault_in ended)
      (λ fault why.
      never_refused app props (drained (drains_of s.drains) ++ drained (singles (map message_of left.0))) (limits_of limits) _ _ fault
      (valid_of app props (limits_of limits) s.drains left.0 posts valid left.1 ceased.sized some)
      ((ceased.runs (drained (singles (map message_of left.0)))).0 fault why).ran_to)

  -- it ended early
  pub failed : (s : Sitting P C Q V H T E L) (ended : Ended)
      → Ceases app limits props before faults now count s ended
      → IsWanting ended ⊎ IsLeft posts s.drains
      → 1 ≤ limits.drain
      → Fails app limits props posts before faults now count s.drains s.reports ended
  failed s ended ceased left some =
      let runs : RunsAs app (limits_of limits) props (drained (drains_of s.drains)) before now s.reports (Err ended) =
      none_behind app limits props before now s.drains s.reports (Err ended) (ceased.runs []) in
      record {
        cause = ceased.cause;
        sized = ceased.sized;
        fronts = held_fronts posts s.drains ended left;
        came = runs.0;
        valid = no_fault s ended ceased left some;
        broke = λ none. inl (runs.1 none);
      }

  -- an end for which want of memory is told
  covered : (s : Sitting P C Q V H T E L) (ended : Ended) (which : Option model.Fault)
      → fault_in ended ≡ which
      → RunsAs app (limits_of limits) props (drained (drains_of s.drains)) before now s.reports (Err ended)
      → BrokeOff app props (drained (drains_of s.drains)) (limits_of limits) before now (map report_of s.reports) (PartBy (ends.Run stops.OutOfMemory))
      ⊎ (IsWanting (ends.Run stops.OutOfMemory) × (fault : model.Fault)
      × FinishedAt app props (drained (drains_of s.drains)) (limits_of limits) before now (map report_of s.reports) fault)
  covered s ended (Some fault) why runs = inr (refl, fault, runs.0 fault why)
  covered s ended None why runs =
      let broke = runs.1 why in
      inl
      (record {
        wrote = broke.wrote;
        told = broke.told;
        ran_short = short_as app (limits_of limits) props (drained (drains_of s.drains)) _ _ _ _ (part_front ended) broke.ran_short;
      })

  ceased_wanting : (s : Sitting P C Q V H T E L) (ended : Ended)
      → Ceases app limits props before faults now count s ended
      → Fails app limits props posts before faults now count s.drains s.reports (ends.Run stops.OutOfMemory)
  ceased_wanting s ended ceased =
      record {
        cause = ends_wanting limits (edits_in s.reports) before now faults count ended ceased.cause;
        sized = ceased.sized;
        fronts = inl refl;
        came = λ fault why. wanting fault why;
        valid = λ valid. refl;
        broke = λ none. covered s ended (fault_in ended) refl (none_behind app limits props before now s.drains s.reports (Err ended) (ceased.runs []));
      }

  -- the inbox could not be ended, or a post was refused
  pub failed_wanting : (s : Sitting P C Q V H T E L) (result : Result (Unit {0}) Ended)
      → TakesIn app limits props before faults now count s result
      → Fails app limits props posts before faults now count s.drains s.reports (ends.Run stops.OutOfMemory)
  failed_wanting s (Ok u) awaits = ceased_wanting s (ends.Run stops.OutOfMemory) (wants app limits props before faults now count s awaits)
  failed_wanting s (Err ended) ceased = ceased_wanting s ended ceased

  -- all was taken
  pub succeeded : (s : Sitting P C Q V H T E L) (inbox : Taken)
      → Awaits app limits props before faults now count s
      → IsMerge (joined s.drains) posts
      → taken_list inbox ++ left_list inbox ≡ joined s.drains
      → accepted_lists inbox ≡ posts
      → Succeeds app limits props posts before faults now count s.drains s.reports inbox
  succeeded s inbox awaits merge messages accepted =
      record {
        finished =
            none_behind app limits props before now s.drains s.reports (Ok tt)
            (runs_ended app (limits_of limits) props (drained (drains_of s.drains) ++ []) before now s.reports [] s.taken s.machine (awaits.runs [])
            (sofar-end _ [] s.taken s.reports refl (awaits.sofar [])));
        counted = awaits.took.later;
        taken = record {
          cut = cut_of s.drains posts limits.drain merge awaits.sized;
          messages = messages;
          accepted = accepted;
        };
      }

module _ {C Q V H T E L : Type 0} (app : Application (types C Q V H T E L)) (limits : Limits) (props : Q) (posts : List (List Post))
    (now : Option (List Edit)) (count : ℕ) where
  -- memory was wanting before anything was done
  pub failed_first : (drains : List (List Msg)) (reports : List Report) → drains ≡ [] → reports ≡ []
      → Fails app limits props posts now count now count drains reports (ends.Run stops.OutOfMemory)
  failed_first drains reports empty none =
      let runs : RunsAs app (limits_of limits) props (drained (drains_of drains)) now now reports (Err (ends.Run stops.OutOfMemory)) =
      runs_none_wanting app (limits_of limits) props (drained (drains_of drains)) now reports none in
      record {
        cause = subst (λ rs. Ends limits (edits_in rs) now now count count (ends.Run stops.OutOfMemory)) (sym none) (ends-run limits now count stops.OutOfMemory);
        sized = subst (λ ds. AreSized limits.drain (drains_of ds)) (sym empty) tt;
        fronts = inl refl;
        came = runs.0;
        valid = λ valid. refl;
        broke = λ nothing. inl (runs.1 nothing);
      }
