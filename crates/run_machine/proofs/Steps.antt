-- Single steps of a session, as the definitions have them.
use Rattle.std.proofs.Common.{ℕ, true, false, List, [], ◌∷◌, ◌++◌, ◌≡◌, refl, sym, ap, ◌∙◌, subst, map, nat_eq, length, Err}
use Rattle.std.specs.Prelude.{Option, Some, None}
pub use Rattle.rt_lemmas.proofs.Numbers.{eq_false as not_equal}
use Rattle.rt_model.specs.OneLog.{types}
use Rattle.rt_model.specs.Tree.{Types}
use Rattle.rt_model.specs.World.{Application}
use Rattle.run_reports.specs.Seen.{entry_of}
use Rattle.rt_model.specs.State as model
use Rattle.rt_model.specs.State.{Outcome, Done, Cut}
use Rattle.rt_model.specs.Next as next
use Rattle.rt_model.specs.Replay as replay
use Rattle.rt_model.specs.Causes as causes
use Rattle.rt_scopes.specs.Outcomes.{CutBy}
use Rattle.run_state.specs.Mirror.{Unkept, scopes_of, state_of}
use Rattle.run_state.specs.Names.{fault_of}
use Rattle.run_state.specs.declared.names.Stop.{Stop}
use Rattle.run_state.specs.declared.names.Stop.TheVariants as stops
use Rattle.run_shown.specs.Stands.{Stands}
use Rattle.law_moves.specs.Turn.{turn_of, unit_of, entry_for}
use Rattle.run_standing.specs.Changes.{AllKept, KeepsFor, changes_of}
use Rattle.run_machine.specs.Machines.{first_in, is_rerun, DidAs, BeginsAs, ServesAs, RemembersFor, Remembers, StillRemembers, KeepsLow, KeepsOn}
use Rattle.run_turns.specs.Notes.{NotedBy}
use Rattle.run_turns.specs.declared.course.Course.{Course}
use Rattle.run_outside.specs.declared.ended.Ended.TheVariants as ends
use Rattle.run_machine.specs.declared.machine.Machine.{Machine}
use Rattle.run_standing.proofs.Framed.{LeavesOthers, state_in, turn_leaves, rerun_leaves, stands_after, stands_mounted}

module _ {P C Q V H T E L : Type 0} (app : Application (types C Q V H T E L)) where
  -- a change that was cut, or for which memory was wanting
  pub did_cut : (o : Outcome (types C Q V H T E L)) (es : List replay.Entry) (old new : Machine P C Q V H T E L) (h : Unkept (types C Q V H T E L)) (stop : Stop)
      → CutBy o (state_of h (new.scopes).state) stop → NotedBy {A = Unit {0}} (old.course).entries (new.course).entries es (Err stop) → DidAs app o es old new (Err stop)
  did_cut o es old new h stops.OutOfMemory cut log = tt
  did_cut o es old new h (stops.Fault what) cut log = record { kept = h; cut = cut; logged = log }

  -- a unit whose own call was cut
  pub begun_cut : (limits : causes.Limits) (o : Outcome (types C Q V H T E L)) (es : List replay.Entry) (old mid new : Machine P C Q V H T E L) (stop : Stop)
      → nat_eq old.units limits.units ≡ false → mid.course ≡ old.course → DidAs app o es mid new (Err stop) → BeginsAs app limits o es old new (Err (ends.Run stop))
  begun_cut limits o es old mid new stops.OutOfMemory left same h = tt
  begun_cut limits o es old mid new (stops.Fault what) left same h =
      (left, record { kept = h.kept; cut = h.cut; logged = h.logged ∙ ap (λ (k : Course). map entry_of k.entries ++ es) same })

  -- an item whose change was cut
  pub served_cut : (deep : Option model.Fault) (o : Outcome (types C Q V H T E L)) (es : List replay.Entry) (old new : Machine P C Q V H T E L) (stop : Stop)
      → deep ≡ None → DidAs app o es old new (Err stop) → ServesAs app deep o es old new (Err (ends.Run stop))
  served_cut deep o es old new stops.OutOfMemory low h = tt
  served_cut deep o es old new (stops.Fault what) low h = (low, h)

  kept_rerun : (first : Option replay.Entry) (old new : Machine P C Q V H T E L) (was : List (ℕ × model.Scope (types C Q V H T E L)))
      → (is_rerun first ≡ true → Stands old.stood was (scopes_of ((old.scopes).state.rows).table) → Stands new.stood was (scopes_of ((new.scopes).state.rows).table))
      → new.lived ≡ old.lived
      → RemembersFor first old was → RemembersFor first new was
  kept_rerun (Some (replay.Rerun s)) old new was stands count h = (stands refl h.0, count ∙ h.1)
  kept_rerun None old new was stands count h = tt
  kept_rerun (Some replay.Build) old new was stands count h = tt
  kept_rerun (Some (replay.Taken k)) old new was stands count h = tt
  kept_rerun (Some (replay.Heard s)) old new was stands count h = tt
  kept_rerun (Some (replay.Poll t)) old new was stands count h = tt
  kept_rerun (Some (replay.Effects s)) old new was stands count h = tt
  kept_rerun (Some (replay.Made s)) old new was stands count h = tt
  kept_rerun (Some (replay.Fed s)) old new was stands count h = tt
  kept_rerun (Some (replay.Kept s)) old new was stands count h = tt
  kept_rerun (Some (replay.Removed s)) old new was stands count h = tt

  -- after a turn at an item it is still remembered what the scopes were
  pub still_remembers : (item : model.Item (types C Q V H T E L)) (old new : Machine P C Q V H T E L) (g h : Unkept (types C Q V H T E L)) (was : List (ℕ × model.Scope (types C Q V H T E L)))
      → first_in new ≡ first_in old
      → new.lived ≡ old.lived
      → (is_rerun (first_in old) ≡ true → AllKept new.stood (changes_of app (state_of g (old.scopes).state) item))
      → (Stands old.stood was (scopes_of ((old.scopes).state.rows).table) → Stands new.stood was (scopes_of ((old.scopes).state.rows).table))
      → state_in (turn_of app (state_of g (old.scopes).state) item) ≡ state_of h (new.scopes).state
      → Remembers old was → Remembers new was
  still_remembers item old new g h was first count kept stands after remembers =
      let w = state_of g (old.scopes).state in
      let v = state_of h (new.scopes).state in
      subst (λ (o : Option replay.Entry). RemembersFor o new was) (sym first)
      (kept_rerun (first_in old) old new was
      (
      λ rerun before.
      stands_after new.stood was (changes_of app w item) w v (stands before) (kept rerun)
      (subst (λ (x : model.State (types C Q V H T E L)). LeavesOthers (changes_of app w item) w x) after (turn_leaves app w item))
      )
      count remembers)

  -- at the begin of a unit it is remembered what the scopes were
  pub begun_remembers : (work : next.Work) (e : replay.Entry) (old new : Machine P C Q V H T E L) (g h : Unkept (types C Q V H T E L))
      → e ≡ entry_for work
      → KeepsFor work new.stood (scopes_of ((old.scopes).state.rows).table)
      → new.lived ≡ length (scopes_of ((old.scopes).state.rows).table)
      → state_in (unit_of app (state_of g (old.scopes).state) work) ≡ state_of h (new.scopes).state
      → RemembersFor (Some e) new (scopes_of ((old.scopes).state.rows).table)
  begun_remembers (next.RerunScope s) e old new g h is kept count after =
      let w = state_of g (old.scopes).state in
      let v = state_of h (new.scopes).state in
      subst (λ (x : replay.Entry). RemembersFor (Some x) new w.scopes) (sym is) (
        stands_after new.stood w.scopes (s ∷ []) w v kept.0 (kept.1, tt)
            (subst (λ (x : model.State (types C Q V H T E L)). LeavesOthers (s ∷ []) w x) after (rerun_leaves app w s)),
        count,
      )
  begun_remembers (next.PollTask t) e old new g h is kept count after =
      subst (λ (x : replay.Entry). RemembersFor (Some x) new (scopes_of ((old.scopes).state.rows).table)) (sym is) tt
  begun_remembers (next.RunEffects s) e old new g h is kept count after =
      subst (λ (x : replay.Entry). RemembersFor (Some x) new (scopes_of ((old.scopes).state.rows).table)) (sym is) tt

module _ {K : Types} where
  -- by what a turn came to
  pub cut_state : (o : Outcome K) (v : model.State K) (fault : model.Fault) → o ≡ Cut v fault → state_in o ≡ v
  cut_state o v fault h = ap (λ x. state_in x) h

  pub stopped_state : (o : Outcome K) (v : model.State K) (stop : Stop) (what : _) → stop ≡ stops.Fault what → CutBy o v stop → state_in o ≡ v
  stopped_state o v stop what is cut = cut_state o v (fault_of what) (subst (λ (s : Stop). CutBy o v s) is cut)

  pub done_state : (o : Outcome K) (v : model.State K) (work : List (model.Item K)) → o ≡ Done v work → state_in o ≡ v
  done_state o v work h = ap (λ x. state_in x) h

module _ {P C Q V H T E L : Type 0} where
  -- nothing is said where memory was wanting
  pub keeps_low : (old new : Machine P C Q V H T E L) (stop : Stop) → ((what : _) → stop ≡ stops.Fault what → StillRemembers old new) → KeepsLow old new (Err stop)
  keeps_low old new stops.OutOfMemory h = tt
  keeps_low old new (stops.Fault what) h = h what refl

  pub keeps_on : (old new : Machine P C Q V H T E L) (stop : Stop) → KeepsLow old new (Err stop) → KeepsOn old new (Err (ends.Run stop))
  keeps_on old new stops.OutOfMemory h = tt
  keeps_on old new (stops.Fault what) h = h

pub one_entry : (a b : replay.Entry) → Some a ≡ Some b → a ≡ b
one_entry a b h = cc

module _ {P C Q V H T E L : Type 0} where
  -- what is mounted is remembered as it was
  pub mounted_remembers : (first : replay.Entry) (old mid : Machine P C Q V H T E L) (g : Unkept (types C Q V H T E L)) (was : List (ℕ × model.Scope (types C Q V H T E L)))
      → mid.stood ≡ old.stood → mid.lived ≡ old.lived
      → state_of g (mid.scopes).state ≡ replay.mounted_state (state_of g (old.scopes).state)
      → RemembersFor (Some first) old was → RemembersFor (Some first) mid was
  mounted_remembers (replay.Rerun s) old mid g was stood scopes state h =
      let there : Stands old.stood was (replay.mounted_state (state_of g (old.scopes).state)).scopes = stands_mounted old.stood was (state_of g (old.scopes).state) h.0 in
      let here : Stands old.stood was (scopes_of ((mid.scopes).state.rows).table) = subst (λ (w : model.State (types C Q V H T E L)). Stands old.stood was w.scopes) (sym state) there in
      (subst (λ xs. Stands xs was (scopes_of ((mid.scopes).state.rows).table)) (sym stood) here, scopes ∙ h.1)
  mounted_remembers replay.Build old mid g was stood scopes state h = tt
  mounted_remembers (replay.Taken k) old mid g was stood scopes state h = tt
  mounted_remembers (replay.Heard s) old mid g was stood scopes state h = tt
  mounted_remembers (replay.Poll t) old mid g was stood scopes state h = tt
  mounted_remembers (replay.Effects s) old mid g was stood scopes state h = tt
  mounted_remembers (replay.Made s) old mid g was stood scopes state h = tt
  mounted_remembers (replay.Fed s) old mid g was stood scopes state h = tt
  mounted_remembers (replay.Kept s) old mid g was stood scopes state h = tt
  mounted_remembers (replay.Removed s) old mid g was stood scopes state h = tt

-- no fault is none
pub no_fault : {P : Type 0} {fault : model.Fault} (o : Option model.Fault) → o ≡ None → o ≡ Some fault → P
no_fault o none some = cc
