-- What a turn makes of where a session stands.
use Rattle.std.proofs.Common.{ℕ, false, List, [], ◌∷◌, ◌++◌, ◌≡◌, refl, sym, ap, ◌∙◌, subst, map, Err, reverse, append_assoc}
use Rattle.std.proofs.lemmas.List.{append-nil}
use Rattle.std.specs.Prelude.{Option, Some, None, is_some, option_map}
use Rattle.rt_lemmas.proofs.Options.{none_some, some_same as some_fault}
use Rattle.rt_edits.specs.Sinks.{grown}
use Rattle.rt_edits.specs.declared.edit.Edit.{Edit}
use Rattle.tree_edits.specs.Documents.{edit_of}
use Rattle.rt_model.specs.Document as doc
use Rattle.rt_model.specs.OneLog.{types}
use Rattle.rt_model.specs.Tree.{Types}
use Rattle.rt_model.specs.World.{Application}
use Rattle.rt_model.specs.Laws.{IsLawful}
use Rattle.rt_model.specs.State as model
use Rattle.rt_model.specs.State.{Outcome, Done, Cut}
use Rattle.rt_model.specs.Next.{at_rest, next_at_rest}
use Rattle.rt_model.specs.Heard.{Listener}
use Rattle.rt_model.specs.Replay as replay
use Rattle.rt_model.specs.Caused.{caused, caused_until}
use Rattle.rt_model.specs.Causes as causes
use Rattle.rt_model.specs.Causes.{depth_refused, height_at}
use Rattle.law_moves.specs.Moves.{busy, AtRest}
use Rattle.run_reports.specs.Seen.{entry_of}
use Rattle.run_state.specs.Mirror.{Unkept, state_of}
use Rattle.run_state.specs.Names.{fault_of}
use Rattle.run_state.specs.declared.names.Stop.TheVariants as stops
use Rattle.law_moves.specs.Turn.{turn_of, entries_at}
use Rattle.law_moves.specs.Underway.{Rests, Works, Refused}
use Rattle.law_moves.proofs.ItemTurns.{works_turn, works_cut, works_deep}
use Rattle.law_moves.proofs.Underway.{works_close}
use Rattle.law_moves.proofs.Begins.{rests_heard, heard_cut}
use Rattle.run_work.specs.Items.{work_of}
use Rattle.run_turns.specs.Counting.{CountsAlong, calls_after}
use Rattle.run_machine.specs.Machines.{machine_of, open_work, noted, first_in, Did, WasCut, ServesAs, HeardOne, HeardPart, RemembersFor, StillRemembers, KeepsOn}
use Rattle.run_outside.specs.Ends.{fault_in}
use Rattle.run_machine.specs.Stands.{Going, StandsFor, StandsAt, StandsBefore, StandsQuiet, Settled, CameTo, GoesOn}
use Rattle.run_machine.specs.Writings.{Closes, WroteUntil}
use Rattle.run_outside.specs.declared.ended.Ended.{Ended}
use Rattle.run_outside.specs.declared.ended.Ended.TheVariants as ends
use Rattle.run_machine.specs.declared.machine.Machine.{Machine}
use Rattle.run_standing.proofs.Orderly.{orderly_reached}

pub grown_none : (old : Option (List Edit)) → old ≡ grown old []
grown_none None = refl
grown_none (Some edits) = ap Some (sym (append-nil edits))

module _ {K : Types} where
  abbrev pub deep_at : causes.Limits → model.State K → model.Item K → Option model.Fault
  deep_at limits w item = depth_refused limits (height_at w (item ∷ []))

module _ {P C Q V H T E L : Type 0} where
  -- what a turn at open work may change of a session
  abbrev pub Within : Machine P C Q V H T E L → Machine P C Q V H T E L → Type 0
  Within old new = new ≡ record old { scopes = new.scopes; work = new.work; stood = new.stood; course = new.course }

  -- so the machine changes its state and its open work
  busy_is : (g h : Unkept (types C Q V H T E L)) (left : List (replay.Input (types C Q V H T E L))) (taken : ℕ) (old new : Machine P C Q V H T E L) (items : List (model.Item (types C Q V H T E L)))
      → Within old new → open_work new ≡ items
      → busy (machine_of g left taken old) (state_of h (new.scopes).state) items ≡ machine_of h left taken new
  busy_is g h left taken old new items frame open_is =
      ap (λ xs. busy (machine_of g left taken old) (state_of h (new.scopes).state) xs) (sym open_is)
      ∙ sym (ap (λ (d : Machine P C Q V H T E L). machine_of h left taken d) frame)

  pub still_first : (old new : Machine P C Q V H T E L) (first : replay.Entry) → Within old new → first_in old ≡ Some first → first_in new ≡ Some first
  still_first old new first frame is = ap (λ (d : Machine P C Q V H T E L). first_in d) frame ∙ is

  pub still_remembered : (g : Unkept (types C Q V H T E L)) (old new : Machine P C Q V H T E L) (first : replay.Entry) (was : List (ℕ × model.Scope (types C Q V H T E L)))
      → first_in old ≡ Some first → first_in new ≡ Some first → StillRemembers old new → RemembersFor (Some first) old was → RemembersFor (Some first) new was
  still_remembered g old new first was before after still h =
      subst (λ (o : Option replay.Entry). RemembersFor o new was) after (still g was (subst (λ (o : Option replay.Entry). RemembersFor o old was) (sym before) h))

module _ {P C Q V H T E L : Type 0} (app : Application (types C Q V H T E L)) (limits : causes.Limits) (r : Going (types C Q V H T E L)) where
  -- a fault came, whatever the count is by now
  pub came_along : (count : Option ℕ) (edits : List doc.Edit) (before after : Option (List Edit)) (fault : model.Fault) (d : Machine P C Q V H T E L)
      → CameTo app limits r edits before after fault d → CameTo app limits (record r { count = count }) edits before after fault d
  came_along count edits before after fault d came = record { wrote = came.wrote; told = came.told; refused = came.refused }

module _ {P C Q V H T E L : Type 0} (app : Application (types C Q V H T E L)) (lawful : IsLawful (types C Q V H T E L) app) (limits : causes.Limits) (r : Going (types C Q V H T E L)) where
  -- an item is served
  pub stands_served : (count : Option ℕ) (item : model.Item (types C Q V H T E L)) (first : replay.Entry) (edits : List doc.Edit) (old new : Machine P C Q V H T E L)
      → StandsBefore app limits r item first edits old
      → first_in old ≡ Some first
      → Within old new
      → ((g : Unkept (types C Q V H T E L)) → (deep_at limits (state_of g (old.scopes).state) item ≡ None) × Did app (turn_of app (state_of g (old.scopes).state) item) (entries_at app (state_of g (old.scopes).state) item) old new)
      → StillRemembers old new
      → ((g : Unkept (types C Q V H T E L)) → CountsAlong r.count g.calls → CountsAlong count (calls_after (turn_of app (state_of g (old.scopes).state) item)))
      → StandsAt app limits (record r { count = count }) edits new
  stands_served count item first edits old new s is frame serves still counts =
      let g = s.0 in
      let w = s.1 in
      let d = serves g in
      let did = d.1 in
      let h = did.kept in
      let v = state_of h (new.scopes).state in
      let m = record (machine_of g r.left r.taken old) { work = item ∷ open_work old } in
      let es = entries_at app (state_of g (old.scopes).state) item in
      let now : first_in new ≡ Some first = still_first old new first frame is in
      let on = works_turn app lawful limits r.props r.inputs r.from m (r.opened ++ noted old) edits w first item (open_work old) v did.work s.2 refl d.0 did.done in
      let same = busy_is g h r.left r.taken old new (did.work ++ open_work old) frame did.open_is in
      let here : Works app limits r.props r.inputs r.from (r.opened ++ (noted old ++ es)) edits w first (machine_of h r.left r.taken new) =
      subst (λ (l : List replay.Entry). Works app limits r.props r.inputs r.from l edits w first (machine_of h r.left r.taken new)) (append_assoc r.opened (noted old) es)
      (subst (λ (x : replay.Machine (types C Q V H T E L)). Works app limits r.props r.inputs r.from ((r.opened ++ noted old) ++ es) edits w first x) same on) in
      let there : Works app limits r.props r.inputs r.from (r.opened ++ noted new) edits w first (machine_of h r.left r.taken new) =
      subst (λ (l : List replay.Entry). Works app limits r.props r.inputs r.from (r.opened ++ l) edits w first (machine_of h r.left r.taken new)) (sym did.logged) here in
      let kept = still_remembered g old new first w.scopes is now still s.3 in
      let goes : CountsAlong count h.calls = subst (λ (o : Outcome (types C Q V H T E L)). CountsAlong count (calls_after o)) did.done (counts g s.4) in
      subst (λ (o : Option replay.Entry). StandsFor app limits (record r { count = count }) o edits new) (sym now) (h, w, there, kept, goes)

  -- a make is too deep, and what was written up to it is taken
  deep_came : (item : model.Item (types C Q V H T E L)) (first : replay.Entry) (edits : List doc.Edit) (old new : Machine P C Q V H T E L) (before after : Option (List Edit)) (fault : model.Fault)
      → StandsBefore app limits r item first edits old
      → first_in old ≡ Some first
      → ((g : Unkept (types C Q V H T E L)) → deep_at limits (state_of g (old.scopes).state) item ≡ Some fault)
      → new ≡ old
      → WroteUntil item new before after
      → CameTo app limits r edits before after fault new
  deep_came item first edits old new before after fault s is deep same wrote =
      let g = s.0 in
      let w = s.1 in
      let m = record (machine_of g r.left r.taken old) { work = item ∷ open_work old } in
      let here : WroteUntil item old before after = subst (λ (d : Machine P C Q V H T E L). WroteUntil item d before after) same wrote in
      let refused = works_deep app lawful limits r.props r.inputs r.from m (r.opened ++ noted old) edits w first item (open_work old) fault s.2 refl (deep g) in
      let are : map edit_of here.wrote ≡ caused_until app w (state_of g (old.scopes).state) (Some item) first = here.are first is app lawful g w s.3 in
      subst (λ (d : Machine P C Q V H T E L). CameTo app limits r edits before after fault d) (sym same)
      (record {
        wrote = here.wrote;
        told = here.told;
        refused = subst (λ (es : List doc.Edit). Refused app limits r.props r.inputs r.from (r.opened ++ noted old) (edits ++ es) fault) (sym are) refused;
      })

  -- an item's change was cut
  cut_came : (item : model.Item (types C Q V H T E L)) (first : replay.Entry) (edits : List doc.Edit) (old new : Machine P C Q V H T E L) (before after : Option (List Edit)) (fault : model.Fault)
      → StandsBefore app limits r item first edits old
      → first_in old ≡ Some first
      → Within old new
      → ((g : Unkept (types C Q V H T E L)) → (deep_at limits (state_of g (old.scopes).state) item ≡ None) × WasCut app (turn_of app (state_of g (old.scopes).state) item) (entries_at app (state_of g (old.scopes).state) item) fault old new)
      → StillRemembers old new
      → WroteUntil item new before after
      → CameTo app limits r edits before after fault new
  cut_came item first edits old new before after fault s is frame serves still wrote =
      let g = s.0 in
      let w = s.1 in
      let d = serves g in
      let cut = d.1 in
      let h = cut.kept in
      let v = state_of h (new.scopes).state in
      let m = record (machine_of g r.left r.taken old) { work = item ∷ open_work old } in
      let es = entries_at app (state_of g (old.scopes).state) item in
      let now : first_in new ≡ Some first = still_first old new first frame is in
      let refused = works_cut app lawful limits r.props r.inputs r.from m (r.opened ++ noted old) edits w first item (open_work old) v fault s.2 refl d.0 cut.cut in
      let kept = still_remembered g old new first w.scopes is now still s.3 in
      let are : map edit_of wrote.wrote ≡ caused_until app w v (Some item) first = wrote.are first now app lawful h w kept in
      record {
        wrote = wrote.wrote;
        told = wrote.told;
        refused =
            subst (λ (l : List replay.Entry). Refused app limits r.props r.inputs r.from (r.opened ++ l) (edits ++ map edit_of wrote.wrote) fault) (sym cut.logged)
            (subst (λ (l : List replay.Entry). Refused app limits r.props r.inputs r.from l (edits ++ map edit_of wrote.wrote) fault) (append_assoc r.opened (noted old) es)
            (subst (λ (xs : List doc.Edit). Refused app limits r.props r.inputs r.from ((r.opened ++ noted old) ++ es) (edits ++ xs) fault) (sym are) refused));
      }

  -- an item was refused
  pub stands_refused : (item : model.Item (types C Q V H T E L)) (first : replay.Entry) (edits : List doc.Edit) (old new : Machine P C Q V H T E L) (before after : Option (List Edit)) (ended : Ended) (fault : model.Fault)
      → StandsBefore app limits r item first edits old
      → first_in old ≡ Some first
      → Within old new
      → ((g : Unkept (types C Q V H T E L)) → ServesAs app (deep_at limits (state_of g (old.scopes).state) item) (turn_of app (state_of g (old.scopes).state) item) (entries_at app (state_of g (old.scopes).state) item) old new (Err ended))
      → KeepsOn old new (Err ended)
      → fault_in ended ≡ Some fault
      → WroteUntil item new before after
      → CameTo app limits r edits before after fault new
  stands_refused item first edits old new before after ends.Sink fault s is frame serves still why wrote = none_some why
  stands_refused item first edits old new before after (ends.OutOfTurns units) fault s is frame serves still why wrote = absurd (serves s.0)
  stands_refused item first edits old new before after (ends.TooDeep height) fault s is frame serves still why wrote =
      deep_came item first edits old new before after fault s is (λ g. (serves g).0 ∙ why) (serves s.0).1 wrote
  stands_refused item first edits old new before after (ends.Run stops.OutOfMemory) fault s is frame serves still why wrote = none_some why
  stands_refused item first edits old new before after (ends.Run (stops.Fault what)) fault s is frame serves still why wrote =
      subst (λ (f : model.Fault). CameTo app limits r edits before after f new) (some_fault (fault_of what) fault why)
      (cut_came item first edits old new before after (fault_of what) s is frame serves still wrote)

  -- a unit ends
  pub stands_closed : (first : replay.Entry) (edits : List doc.Edit) (old new : Machine P C Q V H T E L) (before after : Option (List Edit)) (count : ℕ)
      → StandsFor app limits r (Some first) edits old
      → old.work ≡ []
      → new ≡ record old { scopes = new.scopes; first = new.first }
      → new.first ≡ None
      → ((g : Unkept (types C Q V H T E L)) → state_of g (new.scopes).state ≡ replay.mounted_state (state_of g (old.scopes).state))
      → Closes first old before after count
      → GoesOn app limits r edits before after count new
  stands_closed first edits old new before after count s idle frame over mounted closes =
      let g = s.0 in
      let w = s.1 in
      let m = machine_of g r.left r.taken old in
      let now : first_in new ≡ None = ap (λ o. option_map entry_of o) over in
      let none : open_work old ≡ [] = ap (λ xs. work_of (reverse xs)) idle in
      let closed = works_close app limits r.props r.inputs r.from m (r.opened ++ noted old) edits w first s.2 none in
      let same : machine_of g r.left r.taken new ≡ record m { unit = false; state = replay.mounted_state m.state } =
      ap (λ (d : Machine P C Q V H T E L). machine_of g r.left r.taken d) frame
      ∙ ap (λ (x : model.State (types C Q V H T E L)). record m { state = x; unit = is_some (first_in new) }) (mounted g)
      ∙ ap (λ (o : Option replay.Entry). record m { state = replay.mounted_state m.state; unit = is_some o }) now in
      let are : map edit_of closes.wrote ≡ caused app w (replay.mounted_state m.state) first = closes.are app lawful g w s.3 (orderly_reached app lawful limits r.props r.inputs (record m { unit = false; state = replay.mounted_state m.state }) closed.reached (closed.rest).alive (closed.rest).idle) in
      let log : noted new ≡ noted old = ap (λ (d : Machine P C Q V H T E L). noted d) frame in
      let wrote : List doc.Edit = edits ++ map edit_of closes.wrote in
      let rests : Rests app limits r.props r.inputs r.from (r.opened ++ noted new) wrote (machine_of g r.left r.taken new) =
      subst (λ (l : List replay.Entry). Rests app limits r.props r.inputs r.from (r.opened ++ l) wrote (machine_of g r.left r.taken new)) (sym log)
      (subst (λ (x : replay.Machine (types C Q V H T E L)). Rests app limits r.props r.inputs r.from (r.opened ++ noted old) wrote x) (sym same)
      (subst (λ (es : List doc.Edit). Rests app limits r.props r.inputs r.from (r.opened ++ noted old) (edits ++ es) (record m { unit = false; state = replay.mounted_state m.state })) (sym are) closed)) in
      record {
        wrote = closes.wrote;
        told = closes.told;
        counted = closes.counted;
        stands = subst (λ (o : Option replay.Entry). StandsFor app limits r o wrote new) (sym now) (g, rests, s.4);
      }

  -- nothing is left to do
  pub stands_settled : (edits : List doc.Edit) (old new : Machine P C Q V H T E L)
      → StandsQuiet app limits r edits old
      → old.first ≡ None
      → old.work ≡ []
      → new ≡ record old { scopes = new.scopes }
      → ((g : Unkept (types C Q V H T E L)) → state_of g (new.scopes).state ≡ at_rest (state_of g (old.scopes).state))
      → ((g : Unkept (types C Q V H T E L)) → None ≡ next_at_rest (state_of g (new.scopes).state))
      → Settled app limits r edits new
  stands_settled edits old new s over idle frame rested none =
      let g = s.0 in
      let m = machine_of g r.left r.taken old in
      let log : noted new ≡ noted old = ap (λ (d : Machine P C Q V H T E L). noted d) frame in
      record {
        kept = g;
        last = m;
        rests = subst (λ (l : List replay.Entry). Rests app limits r.props r.inputs r.from (r.opened ++ l) edits m) (sym log) s.1;
        quiet = s.2;
        none = ap (λ (x : model.State (types C Q V H T E L)). next_at_rest x) (sym (rested g)) ∙ sym (none g);
        idle = ap (λ (d : Machine P C Q V H T E L). d.work) frame ∙ idle;
        over = ap (λ (d : Machine P C Q V H T E L). d.first) frame ∙ over;
        same =
            ap (λ (d : Machine P C Q V H T E L). machine_of g r.left r.taken d) frame
            ∙ ap (λ (x : model.State (types C Q V H T E L)). record m { state = x }) (rested g);
        along = s.3;
      }

  -- a listener was called
  pub stands_heard : (count : Option ℕ) (edits : List doc.Edit) (old new : Machine P C Q V H T E L)
      → StandsFor app limits r None edits old
      → new.first ≡ None
      → ((g : Unkept (types C Q V H T E L)) → (h : Unkept (types C Q V H T E L)) × HeardOne app (machine_of g r.left r.taken old) (noted old) (noted new) (machine_of h r.left r.taken new))
      → new.work ≡ []
      → ((g : Unkept (types C Q V H T E L)) (first : Listener (types C Q V H T E L)) (others : List (Listener (types C Q V H T E L)))
      → replay.waiting (machine_of g r.left r.taken old) ≡ first ∷ others
      → CountsAlong r.count g.calls
      → CountsAlong count (((replay.heard_event app (machine_of g r.left r.taken old) first others (machine_of g r.left r.taken old).event).state).calls))
      → StandsAt app limits (record r { count = count }) edits new
  stands_heard count edits old new s over hears idle counts =
      let g = s.0 in
      let h = (hears g).0 in
      let one = (hears g).1 in
      let m = machine_of g r.left r.taken old in
      let u = machine_of h r.left r.taken new in
      let now : first_in new ≡ None = ap (λ o. option_map entry_of o) over in
      let rest : AtRest u = record { alive = refl; idle = ap (λ xs. work_of (reverse xs)) idle; unit = ap (λ (o : Option replay.Entry). is_some o) now } in
      let on = rests_heard app limits r.props r.inputs r.from m u (r.opened ++ noted old) edits one.first one.others s.1 one.waits one.heard_is rest refl in
      subst (λ (o : Option replay.Entry). StandsFor app limits (record r { count = count }) o edits new) (sym now) (
        h,
        subst (λ (l : List replay.Entry). Rests app limits r.props r.inputs r.from (r.opened ++ l) edits u) (sym one.logged)
            (subst (λ (l : List replay.Entry). Rests app limits r.props r.inputs r.from l edits u) (append_assoc r.opened (noted old) (replay.Heard one.first.origin ∷ [])) on),
        subst (λ (x : replay.Machine (types C Q V H T E L)). CountsAlong count (x.state).calls) one.heard_is (counts g one.first one.others one.waits s.2),
      )

  -- its call was cut
  pub heard_refused : (edits : List doc.Edit) (old new : Machine P C Q V H T E L) (fault : model.Fault)
      → StandsFor app limits r None edits old
      → ((g : Unkept (types C Q V H T E L)) → HeardPart app (machine_of g r.left r.taken old) (noted old) (noted new) fault)
      → Refused app limits r.props r.inputs r.from (r.opened ++ noted new) edits fault
  heard_refused edits old new fault s hears =
      let g = s.0 in
      let part = hears g in
      let one = part.one in
      let m = machine_of g r.left r.taken old in
      subst (λ (l : List replay.Entry). Refused app limits r.props r.inputs r.from (r.opened ++ l) edits fault) (sym one.logged)
      (subst (λ (l : List replay.Entry). Refused app limits r.props r.inputs r.from l edits fault) (append_assoc r.opened (noted old) (replay.Heard one.first.origin ∷ []))
      (heard_cut app limits r.props r.inputs r.from m part.left (r.opened ++ noted old) edits one.first one.others fault s.1 one.waits one.heard_is part.dead part.refused))
