-- What begins where nothing is at work: a unit, the build, a report; and a report that is finished.
use Rattle.std.proofs.Common.{ℕ, ◌+◌, Bool, true, false, List, [], ◌∷◌, ◌++◌, ◌≡◌, refl, sym, ap, ◌∙◌, subst, nat_eq, map, Err, reverse, append_assoc}
use Rattle.std.proofs.lemmas.List.{append-nil}
use Rattle.std.specs.Prelude.{Option, Some, None, is_some, option_map}
use Rattle.rt_lemmas.proofs.Options.{none_some, some_same as some_fault}
use Rattle.rt_edits.specs.declared.edit.Edit.{Edit}
use Rattle.law_moves.specs.Due.{DueIsAny}
use Rattle.tree_edits.specs.Documents.{edit_of}
use Rattle.rt_model.specs.Document as doc
use Rattle.rt_model.specs.OneLog.{types}
use Rattle.rt_model.specs.Tree.{Types}
use Rattle.rt_model.specs.World.{Application}
use Rattle.rt_model.specs.Laws.{IsLawful}
use Rattle.rt_model.specs.State as model
use Rattle.rt_model.specs.State.{Outcome, Done, Cut}
use Rattle.rt_model.specs.Next as next
use Rattle.rt_model.specs.Next.{at_rest, next_at_rest}
use Rattle.rt_model.specs.Run.{run}
use Rattle.rt_model.specs.Replay as replay
use Rattle.rt_model.specs.Replay.{first_state, ones, start, take_next}
use Rattle.rt_model.specs.Causes as causes
use Rattle.law_moves.specs.Moves.{AtRest}
use Rattle.run_reports.specs.Seen.{entry_of}
use Rattle.run_reports.specs.declared.report.Report.{Report}
use Rattle.run_state.specs.Mirror.{Unkept, at_first, scopes_of, state_of}
use Rattle.run_state.specs.Names.{fault_of}
use Rattle.run_state.specs.declared.names.Stop.TheVariants as stops
use Rattle.law_moves.specs.Turn.{unit_of, entry_for, begun_at}
use Rattle.law_moves.specs.Underway.{Rests, Works, Refused}
use Rattle.law_moves.proofs.Begins.{rests_begin, rests_cut, rests_spent, opens_taken, opens_build, build_cut}
use Rattle.run_work.specs.Items.{work_of}
use Rattle.run_turns.specs.Counting.{CountsAlong, calls_after}
use Rattle.run_machine.specs.Machines.{machine_of, open_work, noted, first_in, IsFresh, Did, WasCut, BeginsAs, RemembersFor, Remembers}
use Rattle.run_outside.specs.Ends.{fault_in}
use Rattle.run_machine.specs.Stands.{Going, StandsFor, StandsAt, StandsQuiet, Follows, Over, Reported}
use Rattle.run_turns.specs.declared.course.Course.{Course}
use Rattle.run_outside.specs.declared.ended.Ended.{Ended}
use Rattle.run_outside.specs.declared.ended.Ended.TheVariants as ends
use Rattle.run_machine.specs.declared.machine.Machine.{Machine}
use Rattle.run_standing.proofs.Framed.{rest_scopes}

module _ {P C Q V H T E L : Type 0} (app : Application (types C Q V H T E L)) (lawful : IsLawful (types C Q V H T E L) app) (due : DueIsAny app) (limits : causes.Limits) (r : Going (types C Q V H T E L)) where
  -- the state as the test for what is next leaves it, and what is next there
  pub record Resting (old mid : Machine P C Q V H T E L) (work : Option next.Work) : Type 0 where
    pub frame : mid ≡ record old { scopes = mid.scopes }
    pub rested : (g : Unkept (types C Q V H T E L)) → state_of g (mid.scopes).state ≡ at_rest (state_of g (old.scopes).state)
    pub up : (g : Unkept (types C Q V H T E L)) → work ≡ next_at_rest (state_of g (mid.scopes).state)

  next_is : (old mid : Machine P C Q V H T E L) (work : Option next.Work) (g : Unkept (types C Q V H T E L)) → Resting old mid work → next.next (state_of g (old.scopes).state) ≡ work
  next_is old mid work g h = ap (λ (x : model.State (types C Q V H T E L)). next_at_rest x) (sym (h.rested g)) ∙ sym (h.up g)

  same_log : (old mid : Machine P C Q V H T E L) (work : Option next.Work) → Resting old mid work → noted mid ≡ noted old
  same_log old mid work h = ap (λ (d : Machine P C Q V H T E L). noted d) h.frame

  same_units : (old mid : Machine P C Q V H T E L) (work : Option next.Work) → Resting old mid work → mid.units ≡ old.units
  same_units old mid work h = ap (λ (d : Machine P C Q V H T E L). d.units) h.frame

  same_work : (old mid : Machine P C Q V H T E L) (work : Option next.Work) → Resting old mid work → open_work mid ≡ open_work old
  same_work old mid work h = ap (λ (d : Machine P C Q V H T E L). open_work d) h.frame

  none_open : (old : Machine P C Q V H T E L) → old.work ≡ [] → open_work old ≡ []
  none_open old idle = ap (λ xs. work_of (reverse xs)) idle

  abbrev Frame : Machine P C Q V H T E L → Machine P C Q V H T E L → Type 0
  Frame mid new = new ≡ record mid { scopes = new.scopes; work = new.work; first = new.first; stood = new.stood; lived = new.lived; course = new.course; units = new.units }

  -- a machine in the midst of a unit, by what began
  abbrev unit_at : Unkept (types C Q V H T E L) → model.State (types C Q V H T E L) → Machine P C Q V H T E L → List (model.Item (types C Q V H T E L)) → Option replay.Entry → ℕ → replay.Machine (types C Q V H T E L)
  unit_at h v x items o n = record (machine_of h r.left r.taken x) { state = v; work = items; unit = is_some o; units = n }

  -- a unit begins
  pub stands_begun : (count : Option ℕ) (work : next.Work) (edits : List doc.Edit) (old mid new : Machine P C Q V H T E L)
      → StandsQuiet app limits r edits old
      → old.work ≡ []
      → Resting old mid (Some work)
      → ((g : Unkept (types C Q V H T E L)) → (nat_eq mid.units limits.units ≡ false) × Did app (unit_of app (state_of g (mid.scopes).state) work) (entry_for work ∷ []) mid new)
      → first_in new ≡ Some (entry_for work)
      → new.units ≡ mid.units + 1
      → Remembers new (scopes_of ((mid.scopes).state.rows).table)
      → Frame mid new
      → ((g : Unkept (types C Q V H T E L)) → CountsAlong r.count g.calls → CountsAlong count (calls_after (unit_of app (state_of g (mid.scopes).state) work)))
      → StandsAt app limits (record r { count = count }) edits new
  stands_begun count work edits old mid new s idle at begins first units remembers frame counts =
      let g = s.0 in
      let m = machine_of g r.left r.taken old in
      let d = begins g in
      let did = d.1 in
      let h = did.kept in
      let v = state_of h (new.scopes).state in
      let e : replay.Entry = entry_for work in
      let left : nat_eq m.units limits.units ≡ false = ap (λ (n : ℕ). nat_eq n limits.units) (sym (same_units old mid (Some work) at)) ∙ d.0 in
      let done : unit_of app (at_rest m.state) work ≡ Done v did.work = ap (λ (x : model.State (types C Q V H T E L)). unit_of app x work) (sym (at.rested g)) ∙ did.done in
      let on = rests_begin app lawful due limits r.props r.inputs r.from m (r.opened ++ noted old) edits work v did.work s.1 s.2 (next_is old mid (Some work) g at) left done in
      let items : open_work new ≡ did.work =
      did.open_is
      ∙ ap (λ xs. did.work ++ xs) (same_work old mid (Some work) at ∙ none_open old idle)
      ∙ append-nil did.work in
      let same : machine_of h r.left r.taken new ≡ begun_at m v did.work =
      ap (λ (x : Machine P C Q V H T E L). machine_of h r.left r.taken x) frame
      ∙ ap (λ (x : Machine P C Q V H T E L). unit_at h v x (open_work new) (first_in new) new.units) at.frame
      ∙ ap (λ xs. unit_at h v old xs (first_in new) new.units) items
      ∙ ap (λ (o : Option replay.Entry). unit_at h v old did.work o new.units) first
      ∙ ap (λ (n : ℕ). unit_at h v old did.work (Some e) n) (units ∙ ap (λ (n : ℕ). n + 1) (same_units old mid (Some work) at)) in
      let log : noted new ≡ noted old ++ e ∷ [] = did.logged ∙ ap (λ l. l ++ e ∷ []) (same_log old mid (Some work) at) in
      let was : scopes_of ((mid.scopes).state.rows).table ≡ m.state.scopes = ap (λ (x : model.State (types C Q V H T E L)). x.scopes) (at.rested g) ∙ rest_scopes m.state in
      let kept : RemembersFor (Some e) new m.state.scopes =
      subst (λ scopes. RemembersFor (Some e) new scopes) was (subst (λ (o : Option replay.Entry). RemembersFor o new (scopes_of ((mid.scopes).state.rows).table)) first remembers) in
      let here : Works app limits r.props r.inputs r.from (r.opened ++ noted new) edits m.state e (machine_of h r.left r.taken new) =
      subst (λ (l : List replay.Entry). Works app limits r.props r.inputs r.from (r.opened ++ l) edits m.state e (machine_of h r.left r.taken new)) (sym log)
      (subst (λ (x : replay.Machine (types C Q V H T E L)). Works app limits r.props r.inputs r.from (r.opened ++ (noted old ++ e ∷ [])) edits m.state e x) (sym same)
      (subst (λ (l : List replay.Entry). Works app limits r.props r.inputs r.from l edits m.state e (begun_at m v did.work)) (append_assoc r.opened (noted old) (e ∷ [])) on)) in
      let goes : CountsAlong count h.calls = subst (λ (o : Outcome (types C Q V H T E L)). CountsAlong count (calls_after o)) did.done (counts g s.3) in
      subst (λ (o : Option replay.Entry). StandsFor app limits (record r { count = count }) o edits new) (sym first) (h, m.state, here, kept, goes)

  -- no unit begins: its own call was cut, or the units are spent
  pub none_begun : (work : next.Work) (edits : List doc.Edit) (old mid new : Machine P C Q V H T E L) (ended : Ended) (fault : model.Fault)
      → StandsQuiet app limits r edits old
      → Resting old mid (Some work)
      → ((g : Unkept (types C Q V H T E L)) → BeginsAs app limits (unit_of app (state_of g (mid.scopes).state) work) (entry_for work ∷ []) mid new (Err ended))
      → fault_in ended ≡ Some fault
      → Refused app limits r.props r.inputs r.from (r.opened ++ noted new) edits fault
  none_begun work edits old mid new ends.Sink fault s at begins why = none_some why
  none_begun work edits old mid new (ends.TooDeep height) fault s at begins why = absurd (begins s.0)
  none_begun work edits old mid new (ends.Run stops.OutOfMemory) fault s at begins why = none_some why
  none_begun work edits old mid new (ends.OutOfTurns units) fault s at begins why =
      let g = s.0 in
      let m = machine_of g r.left r.taken old in
      let b = begins g in
      let spent : nat_eq m.units limits.units ≡ true = ap (λ (n : ℕ). nat_eq n limits.units) (sym (same_units old mid (Some work) at)) ∙ b.0 in
      let refused = rests_spent app limits r.props r.inputs r.from m (r.opened ++ noted old) edits work s.1 s.2 (next_is old mid (Some work) g at) spent in
      subst (λ (l : List replay.Entry). Refused app limits r.props r.inputs r.from (r.opened ++ l) edits fault) (sym (b.2 ∙ same_log old mid (Some work) at))
      (subst (λ (f : model.Fault). Refused app limits r.props r.inputs r.from (r.opened ++ noted old) edits f)
      (ap (λ (n : ℕ). model.OutOfTurns n) (sym b.1) ∙ some_fault (model.OutOfTurns units) fault why) refused)
  none_begun work edits old mid new (ends.Run (stops.Fault what)) fault s at begins why =
      let g = s.0 in
      let m = machine_of g r.left r.taken old in
      let b = begins g in
      let cut = b.1 in
      let left : nat_eq m.units limits.units ≡ false = ap (λ (n : ℕ). nat_eq n limits.units) (sym (same_units old mid (Some work) at)) ∙ b.0 in
      let done : unit_of app (at_rest m.state) work ≡ Cut (state_of cut.kept (new.scopes).state) (fault_of what) =
      ap (λ (x : model.State (types C Q V H T E L)). unit_of app x work) (sym (at.rested g)) ∙ cut.cut in
      let refused = rests_cut app lawful due limits r.props r.inputs r.from m (r.opened ++ noted old) edits work (state_of cut.kept (new.scopes).state) (fault_of what) s.1 s.2 (next_is old mid (Some work) g at) left done in
      subst (λ (l : List replay.Entry). Refused app limits r.props r.inputs r.from (r.opened ++ l) edits fault) (sym (cut.logged ∙ ap (λ l. l ++ entry_for work ∷ []) (same_log old mid (Some work) at)))
      (subst (λ (f : model.Fault). Refused app limits r.props r.inputs r.from (r.opened ++ (noted old ++ entry_for work ∷ [])) edits f) (some_fault (fault_of what) fault why)
      (subst (λ (l : List replay.Entry). Refused app limits r.props r.inputs r.from l edits (fault_of what)) (append_assoc r.opened (noted old) (entry_for work ∷ [])) refused))

module _ {K : Types} (app : Application K) (limits : causes.Limits) (props : K.Props) (inputs : List (replay.Input K)) where
  -- the build's report, on its way
  abbrev pub building : Going K
  building = record { props = props; inputs = inputs; from = start app props inputs; opened = replay.Build ∷ []; left = inputs; taken = 0; count = None }

  -- the report of an input, on its way
  abbrev pub taking : List (replay.Input K) → ℕ → replay.Machine K → Going K
  taking left number last = record { props = props; inputs = inputs; from = last; opened = replay.Taken number ∷ []; left = left; taken = number; count = None }

module _ {P C Q V H T E L : Type 0} (app : Application (types C Q V H T E L)) (limits : causes.Limits) (props : Q) (inputs : List (replay.Input (types C Q V H T E L))) where
  fresh_log : (old new : Machine P C Q V H T E L) → IsFresh old → noted new ≡ noted old ++ [] → noted new ≡ []
  fresh_log old new fresh log = log ∙ append-nil (noted old) ∙ ap (λ xs. map entry_of xs) fresh.course

  abbrev built_at : Unkept (types C Q V H T E L) → model.State (types C Q V H T E L) → Machine P C Q V H T E L → List (model.Item (types C Q V H T E L)) → Option replay.Entry → replay.Machine (types C Q V H T E L)
  built_at h v x items o = record (machine_of h inputs 0 x) { state = v; work = items; unit = is_some o }

  -- the build begins
  pub stands_built : (old new : Machine P C Q V H T E L)
      → IsFresh old
      → state_of at_first (old.scopes).state ≡ first_state app.root props ones
      → ((g : Unkept (types C Q V H T E L)) → Did app (unit_of app (state_of g (old.scopes).state) (next.RerunScope 0)) [] old new)
      → first_in new ≡ Some replay.Build
      → new ≡ record old { scopes = new.scopes; work = new.work; first = new.first }
      → StandsAt app limits (building app limits props inputs) [] new
  stands_built old new fresh is builds first frame =
      let m = start app props inputs in
      let did = builds at_first in
      let h = did.kept in
      let v = state_of h (new.scopes).state in
      let done : run app m.state 0 ≡ Done v did.work = ap (λ (x : model.State (types C Q V H T E L)). run app x 0) (sym is) ∙ did.done in
      let on = opens_build app limits props inputs v did.work done in
      let items : open_work new ≡ did.work = did.open_is ∙ ap (λ xs. did.work ++ work_of (reverse xs)) fresh.work ∙ append-nil did.work in
      let same : machine_of h inputs 0 new ≡ record m { state = v; work = did.work; built = true; unit = true } =
      ap (λ (x : Machine P C Q V H T E L). machine_of h inputs 0 x) frame
      ∙ ap (λ xs. built_at h v old xs (first_in new)) items
      ∙ ap (λ (o : Option replay.Entry). built_at h v old did.work o) first
      ∙ ap (λ hearing. built_at h v (record old { hearing = hearing }) did.work (Some replay.Build)) fresh.hearing
      ∙ ap (λ (n : ℕ). built_at h v (record old { hearing = None; units = n }) did.work (Some replay.Build)) fresh.units
      ∙ ap (λ (b : Bool). built_at h v (record old { hearing = None; units = 0; default_enabled = b }) did.work (Some replay.Build)) fresh.default_enabled in
      let log : noted new ≡ [] = fresh_log old new fresh did.logged in
      let here : Works app limits props inputs m (replay.Build ∷ noted new) [] m.state replay.Build (machine_of h inputs 0 new) =
      subst (λ (l : List replay.Entry). Works app limits props inputs m (replay.Build ∷ l) [] m.state replay.Build (machine_of h inputs 0 new)) (sym log)
      (subst (λ (x : replay.Machine (types C Q V H T E L)). Works app limits props inputs m (replay.Build ∷ []) [] m.state replay.Build x) (sym same) on) in
      subst (λ (o : Option replay.Entry). StandsFor app limits (building app limits props inputs) o [] new) (sym first) (h, m.state, here, tt, tt)

  -- its own call was cut
  pub built_refused : (old new : Machine P C Q V H T E L) (fault : model.Fault)
      → IsFresh old
      → state_of at_first (old.scopes).state ≡ first_state app.root props ones
      → ((g : Unkept (types C Q V H T E L)) → WasCut app (unit_of app (state_of g (old.scopes).state) (next.RerunScope 0)) [] fault old new)
      → Refused app limits props inputs (start app props inputs) (replay.Build ∷ noted new) [] fault
  built_refused old new fault fresh is builds =
      let cut = builds at_first in
      let v = state_of cut.kept (new.scopes).state in
      let done : run app (start app props inputs).state 0 ≡ Cut v fault = ap (λ (x : model.State (types C Q V H T E L)). run app x 0) (sym is) ∙ cut.cut in
      subst (λ (l : List replay.Entry). Refused app limits props inputs (start app props inputs) (replay.Build ∷ l) [] fault) (sym (fresh_log old new fresh cut.logged))
      (build_cut app limits props inputs v fault done)

  -- an input was taken in
  pub stands_taken : (left : List (replay.Input (types C Q V H T E L))) (input : replay.Input (types C Q V H T E L)) (taken number : ℕ) (last : replay.Machine (types C Q V H T E L)) (old new : Machine P C Q V H T E L)
      → number ≡ taken + 1
      → Follows app limits props inputs (input ∷ left) taken last old
      → ((g : Unkept (types C Q V H T E L)) → take_next (machine_of g (input ∷ left) taken old) (input ∷ left) ≡ machine_of g left (taken + 1) new)
      → new.first ≡ old.first
      → new.work ≡ old.work
      → new.course ≡ old.course
      → StandsAt app limits (taking app limits props inputs left number last) [] new
  stands_taken left input taken number last old new counted f received first work course =
      let b = f.between in
      let g = b.kept in
      let u = machine_of g left (taken + 1) new in
      let none : new.first ≡ None = first ∙ b.over in
      let over : first_in new ≡ None = ap (λ o. option_map entry_of o) none in
      let idle : open_work new ≡ [] = ap (λ xs. work_of (reverse xs)) (work ∙ b.idle) in
      let rest : AtRest u = record { alive = refl; idle = idle; unit = ap (λ (o : Option replay.Entry). is_some o) over } in
      let ready : last.inputs ≡ input ∷ left = sym (ap (λ (x : replay.Machine (types C Q V H T E L)). x.inputs) b.same) in
      let number_is : last.taken ≡ taken = sym (ap (λ (x : replay.Machine (types C Q V H T E L)). x.taken) b.same) in
      let took = ap (λ (x : replay.Machine (types C Q V H T E L)). take_next x (input ∷ left)) (sym b.same) ∙ received g in
      let on = opens_taken app limits props inputs last u input left f.reached f.rest f.built b.quiet b.none ready took rest refl in
      let log : noted new ≡ [] = ap (λ xs. map entry_of xs) (ap (λ (k : Course). k.entries) course ∙ b.course) in
      let opening : replay.Taken (last.taken + 1) ≡ replay.Taken number = ap (λ (n : ℕ). replay.Taken (n + 1)) number_is ∙ ap (λ (n : ℕ). replay.Taken n) (sym counted) in
      let here : Rests app limits props inputs last (replay.Taken number ∷ noted new) [] (machine_of g left number new) =
      subst (λ (n : ℕ). Rests app limits props inputs last (replay.Taken number ∷ noted new) [] (machine_of g left n new)) (sym counted)
      (subst (λ (l : List replay.Entry). Rests app limits props inputs last (replay.Taken number ∷ l) [] u) (sym log)
      (subst (λ (e : replay.Entry). Rests app limits props inputs last (e ∷ []) [] u) opening on)) in
      subst (λ (o : Option replay.Entry). StandsFor app limits (taking app limits props inputs left number last) o [] new) (sym over) (g, here, tt)

module _ {P C Q V H T E L : Type 0} (app : Application (types C Q V H T E L)) (limits : causes.Limits) (r : Going (types C Q V H T E L)) where
  -- a report is finished
  pub stands_reported : (report : Report) (before after : Option (List Edit)) (count : ℕ) (old new : Machine P C Q V H T E L)
      → Over app limits r [] before after count old
      → report.edits ≡ count
      → map entry_of report.log ≡ r.opened ++ noted old
      → report.default_enabled ≡ old.default_enabled
      → new ≡ record old { course = new.course }
      → (new.course).entries ≡ []
      → Reported app limits r report before after new
  stands_reported report before after count old new over edits log enabled frame course =
      let s = over.settled in
      let g = s.kept in
      record {
        wrote = over.wrote;
        told = over.told;
        counted = over.counted ∙ sym edits;
        last = s.last;
        rests = subst (λ (l : List replay.Entry). Rests app limits r.props r.inputs r.from l (map edit_of over.wrote) s.last) (sym log) s.rests;
        default_enabled = enabled ∙ ap (λ (x : replay.Machine (types C Q V H T E L)). x.default_enabled) s.same;
        between = record {
          kept = g;
          quiet = s.quiet;
          none = s.none;
          idle = ap (λ (d : Machine P C Q V H T E L). d.work) frame ∙ s.idle;
          over = ap (λ (d : Machine P C Q V H T E L). d.first) frame ∙ s.over;
          course = course;
          same = ap (λ (d : Machine P C Q V H T E L). machine_of g r.left r.taken d) frame ∙ s.same;
        };
      }
