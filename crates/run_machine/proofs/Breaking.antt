-- Where a session breaks off, for want of memory or at its sink.
use Rattle.std.proofs.Common.{ℕ, Bool, false, List, [], ◌∷◌, ◌++◌, ◌≡◌, refl, sym, ap, ◌∙◌, subst, map, Err, reverse, arith, append_assoc}
use Rattle.std.proofs.lemmas.List.{append-nil, map-append}
use Rattle.std.specs.Prelude.{Option, Some, None, IsTrue}
use Rattle.rt_edits.specs.declared.edit.Edit.{Edit}
use Rattle.tree_edits.specs.Documents.{edit_of}
use Rattle.rt_model.specs.Document as doc
use Rattle.rt_model.specs.OneLog.{types}
use Rattle.rt_model.specs.Tree.{Types}
use Rattle.rt_model.specs.World.{Application}
use Rattle.rt_model.specs.Laws.{IsLawful}
use Rattle.rt_model.specs.State as model
use Rattle.rt_model.specs.Replay as replay
use Rattle.rt_model.specs.Caused.{caused_until}
use Rattle.rt_model.specs.Causes as causes
use Rattle.law_moves.specs.Moves.{AtRest}
use Rattle.run_reports.specs.declared.limits.Limits.{Limits}
use Rattle.run_state.specs.Mirror.{Unkept, state_of}
use Rattle.run_state.specs.Names.{fault_of}
use Rattle.run_state.specs.declared.names.Stop.TheVariants as stops
use Rattle.law_moves.specs.Turn.{turn_of, entries_at}
use Rattle.law_moves.proofs.ItemTurns.{works_cut, works_deep}
use Rattle.law_moves.proofs.Underway.{works_close}
use Rattle.run_standing.proofs.Orderly.{orderly_reached}
use Rattle.run_work.specs.Items.{work_of}
use Rattle.run_machine.specs.Machines.{machine_of, open_work, noted, first_in, WasCut, ServesAs, StillRemembers, KeepsOn}
use Rattle.run_outside.specs.Ends.{fault_in}
use Rattle.run_outside.specs.Short.{Short, ShortIn, PartBy}
use Rattle.run_machine.specs.Stands.{Going, StandsFor, StandsAt, StandsBefore, Over, Broke, BrokeIn, BrokeAt, GoesOn}
use Rattle.run_machine.specs.Writings.{ClosesPart, WrotePartUntil, CutsShort}
use Rattle.run_outside.specs.declared.ended.Ended.{Ended}
use Rattle.run_outside.specs.declared.ended.Ended.TheVariants as ends
use Rattle.run_machine.specs.declared.machine.Machine.{Machine}
use Rattle.run_machine.proofs.Running.{told_more}
use Rattle.run_outside.proofs.Short.{item_none, in_none, short_rests, in_rests, in_works, in_closing, in_stopped}
use Rattle.run_machine.proofs.Turning.{grown_none, deep_at, Within, still_first, still_remembered}

pub never : (b : Bool) → IsTrue b → b ≡ false → ⊥
never b h k = cc

-- some edits and then more, in one
pub joined : (edits : List doc.Edit) (xs ys : List Edit) → (edits ++ map edit_of xs) ++ map edit_of ys ≡ edits ++ map edit_of (xs ++ ys)
joined edits xs ys = append_assoc edits (map edit_of xs) (map edit_of ys) ∙ ap (λ es. edits ++ es) (sym (map-append edit_of xs ys))

module _ {K : Types} (app : Application K) (limits : causes.Limits) (r : Going K) where
  in_short : (entries : List replay.Entry) (edits : List doc.Edit) (now : Option (List Edit)) (ended : Ended)
      → ShortIn app limits (PartBy ended) r.from entries edits
      → BrokeIn app limits r entries edits now now ended
  in_short entries edits now ended short =
      record {
        wrote = [];
        told = grown_none now;
        short = subst (λ (es : List doc.Edit). ShortIn app limits (PartBy ended) r.from entries es) (sym (append-nil edits)) short;
      }

  -- what broke off in a turn broke off
  pub broke_of : (entries : List replay.Entry) (edits : List doc.Edit) (before after : Option (List Edit)) (ended : Ended)
      → BrokeIn app limits r entries edits before after ended
      → Broke app limits r edits before after ended
  broke_of entries edits before after ended broke = record { wrote = broke.wrote; told = broke.told; short = (broke.short).short }

  -- whatever the count is by now
  pub broke_along : (along : Option ℕ) (edits : List doc.Edit) (before after : Option (List Edit)) (ended : Ended) → Broke app limits r edits before after ended → Broke app limits (record r { count = along }) edits before after ended
  broke_along along edits before after ended broke = record { wrote = broke.wrote; told = broke.told; short = broke.short }

  pub in_along : (along : Option ℕ) (entries : List replay.Entry) (edits : List doc.Edit) (before after : Option (List Edit)) (ended : Ended)
      → BrokeIn app limits r entries edits before after ended
      → BrokeIn app limits (record r { count = along }) entries edits before after ended
  in_along along entries edits before after ended broke = record { wrote = broke.wrote; told = broke.told; short = broke.short }

  -- no entry came yet
  pub in_begun : (now : Option (List Edit)) (ended : Ended) → AtRest r.from → PartBy ended [] [] → BrokeIn app limits r [] [] now now ended
  in_begun now ended rest none = in_short [] [] now ended (in_none app limits (PartBy ended) r.from rest none)

  pub broke_begun : (now : Option (List Edit)) (ended : Ended) → AtRest r.from → PartBy ended [] [] → Broke app limits r [] now now ended
  broke_begun now ended rest none = broke_of [] [] now now ended (in_begun now ended rest none)

module _ {P C Q V H T E L : Type 0} (app : Application (types C Q V H T E L)) (limits : causes.Limits) (r : Going (types C Q V H T E L)) where
  -- where it stands nothing more was taken
  pub in_at : (edits : List doc.Edit) (now : Option (List Edit)) (d : Machine P C Q V H T E L) (ended : Ended)
      → StandsAt app limits r edits d
      → PartBy ended [] []
      → BrokeAt app limits r edits now now ended d
  in_at edits now d ended stands none = in_short app limits r (r.opened ++ noted d) edits now ended (by (first_in d) stands)
    where
      by : (o : Option replay.Entry) → StandsFor app limits r o edits d → ShortIn app limits (PartBy ended) r.from (r.opened ++ noted d) edits
      by None s = in_rests app limits r.props r.inputs (PartBy ended) r.from (machine_of s.0 r.left r.taken d) (r.opened ++ noted d) edits s.1 none
      by (Some first) s = in_works app limits r.props r.inputs (PartBy ended) r.from (machine_of s.0 r.left r.taken d) (r.opened ++ noted d) edits s.1 first s.2 none

  -- nothing was left to do
  pub broke_over : (before after : Option (List Edit)) (count : ℕ) (d : Machine P C Q V H T E L) (ended : Ended)
      → Over app limits r [] before after count d
      → PartBy ended [] []
      → Broke app limits r [] before after ended
  broke_over before after count d ended over none =
      record {
        wrote = over.wrote;
        told = over.told;
        short = short_rests app limits r.props r.inputs (PartBy ended) r.from over.settled.last (r.opened ++ noted d) (map edit_of over.wrote) over.settled.rests none;
      }

  -- it breaks off after more was taken
  pub broke_after : (along : Option ℕ) (edits : List doc.Edit) (before now after : Option (List Edit)) (count : ℕ) (d : Machine P C Q V H T E L) (ended : Ended)
      → (on : GoesOn app limits r edits before now count d)
      → Broke app limits (record r { count = along }) (edits ++ map edit_of on.wrote) now after ended
      → Broke app limits (record r { count = along }) edits before after ended
  broke_after along edits before now after count d ended on broke =
      record {
        wrote = on.wrote ++ broke.wrote;
        told = told_more before now after on.wrote broke.wrote on.told broke.told;
        short = subst (λ (es : List doc.Edit). Short app limits (PartBy ended) r.from es) (joined edits on.wrote broke.wrote) broke.short;
      }

  -- the same with the entries at which it broke off
  pub in_after : (along : Option ℕ) (entries : List replay.Entry) (edits : List doc.Edit) (before now after : Option (List Edit)) (count : ℕ) (d : Machine P C Q V H T E L) (ended : Ended)
      → (on : GoesOn app limits r edits before now count d)
      → BrokeIn app limits (record r { count = along }) entries (edits ++ map edit_of on.wrote) now after ended
      → BrokeIn app limits (record r { count = along }) entries edits before after ended
  in_after along entries edits before now after count d ended on broke =
      record {
        wrote = on.wrote ++ broke.wrote;
        told = told_more before now after on.wrote broke.wrote on.told broke.told;
        short = subst (λ (es : List doc.Edit). ShortIn app limits (PartBy ended) r.from entries es) (joined edits on.wrote broke.wrote) broke.short;
      }

module _ {P C Q V H T E L : Type 0} (app : Application (types C Q V H T E L)) (lawful : IsLawful (types C Q V H T E L) app) (limits : causes.Limits) (r : Going (types C Q V H T E L)) where
  -- a unit ended, and a part of its edits was taken
  pub in_closes : (first : replay.Entry) (edits : List doc.Edit) (d : Machine P C Q V H T E L) (before after : Option (List Edit)) (ended : Ended)
      → StandsFor app limits r (Some first) edits d
      → d.work ≡ []
      → ClosesPart first d before after ended
      → BrokeAt app limits r edits before after ended d
  in_closes first edits d before after ended s idle closes =
      let g = s.0 in
      let w = s.1 in
      let m = machine_of g r.left r.taken d in
      let none : open_work d ≡ [] = ap (λ xs. work_of (reverse xs)) idle in
      let closed = works_close app limits r.props r.inputs r.from m (r.opened ++ noted d) edits w first s.2 none in
      record {
        wrote = closes.wrote;
        told = closes.told;
        short =
            in_closing app limits r.props r.inputs (PartBy ended) r.from (machine_of g r.left r.taken d) (r.opened ++ noted d) edits (map edit_of closes.wrote) w first s.2 none
            (closes.part app lawful g w s.3 (orderly_reached app lawful limits r.props r.inputs (record m { unit = false; state = replay.mounted_state m.state }) closed.reached (closed.rest).alive (closed.rest).idle));
      }

  -- a make is too deep, and a part of what was due up to it was taken
  in_deep : (item : model.Item (types C Q V H T E L)) (first : replay.Entry) (edits : List doc.Edit) (old new : Machine P C Q V H T E L) (before after : Option (List Edit)) (fault : model.Fault) (result : Ended)
      → StandsBefore app limits r item first edits old
      → first_in old ≡ Some first
      → ((g : Unkept (types C Q V H T E L)) → deep_at limits (state_of g (old.scopes).state) item ≡ Some fault)
      → new ≡ old
      → WrotePartUntil item new before after result
      → BrokeAt app limits r edits before after result old
  in_deep item first edits old new before after fault result s is deep same wrote =
      let g = s.0 in
      let w = s.1 in
      let m = record (machine_of g r.left r.taken old) { work = item ∷ open_work old } in
      let log : List replay.Entry = r.opened ++ noted old in
      let here : WrotePartUntil item old before after result = subst (λ (d : Machine P C Q V H T E L). WrotePartUntil item d before after result) same wrote in
      let refused = works_deep app lawful limits r.props r.inputs r.from m log edits w first item (open_work old) fault s.2 refl (deep g) in
      record {
        wrote = here.wrote;
        told = here.told;
        short =
            in_stopped app limits r.props r.inputs (PartBy result) r.from m log [] log edits (caused_until app w (state_of g (old.scopes).state) (Some item) first) (map edit_of here.wrote) w first fault
            s.2 (sym (append-nil log)) refl refused (here.part app lawful first is g w s.3);
      }

  -- an item's change was cut, and a part of what was due up to it was taken
  in_cut : (item : model.Item (types C Q V H T E L)) (first : replay.Entry) (edits : List doc.Edit) (old new : Machine P C Q V H T E L) (before after : Option (List Edit)) (fault : model.Fault) (result : Ended)
      → StandsBefore app limits r item first edits old
      → first_in old ≡ Some first
      → Within old new
      → ((g : Unkept (types C Q V H T E L)) → (deep_at limits (state_of g (old.scopes).state) item ≡ None) × WasCut app (turn_of app (state_of g (old.scopes).state) item) (entries_at app (state_of g (old.scopes).state) item) fault old new)
      → StillRemembers old new
      → WrotePartUntil item new before after result
      → BrokeAt app limits r edits before after result old
  in_cut item first edits old new before after fault result s is frame serves still wrote =
      let g = s.0 in
      let w = s.1 in
      let d = serves g in
      let cut = d.1 in
      let h = cut.kept in
      let v = state_of h (new.scopes).state in
      let m = record (machine_of g r.left r.taken old) { work = item ∷ open_work old } in
      let log : List replay.Entry = r.opened ++ noted old in
      let es : List replay.Entry = entries_at app (state_of g (old.scopes).state) item in
      let now : first_in new ≡ Some first = still_first old new first frame is in
      let refused = works_cut app lawful limits r.props r.inputs r.from m log edits w first item (open_work old) v fault s.2 refl d.0 cut.cut in
      let kept = still_remembered g old new first w.scopes is now still s.3 in
      record {
        wrote = wrote.wrote;
        told = wrote.told;
        short =
            in_stopped app limits r.props r.inputs (PartBy result) r.from m log es (log ++ es) edits (caused_until app w v (Some item) first) (map edit_of wrote.wrote) w first fault
            s.2 refl (item_none app (state_of g (old.scopes).state) item) refused (wrote.part app lawful first now h w kept);
      }

  -- memory was wanting at an item
  in_wanting : (item : model.Item (types C Q V H T E L)) (first : replay.Entry) (edits : List doc.Edit) (old : Machine P C Q V H T E L) (before after : Option (List Edit)) (result : Ended)
      → StandsBefore app limits r item first edits old
      → (result ≡ ends.Run stops.OutOfMemory) × (after ≡ before)
      → BrokeAt app limits r edits before after result old
  in_wanting item first edits old before after result s same =
      let m = record (machine_of s.0 r.left r.taken old) { work = item ∷ open_work old } in
      let log : List replay.Entry = r.opened ++ noted old in
      let wanting : Ended = ends.Run stops.OutOfMemory in
      subst (λ (e : Ended). BrokeIn app limits r log edits before after e) (sym same.0)
      (subst (λ (o : Option (List Edit)). BrokeIn app limits r log edits before o wanting) (sym same.1)
      (in_short app limits r log edits before wanting (in_works app limits r.props r.inputs (PartBy wanting) r.from m log edits s.1 first s.2 ([], refl))))

  -- an item was refused, and then writing broke off; or memory was wanting
  pub in_refused : (item : model.Item (types C Q V H T E L)) (first : replay.Entry) (edits : List doc.Edit) (old new : Machine P C Q V H T E L) (before after : Option (List Edit)) (ended result : Ended)
      → StandsBefore app limits r item first edits old
      → first_in old ≡ Some first
      → Within old new
      → ((g : Unkept (types C Q V H T E L)) → ServesAs app (deep_at limits (state_of g (old.scopes).state) item) (turn_of app (state_of g (old.scopes).state) item) (entries_at app (state_of g (old.scopes).state) item) old new (Err ended))
      → KeepsOn old new (Err ended)
      → CutsShort item new before after ended result
      → fault_in result ≡ None
      → BrokeAt app limits r edits before after result old
  in_refused item first edits old new before after ends.Sink result s is frame serves still cuts none = absurd (serves s.0)
  in_refused item first edits old new before after (ends.OutOfTurns units) result s is frame serves still cuts none = absurd (serves s.0)
  in_refused item first edits old new before after (ends.TooDeep height) result s is frame serves still cuts none =
      in_deep item first edits old new before after (model.TooDeep height) result s is (λ g. (serves g).0) (serves s.0).1 (cuts.breaks (model.TooDeep height) refl none)
  in_refused item first edits old new before after (ends.Run stops.OutOfMemory) result s is frame serves still cuts none =
      in_wanting item first edits old before after result s (cuts.wants refl)
  in_refused item first edits old new before after (ends.Run (stops.Fault what)) result s is frame serves still cuts none =
      in_cut item first edits old new before after (fault_of what) result s is frame serves still (cuts.breaks (fault_of what) refl none)
