-- Turns: at open work, at the end of a unit, and where nothing is at work.
use Rattle.std.proofs.Common.{ℕ, ◌+◌, false, List, [], ◌∷◌, ◌++◌, ◌≡◌, refl, sym, ap, ◌∙◌, subst, length, map, Ok, Err, append_assoc}
use Rattle.std.proofs.lemmas.List.{append-nil, map-append, length-append}
use Rattle.std.specs.Prelude.{Option, Some, None, Result}
use Rattle.rt_lemmas.proofs.Options.{none_some}
use Rattle.rt_edits.specs.declared.edit.Edit.{Edit}
use Rattle.tree_edits.specs.Documents.{edit_of}
use Rattle.rt_model.specs.Document as doc
use Rattle.rt_model.specs.OneLog.{types}
use Rattle.rt_model.specs.World.{Application}
use Rattle.rt_model.specs.Laws.{IsLawful}
use Rattle.rt_model.specs.State as model
use Rattle.rt_model.specs.Replay as replay
use Rattle.rt_model.specs.Causes as causes
use Rattle.run_state.specs.Mirror.{Unkept}
use Rattle.run_state.specs.Names.{fault_of}
use Rattle.run_state.specs.declared.names.Stop.{Stop}
use Rattle.run_state.specs.declared.names.Stop.TheVariants as stops
use Rattle.law_moves.specs.Underway.{Rests, Works, Refused}
use Rattle.run_work.specs.Items.{item_of}
use Rattle.run_work.specs.declared.item.Item.{Item}
use Rattle.run_turns.specs.Counting.{CountsAlong}
use Rattle.run_machine.specs.Machines.{machine_of, open_work, noted, first_in, HearsAs, RemembersFor}
use Rattle.run_outside.specs.Ends.{fault_in}
use Rattle.run_machine.specs.Stands.{Going, StandsFor, StandsAt, StandsQuiet, StandsBefore, TurnsAs, QuietAs, GoesOn, Over, BrokeIn, BrokeAt, EndsEarly}
use Rattle.run_outside.specs.Turns.{taken_by}
use Rattle.run_outside.specs.declared.ended.Ended.{Ended}
use Rattle.run_outside.specs.declared.ended.Ended.TheVariants as ends
use Rattle.run_machine.specs.declared.machine.Machine.{Machine}
use Rattle.run_machine.proofs.Breaking.{joined, in_at, broke_of, broke_after}
use Rattle.run_machine.proofs.Running.{told_more}
use Rattle.run_machine.proofs.Stacks.{pop_is}
use Rattle.run_machine.proofs.Turning.{grown_none, heard_refused}

lengths : (xs ys : List Edit) (m n all : ℕ) → length xs ≡ m → length ys ≡ n → all ≡ m + n → length (xs ++ ys) ≡ all
lengths xs ys m n all h k sum = length-append xs ys ∙ ap (λ a. a + length ys) h ∙ ap (λ b. m + b) k ∙ sym sum

module _ {P C Q V H T E L : Type 0} (app : Application (types C Q V H T E L)) (lawful : IsLawful (types C Q V H T E L) app) (limits : causes.Limits) (r : Going (types C Q V H T E L)) where
  -- no listener waits
  pub stands_silent : (edits : List doc.Edit) (old new : Machine P C Q V H T E L)
      → StandsFor app limits r None edits old
      → ((g : Unkept (types C Q V H T E L)) → HearsAs app (machine_of g r.left r.taken old) (noted old) (noted new) (λ h. machine_of h r.left r.taken new) (Ok false))
      → StandsQuiet app limits r edits new
  stands_silent edits old new s hears =
      let g = s.0 in
      let t = hears g in
      let h = t.2 in
      let rests =
      subst (λ (l : List replay.Entry). Rests app limits r.props r.inputs r.from (r.opened ++ l) edits (machine_of h r.left r.taken new)) (sym t.1)
      (subst (λ (x : replay.Machine (types C Q V H T E L)). Rests app limits r.props r.inputs r.from (r.opened ++ noted old) edits x) t.3 s.1) in
      let goes : CountsAlong r.count h.calls = subst (λ (x : replay.Machine (types C Q V H T E L)). CountsAlong r.count (x.state).calls) t.3 s.2 in
      (h, rests, ap (λ (x : replay.Machine (types C Q V H T E L)). replay.waiting x) (sym t.3) ∙ t.0, goes)

  -- its call was cut
  pub quiet_cut : (edits : List doc.Edit) (old new : Machine P C Q V H T E L) (stop : Stop) (fault : model.Fault)
      → StandsFor app limits r None edits old
      → ((g : Unkept (types C Q V H T E L)) → HearsAs app (machine_of g r.left r.taken old) (noted old) (noted new) (λ h. machine_of h r.left r.taken new) (Err stop))
      → fault_in (ends.Run stop) ≡ Some fault
      → Refused app limits r.props r.inputs r.from (r.opened ++ noted new) edits fault
  quiet_cut edits old new stops.OutOfMemory fault s hears why = none_some why
  quiet_cut edits old new (stops.Fault what) fault s hears why =
      subst (λ (f : model.Fault). Refused app limits r.props r.inputs r.from (r.opened ++ noted new) edits f) (by (fault_of what) fault why)
      (heard_refused app lawful limits r edits old new (fault_of what) s hears)
    where
      by : (a b : model.Fault) → Some a ≡ Some b → a ≡ b
      by a b h = cc

  -- an item is taken off the open work
  pub stands_before : (edits : List doc.Edit) (old new : Machine P C Q V H T E L) (item : Item P C Q V H T E L)
      → StandsAt app limits r edits old
      → old.work ≡ new.work ++ item ∷ []
      → new ≡ record old { work = new.work }
      → (first : replay.Entry) × (first_in new ≡ Some first) × StandsBefore app limits r (item_of item) first edits new
  stands_before edits old new item s popped frame = by (first_in old) refl s
    where
      open_is : open_work old ≡ item_of item ∷ open_work new
      open_is = pop_is old.work new.work item popped

      remembers : (first : replay.Entry) (was : List (ℕ × model.Scope (types C Q V H T E L))) → RemembersFor (Some first) old was → RemembersFor (Some first) new was
      remembers first was h =
          subst (λ (d : Machine P C Q V H T E L). RemembersFor (Some first) d was) (sym frame) (still first h)
        where
          still : (e : replay.Entry) → RemembersFor (Some e) old was → RemembersFor (Some e) (record old { work = new.work }) was
          still replay.Build k = k
          still (replay.Taken n) k = k
          still (replay.Heard n) k = k
          still (replay.Rerun n) k = k
          still e k = k

      at : (g : Unkept (types C Q V H T E L)) → machine_of g r.left r.taken old ≡ record (machine_of g r.left r.taken new) { work = item_of item ∷ open_work new }
      at g =
          ap (λ xs. record (machine_of g r.left r.taken old) { work = xs }) open_is
          ∙ ap (λ (d : Machine P C Q V H T E L). record (machine_of g r.left r.taken d) { work = item_of item ∷ open_work new }) (sym frame)

      by : (o : Option replay.Entry) → first_in old ≡ o → StandsFor app limits r o edits old → (first : replay.Entry) × (first_in new ≡ Some first) × StandsBefore app limits r (item_of item) first edits new
      by None is t = absurd (busy (sym open_is ∙ t.1.rest.idle))
        where
          busy : {A : Type 0} {x : A} {xs : List A} → x ∷ xs ≡ [] → ⊥
          busy h = cc
      by (Some first) is t = (
        first,
        ap (λ (d : Machine P C Q V H T E L). first_in d) frame ∙ is,
        (
          t.0,
          t.1,
          subst (λ (l : List replay.Entry). Works app limits r.props r.inputs r.from (r.opened ++ l) edits t.1 first (record (machine_of t.0 r.left r.taken new) { work = item_of item ∷ open_work new })) (ap (λ (d : Machine P C Q V H T E L). noted d) (sym frame))
              (subst (λ (x : replay.Machine (types C Q V H T E L)). Works app limits r.props r.inputs r.from (r.opened ++ noted old) edits t.1 first x) (at t.0) t.2),
          remembers first t.1.scopes t.3,
          t.4,
        ),
      )

  -- a turn where nothing is at work writes nothing
  pub quiet_turns : (edits : List doc.Edit) (now : Option (List Edit)) (old new : Machine P C Q V H T E L) (turn : Option ℕ)
      → taken_by turn ≡ 0
      → QuietAs app limits r edits new (Ok turn)
      → TurnsAs app limits r edits now now old new (Ok turn)
  quiet_turns edits now old new None none h = (refl, h)
  quiet_turns edits now old new (Some count) none h =
      record {
        wrote = [];
        told = grown_none now;
        counted = sym none;
        stands = subst (λ es. StandsAt app limits r es new) (sym (append-nil edits)) h;
      }

  pub quiet_came : (edits : List doc.Edit) (now : Option (List Edit)) (old new : Machine P C Q V H T E L) (ended : Ended)
      → QuietAs app limits r edits new (Err ended)
      → (fault_in ended ≡ None → BrokeAt app limits r edits now now ended old)
      → TurnsAs app limits r edits now now old new (Err ended)
  quiet_came edits now old new ended h broke = (
    λ fault why.
        record {
          wrote = [];
          told = grown_none now;
          refused = subst (λ es. Refused app limits r.props r.inputs r.from (r.opened ++ noted new) es fault) (sym (append-nil edits)) (h fault why);
        },
    broke,
  )

  -- such a turn is a turn, whatever of the open work was taken off before it
  pub turns_from : (edits : List doc.Edit) (before after : Option (List Edit)) (old mid new : Machine P C Q V H T E L) (result : Result (Option ℕ) Ended)
      → noted mid ≡ noted old
      → TurnsAs app limits r edits before after mid new result
      → TurnsAs app limits r edits before after old new result
  turns_from edits before after old mid new (Ok None) same t = t
  turns_from edits before after old mid new (Ok (Some count)) same t = t
  turns_from edits before after old mid new (Err ended) same t = (
    t.0,
    λ none. subst (λ (l : List replay.Entry). BrokeIn app limits r (r.opened ++ l) edits before after ended) same (t.1 none),
  )

  -- no turn yet
  pub goes_none : (edits : List doc.Edit) (now : Option (List Edit)) (d : Machine P C Q V H T E L) → StandsAt app limits r edits d → GoesOn app limits r edits now now 0 d
  goes_none edits now d s =
      record {
        wrote = [];
        told = grown_none now;
        counted = refl;
        stands = subst (λ es. StandsAt app limits r es d) (sym (append-nil edits)) s;
      }

  -- one more turn
  pub goes_more : (along : Option ℕ) (edits : List doc.Edit) (before now after : Option (List Edit)) (count more all : ℕ) (d e : Machine P C Q V H T E L)
      → (on : GoesOn app limits r edits before now count d)
      → all ≡ count + more
      → TurnsAs app limits (record r { count = along }) (edits ++ map edit_of on.wrote) now after d e (Ok (Some more))
      → GoesOn app limits (record r { count = along }) edits before after all e
  goes_more along edits before now after count more all d e on sum t =
      record {
        wrote = on.wrote ++ t.wrote;
        told = told_more before now after on.wrote t.wrote on.told t.told;
        counted = lengths on.wrote t.wrote count more all on.counted t.counted sum;
        stands = subst (λ es. StandsAt app limits (record r { count = along }) es e) (joined edits on.wrote t.wrote) t.stands;
      }

  -- the last turn
  pub goes_over : (along : Option ℕ) (edits : List doc.Edit) (before now after : Option (List Edit)) (count : ℕ) (d e : Machine P C Q V H T E L)
      → (on : GoesOn app limits r edits before now count d)
      → TurnsAs app limits (record r { count = along }) (edits ++ map edit_of on.wrote) now after d e (Ok None)
      → Over app limits (record r { count = along }) edits before after count e
  goes_over along edits before now after count d e on t = record { wrote = on.wrote; told = t.0 ∙ on.told; counted = on.counted; settled = t.1 }

  -- a fault after some turns
  pub goes_came : (along : Option ℕ) (edits : List doc.Edit) (before now after : Option (List Edit)) (count : ℕ) (d e : Machine P C Q V H T E L) (ended : Ended)
      → (on : GoesOn app limits r edits before now count d)
      → TurnsAs app limits (record r { count = along }) (edits ++ map edit_of on.wrote) now after d e (Err ended)
      → EndsEarly app limits (record r { count = along }) edits before after ended e
  goes_came along edits before now after count d e ended on t = (
    λ fault why.
        let came = t.0 fault why in
        record {
          wrote = on.wrote ++ came.wrote;
          told = told_more before now after on.wrote came.wrote on.told came.told;
          refused = subst (λ es. Refused app limits r.props r.inputs r.from (r.opened ++ noted e) es fault) (joined edits on.wrote came.wrote) came.refused;
        },
    λ none.
        broke_after app limits r along edits before now after count d ended on
        (broke_of app limits (record r { count = along }) (r.opened ++ noted d) (edits ++ map edit_of on.wrote) now after ended (t.1 none)),
  )

  -- memory was wanting after some turns
  pub goes_wanting : (edits : List doc.Edit) (before now : Option (List Edit)) (count : ℕ) (d e : Machine P C Q V H T E L)
      → GoesOn app limits r edits before now count d
      → EndsEarly app limits r edits before now (ends.Run stops.OutOfMemory) e
  goes_wanting edits before now count d e on = (
    λ fault why. none_some why,
    λ none.
        let here = in_at app limits r (edits ++ map edit_of on.wrote) now d (ends.Run stops.OutOfMemory) on.stands ([], refl) in
        broke_after app limits r r.count edits before now now count d (ends.Run stops.OutOfMemory) on
        (broke_of app limits r (r.opened ++ noted d) (edits ++ map edit_of on.wrote) now now (ends.Run stops.OutOfMemory) here),
  )
