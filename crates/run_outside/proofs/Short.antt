-- A report that broke off, by where it stood.
use Rattle.std.proofs.Common.{ℕ, ◌+◌, Bool, true, false, List, [], ◌∷◌, ◌++◌, ◌≡◌, refl, sym, ap, ◌∙◌, subst, append_assoc, arith}
use Rattle.std.proofs.lemmas.List.{append-nil}
use Rattle.std.specs.Prelude.{Option, Some, None, if◌then◌else◌}
use Rattle.rt_model.specs.Tree.{Types, VComponent}
use Rattle.rt_model.specs.World.{Application}
use Rattle.rt_model.specs.State.{Fault, State, Item, Draw, Row, Feed, Make, Drop}
use Rattle.rt_model.specs.Replay.{start, Entry, Fed, Kept, Input, Machine, mounted_state, fed_child, keeps}
use Rattle.rt_model.specs.Document.{Edit}
use Rattle.rt_model.specs.Caused.{caused}
use Rattle.rt_model.specs.Causes.{Limits, depth_refused, height_at, next_height, turns_refused, refusal, edits_at_depth, edits_at_refusal}
use Rattle.rt_model.specs.Told.{Telling, opens, count_entries, telling, tell_log, edits_of}
use Rattle.rt_model.specs.Reports.{Report, logs_of}
use Rattle.rt_model.specs.Lists.{joined, first_of}
use Rattle.law_moves.specs.Moves.{Move, Silent, Closed, Logged, entries, Inside, AtRest}
use Rattle.law_moves.specs.Reports.{ToldSo}
use Rattle.law_moves.proofs.Joins.{logs_join}
use Rattle.law_moves.proofs.Reports.{reports_go_on}
use Rattle.run_reports.specs.Counted.{BeginsOneEach}
use Rattle.law_moves.specs.Sessions.{Sofar}
use Rattle.law_moves.specs.Turn.{entries_at}
use Rattle.law_moves.specs.Underway.{Rests, Works, Refused}
use Rattle.law_moves.proofs.Underway.{works_close}
use Rattle.law_moves.proofs.Tellings.{served_opens_none}
use Rattle.run_outside.specs.Short.{Short, ShortIn, RanShort}

-- a list of entries of which none begins a unit, and another one
none_more : (log more : List Entry) → count_entries opens log ≡ 0 → count_entries opens more ≡ 0 → count_entries opens (log ++ more) ≡ 0
none_more [] more h k = k
none_more (e ∷ log) more h k =
    let rest : count_entries opens log ≡ 0 = omega (arith, h) in
    let all : count_entries opens (log ++ more) ≡ 0 = none_more log more rest k in
    rw all (omega (arith, h))

-- moves that only serve open work begin no unit
inside_none : (moves : List Move) → Inside moves → count_entries opens (entries moves) ≡ 0
inside_none [] h = refl
inside_none (Silent ∷ moves) h = inside_none moves h
inside_none (Closed ∷ moves) h = absurd h
inside_none (Logged e ∷ moves) h =
    let rest : count_entries opens (entries moves) ≡ 0 = inside_none moves h.1 in
    rw (served_opens_none e h.0) (omega (arith, rest))

first_none : (a b : Option Fault) → first_of a b ≡ None → (a ≡ None) × (b ≡ None)
first_none None b h = (refl, h)
first_none (Some fault) b h = cc

module _ {K : Types} (app : Application K) where
  kept_none : (t : ℕ) (b : Bool) → count_entries opens ((if b then Kept t else Fed t) ∷ []) ≡ 0
  kept_none t true = refl
  kept_none t false = refl

  fed_none : (w : State K) (c : VComponent K) (o : Option ℕ)
      → count_entries opens (elim o as (λ z. List Entry) [ None ↦ [] | Some t ↦ (if keeps app w t c then Kept t else Fed t) ∷ [] ]) ≡ 0
  fed_none w c None = refl
  fed_none w c (Some t) = kept_none t (keeps app w t c)

  -- nor does an item of open work
  pub item_none : (w : State K) (item : Item K) → count_entries opens (entries_at app w item) ≡ 0
  item_none w (Draw s side p k) = refl
  item_none w (Row b step) = refl
  item_none w (Feed s side p c) = fed_none w c (fed_child w s side p)
  item_none w (Make s side p c) = refl
  item_none w (Drop t s side) = refl

module _ {K : Types} (app : Application K) (limits : Limits) where
  -- the edits at a telling's end, where no fault came and no make is too deep
  plain : (t : Telling K) → t.machine.dead ≡ None → depth_refused limits (next_height t.machine) ≡ None → edits_at_refusal app limits t ≡ t.edits
  plain t alive room =
      ap (λ (o : Option Fault). elim o as (λ z. List Edit) [ None ↦ edits_at_depth app t (depth_refused limits (next_height t.machine)) | Some fault ↦ t.edits ]) alive
      ∙ ap (λ (o : Option Fault). edits_at_depth app t o) room

  none_refused : (t : Telling K) → refusal limits t.machine ≡ None → edits_at_refusal app limits t ≡ t.edits
  none_refused t none =
      let first = first_none t.machine.dead (first_of (depth_refused limits (next_height t.machine)) (turns_refused limits t.machine)) none in
      plain t first.0 (first_none (depth_refused limits (next_height t.machine)) (turns_refused limits t.machine) first.1).0

  pub idle_none : (t : Telling K) → AtRest t.machine → edits_at_refusal app limits t ≡ t.edits
  idle_none t rest = plain t rest.alive (ap (λ (items : List (Item K)). depth_refused limits (height_at t.machine.state items)) rest.idle)

  -- nothing of a unit was taken, in the midst of a log
  abbrev pub in_here : (Part : List Edit → List Edit → Type 0) (from : Machine K) (log rest entries : List Entry) (t : Telling K)
      → ToldSo app limits from log t → edits_at_refusal app limits t ≡ t.edits → Part [] [] → log ++ rest ≡ entries
      → ShortIn app limits Part from entries t.edits
  in_here Part from log rest entries t so plain none front =
      record {
        short =
            record {
              log = log;
              done = t;
              so = so;
              unit = [];
              one = tt;
              last = t;
              cut = subst (λ (l : List Entry). ToldSo app limits from l t) (sym (append-nil log)) so;
              whole = [];
              all = plain ∙ sym (append-nil t.edits);
              taken = [];
              part = none;
              edits_are = append-nil t.edits;
            };
        later = [];
        none = refl;
        rest = rest;
        front = ap (λ (l : List Entry). l ++ rest) (append-nil log) ∙ front ∙ sym (append-nil entries);
      }

  -- no entry came
  abbrev pub in_none : (Part : List Edit → List Edit → Type 0) (from : Machine K) → AtRest from → Part [] [] → ShortIn app limits Part from [] []
  in_none Part from rest none =
      in_here Part from [] [] [] (telling from) ((reports_go_on app).0 limits from) (idle_none (telling from) rest) none refl

  pub short_none : (Part : List Edit → List Edit → Type 0) (from : Machine K) → AtRest from → Part [] [] → Short app limits Part from []
  short_none Part from rest none = (in_none Part from rest none).short

module _ {K : Types} (app : Application K) (limits : Limits) (props : K.Props) (inputs : List (Input K)) (Part : List Edit → List Edit → Type 0) where
  -- nothing was at work
  pub in_rests : (from m : Machine K) (log : List Entry) (edits : List Edit)
      → Rests app limits props inputs from log edits m → Part [] [] → ShortIn app limits Part from log edits
  in_rests from m log edits s none =
      let t : Telling K = record { machine = m; before = s.before; first = s.first; edits = edits } in
      in_here app limits Part from log [] log t s.so (idle_none app limits t s.rest) none (append-nil log)

  pub short_rests : (from m : Machine K) (log : List Entry) (edits : List Edit)
      → Rests app limits props inputs from log edits m → Part [] [] → Short app limits Part from edits
  short_rests from m log edits s none = (in_rests from m log edits s none).short

  -- a unit was at work, and nothing of it was taken
  pub in_works : (from m : Machine K) (log : List Entry) (edits : List Edit) (w : State K) (first : Entry)
      → Works app limits props inputs from log edits w first m → Part [] [] → ShortIn app limits Part from log edits
  in_works from m log edits w first s none =
      subst (λ (es : List Edit). ShortIn app limits Part from log es) s.edits_are
      (in_here app limits Part from s.earlier (first ∷ s.more) log s.told s.so (none_refused app limits s.told s.logged.within) none (sym s.log_is))

  works_more : (from m : Machine K) (log : List Entry) (edits : List Edit) (w : State K) (first : Entry)
      → (s : Works app limits props inputs from log edits w first m) → count_entries opens s.more ≡ 0
  works_more from m log edits w first s = ap (λ (l : List Entry). count_entries opens l) s.goes.logged ∙ inside_none s.goes.moves s.goes.inside

  -- a unit ended, and a part of its edits was taken
  pub in_closing : (from m : Machine K) (log : List Entry) (edits taken : List Edit) (w : State K) (first : Entry)
      → Works app limits props inputs from log edits w first m
      → m.work ≡ []
      → Part taken (caused app w (mounted_state m.state) first)
      → ShortIn app limits Part from log (edits ++ taken)
  in_closing from m log edits taken w first s idle part =
      let whole : List Edit = caused app w (mounted_state m.state) first in
      let rests = works_close app limits props inputs from m log edits w first s idle in
      let last : Telling K = record { machine = record m { unit = false; state = mounted_state m.state }; before = rests.before; first = rests.first; edits = edits ++ whole } in
      record {
        short =
            record {
              log = s.earlier;
              done = s.told;
              so = s.so;
              unit = first ∷ s.more;
              one = (s.opening, works_more from m log edits w first s);
              last = last;
              cut = subst (λ (l : List Entry). ToldSo app limits from l last) s.log_is rests.so;
              whole = whole;
              all = idle_none app limits last rests.rest ∙ ap (λ (es : List Edit). es ++ whole) (sym s.edits_are);
              taken = taken;
              part = part;
              edits_are = ap (λ (es : List Edit). es ++ taken) s.edits_are;
            };
        later = [];
        none = refl;
        rest = [];
        front = ap (λ (l : List Entry). l ++ []) (sym s.log_is);
      }

  -- a refusal ended a unit, and a part of its edits up to there was taken
  pub in_stopped : (from m : Machine K) (log es l : List Entry) (edits whole taken : List Edit) (w : State K) (first : Entry) (fault : Fault)
      → Works app limits props inputs from log edits w first m
      → l ≡ log ++ es
      → count_entries opens es ≡ 0
      → Refused app limits props inputs from l (edits ++ whole) fault
      → Part taken whole
      → ShortIn app limits Part from log (edits ++ taken)
  in_stopped from m log es l edits whole taken w first fault s is none r part =
      let split : log ++ es ≡ s.earlier ++ (first ∷ (s.more ++ es)) =
      ap (λ (x : List Entry). x ++ es) s.log_is ∙ append_assoc s.earlier (first ∷ s.more) es in
      record {
        short =
            record {
              log = s.earlier;
              done = s.told;
              so = s.so;
              unit = first ∷ (s.more ++ es);
              one = (s.opening, none_more s.more es (works_more from m log edits w first s) none);
              last = r.last;
              cut = subst (λ (x : List Entry). ToldSo app limits from x r.last) (is ∙ split) r.so;
              whole = whole;
              all = r.edits_are ∙ ap (λ (x : List Edit). x ++ whole) (sym s.edits_are);
              taken = taken;
              part = part;
              edits_are = ap (λ (x : List Edit). x ++ taken) s.edits_are;
            };
        later = es;
        none = none;
        rest = [];
        front = append-nil (s.earlier ++ (first ∷ (s.more ++ es))) ∙ sym split;
      }

module _ {K : Types} (app : Application K) (limits : Limits) (props : K.Props) (inputs : List (Input K)) where
  -- a session that broke off after these reports
  pub sofar_short : (Part : List Edit → List Edit → Type 0) (reports : List Report) (edits more : List Edit) (from : Machine K)
      → Sofar app limits props inputs reports edits from
      → Short app limits Part from more
      → BeginsOneEach inputs (logs_of reports)
      → RanShort app props inputs limits (Some (edits ++ more)) reports Part
  sofar_short Part reports edits more from s r begins =
      let first : Machine K = start app props inputs in
      record {
        told = s.told;
        accepted = s.accepted;
        begins = begins;
        counted = s.counted;
        settled = s.settled;
        log = r.log;
        done = r.done;
        goes_on = ap (λ (x : Machine K). tell_log app (Some (telling x)) r.log) s.ends ∙ r.so.told;
        unit = r.unit;
        one = r.one;
        last = r.last;
        cut = sym ((logs_join app limits r.log r.unit).2 (telling from) r.done r.so.told) ∙ r.cut.told;
        within = (logs_join app limits (joined (logs_of reports)) (r.log ++ r.unit)).0 first from s.within ∙ r.cut.accepted;
        whole = r.whole;
        whole_is = r.all;
        part = r.taken;
        part_is = r.part;
        edits =
            ap (λ (es : List Edit). es ++ more) (sym s.edits_are)
            ∙ ap (λ (es : List Edit). joined (edits_of s.told) ++ es) (sym r.edits_are);
      }

  -- a part by another name
  pub short_as : (Part Other : List Edit → List Edit → Type 0) (taken : Option (List Edit)) (reports : List Report)
      → ((part whole : List Edit) → Part part whole → Other part whole)
      → RanShort app props inputs limits taken reports Part
      → RanShort app props inputs limits taken reports Other
  short_as Part Other taken reports same r =
      record {
        told = r.told;
        accepted = r.accepted;
        begins = r.begins;
        counted = r.counted;
        settled = r.settled;
        log = r.log;
        done = r.done;
        goes_on = r.goes_on;
        unit = r.unit;
        one = r.one;
        last = r.last;
        cut = r.cut;
        within = r.within;
        whole = r.whole;
        whole_is = r.whole_is;
        part = r.part;
        part_is = same r.part r.whole r.part_is;
        edits = r.edits;
      }
