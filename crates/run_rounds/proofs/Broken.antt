-- A call that broke off had begun no unit where it ends.
use Rattle.std.proofs.Common.{ℕ, Bool, true, false, ◌⊎◌, inl, inr, List, [], ◌∷◌, ◌++◌, ◌≡◌, refl, sym, ap, ◌∙◌, subst, map, append_assoc}
use Rattle.std.specs.Prelude.{Option, Some, None, Ok}
use Rattle.rt_lemmas.proofs.Lists.{tails}
use Rattle.rt_edits.specs.declared.edit.Edit.{Edit}
use Rattle.tree_edits.specs.Documents.{edit_of}
use Rattle.rt_model.specs.Document as doc
use Rattle.rt_model.specs.OneLog.{types}
use Rattle.rt_model.specs.Tree.{Types}
use Rattle.rt_model.specs.World.{Application}
use Rattle.rt_model.specs.Laws.{IsLawful}
use Rattle.rt_model.specs.State as model
use Rattle.rt_model.specs.Next.{look}
use Rattle.rt_model.specs.Replay as replay
use Rattle.rt_model.specs.Causes as causes
use Rattle.rt_model.specs.Asides.{resting}
use Rattle.rt_model.specs.Sentences.{events_end, render_ends}
use Rattle.rt_model.proofs.ToldReplayed.{within-replays}
use Rattle.law_behavior.specs.Doms.{Until, Events, Renders, Settles, NoneOpens, Unended, ends_by}
use Rattle.run_machine.specs.Machines.{machine_of, noted}
use Rattle.run_outside.specs.Short.{PartBy}
use Rattle.run_machine.specs.Stands.{Going, BrokeIn, BrokeAt}
use Rattle.run_outside.specs.declared.ended.Ended.{Ended}
use Rattle.run_machine.specs.declared.machine.Machine.{Machine}
use Rattle.run_machine.proofs.Breaking.{in_after}
use Rattle.run_outside.proofs.Short.{in_none}
use Rattle.run_machine.proofs.Turning.{grown_none}
use Rattle.run_rounds.specs.Going.{Grown, BrokeUntil, RenderedShort, BrokeBy, GoesBy}
use Rattle.run_rounds.specs.Rounds.{CallBroke, UnendedBy}
use Rattle.run_rounds.proofs.Alone.{none_opens}
use Rattle.run_rounds.proofs.Breaks.{wanting, breaks_at}
use Rattle.run_rounds.proofs.Going.{quiet_at}
use Rattle.run_rounds.proofs.Reporting.{going_from, standing, unended_all}

heads : {A : Type 0} {x y : A} {xs ys : List A} → x ∷ xs ≡ y ∷ ys → x ≡ y
heads h = cc

both : {A : Type 0} {x y : A} {xs ys : List A} → x ≡ y → xs ≡ ys → x ∷ xs ≡ y ∷ ys
both h k = cc

-- a front of two lists is one of the first, or the first with a front of the second
split : (log rest first more : List replay.Entry) → log ++ rest ≡ first ++ more
    → ((c : List replay.Entry) × (log ++ c ≡ first)) ⊎ ((c : List replay.Entry) × (first ++ c ≡ log) × (c ++ rest ≡ more))
split [] rest first more is = inl (first, refl)
split (e ∷ log) rest [] more is = inr (e ∷ log, refl, is)
split (e ∷ log) rest (d ∷ first) more is = by (split log rest first more (tails same))
  where
    same : e ∷ (log ++ rest) ≡ d ∷ (first ++ more)
    same = is

    by : ((c : List replay.Entry) × (log ++ c ≡ first)) ⊎ ((c : List replay.Entry) × (first ++ c ≡ log) × (c ++ rest ≡ more))
        → ((c : List replay.Entry) × ((e ∷ log) ++ c ≡ d ∷ first))
        ⊎ ((c : List replay.Entry) × ((d ∷ first) ++ c ≡ e ∷ log) × (c ++ rest ≡ more))
    by (inl p) = inl (p.0, both (heads same) p.1)
    by (inr p) = inr (p.0, both (sym (heads same)) p.1, p.2)

module _ {K : Types} (app : Application K) (test : model.State K → Bool) where
  -- entries that begin no unit begin none where the test holds
  none_unended : (m : replay.Machine K) (log : List replay.Entry) → NoneOpens log → Unended app test m log
  none_unended m [] h = tt
  none_unended m (e ∷ log) h =
      (λ o. let absurdity : true ≡ false = sym o ∙ h.0 in cc, λ z is. none_unended z log h.1)

  -- nor do they behind others
  later_unended : (m : replay.Machine K) (log later : List replay.Entry) → Unended app test m log → NoneOpens later
      → Unended app test m (log ++ later)
  later_unended m [] later u none = none_unended m later none
  later_unended m (e ∷ log) later u none = (u.0, λ z is. later_unended z log later (u.1 z is) none)

  -- nor does a front
  front_unended : (m : replay.Machine K) (log rest : List replay.Entry) → Unended app test m (log ++ rest) → Unended app test m log
  front_unended m [] rest u = tt
  front_unended m (e ∷ log) rest u = (u.0, λ z is. front_unended z log rest (u.1 z is))

module _ {P C Q V H T E L : Type 0} (app : Application (types C Q V H T E L)) (lawful : IsLawful (types C Q V H T E L) app)
    (limits : causes.Limits) (r : Going (types C Q V H T E L)) where
  -- it broke off at a machine up to which no unit was begun where the test holds
  pub until_broke : (until : Until) (edits : List doc.Edit) (before after : Option (List Edit)) (ended : Ended) (old mid : Machine P C Q V H T E L)
      → Grown app limits r until old mid
      → BrokeAt app limits r edits before after ended mid
      → BrokeUntil app limits r until edits before after ended old
  until_broke until edits before after ended old mid h broke =
      record {
        more = h.more;
        unended = h.unended;
        broke =
            subst (λ (l : List replay.Entry). BrokeIn app limits r l edits before after ended)
            (ap (λ (l : List replay.Entry). r.opened ++ l) h.logged ∙ sym (append_assoc r.opened (noted old) h.more)) broke;
      }

  -- all turns of a call were done, and then memory was wanting
  pub breaks_by : (until : Until) (before after : Option (List Edit)) (count : ℕ) (old new : Machine P C Q V H T E L)
      → GoesBy app limits r until before after old new (Ok count) → BrokeBy app limits r until before after wanting old
  breaks_by Events before after count old new h =
      until_broke Events [] before after wanting old new (h.gone).grown (breaks_at app lawful limits r [] before after count new (h.gone).on)
  breaks_by Settles before after count old new h =
      until_broke Settles [] before after wanting old new (h.gone).grown (breaks_at app lawful limits r [] before after count new (h.gone).on)
  breaks_by Renders before after count old new h =
      let first = ((h.first).gone).on in
      let second = (h.second).gone in
      inr (record {
        between = h.between;
        counted = h.counted;
        middle = h.middle;
        events = h.events;
        first = h.first;
        second =
            until_broke Renders (map edit_of first.wrote) h.middle after wanting h.between new second.grown
            (breaks_at app lawful limits r (map edit_of first.wrote) h.middle after h.more new second.on);
      })

module _ {K : Types} (app : Application K) (w : model.State K) where
  -- a front of a render's log, of which events were processed up to a machine between
  past_by : (log rest first more : List replay.Entry) (between : replay.Machine K)
      → replay.replay_on app (Some (resting (look w))) first ≡ Some between
      → Unended app (λ (x : model.State K). events_end x) (resting (look w)) first
      → replay.is_quiet between ≡ true → events_end between.state ≡ true
      → Unended app (λ (x : model.State K). render_ends x) between more
      → log ++ rest ≡ first ++ more
      → UnendedBy app w Renders log
  past_by log rest first more between goes events calm processed renders is = by (split log rest first more is)
    where
      by : ((c : List replay.Entry) × (log ++ c ≡ first)) ⊎ ((c : List replay.Entry) × (first ++ c ≡ log) × (c ++ rest ≡ more))
          → UnendedBy app w Renders log
      by (inl p) =
          inl (front_unended app (λ (x : model.State K). events_end x) (resting (look w)) log p.0
          (subst (λ (l : List replay.Entry). Unended app (λ (x : model.State K). events_end x) (resting (look w)) l) (sym p.1) events))
      by (inr p) =
          inr (record {
            first = first;
            more = p.0;
            whole = p.1;
            between = between;
            goes = goes;
            events = events;
            calm = calm;
            processed = processed;
            renders =
                front_unended app (λ (x : model.State K). render_ends x) between p.0 rest
                (subst (λ (l : List replay.Entry). Unended app (λ (x : model.State K). render_ends x) between l) (sym p.2) renders);
          })

-- no entry came
unended_none : {K : Types} (app : Application K) (w : model.State K) (until : Until) → UnendedBy app w until []
unended_none app w Events = tt
unended_none app w Renders = inl tt
unended_none app w Settles = tt

module _ {C Q V H T E L : Type 0} (app : Application (types C Q V H T E L)) (limits : causes.Limits) (w : model.State (types C Q V H T E L)) where
  -- memory was wanting for the first look
  pub broke_look : (until : Until) (now : Option (List Edit)) → CallBroke app limits w until now now (PartBy wanting)
  broke_look until now =
      record {
        broke =
            record {
              wrote = [];
              told = grown_none now;
              short = (in_none app limits (PartBy wanting) (resting (look w)) (record { alive = refl; idle = refl; unit = refl }) ([], refl)).short;
            };
        unended = unended_none app w until;
      }

module _ {P C Q V H T E L : Type 0} (app : Application (types C Q V H T E L)) (lawful : IsLawful (types C Q V H T E L) app)
    (limits : causes.Limits) (props : Q) (w : model.State (types C Q V H T E L)) where
  -- in a call of one part, or in the first one of a render
  broke_one : (by until : Until) (along : Option ℕ) (before after : Option (List Edit)) (ended : Ended) (old : Machine P C Q V H T E L)
      → ((log : List replay.Entry) → Unended app (λ (x : model.State (types C Q V H T E L)). ends_by by x) (resting (look w)) log
      → UnendedBy app w until log)
      → noted old ≡ []
      → BrokeUntil app limits (going_from props w along) by [] before after ended old
      → CallBroke app limits w until before after (PartBy ended)
  broke_one by until along before after ended old gives none h =
      let broke = h.broke in
      let s = broke.short in
      let test = λ (x : model.State (types C Q V H T E L)). ends_by by x in
      let told : List replay.Entry = (s.short).log ++ (s.short).unit in
      let all : told ++ s.rest ≡ h.more ++ s.later =
      s.front ∙ ap (λ (l : List replay.Entry). (l ++ h.more) ++ s.later) none in
      let begun : replay.replay_on app (Some (resting (look w))) (noted old) ≡ Some (resting (look w)) =
      ap (λ (l : List replay.Entry). replay.replay_on app (Some (resting (look w))) l) none in
      record {
        broke = record { wrote = broke.wrote; told = broke.told; short = s.short };
        unended =
            gives told
            (front_unended app test (resting (look w)) told s.rest
            (subst (λ (l : List replay.Entry). Unended app test (resting (look w)) l) (sym all)
            (later_unended app test (resting (look w)) h.more s.later (h.unended (resting (look w)) begun) (none_opens s.later s.none))));
      }

  -- in a render after events were processed
  broke_past : (along : Option ℕ) (before after : Option (List Edit)) (ended : Ended) (old : Machine P C Q V H T E L)
      → noted old ≡ [] → old.hearing ≡ None
      → RenderedShort app limits (going_from props w along) before after ended old
      → CallBroke app limits w Renders before after (PartBy ended)
  broke_past along before after ended old none silent h =
      let first = (h.first).gone in
      let b : Machine P C Q V H T E L = h.between in
      let t = standing app lawful limits props true w h.counted (map edit_of (first.on).wrote) b (first.on).stands (h.first).over in
      let between : replay.Machine (types C Q V H T E L) = machine_of t.0 [] 0 b in
      let goes : replay.replay_on app (Some (resting (look w))) (noted b) ≡ Some between =
      within-replays app limits (noted b) (resting (look w)) between t.1.so.accepted in
      let entries : List replay.Entry = noted b ++ (h.second).more in
      let broke : BrokeIn app limits (going_from props w along) entries [] before after ended =
      in_after app limits (going_from props w h.counted) along entries [] before h.middle after h.events b ended first.on (h.second).broke in
      let s = broke.short in
      let told : List replay.Entry = (s.short).log ++ (s.short).unit in
      let events : Unended app (λ (x : model.State (types C Q V H T E L)). events_end x) (resting (look w)) (noted b) =
      unended_all app lawful limits props true w h.counted Events old b none first.grown in
      let renders : Unended app (λ (x : model.State (types C Q V H T E L)). render_ends x) between ((h.second).more ++ s.later) =
      later_unended app (λ (x : model.State (types C Q V H T E L)). render_ends x) between (h.second).more s.later ((h.second).unended between goes)
      (none_opens s.later s.none) in
      record {
        broke = record { wrote = broke.wrote; told = broke.told; short = s.short };
        unended =
            past_by app w told s.rest (noted b) ((h.second).more ++ s.later) between goes events
            (quiet_at app lawful limits (going_from props w h.counted) Events t.0 b (h.first).idle (first.silent silent).0)
            ((h.first).ended t.0) renders (s.front ∙ append_assoc (noted b) (h.second).more s.later);
      }

  -- in a call, by what it goes up to
  pub call_broke : (along : Option ℕ) (until : Until) (before after : Option (List Edit)) (ended : Ended) (old : Machine P C Q V H T E L)
      → noted old ≡ [] → old.hearing ≡ None
      → BrokeBy app limits (going_from props w along) until before after ended old
      → CallBroke app limits w until before after (PartBy ended)
  call_broke along Events before after ended old none silent h =
      broke_one Events Events along before after ended old (λ log u. u) none h
  call_broke along Settles before after ended old none silent h =
      broke_one Settles Settles along before after ended old (λ log u. u) none h
  call_broke along Renders before after ended old none silent (inl h) =
      broke_one Events Renders along before after ended old (λ log u. inl u) none h
  call_broke along Renders before after ended old none silent (inr h) = broke_past along before after ended old none silent h
