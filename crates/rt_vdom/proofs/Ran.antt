-- What holds of a dom's call, by the laws of a program's calls.
use Rattle.std.proofs.Common.{ℕ, Bool, true, false, List, ◌≡◌, inl, inr, refl, sym, ap, ◌∙◌, subst, map}
use Rattle.std.specs.Prelude.{Option, Some, Result, Ok, Err, []}
use Rattle.rt_model.specs.Document.{Forest, document_after}
use Rattle.rt_model.specs.Lists.{Text}
use Rattle.run_state.specs.Names.{fault_of as cause_of}
use Rattle.run_state.specs.declared.names.Stop.{Stop}
use Rattle.run_state.specs.declared.names.Stop.TheVariants as stops
use Rattle.run_outside.specs.Ends.{fault_in}
use Rattle.run_outside.specs.Short.{Short, PartBy, PartOf}
use Rattle.run_outside.specs.declared.ended.Ended.{Ended}
use Rattle.run_outside.specs.declared.ended.Ended.TheVariants as ends
use Rattle.run_machine.specs.declared.machine.Machine.{Machine}
use Rattle.rt_scopes.specs.Outcomes.{CutBy}
use Rattle.run_rounds.specs.Handled.{HearsOn, HeardUpTo}
use Rattle.rt_edits.specs.declared.edit.Edit.{Edit}
use Rattle.tree_edits.specs.Documents.{edit_of}
use Rattle.rt_model.specs.Document as document
use Rattle.rt_model.specs.OneLog.{types}
use Rattle.rt_model.specs.Tree.{Types}
use Rattle.rt_model.specs.World.{Application}
use Rattle.rt_model.specs.Laws.{IsLawful}
use Rattle.rt_model.specs.State as model
use Rattle.rt_model.specs.Causes as causes
use Rattle.rt_model.specs.Replay as replay
use Rattle.law_behavior.specs.Doms.{Until, Events, Renders, Settles, LedTo, CallSpent, SpentHolds, left_by}
use Rattle.law_behavior.proofs.Doms.{calls_hold, renders_hold, settled_hold, spent_hold}
use Rattle.law_behavior.proofs.RunsOnce.{renders_run_once, renders_rerun_in_turn, renders_make_or_feed}
use Rattle.law_behavior.proofs.Stopping.{calls_come_to, renders_come_to}
use Rattle.run_reports.specs.Seen.{entry_of, limits_of}
use Rattle.run_reports.specs.declared.fault.Fault.{Fault}
use Rattle.run_reports.specs.declared.report.Report.{Report}
use Rattle.run_reports.specs.declared.limits.Limits.{Limits}
use Rattle.rt_model.specs.Asides.{resting}
use Rattle.rt_model.specs.Next.{look}
use Rattle.rt_model.specs.Rendering.{rendering_rest}
use Rattle.run_rounds.specs.Rounds.{BrokeAlone, CallBroke, RanBy, StoppedBy, RestsAt}
use Rattle.run_rounds.specs.Suspended.{RenderBroke}
use Rattle.rt_vdom.specs.Doms.{Stands}
use Rattle.rt_vdom.specs.Calls.{Keeps}
use Rattle.rt_vdom.specs.Runs.{HoldsBy, ComesBy, Runs, RunsOnce, Settled}
use Rattle.rt_vdom.specs.declared.dom.VirtualDom.{VirtualDom}
use Rattle.run_answers.specs.declared.refusal.DomFault.{DomFault}

module _ {P C Q V H T E L : Type 0} (meaning : P → Application (types C Q V H T E L)) (app : P)
    (lawful : IsLawful (types C Q V H T E L) (meaning app)) (limits : Limits) (props : Q) (whole : Bool)
    (w : model.State (types C Q V H T E L)) (led : LedTo (meaning app) (limits_of limits) props whole w) where
  -- a call that ended
  pub holds_by : (until : Until) (log : List replay.Entry) (edits : List document.Edit) (v : replay.Machine (types C Q V H T E L))
      → RanBy (meaning app) (limits_of limits) w until log edits v
      → HoldsBy meaning app limits props whole w until log edits v
  holds_by Events log edits v r = calls_hold (meaning app) lawful (limits_of limits) props whole Events w log edits v led r
  holds_by Renders log edits v r = renders_hold (meaning app) lawful (limits_of limits) props whole w log edits v led r
  holds_by Settles log edits v r = calls_hold (meaning app) lawful (limits_of limits) props whole Settles w log edits v led r

  -- where it leads
  pub leads_by : (until : Until) (log : List replay.Entry) (edits : List document.Edit) (v : replay.Machine (types C Q V H T E L))
      → HoldsBy meaning app limits props whole w until log edits v
      → LedTo (meaning app) (limits_of limits) props whole (left_by until v.state)
  leads_by Events log edits v h = h.leads
  leads_by Renders log edits v h = h.leads
  leads_by Settles log edits v h = h.leads

  -- a call that came to a fault
  pub comes_by : (until : Until) (log : List replay.Entry) (edits : List document.Edit) (fault : model.Fault)
      → StoppedBy (meaning app) (limits_of limits) w until log edits fault
      → ComesBy meaning app limits props whole w until log fault
  comes_by Events log edits fault r = calls_come_to (meaning app) lawful (limits_of limits) props whole Events w log edits fault led r
  comes_by Renders log edits fault (inl r) =
      inl (calls_come_to (meaning app) lawful (limits_of limits) props whole Events w log edits fault led r)
  comes_by Renders log edits fault (inr r) =
      inr (renders_come_to (meaning app) lawful (limits_of limits) props whole w log edits fault led r)
  comes_by Settles log edits fault r = calls_come_to (meaning app) lawful (limits_of limits) props whole Settles w log edits fault led r

  -- a call whose units were spent
  pub spent_by : (log : List replay.Entry) (edits : List document.Edit) (v : replay.Machine (types C Q V H T E L))
      → CallSpent (meaning app) (limits_of limits) w log edits v
      → SpentHolds (meaning app) (limits_of limits) props whole w edits v
  spent_by log edits v r = spent_hold (meaning app) lawful (limits_of limits) props whole w log edits v led r

module _ {P C Q V H T E L : Type 0} (meaning : P → Application (types C Q V H T E L)) where
  -- a dom that stands for a state keeps a machine that rests there
  pub rests_in : (props : Q) (whole : Bool) (w : model.State (types C Q V H T E L)) (d : VirtualDom P C Q V H T E L)
      → Stands meaning props whole w d → RestsAt w d.machine d.calls
  rests_in props whole w d s = record { idle = s.idle; kept = s.kept; is = s.is; counted = s.counted }

  -- nothing is asked of what was passed over on the way
  pub any_way : (props : Q) (whole : Bool) (w : model.State (types C Q V H T E L)) (d : VirtualDom P C Q V H T E L)
      → Stands meaning props whole w d → LedTo (meaning d.app) (limits_of d.limits) props false w
  any_way props whole w d s = record { reached = (s.led).reached; known = inr refl }

  -- what led to a state leads to it under what a call keeps
  led_kept : (old new : VirtualDom P C Q V H T E L) (props : Q) (whole : Bool) (w : model.State (types C Q V H T E L)) → Keeps old new
      → LedTo (meaning old.app) (limits_of old.limits) props whole w
      → LedTo (meaning new.app) (limits_of new.limits) props whole w
  led_kept old new props whole w keeps led =
      subst (λ (l : Limits). LedTo (meaning new.app) (limits_of l) props whole w) (sym keeps.1)
      (subst (λ (a : P). LedTo (meaning a) (limits_of old.limits) props whole w) (sym keeps.0) led)

  -- where a call that settles ended all is current
  pub settled_of : (old new : VirtualDom P C Q V H T E L) (result : Result Report DomFault) (before after : Option (List Edit))
      → ((app : P) → IsLawful (types C Q V H T E L) (meaning app))
      → Keeps old new
      → Runs meaning Settles before after old new result
      → Settled meaning old new result
  settled_of old new (Err fault) before after lawful keeps runs = λ props w s. tt
  settled_of old new (Ok report) before after lawful keeps runs = λ props w s.
      let went = runs props true w s in
      let led = led_kept old new props true w keeps s.led in
      let holds =
      settled_hold (meaning new.app) (lawful new.app) (limits_of new.limits) props w (map entry_of report.log) (map edit_of went.wrote)
      went.last led went.ran in
      (went.last.state, went.stands, holds.0, holds.1)

  -- where a whole render ended no body ran twice, and the others were made or fed
  pub once_of : (old new : VirtualDom P C Q V H T E L) (result : Result Report DomFault) (before after : Option (List Edit))
      → ((app : P) → IsLawful (types C Q V H T E L) (meaning app))
      → Keeps old new
      → Runs meaning Renders before after old new result
      → RunsOnce meaning old new result
  once_of old new (Err fault) before after lawful keeps runs = λ props whole w s. tt
  once_of old new (Ok report) before after lawful keeps runs = λ props whole w s.
      let went = runs props whole w s in
      let led = led_kept old new props whole w keeps s.led in
      let app = meaning new.app in
      let limits = limits_of new.limits in
      let log = map entry_of report.log in
      let edits = map edit_of went.wrote in
      record {
        once = λ none. renders_run_once app (lawful new.app) limits props whole w log edits went.last led went.ran none;
        reruns = λ none. renders_rerun_in_turn app (lawful new.app) limits props whole w log edits went.last led went.ran none;
        others = renders_make_or_feed app limits w log edits went.last went.ran;
      }

-- what shows stays where nothing was written
pub one_document : (x y : Forest) → document_after [] x ≡ Ok y → y ≡ x
one_document x y h = let same : x ≡ y = cc in sym same

some_is : (a b : model.Fault) → Some a ≡ Some b → a ≡ b
some_is a b h = cc

module _ {K : Types} where
  -- a removal that was cut by the fault that is answered
  pub closed_cut : (o : model.Outcome K) (v : model.State K) (stop : Stop) (fault : model.Fault) → CutBy o v stop
      → fault_in (ends.Run stop) ≡ Some fault
      → (u : model.State K) × (o ≡ model.Cut u fault)
  closed_cut o v stops.OutOfMemory fault h why = cc
  closed_cut o v (stops.Fault what) fault h why = (v, h ∙ ap (λ (f : model.Fault). model.Cut v f) (some_is (cause_of what) fault why))

module _ {P C Q V H T E L : Type 0} (app : Application (types C Q V H T E L)) (w : model.State (types C Q V H T E L))
    (name : Text) (payload : L) (element : ℕ) (bubbles prevented : Bool) where
  -- a listener came to the fault that is answered
  pub cut_of : (calls : ℕ) (m : Machine P C Q V H T E L) (stop : Stop) (fault : model.Fault)
      → HearsOn app w name payload element bubbles prevented (Err stop) m calls
      → fault_in (ends.Run stop) ≡ Some fault
      → HeardUpTo app w name payload element bubbles prevented fault
  cut_of calls m stops.OutOfMemory fault h why = cc
  cut_of calls m (stops.Fault what) fault h why =
      subst (λ (f : model.Fault). HeardUpTo app w name payload element bubbles prevented f) (some_is (cause_of what) fault why) h

module _ {K : Types} (app : Application K) (limits : causes.Limits) (from : replay.Machine K) where
  -- a report that broke off, by another word for what the sink took of the unit that was cut
  abbrev short_parts : (P R : List document.Edit → List document.Edit → Type 0) (edits : List document.Edit)
      → ((taken whole : List document.Edit) → P taken whole → R taken whole)
      → Short app limits P from edits
      → Short app limits R from edits
  short_parts P R edits f s =
      record {
        log = s.log;
        done = s.done;
        so = s.so;
        unit = s.unit;
        one = s.one;
        last = s.last;
        cut = s.cut;
        whole = s.whole;
        all = s.all;
        taken = s.taken;
        part = f s.taken s.whole s.part;
        edits_are = s.edits_are;
      }

  -- of a build, by the fault that is answered
  pub build_broken_as : (before after : Option (List Edit)) (ended : Ended) (what : Fault)
      → ((taken edits : List document.Edit) → PartBy ended taken edits → PartOf what taken edits)
      → BrokeAlone app limits from before after (PartBy ended)
      → BrokeAlone app limits from before after (PartOf what)
  build_broken_as before after ended what f b =
      record {
        broke =
            record {
              wrote = (b.broke).wrote;
              told = (b.broke).told;
              short = short_parts (PartBy ended) (PartOf what) (map edit_of (b.broke).wrote) f (b.broke).short;
            };
        alone = b.alone;
      }

module _ {C Q V H T E L : Type 0} (app : Application (types C Q V H T E L)) (limits : causes.Limits)
    (w : model.State (types C Q V H T E L)) where
  -- of a call
  pub call_broken_as : (until : Until) (before after : Option (List Edit)) (ended : Ended) (what : Fault)
      → ((taken edits : List document.Edit) → PartBy ended taken edits → PartOf what taken edits)
      → CallBroke app limits w until before after (PartBy ended)
      → CallBroke app limits w until before after (PartOf what)
  call_broken_as until before after ended what f b =
      record {
        broke =
            record {
              wrote = (b.broke).wrote;
              told = (b.broke).told;
              short = short_parts app limits (resting (look w)) (PartBy ended) (PartOf what) (map edit_of (b.broke).wrote) f (b.broke).short;
            };
        unended = b.unended;
      }

  -- so of a render while suspended
  pub render_broken_as : (before after : Option (List Edit)) (ended : Ended) (what : Fault)
      → ((taken edits : List document.Edit) → PartBy ended taken edits → PartOf what taken edits)
      → RenderBroke app limits w before after (PartBy ended)
      → RenderBroke app limits w before after (PartOf what)
  render_broken_as before after ended what f b =
      record {
        log = b.log;
        far = b.far;
        part = b.part;
        told = b.told;
        short = short_parts app limits (resting (rendering_rest (b.far).left)) (PartBy ended) (PartOf what) (map edit_of b.part) f b.short;
        alone = b.alone;
        last = b.last;
        within = b.within;
      }
