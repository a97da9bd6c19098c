-- The page is put, and the wakes are answered behind it.
use Rattle.std.proofs.Common.{◌≡◌, ◌⊎◌, ℕ, ◌≤◌, true, List, [], ◌∷◌, None, Result, Ok, Err, refl, sym, ap, ◌∙◌, subst, arith, inl, inr}
use Rattle.std.specs.Prelude.{IfErr, IfOk}
use Rattle.law_behavior.specs.Doms.{GivenBuildRan}
use Rattle.law_moves.proofs.Begun.{ones_above}
use Rattle.rt_html.specs.Spelling.{are_namable}
use Rattle.rt_model.specs.Document.{Edit}
use Rattle.rt_model.specs.OneLog.{types}
use Rattle.rt_model.specs.Replay.{Entry, Machine, ones}
use Rattle.rt_model.specs.State as model
use Rattle.rt_model.specs.View.{nodes_of}
use Rattle.rt_model.specs.World.{Application}
use Rattle.run_reports.specs.Seen.{limits_of}
use Rattle.run_reports.specs.declared.fault.Fault.{Fault}
use Rattle.run_reports.specs.declared.fault.Fault.TheVariants as runs
use Rattle.run_reports.specs.declared.limits.Limits.{Limits}
use Rattle.run_reports.specs.declared.report.Report.{Report}
use Rattle.show_streams.specs.Writes.{AddsFront, Puts, grown}
use Rattle.rt_vdom.specs.Calls.{Keeps}
use Rattle.rt_vdom.specs.Doms.{IsStarted}
use Rattle.rt_vdom.specs.Runs.{Builds, Built}
use Rattle.rt_vdom.specs.declared.dom.VirtualDom.{VirtualDom}
use Rattle.rt_served.specs.Faults.{CausedBy, PartBy, run_fault}
use Rattle.rt_served.specs.Serving.{BuildStops, BuildsTo, ComesTo, IsServable, IsUnspelt, Opened, RenderStops, ServesAll, ServesFront, ServesPart, ServesWhole, WakeStops, WakeUnspelt, page}
use Rattle.rt_served.specs.Stood.{AnsweredAs, AnsweredFront, AnsweredWhole, Keeping, OpenStops, OpensAs, OpensDone, OpensFront, PageUnspelt, PutBy, PutsTexts}
use Rattle.rt_served.specs.declared.refusal.ServeFault.{ServeFault}
use Rattle.rt_served.specs.declared.refusal.ServeFault.TheVariants as faults
use Rattle.rt_served.proofs.Answering.{Rendered}
use Rattle.rt_served.proofs.Failing.{caused_on, part_of, part_on, wanting_alone}
use Rattle.rt_served.proofs.Fronts.{front_after, grown_both}

module _ {P C Q V H T E L : Type 0} (meaning : P → Application (types C Q V H T E L)) (app : P) (limits : Limits) (props : Q) where
  -- the build ended
  pub record BuiltTo (new : VirtualDom P C Q V H T E L) : Type 0 where
    pub state : model.State (types C Q V H T E L)
    pub builds : BuildsTo (meaning app) (limits_of limits) props state
    pub keeps : Keeping meaning app limits props true state new

  builds_at : (a : P) (l : Limits) (log : List Entry) (edits : List Edit) (last : Machine (types C Q V H T E L))
      → a ≡ app → l ≡ limits
      → GivenBuildRan (meaning a) (limits_of l) props ones [] log edits last
      → BuildsTo (meaning app) (limits_of limits) props last.state
  builds_at a l log edits last owned limited ran = record {
    log = log;
    edits = edits;
    last = last;
    ran =
        subst (λ (x : P). GivenBuildRan (meaning x) (limits_of limits) props ones [] log edits last) owned
        (subst (λ (x : Limits). GivenBuildRan (meaning a) (limits_of x) props ones [] log edits last) limited ran);
    at = refl;
  }

  pub built : (old new : VirtualDom P C Q V H T E L) (report : Report)
      → IsStarted meaning app props ones [] limits old
      → Builds meaning None None old new (Ok report)
      → Keeps old new
      → BuiltTo new
  built old new report started builds kept =
      let own : IsStarted meaning old.app props ones [] old.limits old =
      subst (λ (a : P). IsStarted meaning a props ones [] old.limits old) (sym started.owned)
      (subst (λ (l : Limits). IsStarted meaning app props ones [] l old) (sym started.limited) started) in
      let b : Built meaning props ones [] None None new report = builds props ones [] ones_above own in
      let owned : new.app ≡ app = kept.0 ∙ started.owned in
      let limited : new.limits ≡ limits = kept.1 ∙ started.limited in
      record {
        state = (b.last).state;
        builds = builds_at new.app new.limits _ _ b.last owned limited b.ran;
        keeps = record { owned = owned; limited = limited; stands = b.stands };
      }

  -- the build came to a fault, and nothing is put
  pub build_stopped : (new : VirtualDom P C Q V H T E L) (old : Puts) (before : ℕ) (fault : ServeFault)
      → CausedBy limits (λ (f : model.Fault). BuildStops (meaning app) (limits_of limits) props f)
      (PageUnspelt meaning app limits props) before before fault
      → OpensAs meaning app limits props new old old before before (Err fault)
  build_stopped new old before fault caused = (
    part_of fault (old ≡ old) ((old ≡ old) ⊎ OpensFront meaning app limits props old old) refl (inl refl),
    caused_on limits (λ (f : model.Fault). BuildStops (meaning app) (limits_of limits) props f)
        (λ (f : model.Fault). OpenStops meaning app limits props f) (PageUnspelt meaning app limits props)
        (PageUnspelt meaning app limits props) before before before before fault (λ f h. inl h) (λ h. h) (λ h. h) caused,
  )

  -- the render after it did
  pub render_stopped : (mid new : VirtualDom P C Q V H T E L) (old : Puts) (before : ℕ) (fault : ServeFault)
      → (b : BuiltTo mid)
      → CausedBy limits (λ (f : model.Fault). RenderStops (meaning app) (limits_of limits) b.state f)
      (PageUnspelt meaning app limits props) before before fault
      → OpensAs meaning app limits props new old old before before (Err fault)
  render_stopped mid new old before fault b caused = (
    part_of fault (old ≡ old) ((old ≡ old) ⊎ OpensFront meaning app limits props old old) refl (inl refl),
    caused_on limits (λ (f : model.Fault). RenderStops (meaning app) (limits_of limits) b.state f)
        (λ (f : model.Fault). OpenStops meaning app limits props f) (PageUnspelt meaning app limits props)
        (PageUnspelt meaning app limits props) before before before before fault (λ f h. inr (b.state, b.builds, h)) (λ h. h) (λ h. h)
        caused,
  )

  -- the page was put, or a front of it
  pub page_put : (mid new : VirtualDom P C Q V H T E L) (turned : List ℕ) (old now : Puts) (before after : ℕ)
      (result : Result (Unit {0}) ServeFault)
      → (b : BuiltTo mid)
      → (r : Rendered meaning app limits props b.state turned new)
      → PutsTexts (page r.next ∷ []) (are_namable (nodes_of r.next 0)) old now before after result
      → OpensAs meaning app limits props new old now before after result
  page_put mid new turned old now before after result b r puts = by result puts
    where
      opened : Opened (meaning app) (limits_of limits) props r.next
      opened = record { built = b.state; builds = b.builds; turned = turned; renders = r.renders }

      caused : (f : ServeFault) → PutBy (are_namable (nodes_of r.next 0)) before after f
          → CausedBy limits (λ (x : model.Fault). OpenStops meaning app limits props x) (PageUnspelt meaning app limits props) before
          after f
      caused (faults.Run what) h = absurd h
      caused faults.BadName h = (r.next, opened, h)
      caused faults.OutFault h = h
      caused faults.OutOfMemory h = tt

      part : (f : ServeFault) → AddsFront old now (page r.next ∷ []) → PutBy (are_namable (nodes_of r.next 0)) before after f
          → PartBy f (now ≡ old) ((now ≡ old) ⊎ OpensFront meaning app limits props old now)
      part (faults.Run what) front h = absurd h
      part faults.BadName front h = inr (record { first = r.next; opened = opened; front = front })
      part faults.OutFault front h = inr (record { first = r.next; opened = opened; front = front })
      part faults.OutOfMemory front h = inr (record { first = r.next; opened = opened; front = front })

      by : (x : Result (Unit {0}) ServeFault)
          → PutsTexts (page r.next ∷ []) (are_namable (nodes_of r.next 0)) old now before after x
          → OpensAs meaning app limits props new old now before after x
      by (Ok u) h = record { first = r.next; opened = opened; put = h.ok; keeps = r.keeps }
      by (Err fault) h = (part fault h.front h.cause, caused fault h.cause)

  module _ (tasks : List ℕ) (d new : VirtualDom P C Q V H T E L) (old mid now : Puts) (low before after : ℕ) where
    -- all was put
    pub all_served : (o : OpensDone meaning app limits props d old mid) (result : Result ℕ ServeFault)
        → AnsweredAs meaning app limits props o.first tasks new mid now before after result
        → IfOk result (λ count. ServesAll (meaning app) (limits_of limits) props tasks old now count)
    all_served o (Ok count) h = record {
      text = page o.first ∷ h.text;
      last = h.last;
      served = record { first = o.first; opened = o.opened; later = h.text; answered = h.answered; printed = refl };
      put = h.put ∙ ap (λ (x : Puts). grown x h.text) o.put ∙ grown_both old (page o.first ∷ []) h.text;
      counted = omega (arith, h.counted);
    }
    all_served o (Err fault) h = tt

    -- or a part
    pub part_served : (o : OpensDone meaning app limits props d old mid) (result : Result ℕ ServeFault)
        → AnsweredAs meaning app limits props o.first tasks new mid now before after result
        → IfErr result (λ fault. ServesPart (meaning app) (limits_of limits) props tasks old now fault)
    part_served o (Ok count) h = tt
    part_served o (Err fault) h =
        part_on fault (AnsweredWhole meaning app limits props o.first tasks mid now)
        (AnsweredFront meaning app limits props o.first tasks mid now)
        ((now ≡ old) ⊎ ServesWhole (meaning app) (limits_of limits) props tasks old now)
        ((now ≡ old) ⊎ ServesFront (meaning app) (limits_of limits) props tasks old now) whole front h.0
      where
        whole : AnsweredWhole meaning app limits props o.first tasks mid now
            → (now ≡ old) ⊎ ServesWhole (meaning app) (limits_of limits) props tasks old now
        whole f = inr (record {
          done = f.done;
          later = f.later;
          wakes = f.wakes;
          text = page o.first ∷ f.text;
          last = f.last;
          served = record { first = o.first; opened = o.opened; later = f.text; answered = f.answered; printed = refl };
          put = f.put ∙ ap (λ (x : Puts). grown x f.text) o.put ∙ grown_both old (page o.first ∷ []) f.text;
        })

        front : AnsweredFront meaning app limits props o.first tasks mid now
            → (now ≡ old) ⊎ ServesFront (meaning app) (limits_of limits) props tasks old now
        front f = inr (record {
          done = f.done;
          later = f.later;
          wakes = f.wakes;
          text = page o.first ∷ f.text;
          last = f.last;
          served = record { first = o.first; opened = o.opened; later = f.text; answered = f.answered; printed = refl };
          front = front_after old mid now (page o.first ∷ []) f.text o.put f.front;
        })

    -- for its cause
    pub cause_served : (o : OpensDone meaning app limits props d old mid) (result : Result ℕ ServeFault)
        → low ≤ before
        → AnsweredAs meaning app limits props o.first tasks new mid now before after result
        → IfErr result (λ fault. CausedBy limits (λ (f : model.Fault). ComesTo (meaning app) (limits_of limits) props tasks f)
        (IsUnspelt (meaning app) (limits_of limits) props tasks) low after fault)
    cause_served o (Ok count) rises h = tt
    cause_served o (Err fault) rises h =
        caused_on limits (λ (f : model.Fault). WakeStops (meaning app) (limits_of limits) o.first tasks f)
        (λ (f : model.Fault). ComesTo (meaning app) (limits_of limits) props tasks f)
        (WakeUnspelt (meaning app) (limits_of limits) o.first tasks) (IsUnspelt (meaning app) (limits_of limits) props tasks)
        low before after after fault (λ f s. inr (inr (o.first, o.opened, s))) (λ u. inr (o.first, o.opened, u))
        (λ more. omega (arith, more, rises)) h.1

  module _ (tasks : List ℕ) (old now : Puts) where
    -- nothing is put before the page, or a front of it
    pub part_opened : (fault : ServeFault)
        → PartBy fault (now ≡ old) ((now ≡ old) ⊎ OpensFront meaning app limits props old now)
        → ServesPart (meaning app) (limits_of limits) props tasks old now fault
    part_opened fault h =
        part_on fault (now ≡ old) ((now ≡ old) ⊎ OpensFront meaning app limits props old now)
        ((now ≡ old) ⊎ ServesWhole (meaning app) (limits_of limits) props tasks old now)
        ((now ≡ old) ⊎ ServesFront (meaning app) (limits_of limits) props tasks old now) (λ same. inl same) front h
      where
        front : ((now ≡ old) ⊎ OpensFront meaning app limits props old now)
            → (now ≡ old) ⊎ ServesFront (meaning app) (limits_of limits) props tasks old now
        front (inl same) = inl same
        front (inr f) = inr (record {
          done = [];
          later = tasks;
          wakes = refl;
          text = page f.first ∷ [];
          last = f.first;
          served = record { first = f.first; opened = f.opened; later = []; answered = (refl, refl); printed = refl };
          front = f.front;
        })

    -- nothing is put where no dom could be made
    pub part_unmade : (what : Fault) → what ≡ runs.OutOfMemory → now ≡ old
        → ServesPart (meaning app) (limits_of limits) props tasks old now (run_fault what)
    part_unmade what is same =
        subst (λ (f : Fault). ServesPart (meaning app) (limits_of limits) props tasks old now (run_fault f)) (sym is) (inl same)

  module _ (tasks : List ℕ) (before after : ℕ) where
    -- the cause of a fault that comes before the wakes
    pub cause_opened : (fault : ServeFault)
        → CausedBy limits (λ (f : model.Fault). OpenStops meaning app limits props f) (PageUnspelt meaning app limits props) before after
        fault
        → CausedBy limits (λ (f : model.Fault). ComesTo (meaning app) (limits_of limits) props tasks f)
        (IsUnspelt (meaning app) (limits_of limits) props tasks) before after fault
    cause_opened fault caused =
        caused_on limits (λ (f : model.Fault). OpenStops meaning app limits props f)
        (λ (f : model.Fault). ComesTo (meaning app) (limits_of limits) props tasks f)
        (PageUnspelt meaning app limits props) (IsUnspelt (meaning app) (limits_of limits) props tasks) before before after after fault
        (λ f s. stops f s) (λ u. inl u) (λ more. more) caused
      where
        stops : (f : model.Fault) → OpenStops meaning app limits props f → ComesTo (meaning app) (limits_of limits) props tasks f
        stops f (inl s) = inl s
        stops f (inr s) = inr (inl s)

    -- where no cause is there, memory was wanting
    pub complete : {A : Type 0} (result : Result A ServeFault)
        → IfErr result (λ fault. CausedBy limits (λ (f : model.Fault). ComesTo (meaning app) (limits_of limits) props tasks f)
        (IsUnspelt (meaning app) (limits_of limits) props tasks) before after fault)
        → IsServable (meaning app) (limits_of limits) props tasks → after ≤ before
        → IfErr result (λ fault. fault ≡ faults.OutOfMemory)
    complete (Ok answer) caused servable calm = tt
    complete (Err fault) caused servable calm =
        wanting_alone limits (λ (f : model.Fault). ComesTo (meaning app) (limits_of limits) props tasks f)
        (IsUnspelt (meaning app) (limits_of limits) props tasks) before after fault caused servable.safe servable.spelt
        (λ more. absurd (omega (arith, more, calm)))

    -- want of memory has none
    pub cause_unmade : (what : Fault) → what ≡ runs.OutOfMemory
        → CausedBy limits (λ (f : model.Fault). ComesTo (meaning app) (limits_of limits) props tasks f)
        (IsUnspelt (meaning app) (limits_of limits) props tasks) before after (run_fault what)
    cause_unmade what is =
        subst
        (λ (f : Fault).
        CausedBy limits (λ (x : model.Fault). ComesTo (meaning app) (limits_of limits) props tasks x)
        (IsUnspelt (meaning app) (limits_of limits) props tasks) before after (run_fault f))
        (sym is) tt

-- a dom that couldn't be made
pub unmade : (what : Fault) → what ≡ runs.OutOfMemory → run_fault what ≡ faults.OutOfMemory
unmade what is = ap run_fault is
