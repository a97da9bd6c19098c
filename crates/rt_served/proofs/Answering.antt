-- A wake is answered by the calls of a dom, and then the next one.
use Rattle.std.proofs.Common.{◌≡◌, ◌⊎◌, ℕ, ◌+◌, ◌<◌, ◌≤◌, suc, Bool, false, List, [], ◌∷◌, ◌++◌, length, map, take, drop, get_or, None, Result, Ok, Err, refl, sym, ap, ◌∙◌, subst, append_assoc, append-nil, take-append-drop, length-append, arith, inl, inr}
use Rattle.std.specs.Prelude.{IfOk}
use Rattle.std.proofs.Math.Seq.{take-suc}
use Rattle.std.proofs.lemmas.List.{take_all}
use Rattle.rt_model.specs.Commands.{post}
use Rattle.rt_model.specs.Lists.{Text}
use Rattle.rt_model.specs.OneLog.{types}
use Rattle.rt_model.specs.Rendering.{nothing_resolved, resolved_by_height}
use Rattle.rt_model.specs.State as model
use Rattle.rt_model.specs.State.{Woken}
use Rattle.rt_model.specs.World.{Application}
use Rattle.run_reports.specs.Seen.{limits_of}
use Rattle.run_reports.specs.declared.limits.Limits.{Limits}
use Rattle.run_state.specs.Mirror.{Unkept}
use Rattle.show_streams.specs.Writes.{Puts, grown}
use Rattle.tree_edits.specs.Documents.{edit_of}
use Rattle.rt_values.specs.declared.names.ScopeId.{ScopeId}
use Rattle.rt_values.specs.declared.names.Task.{Task}
use Rattle.rt_vdom.specs.Calls.{Does, Keeps}
use Rattle.rt_vdom.specs.Doms.{StateIn}
use Rattle.rt_vdom.specs.Handles.{RendersSuspended}
use Rattle.rt_vdom.specs.declared.dom.VirtualDom.{VirtualDom}
use Rattle.rt_served.specs.Faults.{CausedBy, PartBy}
use Rattle.rt_served.specs.Serving.{Answered, RenderStops, Renders, WakeStops, WakeUnspelt, are_spelt, pieces}
use Rattle.rt_served.specs.Stood.{AnsweredAs, AnsweredDone, AnsweredFront, AnsweredWhole, AnswersAs, AnswersDone, AnswersFront, AnswersUnspelt, Keeping, PutBy, PutsTexts}
use Rattle.rt_served.specs.declared.refusal.ServeFault.{ServeFault}
use Rattle.rt_served.specs.declared.refusal.ServeFault.TheVariants as faults
use Rattle.rt_served.proofs.Failing.{caused_on, part_of, part_on}
use Rattle.rt_served.proofs.Fronts.{front_after, front_whole, grown_both, grown_none}

-- the numbers of tasks
abbrev pub tasks_of : List Task → List ℕ
tasks_of wakes = map (λ task. task.0) wakes

tasks_both : (a b : List Task) → tasks_of (a ++ b) ≡ tasks_of a ++ tasks_of b
tasks_both [] b = refl
tasks_both (t ∷ a) b = ap (λ (ns : List ℕ). t.0 ∷ ns) (tasks_both a b)

-- one more of them
tasks_more : (wakes : List Task) (at : ℕ) (other : Task) → at < length wakes
    → tasks_of (take (at + 1) wakes) ≡ tasks_of (take at wakes) ++ (get_or wakes at other).0 ∷ []
tasks_more wakes at other within =
    let one : at + 1 ≡ suc at = omega arith in
    ap (λ count. tasks_of (take count wakes)) one ∙ ap tasks_of (take-suc wakes at other within)
    ∙ tasks_both (take at wakes) (get_or wakes at other ∷ [])

-- those before one, it, and those after it
tasks_cut : (wakes : List Task) (at : ℕ) (other : Task) → at < length wakes
    → tasks_of wakes ≡ tasks_of (take at wakes) ++ (get_or wakes at other).0 ∷ tasks_of (drop (at + 1) wakes)
tasks_cut wakes at other within =
    ap tasks_of (sym (take-append-drop (at + 1) wakes)) ∙ tasks_both (take (at + 1) wakes) (drop (at + 1) wakes)
    ∙ ap (λ (ns : List ℕ). ns ++ tasks_of (drop (at + 1) wakes)) (tasks_more wakes at other within)
    ∙ append_assoc (tasks_of (take at wakes)) ((get_or wakes at other).0 ∷ []) (tasks_of (drop (at + 1) wakes))

-- those up to one, and those after it
tasks_parts : (wakes : List Task) (at : ℕ) → tasks_of wakes ≡ tasks_of (take at wakes) ++ tasks_of (drop at wakes)
tasks_parts wakes at = ap tasks_of (sym (take-append-drop at wakes)) ∙ tasks_both (take at wakes) (drop at wakes)

-- all of them
tasks_all : (wakes : List Task) (at : ℕ) → length wakes ≤ at → tasks_of (take at wakes) ≡ tasks_of wakes
tasks_all wakes at all = ap tasks_of (take_all at wakes all)

module _ {C Q V H T E L : Type 0} (app : Application (types C Q V H T E L)) (limits : Limits) where
  -- one more wake is answered
  answered_on : (w : model.State (types C Q V H T E L)) (done : List ℕ) (text : List Text) (u v : model.State (types C Q V H T E L))
      (task : ℕ) (turned : List ℕ)
      → Answered app (limits_of limits) w done text u
      → Renders app (limits_of limits) (post u (Woken task)) v turned
      → Answered app (limits_of limits) w (done ++ task ∷ []) (text ++ pieces v turned) v
  answered_on w [] text u v task turned before renders =
      subst (λ (t : List Text). Answered app (limits_of limits) w (task ∷ []) (t ++ pieces v turned) v) (sym before.0) (
        v,
        turned,
        [],
        subst (λ (x : model.State (types C Q V H T E L)). Renders app (limits_of limits) (post x (Woken task)) v turned) before.1 renders,
        sym (append-nil (pieces v turned)),
        (refl, refl),
      )
  answered_on w (t ∷ done) text u v task turned before renders = (
    before.0,
    before.1,
    before.2 ++ pieces v turned,
    before.3,
    ap (λ (x : List Text). x ++ pieces v turned) before.4 ∙ append_assoc (pieces before.0 before.1) before.2 (pieces v turned),
    answered_on before.0 done before.2 u v task turned before.5 renders,
  )

module _ {P C Q V H T E L : Type 0} (meaning : P → Application (types C Q V H T E L)) (app : P) (limits : Limits) (props : Q) where
  -- a task is woken
  pub woken : (whole : Bool) (w : model.State (types C Q V H T E L)) (task : ℕ) (old new : VirtualDom P C Q V H T E L)
      → Keeping meaning app limits props whole w old
      → Does meaning (λ x. post x (Woken task)) old new (Ok (tt {0}))
      → Keeps old new
      → Keeping meaning app limits props whole (post w (Woken task)) new
  woken whole w task old new keeps does kept = record {
    owned = kept.0 ∙ keeps.owned;
    limited = kept.1 ∙ keeps.limited;
    stands = (does props whole w keeps.stands).0;
  }

  -- a render while suspended ends
  pub record Rendered (x : model.State (types C Q V H T E L)) (turned : List ℕ) (new : VirtualDom P C Q V H T E L) : Type 0 where
    pub next : model.State (types C Q V H T E L)
    pub renders : Renders (meaning app) (limits_of limits) x next turned
    pub keeps : Keeping meaning app limits props false next new

  pub rendered : (whole : Bool) (x : model.State (types C Q V H T E L)) (old new : VirtualDom P C Q V H T E L) (answer : List ScopeId)
      → Keeping meaning app limits props whole x old
      → RendersSuspended meaning None None old new (Ok answer)
      → Keeps old new
      → Rendered x (map (λ scope. scope.0) answer) new
  rendered whole x old new answer keeps renders kept =
      let r = renders props whole x keeps.stands in
      let owned : new.app ≡ app = kept.0 ∙ keeps.owned in
      let limited : new.limits ≡ limits = kept.1 ∙ keeps.limited in
      record {
        next = nothing_resolved r.left;
        renders =
            subst (λ (a : P). Renders (meaning a) (limits_of limits) x (nothing_resolved r.left) (map (λ scope. scope.0) answer)) owned
            (subst (λ (l : Limits). Renders (meaning new.app) (limits_of l) x (nothing_resolved r.left) (map (λ scope. scope.0) answer)) limited
            (record {
              log = r.log;
              last = (r.went).last;
              goes = (r.went).goes;
              edits = map edit_of r.wrote;
              stepped = (r.went).stepped;
              done = (r.went).done;
              told = r.answers_as ∙ ap (λ (y : model.State (types C Q V H T E L)). resolved_by_height y) (sym (r.went).rest);
              left = ap (λ (y : model.State (types C Q V H T E L)). nothing_resolved y) (sym (r.went).rest);
            }));
        keeps = record { owned = owned; limited = limited; stands = r.stands };
      }

  -- what is put of the state that a dom keeps is put of the one that it stands for
  pub put_of : {A : Type 0} (whole : Bool) (w : model.State (types C Q V H T E L)) (d : VirtualDom P C Q V H T E L)
      (texts : model.State (types C Q V H T E L) → List Text) (spelt : model.State (types C Q V H T E L) → Bool)
      (old now : Puts) (before after : ℕ) (result : Result A ServeFault)
      → Keeping meaning app limits props whole w d
      → ((g : Unkept (types C Q V H T E L))
      → PutsTexts (texts (StateIn g d)) (spelt (StateIn g d)) old now before after result)
      → PutsTexts (texts w) (spelt w) old now before after result
  put_of whole w d texts spelt old now before after result keeps puts =
      subst (λ (x : model.State (types C Q V H T E L)). PutsTexts (texts x) (spelt x) old now before after result) (keeps.stands).is
      (puts (keeps.stands).kept)

  -- so is their count
  count_of : (whole : Bool) (w : model.State (types C Q V H T E L)) (d : VirtualDom P C Q V H T E L)
      (texts : model.State (types C Q V H T E L) → List Text) (count : ℕ)
      → Keeping meaning app limits props whole w d
      → ((g : Unkept (types C Q V H T E L)) → count ≡ length (texts (StateIn g d)))
      → count ≡ length (texts w)
  count_of whole w d texts count keeps counts =
      subst (λ (x : model.State (types C Q V H T E L)). count ≡ length (texts x)) (keeps.stands).is (counts (keeps.stands).kept)

  pub count_if : (whole : Bool) (w : model.State (types C Q V H T E L)) (d : VirtualDom P C Q V H T E L)
      (texts : model.State (types C Q V H T E L) → List Text) (result : Result ℕ ServeFault)
      → Keeping meaning app limits props whole w d
      → IfOk result (λ count. (g : Unkept (types C Q V H T E L)) → count ≡ length (texts (StateIn g d)))
      → IfOk result (λ count. count ≡ length (texts w))
  count_if whole w d texts (Ok count) keeps counts = count_of whole w d texts count keeps counts
  count_if whole w d texts (Err fault) keeps counts = tt

  -- a wake was answered with these pieces
  pub wake_answered : (w : model.State (types C Q V H T E L)) (task : ℕ) (turned : List ℕ) (new : VirtualDom P C Q V H T E L)
      (old now : Puts) (before after : ℕ) (result : Result ℕ ServeFault)
      → (r : Rendered (post w (Woken task)) turned new)
      → PutsTexts (pieces r.next turned) (are_spelt r.next turned) old now before after result
      → IfOk result (λ count. count ≡ length (pieces r.next turned))
      → AnswersAs meaning app limits props w task new old now before after result
  wake_answered w task turned new old now before after (Ok count) r puts counts = record {
    next = r.next;
    turned = turned;
    renders = r.renders;
    put = puts.ok;
    counted = counts;
    keeps = r.keeps;
  }
  wake_answered w task turned new old now before after (Err fault) r puts counts =
      (part fault puts.cause, caused fault puts.cause)
    where
      some : (now ≡ old) ⊎ AnswersFront meaning app limits props w task old now
      some = inr (record { next = r.next; turned = turned; renders = r.renders; front = puts.front })

      part : (f : ServeFault) → PutBy (are_spelt r.next turned) before after f
          → PartBy f (now ≡ old) ((now ≡ old) ⊎ AnswersFront meaning app limits props w task old now)
      part (faults.Run what) h = absurd h
      part faults.BadName h = some
      part faults.OutFault h = some
      part faults.OutOfMemory h = some

      caused : (f : ServeFault) → PutBy (are_spelt r.next turned) before after f
          → CausedBy limits (λ (x : model.Fault). RenderStops (meaning app) (limits_of limits) (post w (Woken task)) x)
          (AnswersUnspelt meaning app limits props w task) before after f
      caused (faults.Run what) h = absurd h
      caused faults.BadName h = record { next = r.next; turned = turned; renders = r.renders; unspelt = h }
      caused faults.OutFault h = h
      caused faults.OutOfMemory h = tt

  -- no wake yet
  pub none_answered : (w : model.State (types C Q V H T E L)) (d : VirtualDom P C Q V H T E L) (old : Puts)
      → Keeping meaning app limits props false w d
      → AnsweredDone meaning app limits props w [] d old old 0
  none_answered w d old keeps =
      record { text = []; last = w; answered = (refl, refl); put = sym (grown_none old); counted = refl; keeps = keeps }

  -- the next one was answered, too
  more_answered : (w : model.State (types C Q V H T E L)) (done : List ℕ) (task : ℕ) (d new : VirtualDom P C Q V H T E L)
      (old mid now : Puts) (count own all : ℕ)
      → (h : AnsweredDone meaning app limits props w done d old mid count)
      → AnswersDone meaning app limits props h.last task new mid now own
      → all ≡ count + own
      → AnsweredDone meaning app limits props w (done ++ task ∷ []) new old now all
  more_answered w done task d new old mid now count own all h k sum = record {
    text = h.text ++ pieces k.next k.turned;
    last = k.next;
    answered = answered_on (meaning app) limits w done h.text h.last k.next task k.turned h.answered k.renders;
    put = k.put ∙ ap (λ (o : Puts). grown o (pieces k.next k.turned)) h.put ∙ grown_both old h.text (pieces k.next k.turned);
    counted = sum ∙ ap (λ (n : ℕ). n + own) h.counted ∙ ap (λ (n : ℕ). length h.text + n) k.counted
        ∙ sym (length-append h.text (pieces k.next k.turned));
    keeps = k.keeps;
  }

  -- the next one came to a fault
  wake_failed : (w : model.State (types C Q V H T E L)) (tasks done : List ℕ) (task : ℕ) (later : List ℕ)
      (d new : VirtualDom P C Q V H T E L) (old mid now : Puts) (low before after count : ℕ) (fault : ServeFault)
      → tasks ≡ done ++ task ∷ later
      → low ≤ before
      → (h : AnsweredDone meaning app limits props w done d old mid count)
      → AnswersAs meaning app limits props h.last task new mid now before after (Err fault)
      → AnsweredAs meaning app limits props w tasks new old now low after (Err fault)
  wake_failed w tasks done task later d new old mid now low before after count fault cut rises h failed = (
    part_on fault (now ≡ mid) ((now ≡ mid) ⊎ AnswersFront meaning app limits props h.last task mid now)
        (AnsweredWhole meaning app limits props w tasks old now) (AnsweredFront meaning app limits props w tasks old now)
        whole front failed.0,
    caused,
  )
    where
      whole : now ≡ mid → AnsweredWhole meaning app limits props w tasks old now
      whole same = record {
        done = done;
        later = task ∷ later;
        wakes = cut;
        text = h.text;
        last = h.last;
        answered = h.answered;
        put = same ∙ h.put;
      }

      front : (now ≡ mid) ⊎ AnswersFront meaning app limits props h.last task mid now
          → AnsweredFront meaning app limits props w tasks old now
      front (inl same) = record {
        done = done;
        later = task ∷ later;
        wakes = cut;
        text = h.text;
        last = h.last;
        answered = h.answered;
        front = front_whole old now h.text (same ∙ h.put);
      }
      front (inr f) = record {
        done = done ++ task ∷ [];
        later = later;
        wakes = cut ∙ sym (append_assoc done (task ∷ []) later);
        text = h.text ++ pieces f.next f.turned;
        last = f.next;
        answered = answered_on (meaning app) limits w done h.text h.last f.next task f.turned h.answered f.renders;
        front = front_after old mid now h.text (pieces f.next f.turned) h.put f.front;
      }

      caused : CausedBy limits (λ (x : model.Fault). WakeStops (meaning app) (limits_of limits) w tasks x)
          (WakeUnspelt (meaning app) (limits_of limits) w tasks) low after fault
      caused =
          caused_on limits (λ (x : model.Fault). RenderStops (meaning app) (limits_of limits) (post h.last (Woken task)) x)
          (λ (x : model.Fault). WakeStops (meaning app) (limits_of limits) w tasks x)
          (AnswersUnspelt meaning app limits props h.last task) (WakeUnspelt (meaning app) (limits_of limits) w tasks)
          low before after after fault
          (λ x stops. record {
            done = done;
            task = task;
            later = later;
            wakes = cut;
            text = h.text;
            last = h.last;
            answered = h.answered;
            stops = stops;
          })
          (λ u. record {
            done = done;
            task = task;
            later = later;
            wakes = cut;
            text = h.text;
            last = h.last;
            answered = h.answered;
            next = u.next;
            turned = u.turned;
            renders = u.renders;
            unspelt = u.unspelt;
          })
          (λ more. omega (arith, more, rises)) failed.1

  -- their count is wanting
  sum_failed : (w : model.State (types C Q V H T E L)) (tasks done later : List ℕ) (new : VirtualDom P C Q V H T E L)
      (old now : Puts) (low after count : ℕ)
      → tasks ≡ done ++ later
      → AnsweredDone meaning app limits props w done new old now count
      → AnsweredAs meaning app limits props w tasks new old now low after (Err faults.OutOfMemory)
  sum_failed w tasks done later new old now low after count cut h = (
    record {
      done = done;
      later = later;
      wakes = cut;
      text = h.text;
      last = h.last;
      answered = h.answered;
      front = front_whole old now h.text h.put;
    },
    tt,
  )

  -- a wake that comes to a fault before anything is put
  pub unanswered : (w : model.State (types C Q V H T E L)) (task : ℕ) (new : VirtualDom P C Q V H T E L) (old : Puts) (before : ℕ)
      (fault : ServeFault)
      → CausedBy limits (λ (x : model.Fault). RenderStops (meaning app) (limits_of limits) (post w (Woken task)) x)
      (AnswersUnspelt meaning app limits props w task) before before fault
      → AnswersAs meaning app limits props w task new old old before before (Err fault)
  unanswered w task new old before fault caused =
      (part_of fault (old ≡ old) ((old ≡ old) ⊎ AnswersFront meaning app limits props w task old old) refl (inl refl), caused)

  -- the task at a place was woken, and answered
  pub task_answered : (w : model.State (types C Q V H T E L)) (wakes : List Task) (at : ℕ) (other : Task)
      (d new : VirtualDom P C Q V H T E L) (old mid now : Puts) (before after count own all : ℕ)
      → at < length wakes
      → (h : AnsweredDone meaning app limits props w (tasks_of (take at wakes)) d old mid count)
      → AnswersAs meaning app limits props h.last (get_or wakes at other).0 new mid now before after (Ok own)
      → all ≡ count + own
      → AnsweredDone meaning app limits props w (tasks_of (take (at + 1) wakes)) new old now all
  task_answered w wakes at other d new old mid now before after count own all within h k total =
      subst (λ (ns : List ℕ). AnsweredDone meaning app limits props w ns new old now all) (sym (tasks_more wakes at other within))
      (more_answered w (tasks_of (take at wakes)) (get_or wakes at other).0 d new old mid now count own all h k total)

  -- it came to a fault
  pub task_failed : (w : model.State (types C Q V H T E L)) (wakes : List Task) (at : ℕ) (other : Task)
      (d new : VirtualDom P C Q V H T E L) (old mid now : Puts) (low before after count : ℕ) (fault : ServeFault)
      → at < length wakes
      → low ≤ before
      → (h : AnsweredDone meaning app limits props w (tasks_of (take at wakes)) d old mid count)
      → AnswersAs meaning app limits props h.last (get_or wakes at other).0 new mid now before after (Err fault)
      → AnsweredAs meaning app limits props w (tasks_of wakes) new old now low after (Err fault)
  task_failed w wakes at other d new old mid now low before after count fault within rises h failed =
      wake_failed w (tasks_of wakes) (tasks_of (take at wakes)) (get_or wakes at other).0 (tasks_of (drop (at + 1) wakes)) d new old mid now
      low before after count fault (tasks_cut wakes at other within) rises h failed

  -- it was answered, and its pieces aren't counted
  pub task_uncounted : (w : model.State (types C Q V H T E L)) (wakes : List Task) (at : ℕ) (other : Task)
      (d new : VirtualDom P C Q V H T E L) (old mid now : Puts) (low before after count own : ℕ)
      → at < length wakes
      → (h : AnsweredDone meaning app limits props w (tasks_of (take at wakes)) d old mid count)
      → AnswersAs meaning app limits props h.last (get_or wakes at other).0 new mid now before after (Ok own)
      → AnsweredAs meaning app limits props w (tasks_of wakes) new old now low after (Err faults.OutOfMemory)
  task_uncounted w wakes at other d new old mid now low before after count own within h k =
      sum_failed w (tasks_of wakes) (tasks_of (take (at + 1) wakes)) (tasks_of (drop (at + 1) wakes)) new old now low after (count + own)
      (tasks_parts wakes (at + 1))
      (task_answered w wakes at other d new old mid now before after count own (count + own) within h k refl)

  -- all were answered
  pub tasks_answered : (w : model.State (types C Q V H T E L)) (wakes : List Task) (at : ℕ) (d : VirtualDom P C Q V H T E L)
      (old now : Puts) (count : ℕ)
      → length wakes ≤ at
      → AnsweredDone meaning app limits props w (tasks_of (take at wakes)) d old now count
      → AnsweredDone meaning app limits props w (tasks_of wakes) d old now count
  tasks_answered w wakes at d old now count all h =
      subst (λ (ns : List ℕ). AnsweredDone meaning app limits props w ns d old now count) (tasks_all wakes at all) h
