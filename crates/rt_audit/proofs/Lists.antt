-- One list after another.
use Rattle.std.proofs.Common.{ℕ, zero, suc, ◌+◌, ◌≤◌, ◌<◌, Bool, true, false, List, [], ◌∷◌, ◌++◌, ◌≡◌, refl, sym, ap, ◌∙◌, subst, length, map, drop, drop-cons, get_or, arith}
use Rattle.std.specs.Prelude.{Option, Some, None, Result, Ok, Err, IfOk, nat_lt, if◌then◌else◌}
use Rattle.std.proofs.lemmas.Bool.{ltb-true, ltb-false}
use Rattle.rt_model.proofs.Maps.{by_test}
use Rattle.std.proofs.lemmas.List.{drop-map, drop_all}
use Rattle.rt_model.specs.OneLog.{types}
use Rattle.rt_model.specs.World.{Application}
use Rattle.rt_model.specs.State as model
use Rattle.rt_model.specs.Next as next
use Rattle.rt_model.specs.Heard.{Listener}
use Rattle.rt_model.specs.Replay as replay
use Rattle.rt_model.specs.Replay.{Entry, Build, Taken, if_live, due_heard, due_work, due, is_due, step, accepts, replay_on, first_state, ones, start, take_next}
use Rattle.rt_model.specs.Causes as causes
use Rattle.run_reports.specs.Seen.{entry_of}
use Rattle.run_reports.specs.declared.entry.Entry.{Entry as Noted}
use Rattle.law_moves.specs.Turn.{unit_of}
use Rattle.law_moves.proofs.Begins.{due_at_rest}
use Rattle.run_state.specs.Mirror.{Unkept, at_first, state_of}
use Rattle.run_state.specs.Names.{fault_of}
use Rattle.run_state.specs.declared.names.Cause.{Cause}
use Rattle.run_state.specs.declared.names.Stop.{Stop}
use Rattle.run_state.specs.declared.names.Stop.TheVariants as stops
use Rattle.run_machine.specs.Machines.{machine_of, noted, first_in, IsFresh, Did, WasCut, Builds}
use Rattle.run_machine.specs.Stands.{Follows}
use Rattle.run_turns.specs.declared.course.Course.{Course}
use Rattle.run_machine.specs.declared.machine.Machine.{Machine}
use Rattle.run_machine.proofs.Opening.{building, taking, stands_built, built_refused, stands_taken}
use Rattle.lang_rows.specs.Verdicts.{Verdict, Accepted, Refused, opening, is_placed, verdict_on, verdict_from, verdict}
use Rattle.rt_audit.specs.Finding.{Keeps}
use Rattle.rt_audit.specs.Fronts.{begins_with}
use Rattle.rt_audit.specs.Judging.{verdict_of, ended, AfterFault, JudgesOf, ListJudged, Reaches}
use Rattle.rt_audit.specs.declared.verdict.Verdict.{Verdict as Found}
use Rattle.rt_audit.specs.declared.verdict.Verdict.TheVariants as answers
use Rattle.rt_audit.proofs.Accepted.{refused_taken, own_dead, owns}
use Rattle.rt_audit.proofs.Found.{keeps_none}
use Rattle.rt_audit.proofs.Same.{other_way}
use Rattle.rt_audit.proofs.Stopping.{fault_stops, stop_at, unopened_stops, pick_true, pick_false}

-- a list at its place, as the definitions have it
pub item_at : {A B : Type 0} (f : A → B) (n : ℕ) (xs : List A) (x : A) → n < length xs → x ≡ get_or xs n x → drop n (map f xs) ≡ f x ∷ drop (suc n) (map f xs)
item_at f n xs x low is =
    drop-map f n xs
    ∙ ap (λ ys. map f ys) (drop-cons xs n x low ∙ ap (λ y. y ∷ drop (suc n) xs) (sym is))
    ∙ ap (λ ys. f x ∷ ys) (sym (drop-map f (suc n) xs))

-- the opening entry of an input
pub opens_input : (number taken : ℕ) → number ≡ taken + 1 → opening number ≡ Taken number
opens_input number taken is =
    let one : number ≡ suc taken = omega (arith, is) in
    ap (λ n. opening n) one ∙ ap (λ n. Taken n) (sym one)

module _ {C Q V H T E L : Type 0} (app : Application (types C Q V H T E L)) (limits : causes.Limits) (props : Q) (inputs : List (replay.Input (types C Q V H T E L))) where
  -- a list that opens otherwise
  pub unopened : (number taken : ℕ) (last : replay.Machine (types C Q V H T E L)) (list : List Entry) → number ≡ taken + 1
      → begins_with (Taken number) list ≡ false
      → (later : replay.Machine (types C Q V H T E L) → Verdict)
      → verdict_on app number 0 last list later ≡ Refused number 0
  unopened number taken last list counted other later =
      unopened_stops app number last list later (ap (λ (e : Entry). begins_with e list) (opens_input number taken counted) ∙ other) other_way

  -- a log without a list
  pub no_log : (log : List (List Noted)) → length log ≤ 0 → verdict app props inputs (map (map entry_of) log) ≡ Accepted
  no_log [] h = refl
  no_log (list ∷ log) h = absurd (omega (arith, h))

module _ {P C Q V H T E L : Type 0} (app : Application (types C Q V H T E L)) (limits : causes.Limits) (props : Q) (inputs : List (replay.Input (types C Q V H T E L))) where
  -- the build of a run
  pub built_keeps : (list : List Entry) (old new : Machine P C Q V H T E L)
      → IsFresh old
      → state_of at_first (old.scopes).state ≡ first_state app.root props ones
      → ((g : Unkept (types C Q V H T E L)) → Did app (unit_of app (state_of g (old.scopes).state) (next.RerunScope 0)) [] old new)
      → first_in new ≡ Some Build
      → new ≡ record old { scopes = new.scopes; work = new.work; first = new.first }
      → Keeps app limits (building app limits props inputs) list 0 new
  built_keeps list old new fresh is builds first frame =
      keeps_none app limits (building app limits props inputs) list [] new
      (stands_built app limits props inputs old new fresh is builds first frame)
      (ap (λ (d : Machine P C Q V H T E L). (d.course).entries) frame ∙ fresh.course)

  -- its list
  pub built_judged : (list rest : List Entry) (d : Machine P C Q V H T E L) (answer : Option ℕ) → list ≡ Build ∷ rest
      → JudgesOf app limits (building app limits props inputs) rest d answer
      → ListJudged app limits props inputs 0 (start app props inputs) inputs list d answer
  built_judged list rest d None is h =
      (h.last, h.follows, λ later. ap (λ (l : List Entry). verdict_on app 0 0 (start app props inputs) l later) is ∙ h.passes 0 later refl)
  built_judged list rest d (Some entry) is h =
      λ later. ap (λ (l : List Entry). verdict_on app 0 0 (start app props inputs) l later) is ∙ h 0 later refl

  pub built_lists : {X : Type 0} (list rest : List Entry) (d : Machine P C Q V H T E L) (answer : Result (Option ℕ) X) → list ≡ Build ∷ rest
      → IfOk answer (JudgesOf app limits (building app limits props inputs) rest d)
      → IfOk answer (ListJudged app limits props inputs 0 (start app props inputs) inputs list d)
  built_lists list rest d (Ok answer) is h = built_judged list rest d answer is h
  built_lists list rest d (Err x) is h = tt

  -- a fault in its own call
  pub built_fault : (list rest : List Entry) (old new : Machine P C Q V H T E L) (what : Cause) → list ≡ Build ∷ rest
      → IsFresh old
      → state_of at_first (old.scopes).state ≡ first_state app.root props ones
      → ((g : Unkept (types C Q V H T E L)) → WasCut app (unit_of app (state_of g (old.scopes).state) (next.RerunScope 0)) [] (fault_of what) old new)
      → (later : replay.Machine (types C Q V H T E L) → Verdict)
      → verdict_on app 0 0 (start app props inputs) list later ≡ Refused 0 1
  built_fault list rest old new what is fresh state cut later =
      let r = built_refused app limits props inputs old new (fault_of what) fresh state cut in
      let v = (r.last).machine in
      let log : noted new ≡ [] = (cut at_first).logged ∙ nil (noted old) ∙ ap (λ es. map entry_of es) fresh.course in
      let accepted : replay_on app (Some (start app props inputs)) (Build ∷ []) ≡ Some v =
      ap (λ (l : List Entry). replay_on app (Some (start app props inputs)) (Build ∷ l)) (sym log)
      ∙ refused_taken app limits props inputs (start app props inputs) (Build ∷ noted new) [] (fault_of what) r in
      ap (λ (l : List Entry). verdict_on app 0 0 (start app props inputs) l later) is
      ∙ fault_stops app 0 (start app props inputs) v Build [] rest (fault_of what) later refl refl accepted (own_dead limits v (fault_of what) (owns what) r.cause)
    where
      nil : (xs : List Entry) → xs ++ [] ≡ xs
      nil [] = refl
      nil (x ∷ xs) = ap (λ (l : List Entry). x ∷ l) (nil xs)

  -- where its own call stopped
  pub built_stop : {X : Type 0} (list rest : List Entry) (old new : Machine P C Q V H T E L) (stop : Stop) (answer : Result (Option ℕ) X) → list ≡ Build ∷ rest
      → IsFresh old
      → state_of at_first (old.scopes).state ≡ first_state app.root props ones
      → Builds app old new (Err stop)
      → IfOk answer (AfterFault stop)
      → IfOk answer (ListJudged app limits props inputs 0 (start app props inputs) inputs list new)
  built_stop list rest old new stop (Err x) is fresh state builds after = tt
  built_stop list rest old new stops.OutOfMemory (Ok answer) is fresh state builds after = absurd after
  built_stop list rest old new (stops.Fault what) (Ok answer) is fresh state builds after =
      subst (λ (o : Option ℕ). ListJudged app limits props inputs 0 (start app props inputs) inputs list new o) (sym after)
      (built_fault list rest old new what is fresh state builds)

  -- an input of a run
  pub taken_keeps : (list : List Entry) (left : List (replay.Input (types C Q V H T E L))) (input : replay.Input (types C Q V H T E L)) (taken number : ℕ)
      (last : replay.Machine (types C Q V H T E L)) (old new : Machine P C Q V H T E L)
      → number ≡ taken + 1
      → Follows app limits props inputs (input ∷ left) taken last old
      → ((g : Unkept (types C Q V H T E L)) → take_next (machine_of g (input ∷ left) taken old) (input ∷ left) ≡ machine_of g left (taken + 1) new)
      → new.first ≡ old.first
      → new.work ≡ old.work
      → new.course ≡ old.course
      → Keeps app limits (taking app limits props inputs left number last) list 0 new
  taken_keeps list left input taken number last old new counted f received first work course =
      keeps_none app limits (taking app limits props inputs left number last) list [] new
      (stands_taken app limits props inputs left input taken number last old new counted f received first work course)
      (ap (λ (k : Course). k.entries) course ∙ f.between.course)

  -- its list
  pub taken_judged : (list rest : List Entry) (left : List (replay.Input (types C Q V H T E L))) (taken number : ℕ) (last : replay.Machine (types C Q V H T E L))
      (d : Machine P C Q V H T E L) (answer : Option ℕ) → number ≡ taken + 1 → list ≡ Taken number ∷ rest
      → JudgesOf app limits (taking app limits props inputs left number last) rest d answer
      → ListJudged app limits props inputs number last left list d answer
  taken_judged list rest left taken number last d None counted is h = (
    h.last,
    h.follows,
    λ later. ap (λ (l : List Entry). verdict_on app number 0 last l later) is ∙ h.passes number later (ap (λ (e : Entry). e ∷ []) (opens_input number taken counted)),
  )
  taken_judged list rest left taken number last d (Some entry) counted is h =
      λ later. ap (λ (l : List Entry). verdict_on app number 0 last l later) is ∙ h number later (ap (λ (e : Entry). e ∷ []) (opens_input number taken counted))

  pub taken_lists : {X : Type 0} (list rest : List Entry) (left : List (replay.Input (types C Q V H T E L))) (taken number : ℕ) (last : replay.Machine (types C Q V H T E L))
      (d : Machine P C Q V H T E L) (answer : Result (Option ℕ) X) → number ≡ taken + 1 → list ≡ Taken number ∷ rest
      → IfOk answer (JudgesOf app limits (taking app limits props inputs left number last) rest d)
      → IfOk answer (ListJudged app limits props inputs number last left list d)
  taken_lists list rest left taken number last d (Ok answer) counted is h = taken_judged list rest left taken number last d answer counted is h
  taken_lists list rest left taken number last d (Err x) counted is h = tt

  -- the list of the build was good
  pub reaches_first : (logs : List (List Entry)) (list : List Entry) (left : List (replay.Input (types C Q V H T E L))) (d : Machine P C Q V H T E L)
      → left ≡ inputs
      → drop 0 logs ≡ list ∷ drop 1 logs
      → ListJudged app limits props inputs 0 (start app props inputs) inputs list d None
      → Reaches app limits props inputs logs 0 left d
  reaches_first logs list left d all is h =
      record {
        last = h.0;
        follows = subst (λ ins. Follows app limits props inputs ins 0 h.0 d) (sym all) h.1;
        verdict =
            ap (λ (ls : List (List Entry)). verdict_from app 0 (start app props inputs) ls) is
            ∙ h.2 (λ u. verdict_from app 1 u (drop 1 logs));
      }

  -- it wasn't
  pub first_stops : (logs : List (List Entry)) (list : List Entry) (d : Machine P C Q V H T E L) (entry : ℕ)
      → drop 0 logs ≡ list ∷ drop 1 logs
      → ListJudged app limits props inputs 0 (start app props inputs) inputs list d (Some entry)
      → verdict app props inputs logs ≡ Refused 0 entry
  first_stops logs list d entry is h =
      ap (λ (ls : List (List Entry)). verdict_from app 0 (start app props inputs) ls) is ∙ h (λ u. verdict_from app 1 u (drop 1 logs))

  -- one list more was good
  pub reaches_next : (logs : List (List Entry)) (list : List Entry) (left : List (replay.Input (types C Q V H T E L))) (input : replay.Input (types C Q V H T E L))
      (taken number : ℕ) (old new : Machine P C Q V H T E L)
      → number ≡ suc taken
      → drop number logs ≡ list ∷ drop (suc number) logs
      → (h : Reaches app limits props inputs logs taken (input ∷ left) old)
      → ListJudged app limits props inputs number h.last left list new None
      → Reaches app limits props inputs logs number left new
  reaches_next logs list left input taken number old new is at h judged =
      record {
        last = judged.0;
        follows = judged.1;
        verdict =
            h.verdict
            ∙ ap (λ n. verdict_from app n h.last (drop n logs)) (sym is)
            ∙ ap (λ (ls : List (List Entry)). verdict_from app number h.last ls) at
            ∙ judged.2 (λ u. verdict_from app (suc number) u (drop (suc number) logs));
      }

  -- one list more wasn't
  pub next_stops : (logs : List (List Entry)) (list : List Entry) (left : List (replay.Input (types C Q V H T E L))) (input : replay.Input (types C Q V H T E L))
      (taken number entry : ℕ) (old new : Machine P C Q V H T E L)
      → number ≡ suc taken
      → drop number logs ≡ list ∷ drop (suc number) logs
      → (h : Reaches app limits props inputs logs taken (input ∷ left) old)
      → ListJudged app limits props inputs number h.last left list new (Some entry)
      → verdict app props inputs logs ≡ Refused number entry
  next_stops logs list left input taken number entry old new is at h judged =
      h.verdict
      ∙ ap (λ n. verdict_from app n h.last (drop n logs)) (sym is)
      ∙ ap (λ (ls : List (List Entry)). verdict_from app number h.last ls) at
      ∙ judged (λ u. verdict_from app (suc number) u (drop (suc number) logs))

  -- no list is left
  pub none_left : (logs : List (List Entry)) (left : List (replay.Input (types C Q V H T E L))) (taken number : ℕ) (d : Machine P C Q V H T E L)
      → number ≡ suc taken
      → length logs ≤ number
      → Reaches app limits props inputs logs taken left d
      → verdict app props inputs logs ≡ Accepted
  none_left logs left taken number d is low h =
      h.verdict
      ∙ ap (λ n. verdict_from app n h.last (drop n logs)) (sym is)
      ∙ ap (λ (ls : List (List Entry)). verdict_from app number h.last ls) (drop_all number logs low)

  -- no input is left, so nothing is due
  idle_due : (taken : ℕ) (last : replay.Machine (types C Q V H T E L)) (d : Machine P C Q V H T E L) → Follows app limits props inputs [] taken last d → due app last ≡ None
  idle_due taken last d f =
      let none : last.inputs ≡ [] = sym (ap (λ (x : replay.Machine (types C Q V H T E L)). x.inputs) f.between.same) in
      ap (λ (o : Option Entry). if_live last.state o)
      (due_at_rest app last f.rest f.built
      ∙ ap (λ (ls : List (Listener (types C Q V H T E L))). due_heard app last ls) f.between.quiet
      ∙ ap (λ (o : Option next.Work). due_work app last o last.inputs) f.between.none
      ∙ ap (λ ins. due_work app last None ins) none)

  idle_stops : (n taken : ℕ) (last : replay.Machine (types C Q V H T E L)) (d : Machine P C Q V H T E L) (list : List Entry) (later : replay.Machine (types C Q V H T E L) → Verdict)
      → Follows app limits props inputs [] taken last d
      → verdict_on app n 0 last list later ≡ Refused n 0
  idle_stops n taken last d [] later f = refl
  idle_stops n taken last d (e ∷ list) later f =
      let none : accepts app last e ≡ None = ap (λ (o : Option Entry). if is_due app o e then Some (step app last e) else None) (idle_due taken last d f) in
      stop_at app n zero last e list later (both (is_placed n zero e) none)
    where
      both : (b : Bool) → accepts app last e ≡ None → (if b then accepts app last e else None) ≡ None
      both true h = h
      both false h = refl

  -- a list without an input stops at its first entry
  pub idle_list : (logs : List (List Entry)) (list : List Entry) (taken number : ℕ) (d : Machine P C Q V H T E L)
      → number ≡ suc taken
      → drop number logs ≡ list ∷ drop (suc number) logs
      → Reaches app limits props inputs logs taken [] d
      → verdict app props inputs logs ≡ Refused number 0
  idle_list logs list taken number d is at h =
      h.verdict
      ∙ ap (λ n. verdict_from app n h.last (drop n logs)) (sym is)
      ∙ ap (λ (ls : List (List Entry)). verdict_from app number h.last ls) at
      ∙ idle_stops number taken h.last d list (λ u. verdict_from app (suc number) u (drop (suc number) logs)) h.follows

  -- the verdict at the end of the inputs
  pub at_end : (logs : List (List Entry)) (taken number : ℕ) (d : Machine P C Q V H T E L) (answer : Found)
      → number ≡ suc taken
      → answer ≡ ended number (length logs)
      → Reaches app limits props inputs logs taken [] d
      → verdict_of answer ≡ verdict app props inputs logs
  at_end logs taken number d answer is found h =
      by_test (nat_lt number (length logs))
      (
      λ q.
      let low : number < length logs = ltb-true number (length logs) q in
      let list = get_or logs number [] in
      let at : drop number logs ≡ list ∷ drop (suc number) logs = drop-cons logs number [] low in
      ap (λ (v : Found). verdict_of v) (found ∙ pick_true (nat_lt number (length logs)) (answers.Refused number 0) answers.Accepted q)
      ∙ sym (idle_list logs list taken number d is at h)
      )
      (
      λ q.
      ap (λ (v : Found). verdict_of v) (found ∙ pick_false (nat_lt number (length logs)) (answers.Refused number 0) answers.Accepted q)
      ∙ sym (none_left logs [] taken number d is (ltb-false number (length logs) q) h)
      )
