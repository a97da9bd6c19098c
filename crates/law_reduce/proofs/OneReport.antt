-- In one report of a session of pages each cell that stays comes to have what the input makes of the values.
use Rattle.std.proofs.Common.{ℕ, ◌+◌, Bool, true, false, ◌&&◌, not, List, [], ◌∷◌, ◌++◌, ◌≡◌, inl, inr, refl, sym, ap, ◌∙◌, subst}
use Rattle.std.specs.Prelude.{Option, Some, None, if◌then◌else◌, is_some}
use Rattle.rt_lemmas.proofs.Options.{not_some as none_of}
use Rattle.rt_model.specs.Lists.{Text, at}
use Rattle.rt_model.specs.Tree.{Types}
use Rattle.rt_model.specs.World.{Cell, Event, Application}
use Rattle.rt_model.specs.State.{Fault, Scope, State, CellRow, Item, is_live}
use Rattle.rt_model.specs.Next.{Work, RunEffects, next, owes, is_before, least}
use Rattle.rt_model.specs.Heard.{Listener}
use Rattle.rt_model.specs.Replay.{Entry, Build, Taken, Input, EventAt, WakeOf, WriteOf, MarkOf, Drain, Machine, if_live, no_work, no_listener, waiting, looked_where_quiet, then_looked, taken_in, due_work, due_heard, due_item, due, is_due, step, accepts, is_quiet, replay_on}
use Rattle.rt_model.specs.Causes.{Limits}
use Rattle.rt_model.specs.Told.{count_entries, is_settled}
use Rattle.rt_model.specs.Reports.{is_opening, OpensWith}
use Rattle.rt_model.proofs.Conjunctions.{and-left, and-right}
use Rattle.rt_model.proofs.OneLogOnly.{same_entry-true, fork}
use Rattle.law_moves.specs.Moves.{entries, moves_alone, IsSettled, AtRest}
use Rattle.law_moves.proofs.Limited.{some_limits}
use Rattle.law_moves.proofs.Logs.{logs_are_moves}
use Rattle.law_headline.proofs.Reports.{settled_after}
use Rattle.law_behavior.specs.Along.{NoneRemoves}
use Rattle.law_behavior.specs.Owed.{IsMarked, MarksAreRun}
use Rattle.law_behavior.specs.Comes.{emptied, NothingLeft}
use Rattle.law_behavior.proofs.Coming.{none_is_left}
use Rattle.author_programs.specs.Cells.{Keeping}
use Rattle.author_programs.specs.Pages.{Pages, meaning_of_pages}
use Rattle.law_pages.specs.Updates.{Model, model_of, updates}
use Rattle.law_pages.proofs.Keeping.{pages_keep_cells}
use Rattle.law_pages.proofs.Listening.{at_values}
use Rattle.law_pages.proofs.Hearing.{waits_on, machine_is}
use Rattle.law_reduce.specs.Reduces.{hearers, reduced, Reduces}
use Rattle.law_reduce.specs.Reads.{NoneRuns, ReadsStay}
use Rattle.law_reduce.proofs.GoesOn.{later_stays, later_unrun, PagesGoOn, Knows, page_after}
use Rattle.law_reduce.specs.Elm.{Owned, OwnersStay}
use Rattle.law_reduce.proofs.Owners.{owners_of, still_owned}
use Rattle.law_reduce.proofs.Led.{LedTo, led_on, Way, way_on}
use Rattle.law_reduce.proofs.Minds.{Minds}
use Rattle.rt_model.specs.Commands.{names_source}
use Rattle.law_reduce.proofs.Calm.{none_opens, none_later, Calm, calm_moves}
use Rattle.law_reduce.proofs.InTurn.{EventDone, first_done, all_done}
use Rattle.law_reduce.proofs.Taking.{ready, Took, took, took_looked, take_is, hearers_emptied, Made, IsNoEvent, made_at_once}

module _ {K : Types} where
  no_items : (items : List (Item K)) → no_work items ≡ true → items ≡ []
  no_items [] h = refl
  no_items (i ∷ rest) h = cc

  -- nothing is at work, nothing is owed, and the build has begun
  pub record Ready (m : Machine K) : Type 0 where
    pub rests : AtRest m
    pub built : m.built ≡ true
    pub none : next m.state ≡ None

  pub at_rest_settled : (m : Machine K) → AtRest m → IsSettled m
  at_rest_settled m h =
      ap (λ (o : Option Fault). moves_alone o m.work m.unit) h.alive ∙ ap (λ (items : List (Item K)). moves_alone None items m.unit) h.idle ∙ h.unit

  -- where nothing is owed no fault ended the run, and nothing is at work
  quiet_front : (m : Machine K) → is_settled m ≡ true → not (is_some m.dead) && no_work m.work ≡ true
  quiet_front m h =
      let quiet : is_quiet m ≡ true = and-left (is_quiet m) (not (owes m.state)) h in
      and-left (not (is_some m.dead) && no_work m.work) (no_listener (waiting m)) quiet

  pub settled_alive : (m : Machine K) → is_settled m ≡ true → m.dead ≡ None
  settled_alive m h = none_of m.dead (and-left (not (is_some m.dead)) (no_work m.work) (quiet_front m h))

  pub settled_idle : (m : Machine K) → is_settled m ≡ true → m.work ≡ []
  settled_idle m h = no_items m.work (and-right (not (is_some m.dead)) (no_work m.work) (quiet_front m h))

  pub settled_ready : (m : Machine K) → m.built ≡ true → IsSettled m → is_settled m ≡ true → Ready m
  settled_ready m built still h =
      let alive : m.dead ≡ None = settled_alive m h in
      let idle : m.work ≡ [] = settled_idle m h in
      record {
        rests =
            record {
              alive = alive;
              idle = idle;
              unit =
                  sym (ap (λ (o : Option Fault). moves_alone o m.work m.unit) alive ∙ ap (λ (items : List (Item K)). moves_alone None items m.unit) idle)
                  ∙ still;
            };
        built = built;
        none = none_of (next m.state) (and-right (is_quiet m) (not (owes m.state)) h);
      }

  -- what a state without posts that owes nothing owes once more
  emptied_owes_none : (w : State K) → next w ≡ None → next (emptied w) ≡ None
  emptied_owes_none w none =
      let left : NothingLeft w = none_is_left K w none in
      ap (λ (xs : List ℕ). elim (least (λ a b. is_before w.scopes a b) xs) as (λ z. Option Work) [ None ↦ None | Some s ↦ Some (RunEffects s) ]) left.effects

module _ {K : Types} (k : Keeping K.Value) (a : Pages K) where
  abbrev app : Application K
  app = meaning_of_pages k a

  -- where nothing is owed and nobody waits an entry that is due opens a report
  due_idly : (x : Machine K) → Ready x → waiting x ≡ [] → due app x ≡ if_live x.state (due_work app x None x.inputs)
  due_idly x h waits =
      ap (λ (o : Option Fault). if_live x.state (elim o as (λ z. Option Entry) [ None ↦ (if x.built then due_item app x x.work else Some Build) | Some fault ↦ None ])) (h.rests).alive
      ∙ ap (λ (b : Bool). if_live x.state (if b then due_item app x x.work else Some Build)) h.built
      ∙ ap (λ (items : List (Item K)). if_live x.state (due_item app x items)) (h.rests).idle
      ∙ ap (λ (ls : List (Listener K)). if_live x.state (due_heard app x ls)) waits
      ∙ ap (λ (o : Option Work). if_live x.state (due_work app x o x.inputs)) h.none

  opens_idly : (x : Machine K) (inputs : List (Input K)) (e : Entry) → is_due app (if_live x.state (due_work app x None inputs)) e ≡ true → is_opening e ≡ true
  opens_idly x [] e h = cc
  opens_idly x (input ∷ inputs) e h = sym (ap (λ (d : Entry). is_opening d) (same_entry-true (Taken (x.taken + 1)) e h))

  ends_there : (x v : Machine K) (log : List Entry) → Ready x → waiting x ≡ [] → replay_on app (Some x) log ≡ Some v → count_entries is_opening log ≡ 0 → x ≡ v
  ends_there x v [] h waits accepted none = machine_is x v accepted
  ends_there x v (f ∷ fs) h waits accepted none =
      let due_here = (fork app (is_due app (due app x) f) (step app x f) fs v accepted).0 in
      let opens : is_opening f ≡ true = opens_idly x x.inputs f (sym (ap (λ (o : Option Entry). is_due app o f) (due_idly x h waits)) ∙ due_here) in
      let other : is_opening f ≡ false = (none_opens (is_opening f) (count_entries is_opening fs) none).0 in
      let absurdity : true ≡ false = sym opens ∙ other in
      cc

  -- what comes of the log of a report
  pub record Came (m : Machine K) (input : Input K) (more : List (Input K)) (log : List Entry) (v : Machine K) : Type 0 where
    pub reduces : Reduces a m.state input log v.state
    pub owners_stay : OwnersStay m.state log v.state
    pub reads_stay : MarksAreRun app → ReadsStay m.state log v.state
    pub pages_go_on : MarksAreRun app → Knows k a → (props : K.Props) (all : List (Input K)) → LedTo app props all m → PagesGoOn k a m.state log v.state
    pub ready_again : Ready v
    pub inputs : v.inputs ≡ more

  -- from where nobody is left to wait, and the values are the input's
  onwards : (m b v : Machine K) (input : Input K) (more : List (Input K)) (before rest log : List Entry) → log ≡ before ++ rest
      → replay_on app (Some m) before ≡ Some b
      → Calm more b
      → AtRest b
      → owners_of b.state ≡ owners_of m.state
      → Minds (emptied m.state) b.state
      → model_of b.state ≡ reduced a m.state input
      → replay_on app (Some b) rest ≡ Some v
      → count_entries is_opening rest ≡ 0
      → is_settled v ≡ true
      → Came m input more log v
  onwards m b v input more before rest log parts led calm rests owners minds model accepted none settled =
      let found = some_limits app rest b v accepted in
      let limits : Limits = found.0 in
      let moved = logs_are_moves app limits b v rest (at_rest_settled b rests) found.1 in
      let none_moves : count_entries is_opening (entries moved.0) ≡ 0 = ap (λ (es : List Entry). count_entries is_opening es) moved.2 ∙ none in
      let after : Calm more v = (calm_moves app more limits 0 b v moved.0 moved.1 none_moves calm).1 in
      let again : Ready v = settled_ready v after.built (settled_after app limits rest b v (at_rest_settled b rests) found.1) settled in
      let stays_on : (s : ℕ) → NoneRemoves s log → NoneRemoves s (entries moved.0) =
      λ s stays. subst (λ (es : List Entry). NoneRemoves s es) (sym moved.2) (later_stays s before rest (subst (λ (es : List Entry). NoneRemoves s es) parts stays)) in
      let cell_stays : MarksAreRun app → (s : ℕ) (x : Scope K) (n : ℕ) (row : CellRow K) → at m.state.scopes s ≡ Some x → is_live v.state s ≡ true → NoneRuns s (entries moved.0)
      → names_source x.reads (Cell n) ≡ true → at m.state.cells n ≡ Some row → NoneRemoves row.owner (entries moved.0) → at v.state.cells n ≡ Some row =
      λ marks s x n row there live unrun named cell stays.
      elim (minds.told s x n row there named cell) [
        | inl c ↦ pages_keep_cells K k a limits b v moved.0 n row moved.1 stays (calm_moves app more limits n b v moved.0 moved.1 none_moves calm).0 c
        | inr owed ↦
            let here : is_live b.state s ≡ true =
            ap (λ (o : Option (Scope K)). is_some o) (ap (λ (es : List (ℕ × Scope K)). at es s) minds.scopes ∙ there) in
            let marked : IsMarked b.state s = owed here in
            let gone : is_live v.state s ≡ false = (marks limits b v moved.0 s moved.1 (again.rests).alive marked unrun).1 again.none in
            let absurdity : true ≡ false = sym live ∙ gone in
            cc
      ] in
      let lasts : (n : ℕ) (row : CellRow K) → at m.state.cells n ≡ Some row → NoneRemoves row.owner log → (o : Owned b.state n row.owner) × (at v.state.cells n ≡ Some o.row) =
      λ n row there stays.
      let o : Owned b.state n row.owner = still_owned m.state b.state n row owners there in
      let goes_on : NoneRemoves (o.row).owner (entries moved.0) = subst (λ (s : ℕ). NoneRemoves s (entries moved.0)) (sym o.owner_is) (stays_on row.owner stays) in
      (o, pages_keep_cells K k a limits b v moved.0 n o.row moved.1 goes_on (calm_moves app more limits n b v moved.0 moved.1 none_moves calm).0 o.there) in
      record {
        reads_stay =
            λ marks s x n row there live unrun named cell stays.
            cell_stays marks s x n row there live
            (subst (λ (es : List Entry). NoneRuns s es) (sym moved.2) (later_unrun s before rest (subst (λ (es : List Entry). NoneRuns s es) parts unrun)))
            named cell (stays_on row.owner stays);
        pages_go_on =
            λ marks known props all came s x c p own same there page keeps stays.
            let way : Way app props all b rest v = way_on app props all b v rest (at_rest_settled b rests) (led_on app props all m b before came led) accepted in
            let alike : entries way.moves ≡ entries moved.0 = way.entries_are ∙ sym moved.2 in
            let none_here : count_entries is_opening (entries way.moves) ≡ 0 = ap (λ (es : List Entry). count_entries is_opening es) alike ∙ none_moves in
            let stays_here : NoneRemoves s (entries moved.0) = stays_on s stays in
            let at_b : at b.state.scopes s ≡ Some x = ap (λ (es : List (ℕ × Scope K)). at es s) minds.scopes ∙ there in
            page_after k a known m.state b v way.limits props all way.moves way.reached way.leads (again.rests).alive none_here minds.calls s x c p own same at_b page keeps
            (subst (λ (es : List Entry). NoneRemoves s es) (sym alike) stays_here)
            (
            λ live unrun n r named cell mine.
            cell_stays marks s x n r there live (subst (λ (es : List Entry). NoneRuns s es) alike unrun) named cell (subst (λ (o : ℕ). NoneRemoves o (entries moved.0)) (sym mine) stays_here)
            );
        owners_stay =
            λ n row there stays.
            let one = lasts n row there stays in
            record { row = (one.0).row; there = one.1; owner_is = (one.0).owner_is };
        reduces =
            λ n row there stays.
            let one = lasts n row there stays in
            at_values v.state.cells n
            ∙ ap (λ (r : Option (CellRow K)). elim r as (λ z. Option K.Value) [ None ↦ None | Some d ↦ Some d.value ]) (one.1 ∙ sym (one.0).there)
            ∙ sym (at_values b.state.cells n)
            ∙ ap (λ (x : Model K). at x n) model;
        ready_again = again;
        inputs = after.inputs;
      }

  -- nobody hears the event: the report ends there
  unheard : (m y v : Machine K) (name : Text) (payload : K.Payload) (element : ℕ) (bubbles : Bool) (more : List (Input K)) (first : Entry) (log : List Entry)
      → y ≡ taken_in (ready m more) (EventAt name payload element bubbles)
      → Ready m
      → hearers m.state name element bubbles ≡ []
      → replay_on app (Some y) log ≡ Some v
      → count_entries is_opening log ≡ 0
      → Came m (EventAt name payload element bubbles) more (first ∷ log) v
  unheard m y v name payload element bubbles more first log is h silent accepted none =
      let x : Machine K = taken_in (ready m more) (EventAt name payload element bubbles) in
      let rests : AtRest x = (took m more (EventAt name payload element bubbles)).rests h.rests in
      let still : Ready x = record { rests = rests; built = h.built; none = emptied_owes_none m.state h.none } in
      let waits : waiting x ≡ [] = hearers_emptied m.state name element bubbles ∙ silent in
      let same : x ≡ v = ends_there x v log still waits (subst (λ (z : Machine K). replay_on app (Some z) log ≡ Some v) is accepted) none in
      let e : Event K = record { payload = payload; propagates = bubbles; prevented = false } in
      let made : Came m (EventAt name payload element bubbles) more (first ∷ log) x =
      record {
        reduces = λ n row there stays. sym (ap (λ (ls : List (Listener K)). at (updates a bubbles m.state.next.cells ls e (model_of m.state)) n) silent);
        owners_stay = λ n row there stays. record { row = row; there = there; owner_is = refl };
        reads_stay = λ marks s x n row there live unrun named cell stays. cell;
        pages_go_on =
            λ marks known props all came s x c p own same there page keeps stays.
            record { row = x; there = there; props = p; page = page; keeps = keeps; calls = λ last e. inr (e, refl, refl, λ n r named cell mine. cell) };
        ready_again = still;
        inputs = refl;
      } in
      subst (λ (z : Machine K). Came m (EventAt name payload element bubbles) more (first ∷ log) z) same made

  -- somebody hears it
  heard_by_some : (m y v : Machine K) (name : Text) (payload : K.Payload) (element : ℕ) (bubbles : Bool) (more : List (Input K)) (first : Entry) (log : List Entry) (l : Listener K) (ls : List (Listener K))
      → accepts app m first ≡ Some y
      → y ≡ taken_in (ready m more) (EventAt name payload element bubbles)
      → Ready m
      → hearers m.state name element bubbles ≡ l ∷ ls
      → replay_on app (Some y) log ≡ Some v
      → count_entries is_opening log ≡ 0
      → is_settled v ≡ true
      → Came m (EventAt name payload element bubbles) more (first ∷ log) v
  heard_by_some m y v name payload element bubbles more first [] l ls begun is h hears accepted none settled =
      let x : Machine K = taken_in (ready m more) (EventAt name payload element bubbles) in
      let waits : waiting x ≡ l ∷ ls = hearers_emptied m.state name element bubbles ∙ hears in
      let quiet : is_quiet v ≡ true = and-left (is_quiet v) (not (owes v.state)) settled in
      absurd (waits_on k a x v l ls (machine_is x v (subst (λ (z : Machine K). replay_on app (Some z) [] ≡ Some v) is accepted)) waits quiet)
  heard_by_some m y v name payload element bubbles more first (f ∷ fs) l ls begun is h hears accepted none settled =
      let x : Machine K = taken_in (ready m more) (EventAt name payload element bubbles) in
      let e : Event K = record { payload = payload; propagates = bubbles; prevented = false } in
      let waits : waiting x ≡ l ∷ ls = hearers_emptied m.state name element bubbles ∙ hears in
      let quiet : is_quiet v ≡ true = and-left (is_quiet v) (not (owes v.state)) settled in
      let goes : replay_on app (Some x) (f ∷ fs) ≡ Some v = subst (λ (z : Machine K). replay_on app (Some z) (f ∷ fs) ≡ Some v) is accepted in
      let done : EventDone k a x (l ∷ ls) e (f ∷ fs) v =
      first_done k a l ls x e f fs v
      (λ u b r ev le li acc. all_done k a ls u (a.reply l.handler e).leaves fs v b r ev le li acc quiet)
      h.built ((took m more (EventAt name payload element bubbles)).rests h.rests) refl waits goes in
      onwards m done.between v (EventAt name payload element bubbles) more (first ∷ done.heards) done.rest (first ∷ f ∷ fs)
      (ap (λ (es : List Entry). first ∷ es) done.parts)
      (ap (λ (o : Option (Machine K)). replay_on app o done.heards) (begun ∙ ap (λ (z : Machine K). Some z) is) ∙ done.hears)
      (record { built = done.built; listeners = done.listeners; inputs = done.inputs })
      done.rests
      done.owners
      done.minds
      (done.model ∙ ap (λ (ds : List (Listener K)). updates a bubbles m.state.next.cells ds e (model_of m.state)) (sym hears))
      done.goes_on
      (none_later done.heards done.rest (subst (λ (es : List Entry). count_entries is_opening es ≡ 0) done.parts none))
      settled

  -- an event
  event_comes : (m y v : Machine K) (name : Text) (payload : K.Payload) (element : ℕ) (bubbles : Bool) (more : List (Input K)) (first : Entry) (log : List Entry) (ls : List (Listener K))
      → accepts app m first ≡ Some y
      → y ≡ taken_in (ready m more) (EventAt name payload element bubbles)
      → Ready m
      → hearers m.state name element bubbles ≡ ls
      → replay_on app (Some y) log ≡ Some v
      → count_entries is_opening log ≡ 0
      → is_settled v ≡ true
      → Came m (EventAt name payload element bubbles) more (first ∷ log) v
  event_comes m y v name payload element bubbles more first log [] begun is h hears accepted none settled =
      unheard m y v name payload element bubbles more first log is h hears accepted none
  event_comes m y v name payload element bubbles more first log (l ∷ ls) begun is h hears accepted none settled =
      heard_by_some m y v name payload element bubbles more first log l ls begun is h hears accepted none settled

  -- a look changes nothing where nothing is posted
  look_idle : (y : Machine K) (ls : List (Listener K)) → y ≡ record y { state = emptied y.state } → looked_where_quiet y ls ≡ y
  look_idle y [] h = ap (λ (x : Machine K). looked_where_quiet x []) h ∙ sym h
  look_idle y (l ∷ ls) h = refl

  -- what isn't an event
  other_comes : (m x v : Machine K) (input : Input K) (more : List (Input K)) (first : Entry) (log : List Entry)
      → accepts app m first ≡ Some x
      → IsNoEvent a input
      → x ≡ then_looked (taken_in (ready m more) input)
      → AtRest x
      → x.built ≡ true
      → x.inputs ≡ more
      → replay_on app (Some x) log ≡ Some v
      → count_entries is_opening log ≡ 0
      → is_settled v ≡ true
      → Came m input more (first ∷ log) v
  other_comes m x v input more first log begun other is rests built inputs accepted none settled =
      let made : Made a m input x = subst (λ (z : Machine K). Made a m input z) (sym is) (made_at_once a m more input other) in
      onwards m x v input more (first ∷ []) log (first ∷ log) refl
      (ap (λ (o : Option (Machine K)). replay_on app o []) begun)
      (record { built = built; listeners = made.listeners; inputs = inputs })
      rests
      made.owners
      made.minds
      made.model
      accepted
      none
      settled

  at_once : (m x v : Machine K) (input : Input K) (more : List (Input K)) (first : Entry) (log : List Entry)
      → Ready m
      → accepts app m first ≡ Some x
      → IsNoEvent a input
      → x ≡ then_looked (taken_in (ready m more) input)
      → replay_on app (Some x) log ≡ Some v
      → count_entries is_opening log ≡ 0
      → is_settled v ≡ true
      → Came m input more (first ∷ log) v
  at_once m x v input more first log h begun other is accepted none settled =
      let y : Machine K = taken_in (ready m more) input in
      let t : Took m more (then_looked y) = took_looked m more y (waiting y) (took m more input) in
      other_comes m x v input more first log begun other is
      (subst (λ (z : Machine K). AtRest z) (sym is) (t.rests h.rests))
      (ap (λ (z : Machine K). z.built) is ∙ t.built ∙ h.built)
      (ap (λ (z : Machine K). z.inputs) is ∙ t.inputs)
      accepted
      none
      settled

  -- by the input
  input_comes : (m x v : Machine K) (input : Input K) (more : List (Input K)) (first : Entry) (log : List Entry)
      → Ready m
      → accepts app m first ≡ Some x
      → x ≡ then_looked (taken_in (ready m more) input)
      → replay_on app (Some x) log ≡ Some v
      → count_entries is_opening log ≡ 0
      → is_settled v ≡ true
      → Came m input more (first ∷ log) v
  input_comes m x v (EventAt name payload element bubbles) more first log h begun is accepted none settled =
      let y : Machine K = taken_in (ready m more) (EventAt name payload element bubbles) in
      event_comes m x v name payload element bubbles more first log (hearers m.state name element bubbles) begun (is ∙ look_idle y (waiting y) refl) h refl accepted none settled
  input_comes m x v (WakeOf t) more first log h begun is accepted none settled = at_once m x v (WakeOf t) more first log h begun tt is accepted none settled
  input_comes m x v (WriteOf n w) more first log h begun is accepted none settled = at_once m x v (WriteOf n w) more first log h begun tt is accepted none settled
  input_comes m x v (MarkOf s) more first log h begun is accepted none settled = at_once m x v (MarkOf s) more first log h begun tt is accepted none settled
  input_comes m x v (Drain messages) more first log h begun is accepted none settled = at_once m x v (Drain messages) more first log h begun tt is accepted none settled

  -- the report of an input
  pub report_comes : (m v : Machine K) (input : Input K) (more : List (Input K)) (i : ℕ) (log : List Entry)
      → Ready m
      → m.inputs ≡ input ∷ more
      → OpensWith (Taken i) log
      → replay_on app (Some m) log ≡ Some v
      → is_settled v ≡ true
      → Came m input more log v
  report_comes m v input more i [] h inputs opens accepted settled = absurd opens
  report_comes m v input more i (f ∷ fs) h inputs opens accepted settled =
      let x : Machine K = step app m f in
      let is : x ≡ then_looked (taken_in (ready m more) input) = ap (λ (d : Entry). step app m d) opens.0 ∙ take_is app m input more i h.rests h.none inputs in
      let forked = fork app (is_due app (due app m) f) x fs v accepted in
      input_comes m x v input more f fs h (ap (λ (b : Bool). if b then Some x else None) forked.0) is forked.1 opens.1 settled
