-- What a listener of a page leaves of the values of cells, and that a page with its cells asks for nothing.
use Rattle.std.proofs.Common.{ℕ, Bool, true, false, not, List, [], ◌∷◌, ◌++◌, ◌≡◌, refl, sym, ap, ◌∙◌, subst, map, nat_eq, nat_lt}
use Rattle.std.specs.Prelude.{Option, Some, None, if◌then◌else◌}
use Rattle.rt_model.specs.Lists.{at, put}
use Rattle.rt_model.specs.Program.{done, Call, begun, noted, noted_at, past_hook, body_means, call_means, ended}
use Rattle.rt_model.specs.Tree.{Types, Element}
use Rattle.rt_model.specs.World.{Source, Cell, Firsts, Event, Command, Write, World, Meaning, Nothing, nothing, Application}
use Rattle.rt_model.specs.State.{Fault, CellRow, State, Item, world_of}
use Rattle.rt_model.specs.Commands.{written_at, write_cell, command, commands}
use Rattle.rt_model.specs.Run.{with_next, called_once}
use Rattle.rt_model.specs.Heard.{Listener}
use Rattle.rt_model.specs.Replay.{Machine, waiting, looked_where_quiet, further, heard_by, heard_event, heard_first, Heard, change_by, draws, rows_left, served, closed_at, closed, settled, step}
use Rattle.author_programs.specs.Came.{Came, came, reached}
use Rattle.author_programs.specs.Cells.{Keeping, all_read, all_written}
use Rattle.author_programs.specs.Pages.{Pages, Reply, reply_call, page_body, meaning_of_pages}
use Rattle.author_programs.specs.Reads.{read_value, read_call}
use Rattle.author_programs.specs.Sequence.{go_on}
use Rattle.author_programs.proofs.Goes.{exec-came}
use Rattle.author_programs.proofs.Shows.{after_hooks, after_reads, page-comes}
use Rattle.author_programs.proofs.Steps.{on, at_done, at_read, at_write}
use Rattle.law_lasting.proofs.Told.{tell_same, look_same}
use Rattle.law_pages.specs.Keeps.{KeptPagesAskNothing}
use Rattle.law_pages.specs.Updates.{Model, values_in, model_of, put_where, written, read_in, Updated, ListenersUpdate, HeardEntriesUpdate}

-- what a call that is no body read aside
abbrev aside_with : ℕ → List Source → List ℕ → List Source
aside_with drawn xs [] = xs
aside_with drawn xs (n ∷ ns) = aside_with drawn (if nat_lt n drawn then Cell n ∷ xs else xs) ns

as_value : {V : Type 0} (b : Bool) (o p : Option V) → o ≡ p → (if b then o else None) ≡ (if b then p else None)
as_value true o p h = h
as_value false o p h = refl

module _ {K : Types} where
  -- the value under a number is that of the cell there
  at_head : (b : Bool) (c : CellRow K) (o : Option (CellRow K)) (p : Option K.Value) → p ≡ elim o as (λ z. Option K.Value) [ None ↦ None | Some d ↦ Some d.value ]
      → (if b then Some c.value else p) ≡ elim (if b then Some c else o) as (λ z. Option K.Value) [ None ↦ None | Some d ↦ Some d.value ]
  at_head true c o p h = refl
  at_head false c o p h = h

  pub at_values : (es : List (ℕ × CellRow K)) (n : ℕ) → at (values_in es) n ≡ elim (at es n) as (λ z. Option K.Value) [ None ↦ None | Some d ↦ Some d.value ]
  at_values [] n = refl
  at_values (e ∷ es) n = at_head (nat_eq e.0 n) e.1 (at es n) (at (values_in es) n) (at_values es n)

  put_head : (b : Bool) (n : ℕ) (v : K.Value) (c old : CellRow K) (m : ℕ) (es rest : List (ℕ × CellRow K)) (more : Model K) → values_in rest ≡ more
      → values_in (if b then (n, record old { value = v }) ∷ es else (m, c) ∷ rest) ≡ (if b then (n, v) ∷ values_in es else (m, c.value) ∷ more)
  put_head true n v c old m es rest more h = refl
  put_head false n v c old m es rest more h = ap (λ (xs : Model K). (m, c.value) ∷ xs) h

  put_values : (es : List (ℕ × CellRow K)) (n : ℕ) (v : K.Value) (old : CellRow K) → values_in (put es n (record old { value = v })) ≡ put (values_in es) n v
  put_values [] n v old = refl
  put_values (e ∷ es) n v old = put_head (nat_eq e.0 n) n v e.1 old e.0 es (put es n (record old { value = v })) (put (values_in es) n v) (put_values es n v old)

  -- a write
  written_model : (w : State K) (n : ℕ) (v : K.Value) (o : Option (CellRow K)) → at w.cells n ≡ o → model_of (written_at w n v o) ≡ put_where (model_of w) n v (at (model_of w) n)
  written_model w n v None e =
      let none : at (model_of w) n ≡ None = at_values w.cells n ∙ ap (λ (o : Option (CellRow K)). elim o as (λ z. Option K.Value) [ None ↦ None | Some d ↦ Some d.value ]) e in
      sym (ap (λ (o : Option K.Value). put_where (model_of w) n v o) none)
  written_model w n v (Some old) e =
      let u : State K = record w { cells = put w.cells n (record old { value = v }) } in
      let some : at (model_of w) n ≡ Some old.value = at_values w.cells n ∙ ap (λ (o : Option (CellRow K)). elim o as (λ z. Option K.Value) [ None ↦ None | Some d ↦ Some d.value ]) e in
      ap (λ (es : List (ℕ × CellRow K)). values_in es) (tell_same u (Cell n)).cells
      ∙ put_values w.cells n v old
      ∙ sym (ap (λ (o : Option K.Value). put_where (model_of w) n v o) some)

  pub write_model : (w : State K) (n : ℕ) (v : K.Value) → model_of (write_cell w n v) ≡ put_where (model_of w) n v (at (model_of w) n)
  write_model w n v = written_model w n v (at w.cells n) refl

  write_next : (w : State K) (n : ℕ) (v : K.Value) (o : Option (CellRow K)) → (written_at w n v o).next ≡ w.next
  write_next w n v None = refl
  write_next w n v (Some old) =
      let u : State K = record w { cells = put w.cells n (record old { value = v }) } in (tell_same u (Cell n)).next

  -- the commands of writes that come after others
  abbrev pub commands_with : List (Command K) → List (ℕ × K.Value) → List (Command K)
  commands_with cs [] = cs
  commands_with cs (e ∷ es) = commands_with (cs ++ Write e.0 e.1 ∷ []) es

  module _ (app : Application K) (s : ℕ) where
    pub one_later : (w : State K) (cs : List (Command K)) (c : Command K) → commands app w s None (cs ++ c ∷ []) ≡ command app (commands app w s None cs) s None c
    one_later w [] c = refl
    one_later w (d ∷ cs) c = one_later (command app w s None d) cs c

    writes_model : (w : State K) (cs : List (Command K)) (es : List (ℕ × K.Value)) → model_of (commands app w s None (commands_with cs es)) ≡ written (model_of (commands app w s None cs)) es
    writes_model w cs [] = refl
    writes_model w cs (e ∷ es) =
        writes_model w (cs ++ Write e.0 e.1 ∷ []) es
        ∙ ap (λ (m : Model K). written m es)
        (ap (λ (x : State K). model_of x) (one_later w cs (Write e.0 e.1)) ∙ write_model (commands app w s None cs) e.0 e.1)

    writes_next : (w : State K) (cs : List (Command K)) (es : List (ℕ × K.Value)) → (commands app w s None (commands_with cs es)).next ≡ (commands app w s None cs).next
    writes_next w cs [] = refl
    writes_next w cs (e ∷ es) =
        let u : State K = commands app w s None cs in
        writes_next w (cs ++ Write e.0 e.1 ∷ []) es
        ∙ ap (λ (x : State K). x.next) (one_later w cs (Write e.0 e.1))
        ∙ write_next u e.0 e.1 (at u.cells e.0)

  -- what a listener's program comes to

  abbrev listening : Firsts → List Source → List (Command K) → Call K
  listening next xs cs = record (begun false next) { aside = xs; commands = cs }

  noted_once : (next : Firsts) (xs : List Source) (n : ℕ) (b : Bool)
      → (if b then noted (listening next xs []) (Cell n) else listening next xs []) ≡ listening next (if b then Cell n ∷ xs else xs) []
  noted_once next xs n true = refl
  noted_once next xs n false = refl

  read-all : (w : World K) (next : Firsts) (xs : List Source) (ns : List ℕ)
      → came w (all_read ns) (listening next xs []) ≡ reached (map (read_value w (begun false next)) ns) (listening next (aside_with next.cells xs ns) [])
  read-all w next xs [] = at_done w [] (listening next xs [])
  read-all w next xs (n ∷ ns) =
      let c : Call K = listening next xs [] in
      let ys : List Source = if nat_lt n next.cells then Cell n ∷ xs else xs in
      let v : Option K.Value = read_value w (begun false next) n in
      at_read w n (λ v. go_on (all_read ns) (λ vs. done (v ∷ vs))) c
      ∙ ap (λ (d : Call K). came w (go_on (all_read ns) (λ vs. done (v ∷ vs))) d) (noted_once next xs n (nat_lt n next.cells))
      ∙ on w (all_read ns) (λ vs. done (v ∷ vs)) (listening next ys [])
      ∙ ap (λ (x : Came K (List (Option K.Value))). came w (done (v ∷ x.answer)) x.call) (read-all w next ys ns)
      ∙ at_done w (v ∷ map (read_value w (begun false next)) ns) (listening next (aside_with next.cells ys ns) [])

  write-all : (w : World K) (next : Firsts) (xs : List Source) (cs : List (Command K)) (es : List (ℕ × K.Value))
      → came w (all_written es) (listening next xs cs) ≡ reached nothing (listening next xs (commands_with cs es))
  write-all w next xs cs [] = at_done w nothing (listening next xs cs)
  write-all w next xs cs (e ∷ es) = at_write w e.0 e.1 (all_written es) (listening next xs cs) ∙ write-all w next xs (cs ++ Write e.0 e.1 ∷ []) es

  abbrev pub reply_reads : World K → Reply K → List (Option K.Value)
  reply_reads w r = map (read_value w (begun false w.given.next)) r.reads

  abbrev reply_meaning : World K → Reply K → Meaning K (Event K)
  reply_meaning w r =
      record {
        answer = r.leaves;
        reads = [];
        aside = aside_with w.given.next.cells [] r.reads;
        commands = commands_with [] (r.writes (reply_reads w r));
        next = w.given.next;
        fault = None;
      }

  pub reply_means : (w : World K) (r : Reply K) → call_means (reply_call r) w ≡ reply_meaning w r
  reply_means w r =
      let next : Firsts = w.given.next in
      let c : Call K = begun false next in
      let xs : List Source = aside_with next.cells [] r.reads in
      let vs : List (Option K.Value) = reply_reads w r in
      exec-came w (reply_call r) c
      ∙ ap (λ (y : Came K (Event K)). ended y.call y.answer)
      (
      on w (all_read r.reads) (λ vs. go_on (all_written (r.writes vs)) (λ _. done r.leaves)) c
      ∙ ap (λ (x : Came K (List (Option K.Value))). came w (go_on (all_written (r.writes x.answer)) (λ _. done r.leaves)) x.call) (read-all w next [] r.reads)
      ∙ on w (all_written (r.writes vs)) (λ _. done r.leaves) (listening next xs [])
      ∙ ap (λ (x : Came K Nothing). came w (done r.leaves) x.call) (write-all w next xs [] (r.writes vs))
      ∙ at_done w r.leaves (listening next xs (commands_with [] (r.writes vs)))
      )

  -- what it reads is what the model has
  reads_are : (w : State K) (s : ℕ) (ns : List ℕ) → map (read_value (world_of w s None false) (begun false w.next)) ns ≡ map (read_in (model_of w) w.next.cells) ns
  reads_are w s [] = refl
  reads_are w s (n ∷ ns) =
      λ i. as_value (nat_lt n w.next.cells) (elim (at w.cells n) as (λ z. Option K.Value) [ None ↦ None | Some d ↦ Some d.value ]) (at (model_of w) n) (sym (at_values w.cells n)) i
      ∷ reads_are w s ns i

  -- a look that follows leaves the model
  pub quiet_model : (m : Machine K) (ls : List (Listener K)) → model_of (looked_where_quiet m ls).state ≡ model_of m.state
  quiet_model m [] = ap (λ (es : List (ℕ × CellRow K)). values_in es) (look_same m.state).cells
  quiet_model m (l ∷ ls) = refl

  pub quiet_event : (m : Machine K) (ls : List (Listener K)) → (looked_where_quiet m ls).event ≡ m.event
  quiet_event m [] = refl
  quiet_event m (l ∷ ls) = refl

  pub quiet_listeners : (m : Machine K) (ls : List (Listener K)) → (looked_where_quiet m ls).listeners ≡ m.listeners
  quiet_listeners m [] = refl
  quiet_listeners m (l ∷ ls) = refl

  pub quiet_rest : (m : Machine K) (ls : List (Listener K))
      → ((looked_where_quiet m ls).dead ≡ m.dead) × ((looked_where_quiet m ls).work ≡ m.work) × ((looked_where_quiet m ls).unit ≡ m.unit) × ((looked_where_quiet m ls).bubbles ≡ m.bubbles) × ((looked_where_quiet m ls).built ≡ m.built)
  quiet_rest m [] = (refl, refl, refl, refl, refl)
  quiet_rest m (l ∷ ls) = (refl, refl, refl, refl, refl)

  quiet_scopes : (m : Machine K) (ls : List (Listener K)) → ((looked_where_quiet m ls).state).scopes ≡ (m.state).scopes
  quiet_scopes m [] = (look_same m.state).scopes
  quiet_scopes m (l ∷ ls) = refl

  write_scopes : (w : State K) (n : ℕ) (v : K.Value) (o : Option (CellRow K)) → (written_at w n v o).scopes ≡ w.scopes
  write_scopes w n v None = refl
  write_scopes w n v (Some old) =
      let u : State K = record w { cells = put w.cells n (record old { value = v }) } in (tell_same u (Cell n)).scopes

  writes_scopes : (app : Application K) (s : ℕ) (w : State K) (cs : List (Command K)) (es : List (ℕ × K.Value)) → (commands app w s None (commands_with cs es)).scopes ≡ (commands app w s None cs).scopes
  writes_scopes app s w cs [] = refl
  writes_scopes app s w cs (e ∷ es) =
      let u : State K = commands app w s None cs in
      writes_scopes app s w (cs ++ Write e.0 e.1 ∷ []) es
      ∙ ap (λ (x : State K). x.scopes) (one_later app s w cs (Write e.0 e.1))
      ∙ write_scopes u e.0 e.1 (at u.cells e.0)

  -- where nothing is at work, what settles is as it is
  drawn_none : (x : Machine K) → x.work ≡ [] → draws x.work x ≡ x
  drawn_none x idle = ap (λ (items : List (Item K)). draws items x) idle ∙ ap (λ (items : List (Item K)). record x { work = items }) (sym idle)

  pub settled_none : (app : Application K) (x : Machine K) → x.dead ≡ None → x.work ≡ [] → x.unit ≡ false → settled app x ≡ x
  settled_none app x alive idle no_unit =
      let served_is : served app (rows_left x.work) x ≡ x =
      ap (λ (items : List (Item K)). served app (rows_left items) x) idle
      ∙ ap (λ (o : Option Fault). elim o as (λ z. Machine K) [ None ↦ draws x.work x | Some fault ↦ x ]) alive
      ∙ drawn_none x idle in
      ap (λ (y : Machine K). closed y) served_is
      ∙ ap (λ (o : Option Fault). elim o as (λ z. Machine K) [ None ↦ closed_at x x.work x.unit | Some fault ↦ x ]) alive
      ∙ ap (λ (items : List (Item K)). closed_at x items x.unit) idle
      ∙ ap (λ (b : Bool). closed_at x [] b) no_unit

  quiet_next : (m : Machine K) (ls : List (Listener K)) → ((looked_where_quiet m ls).state).next ≡ (m.state).next
  quiet_next m [] = (look_same m.state).next
  quiet_next m (l ∷ ls) = refl

  -- a body that asked for nothing
  abbrev Asked : Firsts → Call K → Type 0
  Asked next c = (c.commands ≡ []) × (c.next ≡ next) × (c.fault ≡ None) × (c.into ≡ []) × (c.in_body ≡ true)

  noted_plain : (c : Call K) (x : Source) → c.into ≡ [] → c.in_body ≡ true → noted c x ≡ record c { reads = x ∷ c.reads }
  noted_plain c x h g = λ i. noted_at c x (h i) (g i)

  either_call : (P : Call K → Type 0) (b : Bool) (c d : Call K) → P d → P c → P (if b then d else c)
  either_call P true c d h k = h
  either_call P false c d h k = k

  asked_read : (next : Firsts) (c : Call K) (n : ℕ) → Asked next c → Asked next (read_call c n)
  asked_read next c n h =
      either_call (λ d. Asked next d) (nat_lt n c.next.cells) c (noted c (Cell n))
      (subst (λ (d : Call K). Asked next d) (sym (noted_plain c (Cell n) h.3 h.4)) (h.0, h.1, h.2, h.3, h.4))
      h

  asked_reads : (next : Firsts) (c : Call K) (ns : List ℕ) → Asked next c → Asked next (after_reads c ns)
  asked_reads next c [] h = h
  asked_reads next c (n ∷ ns) h = asked_reads next (read_call c n) ns (asked_read next c n h)

  asked_hooks : (next : Firsts) (c : Call K) (ns : List ℕ) → Asked next c → Asked next (after_hooks c ns)
  asked_hooks next c [] h = h
  asked_hooks next c (n ∷ ns) h = asked_hooks next (past_hook c) ns (h.0, h.1, h.2, h.3, h.4)

pub listeners_update : (K : Types) → ListenersUpdate K
listeners_update K k a m l ls e =
    let app : Application K = meaning_of_pages k a in
    let w : State K = m.state in
    let world : World K = world_of w l.origin None false in
    let r : Reply K = a.reply l.handler e in
    let n : State K = with_next (called_once w) w.next in
    let ws : List (ℕ × K.Value) = r.writes (reply_reads world r) in
    let begins : Machine K = record m { state = called_once w } in
    let quiet : Machine K = record m {
      state = commands app n l.origin None (commands_with [] ws);
      event = Some r.leaves;
      default_enabled = not r.leaves.prevented;
      listeners = further app begins r.leaves ls;
    } in
    let is : heard_event app m l ls (Some e) ≡ looked_where_quiet quiet (waiting quiet) = ap (λ (x : Meaning K (Event K)). heard_by app begins l ls x) (reply_means world r) in
    record {
      model =
          ap (λ (v : Machine K). model_of v.state) is
          ∙ quiet_model quiet (waiting quiet)
          ∙ writes_model app l.origin n [] ws
          ∙ ap (λ (vs : List (Option K.Value)). written (model_of w) (r.writes vs)) (reads_are w l.origin r.reads);
      next = ap (λ (v : Machine K). (v.state).next) is ∙ quiet_next quiet (waiting quiet) ∙ writes_next app l.origin n [] ws;
      event = ap (λ (v : Machine K). v.event) is ∙ quiet_event quiet (waiting quiet);
      listeners = ap (λ (v : Machine K). v.listeners) is ∙ quiet_listeners quiet (waiting quiet);
      scopes = ap (λ (v : Machine K). (v.state).scopes) is ∙ quiet_scopes quiet (waiting quiet) ∙ writes_scopes app l.origin n [] ws;
      rest =
          (
          let q = quiet_rest quiet (waiting quiet) in
          (ap (λ (v : Machine K). v.dead) is ∙ q.0, ap (λ (v : Machine K). v.work) is ∙ q.1, ap (λ (v : Machine K). v.unit) is ∙ q.2, ap (λ (v : Machine K). v.bubbles) is ∙ q.3, ap (λ (v : Machine K). v.built) is ∙ q.4)
          );
    }

-- the entry of a listener's call leaves what the call leaves, where nothing else is at work and the call leaves it so
pub entry_is : {K : Types} (app : Application K) (m : Machine K) (l : Listener K) (ls : List (Listener K)) (e : Event K)
    → m.work ≡ []
    → m.event ≡ Some e
    → waiting m ≡ l ∷ ls
    → (heard_event app m l ls (Some e)).dead ≡ None
    → (heard_event app m l ls (Some e)).work ≡ []
    → (heard_event app m l ls (Some e)).unit ≡ false
    → step app m (Heard l.origin) ≡ heard_event app m l ls (Some e)
entry_is {K = K} app m l ls e idle event waits alive no_work no_unit =
    let x : Machine K = heard_event app m l ls (Some e) in
    let changed : change_by app m m.work (Heard l.origin) ≡ x =
    ap (λ (items : List (Item K)). change_by app m items (Heard l.origin)) idle
    ∙ ap (λ (ns : List (Listener K)). heard_first app m ns) waits
    ∙ ap (λ (o : Option (Event K)). heard_event app m l ls o) event in
    ap (λ (y : Machine K). settled app y) changed ∙ settled_none app x alive no_work no_unit

-- so it is of pages
pub heard_entry_is : {K : Types} (k : Keeping K.Value) (a : Pages K) (m : Machine K) (l : Listener K) (ls : List (Listener K)) (e : Event K)
    → m.dead ≡ None
    → m.work ≡ []
    → m.unit ≡ false
    → m.event ≡ Some e
    → waiting m ≡ l ∷ ls
    → step (meaning_of_pages k a) m (Heard l.origin) ≡ heard_event (meaning_of_pages k a) m l ls (Some e)
heard_entry_is {K = K} k a m l ls e alive idle no_unit event waits =
    let app : Application K = meaning_of_pages k a in
    let now : Updated a m l ls e (heard_event app m l ls (Some e)) = listeners_update K k a m l ls e in
    entry_is app m l ls e idle event waits (now.rest.0 ∙ alive) (now.rest.1 ∙ idle) (now.rest.2 ∙ no_unit)

pub heard_entries_update : (K : Types) → HeardEntriesUpdate K
heard_entries_update K k a m l ls e alive idle no_unit event waits =
    subst (λ (y : Machine K). Updated a m l ls e y) (sym (heard_entry_is k a m l ls e alive idle no_unit event waits)) (listeners_update K k a m l ls e)

pub kept_pages_ask_nothing : (K : Types) → KeptPagesAskNothing K
kept_pages_ask_nothing K k page w own h same =
    let c : Call K = begun true w.given.next in
    let end : Call K = after_reads (after_hooks c own) (page.reads own) in
    let asked : Asked w.given.next end = asked_reads w.given.next (after_hooks c own) (page.reads own) (asked_hooks w.given.next c own (refl, refl, refl, refl, refl)) in
    let means : body_means (page_body k page) w ≡ _ = exec-came w (page_body k page) c ∙ ap (λ (y : Came K (Element K)). ended y.call y.answer) (page-comes k page w c own h same) in
    record {
      commands = ap (λ (y : Meaning K (Element K)). y.commands) means ∙ asked.0;
      next = ap (λ (y : Meaning K (Element K)). y.next) means ∙ asked.1;
      fault = ap (λ (y : Meaning K (Element K)). y.fault) means ∙ asked.2;
    }
