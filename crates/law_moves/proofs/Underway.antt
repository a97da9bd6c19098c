-- A report goes on, within a unit and to its end, or to a refusal.
use Rattle.std.proofs.Common.{true, false, List, [], ◌∷◌, ◌++◌, ◌≡◌, refl, sym, ap, ◌∙◌, subst, append_assoc}
use Rattle.std.specs.Prelude.{Some}
use Rattle.rt_model.specs.Tree.{Types}
use Rattle.rt_model.specs.World.{Application}
use Rattle.rt_model.specs.State.{Fault, State, Item}
use Rattle.rt_model.specs.Replay.{Entry, Input, Machine, mounted_state}
use Rattle.rt_model.specs.Document.{Edit}
use Rattle.rt_model.specs.Caused.{caused, caused_until}
use Rattle.rt_model.specs.Causes.{Limits, refusal}
use Rattle.rt_model.specs.Told.{Telling}
use Rattle.law_moves.proofs.Ways.{reached_moved}
use Rattle.law_moves.specs.Moves.{Move, Closed, entries, Inside, busy, IsSettled, AtWork, IsClosed, Leads}
use Rattle.law_moves.specs.Words.{Goes}
use Rattle.law_moves.specs.Reached.{Reached}
use Rattle.law_moves.specs.Units.{ended_unit, with_unit, refused_item, unit_told}
use Rattle.law_moves.specs.Reports.{ToldSo}
use Rattle.law_moves.proofs.Joins.{still_at_work, goes_on}
use Rattle.law_moves.proofs.Reports.{reports_go_on}
use Rattle.law_moves.proofs.Tellings.{told_machine}
use Rattle.law_moves.specs.Underway.{Rests, Works, Refused}

module _ {K : Types} (app : Application K) (limits : Limits) where
  -- moves, and the log that they leave after another one
  pub goes_by : (m v : Machine K) (log : List Entry) (moves : List Move) → Leads app limits m moves v → Inside moves → Goes app limits m log (log ++ entries moves) v
  goes_by m v log moves leads inside = record { moves = moves; leads = leads; inside = inside; logged = refl }

  -- what was logged from nothing on is logged after any log
  pub goes_after : (m v : Machine K) (log es : List Entry) → Goes app limits m [] es v → Goes app limits m log (log ++ es) v
  goes_after m v log es g =
      record { moves = g.moves; leads = g.leads; inside = g.inside; logged = ap (λ (l : List Entry). log ++ l) g.logged }

module _ {K : Types} (app : Application K) (limits : Limits) (props : K.Props) (inputs : List (Input K)) where
  -- moves lead on
  pub reached_by : (m v : Machine K) (moves : List Move) → Reached app limits props inputs m → Leads app limits m moves v → Reached app limits props inputs v
  reached_by m v moves r leads = reached_moved app limits props inputs m v moves r leads

  -- by other names of the log and of what is told
  pub told_as : (from : Machine K) (log more : List Entry) (t u : Telling K) → ToldSo app limits from log t → log ≡ more → t ≡ u → ToldSo app limits from more u
  told_as from log more t u so same_log same =
      subst (λ (x : Telling K). ToldSo app limits from more x) same (subst (λ (l : List Entry). ToldSo app limits from l t) same_log so)

  -- a unit is at work
  pub works_now : (from m : Machine K) (log : List Entry) (edits : List Edit) (w : State K) (first : Entry)
      → Works app limits props inputs from log edits w first m
      → AtWork m
  works_now from m log edits w first s =
      subst (λ (x : Machine K). AtWork x) (sym s.same) (still_at_work s.begun m.state m.work s.at_work)

  -- work is served in the midst of a unit
  pub works_on : (from m : Machine K) (log es : List Entry) (edits : List Edit) (w : State K) (first : Entry) (v : State K) (work : List (Item K))
      → Works app limits props inputs from log edits w first m
      → Goes app limits m [] es (busy m v work)
      → Works app limits props inputs from (log ++ es) edits w first (busy m v work)
  works_on from m log es edits w first v work s goes =
      let u : Machine K = busy m v work in
      record {
        told = s.told;
        earlier = s.earlier;
        so = s.so;
        edits_are = s.edits_are;
        before = s.before;
        begun = s.begun;
        opening = s.opening;
        logged = s.logged;
        at_work = s.at_work;
        more = s.more ++ es;
        goes = goes_on app limits s.begun m u [] s.more (s.more ++ es) s.goes (goes_after app limits m u s.more es goes);
        log_is = ap (λ (l : List Entry). l ++ es) s.log_is ∙ append_assoc s.earlier (first ∷ s.more) es;
        same = ap (λ (x : Machine K). busy x v work) s.same;
        reached = reached_by m u goes.moves s.reached goes.leads;
      }

  -- the unit ends
  pub works_close : (from m : Machine K) (log : List Entry) (edits : List Edit) (w : State K) (first : Entry)
      → Works app limits props inputs from log edits w first m
      → m.work ≡ []
      → Rests app limits props inputs from log (edits ++ caused app w (mounted_state m.state) first) (record m { unit = false; state = mounted_state m.state })
  works_close from m log edits w first s idle =
      let t : Telling K = s.told in
      let u : Machine K = s.begun in
      let done : Machine K = busy u m.state [] in
      let end : Machine K = ended_unit u m.state in
      let ends : Machine K = record m { unit = false; state = mounted_state m.state } in
      let now : AtWork m = works_now from m log edits w first s in
      let closes : IsClosed m ends = record { alive = now.alive; idle = idle; at_work = now.unit; gives = refl } in
      let is_done : m ≡ done = s.same ∙ ap (λ (items : List (Item K)). busy u m.state items) idle in
      let goes : Goes app limits u [] s.more done = subst (λ (x : Machine K). Goes app limits u [] s.more x) is_done s.goes in
      let is_end : end ≡ ends = ap (λ (x : Machine K). record x { unit = false; state = mounted_state m.state }) (sym is_done) in
      let wrote : List Edit = caused app t.machine.state (mounted_state m.state) first in
      let so = (reports_go_on app).2 limits from u m.state s.earlier s.more t first s.so s.opening s.logged s.at_work goes in
      let same : t.edits ++ wrote ≡ edits ++ caused app w (mounted_state m.state) first =
      ap (λ (es : List Edit). es ++ wrote) s.edits_are ∙ ap (λ (x : State K). edits ++ caused app x (mounted_state m.state) first) s.before in
      record {
        before = t.machine.state;
        first = first;
        so =
            told_as from (s.earlier ++ first ∷ s.more) log (with_unit t first end wrote)
            (record { machine = ends; before = t.machine.state; first = first; edits = edits ++ caused app w (mounted_state m.state) first })
            so (sym s.log_is)
            (ap (λ (x : Machine K). with_unit t first x wrote) is_end
            ∙ ap (λ (es : List Edit). record { machine = ends; before = t.machine.state; first = first; edits = es }) same);
        rest = record { alive = now.alive; idle = idle; unit = refl };
        built = now.built;
        reached = reached_by m ends (Closed ∷ []) s.reached (ends, closes, refl);
      }

  -- a refusal ends it
  pub works_stop : (from m v : Machine K) (log es : List Entry) (edits : List Edit) (w : State K) (first : Entry) (fault : Fault)
      → Works app limits props inputs from log edits w first m
      → Goes app limits m [] es v
      → IsSettled v
      → refusal limits v ≡ Some fault
      → Refused app limits props inputs from (log ++ es) (edits ++ caused_until app w v.state (refused_item v) first) fault
  works_stop from m v log es edits w first fault s goes settled refused =
      let t : Telling K = s.told in
      let u : Machine K = s.begun in
      let more : List Entry = s.more ++ es in
      let all : Goes app limits u [] more v = goes_on app limits u m v [] s.more more s.goes (goes_after app limits m v s.more es goes) in
      let both = (reports_go_on app).3 limits from u v s.earlier more fault t first s.so s.opening s.logged s.at_work.unit all settled refused in
      let last : Telling K = unit_told app t first v in
      let machine : last.machine ≡ v = told_machine app limits (record t { before = t.machine.state; first = first }) true v in
      record {
        last = last;
        so =
            told_as from (s.earlier ++ first ∷ more) (log ++ es) last last both.0
            (sym (append_assoc s.earlier (first ∷ s.more) es) ∙ ap (λ (l : List Entry). l ++ es) (sym s.log_is)) refl;
        cause = ap (λ (x : Machine K). refusal limits x) machine ∙ refused;
        edits_are =
            both.1
            ∙ ap (λ (x : List Edit). x ++ caused_until app t.machine.state v.state (refused_item v) first) s.edits_are
            ∙ ap (λ (x : State K). edits ++ caused_until app x v.state (refused_item v) first) s.before;
      }
