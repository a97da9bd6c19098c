-- The entry of a listener's call does the call's commands, and a write among them stays.
use Rattle.std.proofs.Common.{ℕ, not, List, [], ◌∷◌, ◌++◌, ◌≡◌, refl, ap, ◌∙◌}
use Rattle.std.specs.Prelude.{Option, Some, None}
use Rattle.rt_model.specs.Lists.{at, put}
use Rattle.rt_model.specs.Tree.{Types}
use Rattle.rt_model.specs.World.{Application, CallFault, Cell, Command, Event, Meaning, Write}
use Rattle.rt_model.specs.State.{CellRow, State}
use Rattle.rt_model.specs.Commands.{command, commands, write_cell, written_at}
use Rattle.rt_model.specs.Run.{called_once, fault_of, with_next}
use Rattle.rt_model.specs.Heard.{Listener}
use Rattle.rt_model.specs.Replay.{Heard, Machine, further, heard_by, heard_event, looked_where_quiet, step, waiting}
use Rattle.rt_model.proofs.Maps.{at_put_here, eq_same}
use Rattle.law_lasting.specs.CellsLast.{AllLeave}
use Rattle.law_lasting.proofs.Celled.{cells_stay}
use Rattle.law_lasting.proofs.Told.{look_same, tell_same}
use Rattle.law_pages.specs.Writes.{HeardEntriesWrite, call_heard}
use Rattle.law_pages.proofs.Listening.{entry_is, quiet_rest}

module _ {K : Types} where
  -- a write of a cell that is there
  write_there : (w : State K) (n : ℕ) (v : K.Value) (row : CellRow K)
      → at w.cells n ≡ Some row
      → at (write_cell w n v).cells n ≡ Some (record row { value = v })
  write_there w n v row there =
      let new : CellRow K = record row { value = v } in
      let u : State K = record w { cells = put w.cells n new } in
      ap (λ (o : Option (CellRow K)). at (written_at w n v o).cells n) there
      ∙ ap (λ (es : List (ℕ × CellRow K)). at es n) (tell_same u (Cell n)).cells
      ∙ at_put_here w.cells n new n (eq_same n)

  -- a look leaves the cells
  quiet_cells : (m : Machine K) (ls : List (Listener K)) → ((looked_where_quiet m ls).state).cells ≡ (m.state).cells
  quiet_cells m [] = (look_same m.state).cells
  quiet_cells m (l ∷ ls) = refl

  module _ (app : Application K) where
    -- commands, and then more of them
    then_more : (w : State K) (s : ℕ) (cs ds : List (Command K))
        → commands app w s None (cs ++ ds) ≡ commands app (commands app w s None cs) s None ds
    then_more w s [] ds = refl
    then_more w s (c ∷ cs) ds = then_more (command app w s None c) s cs ds

    -- one write among commands that leave the cell
    writes_stay : (w : State K) (s n : ℕ) (v : K.Value) (before after : List (Command K)) (row : CellRow K)
        → AllLeave n before
        → AllLeave n after
        → at w.cells n ≡ Some row
        → at (commands app w s None (before ++ Write n v ∷ after)).cells n ≡ Some (record row { value = v })
    writes_stay w s n v before after row first last there =
        let u : State K = commands app w s None before in
        let new : CellRow K = record row { value = v } in
        ap (λ (x : State K). at x.cells n) (then_more w s before (Write n v ∷ after))
        ∙ cells_stay app (write_cell u n v) s None after n new last
        (write_there u n v row (cells_stay app w s None before n row first there))

    -- what a call leaves that meets no fault, but for the look
    abbrev done_by : Machine K → Listener K → List (Listener K) → Meaning K (Event K) → Machine K
    done_by m l ls meaning =
        record m {
          state = commands app (with_next m.state meaning.next) l.origin None meaning.commands;
          event = Some meaning.answer;
          default_enabled = not meaning.answer.prevented;
          listeners = further app m meaning.answer ls;
        }

    call_done : (m : Machine K) (l : Listener K) (ls : List (Listener K)) (meaning : Meaning K (Event K))
        → meaning.fault ≡ None
        → heard_by app m l ls meaning ≡ looked_where_quiet (done_by m l ls meaning) (waiting (done_by m l ls meaning))
    call_done m l ls meaning fine =
        let d : Machine K = done_by m l ls meaning in
        let stopped : CallFault → Machine K = λ f. record m { state = with_next m.state meaning.next; listeners = ls; dead = Some (fault_of f); refused = None } in
        ap (λ (o : Option CallFault). elim o as (λ z. Machine K) [ None ↦ looked_where_quiet d (waiting d) | Some f ↦ stopped f ]) fine

pub heard_entries_write : {K : Types} (app : Application K) → HeardEntriesWrite app
heard_entries_write {K = K} app m l ls e n v before after row alive idle no_unit event waits fine asks first last there =
    let begins : Machine K = record m { state = called_once m.state } in
    let meaning : Meaning K (Event K) = call_heard app m l e in
    let finds : State K = with_next begins.state meaning.next in
    let d : Machine K = done_by app begins l ls meaning in
    let q = quiet_rest d (waiting d) in
    let is : heard_event app m l ls (Some e) ≡ looked_where_quiet d (waiting d) = call_done app begins l ls meaning fine in
    let entry : step app m (Heard l.origin) ≡ heard_event app m l ls (Some e) =
    entry_is app m l ls e idle event waits
    (ap (λ (y : Machine K). y.dead) is ∙ q.0 ∙ alive)
    (ap (λ (y : Machine K). y.work) is ∙ q.1 ∙ idle)
    (ap (λ (y : Machine K). y.unit) is ∙ q.2 ∙ no_unit) in
    ap (λ (y : Machine K). at (y.state).cells n) (entry ∙ is)
    ∙ ap (λ (es : List (ℕ × CellRow K)). at es n) (quiet_cells d (waiting d))
    ∙ ap (λ (cs : List (Command K)). at (commands app finds l.origin None cs).cells n) asks
    ∙ writes_stay app finds l.origin n v before after row first last there
