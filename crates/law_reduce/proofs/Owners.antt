-- Writes leave who owns each cell, and so does a listener's call.
use Rattle.std.proofs.Common.{ℕ, Bool, true, false, not, List, [], ◌∷◌, ◌++◌, ◌≡◌, refl, sym, ap, ◌∙◌, nat_eq}
use Rattle.std.proofs.lemmas.Bool.{eqb-true}
use Rattle.std.specs.Prelude.{Option, Some, None, if◌then◌else◌}
use Rattle.rt_model.specs.Lists.{at, put}
use Rattle.rt_model.specs.Tree.{Types}
use Rattle.rt_model.specs.World.{Cell, Event, Command, Write, World, Meaning, Application}
use Rattle.rt_model.specs.State.{CellRow, State, world_of}
use Rattle.rt_model.specs.Commands.{written_at, write_cell, commands}
use Rattle.rt_model.specs.Run.{with_next, called_once}
use Rattle.rt_model.specs.Heard.{Listener}
use Rattle.rt_model.specs.Replay.{Machine, waiting, looked_where_quiet, further, heard_by, heard_event}
use Rattle.rt_model.proofs.Maps.{by_test, pick_true, pick_false, at_here, at_there}
use Rattle.author_programs.specs.Cells.{Keeping}
use Rattle.author_programs.specs.Pages.{Pages, meaning_of_pages}
use Rattle.law_lasting.proofs.Told.{tell_same, look_same}
use Rattle.law_pages.proofs.Listening.{commands_with, one_later, reply_reads, reply_means}
use Rattle.law_reduce.specs.Elm.{Owned}

module _ {K : Types} where
  -- the owner of each cell, by its number
  abbrev pub owners_in : List (ℕ × CellRow K) → List (ℕ × ℕ)
  owners_in [] = []
  owners_in (e ∷ es) = (e.0, (e.1).owner) ∷ owners_in es

  abbrev pub owners_of : State K → List (ℕ × ℕ)
  owners_of w = owners_in w.cells

  -- the owner in a row that was found
  abbrev owner_in : Option (CellRow K) → Option ℕ
  owner_in o = elim o [ None ↦ None | Some d ↦ Some d.owner ]

  owner_head : (b : Bool) (c : CellRow K) (o : Option (CellRow K)) (p : Option ℕ) → p ≡ owner_in o → (if b then Some c.owner else p) ≡ owner_in (if b then Some c else o)
  owner_head true c o p h = refl
  owner_head false c o p h = h

  at_owners : (es : List (ℕ × CellRow K)) (n : ℕ) → at (owners_in es) n ≡ owner_in (at es n)
  at_owners [] n = refl
  at_owners (e ∷ es) n = owner_head (nat_eq e.0 n) e.1 (at es n) (at (owners_in es) n) (at_owners es n)

  -- where the owners are as they were each cell is still there
  pub still_owned : (w v : State K) (n : ℕ) (row : CellRow K) → owners_of v ≡ owners_of w → at w.cells n ≡ Some row → Owned v n row.owner
  still_owned w v n row same h = on (at v.cells n) refl
    where
      found : owner_in (at v.cells n) ≡ Some row.owner
      found =
          sym (at_owners v.cells n)
          ∙ ap (λ (os : List (ℕ × ℕ)). at os n) same
          ∙ at_owners w.cells n
          ∙ ap (λ (o : Option (CellRow K)). owner_in o) h

      on : (o : Option (CellRow K)) → at v.cells n ≡ o → Owned v n row.owner
      on None e =
          let absurdity : None ≡ Some row.owner = sym (ap (λ (o : Option (CellRow K)). owner_in o) e) ∙ found in
          cc
      on (Some r) e =
          let is : Some r.owner ≡ Some row.owner = sym (ap (λ (o : Option (CellRow K)). owner_in o) e) ∙ found in
          let same_owner : r.owner ≡ row.owner = cc in
          record { row = r; there = e; owner_is = same_owner }

  -- another value
  put_owners : (es : List (ℕ × CellRow K)) (n : ℕ) (v : K.Value) (old : CellRow K) → at es n ≡ Some old → owners_in (put es n (record old { value = v })) ≡ owners_in es
  put_owners [] n v old h = cc
  put_owners (e ∷ es) n v old h =
      let x : CellRow K = record old { value = v } in
      by_test (nat_eq e.0 n)
      (
      λ q.
      let found : Some e.1 ≡ Some old = sym (at_here e.0 e.1 es n q) ∙ h in
      let same : e.1 ≡ old = cc in
      ap (λ (ds : List (ℕ × CellRow K)). owners_in ds) (pick_true ((n, x) ∷ es) (e ∷ put es n x) q)
      ∙ ap (λ (m : ℕ). (m, old.owner) ∷ owners_in es) (sym (eqb-true e.0 n q))
      ∙ ap (λ (r : CellRow K). (e.0, r.owner) ∷ owners_in es) (sym same)
      )
      (
      λ q.
      ap (λ (ds : List (ℕ × CellRow K)). owners_in ds) (pick_false ((n, x) ∷ es) (e ∷ put es n x) q)
      ∙ ap (λ (os : List (ℕ × ℕ)). (e.0, (e.1).owner) ∷ os) (put_owners es n v old (sym (at_there e.0 e.1 es n q) ∙ h))
      )

  written_owners : (w : State K) (n : ℕ) (v : K.Value) (o : Option (CellRow K)) → at w.cells n ≡ o → owners_of (written_at w n v o) ≡ owners_of w
  written_owners w n v None e = refl
  written_owners w n v (Some old) e =
      let u : State K = record w { cells = put w.cells n (record old { value = v }) } in
      ap (λ (es : List (ℕ × CellRow K)). owners_in es) (tell_same u (Cell n)).cells ∙ put_owners w.cells n v old e

  pub write_owners : (w : State K) (n : ℕ) (v : K.Value) → owners_of (write_cell w n v) ≡ owners_of w
  write_owners w n v = written_owners w n v (at w.cells n) refl

  writes_owners : (app : Application K) (s : ℕ) (w : State K) (cs : List (Command K)) (es : List (ℕ × K.Value)) → owners_of (commands app w s None (commands_with cs es)) ≡ owners_of (commands app w s None cs)
  writes_owners app s w cs [] = refl
  writes_owners app s w cs (e ∷ es) =
      writes_owners app s w (cs ++ Write e.0 e.1 ∷ []) es
      ∙ ap (λ (x : State K). owners_of x) (one_later app s w cs (Write e.0 e.1))
      ∙ write_owners (commands app w s None cs) e.0 e.1

  -- a look
  pub looked_owners : (m : Machine K) (ls : List (Listener K)) → owners_of (looked_where_quiet m ls).state ≡ owners_of m.state
  looked_owners m [] = ap (λ (es : List (ℕ × CellRow K)). owners_in es) (look_same m.state).cells
  looked_owners m (l ∷ ls) = refl

  pub looked_inputs : (m : Machine K) (ls : List (Listener K)) → (looked_where_quiet m ls).inputs ≡ m.inputs
  looked_inputs m [] = refl
  looked_inputs m (l ∷ ls) = refl

  module _ (k : Keeping K.Value) (a : Pages K) where
    -- what a listener's call leaves, before the look
    abbrev pub called_on : Machine K → Listener K → List (Listener K) → Event K → Machine K
    called_on m l ls e =
        let app : Application K = meaning_of_pages k a in
        let world : World K = world_of m.state l.origin None false in
        record m {
          state = commands app (with_next (called_once m.state) m.state.next) l.origin None (commands_with [] ((a.reply l.handler e).writes (reply_reads world (a.reply l.handler e))));
          event = Some (a.reply l.handler e).leaves;
          default_enabled = not (a.reply l.handler e).leaves.prevented;
          listeners = further app (record m { state = called_once m.state }) (a.reply l.handler e).leaves ls;
        }

    pub heard_is : (m : Machine K) (l : Listener K) (ls : List (Listener K)) (e : Event K)
        → heard_event (meaning_of_pages k a) m l ls (Some e) ≡ looked_where_quiet (called_on m l ls e) (waiting (called_on m l ls e))
    heard_is m l ls e =
        ap (λ (x : Meaning K (Event K)). heard_by (meaning_of_pages k a) (record m { state = called_once m.state }) l ls x)
        (reply_means (world_of m.state l.origin None false) (a.reply l.handler e))

    pub heard_owners : (m : Machine K) (l : Listener K) (ls : List (Listener K)) (e : Event K) → owners_of (heard_event (meaning_of_pages k a) m l ls (Some e)).state ≡ owners_of m.state
    heard_owners m l ls e =
        let world : World K = world_of m.state l.origin None false in
        ap (λ (x : Machine K). owners_of x.state) (heard_is m l ls e)
        ∙ looked_owners (called_on m l ls e) (waiting (called_on m l ls e))
        ∙ writes_owners (meaning_of_pages k a) l.origin (with_next (called_once m.state) m.state.next) [] ((a.reply l.handler e).writes (reply_reads world (a.reply l.handler e)))

    pub heard_inputs : (m : Machine K) (l : Listener K) (ls : List (Listener K)) (e : Event K) → (heard_event (meaning_of_pages k a) m l ls (Some e)).inputs ≡ m.inputs
    heard_inputs m l ls e = ap (λ (x : Machine K). x.inputs) (heard_is m l ls e) ∙ looked_inputs (called_on m l ls e) (waiting (called_on m l ls e))
