-- The listeners of an event in turn: after them none is left, owners are as they were, and the values are what they make of them.
use Rattle.std.proofs.Common.{ℕ, Bool, true, List, [], ◌∷◌, ◌++◌, ◌≡◌, refl, sym, ap, ◌∙◌, subst}
use Rattle.std.specs.Prelude.{Option, Some, None, if◌then◌else◌}
use Rattle.rt_model.specs.Tree.{Types}
use Rattle.rt_model.specs.World.{Event, Application}
use Rattle.rt_model.specs.State.{Scope}
use Rattle.rt_model.specs.Heard.{Listener}
use Rattle.rt_model.specs.Replay.{Entry, Heard, Machine, if_live, waiting, due, is_due, step, accepts, heard_event, is_quiet, replay_on}
use Rattle.rt_model.specs.State.{is_live}
use Rattle.rt_model.proofs.Maps.{by_test, pick_true, pick_false}
use Rattle.rt_model.proofs.OneLogOnly.{fork}
use Rattle.law_moves.specs.Moves.{AtRest}
use Rattle.author_programs.specs.Cells.{Keeping}
use Rattle.author_programs.specs.Pages.{Pages, meaning_of_pages}
use Rattle.law_pages.specs.Updates.{Model, model_of, update, updates, Updated}
use Rattle.law_pages.proofs.Listening.{heard_entry_is, heard_entries_update}
use Rattle.law_pages.proofs.Hearing.{AllLive, all_wait, due_first, that_one, kept_live, stops, same_updates, waits_on, machine_is}
use Rattle.law_reduce.proofs.Owners.{owners_of, heard_owners, heard_inputs}
use Rattle.law_reduce.proofs.Minds.{Minds, minds_refl, minds_then, heard_minds}

module _ {K : Types} (k : Keeping K.Value) (a : Pages K) where
  abbrev app : Application K
  app = meaning_of_pages k a

  -- the entries of an event's listeners, and what comes after them
  pub record EventDone (m : Machine K) (ls : List (Listener K)) (e : Event K) (log : List Entry) (v : Machine K) : Type 0 where
    pub heards : List Entry
    pub rest : List Entry
    pub between : Machine K
    pub parts : log ≡ heards ++ rest
    pub hears : replay_on app (Some m) heards ≡ Some between
    pub goes_on : replay_on app (Some between) rest ≡ Some v
    pub model : model_of between.state ≡ updates a m.bubbles m.state.next.cells ls e (model_of m.state)
    pub owners : owners_of between.state ≡ owners_of m.state
    pub minds : Minds m.state between.state
    pub listeners : between.listeners ≡ []
    pub inputs : between.inputs ≡ m.inputs
    pub built : between.built ≡ true
    pub rests : AtRest between

  -- none is left
  done_none : (m : Machine K) (e : Event K) (log : List Entry) (v : Machine K) → m.built ≡ true → AtRest m → m.listeners ≡ [] → replay_on app (Some m) log ≡ Some v → EventDone m [] e log v
  done_none m e log v built rests none accepted =
      record {
        heards = [];
        rest = log;
        between = m;
        parts = refl;
        hears = refl;
        goes_on = accepted;
        model = refl;
        owners = refl;
        minds = minds_refl m.state;
        listeners = none;
        inputs = refl;
        built = built;
        rests = rests;
      }

  -- one more before them
  done_more : (m x v : Machine K) (ls others : List (Listener K)) (e left : Event K) (f : Entry) (fs : List Entry)
      → accepts app m f ≡ Some x
      → owners_of x.state ≡ owners_of m.state
      → Minds m.state x.state
      → x.inputs ≡ m.inputs
      → updates a x.bubbles x.state.next.cells others left (model_of x.state) ≡ updates a m.bubbles m.state.next.cells ls e (model_of m.state)
      → EventDone x others left fs v
      → EventDone m ls e (f ∷ fs) v
  done_more m x v ls others e left f fs taken owners minds inputs models u =
      record {
        heards = f ∷ u.heards;
        rest = u.rest;
        between = u.between;
        parts = ap (λ (es : List Entry). f ∷ es) u.parts;
        hears = ap (λ (o : Option (Machine K)). replay_on app o u.heards) taken ∙ u.hears;
        goes_on = u.goes_on;
        model = u.model ∙ models;
        owners = u.owners ∙ owners;
        minds = minds_then m.state x.state (u.between).state minds u.minds;
        listeners = u.listeners;
        inputs = u.inputs ∙ inputs;
        built = u.built;
        rests = u.rests;
      }

  -- the first of those that wait is called
  pub first_done : (l : Listener K) (ls : List (Listener K)) (m : Machine K) (e : Event K) (f : Entry) (fs : List Entry) (v : Machine K)
      → ((x : Machine K) → x.built ≡ true → AtRest x → x.event ≡ Some (a.reply l.handler e).leaves → x.listeners ≡ ls → AllLive k a x.state.scopes ls
      → replay_on app (Some x) fs ≡ Some v → EventDone x ls (a.reply l.handler e).leaves fs v)
      → m.built ≡ true
      → AtRest m
      → m.event ≡ Some e
      → waiting m ≡ l ∷ ls
      → replay_on app (Some m) (f ∷ fs) ≡ Some v
      → EventDone m (l ∷ ls) e (f ∷ fs) v
  first_done l ls m e f fs v later built rests event waits accepted =
      let live : AllLive k a m.state.scopes (l ∷ ls) = subst (λ (ds : List (Listener K)). AllLive k a m.state.scopes ds) waits (kept_live k a m.state m.listeners) in
      let forked = fork app (is_due app (due app m) f) (step app m f) fs v accepted in
      let here : is_due app (if_live m.state (Some (Heard l.origin))) f ≡ true =
      sym (ap (λ (o : Option Entry). is_due app o f) (due_first k a m l ls built rests.alive rests.idle waits)) ∙ forked.0 in
      let is : Heard l.origin ≡ f = that_one k a (is_live m.state l.origin) (Heard l.origin) f here in
      let x : Machine K = step app m (Heard l.origin) in
      let left : Event K = (a.reply l.handler e).leaves in
      let taken : accepts app m f ≡ Some x =
      ap (λ (b : Bool). if b then Some (step app m f) else None) forked.0 ∙ ap (λ (d : Entry). Some (step app m d)) (sym is) in
      let up : Updated a m l ls e x = heard_entries_update K k a m l ls e rests.alive rests.idle rests.unit event waits in
      let called : x ≡ heard_event app m l ls (Some e) = heard_entry_is k a m l ls e rests.alive rests.idle rests.unit event waits in
      let goes : replay_on app (Some x) fs ≡ Some v = subst (λ (d : Entry). replay_on app (Some (step app m d)) fs ≡ Some v) (sym is) forked.1 in
      let owners : owners_of x.state ≡ owners_of m.state = ap (λ (y : Machine K). owners_of y.state) called ∙ heard_owners k a m l ls e in
      let minds : Minds m.state x.state = subst (λ (y : Machine K). Minds m.state y.state) (sym called) (heard_minds k a m l ls e) in
      let inputs : x.inputs ≡ m.inputs = ap (λ (y : Machine K). y.inputs) called ∙ heard_inputs k a m l ls e in
      let all_live : AllLive k a x.state.scopes ls = subst (λ (es : List (ℕ × Scope K)). AllLive k a es ls) (sym up.scopes) live.1 in
      let still : AtRest x = record { alive = up.rest.0 ∙ rests.alive; idle = up.rest.1 ∙ rests.idle; unit = up.rest.2 ∙ rests.unit } in
      let made : Model K = update a l.handler e m.state.next.cells (model_of m.state) in
      let onwards : Model K = updates a m.bubbles m.state.next.cells ls left made in
      by_test (stops k a m l e)
      (
      λ q.
      done_more m x v (l ∷ ls) [] e left f fs taken owners minds inputs (up.model ∙ sym (pick_true made onwards q))
      (done_none x left fs v (up.rest.4 ∙ built) still (up.listeners ∙ pick_true [] ls q) goes)
      )
      (
      λ q.
      done_more m x v (l ∷ ls) ls e left f fs taken owners minds inputs
      (same_updates k a ls left m x made up.rest.3 up.next up.model ∙ sym (pick_false made onwards q))
      (later x (up.rest.4 ∙ built) still up.event (up.listeners ∙ pick_false [] ls q) all_live goes)
      )

  -- those that are left are all live
  pub all_done : (ls : List (Listener K)) (m : Machine K) (e : Event K) (log : List Entry) (v : Machine K)
      → m.built ≡ true
      → AtRest m
      → m.event ≡ Some e
      → m.listeners ≡ ls
      → AllLive k a m.state.scopes ls
      → replay_on app (Some m) log ≡ Some v
      → is_quiet v ≡ true
      → EventDone m ls e log v
  all_done [] m e log v built rests event left live accepted quiet = done_none m e log v built rests left accepted
  all_done (l ∷ ls) m e [] v built rests event left live accepted quiet =
      absurd (waits_on k a m v l ls (machine_is m v accepted) (all_wait k a m (l ∷ ls) left live) quiet)
  all_done (l ∷ ls) m e (f ∷ fs) v built rests event left live accepted quiet =
      first_done l ls m e f fs v
      (λ x b r ev le li acc. all_done ls x (a.reply l.handler e).leaves fs v b r ev le li acc quiet)
      built rests event (all_wait k a m (l ∷ ls) left live) accepted
