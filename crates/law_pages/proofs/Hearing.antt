-- The listeners of an event in turn.
use Rattle.std.proofs.Common.{ℕ, Bool, true, false, ◌&&◌, not, List, [], ◌∷◌, ◌≡◌, refl, sym, ap, ◌∙◌, subst}
use Rattle.std.specs.Prelude.{Option, Some, None, if◌then◌else◌, is_some}
use Rattle.std.specs.List.{AllByRecursion}
pub use Rattle.rt_lemmas.proofs.Options.{some_same as machine_is}
use Rattle.rt_model.specs.Lists.{at, kept_by}
use Rattle.rt_model.specs.Tree.{Types}
use Rattle.rt_model.specs.World.{Event, Application}
use Rattle.rt_model.specs.State.{Fault, Scope, State, Item, is_live}
use Rattle.rt_model.specs.Heard.{Listener}
use Rattle.rt_model.specs.Replay.{Entry, Build, Heard, Machine, if_live, no_work, no_listener, waiting, due_item, due_heard, due, is_due, step, is_quiet, replay_on}
use Rattle.rt_model.proofs.Conjunctions.{and-right}
use Rattle.rt_model.proofs.Maps.{by_test, pick_true, pick_false}
use Rattle.rt_model.proofs.OneLogOnly.{same_entry-true, fork}
use Rattle.author_programs.specs.Cells.{Keeping}
use Rattle.author_programs.specs.Pages.{Pages, meaning_of_pages}
use Rattle.law_pages.specs.Updates.{Model, model_of, update, updates, Updated, EventHeard, EventsUpdate}
use Rattle.law_pages.proofs.Listening.{heard_entries_update}

module _ {K : Types} (k : Keeping K.Value) (a : Pages K) where
  abbrev app : Application K
  app = meaning_of_pages k a

  abbrev pub AllLive : List (ℕ × Scope K) → List (Listener K) → Type 0
  AllLive scopes ls = AllByRecursion (λ (l : Listener K). is_some (at scopes l.origin) ≡ true) ls

  -- all that are live wait
  live_wait : (w : State K) (ls : List (Listener K)) → AllLive w.scopes ls → kept_by (λ l. is_live w l.origin) ls ≡ ls
  live_wait w [] h = refl
  live_wait w (l ∷ ls) h =
      let rest : List (Listener K) = kept_by (λ d. is_live w d.origin) ls in pick_true (l ∷ rest) rest h.0 ∙ ap (λ (ds : List (Listener K)). l ∷ ds) (live_wait w ls h.1)

  pub all_wait : (m : Machine K) (ls : List (Listener K)) → m.listeners ≡ ls → AllLive m.state.scopes ls → waiting m ≡ ls
  all_wait m ls listeners live = ap (λ (ds : List (Listener K)). kept_by (λ d. is_live m.state d.origin) ds) listeners ∙ live_wait m.state ls live

  pub due_first : (m : Machine K) (l : Listener K) (ls : List (Listener K)) → m.built ≡ true → m.dead ≡ None → m.work ≡ [] → waiting m ≡ l ∷ ls → due app m ≡ if_live m.state (Some (Heard l.origin))
  due_first m l ls built alive idle waits =
      ap (λ (o : Option Fault). if_live m.state (elim o as (λ z. Option Entry) [ None ↦ (if m.built then due_item app m m.work else Some Build) | Some fault ↦ None ])) alive
      ∙ ap (λ (b : Bool). if_live m.state (if b then due_item app m m.work else Some Build)) built
      ∙ ap (λ (items : List (Item K)). if_live m.state (due_item app m items)) idle
      ∙ ap (λ (ds : List (Listener K)). if_live m.state (due_heard app m ds)) waits

  pub that_one : (b : Bool) (d e : Entry) → is_due app (if b then Some d else None) e ≡ true → d ≡ e
  that_one true d e h = same_entry-true d e h
  that_one false d e h = cc

  -- who waits is live
  pub kept_live : (w : State K) (ls : List (Listener K)) → AllLive w.scopes (kept_by (λ l. is_live w l.origin) ls)
  kept_live w [] = tt
  kept_live w (l ∷ ls) =
      let rest : List (Listener K) = kept_by (λ d. is_live w d.origin) ls in
      by_test (is_live w l.origin)
      (λ q. subst (λ (ds : List (Listener K)). AllLive w.scopes ds) (sym (pick_true (l ∷ rest) rest q)) (q, kept_live w ls))
      (λ q. subst (λ (ds : List (Listener K)). AllLive w.scopes ds) (sym (pick_false (l ∷ rest) rest q)) (kept_live w ls))

  -- nobody waits
  hear_none : (m : Machine K) (e : Event K) (log : List Entry) (v : Machine K) → waiting m ≡ [] → replay_on app (Some m) log ≡ Some v → EventHeard k a m [] e log v
  hear_none m e log v waits accepted =
      record {
        heards = [];
        rest = log;
        between = m;
        parts = refl;
        hears = refl;
        goes_on = accepted;
        model = refl;
        none_waits = waits;
      }

  -- one more before them
  hear_more : (m : Machine K) (l : Listener K) (ls more : List (Listener K)) (e : Event K) (fs : List Entry) (v : Machine K) (x : Machine K)
      → (accepts : (es : List Entry) → replay_on app (Some m) (Heard l.origin ∷ es) ≡ replay_on app (Some x) es)
      → (u : EventHeard k a x more (a.reply l.handler e).leaves fs v)
      → updates a x.bubbles x.state.next.cells more (a.reply l.handler e).leaves (model_of x.state) ≡ updates a m.bubbles m.state.next.cells (l ∷ ls) e (model_of m.state)
      → EventHeard k a m (l ∷ ls) e (Heard l.origin ∷ fs) v
  hear_more m l ls more e fs v x accepts u models =
      record {
        heards = Heard l.origin ∷ u.heards;
        rest = u.rest;
        between = u.between;
        parts = ap (λ (es : List Entry). Heard l.origin ∷ es) u.parts;
        hears = accepts u.heards ∙ u.hears;
        goes_on = u.goes_on;
        model = u.model ∙ models;
        none_waits = u.none_waits;
      }

  abbrev pub stops : Machine K → Listener K → Event K → Bool
  stops m l e = m.bubbles && not (a.reply l.handler e).leaves.propagates

  -- the model that the others find
  pub same_updates : (ls : List (Listener K)) (e : Event K) (m x : Machine K) (n : Model K) → x.bubbles ≡ m.bubbles → x.state.next ≡ m.state.next → model_of x.state ≡ n
      → updates a x.bubbles x.state.next.cells ls e (model_of x.state) ≡ updates a m.bubbles m.state.next.cells ls e n
  same_updates ls e m x n bubbles next model =
      ap (λ (b : Bool). updates a b x.state.next.cells ls e (model_of x.state)) bubbles
      ∙ ap (λ (f : _). updates a m.bubbles f.cells ls e (model_of x.state)) next
      ∙ ap (λ (y : Model K). updates a m.bubbles m.state.next.cells ls e y) model

  hear_one : (l : Listener K) (ls : List (Listener K)) (m : Machine K) (e : Event K) (f : Entry) (fs : List Entry) (v : Machine K)
      → ((x : Machine K) → x.built ≡ true → x.dead ≡ None → x.work ≡ [] → x.unit ≡ false → x.event ≡ Some (a.reply l.handler e).leaves → waiting x ≡ ls
      → replay_on app (Some x) fs ≡ Some v → EventHeard k a x ls (a.reply l.handler e).leaves fs v)
      → m.built ≡ true
      → m.dead ≡ None
      → m.work ≡ []
      → m.unit ≡ false
      → m.event ≡ Some e
      → waiting m ≡ l ∷ ls
      → replay_on app (Some m) (f ∷ fs) ≡ Some v
      → EventHeard k a m (l ∷ ls) e (f ∷ fs) v
  hear_one l ls m e f fs v later built alive idle no_unit event waits accepted =
      let live : AllLive m.state.scopes (l ∷ ls) = subst (λ (ds : List (Listener K)). AllLive m.state.scopes ds) waits (kept_live m.state m.listeners) in
      let forked = fork app (is_due app (due app m) f) (step app m f) fs v accepted in
      let here : is_due app (if_live m.state (Some (Heard l.origin))) f ≡ true = sym (ap (λ (o : Option Entry). is_due app o f) (due_first m l ls built alive idle waits)) ∙ forked.0 in
      let is : Heard l.origin ≡ f = that_one (is_live m.state l.origin) (Heard l.origin) f here in
      let x : Machine K = step app m (Heard l.origin) in
      let up : Updated a m l ls e x = heard_entries_update K k a m l ls e alive idle no_unit event waits in
      let goes : replay_on app (Some x) fs ≡ Some v = subst (λ (d : Entry). replay_on app (Some (step app m d)) fs ≡ Some v) (sym is) forked.1 in
      let due_here : is_due app (due app m) (Heard l.origin) ≡ true = subst (λ (d : Entry). is_due app (due app m) d ≡ true) (sym is) forked.0 in
      let accepts : (es : List Entry) → replay_on app (Some m) (Heard l.origin ∷ es) ≡ replay_on app (Some x) es =
      λ es. ap (λ (o : Option (Machine K)). replay_on app o es) (pick_true (Some x) None due_here) in
      let all_live : AllLive x.state.scopes ls = subst (λ (es : List (ℕ × Scope K)). AllLive es ls) (sym up.scopes) live.1 in
      let made : Model K = update a l.handler e m.state.next.cells (model_of m.state) in
      let onwards : Model K = updates a m.bubbles m.state.next.cells ls (a.reply l.handler e).leaves made in
      subst (λ (d : Entry). EventHeard k a m (l ∷ ls) e (d ∷ fs) v) is
      (
      by_test (stops m l e)
      (
      λ q.
      hear_more m l ls [] e fs v x accepts
      (hear_none x (a.reply l.handler e).leaves fs v (ap (λ (ds : List (Listener K)). kept_by (λ d. is_live x.state d.origin) ds) (up.listeners ∙ pick_true [] ls q)) goes)
      (up.model ∙ sym (pick_true made onwards q))
      )
      (
      λ q.
      hear_more m l ls ls e fs v x accepts
      (later x (up.rest.4 ∙ built) (up.rest.0 ∙ alive) (up.rest.1 ∙ idle) (up.rest.2 ∙ no_unit) up.event (all_wait x ls (up.listeners ∙ pick_false [] ls q) all_live) goes)
      (same_updates ls (a.reply l.handler e).leaves m x made up.rest.3 up.next up.model ∙ sym (pick_false made onwards q))
      )
      )

  -- a log doesn't end while somebody waits
  pub waits_on : (m v : Machine K) (l : Listener K) (ls : List (Listener K)) → m ≡ v → waiting m ≡ l ∷ ls → is_quiet v ≡ true → ⊥
  waits_on m v l ls same waits quiet =
      let nobody : no_listener (waiting v) ≡ true = and-right (not (is_some v.dead) && no_work v.work) (no_listener (waiting v)) quiet in
      let absurdity : false ≡ true = sym (ap (λ (ds : List (Listener K)). no_listener ds) waits) ∙ ap (λ (x : Machine K). no_listener (waiting x)) same ∙ nobody in
      cc

  hear : (ls : List (Listener K)) (m : Machine K) (e : Event K) (log : List Entry) (v : Machine K)
      → m.built ≡ true
      → m.dead ≡ None
      → m.work ≡ []
      → m.unit ≡ false
      → m.event ≡ Some e
      → waiting m ≡ ls
      → replay_on app (Some m) log ≡ Some v
      → is_quiet v ≡ true
      → EventHeard k a m ls e log v
  hear [] m e log v built alive idle no_unit event waits accepted quiet = hear_none m e log v waits accepted
  hear (l ∷ ls) m e [] v built alive idle no_unit event waits accepted quiet =
      absurd (waits_on m v l ls (machine_is m v accepted) waits quiet)
  hear (l ∷ ls) m e (f ∷ fs) v built alive idle no_unit event waits accepted quiet =
      hear_one l ls m e f fs v
      (λ x b d w u ev wa acc. hear ls x (a.reply l.handler e).leaves fs v b d w u ev wa acc quiet)
      built alive idle no_unit event waits accepted

pub events_update : (K : Types) → EventsUpdate K
events_update K k a ls m e log v built alive idle no_unit event waits accepted quiet =
    hear k a ls m e log v built alive idle no_unit event waits accepted quiet
