-- An event that was handled, and a value that was written: the values that they make.
use Rattle.std.proofs.Common.{ℕ, Bool, true, List, [], ◌∷◌, ◌≡◌, refl, sym, ap, ◌∙◌, subst}
use Rattle.std.specs.Prelude.{Some}
use Rattle.rt_model.specs.Asides.{Raised, resting, set_aside}
use Rattle.rt_model.specs.Causes.{Limits}
use Rattle.rt_model.specs.Commands.{write_cell}
use Rattle.rt_model.specs.Heard.{Listener}
use Rattle.rt_model.specs.Lists.{Text, at}
use Rattle.rt_model.specs.Replay.{Entry, Machine, is_quiet, replay_on}
use Rattle.rt_model.specs.State.{CellRow, State}
use Rattle.rt_model.specs.Told.{telling}
use Rattle.rt_model.specs.Tree.{Types}
use Rattle.rt_model.specs.World.{Application, Event}
use Rattle.rt_model.proofs.ToldReplayed.{log-replays}
use Rattle.law_moves.specs.Moves.{AtRest}
use Rattle.law_behavior.specs.Doms.{NoneOpens}
use Rattle.author_programs.specs.Cells.{Keeping}
use Rattle.author_programs.specs.Pages.{Pages, meaning_of_pages}
use Rattle.law_pages.specs.Updates.{Model, model_of, updates}
use Rattle.law_pages.proofs.Hearing.{machine_is, waits_on}
use Rattle.law_pages.proofs.Listening.{write_model}
use Rattle.law_reduce.specs.Reduces.{hearers}
use Rattle.law_reduce.proofs.InTurn.{EventDone, all_done, first_done}
use Rattle.law_reduce.proofs.Minds.{minds_write}
use Rattle.law_reduce.specs.Elm.{Owned}
use Rattle.law_reduce.proofs.Owners.{owners_of, still_owned, write_owners}
use Rattle.law_kept.specs.Calls.{HandledUpdate, IsOwned, Makes, WrittenUpdate, heard_values, raised}
use Rattle.law_kept.proofs.Idle.{ends_there, none_opens_later, none_waits}

module _ {K : Types} where
  -- where owners are as they were each cell stands, of its owner
  owned : (w v : State K) → owners_of v ≡ owners_of w → (n : ℕ) (row : CellRow K) → at w.cells n ≡ Some row → IsOwned v n row.owner
  owned w v same n row there = let o : Owned v n row.owner = still_owned w v n row same there in (o.row, o.there, o.owner_is)

module _ {K : Types} (k : Keeping K.Value) (a : Pages K) (w : State K)
    (name : Text) (payload : K.Payload) (element : ℕ) (bubbles prevented : Bool) where
  abbrev app : Application K
  app = meaning_of_pages k a

  abbrev e : Event K
  e = raised payload bubbles prevented

  -- the machine in which the event has come to those that hear it
  abbrev from : Machine K
  from = set_aside app (resting w) (Raised name payload element bubbles prevented)

  from_rests : AtRest from
  from_rests = record { alive = refl; idle = refl; unit = refl }

  abbrev Made : Machine K → Type 0
  Made v = Makes w (heard_values a w name element bubbles e) v.state

  handled : (ls : List (Listener K)) → hearers w name element bubbles ≡ ls → (log : List Entry) (v : Machine K)
      → NoneOpens log → replay_on app (Some from) log ≡ Some v → is_quiet v ≡ true → Made v
  handled [] hears log v alone goes quiet =
      let same : from ≡ v = ends_there app from v log refl from_rests refl hears alone goes in
      let here : Made from =
      record {
        values = sym (ap (λ (ls : List (Listener K)). updates a bubbles w.next.cells ls e (model_of w)) hears);
        scopes = refl;
        owners = λ n row there. (row, there, refl);
      } in
      subst (λ (x : Machine K). Made x) same here
  handled (l ∷ ls) hears [] v alone goes quiet = absurd (waits_on k a from v l ls (machine_is from v goes) hears quiet)
  handled (l ∷ ls) hears (f ∷ fs) v alone goes quiet =
      let done : EventDone k a from (l ∷ ls) e (f ∷ fs) v =
      first_done k a l ls from e f fs v
      (λ u b r ev le li acc. all_done k a ls u (a.reply l.handler e).leaves fs v b r ev le li acc quiet)
      refl from_rests refl hears goes in
      let same : done.between ≡ v =
      ends_there app done.between v done.rest done.built done.rests done.inputs (none_waits app done.between done.listeners)
      (none_opens_later done.heards done.rest (subst (λ (es : List Entry). NoneOpens es) done.parts alone)) done.goes_on in
      let here : Made done.between =
      record {
        values = done.model ∙ ap (λ (ds : List (Listener K)). updates a bubbles w.next.cells ds e (model_of w)) (sym hears);
        scopes = (done.minds).scopes;
        owners = λ n row there. owned w (done.between).state done.owners n row there;
      } in
      subst (λ (x : Machine K). Made x) same here

pub handled_update : (K : Types) → HandledUpdate K
handled_update K k a limits w name payload element bubbles prevented log edits v alone r =
    let m : Machine K = from k a w name payload element bubbles prevented in
    let goes : replay_on (meaning_of_pages k a) (Some m) log ≡ Some v =
    log-replays (meaning_of_pages k a) log (telling m) r.last (r.so).told ∙ ap (λ (x : Machine K). Some x) r.machine in
    handled k a w name payload element bubbles prevented (hearers w name element bubbles) refl log v alone goes r.quiet

pub written_update : (K : Types) → WrittenUpdate K
written_update K w n value =
    record {
      values = write_model w n value;
      scopes = (minds_write w n value).scopes;
      owners = λ d row there. owned w (write_cell w n value) (write_owners w n value) d row there;
    }
