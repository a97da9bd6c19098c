-- What is left where an input was taken in, where nothing was owed.
use Rattle.std.proofs.Common.{ℕ, zero, suc, ◌+◌, Bool, true, List, [], ◌∷◌, ◌≡◌, refl, ap, ◌∙◌, nat_eq}
use Rattle.std.specs.Prelude.{None, if◌then◌else◌, length}
use Rattle.rt_model.specs.Lists.{Text, at, kept_by}
use Rattle.rt_model.specs.Tree.{Types}
use Rattle.rt_model.specs.World.{Application}
use Rattle.rt_model.specs.State.{Posted, Mark, Woken, Scope, CellRow, State, Item, is_live}
use Rattle.rt_model.specs.Commands.{post, write_cell}
use Rattle.rt_model.specs.Next.{look, next}
use Rattle.rt_model.specs.Heard.{Listener, find_within, find_output, heard, heard_on}
use Rattle.rt_model.specs.Replay.{Taken, Post, MarkScope, WakeTask, AllDirty, Message, Input, EventAt, WakeOf, WriteOf, MarkOf, Drain, Machine, post_all, post_message, post_messages, waiting, looked_where_quiet, then_looked, taken_in, take_next, rested, settled, step, change_by}
use Rattle.law_moves.specs.Moves.{AtRest}
use Rattle.law_behavior.specs.Comes.{emptied, NothingLeft}
use Rattle.law_behavior.proofs.Coming.{none_is_left}
use Rattle.law_behavior.proofs.Readers.{post_posts}
use Rattle.law_lasting.proofs.Told.{posts_same, look_same}
use Rattle.author_programs.specs.Pages.{Pages}
use Rattle.law_pages.specs.Updates.{values_in, model_of}
use Rattle.law_pages.proofs.Listening.{settled_none, write_model}
use Rattle.law_reduce.specs.Reduces.{hearers, reduced}
use Rattle.law_reduce.proofs.Owners.{owners_in, owners_of, write_owners}
use Rattle.law_reduce.proofs.Minds.{Minds, minds_then, minds_write, minds_look, minds_post, minds_messages}

module _ {K : Types} where
  -- the machine in which an input is taken in
  abbrev pub ready : Machine K → List (Input K) → Machine K
  ready m more = record m { state = emptied m.state; inputs = more; taken = m.taken + 1; units = 0; default_enabled = true; listeners = [] }

  -- nothing comes to work by it
  pub record Took (m : Machine K) (more : List (Input K)) (x : Machine K) : Type 0 where
    pub rests : AtRest m → AtRest x
    pub built : x.built ≡ m.built
    pub inputs : x.inputs ≡ more

  pub took : (m : Machine K) (more : List (Input K)) (input : Input K) → Took m more (taken_in (ready m more) input)
  took m more (EventAt name payload element bubbles) = record { rests = λ h. record { alive = h.alive; idle = h.idle; unit = h.unit }; built = refl; inputs = refl }
  took m more (WakeOf t) = record { rests = λ h. record { alive = h.alive; idle = h.idle; unit = h.unit }; built = refl; inputs = refl }
  took m more (WriteOf n v) = record { rests = λ h. record { alive = h.alive; idle = h.idle; unit = h.unit }; built = refl; inputs = refl }
  took m more (MarkOf s) = record { rests = λ h. record { alive = h.alive; idle = h.idle; unit = h.unit }; built = refl; inputs = refl }
  took m more (Drain messages) = record { rests = λ h. record { alive = h.alive; idle = h.idle; unit = h.unit }; built = refl; inputs = refl }

  pub took_looked : (m : Machine K) (more : List (Input K)) (y : Machine K) (ls : List (Listener K)) → Took m more y → Took m more (looked_where_quiet y ls)
  took_looked m more y [] t =
      record {
        rests = λ h. let r : AtRest y = t.rests h in record { alive = r.alive; idle = r.idle; unit = r.unit };
        built = t.built;
        inputs = t.inputs;
      }
  took_looked m more y (l ∷ ls) t = t

  -- the step that takes an input in
  pub take_is : (app : Application K) (m : Machine K) (input : Input K) (more : List (Input K)) (i : ℕ) → AtRest m → next m.state ≡ None → m.inputs ≡ input ∷ more
      → step app m (Taken i) ≡ then_looked (taken_in (ready m more) input)
  take_is app m input more i rests none inputs =
      let left : NothingLeft m.state = none_is_left K m.state none in
      let y : Machine K = taken_in (ready m more) input in
      let t : Took m more (then_looked y) = took_looked m more y (waiting y) (took m more input) in
      let r : AtRest (then_looked y) = t.rests rests in
      ap (λ (items : List (Item K)). settled app (change_by app m items (Taken i))) rests.idle
      ∙ ap (λ (is : List (Input K)). settled app (take_next (rested app m) is)) inputs
      ∙ ap (λ (w : State K). settled app (then_looked (taken_in (record (ready m more) { state = w }) input))) left.rest
      ∙ settled_none app (then_looked y) r.alive r.idle r.unit

  -- who hears an event is decided by the scopes alone
  within_emptied : (w : State K) (number n s : ℕ) → find_within (emptied w) number n s ≡ find_within w number n s
  within_emptied w number zero s = refl
  within_emptied w number (suc n) s = λ i. find_output number (λ t. within_emptied w number n t i) (at w.scopes s)

  heard_emptied : (w : State K) (name : Text) (element : ℕ) (bubbles : Bool) → heard (emptied w) name element bubbles ≡ heard w name element bubbles
  heard_emptied w name element bubbles = λ i. heard_on name bubbles (if nat_eq element 0 then None else within_emptied w element (length w.scopes) 0 i)

  pub hearers_emptied : (w : State K) (name : Text) (element : ℕ) (bubbles : Bool) → hearers (emptied w) name element bubbles ≡ hearers w name element bubbles
  hearers_emptied w name element bubbles = ap (λ (ls : List (Listener K)). kept_by (λ l. is_live w l.origin) ls) (heard_emptied w name element bubbles)

  -- posts leave cells
  post_cells : (w : State K) (p : Posted) → (post w p).cells ≡ w.cells
  post_cells w p = (posts_same w (post w p) (post_posts w p)).cells

  all_cells : (es : List (ℕ × Scope K)) (w : State K) → (post_all es w).cells ≡ w.cells
  all_cells [] w = refl
  all_cells (e ∷ es) w = all_cells es (post w (Mark e.0)) ∙ post_cells w (Mark e.0)

  message_cells : (w : State K) (what : Post) → (post_message w what).cells ≡ w.cells
  message_cells w (MarkScope s) = post_cells w (Mark s)
  message_cells w (WakeTask t) = post_cells w (Woken t)
  message_cells w AllDirty = all_cells w.scopes w

  messages_cells : (w : State K) (ms : List Message) → (post_messages w ms).cells ≡ w.cells
  messages_cells w [] = refl
  messages_cells w (m ∷ ms) = messages_cells (post_message w m.what) ms ∙ message_cells w m.what

  module _ (a : Pages K) where
    -- an input has made the values its own, owners are as they were, and nobody waits
    pub record Made (m : Machine K) (input : Input K) (x : Machine K) : Type 0 where
      pub model : model_of x.state ≡ reduced a m.state input
      pub owners : owners_of x.state ≡ owners_of m.state
      pub listeners : x.listeners ≡ []
      pub minds : Minds (emptied m.state) x.state

    -- what isn't an event is done at once
    abbrev pub IsNoEvent : Input K → Type 0
    IsNoEvent (EventAt name payload element bubbles) = ⊥
    IsNoEvent _ = Unit {0}

    pub made_at_once : (m : Machine K) (more : List (Input K)) (input : Input K) → IsNoEvent input → Made m input (then_looked (taken_in (ready m more) input))
    made_at_once m more (EventAt name payload element bubbles) h = absurd h
    made_at_once m more (WakeOf t) h =
        let cells = (look_same (post (emptied m.state) (Woken t))).cells ∙ post_cells (emptied m.state) (Woken t) in
        record { model = ap (λ (es : List (ℕ × CellRow K)). values_in es) cells; owners = ap (λ (es : List (ℕ × CellRow K)). owners_in es) cells; listeners = refl; minds = minds_then (emptied m.state) (post (emptied m.state) (Woken t)) (look (post (emptied m.state) (Woken t))) (minds_post (emptied m.state) (Woken t)) (minds_look (post (emptied m.state) (Woken t))) }
    made_at_once m more (WriteOf n v) h =
        let w : State K = emptied m.state in
        let looked = (look_same (write_cell w n v)).cells in
        record {
          model = ap (λ (es : List (ℕ × CellRow K)). values_in es) looked ∙ write_model w n v;
          owners = ap (λ (es : List (ℕ × CellRow K)). owners_in es) looked ∙ write_owners w n v;
          listeners = refl;
          minds = minds_then (emptied m.state) (write_cell (emptied m.state) n v) (look (write_cell (emptied m.state) n v)) (minds_write (emptied m.state) n v) (minds_look (write_cell (emptied m.state) n v));
        }
    made_at_once m more (MarkOf s) h =
        let cells = (look_same (post (emptied m.state) (Mark s))).cells ∙ post_cells (emptied m.state) (Mark s) in
        record { model = ap (λ (es : List (ℕ × CellRow K)). values_in es) cells; owners = ap (λ (es : List (ℕ × CellRow K)). owners_in es) cells; listeners = refl; minds = minds_then (emptied m.state) (post (emptied m.state) (Mark s)) (look (post (emptied m.state) (Mark s))) (minds_post (emptied m.state) (Mark s)) (minds_look (post (emptied m.state) (Mark s))) }
    made_at_once m more (Drain messages) h =
        let cells = (look_same (post_messages (emptied m.state) messages)).cells ∙ messages_cells (emptied m.state) messages in
        record { model = ap (λ (es : List (ℕ × CellRow K)). values_in es) cells; owners = ap (λ (es : List (ℕ × CellRow K)). owners_in es) cells; listeners = refl; minds = minds_then (emptied m.state) (post_messages (emptied m.state) messages) (look (post_messages (emptied m.state) messages)) (minds_messages (emptied m.state) messages) (minds_look (post_messages (emptied m.state) messages)) }
