-- The values of an application's cells, what a listener of a page makes of them, and what an event does.
use Rattle.std.specs.Prelude.{ℕ, Bool, true, false, ◌++◌, ◌&&◌, not, nat_lt, List, [], ◌∷◌, map, Option, Some, None, if◌then◌else◌, ◌≡◌}
use Rattle.rt_model.specs.Lists.{at, put}
use Rattle.rt_model.specs.Tree.{Types}
use Rattle.rt_model.specs.World.{Event}
use Rattle.rt_model.specs.State.{State, CellRow}
use Rattle.rt_model.specs.Heard.{Listener}
use Rattle.rt_model.specs.Replay.{Entry, Heard, Machine, waiting, is_quiet, replay_on, heard_event, step}
use Rattle.author_programs.specs.Cells.{Keeping}
use Rattle.author_programs.specs.Pages.{Pages, meaning_of_pages}

-- the model: each cell's number with its value, in the order in which they were made
abbrev pub Model : Types → Type 0
Model K = List (ℕ × K.Value)

module _ {V : Type 0} where
  -- a cell that is there has another value
  abbrev pub put_where : List (ℕ × V) → ℕ → V → Option V → List (ℕ × V)
  put_where m n v None = m
  put_where m n v (Some old) = put m n v

  -- writes, in order; one of a cell that isn't there changes nothing
  abbrev pub written : List (ℕ × V) → List (ℕ × V) → List (ℕ × V)
  written m [] = m
  written m (e ∷ es) = written (put_where m e.0 e.1 (at m e.0)) es

  -- what a listener reads of a model whose numbers are below a bound
  abbrev pub read_in : List (ℕ × V) → ℕ → ℕ → Option V
  read_in m drawn n = if nat_lt n drawn then at m n else None

module _ {K : Types} where
  -- the values of these cells
  abbrev pub values_in : List (ℕ × CellRow K) → Model K
  values_in [] = []
  values_in (e ∷ es) = (e.0, (e.1).value) ∷ values_in es

  -- the model of a state
  abbrev pub model_of : State K → Model K
  model_of w = values_in w.cells

  -- what a listener makes of the model
  abbrev pub update : Pages K → K.Handler → Event K → ℕ → Model K → Model K
  update a h e drawn m = written m ((a.reply h e).writes (map (read_in m drawn) (a.reply h e).reads))

  -- what the listeners make of it that hear an event, one after another, until one of them stops it
  abbrev pub updates : Pages K → Bool → ℕ → List (Listener K) → Event K → Model K → Model K
  updates a bubbles drawn [] e m = m
  updates a bubbles drawn (l ∷ ls) e m =
      (if bubbles && not (a.reply l.handler e).leaves.propagates
      then update a l.handler e drawn m
      else updates a bubbles drawn ls (a.reply l.handler e).leaves (update a l.handler e drawn m))

-- what a listener's call leaves of a machine
pub record Updated {K : Types} (a : Pages K) (m : Machine K) (l : Listener K) (ls : List (Listener K)) (e : Event K)
    (v : Machine K) : Type 0 where
  -- the model is what the reply makes of it
  pub model : model_of v.state ≡ update a l.handler e m.state.next.cells (model_of m.state)
  -- no number is drawn
  pub next : v.state.next ≡ m.state.next
  -- the event goes on as the reply leaves it, to those who hear it further
  pub event : v.event ≡ Some (a.reply l.handler e).leaves
  pub listeners : v.listeners ≡ (if m.bubbles && not (a.reply l.handler e).leaves.propagates then [] else ls)
  -- no scope comes or goes
  pub scopes : v.state.scopes ≡ m.state.scopes
  -- it is at work, or not, as it was
  pub rest : (v.dead ≡ m.dead) × (v.work ≡ m.work) × (v.unit ≡ m.unit) × (v.bubbles ≡ m.bubbles) × (v.built ≡ m.built)

-- a listener of a page that hears an event
abbrev pub ListenersUpdate : Types → Type 0
ListenersUpdate K =
    (k : Keeping K.Value) (a : Pages K) (m : Machine K) (l : Listener K) (ls : List (Listener K)) (e : Event K)
    → Updated a m l ls e (heard_event (meaning_of_pages k a) m l ls (Some e))

-- so does the entry of such a call, where nothing else is at work
abbrev pub HeardEntriesUpdate : Types → Type 0
HeardEntriesUpdate K =
    (k : Keeping K.Value) (a : Pages K) (m : Machine K) (l : Listener K) (ls : List (Listener K)) (e : Event K)
    → m.dead ≡ None
    → m.work ≡ []
    → m.unit ≡ false
    → m.event ≡ Some e
    → waiting m ≡ l ∷ ls
    → Updated a m l ls e (step (meaning_of_pages k a) m (Heard l.origin))

-- a log from where listeners wait: first their entries, and then what nobody waits in
pub record EventHeard {K : Types} (k : Keeping K.Value) (a : Pages K) (m : Machine K) (ls : List (Listener K)) (e : Event K)
    (log : List Entry) (v : Machine K) : Type 0 where
  -- the entries of the listeners, and what comes after them
  pub heards : List Entry
  pub rest : List Entry
  -- the machine in between
  pub between : Machine K
  pub parts : log ≡ heards ++ rest
  pub hears : replay_on (meaning_of_pages k a) (Some m) heards ≡ Some between
  pub goes_on : replay_on (meaning_of_pages k a) (Some between) rest ≡ Some v
  -- after their entries the model is what they make of it
  pub model : model_of between.state ≡ updates a m.bubbles m.state.next.cells ls e (model_of m.state)
  pub none_waits : waiting between ≡ []

-- so it is of every log that ends where nothing is at work
abbrev pub EventsUpdate : Types → Type 0
EventsUpdate K =
    (k : Keeping K.Value) (a : Pages K) (ls : List (Listener K)) (m : Machine K) (e : Event K) (log : List Entry) (v : Machine K)
    → m.built ≡ true
    → m.dead ≡ None
    → m.work ≡ []
    → m.unit ≡ false
    → m.event ≡ Some e
    → waiting m ≡ ls
    → replay_on (meaning_of_pages k a) (Some m) log ≡ Some v
    → is_quiet v ≡ true
    → EventHeard k a m ls e log v
