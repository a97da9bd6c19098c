-- What stands in a machine that has begun: where numbers are drawn, units closed, inputs taken in.
use Rattle.std.proofs.Common.{ℕ, Bool, true, false, List, [], ◌∷◌, ◌≡◌, ◌+◌, refl, sym, ◌∙◌, subst, inl, inr}
use Rattle.std.specs.Prelude.{Option, Some, None, if◌then◌else◌}
use Rattle.rt_model.specs.Tree.{Types, VComponent, Place, Kind}
use Rattle.rt_model.specs.World.{Elements, at_end}
use Rattle.rt_model.specs.State.{SideName, Mark, Woken, Fault, IdsExhausted, RowStep, Scope, State, Item, Draw, Row, Feed, Make, Drop, Outcome, Done, Cut}
use Rattle.rt_model.specs.Commands.{post}
use Rattle.rt_model.specs.Heard.{Listener}
use Rattle.rt_model.specs.Replay.{Post, MarkScope, WakeTask, AllDirty, Message, Input, EventAt, WakeOf, WriteOf, MarkOf, Drain, Machine, ended_by, numbered, drawn_on, draws, closed_at, closed, waiting, post_all, post_message, post_messages, looked_where_quiet, then_looked, taken_in, take_next, step}
use Rattle.rt_model.proofs.Maps.{none_some}
use Rattle.rt_model.proofs.SideFrames.{Stay, stay_trans, stay_refl, post_stay, write_stay}
use Rattle.rt_model.proofs.SideRuns.{look_stay, mounted_stay}
use Rattle.rt_model.proofs.Stands.{Stands}
use Rattle.rt_model.proofs.Turns.{stay_stands, more_stands}
use Rattle.rt_model.proofs.SideChanges.{Leads, numbered_stands}

module _ {K : Types} where
  -- what stands in a machine that has begun
  pub record Begun (m : Machine K) : Type 0 where
    pub stands : Stands m.state m.work
    pub built : m.built ≡ true

  -- after a fault nothing is claimed
  abbrev pub Good : Machine K → Type 0
  Good m = m.dead ≡ None → Begun m

  -- a change that leads to what stands
  pub ended_good : (m : Machine K) (r : Option (Item K)) (rest : List (Item K)) (o : Outcome K) → m.built ≡ true → Leads rest o → Good (ended_by m r rest o)
  ended_good m r rest (Done v work) b h = λ d. record { stands = h; built = b }
  ended_good m r rest (Cut v fault) b h = λ d. none_some d refl

  -- one of two machines
  pub either_good : (c : Bool) (x y : Machine K) → Good x → Good y → Good (if c then x else y)
  either_good true x y h g = h
  either_good false x y h g = g

  drawn_good : (go : Machine K → Machine K) (m : Machine K) (i : Item K) (rest : List (Item K)) (v : State K) (end : Bool) → Good (go (record m { state = v; work = rest }))
      → Good (drawn_on go m i rest (if end then Cut m.state (IdsExhausted Elements) else Done v []))
  drawn_good go m i rest v true h = λ d. none_some d refl
  drawn_good go m i rest v false h = h

  -- numbers are drawn
  pub draws_good : (work : List (Item K)) (m : Machine K) → m.built ≡ true → Stands m.state work → Good (draws work m)
  draws_good [] m b h = λ d. record { stands = h; built = b }
  draws_good (Draw s side p k ∷ rest) m b h =
      let v : State K = numbered m.state s side p k in
      drawn_good (λ u. draws rest u) m (Draw s side p k) rest v (at_end m.state.next.elements)
      (draws_good rest (record m { state = v; work = rest }) b (numbered_stands m.state rest s side p k h))
  draws_good (Row i step ∷ rest) m b h = λ d. record { stands = h; built = b }
  draws_good (Feed s side p c ∷ rest) m b h = λ d. record { stands = h; built = b }
  draws_good (Make s side p c ∷ rest) m b h = λ d. record { stands = h; built = b }
  draws_good (Drop t s side ∷ rest) m b h = λ d. record { stands = h; built = b }

  -- what is no draw may go
  pub row_done : (w : State K) (rest : List (Item K)) (b : ℕ) (step : RowStep) → Stands w (Row b step ∷ rest) → Stands w rest
  row_done w rest b step h = more_stands w (Row b step ∷ rest) rest h.items (λ t a q l g. elim g [ inl e ↦ absurd (no_row e) | inr e ↦ e ]) h
    where
      no_row : {t : ℕ} {a : SideName} {q : Place} {l : Kind} → ◌≡◌ {A = Item K} (Row b step) (Draw t a q l) → ⊥
      no_row e = cc

  -- what is fed may go from the work
  pub feed_done : (w : State K) (rest : List (Item K)) (s : ℕ) (side : SideName) (p : Place) (c : VComponent K) → Stands w (Feed s side p c ∷ rest) → Stands w rest
  feed_done w rest s side p c h = more_stands w (Feed s side p c ∷ rest) rest h.items.1 (λ t a q l g. elim g [ inl e ↦ absurd (no_feed e) | inr e ↦ e ]) h
    where
      no_feed : {t : ℕ} {a : SideName} {q : Place} {l : Kind} → ◌≡◌ {A = Item K} (Feed s side p c) (Draw t a q l) → ⊥
      no_feed e = cc

  -- what would be made may go
  pub make_done : (w : State K) (rest : List (Item K)) (s : ℕ) (side : SideName) (p : Place) (c : VComponent K) → Stands w (Make s side p c ∷ rest) → Stands w rest
  make_done w rest s side p c h = more_stands w (Make s side p c ∷ rest) rest h.items.1 (λ t a q l g. elim g [ inl e ↦ absurd (no_make e) | inr e ↦ e ]) h
    where
      no_make : {t : ℕ} {a : SideName} {q : Place} {l : Kind} → ◌≡◌ {A = Item K} (Make s side p c) (Draw t a q l) → ⊥
      no_make e = cc

  -- what was dropped may go
  pub drop_done : (w : State K) (rest : List (Item K)) (t s : ℕ) (side : SideName) → Stands w (Drop t s side ∷ rest) → Stands w rest
  drop_done w rest t s side h = more_stands w (Drop t s side ∷ rest) rest h.items (λ u a q l g. elim g [ inl e ↦ absurd (no_drop e) | inr e ↦ e ]) h
    where
      no_drop : {u : ℕ} {a : SideName} {q : Place} {l : Kind} → ◌≡◌ {A = Item K} (Drop t s side) (Draw u a q l) → ⊥
      no_drop e = cc

  closed_at_good : (m : Machine K) (work : List (Item K)) (unit : Bool) → Good m → Good (closed_at m work unit)
  closed_at_good m [] true g = λ d. let b : Begun m = g d in record { stands = stay_stands m.state _ m.work (mounted_stay m.state) b.stands; built = b.built }
  closed_at_good m [] false g = g
  closed_at_good m (i ∷ rest) unit g = g

  closed_by : (m : Machine K) (o : Option Fault) → Good m → Good (elim o as (λ z. Machine K) [ None ↦ closed_at m m.work m.unit | Some fault ↦ m ])
  closed_by m None g = closed_at_good m m.work m.unit g
  closed_by m (Some fault) g = g

  -- a unit is closed
  pub closed_good : (m : Machine K) → Good m → Good (closed m)
  closed_good m g = closed_by m m.dead g

  -- a change that leaves the work and the sides
  pub record Calm (m v : Machine K) : Type 0 where
    pub work : v.work ≡ m.work
    pub built : v.built ≡ m.built
    pub stays : Stay m.state v.state

  -- one such change after another
  pub calm_trans : (u v w : Machine K) → Calm u v → Calm v w → Calm u w
  calm_trans u v w f g = record { work = g.work ∙ f.work; built = g.built ∙ f.built; stays = stay_trans u.state v.state w.state f.stays g.stays }

  -- what stood stands after such a change
  pub calm_good : (m v : Machine K) → Calm m v → Begun m → Good v
  calm_good m v f b = λ d. record { stands = stay_stands m.state v.state v.work f.stays (subst (λ (xs : List (Item K)). Stands m.state xs) (sym f.work) b.stands); built = f.built ∙ b.built }

  post_all_stay : (es : List (ℕ × Scope K)) (w : State K) → Stay w (post_all es w)
  post_all_stay [] w = stay_refl w
  post_all_stay (e ∷ es) w = stay_trans w (post w (Mark e.0)) (post_all es (post w (Mark e.0))) (post_stay w (Mark e.0)) (post_all_stay es (post w (Mark e.0)))

  message_stay : (w : State K) (p : Post) → Stay w (post_message w p)
  message_stay w (MarkScope s) = post_stay w (Mark s)
  message_stay w (WakeTask t) = post_stay w (Woken t)
  message_stay w AllDirty = post_all_stay w.scopes w

  messages_stay : (w : State K) (ms : List Message) → Stay w (post_messages w ms)
  messages_stay w [] = stay_refl w
  messages_stay w (m ∷ ms) = stay_trans w (post_message w m.what) (post_messages (post_message w m.what) ms) (message_stay w m.what) (messages_stay (post_message w m.what) ms)

  quiet_calm : (m : Machine K) (ls : List (Listener K)) → Calm m (looked_where_quiet m ls)
  quiet_calm m [] = record { work = refl; built = refl; stays = look_stay m.state }
  quiet_calm m (l ∷ ls) = record { work = refl; built = refl; stays = stay_refl m.state }

  -- a look follows a listener
  pub then_looked_calm : (m : Machine K) → Calm m (then_looked m)
  then_looked_calm m = quiet_calm m (waiting m)

  taken_in_calm : (m : Machine K) (i : Input K) → Calm m (taken_in m i)
  taken_in_calm m (EventAt name payload element bubbles) = record { work = refl; built = refl; stays = stay_refl m.state }
  taken_in_calm m (WakeOf t) = record { work = refl; built = refl; stays = post_stay m.state (Woken t) }
  taken_in_calm m (WriteOf n v) = record { work = refl; built = refl; stays = write_stay m.state n v }
  taken_in_calm m (MarkOf s) = record { work = refl; built = refl; stays = post_stay m.state (Mark s) }
  taken_in_calm m (Drain messages) = record { work = refl; built = refl; stays = messages_stay m.state messages }

  -- an input is taken in
  pub take_next_calm : (m : Machine K) (is : List (Input K)) → Calm m (take_next m is)
  take_next_calm m [] = record { work = refl; built = refl; stays = stay_refl m.state }
  take_next_calm m (i ∷ rest) =
      let u : Machine K = record m { inputs = rest; taken = m.taken + 1; units = 0; default_enabled = true; listeners = [] } in
      let c : Calm u (taken_in u i) = taken_in_calm u i in
      calm_trans m (taken_in u i) (then_looked (taken_in u i)) (record { work = c.work; built = c.built; stays = c.stays }) (then_looked_calm (taken_in u i))
