-- What is said of calls one after another, and of logs one after another.
use Rattle.std.proofs.Common.{List, [], ◌∷◌, ◌++◌, ◌≡◌, refl, sym, ap, ◌∙◌, subst, append_assoc}
use Rattle.std.specs.Prelude.{Option, Some, None}
use Rattle.std.proofs.lemmas.List.{append-nil}
use Rattle.rt_model.specs.Tree.{Types}
use Rattle.rt_model.specs.World.{Application}
use Rattle.rt_model.specs.State.{State, Item}
use Rattle.rt_model.specs.Replay.{Entry, Machine, accepts, replay_on}
use Rattle.rt_model.specs.Causes.{Limits, accepts_within, replay_within}
use Rattle.rt_model.specs.Told.{Telling, told_entry, tell_log}
use Rattle.law_moves.specs.Moves.{Move, Silent, Closed, Logged, entries, Inside, busy, AtWork, Moves, Leads}
use Rattle.law_moves.specs.Words.{Word, Served, Stopped, Short, Goes, Serves, Breaks, Says}
use Rattle.law_moves.specs.Reports.{LogsJoin}

pub entries-append : (xs ys : List Move) → entries (xs ++ ys) ≡ entries xs ++ entries ys
entries-append [] ys = refl
entries-append (Silent ∷ xs) ys = entries-append xs ys
entries-append (Closed ∷ xs) ys = entries-append xs ys
entries-append (Logged e ∷ xs) ys = ap (λ (log : List Entry). e ∷ log) (entries-append xs ys)

pub Inside-append : (xs ys : List Move) → Inside xs → Inside ys → Inside (xs ++ ys)
Inside-append [] ys first then_on = then_on
Inside-append (Silent ∷ xs) ys first then_on = Inside-append xs ys first then_on
Inside-append (Closed ∷ xs) ys first then_on = absurd first
Inside-append (Logged e ∷ xs) ys first then_on = (first.0, Inside-append xs ys first.1 then_on)

module _ {K : Types} where
  -- a machine that is at work stays so while work is served
  pub still_at_work : (m : Machine K) (w : State K) (work : List (Item K)) → AtWork m → AtWork (busy m w work)
  still_at_work m w work h = record { alive = h.alive; built = h.built; unit = h.unit }

module _ {K : Types} (app : Application K) (limits : Limits) where
  pub Leads-append : (xs ys : List Move) (m u v : Machine K) → Leads app limits m xs u → Leads app limits u ys v → Leads app limits m (xs ++ ys) v
  Leads-append [] ys m u v first then_on = subst (λ (x : Machine K). Leads app limits x ys v) first then_on
  Leads-append (x ∷ xs) ys m u v first then_on = (first.0, first.1, Leads-append xs ys first.0 u v first.2 then_on)

  -- no move is made, and nothing is logged
  pub stays : (m : Machine K) (log : List Entry) → Goes app limits m log log m
  stays m log = record { moves = []; leads = refl; inside = tt; logged = sym (append-nil log) }

  -- one move is made
  pub goes_one : (m u : Machine K) (move : Move) (log : List Entry) → Moves app limits m move u → Inside (move ∷ []) → Goes app limits m log (log ++ entries (move ∷ [])) u
  goes_one m u move log h inside = record { moves = move ∷ []; leads = (u, h, refl); inside = inside; logged = refl }

  -- moves after moves
  pub goes_on : (m u v : Machine K) (a b c : List Entry) → Goes app limits m a b u → Goes app limits u b c v → Goes app limits m a c v
  goes_on m u v a b c first then_on =
      let xs : List Move = first.moves in
      let ys : List Move = then_on.moves in
      record {
        moves = xs ++ ys;
        leads = Leads-append xs ys m u v first.leads then_on.leads;
        inside = Inside-append xs ys first.inside then_on.inside;
        logged = then_on.logged
            ∙ ap (λ (log : List Entry). log ++ entries ys) first.logged
            ∙ append_assoc a (entries xs) (entries ys)
            ∙ ap (λ (log : List Entry). a ++ log) (sym (entries-append xs ys));
      }

  -- what a call says that came after moves is said from their start
  pub said_after : (m : Machine K) (w : State K) (work rest : List (Item K)) (a b c : List Entry) (ends : State K → Type 0) (stops : Machine K → Type 0) (word : Word)
      → Goes app limits m a b (busy m w work)
      → Says app limits (busy m w work) rest b c ends stops word
      → Says app limits m rest a c ends stops word
  said_after m w work rest a b c ends stops Served goes said =
      record { state = said.state; goes = goes_on m (busy m w work) (busy m said.state rest) a b c goes said.goes; ended = said.ended }
  said_after m w work rest a b c ends stops (Stopped fault) goes said =
      record {
        machine = said.machine;
        goes = goes_on m (busy m w work) said.machine a b c goes said.goes;
        settled = said.settled;
        cause = said.cause;
        stopped = said.stopped;
      }
  said_after m w work rest a b c ends stops Short goes said =
      record { machine = said.machine; goes = goes_on m (busy m w work) said.machine a b c goes said.goes }

  -- after a call that served its work the next one's word is that of both
  pub said_next : (m : Machine K) (mid rest : List (Item K)) (a b c : List Entry) (between ends : State K → Type 0) (stops : Machine K → Type 0) (word : Word)
      → Serves app limits m mid a b between
      → ((w : State K) → between w → Says app limits (busy m w mid) rest b c ends stops word)
      → Says app limits m rest a c ends stops word
  said_next m mid rest a b c between ends stops word first then_on =
      said_after m first.state mid rest a b c ends stops word first.goes (then_on first.state first.ended)

  -- the word of a call that didn't serve its work holds whatever was to be left and to be true
  pub other_rest : (m : Machine K) (mid rest : List (Item K)) (a b : List Entry) (other ends : State K → Type 0) (stops : Machine K → Type 0) (word : Word)
      → (word ≡ Served → ⊥)
      → Says app limits m mid a b other stops word
      → Says app limits m rest a b ends stops word
  other_rest m mid rest a b other ends stops Served not_served said = absurd (not_served refl)
  other_rest m mid rest a b other ends stops (Stopped fault) not_served said = said
  other_rest m mid rest a b other ends stops Short not_served said = said

  -- where more was said less may be said
  pub said_less : (m : Machine K) (rest : List (Item K)) (a b : List Entry) (more ends : State K → Type 0) (more_stops stops : Machine K → Type 0) (word : Word)
      → ((w : State K) → more w → ends w)
      → ((u : Machine K) → more_stops u → stops u)
      → Says app limits m rest a b more more_stops word
      → Says app limits m rest a b ends stops word
  said_less m rest a b more ends more_stops stops Served end stop said = record { state = said.state; goes = said.goes; ended = end said.state said.ended }
  said_less m rest a b more ends more_stops stops (Stopped fault) end stop said =
      record { machine = said.machine; goes = said.goes; settled = said.settled; cause = said.cause; stopped = stop said.machine said.stopped }
  said_less m rest a b more ends more_stops stops Short end stop said = said

  -- the word of a call that gave up after work was served, or before any
  pub gave_up : (m : Machine K) (mid : List (Item K)) (a b c : List Entry) (ends : State K → Type 0) → Serves app limits m mid a b ends → c ≡ b → Breaks app limits m a c
  gave_up m mid a b c ends served same =
      let breaks : Breaks app limits m a b = record { machine = busy m served.state mid; goes = served.goes } in
      subst (λ (log : List Entry). Breaks app limits m a log) (sym same) breaks

  within-append : (log more : List Entry) (o : Option (Machine K)) → replay_within app limits o (log ++ more) ≡ replay_within app limits (replay_within app limits o log) more
  within-append log more None = refl
  within-append [] more (Some m) = refl
  within-append (e ∷ log) more (Some m) = within-append log more (accepts_within app limits m e)

module _ {K : Types} (app : Application K) where
  replay-append : (log more : List Entry) (o : Option (Machine K)) → replay_on app o (log ++ more) ≡ replay_on app (replay_on app o log) more
  replay-append log more None = refl
  replay-append [] more (Some m) = refl
  replay-append (e ∷ log) more (Some m) = replay-append log more (accepts app m e)

  tell-append : (log more : List Entry) (o : Option (Telling K)) → tell_log app o (log ++ more) ≡ tell_log app (tell_log app o log) more
  tell-append log more None = refl
  tell-append [] more (Some t) = refl
  tell-append (e ∷ log) more (Some t) = tell-append log more (told_entry app t e)

  -- a log goes on from where another one ended
  pub logs_join : LogsJoin app
  logs_join limits log more = (
    λ m v h. within-append app limits log more (Some m) ∙ ap (λ (o : Option (Machine K)). replay_within app limits o more) h,
    λ m v h. replay-append log more (Some m) ∙ ap (λ (o : Option (Machine K)). replay_on app o more) h,
    λ t u h. tell-append log more (Some t) ∙ ap (λ (o : Option (Telling K)). tell_log app o more) h,
  )
