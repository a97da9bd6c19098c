-- From each machine at most one move goes on.
use Rattle.std.proofs.Common.{true, false, List, [], ◌∷◌, ◌≡◌, refl, sym, ap, ◌∙◌}
use Rattle.std.specs.Prelude.{Option, Some, None}
use Rattle.rt_model.specs.Tree.{Types}
use Rattle.rt_model.specs.World.{Application}
use Rattle.rt_model.specs.State.{Fault, Item}
use Rattle.rt_model.specs.Replay.{Entry, Machine, ended_by, mounted_state, outcome_of, change_by}
use Rattle.rt_model.specs.Causes.{Limits}
use Rattle.law_moves.specs.Moves.{Silent, Closed, Logged, moves_alone, IsSettled, IsSilent, IsClosed, IsLogged}
use Rattle.law_moves.specs.Laws.{OneMove}

module _ {K : Types} where
  -- a machine that moves alone isn't settled
  pub unsettled : {P : Type 0} (m : Machine K) (work : List (Item K)) → m.dead ≡ None → m.work ≡ work → moves_alone None work m.unit ≡ true → IsSettled m → P
  unsettled m work alive next alone settled =
      let absurdity : true ≡ false =
      sym alone
      ∙ ap (λ (items : List (Item K)). moves_alone None items m.unit) (sym next)
      ∙ ap (λ (o : Option Fault). moves_alone o m.work m.unit) (sym alive)
      ∙ settled in
      cc

module _ {K : Types} (app : Application K) where
  -- where a machine comes by itself, from its open work on
  abbrev by_itself : Machine K → List (Item K) → Machine K
  by_itself m [] = record m { unit = false; state = mounted_state m.state }
  by_itself m (item ∷ rest) = ended_by m (Some item) rest (outcome_of app m.state item)

  silent_comes : (m u : Machine K) → IsSilent app m u → u ≡ by_itself m m.work
  silent_comes m u h = h.gives ∙ ap (λ (items : List (Item K)). by_itself m items) (sym h.next)

  closed_comes : (m u : Machine K) → IsClosed m u → u ≡ by_itself m m.work
  closed_comes m u h = h.gives ∙ ap (λ (items : List (Item K)). by_itself m items) (sym h.idle)

  silent_unsettled : {P : Type 0} (m u : Machine K) → IsSilent app m u → IsSettled m → P
  silent_unsettled m u h settled = unsettled m (h.item ∷ h.later) h.alive h.next h.silent settled

  closed_unsettled : {P : Type 0} (m u : Machine K) → IsClosed m u → IsSettled m → P
  closed_unsettled m u h settled = unsettled m [] h.alive h.idle h.at_work settled

  -- work can't be left and be done
  not_both : {P : Type 0} (m u v : Machine K) → IsSilent app m u → IsClosed m v → P
  not_both m u v g h =
      let absurdity : g.item ∷ g.later ≡ [] = sym g.next ∙ h.idle in
      cc

  same_entry : (limits : Limits) (m : Machine K) (e f : Entry) (u v : Machine K) → IsLogged app limits m e u → IsLogged app limits m f v → (Logged e ≡ Logged f) × (u ≡ v)
  same_entry limits m e f u v g h =
      let due : Some e ≡ Some f = sym g.due_is ∙ h.due_is in
      let same : e ≡ f = cc in
      (ap Logged same, g.gives ∙ ap (λ (x : Entry). change_by app m m.work x) same ∙ sym h.gives)

  pub one_move : OneMove app
  one_move limits m Silent Silent u v g h = (refl, silent_comes m u g ∙ sym (silent_comes m v h))
  one_move limits m Closed Closed u v g h = (refl, closed_comes m u g ∙ sym (closed_comes m v h))
  one_move limits m (Logged e) (Logged f) u v g h = same_entry limits m e f u v g h
  one_move limits m Silent Closed u v g h = not_both m u v g h
  one_move limits m Closed Silent u v g h = not_both m v u h g
  one_move limits m Silent (Logged f) u v g h = silent_unsettled m u g h.settled
  one_move limits m (Logged e) Silent u v g h = silent_unsettled m v h g.settled
  one_move limits m Closed (Logged f) u v g h = closed_unsettled m u g h.settled
  one_move limits m (Logged e) Closed u v g h = closed_unsettled m v h g.settled
