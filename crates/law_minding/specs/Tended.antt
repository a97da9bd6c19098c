-- Memos and resources of a runtime that a program keeps: what is asked of the calls between its moves that log no entry.
use Rattle.std.specs.Prelude.{ℕ, nat_eq, Bool, true, false, List, [], ◌∷◌, Some, None, ◌≡◌, is_some}
use Rattle.std.specs.List.{AllByRecursion}
use Rattle.rt_model.specs.Lists.{at}
use Rattle.rt_model.specs.Laws.{IsLawful}
use Rattle.rt_model.specs.Tree.{Types}
use Rattle.rt_model.specs.World.{Command, Application}
use Rattle.rt_model.specs.State.{TaskRow, State}
use Rattle.rt_model.specs.Commands.{unqueued}
use Rattle.rt_model.specs.Next.{is_active, next}
use Rattle.rt_model.specs.Replay.{Poll, Input, Machine}
use Rattle.rt_model.specs.Asides.{Aside, Asked, Passed, Polling, Advanced}
use Rattle.rt_model.specs.Causes.{Limits}
use Rattle.law_moves.specs.Moves.{Move, Logged, Leads}
use Rattle.law_behavior.specs.Deeds.{Deed, poll_deeds}
use Rattle.law_moves.specs.Reached.{Part, ByMoves, ByAside, Comes, Reached}
use Rattle.author_formulas.specs.Formulas.{Formulas, FormulasLook}
use Rattle.author_formulas.specs.Memos.{MemoTask, fresh, PollsMemos}
use Rattle.law_minding.specs.Held.{Since, Spares, next_poll_world, after_poll, HeldOn, held_to, IsFresh, IsKept}

module _ {K : Types} {F : Type 0} (app : Application K) where
  -- such a call spares a task: it polls another one at most, passes over nothing, and no command of it writes or drops the cell, resets
  -- the context or reads into it
  abbrev pub AsideSpares : State K → ℕ → MemoTask K.Value F → Aside K → Type 0
  AsideSpares w t x (Asked s firsts cs) = AllByRecursion (λ (c : Command K). Spares x c) cs
  AsideSpares w t x (Advanced u) =
      (nat_eq u t ≡ false)
      × AllByRecursion
      (λ (d : Deed K). AllByRecursion (λ (c : Command K). Spares x c) d.wants)
      (poll_deeds app (unqueued w u) u (at w.tasks u))
  AsideSpares w t x Passed = ⊥
  AsideSpares w t x Polling = ⊥
  AsideSpares w t x _ = Unit {0}

module _ {K : Types} {F : Type 0} (a : Formulas K F) (app : Application K) where
  -- along moves and such calls each spares it
  abbrev pub HeldThrough :
      (limits : Limits) (t scope owner : ℕ) (h : Since K F) (m v : Machine K) (parts : List (Part K))
      → Comes app limits m parts v
      → Type 0
  HeldThrough limits t scope owner h m v [] comes = Unit {0}
  HeldThrough limits t scope owner h m v (ByMoves moves ∷ parts) comes =
      HeldOn a app limits t scope owner h m comes.0 moves comes.1
      × HeldThrough limits t scope owner (held_to a app limits t scope h m comes.0 moves comes.1) comes.0 v parts comes.2
  HeldThrough limits t scope owner h m v (ByAside x ∷ parts) comes =
      AsideSpares app m.state t h.place x × HeldThrough limits t scope owner h comes.0 v parts comes.2

  -- where the task stands at their end
  abbrev pub held_through :
      (limits : Limits) (t scope : ℕ) (h : Since K F) (m v : Machine K) (parts : List (Part K))
      → Comes app limits m parts v
      → Since K F
  held_through limits t scope h m v [] comes = h
  held_through limits t scope h m v (ByMoves moves ∷ parts) comes =
      held_through limits t scope (held_to a app limits t scope h m comes.0 moves comes.1) comes.0 v parts comes.2
  held_through limits t scope h m v (ByAside x ∷ parts) comes = held_through limits t scope h comes.0 v parts comes.2

module _ {K : Types} {F : Type 0} (a : Formulas K F) (app : Application K) (state : MemoTask K.Value F → K.TaskState) where
  -- so it is along all parts of a program's way with a runtime: from its first poll on, a memo or a resource that nobody else touches is
  -- kept, wherever nothing is owed and its task is active
  abbrev pub TendedAreKept : Type 0
  TendedAreKept =
      IsLawful K app
      → FormulasLook a
      → PollsMemos a app state
      → (limits : Limits) (props : K.Props) (inputs : List (Input K)) (m u v : Machine K) (moves : List Move) (parts : List (Part K))
      → (t cell scope owner : ℕ) (f : F) (loads : Bool)
      → (leads : Leads app limits m (Logged (Poll t) ∷ moves) u)
      → (comes : Comes app limits u parts v)
      → Reached app limits props inputs m
      → IsFresh state m.state t cell scope owner f loads
      → is_some (at m.state.scopes scope) ≡ true
      → at m.state.contexts m.state.next.contexts ≡ None
      → let first = after_poll a (next_poll_world m t scope) t (fresh cell f loads) in
      let then_on = held_to a app limits t scope first leads.0 u moves leads.2 in
      HeldOn a app limits t scope owner first leads.0 u moves leads.2
      → HeldThrough a app limits t scope owner then_on u v parts comes
      → v.dead ≡ None
      → next v.state ≡ None
      → is_active v.state t ≡ true
      → (task : TaskRow K)
      → at v.state.tasks t ≡ Some task
      → IsKept a v.state t task (held_through a app limits t scope then_on u v parts comes)
