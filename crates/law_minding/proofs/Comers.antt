-- Who comes fresh along moves stands so at their end.
use Rattle.std.proofs.Common.{ℕ, Bool, true, List, [], ◌∷◌, ◌≡◌, refl, ap, ◌∙◌}
use Rattle.std.specs.Prelude.{Option, Some, None, is_some}
use Rattle.rt_model.specs.Lists.{at}
use Rattle.rt_model.specs.Laws.{IsLawful}
use Rattle.rt_model.specs.Tree.{Types}
use Rattle.rt_model.specs.World.{Application}
use Rattle.rt_model.specs.State.{CellRow, TaskRow}
use Rattle.rt_model.specs.Replay.{Machine}
use Rattle.rt_model.specs.Causes.{Limits}
use Rattle.rt_model.proofs.Members.{clash}
use Rattle.law_moves.specs.Moves.{Move, Leads}
use Rattle.author_formulas.specs.Formulas.{Formulas}
use Rattle.author_formulas.specs.Memos.{MemoTask}
use Rattle.law_minding.specs.Unpolled.{StandsFresh}
use Rattle.law_minding.specs.Coming.{ComesFresh, ComersStand}
use Rattle.law_minding.proofs.Coming.{spawned_stand}
use Rattle.law_minding.proofs.Unpolled.{fresh_stay}

module _
    {K : Types} {F : Type 0} (a : Formulas K F) (app : Application K) (state : MemoTask K.Value F → K.TaskState) (lawful : IsLawful K app)
    (limits : Limits) (t cell scope : ℕ) (held : CellRow K) (f : F) (loads : Bool) where
  -- at the end of moves it stands fresh, where it is there
  abbrev Comes : (m v : Machine K) (moves : List Move) → Leads app limits m moves v → Type 0
  Comes m v moves leads =
      at m.state.tasks t ≡ None
      → ComesFresh a app state limits t cell scope held f loads m v moves leads
      → is_some (at v.state.tasks t) ≡ true
      → StandsFresh state v.state t cell scope held f loads

  -- by what the first move leaves: who isn't there yet comes later, and who is there stays as it stands
  one_comes : (m v : Machine K) (move : Move) (moves : List Move) (leads : Leads app limits m (move ∷ moves) v)
      → Comes leads.0 v moves leads.2
      → Comes m v (move ∷ moves) leads
  one_comes m v move moves leads later none comes there = by (at leads.0.state.tasks t) refl
    where
      by : (o : Option (TaskRow K)) → at leads.0.state.tasks t ≡ o → StandsFresh state v.state t cell scope held f loads
      by None gone = later gone (comes.1 gone) there
      by (Some x) is =
          let here : is_some (at leads.0.state.tasks t) ≡ true = ap (λ (o : Option (TaskRow K)). is_some o) is in
          let spared = comes.2 here in
          fresh_stay a app state lawful limits leads.0 v moves t cell scope held f loads leads.2
          (spawned_stand a app state lawful limits m leads.0 move t cell scope held f loads leads.1 none comes.0 spared.0 spared.1 here)
          spared.2 there

  all_come : (m v : Machine K) (moves : List Move) (leads : Leads app limits m moves v) → Comes m v moves leads
  all_come m v [] leads none comes there =
      clash there (ap (λ (z : Machine K). is_some (at z.state.tasks t)) leads ∙ ap (λ (o : Option (TaskRow K)). is_some o) none)
  all_come m v (move ∷ moves) leads none comes there =
      one_comes m v move moves leads (λ gone later here. all_come leads.0 v moves leads.2 gone later here) none comes there

pub comers_stand : {K : Types} {F : Type 0} (a : Formulas K F) (app : Application K) (state : MemoTask K.Value F → K.TaskState) → ComersStand a app state
comers_stand a app state lawful limits m v moves t cell scope held f loads leads =
    all_come a app state lawful limits t cell scope held f loads m v moves leads
