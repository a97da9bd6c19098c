-- A poll that no fault ends does what the definitions' poll asks for.
use Rattle.std.proofs.Common.{◌≡◌, refl, sym, ap, ◌∙◌}
use Rattle.std.specs.Prelude.{Option, Some, None}
use Rattle.rt_model.specs.Lists.{at}
use Rattle.rt_model.specs.Tree.{Types}
use Rattle.rt_model.specs.World.{CallFault, Application}
use Rattle.rt_model.specs.State.{State}
use Rattle.rt_model.specs.Next.{look, at_rest}
use Rattle.rt_model.specs.Run.{fault_of}
use Rattle.author_programs.specs.Came.{Came}
use Rattle.author_formulas.specs.Formulas.{Formulas}
use Rattle.author_formulas.specs.Memos.{MemoTask}
use Rattle.law_minding.specs.Held.{PollsAreDone}
use Rattle.law_minding.proofs.Rested.{rest_leaves, poll, leaves, polled_state, polled_faults}

pub polls_are_done : {K : Types} {F : Type 0} (a : Formulas K F) (app : Application K) (state : MemoTask K.Value F → K.TaskState) → PollsAreDone a app state
polls_are_done {K = K} {F = F} a app state polls limits m u t task x step there stands alive = by asked.call.fault refl
  where
    rested : at (at_rest m.state).tasks t ≡ Some task
    rested = ap (λ (z : State K). at z.tasks t) (rest_leaves m.state) ∙ there

    asked : Came K (MemoTask K.Value F)
    asked = poll app t a state polls m u limits step task x rested stands

    by : (o : Option CallFault) → asked.call.fault ≡ o → u.state ≡ look (leaves app t a state polls m u limits step task x rested stands)
    by None e = polled_state app t a state polls m u limits step task x rested stands e
    by (Some f) e =
        let dead : u.dead ≡ Some (fault_of f) = polled_faults app t a state polls m u limits step task x rested stands f e in
        let absurdity : None ≡ Some (fault_of f) = sym alive ∙ dead in
        cc
