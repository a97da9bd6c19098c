-- A session that comes to a fault has no valid inputs, and comes to no other fault.
use Rattle.std.proofs.Common.{Bool, true, false, List, [], ◌∷◌, ◌++◌, ◌≡◌, refl, sym, ap, ◌∙◌, subst}
use Rattle.std.specs.Prelude.{Option, Some, None, if◌then◌else◌}
use Rattle.rt_model.specs.Lists.{joined}
use Rattle.rt_model.specs.Tree.{Types}
use Rattle.rt_model.specs.World.{Application}
use Rattle.rt_model.specs.State.{Fault}
use Rattle.rt_model.specs.Replay.{Entry, Machine, due, step, is_due, start}
use Rattle.rt_model.specs.Causes.{Limits, refusal, replay_within}
use Rattle.rt_model.specs.Reports.{logs_of}
use Rattle.rt_model.specs.Finished.{FaultIsInvalid, OneFault}
use Rattle.rt_model.proofs.OneLogOnly.{is_due-same}

module _ {K : Types} (app : Application K) (limits : Limits) where
  -- what accepts an entry: nothing is refused before it, and it is due
  abbrev pub gate : Option Fault → Bool → Machine K → Option (Machine K)
  gate o b v = elim o [ None ↦ if b then Some v else None | Some fault ↦ None ]

  -- an accepted log begins with an entry that is due
  pub open_gate : (o : Option Fault) (b : Bool) (x : Machine K) (log : List Entry) (v : Machine K) → replay_within app limits (gate o b x) log ≡ Some v
      → (o ≡ None) × (b ≡ true) × (replay_within app limits (Some x) log ≡ Some v)
  open_gate None true x log v h = (refl, refl, h)
  open_gate None false x log v h = cc
  open_gate (Some f) b x log v h = cc

  two : (m v u : Machine K) (log other : List Entry) (f g : Fault)
      → replay_within app limits (Some m) log ≡ Some v
      → replay_within app limits (Some m) other ≡ Some u
      → refusal limits v ≡ Some f
      → refusal limits u ≡ Some g
      → f ≡ g
  two m v u [] [] f g p q a b =
      let x : refusal limits m ≡ Some f = let e : m ≡ v = cc in ap (λ (y : Machine K). refusal limits y) e ∙ a in
      let y : refusal limits m ≡ Some g = let e : m ≡ u = cc in ap (λ (z : Machine K). refusal limits z) e ∙ b in
      cc
  two m v u [] (e ∷ es) f g p q a b =
      let x : refusal limits m ≡ Some f = let e : m ≡ v = cc in ap (λ (y : Machine K). refusal limits y) e ∙ a in
      let o = open_gate (refusal limits m) (is_due app (due app m) e) (step app m e) es u q in
      let n : refusal limits m ≡ None = o.0 in
      cc
  two m v u (e ∷ es) [] f g p q a b =
      let x : refusal limits m ≡ Some g = let e : m ≡ u = cc in ap (λ (y : Machine K). refusal limits y) e ∙ b in
      let o = open_gate (refusal limits m) (is_due app (due app m) e) (step app m e) es v p in
      let n : refusal limits m ≡ None = o.0 in
      cc
  two m v u (e ∷ es) (d ∷ ds) f g p q a b =
      let o = open_gate (refusal limits m) (is_due app (due app m) e) (step app m e) es v p in
      let r = open_gate (refusal limits m) (is_due app (due app m) d) (step app m d) ds u q in
      let heads : e ≡ d = is_due-same app (due app m) e d o.1 r.1 in
      let rest : replay_within app limits (Some (step app m e)) ds ≡ Some u = subst (λ (x : Entry). replay_within app limits (Some (step app m x)) ds ≡ Some u) (sym heads) r.2 in
      two (step app m e) v u es ds f g o.2 rest a b

module _ {K : Types} (app : Application K) where
  pub fault_is_invalid : FaultIsInvalid app
  fault_is_invalid props inputs limits taken reports fault came valid =
      let n : refusal limits (came.stopped).last.machine ≡ None = valid (joined (logs_of reports) ++ (came.stopped).log) (came.stopped).last.machine (came.stopped).within in
      let s : refusal limits (came.stopped).last.machine ≡ Some fault = (came.stopped).cause in
      cc

  pub one_fault : OneFault app
  one_fault props inputs limits taken also reports others fault other came later =
      two app limits (start app props inputs) (came.stopped).last.machine (later.stopped).last.machine (joined (logs_of reports) ++ (came.stopped).log) (joined (logs_of others) ++ (later.stopped).log) fault other
      (came.stopped).within
      (later.stopped).within
      (came.stopped).cause
      (later.stopped).cause
