-- What a call means whose body comes to an answer.
use Rattle.std.proofs.Common.{Bool, ◌≡◌, sym, ap, ◌∙◌}
use Rattle.std.specs.Prelude.{◌≢◌, Some}
use Rattle.rt_model.specs.OneLog.{types}
use Rattle.rt_model.specs.Program as program
use Rattle.rt_model.specs.Program.{Program, exec}
use Rattle.rt_model.specs.World as model
use Rattle.run_records.specs.Records.{world_of}
use Rattle.author_calls.specs.Calls.{call_of, meaning_of}
use Rattle.author_calls.specs.Turn as turns
use Rattle.author_calls.specs.Turn.{Left, Call}
use Rattle.run_records.specs.declared.faults.CxFault.TheVariants.{OutOfMemory}
use Rattle.author_calls.proofs.ProgramsGoOn.{stand-for}
use Rattle.author_bodies.specs.Comes.{ComesIfRemembered}
use Rattle.author_programs.proofs.Goes.{exec-came, told_by}

module _ {P C Q V H T E L : Type 0} where
  -- a call that comes to its answer means its program
  pub means : {A B : Type 0} (f : A → B) (in_body : Bool) (before after : Call P C Q V H T E L) (p : Program (types C Q V H T E L) B) (a : A)
      → before ≡ turns.begun in_body before.world
      → ComesIfRemembered before after p (f a)
      → after.fault ≢ Some OutOfMemory
      → meaning_of f (turns.ended after a).meaning ≡ exec (world_of before.world) p (program.begun in_body (world_of before.world).given.next)
  means f in_body before after p a fresh comes had =
      let w : model.World (types C Q V H T E L) = world_of before.world in
      let start : call_of before ≡ program.begun in_body w.given.next =
      ap call_of fresh ∙ (stand-for {P = P} {C = C} {Q = Q} {V = V} {H = H} {T = T} {E = E} {L = L} {A = Unit {0}} {B = Unit {0}}).begun in_body before.world in
      sym (ap (exec w p) (sym start) ∙ exec-came w p (call_of before) ∙ ap told_by (comes had))

  -- the turn of such a call
  pub turn-means : {A B : Type 0} (f : A → B) (in_body : Bool) (before after : Call P C Q V H T E L) (p : Program (types C Q V H T E L) B) (a : A) (turn : Left P C Q V H T E L A)
      → before ≡ turns.begun in_body before.world
      → ComesIfRemembered before after p (f a)
      → turn ≡ turns.ended after a
      → turn.meaning.fault ≢ Some OutOfMemory
      → meaning_of f turn.meaning ≡ exec (world_of before.world) p (program.begun in_body (world_of before.world).given.next)
  turn-means {A} f in_body before after p a turn fresh comes is had =
      ap (λ (t : Left P C Q V H T E L A). meaning_of f t.meaning) is ∙
      means f in_body before after p a fresh comes (λ bad. had (ap (λ (t : Left P C Q V H T E L A). t.meaning.fault) is ∙ bad))
