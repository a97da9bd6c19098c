-- One program after another, as code makes them: the world stays, and the call goes on from where it came.
use Rattle.std.proofs.Common.{◌≡◌, ◌∙◌, ap, sym}
use Rattle.author_bodies.specs.Comes.{Comes}
use Rattle.run_records.specs.Records.{world_of}
use Rattle.author_calls.specs.Calls.{call_of}
use Rattle.author_calls.specs.Turn.{Call}
use Rattle.rt_model.specs.OneLog.{types}
use Rattle.rt_model.specs.Program.{Program}
use Rattle.author_programs.proofs.Steps.{on}
use Rattle.author_programs.specs.Came.{Came, came}
use Rattle.author_programs.specs.Sequence.{go_on}

module _ {P C Q V H T E L : Type 0} where
  -- the first comes to an answer, and what follows of that comes to the last one
  pub one_after : {A B : Type 0} (before middle after : Call P C Q V H T E L) (p : Program (types C Q V H T E L) A) (f : A → Program (types C Q V H T E L) B) (a : A) (b : B)
      → middle.world ≡ before.world
      → Comes before middle p a
      → Comes middle after (f a) b
      → Comes before after (go_on p f) b
  one_after {A} before middle after p f a b stays first second =
      let w = world_of before.world in
      on w p f (call_of before)
      ∙ ap (λ (x : Came (types C Q V H T E L) A). came w (f x.answer) x.call) first
      ∙ ap (λ v. came (world_of v) (f a) (call_of middle)) (sym stays)
      ∙ second
