-- Where nothing that a body read has changed it would answer the same again.
use Rattle.std.specs.Prelude.{true, ◌≡◌}
use Rattle.rt_model.specs.Tree.{Types, Element}
use Rattle.rt_model.specs.World.{Source, Meaning, Application}
use Rattle.rt_model.specs.Laws.{SameAt, IsLawful}
use Rattle.rt_model.specs.State.{Scope, LastCall, State, values_of}
use Rattle.rt_model.specs.Commands.{names_source}
use Rattle.rt_model.specs.Run.{body_of}
use Rattle.rt_model.specs.Current.{Repeats, again}

module _ {K : Types} where
  -- what is kept of the last call of a scope is what that call meant
  pub record CallStands (x : Scope K) (last : LastCall K) (m : Meaning K (Element K)) : Type 0 where
    pub answer : last.answer ≡ m.answer
    pub reads : x.reads ≡ m.reads
    pub aside : last.aside ≡ m.aside

  -- each source that it recorded has the value that it had then
  abbrev pub Fresh : State K → Scope K → LastCall K → Type 0
  Fresh w x last =
      (i : Source) → names_source x.reads i ≡ true → SameAt last.given (record { given = last.given.given; values = values_of w }) i

-- then the body would give the same again
abbrev pub FreshRepeats : {K : Types} → Application K → Type 0
FreshRepeats {K = K} app =
    IsLawful K app
    → (w : State K) (x : Scope K) (last : LastCall K)
    → CallStands x last (body_of app x.component last.given)
    → Fresh w x last
    → Repeats x last (again app w x last)
