-- What an author shows of programs, and that an application of them is lawful then.
use Rattle.std.specs.Prelude.{◌≡◌}
use Rattle.rt_model.specs.Laws.{IsLawful, Tests}
use Rattle.rt_model.specs.Program.{Programs, application_of}
use Rattle.rt_model.specs.Tree.{Types}
use Rattle.author_programs.proofs.Lawful.{memoized_are_lawful}

-- each test of an application of programs decides, and a component means the same with equal props
pub record ProgramsDecide (K : Types) (a : Programs K) : Type 0 where
  pub memoized : (c : K.Component) (p q : K.Props) → a.memoize c p q ≡ a.same_props p q
  pub components : Tests K.Component a.same_component
  pub props : Tests K.Props a.same_props
  pub values : Tests K.Value a.same_value
  pub handlers : Tests K.Handler a.same_handler

-- so it is lawful
pub bodies_are_lawful : (K : Types) (a : Programs K) → ProgramsDecide K a → IsLawful K (application_of a)
bodies_are_lawful K a h = memoized_are_lawful K a h.memoized h.components h.props h.values h.handlers
