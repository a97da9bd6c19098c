-- What the formulas of memos and resources are, and what is asked of them.
use Rattle.std.specs.Prelude.{ℕ, Bool, false}
use Rattle.rt_model.specs.Laws.{Tests}
use Rattle.rt_model.specs.Program.{Program, begun}
use Rattle.rt_model.specs.Tree.{Types}
use Rattle.rt_model.specs.World.{World}
use Rattle.author_programs.specs.Came.{came}
use Rattle.author_formulas.specs.Looking.{Looks}

-- what a resource has at a step of loading
pub data Load (V : Type 0) : Type 0 where
  wait : Load V
  loaded : V → Load V

-- what formulas are
pub record Formulas (K : Types) (F : Type 0) : Type 0 where
  -- the value of a memo, or the key of a resource
  pub computes : F → Program K K.Value
  -- what a resource has for a key at a step; the first step is 0
  pub loads : F → K.Value → ℕ → Load K.Value
  -- what a cell holds that has no value yet
  pub empty : K.Value
  -- whether two values are equal
  pub same : K.Value → K.Value → Bool

module _ {K : Types} {F : Type 0} where
  -- what is asked of formulas: each only looks, and the test of values decides
  pub record FormulasLook (a : Formulas K F) : Type 0 where
    pub looks : (f : F) → Looks (a.computes f)
    pub values : Tests K.Value a.same

  -- the value of a formula in a world, where the cells below a number are drawn
  abbrev pub value_of : Formulas K F → World K → ℕ → F → K.Value
  value_of a w cells f = (came w (a.computes f) (begun false (record (w.given.next) { cells = cells }))).answer
