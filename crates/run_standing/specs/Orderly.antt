-- A state from which edits can be told.
use Rattle.rt_model.specs.Tree.{Types}
use Rattle.rt_model.specs.Unchanged.{AllSingle}
use Rattle.rt_model.specs.State as model
use Rattle.run_shown.specs.Touched.{KnowParents}

module _ {K : Types} where
  -- no attribute slot has a name twice, and live children know their parents
  pub record IsOrderly (v : model.State K) : Type 0 where
    pub single : AllSingle v
    pub know : KnowParents v
