-- The clean-ups among hooks.
use Rattle.std.specs.Prelude.{nat_eq, List, [], ◌∷◌, if◌then◌else◌}
use Rattle.rt_model.specs.Tree.{Types}
use Rattle.rt_model.specs.World.{Hook, HookValue, HookEffect, clean_up_kind}

module _ {K : Types} where
  -- the effect of a hook, where it is a clean-up
  abbrev pub own_clean_up : Hook K → List K.Effect
  own_clean_up (HookValue kind value) = []
  own_clean_up (HookEffect kind effect) = if nat_eq kind clean_up_kind then effect ∷ [] else []
