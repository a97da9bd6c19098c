-- A sink that wanted memory has taken nothing more.
use Rattle.std.proofs.Common.{◌≡◌, refl, ap, List, [], ◌∷◌, ◌++◌}
use Rattle.std.specs.Prelude.{Option, Some, None}
use Rattle.rt_edits.specs.Sinks.{grown}
use Rattle.rt_edits.specs.declared.edit.Edit.{Edit}

none_after : (es : List Edit) → es ≡ es ++ []
none_after [] = refl
none_after (e ∷ es) = ap (λ (xs : List Edit). e ∷ xs) (none_after es)

pub no_more : (taken : Option (List Edit)) → taken ≡ grown taken []
no_more None = refl
no_more (Some es) = ap (λ (xs : List Edit). Some xs) (none_after es)
