-- The values that a component is handed.
use Rattle.std.specs.Prelude.{List, [], ◌∷◌}
use Rattle.rt_language.specs.Values as language
use Rattle.lang_views.specs.declared.props.Handed.{Handed}
use Rattle.lang_views.specs.declared.props.Handed.TheVariants as handed

-- one value alone, or those of a list
abbrev pub values_in : Handed → List language.Value
values_in (handed.One value) = value ∷ []
values_in (handed.All values) = values
