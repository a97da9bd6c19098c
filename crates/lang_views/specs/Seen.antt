-- What contracts see of a value.
use Rattle.rt_language.specs.Values as language
use Rattle.lang_views.specs.declared.value.Content.{Content}
use Rattle.lang_views.specs.declared.value.Content.TheVariants as contents

-- the value with this content
abbrev pub value_of : Content → language.Value
value_of contents.None = language.NoValue
value_of (contents.Number n) = language.NumberValue n
value_of (contents.Text t) = language.TextValue t
value_of (contents.Cell c) = language.CellValue c
value_of (contents.Task t) = language.TaskValue t
