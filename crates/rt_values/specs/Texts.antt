-- The bytes of a text.
use Rattle.std.specs.Prelude.{ℕ, List, string_bytes}
use Rattle.rt_values.specs.declared.text.Kept.{Kept}
use Rattle.rt_values.specs.declared.text.Kept.TheVariants as kept

-- they are those of its string, whoever has it
abbrev pub bytes_in : Kept → List ℕ
bytes_in (kept.Own string) = string_bytes string
bytes_in (kept.Common string) = string_bytes string.value
