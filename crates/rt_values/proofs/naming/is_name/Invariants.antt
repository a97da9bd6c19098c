-- The bytes behind decide.
use Rattle.std.proofs.Common.{◌≡◌, drop}
use Rattle.std.specs.List.{list_all}
use Rattle.rt_values.specs.Naming.{is_name_byte}
use Rattle.rt_values.proofs.naming.is_name.Given as goal

abbrev pub invariant-loop-byte : goal.invariant-loop-byte
invariant-loop-byte l = list_all is_name_byte l.text ≡ list_all is_name_byte (drop l.byte-index l.text)
