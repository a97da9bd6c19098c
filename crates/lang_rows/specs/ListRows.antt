-- Worked rows of how many items a list has.
use Rattle.std.specs.Prelude.{pos, negsuc, codes, ◌≡◌}
use Rattle.rt_language.specs.Values.{NoValue, NumberValue, TextValue, CellValue, item_count}

-- the row of counts: above 10,000 there are 10,000 items; below 0, and of no number, there is none
abbrev pub CountRow : Type 0
CountRow =
    (item_count (NumberValue (pos 9999)) ≡ 9999)
    ×
    (item_count (NumberValue (pos 10000)) ≡ 10000)
    ×
    (item_count (NumberValue (pos 10001)) ≡ 10000)
    ×
    (item_count (NumberValue (pos 9223372036854775807)) ≡ 10000)
    ×
    (item_count (NumberValue (negsuc 0)) ≡ 0)
    ×
    (item_count NoValue ≡ 0)
    ×
    (item_count (TextValue (codes "3")) ≡ 0)
    ×
    (item_count (CellValue 3) ≡ 0)
