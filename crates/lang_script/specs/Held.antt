-- Values that hold no cell, no task or no number of a scope.
use Rattle.std.specs.Prelude.{pos, negsuc}
use Rattle.rt_language.specs.Values.{Value, NoValue, NumberValue, TextValue, CellValue, TaskValue}

-- the value is no cell
abbrev pub IsNoCell : Value → Type 0
IsNoCell (CellValue c) = ⊥
IsNoCell NoValue = Unit {0}
IsNoCell (NumberValue n) = Unit {0}
IsNoCell (TextValue t) = Unit {0}
IsNoCell (TaskValue t) = Unit {0}

-- the value is no task
abbrev pub IsNoTask : Value → Type 0
IsNoTask (TaskValue t) = ⊥
IsNoTask NoValue = Unit {0}
IsNoTask (NumberValue n) = Unit {0}
IsNoTask (TextValue t) = Unit {0}
IsNoTask (CellValue c) = Unit {0}

-- the value is no number of at least 0
abbrev pub IsNoScope : Value → Type 0
IsNoScope (NumberValue (pos n)) = ⊥
IsNoScope (NumberValue (negsuc n)) = Unit {0}
IsNoScope NoValue = Unit {0}
IsNoScope (TextValue t) = Unit {0}
IsNoScope (CellValue c) = Unit {0}
IsNoScope (TaskValue t) = Unit {0}
