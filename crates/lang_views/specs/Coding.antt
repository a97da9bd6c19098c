-- How what a memo or a resource is of is coded: as that of the code, which mirrors it.
use Rattle.std.specs.Coded.{Coded, code_by}
use Rattle.rt_language.specs.Syntax as language
use Rattle.lang_syntax.specs.Coding.{derived_from}
use Rattle.lang_syntax.specs.Mirror.{derived_of}
use Rattle.lang_syntax.specs.contracts.derived.Derived as derived
use Rattle.lang_syntax.specs.declared.derived.Derived.{Derived}
use Rattle.lang_syntax.proofs.Coding.{derived_back}

-- what a memo or a resource is of
abbrev pub derived_code : Coded language.Derived
derived_code = code_by Derived derived.the_row.coded derived_from derived_of derived_back
