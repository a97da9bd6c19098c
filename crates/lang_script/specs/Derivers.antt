-- Who computes the memos and resources of a source.
use Rattle.lang_script.specs.declared.memos.Deriver.{Deriver}

-- the only one
abbrev pub deriver : Deriver
deriver = record {}
