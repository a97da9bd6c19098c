-- What is run of a source.
use Rattle.std.specs.Prelude.{◌≡◌, List}
use Rattle.rt_model.specs.Replay.{Input}
use Rattle.rt_language.specs.Syntax.{Source}
use Rattle.rt_language.specs.Values.{Value}
use Rattle.rt_language.specs.Expressions.{SourceTypes}
use Rattle.rt_language.specs.Meaning.{inputs_of}
use Rattle.lang_script.specs.Applications.{props_of_script}
use Rattle.lang_script.specs.Laws.{MeansSource}
use Rattle.lang_script.specs.declared.script.Script.{Script}

-- the calls of a script are those of a source
unfoldable pub IsMeant : Script → Source → Type 0
IsMeant script said = MeansSource script said

-- a script with the props of its root and its inputs is made of a source
pub record MadeOf (said : Source) (script : Script) (props : List Value) (inputs : List (Input SourceTypes)) : Type 0 where
  pub means : IsMeant script said
  pub props_are : props ≡ props_of_script script
  pub inputs_are : inputs ≡ inputs_of said.inputs
