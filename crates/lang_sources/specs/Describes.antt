-- Which source bytes describe.
use Rattle.std.specs.Prelude.{◌≡◌, ◌≤◌, ℕ, List, length, map, IsTrue, Some, option_map, option_and_then, codes}
use Rattle.std.specs.Str.{IsUtf8}
use Rattle.serde_json.specs.Data.{Data}
use Rattle.serde_json.specs.Read.{read}
use Rattle.lang_expressions.specs.Keys.{is_object_of}
use Rattle.lang_expressions.specs.Fields.{list_or_empty}
use Rattle.lang_expressions.specs.Lists.{read_each}
use Rattle.lang_expressions.specs.declared.signatures.Names.{Names}
use Rattle.rt_language.specs.Syntax as language
use Rattle.lang_syntax.specs.Mirror.{literal_of, statements_of, component_of, post_of, input_of}
use Rattle.lang_sources.specs.Inputs.{literal_in}
use Rattle.lang_sources.specs.Signatures.{names_in}
use Rattle.lang_sources.specs.Definitions.{components_at, actions_at, tasks_at}
use Rattle.lang_sources.specs.Whole.{root_in, inputs_in, posts_in, top_keys}
use Rattle.lang_sources.specs.declared.reading.TheConstants.{SOURCE_LIMIT}

-- a value is a source, which says this
pub record IsSource (value : Data) (source : language.Source) : Type 0 where
  pub keys : IsTrue (is_object_of top_keys value)
  -- its keys of contexts, and what its components, actions and tasks are called
  pub names : Names
  pub named : names_in value ≡ Some names
  pub components : option_map (map component_of) (components_at names value) ≡ Some source.components
  -- a component, which has as many params as there are props
  pub root : root_in names value ≡ Some (source.root, length source.props)
  pub props : option_map (map literal_of) (option_and_then (read_each literal_in) (list_or_empty (codes "props") value)) ≡ Some source.props
  pub actions : option_map (map statements_of) (actions_at names value) ≡ Some source.actions
  pub tasks : option_map (map (map statements_of)) (tasks_at names value) ≡ Some source.tasks
  pub inputs : option_map (map input_of) (inputs_in value) ≡ Some source.inputs
  pub posts : option_map (map (map post_of)) (posts_in value) ≡ Some source.posts

-- the bytes are JSON in the form of a source, which says this
pub record Describes (bytes : List ℕ) (source : language.Source) : Type 0 where
  pub size : length bytes ≤ SOURCE_LIMIT
  pub text : IsUtf8 bytes
  -- the value that the text is in JSON
  pub value : Data
  pub json : read bytes ≡ Some value
  pub form : IsSource value source
