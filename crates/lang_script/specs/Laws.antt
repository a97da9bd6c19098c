-- A script is lawful, and means what its source does.
use Rattle.std.specs.Prelude.{List, [], ◌≡◌}
use Rattle.std.proofs.Common.{ap}
use Rattle.rt_model.specs.Laws.{IsLawful}
use Rattle.rt_model.specs.Program.{body_means}
use Rattle.rt_model.proofs.Lawful.{mean_alike, programs_are_lawful}
use Rattle.rt_language.specs.Values.{Value}
use Rattle.rt_language.specs.Expressions.{SourceTypes}
use Rattle.rt_language.specs.Meaning.{meaning_of, props_of}
use Rattle.rt_language.specs.Syntax as language
use Rattle.rt_language.proofs.Lawful.{sources_are_lawful}
use Rattle.lang_script.specs.Applications.{programs_of_script, meaning_of_script, props_of_script}
use Rattle.lang_script.specs.declared.script.Script.{Script}

-- the calls of the script mean what those of the source do, and the root that it names has the props that the source gives it
pub record MeansSource (script : Script) (source : language.Source) : Type 0 where
  pub application : meaning_of_script script ≡ meaning_of source
  pub props : props_of_script script ≡ props_of source

-- a source of nothing
abbrev no_source : language.Source
no_source = record { components = []; root = 0; props = []; actions = []; tasks = []; inputs = []; posts = [] }

-- the application of every script obeys the laws
pub scripts_are_lawful : (s : Script) → IsLawful SourceTypes (meaning_of_script s)
scripts_are_lawful s =
    let laws : IsLawful SourceTypes (meaning_of no_source) = sources_are_lawful no_source in
    programs_are_lawful SourceTypes (programs_of_script s)
    (λ c p q h w. mean_alike (body_means ((programs_of_script s).body c p) w) (body_means ((programs_of_script s).body c q) w)
    (ap (λ (props : List Value). body_means ((programs_of_script s).body c props) w) (laws.tests_props.0 p q h)))
    laws.tests_components
    laws.tests_props
    laws.tests_values
    laws.tests_handlers
