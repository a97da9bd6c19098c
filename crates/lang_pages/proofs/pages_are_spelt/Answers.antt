use Rattle.lang_pages.proofs.Put.{names_are_spelt, none_is_unspelt, safe_is_servable}
use Rattle.lang_pages.proofs.pages_are_spelt.Goals as goal

pub returns-clause-names : goal.returns-clause-names
returns-clause-names c = names_are_spelt

pub returns-clause-none : goal.returns-clause-none
returns-clause-none c = none_is_unspelt

pub returns-clause-servable : goal.returns-clause-servable
returns-clause-servable c = safe_is_servable
