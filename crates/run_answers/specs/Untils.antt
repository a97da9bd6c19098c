-- Up to where a call goes on, by the definitions.
use Rattle.law_behavior.specs.Doms as doms
use Rattle.run_answers.specs.declared.until.Until.{Until}
use Rattle.run_answers.specs.declared.until.Until.TheVariants as untils

abbrev pub until_of : Until → doms.Until
until_of untils.Events = doms.Events
until_of untils.Renders = doms.Renders
until_of untils.Settles = doms.Settles
