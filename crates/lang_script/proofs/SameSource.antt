-- A script whose components mean those of a source means the source.
use Rattle.std.proofs.Common.{ℕ, List, map, ◌≡◌, refl, sym, ap, ◌∙◌}
use Rattle.std.specs.Prelude.{Option, Some, None, option_map}
use Rattle.rt_model.specs.Lists.{nth}
use Rattle.rt_model.specs.Program.{Program, done, application_of}
use Rattle.rt_model.specs.Tree.{Element, rendered, placeholder_tree}
use Rattle.rt_language.specs.Expressions.{SourceTypes, ABody}
use Rattle.rt_language.specs.Meaning as language
use Rattle.rt_language.specs.Meaning.{programs_of}
use Rattle.rt_language.specs.Sequence.{go_on}
use Rattle.rt_language.specs.Statements.{frame_of, Outcome, WentOn, EndedWith, WasRefused, run_statements}
use Rattle.rt_language.specs.Syntax.{View, ComponentSource}
use Rattle.rt_language.specs.Values.{Value}
use Rattle.lang_syntax.specs.Mirror.{source_of}
use Rattle.lang_syntax.specs.declared.source.Source.{Source}
use Rattle.lang_views.specs.Meant.{Component, plan_meant, component_meant, view_meant}
use Rattle.lang_views.specs.declared.plan.ComponentPlan.{ComponentPlan}
use Rattle.lang_script.specs.Applications.{answered, body_of}
use Rattle.lang_script.specs.Laws.{MeansSource}
use Rattle.lang_script.specs.declared.script.Script.{Script}
use Rattle.lang_script.proofs.Places.{nth-map}

-- the body of a component, by what the component means
abbrev by_meaning : Option Component → List Value → Program SourceTypes (Element SourceTypes)
by_meaning None props = done (rendered placeholder_tree)
by_meaning (Some m) props = go_on (run_statements ABody (frame_of props) m.statements) (λ o. answered m.view o)

planned_body : (o : Option ComponentPlan) (props : List Value) → body_of o props ≡ by_meaning (option_map plan_meant o) props
planned_body None props = refl
planned_body (Some c) props = refl

same_answer : (view : View) (o : Outcome) → answered (view_meant view) o ≡ language.answered view o
unfolding view_meant
same_answer view (WentOn f) = refl
same_answer view (EndedWith answer) = refl
same_answer view WasRefused = refl

source_body : (o : Option ComponentSource) (props : List Value) → by_meaning (option_map component_meant o) props ≡ language.body_of o props
source_body None props = refl
source_body (Some c) props = λ i. go_on (run_statements ABody (frame_of props) c.statements) (λ o. same_answer c.view o i)

-- the bodies are those of the source
same_bodies : (plans : List ComponentPlan) (cs : List ComponentSource) → map plan_meant plans ≡ map component_meant cs
    → (c : ℕ) (props : List Value) → body_of (nth plans c) props ≡ language.body_of (nth cs c) props
same_bodies plans cs is c props =
    planned_body (nth plans c) props
    ∙ ap (λ o. by_meaning o props) (sym (nth-map plan_meant plans c) ∙ ap (λ ms. nth ms c) is ∙ nth-map component_meant cs c)
    ∙ source_body (nth cs c) props

-- so the whole application is
pub means-source : (s : Source) (plans : List ComponentPlan) → map plan_meant plans ≡ map component_meant (source_of s).components
    → MeansSource (record { components = plans; root = s.root; props = s.props; actions = s.actions; tasks = s.tasks }) (source_of s)
means-source s plans is =
    record {
      application = λ i. application_of (record (programs_of (source_of s)) { body = λ c props. same_bodies plans (source_of s).components is c props i });
      props = refl;
    }
