-- Sources that are read have names, and so their sessions print plainly.
use Rattle.std.proofs.Common.{ℕ, List, [], ◌∷◌, ◌≡◌, sym, subst, map}
use Rattle.std.specs.Prelude.{Option, Some, option_and_then, codes}
use Rattle.std.specs.List.{AllByRecursion}
use Rattle.std.proofs.lemmas.Option.{option_and_then_some}
use Rattle.serde_json.specs.Data.{Data}
use Rattle.serde_json.specs.Find.{get}
use Rattle.lang_expressions.specs.Keys.{is_object_of}
use Rattle.lang_expressions.specs.Fields.{list_at, list_or_empty}
use Rattle.lang_expressions.specs.declared.signatures.Names.{Names}
use Rattle.lang_sources.specs.declared.forms.Place.TheVariants.{Body}
use Rattle.lang_sources.specs.Statements.{block_in}
use Rattle.lang_syntax.specs.declared.statement.Statement.{Statement}
use Rattle.lang_syntax.specs.declared.source.ComponentSource.{ComponentSource}
use Rattle.lang_syntax.specs.declared.view.ViewNode.{ViewNode}
use Rattle.lang_syntax.specs.Mirror.{component_of, view_of}
use Rattle.lang_expressions.specs.Views.{view_in}
use Rattle.lang_sources.specs.Signatures.{params_in}
use Rattle.lang_sources.specs.Definitions.{shown, component_in, components_at}
use Rattle.lang_sources.specs.Describes.{IsSource, Describes}
use Rattle.rt_model.specs.Lists.{joined}
use Rattle.rt_model.specs.Document.{Edit}
use Rattle.rt_model.specs.State.{Fault}
use Rattle.rt_model.specs.Reports.{Report, logs_of}
use Rattle.rt_model.specs.Told.{edits_of}
use Rattle.rt_model.specs.Causes.{Limits, edits_at_refusal}
use Rattle.rt_model.specs.Headline.{Headline, CameTo}
use Rattle.rt_language.specs.Syntax as language
use Rattle.rt_language.specs.Meaning.{meaning_of, props_of, inputs_of}
use Rattle.lang_lines.specs.Named.{NamedView, NamedSource}
use Rattle.lang_lines.specs.Runs.{ArePlain}
use Rattle.lang_lines.specs.Read.{DescribedHaveNames, DescribedWritePlainly, AreSmall, IsDone, IsEnded, DoneTell, EndedTell, SortsTell}
use Rattle.lang_lines.proofs.Items.{texts_tell, fault_texts_tell, ends_tell}
use Rattle.lang_lines.proofs.NamedWrites.{EditsPlain, both_plain}
use Rattle.lang_lines.proofs.Plainly.{sources_write_plainly}
use Rattle.lang_lines.proofs.ReadViews.{mapped, held, there_read, view_named}

-- what a component of code shows has names
abbrev ComponentNamed : ComponentSource → Type 0
ComponentNamed c = NamedView (view_of c.view)

shown_named : (names : Names) (d : Data) (body : List (List ℕ) × List Statement) (c : ComponentSource) → shown names d body ≡ Some c → ComponentNamed c
shown_named names d body c e =
    let with_view : List ViewNode → ComponentSource = λ view. record { statements = body.1; view = view } in
    mapped with_view (option_and_then (view_in names body.0) (list_at (codes "view") d)) c e
    (λ view was is. subst (λ (x : ComponentSource). ComponentNamed x) is
    (option_and_then_some (view_in names body.0) (list_at (codes "view") d) view was (λ items there gives. view_named names body.0 items view gives)))

component_named : (names : Names) (d : Data) (c : ComponentSource) → component_in names d ≡ Some c → ComponentNamed c
unfolding component_in
component_named names d c e =
    let body : List (List ℕ) → Option ComponentSource = λ params. option_and_then (shown names d) (option_and_then (block_in names Body params) (list_or_empty (codes "do") d)) in
    held (is_object_of (codes "params" ∷ codes "do" ∷ codes "view" ∷ []) d) (option_and_then body (params_in d)) c e
    (λ keyed on. option_and_then_some body (params_in d) c on
    (λ params was further. option_and_then_some (shown names d) (option_and_then (block_in names Body params) (list_or_empty (codes "do") d)) c further
    (λ both read gives. shown_named names d both c gives)))

in_language : (components : List ComponentSource) → AllByRecursion ComponentNamed components
    → AllByRecursion (λ (c : language.ComponentSource). NamedView c.view) (map component_of components)
in_language [] h = tt
in_language (c ∷ components) h = (h.0, in_language components h.1)

source_named : (d : Data) (s : language.Source) → IsSource d s → NamedSource s
unfolding components_at
source_named d s h =
    mapped (map component_of) (components_at h.names d) s.components h.components
    (λ components was is. subst (λ (cs : List language.ComponentSource). AllByRecursion (λ (c : language.ComponentSource). NamedView c.view) cs) is
    (in_language components
    (there_read ComponentNamed (λ name. component_in h.names) (λ key x c is. component_named h.names x c is) (get (codes "components") d) components was)))

pub described_have_names : DescribedHaveNames
described_have_names bytes s h = source_named h.value s h.form

-- ---- sessions of such sources

done_plain : (bytes : List ℕ) (s : language.Source) (limits : Limits) (edits : List Edit) (reports : List Report) → Describes bytes s
    → Headline (meaning_of s) (props_of s) (inputs_of s.inputs) limits (Some edits) reports → EditsPlain edits
done_plain bytes s limits edits reports described h =
    let plain = sources_write_plainly s (inputs_of s.inputs) (logs_of reports) h.told (described_have_names bytes s described) (h.holds).recorded.accepted in
    subst (λ (es : List Edit). EditsPlain es) (sym (h.done).edits) plain.0

ended_plain : (bytes : List ℕ) (s : language.Source) (limits : Limits) (edits : List Edit) (reports : List Report) → Describes bytes s
    → (fault : Fault) → CameTo (meaning_of s) (props_of s) (inputs_of s.inputs) limits (Some edits) reports fault → EditsPlain edits
ended_plain bytes s limits edits reports described fault h =
    let plain = sources_write_plainly s (inputs_of s.inputs) (logs_of reports) h.told (described_have_names bytes s described) (h.holds).recorded.accepted in
    let stopped = h.stopped in
    subst (λ (es : List Edit). EditsPlain es) (sym stopped.edits)
    (both_plain (joined (edits_of h.told)) (edits_at_refusal (meaning_of s) limits stopped.last) plain.0 (plain.1 limits stopped.log stopped.last stopped.goes_on))

pub described_write_plainly : DescribedWritePlainly
described_write_plainly bytes s limits edits reports described =
    (done_plain bytes s limits edits reports described, ended_plain bytes s limits edits reports described)

are_plain : (edits : List Edit) (reports : List Report) → EditsPlain edits → AreSmall reports → ArePlain edits reports
are_plain edits reports plain small = record { edited = plain; reported = small.reported; few = small.few }

done_are_plain : (edits : List Edit) (reports : List Report) → IsDone edits reports → ArePlain edits reports
done_are_plain edits reports h = are_plain edits reports (done_plain h.bytes h.said h.limits edits reports h.described h.headline) h.small

ended_are_plain : (edits : List Edit) (reports : List Report) (fault : Fault) → IsEnded edits reports fault → ArePlain edits reports
ended_are_plain edits reports fault h = are_plain edits reports (ended_plain h.bytes h.said h.limits edits reports h.described fault h.came_to) h.small

pub done_tell : DoneTell
done_tell edits more reports others h k same = texts_tell edits more reports others (done_are_plain edits reports h) (done_are_plain more others k) same

pub ended_tell : EndedTell
ended_tell edits more reports others a b h k same =
    fault_texts_tell edits more reports others a b (ended_are_plain edits reports a h) (ended_are_plain more others b k) h.small_fault k.small_fault same

pub sorts_tell : SortsTell
sorts_tell edits more reports others b h k same =
    ends_tell edits more reports others b (done_are_plain edits reports h) (ended_are_plain more others b k) k.small_fault same
