-- What is read of the bytes is what they describe, and the other way round.
use Rattle.std.proofs.Common.{◌≡◌, ◌≤◌, ℕ, List, length, map, ◌==◌, Bool, true, false, Option, Some, None, option_map, option_and_then, if◌then◌else◌, refl, sym, subst, ap, ◌∙◌}
use Rattle.std.specs.Prelude.{codes, nat_lt}
use Rattle.std.specs.Str.{IsUtf8, is_utf8}
use Rattle.std.proofs.lemmas.Bool.{eqb-true, eq-eqb, ltb-false, le-ltb}
use Rattle.std.proofs.lemmas.List.{length-map}
use Rattle.std.proofs.lemmas.Str.{IsUtf8-from_is_utf8}
use Rattle.serde_json.specs.Data.{Data}
use Rattle.serde_json.specs.Read.{read}
use Rattle.lang_expressions.specs.Keys.{is_object_of}
use Rattle.lang_expressions.specs.Fields.{list_or_empty}
use Rattle.lang_expressions.specs.Lists.{read_each}
use Rattle.rt_language.specs.Syntax as language
use Rattle.lang_syntax.specs.declared.expression.Literal.{Literal}
use Rattle.lang_syntax.specs.declared.source.Source.{Source}
use Rattle.lang_syntax.specs.Mirror.{literal_of, statements_of, component_of, post_of, input_of, source_of}
use Rattle.lang_sources.specs.Inputs.{literal_in}
use Rattle.lang_sources.specs.Signatures.{names_in}
use Rattle.lang_sources.specs.Definitions.{components_at, actions_at, tasks_at}
use Rattle.lang_sources.specs.Whole.{root_in, just, props_in, inputs_in, posts_in, gathered, ended, source_with, source_named, top_keys, source_in}
use Rattle.lang_sources.specs.Sources.{text_of, application_of}
use Rattle.lang_sources.specs.Describes.{IsSource, Describes}
use Rattle.lang_sources.specs.declared.reading.TheConstants.{SOURCE_LIMIT}
use Rattle.lang_sources.proofs.Origins.{none_is, same, mapped, first, held}
use Rattle.lang_sources.proofs.Texts.{text_of-read}

-- a source of the language by its parts
abbrev meant : List language.ComponentSource → ℕ → List language.Literal → List language.Statements → List (List language.Statements) →
    List language.InputSource → List (List language.PostSource) → language.Source
meant components root props actions tasks inputs posts = record {
  components = components;
  root = root;
  props = props;
  actions = actions;
  tasks = tasks;
  inputs = inputs;
  posts = posts;
}

abbrev literals_at : Data → Option (List Literal)
literals_at d = option_and_then (read_each literal_in) (list_or_empty (codes "props") d)

-- the props are just so many
props_sound : (params : ℕ) (d : Data) (props : List Literal) → props_in params d ≡ Some props → (literals_at d ≡ Some props) × (length props ≡ params)
unfolding props_in
props_sound params d props h =
    let given = first (just params) (literals_at d) props h in
    let count = held (length given.0 == params) (Some given.0) props given.1.1 in
    let are : given.0 ≡ props = same given.0 props count.1 in
    (given.1.0 ∙ count.1, sym (ap length are) ∙ eqb-true (length given.0) params count.0)

props_complete : (params : ℕ) (d : Data) (props : List Literal) → literals_at d ≡ Some props → length props ≡ params → props_in params d ≡ Some props
unfolding props_in
props_complete params d props are count =
    ap (option_and_then (just params)) are ∙ ap (λ b. if b then Some props else None) (eq-eqb (length props) params count)

-- what is read of a value is what it says
pub value_sound : (d : Data) (s : Source) → source_in d ≡ Some s → IsSource d (source_of s)
unfolding source_in source_with
value_sound d s h =
    let keyed = held (is_object_of top_keys d) (option_and_then (source_named d) (names_in d)) s h in
    let named = first (source_named d) (names_in d) s keyed.1 in
    let names = named.0 in
    let rooted = first (λ (root : ℕ × ℕ). option_and_then (source_with names root.0 d) (props_in root.1 d)) (root_in names d) s named.1.1 in
    let root = rooted.0 in
    let handed = first (source_with names root.0 d) (props_in root.1 d) s rooted.1.1 in
    let props = handed.0 in
    let shown = first (λ components. option_and_then (λ actions. option_and_then (ended root.0 d props components actions) (tasks_at names d)) (actions_at names d)) (components_at names d) s handed.1.1 in
    let done = first (λ actions. option_and_then (ended root.0 d props shown.0 actions) (tasks_at names d)) (actions_at names d) s shown.1.1 in
    let spawned = first (ended root.0 d props shown.0 done.0) (tasks_at names d) s done.1.1 in
    let come = first (λ inputs. option_map (λ posts. gathered root.0 props shown.0 done.0 spawned.0 inputs posts) (posts_in d)) (inputs_in d) s spawned.1.1 in
    let posted = mapped (λ posts. gathered root.0 props shown.0 done.0 spawned.0 come.0 posts) (posts_in d) s come.1.1 in
    let counted = props_sound root.1 d props handed.1.0 in
    let count : length (map literal_of props) ≡ root.1 = length-map props literal_of ∙ counted.1 in
    subst (λ x. IsSource d (source_of x)) posted.1.1 (record {
      keys = keyed.0;
      names = names;
      named = named.1.0;
      components = ap (option_map (map component_of)) shown.1.0;
      root = rooted.1.0 ∙ ap (λ n. Some (root.0, n)) (sym count);
      props = ap (option_map (map literal_of)) counted.0;
      actions = ap (option_map (map statements_of)) done.1.0;
      tasks = ap (option_map (map (map statements_of))) spawned.1.0;
      inputs = ap (option_map (map input_of)) come.1.0;
      posts = ap (option_map (map (map post_of))) posted.1.0;
    })

-- what a value says is read of it
pub value_complete : (d : Data) (l : language.Source) → IsSource d l → option_map source_of (source_in d) ≡ Some l
unfolding source_in source_with
value_complete d l h =
    let names = h.names in
    let root = l.root in
    let shown = mapped (map component_of) (components_at names d) l.components h.components in
    let handed = mapped (map literal_of) (literals_at d) l.props h.props in
    let props = handed.0 in
    let done = mapped (map statements_of) (actions_at names d) l.actions h.actions in
    let spawned = mapped (map (map statements_of)) (tasks_at names d) l.tasks h.tasks in
    let come = mapped (map input_of) (inputs_in d) l.inputs h.inputs in
    let posted = mapped (map (map post_of)) (posts_in d) l.posts h.posts in
    let count : length props ≡ length l.props = sym (length-map props literal_of) ∙ ap length handed.1.1 in
    let counted : props_in (length l.props) d ≡ Some props = props_complete (length l.props) d props handed.1.0 count in
    let is : source_in d ≡ Some (gathered root props shown.0 done.0 spawned.0 come.0 posted.0) =
    ap (λ b. if b then option_and_then (source_named d) (names_in d) else None) h.keys ∙ ap (option_and_then (source_named d)) h.named ∙
    ap (option_and_then (λ (root : ℕ × ℕ). option_and_then (source_with names root.0 d) (props_in root.1 d))) h.root ∙ ap (option_and_then (source_with names root d)) counted ∙
    ap (option_and_then (λ components. option_and_then (λ actions. option_and_then (ended root d props components actions) (tasks_at names d)) (actions_at names d))) shown.1.0 ∙
    ap (option_and_then (λ actions. option_and_then (ended root d props shown.0 actions) (tasks_at names d))) done.1.0 ∙ ap (option_and_then (ended root d props shown.0 done.0)) spawned.1.0 ∙
    ap (option_and_then (λ inputs. option_map (λ posts. gathered root props shown.0 done.0 spawned.0 inputs posts) (posts_in d))) come.1.0 ∙
    ap (option_map (λ posts. gathered root props shown.0 done.0 spawned.0 come.0 posts)) posted.1.0 in
    ap (option_map source_of) is ∙
    ap (λ x. Some (meant x root (map literal_of props) (map statements_of done.0) (map (map statements_of) spawned.0) (map input_of come.0) (map (map post_of) posted.0))) shown.1.1 ∙
    ap (λ x. Some (meant l.components root x (map statements_of done.0) (map (map statements_of) spawned.0) (map input_of come.0) (map (map post_of) posted.0))) handed.1.1 ∙
    ap (λ x. Some (meant l.components root l.props x (map (map statements_of) spawned.0) (map input_of come.0) (map (map post_of) posted.0))) done.1.1 ∙
    ap (λ x. Some (meant l.components root l.props l.actions x (map input_of come.0) (map (map post_of) posted.0))) spawned.1.1 ∙
    ap (λ x. Some (meant l.components root l.props l.actions l.tasks x (map (map post_of) posted.0))) come.1.1 ∙
    ap (λ x. Some (meant l.components root l.props l.actions l.tasks l.inputs x)) posted.1.1

-- ---- bytes

json_sound : (bytes : List ℕ) (s : Source) → length bytes ≤ SOURCE_LIMIT → IsUtf8 bytes → option_and_then source_in (read bytes) ≡ Some s → Describes bytes (source_of s)
json_sound bytes s size utf8 h =
    let found = first source_in (read bytes) s h in
    record { size = size; text = utf8; value = found.0; json = found.1.0; form = value_sound found.0 s found.1.1 }

text_sound : (bytes : List ℕ) (s : Source) → length bytes ≤ SOURCE_LIMIT → text_of bytes ≡ Some s → Describes bytes (source_of s)
text_sound bytes s size h =
    let utf8 = held (is_utf8 bytes) (option_and_then source_in (read bytes)) s h in json_sound bytes s size (IsUtf8-from_is_utf8 bytes utf8.0) utf8.1

size_sound : (bytes : List ℕ) (s : Source) (b : Bool) → nat_lt SOURCE_LIMIT (length bytes) ≡ b → (if b then None else text_of bytes) ≡ Some s → Describes bytes (source_of s)
size_sound bytes s true size h = none_is s h
size_sound bytes s false size h = text_sound bytes s (ltb-false SOURCE_LIMIT (length bytes) size) h

-- what is read of the bytes is what they describe
pub source_sound : (bytes : List ℕ) (s : Source) → application_of bytes ≡ Some s → Describes bytes (source_of s)
source_sound bytes s h = size_sound bytes s (nat_lt SOURCE_LIMIT (length bytes)) refl h

-- what the bytes describe is read of them
pub source_complete : (bytes : List ℕ) (l : language.Source) → Describes bytes l → option_map source_of (application_of bytes) ≡ Some l
source_complete bytes l h =
    let is : application_of bytes ≡ source_in h.value = ap (λ b. if b then None else text_of bytes) (le-ltb SOURCE_LIMIT (length bytes) h.size) ∙ text_of-read bytes h.value h.text h.json in
    ap (option_map source_of) is ∙ value_complete h.value l h.form
