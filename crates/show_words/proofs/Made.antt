-- What code generates is the language's generated application.
use Rattle.std.proofs.Common.{rules, arith, ◌≡◌, ◌∙◌, ℕ, ◌+◌, ◌-◌, ◌*◌, ◌%◌, ◌<◌, ◌≤◌, suc, List, [], ◌∷◌, ◌++◌, map, ap, sym, append_assoc, append-nil}
use Rattle.std.proofs.lemmas.List.{map-append}
use Rattle.std.specs.Prelude.{codes}
use Rattle.rt_language.specs.Syntax as language
use Rattle.rt_language.specs.Shorthand.{number, slot, text_slot, element, use_alone, component, write_number}
use Rattle.rt_language.specs.Generated.{writes_from, generated}
use Rattle.lang_syntax.specs.declared.expression.Literal.{Literal}
use Rattle.lang_syntax.specs.declared.statement.Statement.{Statement}
use Rattle.lang_syntax.specs.declared.source.ComponentSource.{ComponentSource}
use Rattle.lang_syntax.specs.declared.source.InputSource.{InputSource}
use Rattle.lang_syntax.specs.declared.source.PostSource.{PostSource}
use Rattle.lang_syntax.specs.declared.view.ViewNode as nodes
use Rattle.lang_syntax.specs.declared.expression.Expression as expressions
use Rattle.lang_syntax.specs.declared.statement.Statement as statements
use Rattle.lang_syntax.specs.Mirror.{literal_of, statements_of, component_of, post_of, input_of, source_of}
use Rattle.show_words.specs.Listed.{list_of_rows, row_of_list}

-- the root
pub list_means : (rows : ℕ) → component_of (list_of_rows rows) ≡ component [] (element (codes "ul") (slot (language.ListOf (number rows) (use_alone 1 (language.Get 0 ∷ [])))))
list_means rows = search (rules, nodes.the_lemmas, expressions.the_lemmas, statements.the_lemmas)

-- a row
pub row_means : component_of row_of_list ≡ component (language.UseCell (language.Get 0) ∷ []) (element (codes "li") (text_slot (language.Read 1)))
row_means = search (rules, nodes.the_lemmas, expressions.the_lemmas, statements.the_lemmas)

-- the next write comes first of those that are left
pub next_write : (rows write : ℕ) → write < rows → writes_from rows write (rows - write) ≡ write_number ((7 * write) % rows + 1) write ∷ writes_from rows (write + 1) (rows - (write + 1))
next_write rows write within =
    let more : rows - write ≡ suc (rows - (write + 1)) = omega arith in
    ap (λ left. writes_from rows write left) more

-- one more write was put after those so far
pub write_put : (rows write : ℕ) (inputs more : List InputSource) (input : InputSource) → write < rows → more ≡ inputs ++ input ∷ [] →
    input_of input ≡ write_number ((7 * write) % rows + 1) write →
    map input_of inputs ++ writes_from rows write (rows - write) ≡ writes_from rows 0 rows →
    map input_of more ++ writes_from rows (write + 1) (rows - (write + 1)) ≡ writes_from rows 0 rows
write_put rows write inputs more input within put means so_far =
    let one : map input_of more ≡ map input_of inputs ++ input_of input ∷ [] = ap (λ all. map input_of all) put ∙ map-append input_of inputs (input ∷ []) in
    ap (λ front. front ++ writes_from rows (write + 1) (rows - (write + 1))) one
    ∙ append_assoc (map input_of inputs) (input_of input ∷ []) (writes_from rows (write + 1) (rows - (write + 1)))
    ∙ ap (λ head. map input_of inputs ++ head ∷ writes_from rows (write + 1) (rows - (write + 1))) means
    ∙ ap (λ rest. map input_of inputs ++ rest) (sym (next_write rows write within))
    ∙ so_far

-- all writes were put
all_put : (rows write : ℕ) (inputs : List InputSource) → rows ≤ write → map input_of inputs ++ writes_from rows write (rows - write) ≡ writes_from rows 0 rows → map input_of inputs ≡ writes_from rows 0 rows
all_put rows write inputs past so_far =
    let none : rows - write ≡ 0 = omega arith in
    sym (append-nil (map input_of inputs)) ∙ ap (λ left. map input_of inputs ++ writes_from rows write left) (sym none) ∙ so_far

-- the parts make the generated source
pub made_of : (rows write : ℕ) (components : List ComponentSource) (props : List Literal) (actions : List (List Statement)) (tasks : List (List (List Statement))) (inputs : List InputSource) (posts : List (List PostSource)) →
    components ≡ list_of_rows rows ∷ row_of_list ∷ [] → props ≡ [] → actions ≡ [] → tasks ≡ [] → posts ≡ [] → rows ≤ write →
    map input_of inputs ++ writes_from rows write (rows - write) ≡ writes_from rows 0 rows →
    source_of (record { components = components; root = 0; props = props; actions = actions; tasks = tasks; inputs = inputs; posts = posts }) ≡ generated rows
made_of rows write components props actions tasks inputs posts these no_props no_actions no_tasks no_posts past so_far =
    let shown : map component_of components ≡ component [] (element (codes "ul") (slot (language.ListOf (number rows) (use_alone 1 (language.Get 0 ∷ [])))))
    ∷ component (language.UseCell (language.Get 0) ∷ []) (element (codes "li") (text_slot (language.Read 1))) ∷ [] = ap (λ all. map component_of all) these ∙ cc (list_means rows, row_means) in
    let put : map input_of inputs ≡ writes_from rows 0 rows = all_put rows write inputs past so_far in
    let props_are : map literal_of props ≡ [] = ap (λ all. map literal_of all) no_props in
    let actions_are : map statements_of actions ≡ [] = ap (λ all. map statements_of all) no_actions in
    let tasks_are : map (map statements_of) tasks ≡ [] = ap (λ all. map (map statements_of) all) no_tasks in
    let posts_are : map (map post_of) posts ≡ [] = ap (λ all. map (map post_of) all) no_posts in
    λ t. record {
      components = shown t;
      root = 0;
      props = props_are t;
      actions = actions_are t;
      tasks = tasks_are t;
      inputs = put t;
      posts = posts_are t;
    }
