-- The bodies of a source whose views have names answer trees with names.
use Rattle.std.proofs.Common.{ℕ, zero, suc, ◌+◌, Bool, true, false, List, [], ◌∷◌, ◌++◌, ◌≡◌, refl, subst}
use Rattle.std.specs.Prelude.{Option, Some, None, pos, negsuc}
use Rattle.std.specs.List.{AllByRecursion}
use Rattle.rt_model.specs.Lists.{nth}
use Rattle.rt_model.specs.Tree.{CapturedError, listener, Attribute, Tree, Slot, text_slot, component_slot, fragment_slot, Trees, no_trees, more_trees, Own, Fragment, ErrorBoundary, SuspenseBoundary, Element, rendered}
use Rattle.rt_model.specs.Program.{Program, done, current_scope, new_cell, spawn, queue_effect, after_suspense_resolved, provide, captured, use_effect, begun}
use Rattle.author_programs.specs.Sequence.{go_on}
use Rattle.rt_language.specs.Syntax.{ViewAttribute, StaticAttribute, SlotAttribute, ListenerAttribute, View, NoViews, TextView, ElementView, SlotView, ViewSlot, TextOf, UseOf, ListOf, PickOf, FragmentOf, ErrorBoundaryOf, SuspenseBoundaryOf, Hole, ComponentSource, Source, SpawnKind, Let, UseCell, UseHook, UseDerived, SpawnTask, CallAt, EffectOf, OnResolved, FreezeBoundary, When, ProvideAs, WriteTo, Forget, ActOn, TaskAct, WakeUp, Cancel, Pause, Resume, MarkScopeOf, ThrowText, ClearError, FailWith, SuspendOn, Stop, Prevent, Stay, Statement, Statements, NoStatements, MoreStatements}
use Rattle.rt_language.specs.Values.{Value, NoValue, NumberValue, TextValue, CellValue, TaskValue, is_true, text_of, item_count, hook_kind}
use Rattle.rt_language.specs.Expressions.{Stepping, SourceTypes, Caller, ABody, AListener, AnotherCall, Evaluation, held_by, evaluate, evaluate_all}
use Rattle.rt_language.specs.Formulas.{derived_cell}
use Rattle.rt_language.specs.Statements.{Frame, Outcome, WentOn, EndedWith, WasRefused, Running, goes_on, frame_of, binding, bound_hook, hook_with, hook_of_cell, cell_hook, bound_cell, hook_of_task, bound_task, is_forever, is_isomorphic, standing, spawned, task_hook, spawning, time_kind, doing, if_stands, kept_names, written, forgotten, acted_on, acted, marked, thrown, failed_with, suspends_on, then_run, perform, run_statements}
use Rattle.rt_language.specs.Views.{own_slots, attribute_slots_of, node_slots_of, template_attributes, template_nodes, Filling, filled_on, attribute_value, attribute_of, with_attribute, given_by, use_or_none, slots_from, tree_with, tree_of, items_from, is_empty, picked, fill, fill_slot}
use Rattle.rt_language.specs.Meaning.{answered, body_of, meaning_of}
use Rattle.lang_lines.specs.Named.{NamedFixed, NamedNodes, AllGiven, AllSlotsGiven, NamedTree, NamedSlots, NamedSlot, NamedTrees, NamedElement, AnswersNamed, NamedAttribute, NamedView, NamedViewSlot, NamedSource}
use Rattle.lang_lines.proofs.NamedStates.{placeholder_named}
use Rattle.lang_lines.proofs.Answering.{Answers, means_so, goes_on_so, after_any}

-- templates

attributes_named : (a : ℕ) (attributes : List ViewAttribute) → AllByRecursion NamedAttribute attributes → AllByRecursion NamedFixed (template_attributes a attributes)
attributes_named a [] h = tt
attributes_named a (StaticAttribute name value ∷ rest) h = ((tt, h.0), attributes_named a rest h.1)
attributes_named a (SlotAttribute name value ∷ rest) h = (tt, attributes_named (a + 1) rest h.1)
attributes_named a (ListenerAttribute name action arguments ∷ rest) h = (tt, attributes_named (a + 1) rest h.1)

template_named : (n a : ℕ) (view : View) → NamedView view → NamedNodes (template_nodes n a view)
template_named n a NoViews h = tt
template_named n a (TextView text rest) h = template_named n a rest h
template_named n a (ElementView tag namespace attributes kids rest) h = (
  h.0,
  h.1,
  attributes_named a attributes h.2,
  template_named n (a + own_slots attributes) kids h.3,
  template_named (n + node_slots_of kids) (a + (own_slots attributes + attribute_slots_of kids)) rest h.4,
)
template_named n a (SlotView slot rest) h = template_named (n + 1) a rest h.1

-- what fills them

abbrev NamedFilling : Filling → Type 0
NamedFilling f = AllSlotsGiven f.attributes × AllByRecursion (λ (v : Slot SourceTypes). NamedSlot v) f.slots

all_on : {A : Type 0} (Q : A → Type 0) (xs ys : List A) → AllByRecursion Q xs → AllByRecursion Q ys → AllByRecursion Q (xs ++ ys)
all_on Q [] ys h k = k
all_on Q (x ∷ xs) ys h k = (h.0, all_on Q xs ys h.1 k)

filled_named : (a b : Filling) → NamedFilling a → NamedFilling b → NamedFilling (filled_on a b)
filled_named a b h k = (
  all_on (λ (given : List (Attribute SourceTypes)). AllGiven given) a.attributes b.attributes h.0 k.0,
  all_on (λ (v : Slot SourceTypes). NamedSlot v) a.slots b.slots h.1 k.1,
)

slots_from_named : (vs : List (Slot SourceTypes)) → AllByRecursion (λ (v : Slot SourceTypes). NamedSlot v) vs → NamedSlots (slots_from vs)
slots_from_named [] h = tt
slots_from_named (v ∷ vs) h = (h.0, slots_from_named vs h.1)

tree_with_named : (view : View) (f : Filling) → NamedView view → NamedFilling f → NamedTree (tree_with view f)
tree_with_named NoViews f h k = placeholder_named SourceTypes
tree_with_named (TextView text rest) f h k = (template_named 0 0 (TextView text rest) h, k.0, slots_from_named f.slots k.1)
tree_with_named (ElementView tag namespace attributes kids rest) f h k = (template_named 0 0 (ElementView tag namespace attributes kids rest) h, k.0, slots_from_named f.slots k.1)
tree_with_named (SlotView slot rest) f h k = (template_named 0 0 (SlotView slot rest) h, k.0, slots_from_named f.slots k.1)

abbrev SlotsGiven : List (List (Attribute SourceTypes)) → Type 0
SlotsGiven slots = AllSlotsGiven slots

abbrev ATree : Tree SourceTypes → Type 0
ATree tree = NamedTree tree

abbrev SomeTrees : Trees SourceTypes → Type 0
SomeTrees trees = NamedTrees trees

abbrev ASlot : Slot SourceTypes → Type 0
ASlot v = NamedSlot v

given_named : (by : Caller) (held : List Value) (attributes : List ViewAttribute) → AllByRecursion NamedAttribute attributes → Answers SlotsGiven (given_by by held attributes)
given_named by held [] h = tt
given_named by held (StaticAttribute name value ∷ rest) h = given_named by held rest h.1
given_named by held (SlotAttribute name value ∷ rest) h =
    after_any SlotsGiven (evaluate by held value) (λ v. go_on (given_by by held rest) (λ slots. done (with_attribute (attribute_of name (attribute_value v)) slots)))
    (λ v. goes_on_so SlotsGiven SlotsGiven (given_by by held rest) (λ slots. done (with_attribute (attribute_of name (attribute_value v)) slots)) (given_named by held rest h.1) (λ slots k. (((tt, h.0), tt), k)))
given_named by held (ListenerAttribute name action arguments ∷ rest) h =
    after_any SlotsGiven (evaluate_all by held arguments) (λ vs. current_scope (λ s. go_on (given_by by held rest) (λ slots. done (with_attribute (attribute_of name (listener s (doing action vs))) slots))))
    (
    λ vs s.
    goes_on_so SlotsGiven SlotsGiven (given_by by held rest) (λ slots. done (with_attribute (attribute_of name (listener s (doing action vs))) slots)) (given_named by held rest h.1) (λ slots k. (((tt, h.0), tt), k))
    )

tree_of_named : (view : View) (filling : Program SourceTypes Filling) → NamedView view → Answers NamedFilling filling → Answers ATree (tree_of view filling)
tree_of_named view filling h k = goes_on_so NamedFilling ATree filling (λ f. done (tree_with view f)) k (λ f g. tree_with_named view f h g)

items_named : (of : ℕ → Program SourceTypes (Tree SourceTypes)) (i n : ℕ) → ((k : ℕ) → Answers ATree (of k)) → Answers SomeTrees (items_from of i n)
items_named of i zero each = tt
items_named of i (suc more) each =
    goes_on_so ATree SomeTrees (of i) (λ t. go_on (items_from of (i + 1) more) (λ ts. done (more_trees t ts))) (each i)
    (λ t h. goes_on_so SomeTrees SomeTrees (items_from of (i + 1) more) (λ ts. done (more_trees t ts)) (items_named of (i + 1) more each) (λ ts k. (h, k)))

picked_named : (b : Bool) (tree : Program SourceTypes (Tree SourceTypes)) → Answers ATree tree → Answers ASlot (picked b tree)
picked_named true tree h = tt
picked_named false tree h = goes_on_so ATree ASlot tree (λ t. done (fragment_slot (more_trees t no_trees))) h (λ t k. (k, tt))

chosen_named : (b : Bool) (p q : Program SourceTypes (Slot SourceTypes)) → Answers ASlot p → Answers ASlot q → Answers ASlot (elim b as (λ z. Program SourceTypes (Slot SourceTypes)) [ true ↦ p | false ↦ q ])
chosen_named true p q h k = h
chosen_named false p q h k = k

mutual
  unfolding fill fill_slot

  fill_named : (by : Caller) (held : List Value) (view : View) → NamedView view → Answers NamedFilling (fill by held view)
  fill_named by held NoViews h = (tt, tt)
  fill_named by held (TextView text rest) h = fill_named by held rest h
  fill_named by held (ElementView tag namespace attributes kids rest) h =
      goes_on_so SlotsGiven NamedFilling (given_by by held attributes)
      (λ own. go_on (fill by held kids) (λ below. go_on (fill by held rest) (λ after. done (filled_on (record { attributes = own; slots = [] }) (filled_on below after)))))
      (given_named by held attributes h.2)
      (
      λ own g.
      goes_on_so NamedFilling NamedFilling (fill by held kids) (λ below. go_on (fill by held rest) (λ after. done (filled_on (record { attributes = own; slots = [] }) (filled_on below after)))) (fill_named by held kids h.3)
      (
      λ below k.
      goes_on_so NamedFilling NamedFilling (fill by held rest) (λ after. done (filled_on (record { attributes = own; slots = [] }) (filled_on below after))) (fill_named by held rest h.4)
      (λ after l. filled_named (record { attributes = own; slots = [] }) (filled_on below after) (g, tt) (filled_named below after k l))
      )
      )
  fill_named by held (SlotView slot rest) h =
      goes_on_so ASlot NamedFilling (fill_slot by held slot) (λ v. go_on (fill by held rest) (λ after. done (filled_on (record { attributes = []; slots = v ∷ [] }) after))) (fill_slot_named by held slot h.0)
      (
      λ v g.
      goes_on_so NamedFilling NamedFilling (fill by held rest) (λ after. done (filled_on (record { attributes = []; slots = v ∷ [] }) after)) (fill_named by held rest h.1)
      (λ after k. filled_named (record { attributes = []; slots = v ∷ [] }) after (tt, (g, tt)) k)
      )

  fill_slot_named : (by : Caller) (held : List Value) (slot : ViewSlot) → NamedViewSlot slot → Answers ASlot (fill_slot by held slot)
  fill_slot_named by held (TextOf e) h = after_any ASlot (evaluate by held e) (λ v. done (text_slot (text_of v))) (λ v. tt)
  fill_slot_named by held (UseOf u) h = after_any ASlot (evaluate_all by held u.props) (λ props. done (component_slot (Own u.component props))) (λ props. tt)
  fill_slot_named by held (ListOf count item) h =
      after_any ASlot (evaluate by held count)
      (λ v. go_on (items_from (λ i. tree_of item (fill by (held ++ NumberValue (pos i) ∷ []) item)) 0 (item_count v)) (λ items. done (fragment_slot items)))
      (
      λ v.
      let of : ℕ → Program SourceTypes (Tree SourceTypes) = λ i. tree_of item (fill by (held ++ NumberValue (pos i) ∷ []) item) in
      goes_on_so SomeTrees ASlot (items_from of 0 (item_count v)) (λ items. done (fragment_slot items))
      (items_named of 0 (item_count v) (λ i. tree_of_named item (fill by (held ++ NumberValue (pos i) ∷ []) item) h (fill_named by (held ++ NumberValue (pos i) ∷ []) item h)))
      (λ items k. k)
      )
  fill_slot_named by held (PickOf test chosen other) h =
      let one : Program SourceTypes (Slot SourceTypes) = picked (is_empty chosen) (tree_of chosen (fill by held chosen)) in
      let two : Program SourceTypes (Slot SourceTypes) = picked (is_empty other) (tree_of other (fill by held other)) in
      after_any ASlot (evaluate by held test) (λ v. elim (is_true v) as (λ z. Program SourceTypes (Slot SourceTypes)) [ true ↦ one | false ↦ two ])
      (
      λ v.
      chosen_named (is_true v) one two
      (picked_named (is_empty chosen) (tree_of chosen (fill by held chosen)) (tree_of_named chosen (fill by held chosen) h.0 (fill_named by held chosen h.0)))
      (picked_named (is_empty other) (tree_of other (fill by held other)) (tree_of_named other (fill by held other) h.1 (fill_named by held other h.1)))
      )
  fill_slot_named by held (FragmentOf children) h =
      goes_on_so ATree ASlot (tree_of children (fill by held children)) (λ t. done (component_slot (Fragment (rendered t)))) (tree_of_named children (fill by held children) h (fill_named by held children h)) (λ t k. k)
  fill_slot_named by held (ErrorBoundaryOf kids handler) h =
      goes_on_so ATree ASlot (tree_of kids (fill by held kids)) (λ t. go_on (use_or_none by held handler) (λ u. done (component_slot (ErrorBoundary (rendered t) u)))) (tree_of_named kids (fill by held kids) h (fill_named by held kids h))
      (λ t k. after_any ASlot (use_or_none by held handler) (λ u. done (component_slot (ErrorBoundary (rendered t) u))) (λ u. k))
  fill_slot_named by held (SuspenseBoundaryOf kids fallback) h =
      goes_on_so ATree ASlot (tree_of kids (fill by held kids)) (λ t. go_on (use_or_none by held fallback) (λ u. done (component_slot (SuspenseBoundary (rendered t) u)))) (tree_of_named kids (fill by held kids) h (fill_named by held kids h))
      (λ t k. after_any ASlot (use_or_none by held fallback) (λ u. done (component_slot (SuspenseBoundary (rendered t) u))) (λ u. k))
  fill_slot_named by held Hole h = tt

-- statements: a body that they end answers an error or a suspension

abbrev NamedEnd : Outcome → Type 0
NamedEnd (WentOn f) = Unit {0}
NamedEnd (EndedWith answer) = NamedElement answer
NamedEnd WasRefused = Unit {0}

bound_hook_named : (f : Frame) (o : Option Value) → Answers NamedEnd (bound_hook f o)
bound_hook_named f None = tt
bound_hook_named f (Some v) = tt

hook_with_named : (f : Frame) (kind : ℕ) (v : Value) → Answers NamedEnd (hook_with f kind v)
hook_with_named f kind v = λ kept. bound_hook_named f kept

hook_of_cell_named : (f : Frame) (o : Option ℕ) → Answers NamedEnd (hook_of_cell f o)
hook_of_cell_named f None = tt
hook_of_cell_named f (Some n) = hook_with_named f 3 (CellValue n)

cell_hook_named : (f : Frame) (first : Evaluation) (b : Bool) → Answers NamedEnd (cell_hook f first b)
cell_hook_named f first true = after_any NamedEnd first (λ v. new_cell v (λ n. hook_of_cell f n)) (λ v n. hook_of_cell_named f n)
cell_hook_named f first false = hook_with_named f 3 NoValue

bound_cell_named : (f : Frame) (o : Option ℕ) → Answers NamedEnd (bound_cell f o)
bound_cell_named f None = tt
bound_cell_named f (Some c) = tt

hook_of_task_named : (f : Frame) (o : Option ℕ) → Answers NamedEnd (hook_of_task f o)
hook_of_task_named f None = tt
hook_of_task_named f (Some t) = hook_with_named f 4 (TaskValue t)

bound_task_named : (f : Frame) (o : Option ℕ) → Answers NamedEnd (bound_task f o)
bound_task_named f None = tt
bound_task_named f (Some t) = tt

spawned_named : (task : ℕ) (kind : SpawnKind) (arguments : Program SourceTypes (List Value)) (bound : Option ℕ → Running) → ((o : Option ℕ) → Answers NamedEnd (bound o)) → Answers NamedEnd (spawned task kind arguments bound)
spawned_named task kind arguments bound each =
    after_any NamedEnd arguments (λ vs. spawn (Stepping (standing task vs)) (is_forever kind) (is_isomorphic kind) (λ t. bound t)) (λ vs t. each t)

task_hook_named : (f : Frame) (task : ℕ) (kind : SpawnKind) (arguments : Program SourceTypes (List Value)) (b : Bool) → Answers NamedEnd (task_hook f task kind arguments b)
task_hook_named f task kind arguments true = spawned_named task kind arguments (λ t. hook_of_task f t) (λ t. hook_of_task_named f t)
task_hook_named f task kind arguments false = hook_with_named f 4 NoValue

spawning_named : (by : Caller) (f : Frame) (task : ℕ) (kind : SpawnKind) (arguments : Program SourceTypes (List Value)) → Answers NamedEnd (spawning by f task kind arguments)
spawning_named ABody f task kind arguments = λ new. task_hook_named f task kind arguments new
spawning_named (AListener payload) f task kind arguments = spawned_named task kind arguments (λ t. bound_task f t) (λ t. bound_task_named f t)
spawning_named AnotherCall f task kind arguments = spawned_named task kind arguments (λ t. bound_task f t) (λ t. bound_task_named f t)

if_stands_named : (f : Frame) (b : Bool) → Answers NamedEnd (if_stands f b)
if_stands_named f true = tt
if_stands_named f false = tt

kept_names_named : (f : Frame) (o : Outcome) → NamedEnd o → NamedEnd (kept_names f o)
kept_names_named f (WentOn g) h = tt
kept_names_named f (EndedWith answer) h = h
kept_names_named f WasRefused h = tt

written_named : (cell v : Value) (rest : Running) → Answers NamedEnd rest → Answers NamedEnd (written cell v rest)
written_named (CellValue c) v rest h = h
written_named NoValue v rest h = h
written_named (NumberValue n) v rest h = h
written_named (TextValue t) v rest h = h
written_named (TaskValue t) v rest h = h

forgotten_named : (cell : Value) (rest : Running) → Answers NamedEnd rest → Answers NamedEnd (forgotten cell rest)
forgotten_named (CellValue c) rest h = h
forgotten_named NoValue rest h = h
forgotten_named (NumberValue n) rest h = h
forgotten_named (TextValue t) rest h = h
forgotten_named (TaskValue t) rest h = h

acted_on_named : (act : TaskAct) (t : ℕ) (rest : Running) → Answers NamedEnd rest → Answers NamedEnd (acted_on act t rest)
acted_on_named WakeUp t rest h = h
acted_on_named Cancel t rest h = h
acted_on_named Pause t rest h = h
acted_on_named Resume t rest h = h

acted_named : (act : TaskAct) (task : Value) (rest : Running) → Answers NamedEnd rest → Answers NamedEnd (acted act task rest)
acted_named act (TaskValue t) rest h = acted_on_named act t rest h
acted_named act NoValue rest h = h
acted_named act (NumberValue n) rest h = h
acted_named act (TextValue t) rest h = h
acted_named act (CellValue c) rest h = h

marked_named : (scope : Value) (rest : Running) → Answers NamedEnd rest → Answers NamedEnd (marked scope rest)
marked_named (NumberValue (pos n)) rest h = h
marked_named (NumberValue (negsuc n)) rest h = h
marked_named NoValue rest h = h
marked_named (TextValue t) rest h = h
marked_named (CellValue c) rest h = h
marked_named (TaskValue t) rest h = h

thrown_named : (f : Frame) (o : Option CapturedError) → Answers NamedEnd (thrown f o)
thrown_named f None = tt
thrown_named f (Some e) = tt

failed_named : (o : Option CapturedError) → Answers NamedEnd (failed_with o)
failed_named None = tt
failed_named (Some e) = tt

suspends_named : (f : Frame) (task : Value) → Answers NamedEnd (suspends_on f task)
suspends_named f (TaskValue t) = λ s. tt
suspends_named f NoValue = tt
suspends_named f (NumberValue n) = tt
suspends_named f (TextValue t) = tt
suspends_named f (CellValue c) = tt

either_named : (b : Bool) (p q : Running) → Answers NamedEnd p → Answers NamedEnd q → Answers NamedEnd (elim b as (λ z. Running) [ true ↦ p | false ↦ q ])
either_named true p q h k = h
either_named false p q h k = k

then_named : (rest : Frame → Running) (o : Outcome) → NamedEnd o → ((f : Frame) → Answers NamedEnd (rest f)) → Answers NamedEnd (then_run rest o)
then_named rest (WentOn f) h each = each f
then_named rest (EndedWith answer) h each = h
then_named rest WasRefused h each = tt

mutual
  unfolding perform run_statements

  perform_named : (by : Caller) (f : Frame) (s : Statement) → Answers NamedEnd (perform by f s)
  perform_named by f (Let e) = after_any NamedEnd (evaluate by f.held e) (λ v. goes_on (binding f v)) (λ v. tt)
  perform_named by f (UseCell first) = λ new. cell_hook_named f (evaluate by f.held first) new
  perform_named by f (UseHook first) = after_any NamedEnd (evaluate by f.held first) (λ v. hook_with f (hook_kind v) v) (λ v. hook_with_named f (hook_kind v) v)
  perform_named by f (UseDerived derived) = after_any NamedEnd (derived_cell f.held derived) (λ c. bound_cell f c) (λ c. bound_cell_named f c)
  perform_named by f (SpawnTask task es kind) = spawning_named by f task kind (evaluate_all by f.held es)
  perform_named by f (CallAt time action es) =
      after_any NamedEnd (evaluate_all by f.held es) (λ vs. use_effect (time_kind time) (doing action vs) (λ stands. if_stands f stands)) (λ vs stands. if_stands_named f stands)
  perform_named by f (EffectOf action es) = after_any NamedEnd (evaluate_all by f.held es) (λ vs. queue_effect (doing action vs) (goes_on f)) (λ vs. tt)
  perform_named by f (OnResolved action es) = after_any NamedEnd (evaluate_all by f.held es) (λ vs. after_suspense_resolved (doing action vs) (goes_on f)) (λ vs. tt)
  perform_named by f FreezeBoundary = tt
  perform_named by f (When test statements) =
      let inner : Running = go_on (run_statements by f statements) (λ o. done (kept_names f o)) in
      after_any NamedEnd (evaluate by f.held test) (λ v. elim (is_true v) as (λ z. Running) [ true ↦ inner | false ↦ goes_on f ])
      (
      λ v.
      either_named (is_true v) inner (goes_on f)
      (goes_on_so NamedEnd NamedEnd (run_statements by f statements) (λ o. done (kept_names f o)) (statements_named by f statements) (λ o h. kept_names_named f o h)) tt
      )
  perform_named by f (ProvideAs kind e) = after_any NamedEnd (evaluate by f.held e) (λ v. provide false kind v (goes_on f)) (λ v. tt)
  perform_named by f (WriteTo n e) = after_any NamedEnd (evaluate by f.held e) (λ v. written (held_by f.held n) v (goes_on f)) (λ v. written_named (held_by f.held n) v (goes_on f) tt)
  perform_named by f (Forget n) = forgotten_named (held_by f.held n) (goes_on f) tt
  perform_named by f (ActOn act n) = acted_named act (held_by f.held n) (goes_on f) tt
  perform_named by f (MarkScopeOf e) = after_any NamedEnd (evaluate by f.held e) (λ v. marked v (goes_on f)) (λ v. marked_named v (goes_on f) tt)
  perform_named by f (ThrowText e) = after_any NamedEnd (evaluate by f.held e) (λ v. captured (text_of v) (λ made. thrown f made)) (λ v made. thrown_named f made)
  perform_named by f ClearError = tt
  perform_named by f (FailWith e) = after_any NamedEnd (evaluate by f.held e) (λ v. captured (text_of v) (λ made. failed_with made)) (λ v made. failed_named made)
  perform_named by f (SuspendOn n) = suspends_named f (held_by f.held n)
  perform_named by f Stop = tt
  perform_named by f Prevent = tt
  perform_named by f Stay = tt

  statements_named : (by : Caller) (f : Frame) (ss : Statements) → Answers NamedEnd (run_statements by f ss)
  statements_named by f NoStatements = tt
  statements_named by f (MoreStatements first rest) =
      goes_on_so NamedEnd NamedEnd (perform by f first) (λ o. then_run (λ g. run_statements by g rest) o) (perform_named by f first)
      (λ o h. then_named (λ g. run_statements by g rest) o h (λ g. statements_named by g rest))

-- bodies

abbrev AnElement : Element SourceTypes → Type 0
AnElement answer = NamedElement answer

answered_named : (view : View) (o : Outcome) → NamedView view → NamedEnd o → Answers AnElement (answered view o)
answered_named view (WentOn f) h k =
    goes_on_so ATree AnElement (tree_of view (fill ABody f.held view)) (λ tree. done (rendered tree)) (tree_of_named view (fill ABody f.held view) h (fill_named ABody f.held view h)) (λ tree g. g)
answered_named view (EndedWith answer) h k = k
answered_named view WasRefused h k = placeholder_named SourceTypes

body_named : (o : Option ComponentSource) (props : List Value) → ((c : ComponentSource) → o ≡ Some c → NamedView c.view) → Answers AnElement (body_of o props)
body_named None props h = placeholder_named SourceTypes
body_named (Some c) props h =
    goes_on_so NamedEnd AnElement (run_statements ABody (frame_of props) c.statements) (λ o. answered c.view o) (statements_named ABody (frame_of props) c.statements) (λ o k. answered_named c.view o (h c refl) k)

nth_named : (components : List ComponentSource) (n : ℕ) → AllByRecursion (λ (c : ComponentSource). NamedView c.view) components → (c : ComponentSource) → nth components n ≡ Some c → NamedView c.view
nth_named [] n h c e = cc
nth_named (x ∷ xs) zero h c e = let same : x ≡ c = cc in subst (λ (y : ComponentSource). NamedView y.view) same h.0
nth_named (x ∷ xs) (suc n) h c e = nth_named xs n h.1 c e

pub sources_answer_named : (s : Source) → NamedSource s → AnswersNamed (meaning_of s)
sources_answer_named s h = λ c props w.
    means_so AnElement w (body_of (nth s.components c) props) (begun true w.given.next) (body_named (nth s.components c) props (λ x e. nth_named s.components c h x e))
