-- What is told is a value of JSON: its numbers are numbers, and its text is read as that value.
use Rattle.std.proofs.Common.{◌≡◌, ℕ, ◌≤◌, List, [], ◌∷◌, length, sym, ap, ◌∙◌, arith, append-nil, length-append}
use Rattle.std.specs.Prelude.{decimal, Option, Some, None, option_and_then}
use Rattle.json.specs.Json.{Json, null, boolean, number, string, array, object, Items, no_items, item, Members, no_members, member, value, if_last}
use Rattle.json.specs.Print.{print, IsNumber}
use Rattle.json.specs.Tree.{json_tokens, items_tokens, members_tokens, depth, items_depth, members_depth, HasNumbers, ItemsHaveNumbers}
use Rattle.json.proofs.Printed.Decimals.{IsNumber-decimal}
use Rattle.json.proofs.Printed.Tokens.{tokens-print}
use Rattle.json.proofs.Printed.Trees.{ArePrintable-json_tokens, value-json_tokens}
use Rattle.rt_model.specs.Document.{DocAttribute, Content, DocElement, DocText, DocPlaceholder, Forest, Empty, Node, Edit, AppendChildren, ReplaceNodeWith, InsertNodesAfter, RemoveNode, SetNodeText, SetAttribute, CreateEventListener, RemoveEventListener}
use Rattle.rt_model.specs.Lists.{Text}
use Rattle.rt_model.specs.Replay.{Entry, Build, Taken, Heard, Rerun, Poll, Effects, Made, Fed, Kept, Removed}
use Rattle.rt_model.specs.Reports.{Report}
use Rattle.rt_model.specs.State.{Fault, OutOfTurns, TooDeep, IdsExhausted, HookChanged, NoSuchTask, BadNode}
use Rattle.show_answers.specs.Told.{Told, ToldEdit, ToldFault, ToldRefusal, ToldReport}
use Rattle.show_objects.specs.Objects.{attribute_items, edit_json, entry_items, entry_json, fault_json, maybe_json, name_items, node_items, node_json, report_json, told_json}
use Rattle.show_objects.specs.Reading.{json_in}
use Rattle.show_objects.specs.Tellable.{EditFits, EntryFits, FaultFits, IsNarrow, IsTellable, LogFits, NodesFit, ReportFits}

-- a number of 64 bits is written as a number
whole : (n : ℕ) → IsNarrow n → IsNumber (decimal n)
whole n narrow = IsNumber-decimal n narrow

maybe_fits : (text : Option Text) → HasNumbers (maybe_json text)
maybe_fits None = tt
maybe_fits (Some text) = tt

attributes_fit : (attributes : List DocAttribute) → ItemsHaveNumbers (attribute_items attributes)
attributes_fit [] = tt
attributes_fit (a ∷ attributes) = ((tt, (maybe_fits a.namespace, (tt, tt))), attributes_fit attributes)

names_fit : (names : List Text) → ItemsHaveNumbers (name_items names)
names_fit [] = tt
names_fit (name ∷ names) = (tt, names_fit names)

node_fits : (id : ℕ) (content : Content) (kids : Items) → IsNarrow id → ItemsHaveNumbers kids → HasNumbers (node_json id content kids)
node_fits id (DocElement tag namespace attributes listeners) kids narrow below =
    (tt, (maybe_fits namespace, (whole id narrow, (attributes_fit attributes, (names_fit listeners, (below, tt))))))
node_fits id (DocText text) kids narrow below = (tt, (whole id narrow, tt))
node_fits id DocPlaceholder kids narrow below = (tt, (whole id narrow, tt))

nodes_fit : (nodes : Forest) → NodesFit nodes → ItemsHaveNumbers (node_items nodes)
nodes_fit Empty fit = tt
nodes_fit (Node id content children rest) fit = (node_fits id content (node_items children) fit.0 (nodes_fit children fit.2), nodes_fit rest fit.3)

edit_fits : (edit : Edit) → EditFits edit → HasNumbers (edit_json edit)
edit_fits (AppendChildren id nodes) fit = (tt, (whole id fit.0, (nodes_fit nodes fit.1, tt)))
edit_fits (ReplaceNodeWith id nodes) fit = (tt, (whole id fit.0, (nodes_fit nodes fit.1, tt)))
edit_fits (InsertNodesAfter id nodes) fit = (tt, (whole id fit.0, (nodes_fit nodes fit.1, tt)))
edit_fits (RemoveNode id) fit = (tt, (whole id fit, tt))
edit_fits (SetNodeText id text) fit = (tt, (whole id fit, (tt, tt)))
edit_fits (SetAttribute id name namespace to) fit = (tt, (whole id fit, (tt, (maybe_fits namespace, (maybe_fits to, tt)))))
edit_fits (CreateEventListener id name) fit = (tt, (whole id fit, (tt, tt)))
edit_fits (RemoveEventListener id name) fit = (tt, (whole id fit, (tt, tt)))

entry_fits : (entry : Entry) → EntryFits entry → HasNumbers (entry_json entry)
entry_fits Build fit = (tt, tt)
entry_fits (Taken k) fit = (whole k fit, tt)
entry_fits (Heard s) fit = (whole s fit, tt)
entry_fits (Rerun s) fit = (whole s fit, tt)
entry_fits (Poll t) fit = (whole t fit, tt)
entry_fits (Effects s) fit = (whole s fit, tt)
entry_fits (Made s) fit = (whole s fit, tt)
entry_fits (Fed s) fit = (whole s fit, tt)
entry_fits (Kept s) fit = (whole s fit, tt)
entry_fits (Removed s) fit = (whole s fit, tt)

log_fits : (log : List Entry) → LogFits log → ItemsHaveNumbers (entry_items log)
log_fits [] fit = tt
log_fits (entry ∷ log) fit = (entry_fits entry fit.0, log_fits log fit.1)

report_fits : (n : ℕ) (report : Report) → IsNarrow n → ReportFits report → HasNumbers (report_json n report)
report_fits n report narrow fit = (
  whole n narrow,
  (
    whole report.units fit.units,
    (
      whole report.bodies fit.bodies,
      (
        whole report.edits fit.edits,
        (
          tt,
          (log_fits report.log fit.log, tt),
        ),
      ),
    ),
  ),
)

fault_fits : (fault : Fault) → FaultFits fault → HasNumbers (fault_json fault)
fault_fits (OutOfTurns units) fit = (whole 3 (omega arith), (tt, (whole units fit, tt)))
fault_fits (TooDeep height) fit = (whole 4 (omega arith), (tt, (whole height fit, tt)))
fault_fits (IdsExhausted what) fit = (whole 5 (omega arith), (tt, (tt, tt)))
fault_fits (HookChanged scope index kept asked) fit =
    (whole 6 (omega arith), (tt, (whole scope fit.0, (whole index fit.1, (whole kept fit.2, (whole asked fit.3, tt))))))
fault_fits (NoSuchTask scope task) fit = (whole 7 (omega arith), (tt, (whole scope fit.0, (whole task fit.1, tt))))
fault_fits (BadNode scope) fit = (whole 8 (omega arith), (tt, (whole scope fit, tt)))

pub told_fits : (told : Told) → IsTellable told → HasNumbers (told_json told)
told_fits (ToldEdit edit) fit = edit_fits edit fit
told_fits (ToldReport n report) fit = report_fits n report fit.0 fit.1
told_fits (ToldFault fault) fit = fault_fits fault fit
told_fits ToldRefusal fit = (tt, tt)

-- each level of a value has a token
mutual
  shallow : (j : Json) → depth j ≤ length (json_tokens j)
  shallow null = omega arith
  shallow (boolean so) = omega arith
  shallow (number digits) = omega arith
  shallow (string text) = omega arith
  shallow (array js) = omega (arith, shallow_items js)
  shallow (object ms) = omega (arith, shallow_members ms)

  shallow_items : (js : Items) → items_depth js ≤ length (items_tokens js)
  shallow_items no_items = omega arith
  shallow_items (item j js) = omega (arith, shallow j, shallow_items js, length-append (json_tokens j) (items_tokens js))

  shallow_members : (ms : Members) → members_depth ms ≤ length (members_tokens ms)
  shallow_members no_members = omega arith
  shallow_members (member name j ms) =
      omega (arith, shallow j, shallow_members ms, length-append (json_tokens j) (members_tokens ms))

-- a value is read as it was written
pub json_back : (j : Json) → HasNumbers j → json_in (print (json_tokens j)) ≡ Some j
json_back j numbers =
    ap (option_and_then (λ p. if_last p.0 p.1))
    (ap (λ ts. value (length ts) ts) (tokens-print (json_tokens j) (ArePrintable-json_tokens j numbers))
    ∙ ap (value (length (json_tokens j))) (sym (append-nil (json_tokens j)))
    ∙ value-json_tokens j (length (json_tokens j)) [] (shallow j))
