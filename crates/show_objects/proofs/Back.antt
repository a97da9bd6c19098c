-- What an object tells is what it was written of.
use Rattle.std.proofs.Common.{◌≡◌, ℕ, Bool, true, List, [], ◌∷◌, refl, sym, ap, ◌∙◌}
use Rattle.std.proofs.lemmas.Fmt.{decimal_is_IsNumeral}
use Rattle.std.specs.Prelude.{codes, decimal, Option, Some, None, option_and_then, option_map}
use Rattle.std.specs.Str.Parse.{digits_value}
use Rattle.json.specs.Json.{Items}
use Rattle.rt_language.specs.Lines.{counter_text}
use Rattle.rt_model.specs.Document.{DocAttribute, Content, DocElement, DocText, DocPlaceholder, Forest, Empty, Node, Edit, AppendChildren, ReplaceNodeWith, InsertNodesAfter, RemoveNode, SetNodeText, SetAttribute, CreateEventListener, RemoveEventListener}
use Rattle.rt_model.specs.Lists.{Text}
use Rattle.rt_model.specs.Replay.{Entry, Build, Taken, Heard, Rerun, Poll, Effects, Made, Fed, Kept, Removed}
use Rattle.rt_model.specs.Reports.{Report}
use Rattle.rt_model.specs.State.{Fault, OutOfTurns, TooDeep, IdsExhausted, HookChanged, NoSuchTask, BadNode}
use Rattle.rt_model.specs.World.{Counter, Scopes, Tasks, Cells, Contexts, Elements, Errors, Renders}
use Rattle.show_answers.specs.Told.{Told, ToldEdit, ToldFault, ToldRefusal, ToldReport}
use Rattle.show_objects.proofs.Fit.{json_back, told_fits}
use Rattle.show_objects.specs.Objects.{attribute_items, attribute_json, edit_json, entry_items, entry_json, fault_json, json_text, maybe_json, name_items, node_items, node_json, report_json, told_json}
use Rattle.show_objects.specs.Reading.{attribute_in, attribute_of, attributes_in, below_in, content_in, counter_in, edit_in, either, else_told, entry_in, log_in, maybe_in, names_in, nodes_in, number_at, report_in, report_of, text_at, told_by, told_in}
use Rattle.show_objects.specs.Tellable.{EditFits, EntryFits, FaultFits, IsBelow, IsNarrow, IsTellable, LogFits, NodesFit, ReportFits}

-- the digits of a number are its own
same : (n : ℕ) → IsNarrow n → digits_value 10 (decimal n) ≡ n
same n narrow = (decimal_is_IsNumeral n narrow).1

maybe_back : (text : Option Text) → maybe_in (maybe_json text) ≡ Some text
maybe_back None = refl
maybe_back (Some text) = refl

-- nodes

attribute_back : (a : DocAttribute) → attribute_in (attribute_json a) ≡ Some a
attribute_back a = ap (option_and_then (λ (namespace : Option Text). Some (attribute_of a.name namespace a.value))) (maybe_back a.namespace)

attributes_back : (attributes : List DocAttribute) → attributes_in (attribute_items attributes) ≡ Some attributes
attributes_back [] = refl
attributes_back (a ∷ attributes) =
    λ i. option_and_then (λ (first : DocAttribute). option_map (λ rest. first ∷ rest) (attributes_back attributes i)) (attribute_back a i)

names_back : (names : List Text) → names_in (name_items names) ≡ Some names
names_back [] = refl
names_back (name ∷ names) = ap (option_map (λ rest. name ∷ rest)) (names_back names)

abbrev element_made : Text → Option (Option Text) → Option (List DocAttribute) → Option (List Text) → Option Content
element_made tag namespace attributes listeners =
    option_and_then (λ ns. option_and_then (λ rows. option_map (λ names. DocElement tag ns rows names) listeners) attributes) namespace

content_back : (id : ℕ) (content : Content) (kids : Items) → content_in (node_json id content kids) ≡ Some content
content_back id (DocElement tag namespace attributes listeners) kids =
    λ i. either (element_made tag (maybe_back namespace i) (attributes_back attributes i) (names_back listeners i)) None
content_back id (DocText text) kids = refl
content_back id DocPlaceholder kids = refl

id_back : (id : ℕ) (content : Content) (kids : Items) → IsNarrow id → number_at (codes "id") (node_json id content kids) ≡ Some id
id_back id (DocElement tag namespace attributes listeners) kids narrow = ap Some (same id narrow)
id_back id (DocText text) kids narrow = ap Some (same id narrow)
id_back id DocPlaceholder kids narrow = ap Some (same id narrow)

below_back : (id : ℕ) (content : Content) (children : Forest) → IsBelow content children → nodes_in (node_items children) ≡ Some children
    → below_in (node_json id content (node_items children)) ≡ Some children
below_back id (DocElement tag namespace attributes listeners) children is back = back
below_back id (DocText text) children is back = ap Some (sym is)
below_back id DocPlaceholder children is back = ap Some (sym is)

abbrev node_made : Option ℕ → Option Content → Option Forest → Option Forest → Option Forest
node_made number content below behind =
    option_and_then (λ id. option_and_then (λ what. option_and_then (λ children. option_map (λ rest. Node id what children rest) behind) below) content)
    number

nodes_back : (nodes : Forest) → NodesFit nodes → nodes_in (node_items nodes) ≡ Some nodes
nodes_back Empty fit = refl
nodes_back (Node id content children rest) fit =
    let kids = node_items children in
    let own = id_back id content kids fit.0 in
    let what = content_back id content kids in
    let below = below_back id content children fit.1 (nodes_back children fit.2) in
    let behind = nodes_back rest fit.3 in
    λ i. node_made (own i) (what i) (below i) (behind i)

-- edits

edit_back : (edit : Edit) → EditFits edit → edit_in (edit_json edit) ≡ Some edit
edit_back (AppendChildren id nodes) fit = λ i. option_map (AppendChildren (same id fit.0 i)) (nodes_back nodes fit.1 i)
edit_back (ReplaceNodeWith id nodes) fit = λ i. option_map (ReplaceNodeWith (same id fit.0 i)) (nodes_back nodes fit.1 i)
edit_back (InsertNodesAfter id nodes) fit = λ i. option_map (InsertNodesAfter (same id fit.0 i)) (nodes_back nodes fit.1 i)
edit_back (RemoveNode id) fit = λ i. Some (RemoveNode (same id fit i))
edit_back (SetNodeText id text) fit = λ i. Some (SetNodeText (same id fit i) text)
edit_back (SetAttribute id name namespace value) fit =
    λ i. option_and_then (λ ns. option_map (λ to. SetAttribute (same id fit i) name ns to) (maybe_back value i)) (maybe_back namespace i)
edit_back (CreateEventListener id name) fit = λ i. Some (CreateEventListener (same id fit i) name)
edit_back (RemoveEventListener id name) fit = λ i. Some (RemoveEventListener (same id fit i) name)

-- the word of an edit
abbrev edit_word : Edit → Text
edit_word (AppendChildren id nodes) = codes "append"
edit_word (ReplaceNodeWith id nodes) = codes "replace"
edit_word (InsertNodesAfter id nodes) = codes "after"
edit_word (RemoveNode id) = codes "remove"
edit_word (SetNodeText id text) = codes "text"
edit_word (SetAttribute id name namespace value) = codes "attr"
edit_word (CreateEventListener id name) = codes "listen"
edit_word (RemoveEventListener id name) = codes "unlisten"

word_back : (edit : Edit) → text_at (codes "edit") (edit_json edit) ≡ Some (edit_word edit)
word_back (AppendChildren id nodes) = refl
word_back (ReplaceNodeWith id nodes) = refl
word_back (InsertNodesAfter id nodes) = refl
word_back (RemoveNode id) = refl
word_back (SetNodeText id text) = refl
word_back (SetAttribute id name namespace value) = refl
word_back (CreateEventListener id name) = refl
word_back (RemoveEventListener id name) = refl

-- reports

entry_back : (entry : Entry) → EntryFits entry → entry_in (entry_json entry) ≡ Some entry
entry_back Build fit = refl
entry_back (Taken k) fit = λ i. Some (Taken (same k fit i))
entry_back (Heard s) fit = λ i. Some (Heard (same s fit i))
entry_back (Rerun s) fit = λ i. Some (Rerun (same s fit i))
entry_back (Poll t) fit = λ i. Some (Poll (same t fit i))
entry_back (Effects s) fit = λ i. Some (Effects (same s fit i))
entry_back (Made s) fit = λ i. Some (Made (same s fit i))
entry_back (Fed s) fit = λ i. Some (Fed (same s fit i))
entry_back (Kept s) fit = λ i. Some (Kept (same s fit i))
entry_back (Removed s) fit = λ i. Some (Removed (same s fit i))

log_back : (log : List Entry) → LogFits log → log_in (entry_items log) ≡ Some log
log_back [] fit = refl
log_back (entry ∷ log) fit =
    let first = entry_back entry fit.0 in
    let later = log_back log fit.1 in
    λ i. option_and_then (λ (e : Entry). option_map (λ rest. e ∷ rest) (later i)) (first i)

report_back : (number : ℕ) (report : Report) → ReportFits report → report_in (report_json number report) ≡ Some report
report_back number report fit =
    λ i. option_map (report_of (same report.units fit.units i) (same report.bodies fit.bodies i) (same report.edits fit.edits i) report.default_enabled)
    (log_back report.log fit.log i)

-- faults

counter_back : (what : Counter) → counter_in (counter_text what) ≡ Some what
counter_back Scopes = refl
counter_back Tasks = refl
counter_back Cells = refl
counter_back Contexts = refl
counter_back Elements = refl
counter_back Errors = refl
counter_back Renders = refl

fault_back : (fault : Fault) → FaultFits fault → told_in (fault_json fault) ≡ Some (ToldFault fault)
fault_back (OutOfTurns units) fit = λ i. Some (ToldFault (OutOfTurns (same units fit i)))
fault_back (TooDeep height) fit = λ i. Some (ToldFault (TooDeep (same height fit i)))
fault_back (IdsExhausted what) fit = λ i. either (option_map ToldFault (option_map IdsExhausted (counter_back what i))) None
fault_back (HookChanged scope index kept asked) fit =
    λ i. Some (ToldFault (HookChanged (same scope fit.0 i) (same index fit.1 i) (same kept fit.2 i) (same asked fit.3 i)))
fault_back (NoSuchTask scope task) fit = λ i. Some (ToldFault (NoSuchTask (same scope fit.0 i) (same task fit.1 i)))
fault_back (BadNode scope) fit = λ i. Some (ToldFault (BadNode (same scope fit i)))

-- what is told

abbrev edit_told : Option Text → Option Edit → Option Told
edit_told word edit = option_and_then (λ w. option_map ToldEdit edit) word

pub told_back : (told : Told) → IsTellable told → told_in (told_json told) ≡ Some told
told_back (ToldEdit edit) fit =
    let word = word_back edit in
    let back = edit_back edit fit in
    λ i. either (edit_told (word i) (back i)) (else_told (edit_json edit))
told_back (ToldReport number report) fit =
    let own = same number fit.0 in
    let back = report_back number report fit.1 in
    λ i. either (option_map (ToldReport (own i)) (back i)) None
told_back (ToldFault fault) fit = fault_back fault fit
told_back ToldRefusal fit = refl

pub read_back : (told : Told) → IsTellable told → told_by (json_text (told_json told)) ≡ Some told
read_back told fit =
    ap (option_and_then told_in) (json_back (told_json told) (told_fits told fit)) ∙ told_back told fit
