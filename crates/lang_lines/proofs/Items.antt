-- Lines, and the lines of whole runs, are told apart.
use Rattle.std.proofs.Common.{arith, ◌≡◌, ◌∙◌, ℕ, ◌^◌, ◌*◌, ◌+◌, ◌<◌, ◌==◌, List, [], ◌∷◌, ◌++◌, Option, Some, None, map, length, refl, ap, sym, append_assoc}
use Rattle.std.proofs.lemmas.List.{append-nil}
use Rattle.std.specs.Prelude.{codes, if◌then◌else◌}
use Rattle.std.specs.List.{AllByRecursion}
use Rattle.rt_model.specs.Lists.{joined}
use Rattle.rt_model.specs.Document.{Edit, AppendChildren, ReplaceNodeWith, InsertNodesAfter, RemoveNode, SetNodeText, SetAttribute, CreateEventListener, RemoveEventListener}
use Rattle.rt_model.specs.State.{Fault, OutOfTurns, TooDeep, IdsExhausted, HookChanged, NoSuchTask, BadNode}
use Rattle.rt_model.specs.Reports.{Report}
use Rattle.rt_language.specs.Lines.{line, edit_text, edit_lines, report_line, report_lines, fault_text, taken_text, text_of, fault_text_of}
use Rattle.lang_lines.specs.Told.{IsSmall}
use Rattle.lang_lines.specs.Plain.{IsPlainEdit, IsSmallFault}
use Rattle.lang_lines.specs.Runs.{Item, EditOf, ReportOf, FaultOf, TakenOf, line_of, IsPlain, Same, AllSame, AllAlike, ArePlain}
use Rattle.lang_lines.proofs.Edits.{sort_in, sort_of_edit, edits_parted}
use Rattle.lang_lines.proofs.Faults.{faults_parted, messages_parted}
use Rattle.lang_lines.proofs.Reports.{reports_parted}

sort_of : Item → ℕ
sort_of (EditOf e) = sort_of_edit e
sort_of (ReportOf number report) = 112 * 256 + 111
sort_of (FaultOf fault) = 117 * 256 + 108
sort_of (TakenOf number m) = 107 * 256 + 101

edit_line_sort : (e : Edit) (r : List ℕ) → sort_in (line (edit_text e) ++ r) ≡ sort_of_edit e
unfolding sort_in sort_of_edit
edit_line_sort (AppendChildren id nodes) r = refl
edit_line_sort (ReplaceNodeWith id nodes) r = refl
edit_line_sort (InsertNodesAfter id nodes) r = refl
edit_line_sort (RemoveNode id) r = refl
edit_line_sort (SetNodeText id text) r = refl
edit_line_sort (SetAttribute id name namespace value) r = refl
edit_line_sort (CreateEventListener id name) r = refl
edit_line_sort (RemoveEventListener id name) r = refl

fault_line_sort : (a : Fault) (r : List ℕ) → sort_in (line (fault_text a) ++ r) ≡ 117 * 256 + 108
unfolding sort_in
fault_line_sort (OutOfTurns units) r = refl
fault_line_sort (TooDeep height) r = refl
fault_line_sort (IdsExhausted what) r = refl
fault_line_sort (HookChanged scope index kept asked) r = refl
fault_line_sort (NoSuchTask scope task) r = refl
fault_line_sort (BadNode scope) r = refl

sort_is : (a : Item) (r : List ℕ) → sort_in (line_of a ++ r) ≡ sort_of a
unfolding sort_in sort_of
sort_is (EditOf e) r = edit_line_sort e r
sort_is (ReportOf number report) r = refl
sort_is (FaultOf fault) r = fault_line_sort fault r
sort_is (TakenOf number m) r = refl

-- what kind of item has a line of this sort
kind_at : ℕ → ℕ
kind_at n = if n == 112 * 256 + 111 then 1 else (if n == 117 * 256 + 108 then 2 else (if n == 107 * 256 + 101 then 3 else 0))

kind_of : Item → ℕ
kind_of (EditOf e) = 0
kind_of (ReportOf number report) = 1
kind_of (FaultOf fault) = 2
kind_of (TakenOf number m) = 3

edit_kind : (e : Edit) → kind_at (sort_of_edit e) ≡ 0
unfolding kind_at sort_of_edit
edit_kind (AppendChildren id nodes) = refl
edit_kind (ReplaceNodeWith id nodes) = refl
edit_kind (InsertNodesAfter id nodes) = refl
edit_kind (RemoveNode id) = refl
edit_kind (SetNodeText id text) = refl
edit_kind (SetAttribute id name namespace value) = refl
edit_kind (CreateEventListener id name) = refl
edit_kind (RemoveEventListener id name) = refl

kind_is : (a : Item) → kind_at (sort_of a) ≡ kind_of a
unfolding kind_at kind_of sort_of
kind_is (EditOf e) = edit_kind e
kind_is (ReportOf number report) = refl
kind_is (FaultOf fault) = refl
kind_is (TakenOf number m) = refl

ended_line : (t r : List ℕ) → line t ++ r ≡ t ++ (10 ∷ r)
ended_line t r = append_assoc t (codes "\n") r

-- lines of items and what follows them are told apart
items_parted : (a b : Item) (r s : List ℕ) → IsPlain a → IsPlain b → line_of a ++ r ≡ line_of b ++ s → Same a b × (r ≡ s)
unfolding kind_of
items_parted (EditOf e) (EditOf f) r s plain plains same =
    edits_parted e f r s plain plains (sym (ended_line (edit_text e) r) ∙ same ∙ ended_line (edit_text f) s)
items_parted (ReportOf k x) (ReportOf l y) r s plain plains same =
    let both = reports_parted k l x y r s plain.0 plains.0 plain.1 plains.1 same in
    ((both.0, both.1), both.2)
items_parted (FaultOf a) (FaultOf b) r s plain plains same =
    faults_parted a b r s plain plains (sym (ended_line (fault_text a) r) ∙ same ∙ ended_line (fault_text b) s)
items_parted (TakenOf k m) (TakenOf l n) r s plain plains same =
    let both = messages_parted k l m n r s plain.0 plains.0 plain.1 plains.1 (sym (ended_line (taken_text k m) r) ∙ same ∙ ended_line
    (taken_text l n) s) in
    ((both.0, both.1), both.2)
items_parted a b r s plain plains same =
    let kinds : kind_of a ≡ kind_of b =
    sym (kind_is a) ∙ ap kind_at (sym (sort_is a r) ∙ ap sort_in same ∙ sort_is b s) ∙ kind_is b in
    absurd (omega (arith, kinds))

-- items with one line are the same
pub items_tell : (a b : Item) → IsPlain a → IsPlain b → line_of a ≡ line_of b → Same a b
items_tell a b plain plains same = (items_parted a b [] [] plain plains (ap (λ t. t ++ []) same)).0

-- no line is empty

edit_sort_positive : (e : Edit) → 0 < sort_of_edit e
unfolding sort_of_edit
edit_sort_positive (AppendChildren id nodes) = omega arith
edit_sort_positive (ReplaceNodeWith id nodes) = omega arith
edit_sort_positive (InsertNodesAfter id nodes) = omega arith
edit_sort_positive (RemoveNode id) = omega arith
edit_sort_positive (SetNodeText id text) = omega arith
edit_sort_positive (SetAttribute id name namespace value) = omega arith
edit_sort_positive (CreateEventListener id name) = omega arith
edit_sort_positive (RemoveEventListener id name) = omega arith

sort_positive : (a : Item) → 0 < sort_of a
unfolding sort_of
sort_positive (EditOf e) = edit_sort_positive e
sort_positive (ReportOf number report) = omega arith
sort_positive (FaultOf fault) = omega arith
sort_positive (TakenOf number m) = omega arith

none_sort : sort_in [] ≡ 0
unfolding sort_in
none_sort = refl

no_line : (a : Item) (r : List ℕ) → [] ≡ line_of a ++ r → ⊥
no_line a r same =
    let zero_is : 0 ≡ sort_of a = sym none_sort ∙ ap sort_in same ∙ sort_is a r in
    omega (arith, zero_is, sort_positive a)

-- lists of items whose lines make one text are the same
pub runs_tell : (items others : List Item) → AllByRecursion IsPlain items → AllByRecursion IsPlain others
    → joined (map line_of items) ≡ joined (map line_of others)
    → AllSame items others
runs_tell [] [] plain plains same = tt
runs_tell [] (b ∷ others) plain plains same = absurd (no_line b (joined (map line_of others)) same)
runs_tell (a ∷ items) [] plain plains same = absurd (no_line a (joined (map line_of items)) (sym same))
runs_tell (a ∷ items) (b ∷ others) plain plains same =
    let both = items_parted a b (joined (map line_of items)) (joined (map line_of others)) plain.0 plains.0 same in
    (both.0, runs_tell items others plain.1 plains.1 both.1)

-- the items of a run: its edits, its reports from a number on, and a fault where one ended it

ended : Option Fault → List Item
ended None = []
ended (Some fault) = FaultOf fault ∷ []

then_reports : ℕ → List Report → List Item → List Item
then_reports k [] rest = rest
then_reports k (r ∷ reports) rest = ReportOf k r ∷ then_reports (k + 1) reports rest

then_edits : List Edit → List Item → List Item
then_edits [] rest = rest
then_edits (e ∷ edits) rest = EditOf e ∷ then_edits edits rest

run_items : List Edit → List Report → Option Fault → List Item
run_items edits reports end = then_edits edits (then_reports 0 reports (ended end))

edits_text : (edits : List Edit) (rest : List Item)
    → joined (map line_of (then_edits edits rest)) ≡ joined (edit_lines edits) ++ joined (map line_of rest)
unfolding then_edits
edits_text [] rest = refl
edits_text (e ∷ edits) rest =
    ap (λ t. line (edit_text e) ++ t) (edits_text edits rest)
    ∙ sym (append_assoc (line (edit_text e)) (joined (edit_lines edits)) (joined (map line_of rest)))

reports_text : (k : ℕ) (reports : List Report) (rest : List Item)
    → joined (map line_of (then_reports k reports rest)) ≡ joined (report_lines k reports) ++ joined (map line_of rest)
unfolding then_reports
reports_text k [] rest = refl
reports_text k (r ∷ reports) rest =
    ap (λ t. report_line k r ++ t) (reports_text (k + 1) reports rest)
    ∙ sym (append_assoc (report_line k r) (joined (report_lines (k + 1) reports)) (joined (map line_of rest)))

run_text : (edits : List Edit) (reports : List Report) (end : Option Fault)
    → joined (map line_of (run_items edits reports end)) ≡ text_of edits reports ++ joined (map line_of (ended end))
unfolding run_items
run_text edits reports end =
    edits_text edits (then_reports 0 reports (ended end))
    ∙ ap (λ t. joined (edit_lines edits) ++ t) (reports_text 0 reports (ended end))
    ∙ sym (append_assoc (joined (edit_lines edits)) (joined (report_lines 0 reports)) (joined (map line_of (ended end))))

done_text : (edits : List Edit) (reports : List Report) → joined (map line_of (run_items edits reports None)) ≡ text_of edits reports
unfolding ended
done_text edits reports = run_text edits reports None ∙ append-nil (text_of edits reports)

fault_run_text : (edits : List Edit) (reports : List Report) (a : Fault)
    → joined (map line_of (run_items edits reports (Some a))) ≡ fault_text_of edits reports a
unfolding ended
fault_run_text edits reports a =
    run_text edits reports (Some a) ∙ ap (λ t. text_of edits reports ++ t) (append-nil (line (fault_text a)))

-- all of them are plain

IsSmallEnd : Option Fault → Type 0
IsSmallEnd None = Unit {0}
IsSmallEnd (Some a) = IsSmallFault a

end_plain : (end : Option Fault) → IsSmallEnd end → AllByRecursion IsPlain (ended end)
unfolding ended IsSmallEnd
end_plain None small = tt
end_plain (Some a) small = (small, tt)

reports_plain : (k : ℕ) (reports : List Report) (rest : List Item) → k + length reports < 2 ^ 64 → AllByRecursion IsSmall reports
    → AllByRecursion IsPlain rest
    → AllByRecursion IsPlain (then_reports k reports rest)
unfolding then_reports
reports_plain k [] rest few small plain = plain
reports_plain k (r ∷ reports) rest few small plain =
    ((omega arith, small.0), reports_plain (k + 1) reports rest (omega arith) small.1 plain)

edits_plain : (edits : List Edit) (rest : List Item) → AllByRecursion IsPlainEdit edits → AllByRecursion IsPlain rest
    → AllByRecursion IsPlain (then_edits edits rest)
unfolding then_edits
edits_plain [] rest small plain = plain
edits_plain (e ∷ edits) rest small plain = (small.0, edits_plain edits rest small.1 plain)

run_plain : (edits : List Edit) (reports : List Report) (end : Option Fault) → ArePlain edits reports → IsSmallEnd end
    → AllByRecursion IsPlain (run_items edits reports end)
unfolding run_items
run_plain edits reports end plain small =
    edits_plain edits (then_reports 0 reports (ended end)) plain.edited
    (reports_plain 0 reports (ended end) (omega (arith, plain.few)) plain.reported (end_plain end small))

-- the same items are the same edits, alike reports and the same fault

ends_same : (end other : Option Fault) → AllSame (ended end) (ended other) → end ≡ other
unfolding ended
ends_same None None same = refl
ends_same None (Some b) same = absurd same
ends_same (Some a) None same = absurd same
ends_same (Some a) (Some b) same = ap Some same.0

reports_same : (k : ℕ) (reports others : List Report) (end other : Option Fault)
    → AllSame (then_reports k reports (ended end)) (then_reports k others (ended other))
    → AllAlike reports others × (end ≡ other)
unfolding then_reports ended
reports_same k [] [] end other same = (tt, ends_same end other same)
reports_same k [] (s ∷ others) None other same = absurd same
reports_same k [] (s ∷ others) (Some a) other same = absurd same.0
reports_same k (r ∷ reports) [] end None same = absurd same
reports_same k (r ∷ reports) [] end (Some b) same = absurd same.0
reports_same k (r ∷ reports) (s ∷ others) end other same =
    let both = reports_same (k + 1) reports others end other same.1 in
    ((same.0.1, both.0), both.1)

edits_same : (edits more : List Edit) (reports others : List Report) (end other : Option Fault)
    → AllSame (then_edits edits (then_reports 0 reports (ended end))) (then_edits more (then_reports 0 others (ended other)))
    → (edits ≡ more) × AllAlike reports others × (end ≡ other)
unfolding then_edits then_reports ended
edits_same [] [] reports others end other same =
    let both = reports_same 0 reports others end other same in
    (refl, both.0, both.1)
edits_same [] (f ∷ more) [] others None other same = absurd same
edits_same [] (f ∷ more) [] others (Some a) other same = absurd same.0
edits_same [] (f ∷ more) (r ∷ reports) others end other same = absurd same.0
edits_same (e ∷ edits) [] reports [] end None same = absurd same
edits_same (e ∷ edits) [] reports [] end (Some b) same = absurd same.0
edits_same (e ∷ edits) [] reports (s ∷ others) end other same = absurd same.0
edits_same (e ∷ edits) (f ∷ more) reports others end other same =
    let both = edits_same edits more reports others end other same.1 in
    (ap (λ x. x ∷ edits) same.0 ∙ ap (λ rest. f ∷ rest) both.0, both.1, both.2)

run_told : (edits more : List Edit) (reports others : List Report) (end other : Option Fault)
    → ArePlain edits reports → ArePlain more others → IsSmallEnd end → IsSmallEnd other
    → joined (map line_of (run_items edits reports end)) ≡ joined (map line_of (run_items more others other))
    → (edits ≡ more) × AllAlike reports others × (end ≡ other)
unfolding run_items
run_told edits more reports others end other plain plains small little same =
    edits_same edits more reports others end other (runs_tell (run_items edits reports end) (run_items more others other)
    (run_plain edits reports end plain small) (run_plain more others other plains little) same)

no_end : IsSmallEnd None
unfolding IsSmallEnd
no_end = tt

fault_end : (a : Fault) → IsSmallFault a → IsSmallEnd (Some a)
unfolding IsSmallEnd
fault_end a small = small

fault_in : Fault → Option Fault → Fault
fault_in a None = a
fault_in a (Some b) = b

faults_told : (a b : Fault) → Some a ≡ Some b → a ≡ b
unfolding fault_in
faults_told a b same = ap (λ o. fault_in a o) same

-- the text of a run that was done tells its edits and reports
pub texts_tell : (edits more : List Edit) (reports others : List Report) → ArePlain edits reports → ArePlain more others
    → text_of edits reports ≡ text_of more others
    → (edits ≡ more) × AllAlike reports others
texts_tell edits more reports others plain plains same =
    let all = run_told edits more reports others None None plain plains no_end no_end
    (done_text edits reports ∙ same ∙ sym (done_text more others)) in
    (all.0, all.1)

-- the text of a run that a fault ended tells them, and the fault
pub fault_texts_tell : (edits more : List Edit) (reports others : List Report) (a b : Fault) → ArePlain edits reports
    → ArePlain more others → IsSmallFault a → IsSmallFault b
    → fault_text_of edits reports a ≡ fault_text_of more others b
    → (edits ≡ more) × AllAlike reports others × (a ≡ b)
fault_texts_tell edits more reports others a b plain plains small little same =
    let all = run_told edits more reports others (Some a) (Some b) plain plains (fault_end a small) (fault_end b little)
    (fault_run_text edits reports a ∙ same ∙ sym (fault_run_text more others b)) in
    (all.0, all.1, faults_told a b all.2)

-- no text of the one sort is a text of the other
pub ends_tell : (edits more : List Edit) (reports others : List Report) (b : Fault) → ArePlain edits reports → ArePlain more others
    → IsSmallFault b → text_of edits reports ≡ fault_text_of more others b → ⊥
ends_tell edits more reports others b plain plains little same =
    let all = run_told edits more reports others None (Some b) plain plains no_end (fault_end b little)
    (done_text edits reports ∙ same ∙ sym (fault_run_text more others b)) in
    absurd (cc all.2)
