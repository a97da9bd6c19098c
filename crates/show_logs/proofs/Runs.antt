-- What a value with a log says of a run.
use Rattle.std.proofs.Common.{BTreeMap, ℕ, ◌<◌, ◌≤◌, Bool, true, false, cond, List, [], ◌∷◌, ◌≡◌, refl, sym, ap, ◌∙◌, subst, length, map, arith}
use Rattle.std.specs.Prelude.{Option, Some, None, option_map, option_and_then, Result, Ok, Err, IfOk, codes, String, string_bytes}
use Rattle.std.specs.Str.{IsUtf8}
use Rattle.std.specs.Ordering.{nat_cmp, is_eq}
use Rattle.std.specs.Cmp.Lexicographic.{slice_cmp}
use Rattle.std.specs.declared.alloc.Global.{Global}
use Rattle.std.proofs.lemmas.List.{length-map}
use Rattle.std.specs.Map.{remove_entry}
use Rattle.rt_lemmas.proofs.Options.{some_same, none_is}
use Rattle.serde_json.specs.Data.{Data, Items, Members, object, member}
use Rattle.serde_json.specs.Find.{get, as_array}
use Rattle.serde_json.specs.Read.{read}
use Rattle.lang_expressions.specs.Fields.{list_at}
use Rattle.serde_json.specs.View.{view, members_view}
use Rattle.serde_json.specs.declared.value.Value.{Value, Object}
use Rattle.serde_json.proofs.Views.{view-Object}
use Rattle.rt_language.specs.Syntax as language
use Rattle.rt_model.specs.Replay.{Entry}
use Rattle.run_reports.specs.Seen.{entry_of}
use Rattle.run_reports.specs.declared.entry.Entry.{Entry as Noted}
use Rattle.lang_syntax.specs.Mirror.{input_of, source_of}
use Rattle.lang_syntax.specs.declared.source.Source.{Source}
use Rattle.lang_sources.specs.Describes.{IsSource}
use Rattle.lang_sources.specs.Whole.{source_in}
use Rattle.lang_sources.proofs.Described.{value_sound, value_complete}
use Rattle.show_logs.specs.Written.{WritesList, AreWritten}
use Rattle.lang_sources.specs.declared.reading.TheConstants.{SOURCE_LIMIT}
use Rattle.show_logs.specs.Recorded.{without, without_log, HasLog, IsRecorded}
use Rattle.show_logs.specs.Reading.{ReadsLists, ReadsLog}
use Rattle.show_logs.specs.Runs.{Gathers, ReadsRun, ReadsBytes}
use Rattle.show_logs.specs.declared.reading.Run.{Run}
use Rattle.show_logs.proofs.Items.{counted}

-- the members that are left when one was taken out by its key
pub members_left : (key : List ℕ) (test : String Global → Bool) (es : List (String Global × Value))
    → ((l : String Global) → test l ≡ is_eq (slice_cmp nat_cmp key (string_bytes l)))
    → members_view (remove_entry test es) ≡ without key (members_view es)
members_left key test [] h = refl
members_left key test (e ∷ es) h =
    by (test e.0) (is_eq (slice_cmp nat_cmp key (string_bytes e.0))) (h e.0) (members_left key test es h)
  where
    by : (b c : Bool) → b ≡ c → members_view (remove_entry test es) ≡ without key (members_view es)
        → members_view (cond b es (e ∷ remove_entry test es)) ≡ cond c (members_view es) (member (string_bytes e.0) (view e.1) (without key (members_view es)))
    by true true same more = refl
    by false false same more = ap (λ (m : Members). member (string_bytes e.0) (view e.1) m) more
    by true false same more = cc
    by false true same more = cc

-- an object without its log
pub object_left : (m n : BTreeMap (String Global) Value) (test : String Global → Bool) → n.entries ≡ remove_entry test m.entries
    → ((l : String Global) → test l ≡ is_eq (slice_cmp nat_cmp (codes "log") (string_bytes l)))
    → view (Object n) ≡ without_log (view (Object m))
object_left m n test is h =
    view-Object n
    ∙ ap (λ es. object (members_view es)) is
    ∙ ap (λ (ms : Members). object ms) (members_left (codes "log") test m.entries h)
    ∙ sym (ap (λ (d : Data). without_log d) (view-Object m))

found_at : (o : Option Data) (items : Items) {p : Option Data} → p ≡ o → option_and_then as_array o ≡ Some items → (at : Data) × (p ≡ Some at) × (as_array at ≡ Some items)
found_at None items is h = none_is items h
found_at (Some at) items is h = (at, is, h)

-- two logs at one place have as many lists
pub same_count : (d : Data) (log other : List (List Entry)) → HasLog d log → HasLog d other → length log ≡ length other
same_count d log other h k =
    let place : h.at_key ≡ k.at_key = some_same h.at_key k.at_key (sym h.found ∙ k.found) in
    let lists : h.log_is.items ≡ k.log_is.items =
    some_same h.log_is.items k.log_is.items (sym h.log_is.list ∙ ap (λ (x : Data). as_array x) place ∙ k.log_is.list) in
    counted WritesList h.log_is.items log h.log_is.are
    ∙ sym (counted WritesList h.log_is.items other (subst (λ (i : Items). AreWritten WritesList i other) (sym lists) k.log_is.are))

-- what is read of the items at the key is read of the value
pub log_reads : {X : Type 0} (d : Data) (items : Items) (answer : Result (Option (List (List Noted))) X) → Some items ≡ list_at (codes "log") d
    → IfOk answer (ReadsLists items)
    → IfOk answer (ReadsLog d)
log_reads d items (Ok (Some log)) is h =
    let at = found_at (get (codes "log") d) items {p = get (codes "log") d} refl (sym is) in
    record { at_key = at.0; found = at.1; log_is = record { items = items; list = at.2; are = h } }
log_reads d items (Ok None) is h = λ log has.
    let lists : Some has.log_is.items ≡ Some items =
    sym has.log_is.list ∙ ap (λ (o : Option Data). option_and_then as_array o) (sym has.found) ∙ sym is in
    h log (subst (λ (i : Items). AreWritten WritesList i log) (some_same has.log_is.items items lists) has.log_is.are)
log_reads d items (Err x) is h = tt

-- without a list there is no log
pub no_log : (d : Data) → None ≡ list_at (codes "log") d → ReadsLog d None
no_log d is log has =
    none_is has.log_is.items (is ∙ ap (λ (o : Option Data). option_and_then as_array o) has.found ∙ has.log_is.list)

-- a value whose rest says no source is no run
pub no_source : (d : Data) (read : Option Source) → read ≡ source_in (without_log d) → read ≡ None → ReadsRun d None
no_source d read is none said log h =
    none_is said (sym (ap (option_map source_of) (sym is ∙ none)) ∙ value_complete (without_log d) said h.source_is)

-- a value without a log, neither
pub no_lists : (d : Data) → ReadsLog d None → ReadsRun d None
no_lists d none said log h = none log h.has_log

-- as many inputs are read as the value says
pub same_inputs : (d : Data) (s : Source) (said : language.Source) → source_in d ≡ Some s → IsSource d said → length s.inputs ≡ length said.inputs
same_inputs d s said read h =
    let same : source_of s ≡ said = some_same (source_of s) said (sym (ap (option_map source_of) read) ∙ value_complete d said h) in
    sym (length-map s.inputs input_of) ∙ ap (λ (x : language.Source). length x.inputs) same

-- what is gathered of a source and a log is read of the value
pub gathered_reads : (d : Data) (s : Source) (log : List (List Noted)) (answer : Option Run) → Some s ≡ source_in (without_log d)
    → HasLog d (map (map entry_of) log)
    → Gathers s log answer
    → ReadsRun d answer
gathered_reads d s log (Some run) source has is =
    let count = is.1 in
    let lists = length-map log (map entry_of) in
    let inputs = length-map s.inputs input_of in
    subst (λ (r : Run). IsRecorded d (source_of r.source) (map (map entry_of) r.log)) (sym is.0)
    (record { source_is = value_sound (without_log d) s (sym source); has_log = has; one_each = omega (arith, count, lists, inputs) })
gathered_reads d s log None source has other = λ said all h.
    let lists = length-map log (map entry_of) in
    let same = same_count d (map (map entry_of) log) all has h.has_log in
    let inputs = same_inputs (without_log d) s said (sym source) h.source_is in
    let each = h.one_each in
    other (omega (arith, lists, same, inputs, each))

-- and so of the bytes whose value it is
pub bytes_read : {X : Type 0} (bytes : List ℕ) (d : Data) (answer : Result (Option Run) X) → length bytes ≤ SOURCE_LIMIT → IsUtf8 bytes → read bytes ≡ Some d
    → IfOk answer (ReadsRun d)
    → IfOk answer (ReadsBytes bytes)
bytes_read bytes d (Ok (Some run)) size text json h = record { size = size; text = text; value = d; json = json; form = h }
bytes_read bytes d (Ok None) size text json h = λ said log w.
    let same : w.value ≡ d = some_same w.value d (sym w.json ∙ json) in
    h said log (subst (λ (x : Data). IsRecorded x said log) same w.form)
bytes_read bytes d (Err x) size text json h = tt

-- bytes that aren't JSON
pub not_json : (bytes : List ℕ) → (IsUtf8 bytes → read bytes ≡ None) → ReadsBytes bytes None
not_json bytes none said log h = none_is h.value (sym (none h.text) ∙ h.json)

-- too many bytes
pub too_many : (bytes : List ℕ) → SOURCE_LIMIT < length bytes → ReadsBytes bytes None
too_many bytes more said log h = let size = h.size in absurd (omega (arith, more, size))
