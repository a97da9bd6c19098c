-- The rows of reports that are put one after the other, by the documents that their edits lead to.
use Rattle.std.proofs.Common.{◌≡◌, ℕ, ◌+◌, ◌<◌, ◌≤◌, List, [], ◌∷◌, ◌++◌, length, map, take, drop, get_or, Result, Ok, Err, refl, sym, ap, ◌∙◌, subst, append_assoc, append-nil}
use Rattle.std.specs.Prelude.{OnOk}
use Rattle.std.proofs.Math.ListN.{drop_of_length-le, get_or-map}
use Rattle.std.proofs.lemmas.List.{drop_more, length-map}
use Rattle.rt_edits.specs.declared.doc_node.DocNode.{DocNode}
use Rattle.rt_edits.specs.declared.edit.Edit.{Edit}
use Rattle.tree_edits.specs.Documents.{forest_of}
use Rattle.tree_documents.specs.Cuts.{LeadsTo}
use Rattle.rt_model.specs.Document.{Forest}
use Rattle.rt_model.specs.Reports as sessions
use Rattle.run_reports.specs.Seen.{report_of}
use Rattle.run_reports.specs.declared.report.Report.{Report}
use Rattle.show_streams.specs.Writes.{Writes, Puts}
use Rattle.show_streams.proofs.OnePut.{nothing_put, writes_none}
use Rattle.show_streams.specs.declared.out.OutError.{OutError}
use Rattle.show_streams.specs.declared.out.OutError.TheVariants as errors
use Rattle.rt_text.specs.Layout.{fitted, layout}
use Rattle.rt_text.specs.Printed.{picture, screen_line, row_line}
use Rattle.rt_text.specs.Screens.{nodes_of, rows_of, width_of, height_of, changed_rows, KeepsSize}
use Rattle.rt_text.specs.declared.rows.Row.{Row}
use Rattle.rt_text.specs.declared.screen.Screen.{Screen}
use Rattle.show_screens.specs.Drawing.{Draws, LeadAlong, ShowInTurn}
use Rattle.show_words.specs.Pictures.{pictures, screen_text}
use Rattle.show_words.specs.declared.words.Size.{Size}
use Rattle.show_words.proofs.Puts.{writes_both, writes_first}

-- edits lead to one document alone
leads_one : (edits : List Edit) (nodes a b : List DocNode) → LeadsTo edits nodes a → LeadsTo edits nodes b → a ≡ b
leads_one [] nodes a b x y = sym x ∙ y
leads_one (edit ∷ edits) nodes a b x y =
    let same : x.0 ≡ y.0 = cc (sym x.1 ∙ y.1) in
    leads_one edits y.0 a b (subst (λ (n : List DocNode). LeadsTo edits n a) same x.2) y.2

-- what holds anyway holds at Ok
always : (P : Type 0) (result : Result (Unit {0}) OutError) → P → OnOk result P
always P (Ok u) p = p
always P (Err error) p = tt

-- what a report's edits lead to was drawn, and its rows were put
pub drawn : (number : ℕ) (edits : List Edit) (next : List DocNode) (old mid new : Screen) (rows : List Row) (written now : Puts) (before after : ℕ) (result : Result (Unit {0}) OutError)
    → LeadsTo edits (nodes_of old) (nodes_of mid) → LeadsTo edits (nodes_of old) next
    → rows_of mid ≡ rows_of old → KeepsSize old mid
    → rows_of new ≡ layout (width_of mid) (height_of mid) (forest_of (nodes_of mid)) → nodes_of new ≡ nodes_of mid → KeepsSize mid new
    → rows ≡ changed_rows 0 (rows_of mid) (rows_of new)
    → Writes (screen_line number ∷ map row_line rows) written now before after result
    → Draws number next old new written now before after result
drawn number edits next old mid new rows written now before after result led leads same size shows document sized changed writes =
    let there : nodes_of mid ≡ next = leads_one edits (nodes_of old) (nodes_of mid) next led leads in
    let laid : rows_of new ≡ layout (width_of old) (height_of old) (forest_of next) =
    shows ∙ (λ t. layout (size.0 t) (size.1 t) (forest_of (there t))) in
    let text : screen_line number ∷ map row_line rows ≡ picture number (rows_of old) (layout (width_of old) (height_of old) (forest_of next)) =
    ap (λ (rs : List Row). screen_line number ∷ map row_line rs) (changed ∙ (λ t. changed_rows 0 (same t) (laid t))) in
    record {
      writes = subst (λ (s : List (List ℕ)). Writes s written now before after result) text writes;
      document = always (nodes_of new ≡ next) result (document ∙ there);
      rows = always (rows_of new ≡ layout (width_of old) (height_of old) (forest_of next)) result laid;
      size = (sized.0 ∙ size.0, sized.1 ∙ size.1);
    }

pub drawn_nothing : (number : ℕ) (next : List DocNode) (old mid new : Screen) (written : Puts) (faults : ℕ) → KeepsSize old mid → KeepsSize mid new
    → Draws number next old new written written faults faults (Err errors.OutOfMemory)
drawn_nothing number next old mid new written faults size sized = record {
  writes = nothing_put (picture number (rows_of old) (layout (width_of old) (height_of old) (forest_of next))) written faults;
  document = tt;
  rows = tt;
  size = (sized.0 ∙ size.0, sized.1 ∙ size.1);
}

-- the reports before one were put: what is left leads on, and what is put before the text that is left is the whole text
pub record GoesOn
    (width height : ℕ) (rows : List (List ℕ)) (documents : List (List DocNode)) (reports : List sessions.Report) (number : ℕ) (left : List Edit)
    (screen : Screen) (old new : Puts) (before now : ℕ)
    : Type 0 where
  pub later : List (List DocNode)
  pub led : LeadAlong reports left (nodes_of screen) later
  pub text : List (List ℕ)
  pub put : Writes text old new before now (Ok tt)
  pub whole :
      pictures width height 0 rows (map forest_of documents)
      ≡ text ++ pictures (width_of screen) (height_of screen) number (rows_of screen) (map forest_of later)

-- a report whose edits lead to a document, and those behind it
record Next (report : sessions.Report) (more : List sessions.Report) (left : List Edit) (nodes : List DocNode) (later : List (List DocNode)) : Type 0 where
  pub next : List DocNode
  pub behind : List (List DocNode)
  pub is : later ≡ next ∷ behind
  pub leads : LeadsTo (take report.edits left) nodes next
  pub led : LeadAlong more (drop report.edits left) next behind

next_of : (report : sessions.Report) (more : List sessions.Report) (left : List Edit) (nodes : List DocNode) (later : List (List DocNode))
    → LeadAlong (report ∷ more) left nodes later → Next report more left nodes later
next_of report more left nodes [] led = absurd led
next_of report more left nodes (next ∷ behind) led = record { next = next; behind = behind; is = refl; leads = led.0; led = led.1 }

none_of : (left : List Edit) (nodes : List DocNode) (later : List (List DocNode)) → LeadAlong [] left nodes later → later ≡ []
none_of left nodes [] led = refl
none_of left nodes (next ∷ behind) led = absurd led

-- the report at a place, before those behind it
next_report : (reports : List Report) (at : ℕ) (report : Report) → at < length reports → report ≡ get_or reports at report
    → drop at (map report_of reports) ≡ report_of report ∷ drop (at + 1) (map report_of reports)
next_report reports at report within is =
    let low : at < length (map report_of reports) = rw (length-map reports report_of) within in
    let here : get_or (map report_of reports) at (report_of report) ≡ report_of report = get_or-map report_of reports at report ∙ ap report_of (sym is) in
    drop_more (map report_of reports) at (report_of report) low ∙ ap (λ (r : sessions.Report). r ∷ drop (at + 1) (map report_of reports)) here

-- a screen's text begins with the rows of the next report
text_next : (screen : Screen) (number : ℕ) (next : List DocNode) (later behind : List (List DocNode)) → later ≡ next ∷ behind
    → pictures (width_of screen) (height_of screen) number (rows_of screen) (map forest_of later)
    ≡ picture number (rows_of screen) (layout (width_of screen) (height_of screen) (forest_of next))
    ++ pictures (width_of screen) (height_of screen) (number + 1) (layout (width_of screen) (height_of screen) (forest_of next)) (map forest_of behind)
text_next screen number next later behind is =
    ap (λ (ds : List (List DocNode)). pictures (width_of screen) (height_of screen) number (rows_of screen) (map forest_of ds)) is

-- one report more was put
pub picture_put : (width height : ℕ) (rows : List (List ℕ)) (documents : List (List DocNode)) (reports : List Report) (number : ℕ) (report : Report) (left own behind : List Edit)
    (screen drawn : Screen) (old mid new : Puts) (before between after : ℕ)
    → number < length reports → report ≡ get_or reports number report
    → own ≡ take report.edits left → behind ≡ drop report.edits left
    → GoesOn width height rows documents (drop number (map report_of reports)) number left screen old mid before between
    → ((next : List DocNode) → LeadsTo own (nodes_of screen) next → Draws number next screen drawn mid new between after (Ok tt))
    → GoesOn width height rows documents (drop (number + 1) (map report_of reports)) (number + 1) behind drawn old new before after
picture_put width height rows documents reports number report left own behind screen drawn old mid new before between after within is first rest so_far draws =
    let more = drop (number + 1) (map report_of reports) in
    let here : LeadAlong (report_of report ∷ more) left (nodes_of screen) so_far.later =
    subst (λ (rs : List sessions.Report). LeadAlong rs left (nodes_of screen) so_far.later) (next_report reports number report within is) so_far.led in
    let n : Next (report_of report) more left (nodes_of screen) so_far.later = next_of (report_of report) more left (nodes_of screen) so_far.later here in
    let d : Draws number n.next screen drawn mid new between after (Ok tt) =
    draws n.next (subst (λ (es : List Edit). LeadsTo es (nodes_of screen) n.next) (sym first) n.leads) in
    let laid = layout (width_of screen) (height_of screen) (forest_of n.next) in
    let own_text = picture number (rows_of screen) (layout (width_of screen) (height_of screen) (forest_of n.next)) in
    let there : LeadAlong more behind n.next n.behind = subst (λ (es : List Edit). LeadAlong more es n.next n.behind) (sym rest) n.led in
    let wide : width_of screen ≡ width_of drawn = sym (d.size).0 in
    let high : height_of screen ≡ height_of drawn = sym (d.size).1 in
    let shows : layout (width_of screen) (height_of screen) (forest_of n.next) ≡ rows_of drawn = sym d.rows in
    record {
      later = n.behind;
      led = subst (λ (nodes : List DocNode). LeadAlong more behind nodes n.behind) (sym d.document) there;
      text = so_far.text ++ own_text;
      put = writes_both so_far.text own_text old mid new before between after (Ok tt) so_far.put d.writes;
      whole =
          so_far.whole ∙ ap (λ (t : List (List ℕ)). so_far.text ++ t) (text_next screen number n.next so_far.later n.behind n.is)
          ∙ sym (append_assoc so_far.text own_text (pictures (width_of screen) (height_of screen) (number + 1) laid (map forest_of n.behind)))
          ∙ (λ t. (so_far.text ++ own_text) ++ pictures (wide t) (high t) (number + 1) (shows t) (map forest_of n.behind));
    }

-- one report more was not put, and then none
pub picture_failed : (width height : ℕ) (rows : List (List ℕ)) (documents : List (List DocNode)) (reports : List Report) (number : ℕ) (report : Report) (left own : List Edit)
    (screen drawn : Screen) (old mid new : Puts) (before between after : ℕ) (error : OutError)
    → number < length reports → report ≡ get_or reports number report
    → own ≡ take report.edits left
    → GoesOn width height rows documents (drop number (map report_of reports)) number left screen old mid before between
    → ((next : List DocNode) → LeadsTo own (nodes_of screen) next → Draws number next screen drawn mid new between after (Err error))
    → Writes (pictures width height 0 rows (map forest_of documents)) old new before after (Err error)
picture_failed width height rows documents reports number report left own screen drawn old mid new before between after error within is first so_far draws =
    let more = drop (number + 1) (map report_of reports) in
    let here : LeadAlong (report_of report ∷ more) left (nodes_of screen) so_far.later =
    subst (λ (rs : List sessions.Report). LeadAlong rs left (nodes_of screen) so_far.later) (next_report reports number report within is) so_far.led in
    let n : Next (report_of report) more left (nodes_of screen) so_far.later = next_of (report_of report) more left (nodes_of screen) so_far.later here in
    let d : Draws number n.next screen drawn mid new between after (Err error) =
    draws n.next (subst (λ (es : List Edit). LeadsTo es (nodes_of screen) n.next) (sym first) n.leads) in
    let own_text = picture number (rows_of screen) (layout (width_of screen) (height_of screen) (forest_of n.next)) in
    let rest_text = pictures (width_of screen) (height_of screen) (number + 1) (layout (width_of screen) (height_of screen) (forest_of n.next)) (map forest_of n.behind) in
    let all : pictures width height 0 rows (map forest_of documents) ≡ (so_far.text ++ own_text) ++ rest_text =
    so_far.whole ∙ ap (λ (t : List (List ℕ)). so_far.text ++ t) (text_next screen number n.next so_far.later n.behind n.is) ∙ sym (append_assoc so_far.text own_text rest_text) in
    subst (λ (text : List (List ℕ)). Writes text old new before after (Err error)) (sym all)
    (writes_first (so_far.text ++ own_text) rest_text old new before after error
    (writes_both so_far.text own_text old mid new before between after (Err error) so_far.put d.writes))

-- all reports were put
pub pictures_put : (width height : ℕ) (rows : List (List ℕ)) (documents : List (List DocNode)) (reports : List Report) (number : ℕ) (left : List Edit) (screen : Screen)
    (old new : Puts) (before after : ℕ)
    → length reports ≤ number
    → GoesOn width height rows documents (drop number (map report_of reports)) number left screen old new before after
    → Writes (pictures width height 0 rows (map forest_of documents)) old new before after (Ok tt)
pictures_put width height rows documents reports number left screen old new before after end so_far =
    let past : length (map report_of reports) ≤ number = rw (length-map reports report_of) end in
    let none : LeadAlong [] left (nodes_of screen) so_far.later =
    subst (λ (rs : List sessions.Report). LeadAlong rs left (nodes_of screen) so_far.later) (drop_of_length-le (map report_of reports) past) so_far.led in
    let last : so_far.later ≡ [] = none_of left (nodes_of screen) so_far.later none in
    let all : pictures width height 0 rows (map forest_of documents) ≡ so_far.text =
    so_far.whole
    ∙ ap (λ (ds : List (List DocNode)). so_far.text ++ pictures (width_of screen) (height_of screen) number (rows_of screen) (map forest_of ds)) last
    ∙ append-nil so_far.text in
    subst (λ (text : List (List ℕ)). Writes text old new before after (Ok tt)) (sym all) so_far.put

-- before the first report
pub pictures_begin : (reports : List Report) (edits : List Edit) (screen : Screen) (documents : List (List DocNode)) (written : Puts) (faults : ℕ)
    → LeadAlong (map report_of reports) edits (nodes_of screen) documents
    → GoesOn (width_of screen) (height_of screen) (rows_of screen) documents (drop 0 (map report_of reports)) 0 edits screen written written faults faults
pictures_begin reports edits screen documents written faults led =
    record { later = documents; led = led; text = []; put = writes_none written faults; whole = refl }

-- the text of a new screen
pub screen_put : (size : Size) (screen : Screen) (edits : List Edit) (reports : List sessions.Report) (shown : List Forest) (old new : Puts) (before after : ℕ)
    (result : Result (Unit {0}) OutError)
    → width_of screen ≡ size.width → height_of screen ≡ size.height → nodes_of screen ≡ [] → rows_of screen ≡ fitted size.height []
    → ((documents : List (List DocNode)) → LeadAlong reports edits (nodes_of screen) documents
    → Writes (pictures (width_of screen) (height_of screen) 0 (rows_of screen) (map forest_of documents)) old new before after result)
    → ShowInTurn edits reports shown → Writes (screen_text size shown) old new before after result
screen_put size screen edits reports shown old new before after result wide high empty blank puts shows =
    let led : LeadAlong reports edits (nodes_of screen) shows.documents =
    subst (λ (n : List DocNode). LeadAlong reports edits n shows.documents) (sym empty) shows.led in
    let same : pictures (width_of screen) (height_of screen) 0 (rows_of screen) (map forest_of shows.documents) ≡ screen_text size shown =
    λ t. pictures (wide t) (high t) 0 (blank t) (shows.are t) in
    subst (λ (text : List (List ℕ)). Writes text old new before after result) same (puts shows.documents led)
