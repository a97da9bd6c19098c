-- What is put of an input that is taken in.
use Rattle.std.proofs.Common.{◌≡◌, ◌⊎◌, ℕ, ◌+◌, ◌≤◌, List, [], ◌∷◌, ◌++◌, length, map, Ok, Err, refl, sym, ap, ◌∙◌, subst, inl, inr, append-nil}
use Rattle.std.specs.Prelude.{Option, Some, Result}
use Rattle.lang_script.specs.Applications.{meaning_of_script}
use Rattle.lang_script.specs.declared.script.Script.{Script}
use Rattle.rt_edits.specs.declared.edit.Edit.{Edit}
use Rattle.rt_language.specs.Expressions.{SourceTypes}
use Rattle.rt_language.specs.Meaning.{input_of, inputs_of, meaning_of, props_of}
use Rattle.rt_language.specs.Syntax.{InputSource, Source}
use Rattle.rt_language.specs.Values.{Value}
use Rattle.rt_model.specs.Lists.{Text}
use Rattle.rt_model.specs.Replay.{Input}
use Rattle.run_ongoing.specs.Ongoings.{AwaitsMore, EndsAt, number_of}
use Rattle.run_reports.specs.Seen.{fault_of, report_of, usual}
use Rattle.run_reports.specs.declared.fault.Fault.{Fault}
use Rattle.run_reports.specs.declared.report.Report.{Report}
use Rattle.show_answers.specs.Told.{Form}
use Rattle.show_objects.specs.Lines.{lines_in, report_line_in}
use Rattle.show_stream.proofs.Asking.{asked_all, asked_more, some_more}
use Rattle.show_stream.proofs.Going.{built_at, built_faulted, one_faulted, one_more, told_at}
use Rattle.show_stream.proofs.Put.{put_none}
use Rattle.show_stream.proofs.Stopping.{among_all, among_front, behind, cut_put, fault_put, stops_behind, stops_more}
use Rattle.show_stream.specs.Put.{PutsFault, faulted}
use Rattle.show_stream.specs.Streams.{IsFaulted, IsTold, inputs_in}
use Rattle.show_stream.specs.UnderWay.{BuiltAs, Holds, IsAmong, IsAt, PutsBehind, StopsAmong, TakesAll}
use Rattle.show_stream.specs.declared.streaming.Streaming.{Streaming}
use Rattle.show_streams.specs.Writes.{Puts, Writes, grown}
use Rattle.show_streams.specs.declared.out.OutError.{OutError}
use Rattle.show_streams.specs.declared.out.OutError.TheVariants as errors
use Rattle.show_words.proofs.Preparing.{of_source}
use Rattle.show_words.specs.Outs.{stop_of}
use Rattle.show_words.specs.Ready.{MadeOf}
use Rattle.show_words.specs.declared.reason.Stop.{Stop}
use Rattle.show_words.specs.declared.reason.Stop.TheVariants as stops
use Rattle.tree_edits.specs.Documents.{edit_of}

-- a text that is told, or a fault's
abbrev pub Told : (form : Form) → Source → List (Option InputSource) → List Text → Type 0
Told form source asked own = IsTold form source asked own ⊎ IsFaulted form source asked own

module _ (form : Form) (source : Source) (asked : List (Option InputSource)) (text : List Text) where
  -- what was put so far is told
  pub told : (s : Streaming) → IsAt form source asked text s → Holds s → IsTold form source asked text
  told s at holds = told_at form source asked text s at (holds source asked (Some at.wrote) at.reports at.awaits)

  module _ (input : Input SourceTypes) (said : InputSource) (is : input ≡ input_of said) (old new : Streaming) (own : List Edit) (lines : List Text)
      (at : IsAt form source asked text old) (are : lines ≡ lines_in form own) where
    taken_at : (report : Report)
        → AwaitsMore (λ script. meaning_of_script script) (meaning_of source) usual (props_of source) (inputs_of (inputs_in asked) ++ input ∷ [])
        (Some []) (Some (at.wrote ++ own)) (at.reports ++ report ∷ []) new.session
        → number_of new.session ≡ number_of old.session + 1
        → length (map edit_of own) ≡ (report_of report).edits
        → IsAt form source (asked ++ Some said ∷ []) (text ++ (lines ++ report_line_in form (number_of new.session) report ∷ [])) new
    taken_at report awaits one counts =
        let here : AwaitsMore (λ script. meaning_of_script script) (meaning_of source) usual (props_of source) (inputs_of (inputs_in asked) ++ input_of said ∷ []) (Some []) (Some (at.wrote ++ own)) (at.reports ++ report ∷ []) new.session =
        subst (λ (i : Input SourceTypes). AwaitsMore (λ script. meaning_of_script script) (meaning_of source) usual (props_of source) (inputs_of (inputs_in asked) ++ i ∷ []) (Some []) (Some (at.wrote ++ own)) (at.reports ++ report ∷ []) new.session) is awaits in
        one_more form source asked text said old new report own lines at here one counts are

    -- its answer was put
    pub taken_put : (report : Report) (number : ℕ) (before after : Puts)
        → AwaitsMore (λ script. meaning_of_script script) (meaning_of source) usual (props_of source) (inputs_of (inputs_in asked) ++ input ∷ [])
        (Some []) (Some (at.wrote ++ own)) (at.reports ++ report ∷ []) new.session
        → number_of new.session ≡ number_of old.session + 1
        → length (map edit_of own) ≡ (report_of report).edits
        → number ≡ number_of new.session
        → after ≡ grown before (lines ++ report_line_in form number report ∷ [])
        → PutsBehind (λ all. IsAt form source (asked ++ Some said ∷ []) all new) text before after
    taken_put report number before after awaits one counts same put =
        record {
          own = lines ++ report_line_in form (number_of new.session) report ∷ [];
          is = taken_at report awaits one counts;
          put = put ∙ ap (λ n. grown before (lines ++ report_line_in form n report ∷ [])) same;
        }

    -- it was not put whole
    pub taken_cut : (report : Report) (number : ℕ) (before after : Puts) (b n : ℕ) (error : OutError)
        → AwaitsMore (λ script. meaning_of_script script) (meaning_of source) usual (props_of source) (inputs_of (inputs_in asked) ++ input ∷ [])
        (Some []) (Some (at.wrote ++ own)) (at.reports ++ report ∷ []) new.session
        → number_of new.session ≡ number_of old.session + 1
        → length (map edit_of own) ≡ (report_of report).edits
        → number ≡ number_of new.session
        → Holds new
        → Writes (lines ++ report_line_in form number report ∷ []) before after b n (Err error)
        → StopsAmong form source (asked ++ Some said ∷ []) text before after b n (stop_of error)
    taken_cut report number before after b n error awaits one counts same holds put =
        let whole = asked ++ Some said ∷ [] in
        let answer = lines ++ report_line_in form (number_of new.session) report ∷ [] in
        cut_put (IsAmong whole (λ a t. IsFaulted form source a t)) (IsAmong whole (λ a t. Told form source a t)) text answer before after b n error
        (among_all (λ a t. Told form source a t) whole (text ++ answer)
        (inl (told_at form source whole (text ++ answer) new (taken_at report awaits one counts)
        (holds source whole (Some (taken_at report awaits one counts).wrote) (taken_at report awaits one counts).reports (taken_at report awaits one counts).awaits))))
        (subst (λ (k : ℕ). Writes (lines ++ report_line_in form k report ∷ []) before after b n (Err error)) same put)

    -- it led to a fault
    pub taken_fault : (fault : Fault) (before after : Puts) (b n : ℕ) (stop : Stop)
        → EndsAt (meaning_of source) usual (props_of source) (inputs_of (inputs_in asked) ++ input ∷ []) (Some []) (Some (at.wrote ++ own)) at.reports fault
        → Holds old
        → PutsFault form lines (fault_of fault) before after b n stop
        → StopsAmong form source (asked ++ Some said ∷ []) text before after b n stop
    taken_fault fault before after b n stop ends holds put =
        let whole = asked ++ Some said ∷ [] in
        let here : EndsAt (meaning_of source) usual (props_of source) (inputs_of (inputs_in asked) ++ input_of said ∷ []) (Some []) (Some (at.wrote ++ own)) at.reports fault =
        subst (λ (i : Input SourceTypes). EndsAt (meaning_of source) usual (props_of source) (inputs_of (inputs_in asked) ++ i ∷ []) (Some []) (Some (at.wrote ++ own)) at.reports fault) is ends in
        fault_put form (IsAmong whole (λ a t. IsFaulted form source a t)) (IsAmong whole (λ a t. Told form source a t)) text lines (fault_of fault) before after b n stop put
        (λ f why. among_all (λ a t. IsFaulted form source a t) whole (text ++ faulted form lines f) (one_faulted form source asked text said old fault own lines at here are f why))
        (λ f why. among_all (λ a t. Told form source a t) whole (text ++ faulted form lines f) (inr (one_faulted form source asked text said old fault own lines at here are f why)))
        (among_front (λ a t. Told form source a t) asked (Some said ∷ []) whole text refl (inl (told old at holds)))

module _ (source : Source) (script : Script) (props : List Value) (inputs : List (Input SourceTypes)) (made : MadeOf source script props inputs)
    (before now : Option (List Edit)) (own : List Edit) (began : before ≡ Some []) (tells : now ≡ Some own) where
  -- what is built of a script is built of the source that it is made of, into a sink that began with nothing
  pub built_awaits : (reports : List Report) (s : Streaming)
      → AwaitsMore (λ script. meaning_of_script script) (meaning_of_script script) usual props [] before now reports s.session
      → AwaitsMore (λ script. meaning_of_script script) (meaning_of source) usual (props_of source) [] (Some []) (Some own) reports s.session
  built_awaits reports s awaits =
      subst (λ b. AwaitsMore (λ script. meaning_of_script script) (meaning_of source) usual (props_of source) [] b (Some own) reports s.session) began
      (subst (λ n. AwaitsMore (λ script. meaning_of_script script) (meaning_of source) usual (props_of source) [] before n reports s.session) tells
      (of_source (λ app p i. AwaitsMore (λ script. meaning_of_script script) app usual p [] before now reports s.session) source script props inputs made awaits))

  pub built_ends : (fault : Fault)
      → EndsAt (meaning_of_script script) usual props [] before now [] fault
      → EndsAt (meaning_of source) usual (props_of source) [] (Some []) (Some own) [] fault
  built_ends fault ends =
      subst (λ b. EndsAt (meaning_of source) usual (props_of source) [] b (Some own) [] fault) began
      (subst (λ n. EndsAt (meaning_of source) usual (props_of source) [] before n [] fault) tells
      (of_source (λ app p i. EndsAt app usual p [] before now [] fault) source script props inputs made ends))

module _ (form : Form) (source : Source) where
  -- the build's answer was put
  pub built_put : (s : Streaming) (report : Report) (own : List Edit) (lines : List Text) (before after : Puts)
      → AwaitsMore (λ script. meaning_of_script script) (meaning_of source) usual (props_of source) [] (Some []) (Some own) (report ∷ []) s.session
      → number_of s.session ≡ 0
      → length (map edit_of own) ≡ (report_of report).edits
      → lines ≡ lines_in form own
      → after ≡ grown before (lines ++ report_line_in form 0 report ∷ [])
      → PutsBehind (λ all. IsAt form source [] all s) [] before after
  built_put s report own lines before after awaits none counts are put =
      record { own = lines ++ report_line_in form 0 report ∷ []; is = built_at form source s report own lines awaits none counts are; put = put }

  -- it was not put whole
  pub built_cut : (s : Streaming) (report : Report) (own : List Edit) (lines : List Text) (before after : Puts) (b n : ℕ) (error : OutError)
      → AwaitsMore (λ script. meaning_of_script script) (meaning_of source) usual (props_of source) [] (Some []) (Some own) (report ∷ []) s.session
      → number_of s.session ≡ 0
      → length (map edit_of own) ≡ (report_of report).edits
      → lines ≡ lines_in form own
      → Holds s
      → Writes (lines ++ report_line_in form 0 report ∷ []) before after b n (Err error)
      → BuiltAs form source [] before after b n (Err (stop_of error))
  built_cut s report own lines before after b n errors.Failed awaits none counts are holds put =
      cut_put (IsAmong [] (λ a t. IsFaulted form source a t)) (IsAmong [] (λ a t. Told form source a t)) [] (lines ++ report_line_in form 0 report ∷ []) before after b n errors.Failed
      (among_all (λ a t. Told form source a t) [] (lines ++ report_line_in form 0 report ∷ [])
      (inl (told form source [] (lines ++ report_line_in form 0 report ∷ []) s (built_at form source s report own lines awaits none counts are) holds))) put
  built_cut s report own lines before after b n errors.OutOfMemory awaits none counts are holds put =
      inr (cut_put (IsAmong [] (λ a t. IsFaulted form source a t)) (IsAmong [] (λ a t. Told form source a t)) [] (lines ++ report_line_in form 0 report ∷ []) before after b n errors.OutOfMemory
      (among_all (λ a t. Told form source a t) [] (lines ++ report_line_in form 0 report ∷ [])
      (inl (told form source [] (lines ++ report_line_in form 0 report ∷ []) s (built_at form source s report own lines awaits none counts are) holds))) put)

  -- it came to a fault in the build
  pub built_fault : (fault : Fault) (own : List Edit) (lines : List Text) (before after : Puts) (b n : ℕ) (stop : Stop)
      → EndsAt (meaning_of source) usual (props_of source) [] (Some []) (Some own) [] fault
      → lines ≡ lines_in form own
      → PutsFault form lines (fault_of fault) before after b n stop
      → BuiltAs form source [] before after b n (Err stop)
  built_fault fault own lines before after b n stops.Fault ends are put =
      record { own = faulted form lines put.0; is = among_all (λ a t. IsFaulted form source a t) [] (faulted form lines put.0) (built_faulted form source fault own lines ends are put.0 put.1); put = put.2 }
  built_fault fault own lines before after b n stops.Out ends are put = (
    put.0,
    record {
      own = faulted form lines put.1.0;
      is = among_all (λ a t. Told form source a t) [] (faulted form lines put.1.0) (inr (built_faulted form source fault own lines ends are put.1.0 put.1.1));
      front = put.1.2;
    },
  )
  built_fault fault own lines before after b n stops.OutOfMemory ends are put =
      elim put [
        | inl same ↦ inl same
        | inr cut ↦ inr (record {
          own = faulted form lines cut.0;
          is = among_all (λ a t. Told form source a t) [] (faulted form lines cut.0) (inr (built_faulted form source fault own lines ends are cut.0 cut.1));
          front = cut.2;
        })
      ]
  built_fault fault own lines before after b n stops.Words ends are put = absurd put
  built_fault fault own lines before after b n stops.Form ends are put = absurd put
  built_fault fault own lines before after b n stops.Source ends are put = absurd put

-- some inputs were taken in of all that were to be, and what was put of them
pub record TookSome (form : Form) (source : Source) (asked : List (Option InputSource)) (said : List InputSource) (text : List Text)
    (left : List (Input SourceTypes)) (before after : Puts) (s : Streaming) : Type 0 where
  pub done : List InputSource
  pub rest : List InputSource
  pub all : done ++ rest ≡ said
  pub left_is : left ≡ inputs_of rest
  pub puts : PutsBehind (λ own. IsAt form source (asked ++ map Some done) own s) text before after

-- what taking one of them in says, by what is answered
abbrev pub Takes : (form : Form) → (input : Input SourceTypes) (old new : Streaming) (before after : Puts) (b n : ℕ) → Result (Unit {0}) Stop → Type 0
Takes form input old new before after b n result =
    (source : Source) (asked : List (Option InputSource)) (said : InputSource) (text : List Text)
    → IsAt form source asked text old → input ≡ input_of said
    → TakesAll form source asked (Some said ∷ []) text before after b n new result

-- an input is the first of those that are left
first_left : (input first : Input SourceTypes) (left more : List (Input SourceTypes)) → input ∷ left ≡ first ∷ more → (input ≡ first) × (left ≡ more)
first_left input first left more is = (cc is, cc is)

module _ (form : Form) (source : Source) (asked : List (Option InputSource)) (said : List InputSource) (text : List Text) where
  -- none was taken in yet
  pub took_none : (s : Streaming) (left : List (Input SourceTypes)) (old : Puts) → IsAt form source asked text s → left ≡ inputs_of said
      → TookSome form source asked said text left old old s
  took_none s left old at is =
      record {
        done = [];
        rest = said;
        all = refl;
        left_is = is;
        puts = record {
          own = [];
          is = subst (λ a. IsAt form source a (text ++ []) s) (sym (append-nil asked)) (subst (λ t. IsAt form source asked t s) (sym (append-nil text)) at);
          put = put_none old;
        };
      }

  more_from : (done rest : List InputSource) (input : Input SourceTypes) (left : List (Input SourceTypes)) (old new : Streaming) (before mid after : Puts) (b n : ℕ)
      → done ++ rest ≡ said → input ∷ left ≡ inputs_of rest
      → PutsBehind (λ own. IsAt form source (asked ++ map Some done) own old) text before mid
      → Takes form input old new mid after b n (Ok tt)
      → TookSome form source asked said text left before after new
  more_from done [] input left old new before mid after b n all is puts takes = absurd (cc is)
  more_from done (first ∷ more) input left old new before mid after b n all is puts takes =
      let one = first_left input (input_of first) left (inputs_of more) is in
      let next = takes source (asked ++ map Some done) first (text ++ puts.own) puts.is one.0 in
      let both : PutsBehind (λ own. IsAt form source ((asked ++ map Some done) ++ Some first ∷ []) own new) text before after =
      behind (λ own. IsAt form source ((asked ++ map Some done) ++ Some first ∷ []) own new) text puts.own before mid after puts.put next in
      record {
        done = done ++ first ∷ [];
        rest = more;
        all = some_more done more first ∙ all;
        left_is = one.1;
        puts = record {
          own = both.own;
          is = subst (λ a. IsAt form source a (text ++ both.own) new) (sym (asked_more asked done first)) both.is;
          put = both.put;
        };
      }

  -- one more was
  pub took_more : (input : Input SourceTypes) (left : List (Input SourceTypes)) (old new : Streaming) (before mid after : Puts) (b n : ℕ)
      → TookSome form source asked said text (input ∷ left) before mid old
      → Takes form input old new mid after b n (Ok tt)
      → TookSome form source asked said text left before after new
  took_more input left old new before mid after b n some takes =
      more_from some.done some.rest input left old new before mid after b n some.all some.left_is some.puts takes

  stop_from : (done rest : List InputSource) (input : Input SourceTypes) (left : List (Input SourceTypes)) (old new : Streaming) (before mid after : Puts)
      (b m n : ℕ) (stop : Stop)
      → done ++ rest ≡ said → input ∷ left ≡ inputs_of rest
      → PutsBehind (λ own. IsAt form source (asked ++ map Some done) own old) text before mid
      → b ≤ m
      → Takes form input old new mid after m n (Err stop)
      → StopsAmong form source (asked ++ map Some said) text before after b n stop
  stop_from done [] input left old new before mid after b m n stop all is puts later takes = absurd (cc is)
  stop_from done (first ∷ more) input left old new before mid after b m n stop all is puts later takes =
      let one = first_left input (input_of first) left (inputs_of more) is in
      let whole = (asked ++ map Some done) ++ Some first ∷ [] in
      stops_behind (IsAmong (asked ++ map Some said) (λ a t. IsFaulted form source a t)) (IsAmong (asked ++ map Some said) (λ a t. Told form source a t))
      text puts.own before mid after b m n stop puts.put later
      (stops_more form source whole (map Some more) (asked ++ map Some said) (text ++ puts.own) mid after m n stop (asked_all asked done more said first all)
      (takes source (asked ++ map Some done) first (text ++ puts.own) puts.is one.0))

  -- it stopped at one
  pub took_stop : (input : Input SourceTypes) (left : List (Input SourceTypes)) (old new : Streaming) (before mid after : Puts) (b m n : ℕ) (stop : Stop)
      → TookSome form source asked said text (input ∷ left) before mid old
      → b ≤ m
      → Takes form input old new mid after m n (Err stop)
      → StopsAmong form source (asked ++ map Some said) text before after b n stop
  took_stop input left old new before mid after b m n stop some later takes =
      stop_from some.done some.rest input left old new before mid after b m n stop some.all some.left_is some.puts later takes

  none_from : (done rest : List InputSource) (s : Streaming) (before after : Puts) → done ++ rest ≡ said → [] ≡ inputs_of rest
      → PutsBehind (λ own. IsAt form source (asked ++ map Some done) own s) text before after
      → PutsBehind (λ own. IsAt form source (asked ++ map Some said) own s) text before after
  none_from done [] s before after all is puts =
      record { own = puts.own; is = subst (λ d. IsAt form source (asked ++ map Some d) (text ++ puts.own) s) (sym (append-nil done) ∙ all) puts.is; put = puts.put }
  none_from done (first ∷ more) s before after all is puts = absurd (cc is)

  -- all were
  pub took_all : (left : List (Input SourceTypes)) (s : Streaming) (before after : Puts)
      → left ≡ []
      → TookSome form source asked said text left before after s
      → PutsBehind (λ own. IsAt form source (asked ++ map Some said) own s) text before after
  took_all left s before after none some = none_from some.done some.rest s before after some.all (sym none ∙ some.left_is) some.puts
