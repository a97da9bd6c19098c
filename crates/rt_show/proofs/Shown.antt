-- A status says what the program came to.
use Rattle.std.proofs.Common.{◌≡◌, ◌≤◌, ◌++◌, ℕ, true, List, length, Option, Some, None, Result, Ok, Err, refl, sym, ◌∙◌, inl, inr, subst, arith}
use Rattle.std.proofs.lemmas.Option.{none-some}
use Rattle.rt_model.specs.Lists.{joined}
use Rattle.rt_model.specs.Reports.{logs_of}
use Rattle.rt_language.specs.Syntax.{Source}
use Rattle.rt_language.specs.Meaning.{meaning_of, props_of, inputs_of}
use Rattle.rt_model.specs.State.{Fault}
use Rattle.rt_model.specs.Document.{Edit}
use Rattle.rt_model.specs.Reports.{Report}
use Rattle.rt_model.specs.Causes.{IsValid}
use Rattle.rt_model.specs.Headline.{CameTo}
use Rattle.run_reports.specs.Seen.{limits_of, usual}
use Rattle.run_reports.specs.declared.limits.Limits.{Limits}
use Rattle.lang_sources.specs.Describes.{Describes}
use Rattle.show_logs.specs.Recorded.{DescribesRun}
use Rattle.show_words.specs.Asked.{Asked, Lacks, RecordsNone}
use Rattle.show_words.specs.Judged.{RecordedBy, RecordedInput}
use Rattle.show_words.specs.Words.{wish_of, reads_source, AskForSource}
use Rattle.show_words.specs.Runs.{DescribedBy, Chooses, IsRefused, IsUnfit, IsSafe, IsEndedText, HasCome, SafeInput, CanBeDone}
use Rattle.lang_sources.specs.declared.reading.TheConstants.{SOURCE_LIMIT}
use Rattle.rt_show.specs.Statuses.{Comes, Ended, ReadsAsked, Shows}
use Rattle.rt_show.proofs.Coming.{asked_known as known_asked}
use Rattle.show_words.specs.Outs.{status_of}
use Rattle.show_words.specs.declared.words.Wish.{Wish}
use Rattle.show_words.specs.declared.words.Wish.TheVariants.{Run, Make, Screen, Audit}
use Rattle.show_words.specs.declared.reason.Stop.{Stop}
use Rattle.show_words.specs.declared.reason.Stop.TheVariants as stops
use Rattle.show_runs.proofs.Viewing.{came_before}
use Rattle.show_streams.specs.Writes.{Puts}

-- an input that tells its bytes isn't described by what these don't say
not_described : (said : Source) (bytes : List ℕ) (left after : Option (List ℕ)) → left ≡ Some bytes → DescribedBy said left after → ((other : Source) → Describes bytes other → ⊥) → ⊥
not_described said bytes None after told is none = absurd (cc)
not_described said bytes (Some all) after told is none =
    let same : is.bytes ≡ bytes = cc (told, is.whole.1) in
    none said (subst (λ (read : List ℕ). Describes read said) same is.described)

-- nor is a recorded run
not_recorded : (said : Asked) (bytes : List ℕ) (left after : Option (List ℕ)) → left ≡ Some bytes → RecordedBy said left after → RecordsNone bytes → ⊥
not_recorded said bytes None after told is none = absurd (cc)
not_recorded said bytes (Some all) after told is none =
    let same : is.bytes ≡ bytes = cc (told, is.whole.1) in
    none said.source said.log (subst (λ (read : List ℕ). DescribesRun read said.source said.log) same is.described)

-- where the source is asked for, none is chosen that the bytes don't say
chosen_read : (wish : Wish) (said : Asked) (bytes : List ℕ) (left after : Option (List ℕ)) →
    reads_source wish ≡ true → left ≡ Some bytes → Chooses wish said left after → Lacks wish bytes → ⊥
chosen_read (Run own) said bytes left after reads told chosen none = not_described said.source bytes left after told chosen none
chosen_read (Make rows) said bytes left after reads told chosen none = absurd (cc)
chosen_read (Screen size) said bytes left after reads told chosen none = not_described said.source bytes left after told chosen none
chosen_read Audit said bytes left after reads told chosen none = not_recorded said bytes left after told chosen none

not_chosen : (words : List (List ℕ)) (wish : Wish) (said : Asked) (bytes : List ℕ) (left after : Option (List ℕ)) →
    wish_of words ≡ Some wish → (ask : AskForSource words) → left ≡ Some bytes → Chooses wish said left after → Lacks ask.wish bytes → ⊥
not_chosen words wish said bytes left after asked ask told chosen none =
    let is : ask.wish ≡ wish = cc (sym ask.asked ∙ asked) in
    chosen_read wish said bytes left after (subst (λ (w : Wish). reads_source w ≡ true) is ask.reads) told chosen (subst (λ (w : Wish). Lacks w bytes) is none)

-- a source that can be run isn't refused
not_refused : (limits : Limits) (left after : Option (List ℕ)) → SafeInput limits left → IsRefused left after → ⊥
not_refused limits None after safe refused = let wrong : None ≡ Some safe.bytes = safe.told in absurd (cc)
not_refused limits (Some all) after safe (inl longer) =
    let same : all ≡ safe.bytes = cc (safe.told) in
    let size : length safe.bytes ≤ SOURCE_LIMIT = (safe.described).size in
    absurd (omega (arith, longer, subst (λ (bytes : List ℕ). length bytes ≤ SOURCE_LIMIT) (sym same) size))
not_refused limits (Some all) after safe (inr none) =
    let same : safe.bytes ≡ none.bytes = cc (sym safe.told, (none.whole).1) in
    none.none safe.said (subst (λ (bytes : List ℕ). Describes bytes safe.said) same safe.described)

-- nor is a recorded run
run_not_refused : (left after : Option (List ℕ)) → RecordedInput left → IsUnfit RecordsNone left after → ⊥
run_not_refused None after can refused = let wrong : None ≡ Some can.bytes = can.told in absurd (cc)
run_not_refused (Some all) after can (inl longer) =
    let same : all ≡ can.bytes = cc (can.told) in
    let size : length can.bytes ≤ SOURCE_LIMIT = (can.described).size in
    absurd (omega (arith, longer, subst (λ (bytes : List ℕ). length bytes ≤ SOURCE_LIMIT) (sym same) size))
run_not_refused (Some all) after can (inr none) =
    let same : can.bytes ≡ none.bytes = cc (sym can.told, (none.whole).1) in
    none.none can.source can.log (subst (λ (bytes : List ℕ). DescribesRun bytes can.source can.log) same can.described)

asked_refused : (wish : Wish) (left after : Option (List ℕ)) → reads_source wish ≡ true → CanBeDone wish left → IsUnfit (Lacks wish) left after → ⊥
asked_refused (Run limits) left after reads can refused = not_refused limits left after can refused
asked_refused (Make rows) left after reads can refused = absurd (cc)
asked_refused (Screen size) left after reads can refused = not_refused usual left after can refused
asked_refused Audit left after reads can refused = run_not_refused left after can refused

read_refused : (words : List (List ℕ)) (wish : Wish) (left after : Option (List ℕ)) → (ask : AskForSource words) → wish_of words ≡ Some wish → CanBeDone wish left
    → IsUnfit (Lacks ask.wish) left after → ⊥
read_refused words wish left after ask asked can refused =
    let is : ask.wish ≡ wish = cc (sym ask.asked ∙ asked) in
    asked_refused wish left after (subst (λ (w : Wish). reads_source w ≡ true) is ask.reads) can (subst (λ (w : Wish). IsUnfit (Lacks w) left after) is refused)

-- a source that is safe comes to no fault
never_came : (limits : Limits) (said : Source) (edits : List Edit) (reports : List Report) (fault : Fault) → IsSafe limits said → HasCome limits said edits reports fault → ⊥
unfolding IsSafe HasCome
never_came limits said edits reports fault safe came =
    let valid : IsValid (meaning_of said) (props_of said) (inputs_of said.inputs) (limits_of limits) = safe in
    let to : CameTo (meaning_of said) (props_of said) (inputs_of said.inputs) (limits_of limits) (Some edits) reports fault = came in
    none-some fault (sym (valid (joined (logs_of reports) ++ (to.stopped).log) ((to.stopped).last).machine (to.stopped).within) ∙ (to.stopped).cause)

safe_said : (limits : Limits) (said : Source) (left after : Option (List ℕ)) → SafeInput limits left → DescribedBy said left after → IsSafe limits said
safe_said limits said None after safe chosen = let wrong : None ≡ Some safe.bytes = safe.told in absurd (cc)
safe_said limits said (Some all) after safe chosen =
    let same : chosen.bytes ≡ safe.bytes = cc (safe.told, (chosen.whole).1) in
    safe.safe said (subst (λ (bytes : List ℕ). Describes bytes said) same chosen.described)

ended_text : (wish : Wish) (said : Asked) (left after : Option (List ℕ)) (text : List (List ℕ)) → CanBeDone wish left → Chooses wish said left after
    → IsEndedText wish said text → ⊥
ended_text (Run limits) said left after text can chosen ended =
    never_came limits said.source ended.edits ended.reports ended.fault (safe_said limits said.source left after can chosen) ended.headline
ended_text (Make rows) said left after text can chosen ended = absurd ended
ended_text Audit said left after text can chosen ended = absurd ended
ended_text (Screen size) said left after text can chosen ended =
    never_came usual said.source ended.edits ended.reports ended.fault (safe_said usual said.source left after can chosen)
    (came_before usual said.source ended.edits ended.reports ended.fault ended.shown ended.headline)

never_ended : (words : List (List ℕ)) (wish : Wish) (left after : Option (List ℕ)) (old new : Puts) → Ended words left after old new
    → wish_of words ≡ Some wish → CanBeDone wish left → ⊥
never_ended words wish left after old new ended asked can =
    let is : wish ≡ ended.wish = cc (sym asked ∙ ended.asked) in
    ended_text ended.wish ended.said left after (ended.prints).text (subst (λ (w : Wish). CanBeDone w left) is can) ended.chosen (ended.prints).run

-- each way to stop has its status
shows_case : (words : List (List ℕ)) (left after : Option (List ℕ)) (old new : Puts) (sb sa ob oa : ℕ) (result : Result (Unit {0}) Stop)
    → ReadsAsked words left after sb sa → Comes words left after old new sb sa ob oa result
    → Shows words left after old new sb sa ob oa (status_of result)
shows_case words left after old new sb sa ob oa (Ok u) read comes = record {
  known = (omega arith, λ one. absurd (omega (arith, one)));
  reads = read;
  done = λ status. comes;
  unlisted = (λ status. absurd (omega (arith, status)), λ unknown. absurd (known_asked words comes.wish comes.asked unknown));
  refused = λ status. absurd (omega (arith, status));
  refuses = λ ask bytes told none. absurd (not_chosen words comes.wish comes.said bytes left after comes.asked ask told comes.chosen none);
  faulted = λ status. absurd (omega (arith, status));
  unread = λ status. absurd (omega (arith, status));
  unwritten = λ status. absurd (omega (arith, status));
  part = λ status. absurd (omega (arith, status));
  little = λ status. absurd (omega (arith, status));
  nothing = λ status. absurd (elim status [ inl a ↦ omega (arith, a) | inr b ↦ elim b [ inl a ↦ omega (arith, a) | inr a ↦ omega (arith, a) ] ]);
  completes = λ wish asked can reads puts. inl refl;
}
shows_case words left after old new sb sa ob oa (Err stops.Words) read comes = record {
  known = (omega arith, λ one. absurd (omega (arith, one)));
  reads = read;
  done = λ status. absurd (omega (arith, status));
  unlisted = (λ status. comes.0, λ unknown. refl);
  refused = λ status. absurd (omega (arith, status));
  refuses = λ ask bytes told none. absurd (cc (sym comes.0 ∙ ask.asked));
  faulted = λ status. absurd (omega (arith, status));
  unread = λ status. absurd (omega (arith, status));
  unwritten = λ status. absurd (omega (arith, status));
  part = λ status. absurd (omega (arith, status));
  little = λ status. absurd (omega (arith, status));
  nothing = λ status. comes.1;
  completes = λ wish asked can reads puts. absurd (cc (sym comes.0 ∙ asked));
}
shows_case words left after old new sb sa ob oa (Err stops.Form) read comes = record {
  known = (omega arith, λ one. absurd (omega (arith, one)));
  reads = read;
  done = λ status. absurd (omega (arith, status));
  unlisted = (λ status. absurd (omega (arith, status)), λ unknown. absurd (known_asked words (comes.0).wish (comes.0).asked unknown));
  refused = λ status. (comes.0, comes.1);
  refuses = λ ask bytes told none. inl refl;
  faulted = λ status. absurd (omega (arith, status));
  unread = λ status. absurd (omega (arith, status));
  unwritten = λ status. absurd (omega (arith, status));
  part = λ status. absurd (omega (arith, status));
  little = λ status. absurd (omega (arith, status));
  nothing = λ status. comes.2;
  completes = λ wish asked can reads puts. absurd (read_refused words wish left after comes.0 asked can comes.1);
}
shows_case words left after old new sb sa ob oa (Err stops.Fault) read comes = record {
  known = (omega arith, λ one. absurd (omega (arith, one)));
  reads = read;
  done = λ status. absurd (omega (arith, status));
  unlisted = (λ status. absurd (omega (arith, status)), λ unknown. absurd (known_asked words comes.wish comes.asked unknown));
  refused = λ status. absurd (omega (arith, status));
  refuses = λ ask bytes told none. absurd (not_chosen words comes.wish comes.said bytes left after comes.asked ask told comes.chosen none);
  faulted = λ status. comes;
  unread = λ status. absurd (omega (arith, status));
  unwritten = λ status. absurd (omega (arith, status));
  part = λ status. absurd (omega (arith, status));
  little = λ status. absurd (omega (arith, status));
  nothing = λ status. absurd (elim status [ inl a ↦ omega (arith, a) | inr b ↦ elim b [ inl a ↦ omega (arith, a) | inr a ↦ omega (arith, a) ] ]);
  completes = λ wish asked can reads puts. absurd (never_ended words wish left after old new comes asked can);
}
shows_case words left after old new sb sa ob oa (Err stops.Source) read comes = record {
  known = (omega arith, λ one. absurd (omega (arith, one)));
  reads = read;
  done = λ status. absurd (omega (arith, status));
  unlisted = (λ status. absurd (omega (arith, status)), λ unknown. absurd (known_asked words (comes.0).wish (comes.0).asked unknown));
  refused = λ status. absurd (omega (arith, status));
  refuses = λ ask bytes told none. inr (inl refl);
  faulted = λ status. absurd (omega (arith, status));
  unread = λ status. (comes.0, comes.1);
  unwritten = λ status. absurd (omega (arith, status));
  part = λ status. absurd (omega (arith, status));
  little = λ status. absurd (omega (arith, status));
  nothing = λ status. comes.2;
  completes = λ wish asked can reads puts. absurd (omega (arith, reads, (comes.1).0));
}
shows_case words left after old new sb sa ob oa (Err stops.Out) read comes = record {
  known = (omega arith, λ one. absurd (omega (arith, one)));
  reads = read;
  done = λ status. absurd (omega (arith, status));
  unlisted = (λ status. absurd (omega (arith, status)), λ unknown. absurd (known_asked words (comes.1).wish (comes.1).asked unknown));
  refused = λ status. absurd (omega (arith, status));
  refuses = λ ask bytes told none. absurd (not_chosen words (comes.1).wish (comes.1).said bytes left after (comes.1).asked ask told (comes.1).chosen none);
  faulted = λ status. absurd (omega (arith, status));
  unread = λ status. absurd (omega (arith, status));
  unwritten = λ status. comes.0;
  part = λ status. comes.1;
  little = λ status. absurd (omega (arith, status));
  nothing = λ status. absurd (elim status [ inl a ↦ omega (arith, a) | inr b ↦ elim b [ inl a ↦ omega (arith, a) | inr a ↦ omega (arith, a) ] ]);
  completes = λ wish asked can reads puts. absurd (omega (arith, puts, comes.0));
}
shows_case words left after old new sb sa ob oa (Err stops.OutOfMemory) read comes = record {
  known = (omega arith, λ one. absurd (omega (arith, one)));
  reads = read;
  done = λ status. absurd (omega (arith, status));
  unlisted = (λ status. absurd (omega (arith, status)), λ unknown. absurd (comes.0 unknown));
  refused = λ status. absurd (omega (arith, status));
  refuses = λ ask bytes told none. inr (inr refl);
  faulted = λ status. absurd (omega (arith, status));
  unread = λ status. absurd (omega (arith, status));
  unwritten = λ status. absurd (omega (arith, status));
  part = λ status. absurd (omega (arith, status));
  little = λ status. comes.1;
  nothing = λ status. absurd (elim status [ inl a ↦ omega (arith, a) | inr b ↦ elim b [ inl a ↦ omega (arith, a) | inr a ↦ omega (arith, a) ] ]);
  completes = λ wish asked can reads puts. inr refl;
}

-- a status is that of where the program stops
pub shows : (words : List (List ℕ)) (left after : Option (List ℕ)) (old new : Puts) (sb sa ob oa status : ℕ) (result : Result (Unit {0}) Stop)
    → status ≡ status_of result → ReadsAsked words left after sb sa → Comes words left after old new sb sa ob oa result
    → Shows words left after old new sb sa ob oa status
shows words left after old new sb sa ob oa status result is read comes = rw is (shows_case words left after old new sb sa ob oa result read comes)
