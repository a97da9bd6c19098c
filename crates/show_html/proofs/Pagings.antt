-- What the program comes to where the words ask for a page.
use Rattle.std.proofs.Common.{◌≡◌, ◌⊎◌, ◌<◌, ◌≤◌, ℕ, Bool, true, false, List, [], ◌∷◌, ◌++◌, length, Option, Some, None, Result, Ok, Err, refl, sym, ap, ◌∙◌, subst, inl, inr, arith}
use Rattle.std.specs.Prelude.{option_map}
use Rattle.lang_sources.specs.Describes.{Describes}
use Rattle.lang_sources.specs.declared.reading.TheConstants.{SOURCE_LIMIT}
use Rattle.rt_language.specs.Lines.{line, fault_text}
use Rattle.rt_language.specs.Meaning.{meaning_of, props_of}
use Rattle.rt_language.specs.Syntax.{Source}
use Rattle.rt_model.specs.State.{Fault}
use Rattle.run_reports.specs.Seen.{limits_of, usual}
use Rattle.rt_served.proofs.Fronts.{front_after, front_whole, grown_both, grown_none}
use Rattle.rt_served.specs.Faults.{CausedBy}
use Rattle.rt_served.specs.Serving.{ComesTo, IsUnspelt, ServesAll, ServesFront, ServesPart, ServesWhole}
use Rattle.rt_served.specs.declared.refusal.ServeFault.{ServeFault}
use Rattle.show_html.specs.Paging.{AreWakes, HasOthers, IsEndedPage, IsPageFront, IsPagePart, IsSafePage, IsServed, IsStopped, Pages, PagesAs, PagesDone, PagesEnded, PagesFront, Ran, SafePages, ShowsPaged, asks_for_page}
use Rattle.show_streams.specs.Writes.{Puts, Writes, grown}
use Rattle.show_streams.specs.declared.out.OutError.{OutError}
use Rattle.show_streams.specs.declared.out.OutError.TheVariants as errors
use Rattle.show_words.specs.Outs.{status_of, stop_of}
use Rattle.show_words.specs.Runs.{DescribedBy, IsRefused, Reads}
use Rattle.show_words.specs.declared.reason.Stop.{Stop}
use Rattle.show_words.specs.declared.reason.Stop.TheVariants as stops

-- all was served
pub page_done : (said : Source) (tasks : List ℕ) (old new : Puts) (count : ℕ) → AreWakes said tasks
    → ServesAll (meaning_of said) (limits_of usual) (props_of said) tasks old new count
    → PagesDone said old new
unfolding IsServed
page_done said tasks old new count wakes all = record {
  text = all.text;
  page = record { tasks = tasks; wakes = wakes; served = (all.last, all.served) };
  written = all.put;
}

-- what was put before a fault of the run
pub record PutPart (said : Source) (tasks : List ℕ) (old new : Puts) : Type 0 where
  pub text : List (List ℕ)
  pub part : IsPagePart said tasks text
  pub put : new ≡ grown old text

pub whole_part : (said : Source) (tasks : List ℕ) (old new : Puts)
    → (new ≡ old) ⊎ ServesWhole (meaning_of said) (limits_of usual) (props_of said) tasks old new
    → PutPart said tasks old new
unfolding IsServed
whole_part said tasks old new (inl same) = record {
  text = [];
  part = record { done = []; later = tasks; cut = refl; served = inl refl };
  put = same ∙ sym (grown_none old);
}
whole_part said tasks old new (inr w) = record {
  text = w.text;
  part = record { done = w.done; later = w.later; cut = w.wakes; served = inr (w.last, w.served) };
  put = w.put;
}

-- what was put before a fault, by which one it is
pub part_as : (said : Source) (tasks : List ℕ) (old new : Puts) (fault other : ServeFault)
    → fault ≡ other
    → ServesPart (meaning_of said) (limits_of usual) (props_of said) tasks old new fault
    → ServesPart (meaning_of said) (limits_of usual) (props_of said) tasks old new other
part_as said tasks old new fault other is part =
    subst (λ (f : ServeFault). ServesPart (meaning_of said) (limits_of usual) (props_of said) tasks old new f) is part

-- and its cause
pub cause_as : (said : Source) (tasks : List ℕ) (before after : ℕ) (fault other : ServeFault)
    → fault ≡ other
    → CausedBy usual (λ (f : Fault). ComesTo (meaning_of said) (limits_of usual) (props_of said) tasks f)
    (IsUnspelt (meaning_of said) (limits_of usual) (props_of said) tasks) before after fault
    → CausedBy usual (λ (f : Fault). ComesTo (meaning_of said) (limits_of usual) (props_of said) tasks f)
    (IsUnspelt (meaning_of said) (limits_of usual) (props_of said) tasks) before after other
cause_as said tasks before after fault other is cause =
    subst
    (λ (f : ServeFault).
    CausedBy usual (λ (x : Fault). ComesTo (meaning_of said) (limits_of usual) (props_of said) tasks x)
    (IsUnspelt (meaning_of said) (limits_of usual) (props_of said) tasks) before after f)
    is cause

-- a front of it
pub part_front : (said : Source) (tasks : List ℕ) (old new : Puts) → AreWakes said tasks → PutPart said tasks old new
    → PagesFront said old new
part_front said tasks old new wakes p = record {
  text = p.text;
  page = inl (record { tasks = tasks; wakes = wakes; part = p.part });
  front = front_whole old new p.text p.put;
}

pub front_part : (said : Source) (tasks : List ℕ) (old new : Puts) → AreWakes said tasks
    → (new ≡ old) ⊎ ServesFront (meaning_of said) (limits_of usual) (props_of said) tasks old new
    → PagesFront said old new
unfolding IsServed
front_part said tasks old new wakes (inl same) = record {
  text = [];
  page = inl (record { tasks = tasks; wakes = wakes; part = record { done = []; later = tasks; cut = refl; served = inl refl } });
  front = front_whole old new [] (same ∙ sym (grown_none old));
}
front_part said tasks old new wakes (inr f) = record {
  text = f.text;
  page = inl (record {
    tasks = tasks;
    wakes = wakes;
    part = record { done = f.done; later = f.later; cut = f.wakes; served = inr (f.last, f.served) };
  });
  front = f.front;
}

-- the line that is put is that of the fault
pub told_line : (fault : Fault) (known : Option Fault) (last given : List ℕ) {shown : Option (List ℕ)}
    → given ≡ last
    → known ≡ Some fault
    → shown ≡ Some last
    → shown ≡ option_map (λ f. line (fault_text f)) known
    → given ≡ line (fault_text fault)
told_line fault known last given same is some told =
    let all : Some last ≡ Some (line (fault_text fault)) =
    sym some ∙ told ∙ ap (λ o. option_map (λ f. line (fault_text f)) o) is in
    same ∙ cc all

-- the text of a page that a fault ended
pub ended_page : (said : Source) (tasks : List ℕ) (old mid : Puts) (fault : Fault) (last : List ℕ) → AreWakes said tasks
    → (p : PutPart said tasks old mid)
    → ComesTo (meaning_of said) (limits_of usual) (props_of said) tasks fault
    → last ≡ line (fault_text fault)
    → IsEndedPage said (p.text ++ last ∷ [])
unfolding IsStopped
ended_page said tasks old mid fault last wakes p comes is = record {
  tasks = tasks;
  wakes = wakes;
  shown = p.text;
  part = p.part;
  fault = fault;
  comes = comes;
  printed = ap (λ (l : List ℕ). p.text ++ l ∷ []) is;
}

-- its line was put
pub line_put : (said : Source) (tasks : List ℕ) (old mid new : Puts) (between now : ℕ) (last : List ℕ)
    → (p : PutPart said tasks old mid)
    → IsEndedPage said (p.text ++ last ∷ [])
    → Writes (last ∷ []) mid new between now (Ok tt)
    → PagesEnded said old new
line_put said tasks old mid new between now last p ended put = record {
  text = p.text ++ last ∷ [];
  page = ended;
  written = put.ok ∙ ap (λ (o : Puts). grown o (last ∷ [])) p.put ∙ grown_both old p.text (last ∷ []);
}

-- or wasn't put whole
pub line_cut : (said : Source) (tasks : List ℕ) (old mid new : Puts) (before between now : ℕ) (last : List ℕ) (error : OutError)
    → before ≤ between
    → (p : PutPart said tasks old mid)
    → IsEndedPage said (p.text ++ last ∷ [])
    → Writes (last ∷ []) mid new between now (Err error)
    → PagesAs said old new before now (Err (stop_of error))
line_cut said tasks old mid new before between now last errors.Failed rises p ended put =
    let failed : between < now = put.cause refl in (
      omega (arith, rises, failed),
      record {
        text = p.text ++ last ∷ [];
        page = inr ended;
        front = front_after old mid new p.text (last ∷ []) p.put put.front;
      },
    )
line_cut said tasks old mid new before between now last errors.OutOfMemory rises p ended put =
    inr (record { text = p.text ++ last ∷ []; page = inr ended; front = front_after old mid new p.text (last ∷ []) p.put put.front })

-- reading stopped, and nothing was written
pub pages_reading : (left after : Option (List ℕ)) (old new : Puts) (sb sa ob oa : ℕ) (stop : Stop) → Reads left after sb sa stop → new ≡ old
    → Pages left after old new sb sa ob oa (Err stop)
pages_reading left after old new sb sa ob oa stops.Form read same = inl (read, same)
pages_reading left after old new sb sa ob oa stops.Source read same = (read.0, read.1, same)
pages_reading left after old new sb sa ob oa stops.OutOfMemory read same = inl same
pages_reading left after old new sb sa ob oa stops.Words read same = absurd read
pages_reading left after old new sb sa ob oa stops.Fault read same = absurd read
pages_reading left after old new sb sa ob oa stops.Out read same = absurd read

-- the source that was read was served
pub pages_running : (said : Source) (left after : Option (List ℕ)) (old new : Puts) (sb sa ob oa : ℕ) (result : Result (Unit {0}) Stop)
    → DescribedBy said left after → PagesAs said old new ob oa result → Pages left after old new sb sa ob oa result
pages_running said left after old new sb sa ob oa (Ok u) is run = record { said = said; described = is; run = run }
pages_running said left after old new sb sa ob oa (Err stops.Fault) is run = record { said = said; described = is; run = run }
pages_running said left after old new sb sa ob oa (Err stops.Out) is run = record { said = said; described = is; run = run }
pages_running said left after old new sb sa ob oa (Err stops.OutOfMemory) is run = inr (record { said = said; described = is; run = run })
pages_running said left after old new sb sa ob oa (Err stops.Form) is run = inr (record { said = said; described = is; run = run })
pages_running said left after old new sb sa ob oa (Err stops.Words) is run = absurd run
pages_running said left after old new sb sa ob oa (Err stops.Source) is run = absurd run

-- what the input tells is what was read of it
same_bytes : (said : Source) (bytes : List ℕ) (left after : Option (List ℕ)) → left ≡ Some bytes → DescribedBy said left after → Describes bytes said
same_bytes said bytes None after told is = absurd (cc)
same_bytes said bytes (Some all) after told is =
    let same : is.bytes ≡ bytes = cc (told, is.whole.1) in
    subst (λ (read : List ℕ). Describes read said) same is.described

-- inputs are wakes alone, or they aren't
clash_wakes : (said : Source) (tasks : List ℕ) → HasOthers said → AreWakes said tasks → ⊥
clash_wakes said tasks none wakes = let wrong : None ≡ Some tasks = sym none ∙ wakes in absurd (cc wrong)

-- a source with other inputs wasn't served
part_wakes : (said : Source) (old new : Puts) → HasOthers said → PagesFront said old new → ⊥
part_wakes said old new none f = by f.page
  where
    by : IsPageFront said f.text ⊎ IsEndedPage said f.text → ⊥
    by (inl p) = clash_wakes said p.tasks none p.wakes
    by (inr p) = clash_wakes said p.tasks none p.wakes

-- a safe input isn't refused
not_refused : (left after : Option (List ℕ)) → SafePages left → IsRefused left after → ⊥
not_refused None after safe refused = let wrong : None ≡ Some safe.bytes = safe.told in absurd (cc)
not_refused (Some all) after safe (inl longer) =
    let same : all ≡ safe.bytes = cc (safe.told) in
    let size : length safe.bytes ≤ SOURCE_LIMIT = (safe.described).size in
    absurd (omega (arith, longer, subst (λ (bytes : List ℕ). length bytes ≤ SOURCE_LIMIT) (sym same) size))
not_refused (Some all) after safe (inr none) =
    let same : safe.bytes ≡ none.bytes = cc (sym safe.told, (none.whole).1) in
    none.none safe.said (subst (λ (bytes : List ℕ). Describes bytes safe.said) same safe.described)

safe_said : (left after : Option (List ℕ)) (old new : Puts) (ob oa : ℕ) (end : Result (Unit {0}) Stop) → SafePages left
    → (ran : Ran left after old new ob oa end) → IsSafePage ran.said
safe_said left after old new ob oa end safe ran =
    safe.safe ran.said (same_bytes ran.said safe.bytes left after safe.told ran.described)

not_faulted : (left after : Option (List ℕ)) (old new : Puts) (ob oa : ℕ) → SafePages left → Ran left after old new ob oa (Err stops.Fault) → ⊥
not_faulted left after old new ob oa safe ran =
    let s = safe_said left after old new ob oa (Err stops.Fault) safe ran in
    let p = (ran.run).page in
    let same : p.tasks ≡ s.tasks = cc (sym p.wakes ∙ s.wakes) in
    s.safe p.fault (subst (λ (tasks : List ℕ). IsStopped ran.said tasks p.fault) same p.comes)

not_others : (left after : Option (List ℕ)) (old new : Puts) (ob oa : ℕ) → SafePages left → Ran left after old new ob oa (Err stops.Form) → ⊥
not_others left after old new ob oa safe ran =
    let s = safe_said left after old new ob oa (Err stops.Form) safe ran in
    clash_wakes ran.said s.tasks (ran.run).0 s.wakes

refuses_case : (left after : Option (List ℕ)) (old new : Puts) (sb sa ob oa : ℕ) (end : Result (Unit {0}) Stop) (bytes : List ℕ)
    → Pages left after old new sb sa ob oa end → left ≡ Some bytes → ((said : Source) → Describes bytes said → HasOthers said)
    → (status_of end ≡ 3) ⊎ ((status_of end ≡ 5) ⊎ (status_of end ≡ 7))
refuses_case left after old new sb sa ob oa (Ok u) bytes pages told none =
    let p = (pages.run).page in
    absurd (clash_wakes pages.said p.tasks (none pages.said (same_bytes pages.said bytes left after told pages.described)) p.wakes)
refuses_case left after old new sb sa ob oa (Err stops.Fault) bytes pages told none =
    let p = (pages.run).page in
    absurd (clash_wakes pages.said p.tasks (none pages.said (same_bytes pages.said bytes left after told pages.described)) p.wakes)
refuses_case left after old new sb sa ob oa (Err stops.Out) bytes pages told none =
    absurd (part_wakes pages.said old new (none pages.said (same_bytes pages.said bytes left after told pages.described)) (pages.run).1)
refuses_case left after old new sb sa ob oa (Err stops.OutOfMemory) bytes pages told none = inr (inr refl)
refuses_case left after old new sb sa ob oa (Err stops.Form) bytes pages told none = inl refl
refuses_case left after old new sb sa ob oa (Err stops.Source) bytes pages told none = inr (inl refl)
refuses_case left after old new sb sa ob oa (Err stops.Words) bytes pages told none = absurd pages

completes_case : (left after : Option (List ℕ)) (old new : Puts) (sb sa ob oa : ℕ) (end : Result (Unit {0}) Stop)
    → Pages left after old new sb sa ob oa end → SafePages left → sa ≤ sb → oa ≤ ob → (status_of end ≡ 0) ⊎ (status_of end ≡ 7)
completes_case left after old new sb sa ob oa (Ok u) pages safe reads puts = inl refl
completes_case left after old new sb sa ob oa (Err stops.Fault) pages safe reads puts = absurd (not_faulted left after old new ob oa safe pages)
completes_case left after old new sb sa ob oa (Err stops.Out) pages safe reads puts = let failed = (pages.run).0 in absurd (omega (arith, puts, failed))
completes_case left after old new sb sa ob oa (Err stops.OutOfMemory) pages safe reads puts = inr refl
completes_case left after old new sb sa ob oa (Err stops.Form) (inl refused) safe reads puts = absurd (not_refused left after safe refused.0)
completes_case left after old new sb sa ob oa (Err stops.Form) (inr ran) safe reads puts = absurd (not_others left after old new ob oa safe ran)
completes_case left after old new sb sa ob oa (Err stops.Source) pages safe reads puts = let failed = pages.0 in absurd (omega (arith, reads, failed))
completes_case left after old new sb sa ob oa (Err stops.Words) pages safe reads puts = absurd pages

-- where the words ask for a page the program doesn't end for its words
not_words : (b : Bool) (left after : Option (List ℕ)) (old new : Puts) (sb sa ob oa : ℕ) (end : Result (Unit {0}) Stop)
    → (b ≡ true → Pages left after old new sb sa ob oa end) → end ≡ Err stops.Words → b ≡ false
not_words false left after old new sb sa ob oa end pages is = refl
not_words true left after old new sb sa ob oa end pages is =
    absurd (subst (λ (e : Result (Unit {0}) Stop). Pages left after old new sb sa ob oa e) is (pages refl))

-- a status is that of where the program stops
pub shows_paged : (words : List (List ℕ)) (left after : Option (List ℕ)) (old new : Puts) (sb sa ob oa status : ℕ) (end : Result (Unit {0}) Stop)
    → status ≡ status_of end
    → (asks_for_page words ≡ false → (end ≡ Err stops.Words) × (new ≡ old) × (after ≡ left) × (sa ≡ sb))
    → (asks_for_page words ≡ true → Pages left after old new sb sa ob oa end)
    → ShowsPaged words left after old new sb sa ob oa status
shows_paged words left after old new sb sa ob oa status end is unasked pages =
    record {
      end = end;
      is = is;
      unlisted = (not_words (asks_for_page words) left after old new sb sa ob oa end pages, λ other. (unasked other).0);
      nothing = λ other. let all = unasked other in (all.1, all.2, all.3);
      pages = pages;
      refuses = λ ask bytes told none. rw is (refuses_case left after old new sb sa ob oa end bytes (pages ask) told none);
      completes = λ ask safe reads puts. rw is (completes_case left after old new sb sa ob oa end (pages ask) safe reads puts);
    }
