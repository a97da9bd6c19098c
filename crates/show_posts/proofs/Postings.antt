-- What the program comes to where the words ask for posters.
use Rattle.std.proofs.Common.{◌≡◌, ◌≢◌, ◌⊎◌, ◌≤◌, ℕ, Bool, true, false, List, [], ◌∷◌, length, Option, Some, None, Result, Ok, Err, refl, sym, ap, ◌∙◌, subst, inl, inr, arith}
use Rattle.rt_language.specs.Syntax.{Source}
use Rattle.lang_sources.specs.Describes.{Describes}
use Rattle.lang_sources.specs.declared.reading.TheConstants.{SOURCE_LIMIT}
use Rattle.show_streams.specs.Writes.{Writes, Puts}
use Rattle.show_streams.specs.declared.out.OutError.{OutError}
use Rattle.show_streams.specs.declared.out.OutError.TheVariants as errors
use Rattle.show_words.specs.Outs.{stop_of}
use Rattle.show_posts.specs.Posting.{HasNoPosts, HasPosters, IsPostedFault, IsPostedText, IsSafeOver, Posts, PostsAs, Ran, SafePosts, ShowsPosted, asks_for_posters}
use Rattle.show_words.specs.Runs.{DescribedBy, IsRefused, Reads}
use Rattle.show_words.specs.Outs.{status_of}
use Rattle.show_words.specs.declared.reason.Stop.{Stop}
use Rattle.show_words.specs.declared.reason.Stop.TheVariants as stops

-- a text that was not written whole stops the program where the out says
pub cut_text : (said : Source) (text : List (List ℕ)) (old new : Puts) (before now : ℕ) (error : OutError)
    → IsPostedText said text ⊎ IsPostedFault said text → Writes text old new before now (Err error)
    → PostsAs said old new before now (Err (stop_of error))
cut_text said text old new before now errors.Failed run put = (put.cause refl, record { text = text; run = run; front = put.front })
cut_text said text old new before now errors.OutOfMemory run put = inr (record { text = text; run = run; front = put.front })

-- reading stopped, and nothing was written
pub posts_reading : (left after : Option (List ℕ)) (old new : Puts) (sb sa ob oa : ℕ) (stop : Stop) → Reads left after sb sa stop → new ≡ old
    → Posts left after old new sb sa ob oa (Err stop)
posts_reading left after old new sb sa ob oa stops.Form read same = (inl read, same)
posts_reading left after old new sb sa ob oa stops.Source read same = (read.0, read.1, same)
posts_reading left after old new sb sa ob oa stops.OutOfMemory read same = inl same
posts_reading left after old new sb sa ob oa stops.Words read same = absurd read
posts_reading left after old new sb sa ob oa stops.Fault read same = absurd read
posts_reading left after old new sb sa ob oa stops.Out read same = absurd read

-- the source that was read has no list of posts
pub posts_none : (said : Source) (left after : Option (List ℕ)) (old new : Puts) (sb sa ob oa : ℕ)
    → DescribedBy said left after → said.posts ≡ [] → new ≡ old → Posts left after old new sb sa ob oa (Err stops.Form)
posts_none said left after old new sb sa ob oa is none same = (inr (record { said = said; described = is; none = none }), same)

-- the source that was read was run
pub posts_running : (said : Source) (left after : Option (List ℕ)) (old new : Puts) (sb sa ob oa : ℕ) (result : Result (Unit {0}) Stop)
    → DescribedBy said left after → HasPosters said → PostsAs said old new ob oa result → Posts left after old new sb sa ob oa result
posts_running said left after old new sb sa ob oa (Ok u) is has run = record { said = said; described = is; posters = has; run = run }
posts_running said left after old new sb sa ob oa (Err stops.Fault) is has run = record { said = said; described = is; posters = has; run = run }
posts_running said left after old new sb sa ob oa (Err stops.Out) is has run = record { said = said; described = is; posters = has; run = run }
posts_running said left after old new sb sa ob oa (Err stops.OutOfMemory) is has run =
    inr (record { said = said; described = is; posters = has; run = run })
posts_running said left after old new sb sa ob oa (Err stops.Words) is has run = absurd run
posts_running said left after old new sb sa ob oa (Err stops.Form) is has run = absurd run
posts_running said left after old new sb sa ob oa (Err stops.Source) is has run = absurd run

-- what the input tells is what was read of it
same_bytes : (said : Source) (bytes : List ℕ) (left after : Option (List ℕ)) → left ≡ Some bytes → DescribedBy said left after → Describes bytes said
same_bytes said bytes None after told is = absurd (cc)
same_bytes said bytes (Some all) after told is =
    let same : is.bytes ≡ bytes = cc (told, is.whole.1) in
    subst (λ (read : List ℕ). Describes read said) same is.described

none_long : (said : Source) → HasPosters said → said.posts ≡ [] → ⊥
none_long said has none = let long = subst (λ (ps : List _). 1 ≤ length ps) none has.some in absurd (omega (arith, long))

-- a source that describes none with a list of posts wasn't run
not_run : (left after : Option (List ℕ)) (old new : Puts) (before now : ℕ) (result : Result (Unit {0}) Stop) (bytes : List ℕ)
    → left ≡ Some bytes → ((said : Source) → Describes bytes said → said.posts ≡ []) → Ran left after old new before now result → ⊥
not_run left after old new before now result bytes told none ran =
    none_long ran.said ran.posters (none ran.said (same_bytes ran.said bytes left after told ran.described))

-- a safe input isn't refused
not_refused : (left after : Option (List ℕ)) → SafePosts left → IsRefused left after ⊎ HasNoPosts left after → ⊥
not_refused None after safe refused = let wrong : None ≡ Some safe.bytes = safe.told in absurd (cc)
not_refused (Some all) after safe (inl (inl longer)) =
    let same : all ≡ safe.bytes = cc (safe.told) in
    let size : length safe.bytes ≤ SOURCE_LIMIT = (safe.described).size in
    absurd (omega (arith, longer, subst (λ (bytes : List ℕ). length bytes ≤ SOURCE_LIMIT) (sym same) size))
not_refused (Some all) after safe (inl (inr none)) =
    let same : safe.bytes ≡ none.bytes = cc (sym safe.told, (none.whole).1) in
    none.none safe.said (subst (λ (bytes : List ℕ). Describes bytes safe.said) same safe.described)
not_refused (Some all) after safe (inr empty) =
    safe.some empty.said (same_bytes empty.said safe.bytes (Some all) after safe.told empty.described) empty.none

-- and comes to no fault
not_faulted : (left after : Option (List ℕ)) (old new : Puts) (before now : ℕ) → SafePosts left → Ran left after old new before now (Err stops.Fault) → ⊥
not_faulted left after old new before now safe ran =
    ran.run.run.unsafe (safe.safe ran.said (same_bytes ran.said safe.bytes left after safe.told ran.described))

refuses_case : (left after : Option (List ℕ)) (old new : Puts) (sb sa ob oa : ℕ) (end : Result (Unit {0}) Stop) (bytes : List ℕ)
    → Posts left after old new sb sa ob oa end → left ≡ Some bytes → ((said : Source) → Describes bytes said → said.posts ≡ [])
    → (status_of end ≡ 3) ⊎ ((status_of end ≡ 5) ⊎ (status_of end ≡ 7))
refuses_case left after old new sb sa ob oa (Ok u) bytes posts told none = absurd (not_run left after old new ob oa (Ok u) bytes told none posts)
refuses_case left after old new sb sa ob oa (Err stops.Fault) bytes posts told none =
    absurd (not_run left after old new ob oa (Err stops.Fault) bytes told none posts)
refuses_case left after old new sb sa ob oa (Err stops.Out) bytes posts told none =
    absurd (not_run left after old new ob oa (Err stops.Out) bytes told none posts)
refuses_case left after old new sb sa ob oa (Err stops.OutOfMemory) bytes posts told none = inr (inr refl)
refuses_case left after old new sb sa ob oa (Err stops.Form) bytes posts told none = inl refl
refuses_case left after old new sb sa ob oa (Err stops.Source) bytes posts told none = inr (inl refl)
refuses_case left after old new sb sa ob oa (Err stops.Words) bytes posts told none = absurd posts

completes_case : (left after : Option (List ℕ)) (old new : Puts) (sb sa ob oa : ℕ) (end : Result (Unit {0}) Stop)
    → Posts left after old new sb sa ob oa end → SafePosts left → sa ≤ sb → oa ≤ ob → (status_of end ≡ 0) ⊎ (status_of end ≡ 7)
completes_case left after old new sb sa ob oa (Ok u) posts safe reads puts = inl refl
completes_case left after old new sb sa ob oa (Err stops.Fault) posts safe reads puts = absurd (not_faulted left after old new ob oa safe posts)
completes_case left after old new sb sa ob oa (Err stops.Out) posts safe reads puts = let failed = posts.run.0 in absurd (omega (arith, puts, failed))
completes_case left after old new sb sa ob oa (Err stops.OutOfMemory) posts safe reads puts = inr refl
completes_case left after old new sb sa ob oa (Err stops.Form) posts safe reads puts = absurd (not_refused left after safe posts.0)
completes_case left after old new sb sa ob oa (Err stops.Source) posts safe reads puts = let failed = posts.0 in absurd (omega (arith, reads, failed))
completes_case left after old new sb sa ob oa (Err stops.Words) posts safe reads puts = absurd posts

-- where the words ask for posters the program doesn't end for its words
not_words : (b : Bool) (left after : Option (List ℕ)) (old new : Puts) (sb sa ob oa : ℕ) (end : Result (Unit {0}) Stop)
    → (b ≡ true → Posts left after old new sb sa ob oa end) → end ≡ Err stops.Words → b ≡ false
not_words false left after old new sb sa ob oa end posts is = refl
not_words true left after old new sb sa ob oa end posts is =
    absurd (subst (λ (e : Result (Unit {0}) Stop). Posts left after old new sb sa ob oa e) is (posts refl))

-- a status is that of where the program stops
pub shows_posted : (words : List (List ℕ)) (left after : Option (List ℕ)) (old new : Puts) (sb sa ob oa status : ℕ) (end : Result (Unit {0}) Stop)
    → status ≡ status_of end
    → (asks_for_posters words ≡ false → (end ≡ Err stops.Words) × (new ≡ old) × (after ≡ left) × (sa ≡ sb))
    → (asks_for_posters words ≡ true → Posts left after old new sb sa ob oa end)
    → ShowsPosted words left after old new sb sa ob oa status
shows_posted words left after old new sb sa ob oa status end is unasked posts =
    record {
      end = end;
      is = is;
      unlisted = (not_words (asks_for_posters words) left after old new sb sa ob oa end posts, λ other. (unasked other).0);
      nothing = λ other. let all = unasked other in (all.1, all.2, all.3);
      posts = posts;
      refuses = λ ask bytes told none. rw is (refuses_case left after old new sb sa ob oa end bytes (posts ask) told none);
      completes = λ ask safe reads puts. rw is (completes_case left after old new sb sa ob oa end (posts ask) safe reads puts);
    }
