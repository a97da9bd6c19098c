-- Runs of a source whose posters post: what their texts are by what a posted session tells.
use Rattle.std.proofs.Common.{◌≡◌, ◌≢◌, ◌∙◌, ℕ, zero, suc, ◌<◌, ◌≤◌, Bool, true, false, List, [], ◌∷◌, ◌++◌, length, map, get_or, Option, Some, None, refl, sym, ap, subst, nat_lt, arith}
use Rattle.std.proofs.lemmas.Bool.{ltb-false}
use Rattle.std.proofs.lemmas.List.{length-map}
use Rattle.std.proofs.lemmas.List.Elements.{All-from_recursion, recursion_from_All}
use Rattle.std.specs.List.{All, AllByRecursion}
use Rattle.std.specs.Prelude.{codes, if◌then◌else◌, option_and_then, option_map}
use Rattle.serde_json.specs.Data.{Data, Items, no_items, item}
use Rattle.serde_json.specs.Find.{as_array}
use Rattle.rt_edits.specs.Sinks as sinks
use Rattle.rt_edits.specs.declared.edit.Edit.{Edit}
use Rattle.lang_minding.specs.Kept.{SourcesKeepMemos}
use Rattle.lang_expressions.specs.Fields.{list_or_empty}
use Rattle.lang_expressions.specs.Lists.{in_front, read_each}
use Rattle.rt_inbox.specs.declared.message.Msg.{Msg}
use Rattle.rt_inbox.specs.declared.message.Post.{Post}
use Rattle.rt_inbox.specs.declared.taken.Taken.{Taken}
use Rattle.rt_language.specs.Lines.{line, fault_text}
use Rattle.rt_language.specs.Meaning as language
use Rattle.rt_language.specs.Meaning.{meaning_of, props_of}
use Rattle.rt_language.specs.Syntax as syntax
use Rattle.rt_language.specs.Syntax.{Source}
use Rattle.run_outside.specs.Sessions.{CameAt, Headlined}
use Rattle.tree_edits.specs.Documents.{edit_of}
use Rattle.rt_model.specs.Document as document
use Rattle.rt_model.specs.Headline.{CameTo, Headline}
use Rattle.rt_model.specs.Merge.{AreSized, HasFronts, IsCut, ValidOverCuts, drained}
use Rattle.rt_model.specs.Replay as replay
use Rattle.rt_model.specs.Reports as model_reports
use Rattle.rt_model.specs.State as model
use Rattle.run_reports.specs.Seen.{fault_of, limits_of, post_of, report_of, usual}
use Rattle.run_reports.specs.declared.fault.Fault.{Fault}
use Rattle.run_reports.specs.declared.fault.Fault.TheVariants as faults
use Rattle.run_reports.specs.declared.report.Report.{Report}
use Rattle.lang_script.specs.Posted.{posted_of}
use Rattle.lang_sources.specs.Describes.{Describes}
use Rattle.lang_sources.specs.Inputs.{post_in, poster_in, within_posts}
use Rattle.lang_sources.specs.Whole.{posts_in, within_posters}
use Rattle.lang_syntax.specs.Mirror as mirror
use Rattle.lang_syntax.specs.Mirror.{source_of}
use Rattle.lang_syntax.specs.declared.source.PostSource.{PostSource}
use Rattle.lang_syntax.specs.declared.source.Source as checked
use Rattle.show_posts.specs.Posting.{HasComeOver, HasHeadlineOver, HasPosters, IsPostedFault, IsPostedText, IsSafeOver, KeepsMemosOver, lists_in, posted_text}
use Rattle.show_words.specs.Runs.{DescribedBy}
use Rattle.show_words.proofs.Preparing.{holds_of, named}
use Rattle.rt_session.specs.Posted.{TookAll, TookFronts, drains_of, lists_of}

-- how many lists, and how long

-- no list is longer than this
abbrev pub AreShort : {A : Type 0} → List (List A) → Type 0
AreShort {A} lists = AllByRecursion (λ (list : List A). length list ≤ 1000000) lists

short_mapped : {A B : Type 0} (f : A → B) (lists : List (List A)) → AreShort lists → AreShort (map (map f) lists)
short_mapped f [] h = tt
short_mapped f (list ∷ lists) h = (subst (λ n. n ≤ 1000000) (sym (length-map list f)) h.0, short_mapped f lists h.1)

short_under : {A B : Type 0} (f : A → B) (lists : List (List A)) → AreShort (map (map f) lists) → AreShort lists
short_under f [] h = tt
short_under f (list ∷ lists) h = (subst (λ n. n ≤ 1000000) (length-map list f) h.0, short_under f lists h.1)

-- what is within a limit
within_one : {A : Type 0} (most : ℕ) (b : Bool) (xs ys : List A) → nat_lt most (length xs) ≡ b → (if b then None else Some xs) ≡ Some ys → length ys ≤ most
within_one most true xs ys is h = absurd (cc h)
within_one most false xs ys is h =
    let low : length xs ≤ most = ltb-false most (length xs) is in
    let same : xs ≡ ys = cc h in
    subst (λ (l : List _). length l ≤ most) same low

then_some : {A B : Type 0} (f : A → Option B) (o : Option A) (b : B) → option_and_then f o ≡ Some b → (a : A) × (o ≡ Some a) × (f a ≡ Some b)
then_some f None b h = absurd (cc h)
then_some f (Some a) b h = (a, refl, h)

map_some : {A B : Type 0} (f : A → B) (o : Option A) (b : B) → option_map f o ≡ Some b → (a : A) × (o ≡ Some a) × (f a ≡ b)
map_some f None b h = absurd (cc h)
map_some f (Some a) b h = (a, refl, cc h)

within_same : {A : Type 0} (most : ℕ) (b : Bool) (xs ys : List A) → (if b then None else Some xs) ≡ Some ys → xs ≡ ys
within_same most true xs ys h = absurd (cc h)
within_same most false xs ys h = cc h

poster_short : (d : Data) (posts : List PostSource) → poster_in d ≡ Some posts → length posts ≤ 1000000
poster_short d posts h =
    let read = then_some within_posts (option_and_then (read_each post_in) (as_array d)) posts h in
    within_one 1000000 (nat_lt 1000000 (length read.0)) read.0 posts refl read.2

-- one more list, and the lists behind it
front_short : (one : Option (List PostSource)) (rest : Option (List (List PostSource))) (posters : List (List PostSource))
    → in_front one rest ≡ Some posters
    → ((posts : List PostSource) → one ≡ Some posts → length posts ≤ 1000000)
    → ((ps : List (List PostSource)) → rest ≡ Some ps → AreShort ps)
    → AreShort posters
front_short None rest posters h first others = absurd (cc h)
front_short (Some posts) None posters h first others = absurd (cc h)
front_short (Some posts) (Some ps) posters h first others =
    let same : posts ∷ ps ≡ posters = cc h in
    subst (λ (l : List (List PostSource)). AreShort l) same (first posts refl, others ps refl)

posters_short : (values : Items) (posters : List (List PostSource)) → read_each poster_in values ≡ Some posters → AreShort posters
unfolding read_each
posters_short no_items posters h =
    let same : [] ≡ posters = cc h in
    subst (λ (ps : List (List PostSource)). AreShort ps) same tt
posters_short (item d rest) posters h = front_short (poster_in d) (read_each poster_in rest) posters h (λ posts is. poster_short d posts is) (λ ps is. posters_short rest ps is)

few_said : (value : Data) (posters : List (List PostSource)) → posts_in value ≡ Some posters → (length posters ≤ 1000) × AreShort posters
unfolding posts_in
few_said value posters h =
    let within = then_some within_posters (option_and_then (read_each poster_in) (list_or_empty (codes "posts") value)) posters h in
    let read = then_some (read_each poster_in) (list_or_empty (codes "posts") value) within.0 within.1 in
    let few : length posters ≤ 1000 = within_one 1000 (nat_lt 1000 (length within.0)) within.0 posters refl within.2 in
    let same : within.0 ≡ posters = within_same 1000 (nat_lt 1000 (length within.0)) within.0 posters within.2 in
    (few, subst (λ ps. AreShort ps) same (posters_short read.0 within.0 read.2))

-- a source that was read has neither too many lists nor too long ones
pub has_posters : (said : Source) (left after : Option (List ℕ)) → DescribedBy said left after → 1 ≤ length said.posts → HasPosters said
has_posters said left after is some =
    let form = (is.described).form in
    let read = map_some (map (map mirror.post_of)) (posts_in (is.described).value) said.posts form.posts in
    let few = few_said (is.described).value read.0 read.1 in
    record {
      some = some;
      few = subst (λ n. n ≤ 1000) (sym (length-map read.0 (map mirror.post_of)) ∙ ap length read.2) few.0;
      short = All-from_recursion (λ (list : List syntax.PostSource). length list ≤ 1000000) said.posts
          (subst (λ ps. AreShort ps) read.2 (short_mapped mirror.post_of read.0 few.1));
    }

-- a source that was read has a list just where that of code has one
some_in : {A : Type 0} (xs : List A) → (xs ≡ [] → ⊥) → 1 ≤ length xs
some_in [] some = absurd (some refl)
some_in (x ∷ xs) some = omega arith

pub some_there : (described : checked.Source) → (described.posts ≡ [] → ⊥) → 1 ≤ length (source_of described).posts
some_there described some =
    subst (λ n. 1 ≤ n) (sym (length-map described.posts (map mirror.post_of))) (some_in described.posts some)

pub none_there : (described : checked.Source) → described.posts ≡ [] → (source_of described).posts ≡ []
none_there described none = ap (map (map mirror.post_of)) none

-- lists of posts

mapped_twice : {A B C : Type 0} (f : B → C) (g : A → B) (xs : List A) → map (λ x. f (g x)) xs ≡ map f (map g xs)
mapped_twice f g [] = refl
mapped_twice f g (x ∷ xs) = ap (λ l. f (g x) ∷ l) (mapped_twice f g xs)

lists_twice : {A B C : Type 0} (f : B → C) (g : A → B) (xss : List (List A)) → map (map (λ x. f (g x))) xss ≡ map (map f) (map (map g) xss)
lists_twice f g [] = refl
lists_twice f g (xs ∷ xss) = ap (λ l. l ∷ map (map (λ x. f (g x))) xss) (mapped_twice f g xs) ∙ ap (λ l. map f (map g xs) ∷ l) (lists_twice f g xss)

-- the posts of code are those that the source says
pub lists_said : (posts : List (List Post)) (described : checked.Source) → map (map post_of) posts ≡ map (map posted_of) described.posts
    → lists_of posts ≡ lists_in (source_of described)
lists_said posts described same = same ∙ lists_twice language.post_of mirror.post_of described.posts

-- so there are as many, and they are as long
pub lists_count : (posts : List (List Post)) (said : Source) → lists_of posts ≡ lists_in said → length posts ≡ length said.posts
lists_count posts said same =
    sym (length-map posts (map post_of)) ∙ ap length same ∙ length-map said.posts (map language.post_of)

pub lists_short : (posts : List (List Post)) (said : Source) → lists_of posts ≡ lists_in said → HasPosters said
    → All (λ (list : List Post). length list ≤ 1000000) posts
lists_short posts said same has =
    All-from_recursion (λ (list : List Post). length list ≤ 1000000) posts
    (short_under post_of posts
    (subst (λ ls. AreShort ls) (sym same)
    (short_mapped language.post_of said.posts (recursion_from_All (λ (list : List syntax.PostSource). length list ≤ 1000000) said.posts has.short))))

-- texts

-- a posted session into a sink that began with nothing has the headline with what it tells
headline_over : (said : Source) (drains : List (List replay.Message)) (old new : Option (List Edit)) (edits : List Edit) (reports shown : List Report)
    → old ≡ Some [] → new ≡ Some edits → shown ≡ reports
    → Headlined (meaning_of said) (props_of said) (drained drains) (limits_of usual) old new (map report_of reports)
    → HasHeadlineOver said drains (map edit_of edits) (map report_of shown)
unfolding HasHeadlineOver
headline_over said drains old new edits reports shown began tells same headlined =
    holds_of (λ e r. Headline (meaning_of said) (props_of said) (drained drains) (limits_of usual) (Some e) r) old new edits headlined.wrote reports shown
    began tells same headlined.told headlined.headline

-- where the headline is had, memos and resources are kept
memos_over : SourcesKeepMemos → (said : Source) (drains : List (List replay.Message)) (edits : List document.Edit) (reports : List model_reports.Report)
    → HasHeadlineOver said drains edits reports
    → KeepsMemosOver said drains reports
unfolding HasHeadlineOver KeepsMemosOver
memos_over law said drains edits reports headline = law said (props_of said) (drained drains) (limits_of usual) (Some edits) reports headline

come_over : (said : Source) (drains : List (List replay.Message)) (old new : Option (List Edit)) (edits : List Edit) (reports shown : List Report) (fault : model.Fault)
    → old ≡ Some [] → new ≡ Some edits → shown ≡ reports
    → CameAt (meaning_of said) (props_of said) (drained drains) (limits_of usual) old new (map report_of reports) fault
    → HasComeOver said drains (map edit_of edits) (map report_of shown) fault
unfolding HasComeOver
come_over said drains old new edits reports shown fault began tells same came =
    holds_of (λ e r. CameTo (meaning_of said) (props_of said) (drained drains) (limits_of usual) (Some e) r fault) old new edits came.wrote reports shown
    began tells same came.told came.came_to

-- edits, reports and drains are the text of a run that was done
pub posted_done : SourcesKeepMemos → (said : Source) (posts : List (List Post)) (old new : Option (List Edit)) (edits : List Edit) (reports shown : List Report)
    (drains seen : List (List Msg)) (inbox : Taken)
    → old ≡ Some [] → new ≡ Some edits → shown ≡ reports → seen ≡ drains
    → lists_of posts ≡ lists_in said
    → Headlined (meaning_of said) (props_of said) (drained (drains_of drains)) (limits_of usual) old new (map report_of reports)
    → TookAll posts usual.drain drains inbox
    → IsPostedText said (posted_text (map edit_of edits) (map report_of shown) (drains_of seen))
posted_done law said posts old new edits reports shown drains seen inbox began tells same kept lists headlined took =
    record {
      edits = map edit_of edits;
      reports = map report_of shown;
      drains = drains_of seen;
      cut = subst (λ ls. IsCut ls usual.drain (drains_of seen)) lists (subst (λ ds. IsCut (lists_of posts) usual.drain (drains_of ds)) (sym kept) took.cut);
      headline = over;
      memos = memos_over law said (drains_of seen) (map edit_of edits) (map report_of shown) over;
      printed = refl;
    }
  where
    over : HasHeadlineOver said (drains_of seen) (map edit_of edits) (map report_of shown)
    over =
        subst (λ ds. HasHeadlineOver said (drains_of ds) (map edit_of edits) (map report_of shown)) (sym kept)
        (headline_over said (drains_of drains) old new edits reports shown began tells same headlined)

-- want of memory is none of the faults of the definitions
told_fault : (fault : Fault) (f : model.Fault) → fault_of fault ≡ Some f → fault ≢ faults.OutOfMemory
told_fault fault f is wanting = let none : fault_of fault ≡ None = ap fault_of wanting in absurd (cc (sym none ∙ is))

-- and with the line of a fault, of a run that it ended
pub posted_ended : (said : Source) (posts : List (List Post)) (old new : Option (List Edit)) (edits : List Edit) (reports shown : List Report)
    (drains seen : List (List Msg)) (fault : Fault) (text : List ℕ)
    → old ≡ Some [] → new ≡ Some edits → shown ≡ reports → seen ≡ drains
    → lists_of posts ≡ lists_in said
    → ((f : model.Fault) → fault_of fault ≡ Some f → CameAt (meaning_of said) (props_of said) (drained (drains_of drains)) (limits_of usual) old new (map report_of reports) f)
    → TookFronts posts usual.drain drains fault
    → (ValidOverCuts (meaning_of said) (props_of said) (lists_of posts) (limits_of usual) → fault_of fault ≡ None)
    → Some text ≡ option_map (λ f. line (fault_text f)) (fault_of fault)
    → IsPostedFault said (posted_text (map edit_of edits) (map report_of shown) (drains_of seen) ++ text ∷ [])
unfolding IsSafeOver
posted_ended said posts old new edits reports shown drains seen fault text began tells same kept lists came took completes is =
    let name = named (fault_of fault) text is in
    let fronts : HasFronts (drains_of drains) (lists_of posts) = took.fronts (told_fault fault name.0 name.1) in
    record {
      edits = map edit_of edits;
      reports = map report_of shown;
      drains = drains_of seen;
      sized = subst (λ ds. AreSized usual.drain (drains_of ds)) (sym kept) took.sized;
      fronts = subst (λ ds. HasFronts (drains_of ds) (lists_in said)) (sym kept) (subst (λ ls. HasFronts (drains_of drains) ls) lists fronts);
      fault = name.0;
      come =
          subst (λ ds. HasComeOver said (drains_of ds) (map edit_of edits) (map report_of shown) name.0) (sym kept)
          (come_over said (drains_of drains) old new edits reports shown name.0 began tells same (came name.0 name.1));
      unsafe = λ safe.
          let none : fault_of fault ≡ None =
          completes (subst (λ ls. ValidOverCuts (meaning_of said) (props_of said) ls (limits_of usual)) (sym lists) safe) in
          absurd (cc (sym none ∙ name.1));
      printed = ap (λ (last : List ℕ). posted_text (map edit_of edits) (map report_of shown) (drains_of seen) ++ last ∷ []) name.2;
    }
