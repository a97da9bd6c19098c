-- The posters' ends, their numbers and their lists, before the posters post and after.
use Rattle.std.proofs.Common.{◌≡◌, ℕ, ◌<◌, ◌≤◌, true, List, [], ◌∷◌, ◌++◌, map, length, get_or, refl, sym, ap, ◌∙◌, subst, arith}
use Rattle.std.proofs.lemmas.List.{ext_get_or, get_or-map, get_or_default, length-map, with_items_is}
use Rattle.std.proofs.lemmas.List.Elements.{Contains-get_or}
use Rattle.std.specs.List.{All, Contains}
use Rattle.std.specs.Prelude.{vec_len}
use Rattle.std.specs.Vec.{with_items}
use Rattle.std.specs.declared.vec.Vec.{Vec}
use Rattle.rt_inbox.specs.Ends.{AreNumbered, IsNotifierOf, accepted_lists, left_list, number_of, posters_of, posts_of, taken_list, taken_of}
use Rattle.rt_inbox.specs.Gathered.{HasEach, IsKept}
use Rattle.rt_inbox.specs.Merge.{IsMerge}
use Rattle.rt_inbox.specs.declared.inbox.Inbox.{Inbox}
use Rattle.rt_inbox.specs.declared.message.Post.{Post}
use Rattle.rt_inbox.specs.declared.notifier.Notifier.{Notifier}
use Rattle.rt_inbox.specs.declared.owner.Owner.{Owner}
use Rattle.rt_inbox.specs.declared.taken.Taken.{Taken}
use Rattle.rt_inbox.specs.Posted.{AllPosted, AllReady, list_of, notifier_of}
use Rattle.rt_inbox.specs.declared.posters.Poster.{Poster}
use Rattle.rt_session.specs.Meetings.{AllTaken, AreFor, HavePosted}

-- as many posters as lists
counted : (posters : List Poster) (posts : List (List Post)) → map list_of posters ≡ posts → length posters ≡ length posts
counted posters posts lists = sym (length-map posters list_of) ∙ ap length lists

-- what the inbox's own ends and the lists make
pub are_for : (inbox : Inbox) (posts : List (List Post)) (ends : List Notifier) (posters : List Poster)
    → posters_of inbox ≡ length posts → map notifier_of posters ≡ ends → map list_of posters ≡ posts → AllReady inbox posters
    → AreNumbered ends → AreFor inbox posts posters
are_for inbox posts ends posters count own lists ready numbers =
    record {
      count = count;
      each = counted posters posts lists;
      ready = ready;
      numbered = λ k d lt.
          let within : k < length ends = subst (λ n. k < n) (sym (length-map posters notifier_of) ∙ ap length own) lt in
          let end : get_or ends k (notifier_of d) ≡ notifier_of (get_or posters k d) =
          ap (λ ns. get_or ns k (notifier_of d)) (sym own) ∙ get_or-map notifier_of posters k d (notifier_of d) lt in
          let list : get_or posts k [] ≡ list_of (get_or posters k d) = ap (λ ls. get_or ls k []) (sym lists) ∙ get_or-map list_of posters k d [] lt in
          (sym (ap number_of end) ∙ numbers k (notifier_of d) within, sym list);
    }

-- once they have posted
pub have_posted : (inbox : Inbox) (posts : List (List Post)) (old new : List Poster) → AreFor inbox posts old → AllPosted inbox old new
    → HavePosted inbox posts new
have_posted inbox posts old new before after =
    let low : (k : ℕ) → k < length new → k < length old = λ k lt. subst (λ n. k < n) after.0 lt in
    record {
      count = before.count;
      each = after.0 ∙ before.each;
      own = λ k d lt. (after.1 k d (low k lt)).own;
      numbered = λ k d lt. (after.1 k d (low k lt)).number ∙ (before.numbered k d (low k lt)).0;
      posted = λ k d lt accepted. (after.1 k d (low k lt)).all accepted ∙ (before.numbered k d (low k lt)).1;
    }

-- and stand in a vector that was lent to them
pub have_posted_in : {Z : Type 0} (inbox : Inbox) (posts : List (List Post)) (posters : Vec Poster Z) (lent new : List Poster)
    → AreFor inbox posts posters.items → lent ≡ posters.items → length lent ≡ vec_len posters → AllPosted inbox lent new
    → HavePosted inbox posts (with_items posters new).items
have_posted_in inbox posts posters lent new before same count after =
    subst (λ (ps : List Poster). HavePosted inbox posts ps) (sym (with_items_is posters new (after.0 ∙ count)))
    (have_posted inbox posts lent new (subst (λ (ps : List Poster). AreFor inbox posts ps) (sym same) before) after)

-- a poster whose end is this one
of_end : Notifier → Poster
of_end end = record { notifier = end; number = 0; posts = []; accepted = true }

-- a poster, where there is one
one_of : (posters : List Poster) (k : ℕ) → k < length posters → Poster
one_of [] k lt = absurd (omega (arith, lt))
one_of (poster ∷ posters) k lt = poster

-- the end at a place is that of the poster there
end_at : (posters : List Poster) (k : ℕ) (d : Notifier) → k < length posters
    → get_or (map notifier_of posters) k d ≡ notifier_of (get_or posters k (of_end d))
end_at posters k d lt = get_or-map notifier_of posters k (of_end d) d lt

within : (posters : List Poster) (k : ℕ) → k < length (map notifier_of posters) → k < length posters
within posters k lt = subst (λ n. k < n) (length-map posters notifier_of) lt

-- the ends are the inbox's own
pub ends_own : (inbox : Inbox) (posts : List (List Post)) (posters : List Poster) → HavePosted inbox posts posters
    → All (IsNotifierOf inbox) (map notifier_of posters)
ends_own inbox posts posters have = λ k d lt.
    let low = within posters k lt in
    subst (λ n. IsNotifierOf inbox n) (sym (end_at posters k d low)) (have.own k (of_end d) low)

-- and there is one for each poster
pub ends_each : (inbox : Inbox) (posts : List (List Post)) (posters : List Poster) → HavePosted inbox posts posters
    → HasEach (posters_of inbox) (map notifier_of posters)
ends_each inbox posts posters have = λ p lt.
    let low : p < length posters = subst (λ n. p < n) (have.count ∙ sym have.each) lt in
    let some : Poster = one_of posters p low in
    let here : p < length (map notifier_of posters) = subst (λ n. p < n) (sym (length-map posters notifier_of)) low in
    let there : p < length (map number_of (map notifier_of posters)) =
    subst (λ n. p < n) (sym (length-map (map notifier_of posters) number_of)) here in
    let is : get_or (map number_of (map notifier_of posters)) p p ≡ p =
    get_or-map number_of (map notifier_of posters) p (notifier_of some) p here
    ∙ ap number_of (get_or-map notifier_of posters p some (notifier_of some) low) ∙ have.numbered p some low in
    (p, there, is)

-- all that was accepted of all is what was to be posted
pub accepted_all : (inbox : Inbox) (posts : List (List Post)) (posters : List Poster) (lists : List (List Post))
    → HavePosted inbox posts posters
    → ((k : ℕ) (d : Poster) → k < length posters → (get_or posters k d).accepted ≡ true)
    → length lists ≡ posters_of inbox
    → All (IsKept lists) (map notifier_of posters)
    → lists ≡ posts
accepted_all inbox posts posters lists have accepted count kept =
    ext_get_or [] lists posts (count ∙ have.count)
    (λ k lt.
    let low : k < length posters = subst (λ n. k < n) (count ∙ have.count ∙ sym have.each) lt in
    let some : Poster = one_of posters k low in
    let here : k < length (map notifier_of posters) = subst (λ n. k < n) (sym (length-map posters notifier_of)) low in
    let end : get_or (map notifier_of posters) k (notifier_of some) ≡ notifier_of (get_or posters k some) =
    get_or-map notifier_of posters k some (notifier_of some) low in
    let number : number_of (get_or (map notifier_of posters) k (notifier_of some)) ≡ k = ap number_of end ∙ have.numbered k some low in
    let under : get_or lists (number_of (get_or (map notifier_of posters) k (notifier_of some))) [] ≡ posts_of (get_or (map notifier_of posters) k (notifier_of some)) =
    kept k (notifier_of some) here in
    ap (λ n. get_or lists n []) (sym number) ∙ under ∙ ap posts_of end ∙ have.posted k some low (accepted k some low))

pub kept_all : (lists : List (List Post)) (ends was : List Notifier) → ends ≡ was → All (IsKept lists) ends → All (IsKept lists) was
kept_all lists ends was same kept = subst (λ (ns : List Notifier). All (IsKept lists) ns) same kept

-- the inbox has ended, and all was accepted
pub all_taken : (inbox : Inbox) (posts : List (List Post)) (posters : List Poster) (owner : Owner) (taken : Taken)
    → HavePosted inbox posts posters
    → ((k : ℕ) (d : Poster) → k < length posters → (get_or posters k d).accepted ≡ true)
    → taken_list taken ≡ taken_of owner
    → IsMerge (taken_list taken ++ left_list taken) (accepted_lists taken)
    → length (accepted_lists taken) ≡ posters_of inbox
    → All (IsKept (accepted_lists taken)) (map notifier_of posters)
    → AllTaken posts owner taken
all_taken inbox posts posters owner taken have accepted took merged count kept =
    let lists : accepted_lists taken ≡ posts = accepted_all inbox posts posters (accepted_lists taken) have accepted count kept in
    record {
      taken = took;
      merged = subst (λ ls. IsMerge (taken_list taken ++ left_list taken) ls) lists merged;
      accepted = lists;
    }
