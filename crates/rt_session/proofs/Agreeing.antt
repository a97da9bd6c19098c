-- A merge of code's messages is a merge of the definitions'.
use Rattle.std.proofs.Common.{◌≡◌, ℕ, zero, suc, ◌+◌, ◌<◌, ◌≤◌, Bool, true, false, List, [], ◌∷◌, map, length, refl, sym, ap, ◌∙◌, subst, nat_eq, arith}
use Rattle.std.specs.Prelude.{Option, Some, cond, nat_lt, if◌then◌else◌, slice_index_or}
use Rattle.std.specs.List.{AllByRecursion}
use Rattle.std.proofs.lemmas.Bool.{eq-eqb, ltb-true, ltb-false}
use Rattle.rt_inbox.specs.Merge.{of_poster, numbered}
use Rattle.rt_inbox.specs.declared.message.Post.{Post}
use Rattle.rt_inbox.specs.declared.message.Msg.{Msg}
use Rattle.rt_model.specs.Lists.{nth, or_else}
use Rattle.rt_model.specs.Replay as replay
use Rattle.rt_model.specs.Merge as model
use Rattle.run_reports.specs.Seen.{message_of, post_of}
use Rattle.rt_session.specs.Merges.{MergesAgree}

one_more : (b : Bool) (m : Msg) (xs : List replay.Message) (ms : List Msg) → xs ≡ map message_of ms → (if b then message_of m ∷ xs else xs) ≡ map message_of (cond b (m ∷ ms) ms)
one_more true m xs ms same = ap (λ (l : List replay.Message). message_of m ∷ l) same
one_more false m xs ms same = same

-- the messages of a poster
same_poster : (p : ℕ) (ms : List Msg) → model.of_poster p (map message_of ms) ≡ map message_of (of_poster p ms)
same_poster p [] = refl
same_poster p (m ∷ ms) = one_more (nat_eq m.poster p) m (model.of_poster p (map message_of ms)) (of_poster p ms) (same_poster p ms)

-- messages that count up ask for their posts
counts_up : (p n : ℕ) (posts : List Post) → model.IsPosted n (map message_of (numbered p n posts)) (map post_of posts)
counts_up p n [] = tt
counts_up p n (what ∷ posts) = (refl, refl, counts_up p (n + 1) posts)

-- the list of a poster
list_at : (posts : List (List Post)) (p : ℕ) (list : List replay.Post) → nth (map (map post_of) posts) p ≡ Some list → (p < length posts) × (map post_of (slice_index_or posts p []) ≡ list)
list_at [] p list h = cc
list_at (x ∷ posts) zero list h = (omega arith, ap (λ (o : Option (List replay.Post)). or_else [] o) h)
list_at (x ∷ posts) (suc p) list h = let rest = list_at posts p list h in (let low = rest.0 in omega arith, rest.1)

tail_none : (b : Bool) (m : Msg) (ms : List Msg) → cond b (m ∷ ms) ms ≡ [] → ms ≡ []
tail_none true m ms h = cc
tail_none false m ms h = h

head_none : (b : Bool) (m : Msg) (ms : List Msg) → b ≡ true → cond b (m ∷ ms) ms ≡ [] → ⊥
head_none true m ms is h = cc
head_none false m ms is h = cc

-- where no poster from n on has a message, each message is of one before
below : (n : ℕ) (m : Msg) (ms : List Msg) (b : Bool) → nat_lt m.poster n ≡ b → (n ≤ m.poster → of_poster m.poster (m ∷ ms) ≡ []) → m.poster < n
below n m ms true is none = ltb-true m.poster n is
below n m ms false is none =
    absurd (head_none (nat_eq m.poster m.poster) m (of_poster m.poster ms) (eq-eqb m.poster m.poster refl) (none (ltb-false m.poster n is)))

each_below : (n : ℕ) (ms : List Msg) → ((p : ℕ) → n ≤ p → of_poster p ms ≡ []) → AllByRecursion (λ (m : replay.Message). m.poster < n) (map message_of ms)
each_below n [] none = tt
each_below n (m ∷ ms) none =
    (below n m ms (nat_lt m.poster n) refl (none m.poster), each_below n ms (λ p high. tail_none (nat_eq m.poster p) m (of_poster p ms) (none p high)))

same_length : (posts : List (List Post)) → length posts ≡ length (map (map post_of) posts)
same_length [] = refl
same_length (x ∷ posts) = ap suc (same_length posts)

pub merges_agree : MergesAgree
merges_agree messages posts merge =
    record {
      each = λ p list found.
          let list_is = list_at posts p list found in
          let own : List Post = slice_index_or posts p [] in
          subst (λ (ms : List replay.Message). model.IsPosted 0 ms list) (sym (same_poster p messages ∙ ap (λ (l : List Msg). map message_of l) (merge.each p list_is.0)))
          (subst (λ (l : List replay.Post). model.IsPosted 0 (map message_of (numbered p 0 own)) l) list_is.1 (counts_up p 0 own));
      no_other = subst (λ (n : ℕ). AllByRecursion (λ (m : replay.Message). m.poster < n) (map message_of messages)) (same_length posts) (each_below (length posts) messages merge.no_other);
    }
