-- Two posters of a new inbox are ready, since their lists are short.
use Rattle.std.proofs.Common.{◌≡◌, ◌<◌, ◌≤◌, ℕ, zero, suc, List, [], ◌∷◌, ◌++◌, length, get_or, sym, ap, ◌∙◌, subst, arith}
use Rattle.std.specs.List.{All}
use Rattle.rt_inbox.specs.declared.message.Post.{Post}
use Rattle.rt_inbox.specs.declared.notifier.Notifier.{Notifier}
use Rattle.rt_inbox.specs.Ends.{IsNotifierOf, posts_of}
use Rattle.rt_inbox.specs.declared.posters.Poster.{Poster}
use Rattle.rt_inbox.specs.Posted.{AllReady}
use Rattle.test_inbox.proofs.tests.posters.two_posters.Goals as goal

-- both of two lists are short
both_few : (a b : List Post) → length a ≤ 1000000 → length b ≤ 1000000
    → (k : ℕ) (d : List Post) → k < length (a ∷ b ∷ []) → length (get_or (a ∷ b ∷ []) k d) ≤ 1000000
both_few a b one other zero d lt = one
both_few a b one other (suc zero) d lt = other
both_few a b one other (suc (suc k)) d lt = absurd (omega (arith, lt))

pub returns-clause-ready : goal.returns-clause-ready
returns-clause-ready g c =
    let inbox = c.expect-inbox.result.0 in
    let a = c.three_marks.result in
    let b = c.three_marks-2.result in
    let own : All (IsNotifierOf c.expect-inbox.result.0) c.expect-inbox.result.2 = rw c.expect-inbox.ensures at c.new.ensures.notifiers in
    let nothing : All (λ (n : Notifier). posts_of n ≡ []) c.expect-inbox.result.2 = rw c.expect-inbox.ensures at c.new.ensures.nothing_posted in
    let first = rw c.expect.ensures at c.push.ensures.ok in
    let second = rw c.expect-2.ensures at c.push-2.ensures.ok in
    let lists : c.as_slice.result.now ≡ c.three_marks.result ∷ c.three_marks-2.result ∷ [] =
    c.as_slice.ensures.items ∙ second ∙ ap (λ ls. ls ++ b ∷ []) first ∙ ap (λ ls. (ls ++ a ∷ []) ++ b ∷ []) c.new-posts.ensures.empty in
    let few : All (λ (l : List Post). length l ≤ 1000000) c.as_slice.result.now =
    subst (λ (ls : List (List Post)). All (λ (l : List Post). length l ≤ 1000000) ls) (sym lists) (both_few a b c.three_marks.ensures.few c.three_marks-2.ensures.few) in
    let made = rw c.expect-posters.ensures at c.posters_for-posters.ensures.ready in
    subst (λ (ps : List Poster). AllReady inbox ps) (sym c.into_vec.ensures.items) (made inbox own nothing few)
