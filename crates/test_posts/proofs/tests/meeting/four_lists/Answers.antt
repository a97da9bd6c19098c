-- Two lists of four marks, which are short.
use Rattle.std.proofs.Common.{◌≡◌, ◌∙◌, ◌≤◌, List, [], ◌∷◌, ◌++◌, length, ap, subst, sym}
use Rattle.std.specs.List.{All}
use Rattle.rt_inbox.specs.declared.message.Post.{Post}
use Rattle.test_posts.proofs.Short.{both_short}
use Rattle.test_posts.proofs.tests.meeting.four_lists.Goals as goal

pub returns : goal.returns
returns g c =
    let a = c.four_marks.result in
    let b = c.four_marks-2.result in
    let first = rw c.expect.ensures at c.push.ensures.ok in
    let second = rw c.expect-2.ensures at c.push-2.ensures.ok in
    let lists : c.push-2.new.self ≡ c.four_marks.result ∷ c.four_marks-2.result ∷ [] =
    second ∙ ap (λ ls. ls ++ b ∷ []) first ∙ ap (λ ls. (ls ++ a ∷ []) ++ b ∷ []) c.new-lists.ensures.empty in
    record {
      two = ap length lists;
      short =
          subst (λ (ls : List (List Post)). All (λ (l : List Post). length l ≤ 1000000) ls) (sym lists)
          (both_short a b c.four_marks.ensures.few c.four_marks-2.ensures.few);
    }
