-- Messages of one poster, as messages join at the end.
use Rattle.std.proofs.Common.{◌≡◌, ◌≢◌, ℕ, ◌+◌, Bool, true, false, nat_eq, List, [], ◌∷◌, ◌++◌, length, refl, sym, ap, ◌∙◌, arith}
use Rattle.std.proofs.lemmas.Bool.{ne_eqb}
use Rattle.std.proofs.lemmas.Bool.Decides.{nat_tests}
use Rattle.std.proofs.lemmas.List.Elements.{filter-append}
pub use Rattle.rt_lemmas.proofs.Lists.{append_nil as nil}
pub use Rattle.rt_lemmas.proofs.Numbers.{eq_same as same_number}
use Rattle.rt_inbox.specs.declared.message.Post.{Post}
use Rattle.rt_inbox.specs.declared.message.Msg.{Msg}
use Rattle.rt_inbox.specs.Merge.{of_poster, numbered, HasPosted}
use Rattle.rt_inbox.specs.Rule.{Entry, times, AllPosted}

pub of_poster-append : (p : ℕ) (xs ys : List Msg) → of_poster p (xs ++ ys) ≡ of_poster p xs ++ of_poster p ys
of_poster-append p xs ys = filter-append (λ (m : Msg). nat_eq m.poster p) xs ys

-- a message joins its poster's
pub mine_more : (whole : List Msg) (x : Msg) → of_poster x.poster (whole ++ x ∷ []) ≡ of_poster x.poster whole ++ x ∷ []
mine_more whole x = of_poster-append x.poster whole (x ∷ []) ∙ rw (same_number x.poster) refl

-- and leaves another's
pub others_more : (whole : List Msg) (x : Msg) (p : ℕ) → x.poster ≢ p → of_poster p (whole ++ x ∷ []) ≡ of_poster p whole
others_more whole x p apart = of_poster-append p whole (x ∷ []) ∙ rw (ne_eqb x.poster p apart) (nil (of_poster p whole))

pub numbered-snoc : (p n : ℕ) (posts : List Post) (what : Post) → numbered p n (posts ++ what ∷ []) ≡ numbered p n posts ++ record { poster = p; seq = n + length posts; what = what } ∷ []
numbered-snoc p n [] what = let e : n + 0 ≡ n = omega arith in rw e refl
numbered-snoc p n (post ∷ posts) what =
    let one : Msg = record { poster = p; seq = n; what = post } in
    let e : (n + 1) + length posts ≡ n + length (post ∷ posts) = omega arith in
    ap (λ ms. one ∷ ms) (numbered-snoc p (n + 1) posts what) ∙ ap (λ (k : ℕ). one ∷ (numbered p (n + 1) posts ++ record { poster = p; seq = k; what = what } ∷ [])) e

-- an accepted post is the poster's next message
pub posted_more : (whole : List Msg) (p : ℕ) (posts : List Post) (what : Post) → HasPosted whole p posts → HasPosted (whole ++ record { poster = p; seq = length posts; what = what } ∷ []) p (posts ++ what ∷ [])
posted_more whole p posts what h =
    let x : Msg = record { poster = p; seq = length posts; what = what } in
    let start : 0 + length posts ≡ length posts = omega arith in
    let last : numbered p 0 (posts ++ what ∷ []) ≡ numbered p 0 posts ++ x ∷ [] =
    numbered-snoc p 0 posts what ∙ ap (λ (k : ℕ). numbered p 0 posts ++ record { poster = p; seq = k; what = what } ∷ []) start in
    mine_more whole x ∙ ap (λ ms. ms ++ x ∷ []) h ∙ sym last

-- and leaves the lists that have not its number
pub all_posted_more : (whole : List Msg) (x : Msg) (es : List Entry) → times x.poster es ≡ 0 → AllPosted whole es → AllPosted (whole ++ x ∷ []) es
all_posted_more whole x [] none h = tt
all_posted_more whole x (e ∷ es) none h = (one_posted (nat_eq e.0 x.poster) refl, all_posted_more whole x es (omega arith) h.1)
  where
    one_posted : (b : Bool) → nat_eq e.0 x.poster ≡ b → HasPosted (whole ++ x ∷ []) e.0 e.1
    one_posted true is = let counted : times x.poster (e ∷ es) ≡ 1 + times x.poster es = rw is refl in absurd (omega arith)
    one_posted false is = let apart : x.poster ≢ e.0 = λ k. grind (arith, nat_tests) in others_more whole x e.0 apart ∙ h.0

pub all_posted-append : (whole : List Msg) (es fs : List Entry) → AllPosted whole es → AllPosted whole fs → AllPosted whole (es ++ fs)
all_posted-append whole [] fs h k = k
all_posted-append whole (e ∷ es) fs h k = (h.0, all_posted-append whole es fs h.1 k)

pub times-append : (p : ℕ) (es fs : List Entry) → times p (es ++ fs) ≡ times p es + times p fs
times-append p [] fs = omega arith
times-append p (e ∷ es) fs = let h = times-append p es fs in omega arith
