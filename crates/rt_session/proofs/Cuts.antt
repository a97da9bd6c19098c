-- Drains whose messages, with others behind them, are a merge of the posts: they hold fronts, and can be lengthened to a cut.
use Rattle.std.proofs.Common.{◌≡◌, ℕ, ◌+◌, ◌<◌, ◌≤◌, Bool, true, false, List, [], ◌∷◌, ◌++◌, map, length, refl, sym, ap, ◌∙◌, subst, append_assoc, nat_eq, arith}
use Rattle.std.proofs.lemmas.List.{map-append}
use Rattle.std.specs.List.{AllByRecursion}
use Rattle.std.specs.Prelude.{if◌then◌else◌, Option, Some}
pub use Rattle.law_moves.proofs.Sessions.{joined_more as joined-one}
use Rattle.rt_inbox.specs.Merge as inbox
use Rattle.rt_inbox.specs.declared.message.Msg.{Msg}
use Rattle.rt_inbox.specs.declared.message.Post.{Post}
use Rattle.rt_model.specs.Causes.{Limits, IsValid}
use Rattle.rt_model.specs.Lists.{joined, kept_by, nth}
use Rattle.rt_model.specs.Merge.{of_poster, IsPosted, IsMerge, IsPostedSoFar, HasFronts, AreSized, IsCut, drained, ValidOverCuts}
use Rattle.rt_model.specs.Replay as replay
use Rattle.rt_model.specs.Tree.{Types}
use Rattle.rt_model.specs.World.{Application}
use Rattle.run_reports.specs.Seen.{message_of, post_of}
use Rattle.rt_session.specs.Posted.{drains_of, lists_of}
use Rattle.rt_session.proofs.Agreeing.{merges_agree}

-- lists

kept_one : {A : Type 0} (b : Bool) (x : A) (all front back : List A) → all ≡ front ++ back
    → (if b then x ∷ all else all) ≡ (if b then x ∷ front else front) ++ back
kept_one true x all front back same = ap (λ l. x ∷ l) same
kept_one false x all front back same = same

kept-append : {A : Type 0} (test : A → Bool) (xs ys : List A) → kept_by test (xs ++ ys) ≡ kept_by test xs ++ kept_by test ys
kept-append test [] ys = refl
kept-append test (x ∷ xs) ys =
    kept_one (test x) x (kept_by test (xs ++ ys)) (kept_by test xs) (kept_by test ys) (kept-append test xs ys)

all_front : {A : Type 0} (F : A → Type 0) (xs ys : List A) → AllByRecursion F (xs ++ ys) → AllByRecursion F xs
all_front F [] ys h = tt
all_front F (x ∷ xs) ys h = (h.0, all_front F xs ys h.1)

pub all_both : {A : Type 0} (F : A → Type 0) (xs ys : List A) → AllByRecursion F xs → AllByRecursion F ys → AllByRecursion F (xs ++ ys)
all_both F [] ys h k = k
all_both F (x ∷ xs) ys h k = (h.0, all_both F xs ys h.1 k)

pub joined-append : {A : Type 0} (xss yss : List (List A)) → joined (xss ++ yss) ≡ joined xss ++ joined yss
joined-append [] yss = refl
joined-append (xs ∷ xss) yss = ap (λ l. xs ++ l) (joined-append xss yss) ∙ sym (append_assoc xs (joined xss) (joined yss))

pub joined-map : {A B : Type 0} (f : A → B) (xss : List (List A)) → map f (joined xss) ≡ joined (map (map f) xss)
joined-map f [] = refl
joined-map f (xs ∷ xss) = map-append f xs (joined xss) ∙ ap (λ l. map f xs ++ l) (joined-map f xss)

-- each message a drain of its own
abbrev pub singles : List replay.Message → List (List replay.Message)
singles [] = []
singles (m ∷ ms) = (m ∷ []) ∷ singles ms

joined-singles : (ms : List replay.Message) → joined (singles ms) ≡ ms
joined-singles [] = refl
joined-singles (m ∷ ms) = ap (λ l. m ∷ l) (joined-singles ms)

singles_sized : (most : ℕ) (ms : List replay.Message) → 1 ≤ most → AreSized most (singles ms)
singles_sized most [] some = tt
singles_sized most (m ∷ ms) some = ((omega arith, omega (arith, some)), singles_sized most ms some)

pub drained-append : {K : Types} (ds es : List (List replay.Message)) → drained {K = K} (ds ++ es) ≡ drained ds ++ drained es
drained-append [] es = refl
drained-append (d ∷ ds) es = ap (λ l. replay.Drain d ∷ l) (drained-append ds es)

-- one drain more, whatever follows
pub drained-one : {K : Types} (ds : List (List replay.Message)) (d : List replay.Message) (more : List (replay.Input K))
    → drained (ds ++ d ∷ []) ++ more ≡ drained ds ++ replay.Drain d ∷ more
drained-one ds d more = ap (λ l. l ++ more) (drained-append ds (d ∷ [])) ∙ append_assoc (drained ds) (replay.Drain d ∷ []) more

-- merges

-- posts that count up, up to some message
so_far : (n : ℕ) (xs ys : List replay.Message) (list : List replay.Post) → IsPosted n (xs ++ ys) list → IsPostedSoFar n xs list
so_far n [] ys list h = tt
so_far n (m ∷ xs) ys [] h = absurd h
so_far n (m ∷ xs) ys (p ∷ list) h = (h.0, h.1, so_far (n + 1) xs ys list h.2)

fronts : (ds : List (List replay.Message)) (rest : List replay.Message) (lists : List (List replay.Post))
    → IsMerge (joined ds ++ rest) lists → HasFronts ds lists
fronts ds rest lists merge =
    record {
      each = λ p list found.
          so_far 0 (of_poster p (joined ds)) (of_poster p rest) list
          (subst (λ ms. IsPosted 0 ms list) (kept-append (λ (m : replay.Message). nat_eq m.poster p) (joined ds) rest) (merge.each p list found));
      no_other = all_front (λ (m : replay.Message). m.poster < length lists) (joined ds) rest merge.no_other;
    }

-- with what is left one by one it is a cut
cut : (ds : List (List replay.Message)) (rest : List replay.Message) (lists : List (List replay.Post)) (most : ℕ)
    → IsMerge (joined ds ++ rest) lists → AreSized most ds → 1 ≤ most → IsCut lists most (ds ++ singles rest)
cut ds rest lists most merge sized some =
    record {
      merged =
          subst (λ ms. IsMerge ms lists) (sym (joined-append ds (singles rest) ∙ ap (λ l. joined ds ++ l) (joined-singles rest))) merge;
      sized = all_both (λ (d : List replay.Message). (1 ≤ length d) × (length d ≤ most)) ds (singles rest) sized (singles_sized most rest some);
    }

-- code's messages

same_messages : (drains : List (List Msg)) (rest : List Msg) → map message_of (joined drains ++ rest) ≡ joined (drains_of drains) ++ map message_of rest
same_messages drains rest = map-append message_of (joined drains) rest ∙ ap (λ l. l ++ map message_of rest) (joined-map message_of drains)

merge_of : (drains : List (List Msg)) (rest : List Msg) (posts : List (List Post)) → inbox.IsMerge (joined drains ++ rest) posts
    → IsMerge (joined (drains_of drains) ++ map message_of rest) (lists_of posts)
merge_of drains rest posts merge =
    subst (λ ms. IsMerge ms (lists_of posts)) (same_messages drains rest) (merges_agree (joined drains ++ rest) posts merge)

-- they hold of each poster a front
pub fronts_of : (drains : List (List Msg)) (rest : List Msg) (posts : List (List Post)) → inbox.IsMerge (joined drains ++ rest) posts
    → HasFronts (drains_of drains) (lists_of posts)
fronts_of drains rest posts merge = fronts (drains_of drains) (map message_of rest) (lists_of posts) (merge_of drains rest posts merge)

-- where nothing is left they are a cut
pub cut_of : (drains : List (List Msg)) (posts : List (List Post)) (most : ℕ) → inbox.IsMerge (joined drains) posts
    → AreSized most (drains_of drains) → IsCut (lists_of posts) most (drains_of drains)
cut_of drains posts most merge sized =
    record {
      merged = subst (λ ms. IsMerge ms (lists_of posts)) (joined-map message_of drains) (merges_agree (joined drains) posts merge);
      sized = sized;
    }

-- where each cut is valid, the inputs of a cut that goes on from them are
pub valid_of : {K : Types} (app : Application K) (props : K.Props) (limits : Limits) (drains : List (List Msg)) (rest : List Msg) (posts : List (List Post))
    → ValidOverCuts app props (lists_of posts) limits → inbox.IsMerge (joined drains ++ rest) posts → AreSized limits.drain (drains_of drains)
    → 1 ≤ limits.drain → IsValid app props (drained (drains_of drains) ++ drained (singles (map message_of rest))) limits
valid_of app props limits drains rest posts valid merge sized some =
    subst (λ inputs. IsValid app props inputs limits) (drained-append (drains_of drains) (singles (map message_of rest)))
    (valid (drains_of drains ++ singles (map message_of rest))
    (cut (drains_of drains) (map message_of rest) (lists_of posts) limits.drain (merge_of drains rest posts merge) sized some))
