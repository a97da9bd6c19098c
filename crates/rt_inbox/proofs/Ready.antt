-- Posters are ready where their ends and their lists are.
use Rattle.std.proofs.Common.{◌≡◌, ℕ, ◌<◌, ◌≤◌, List, [], length, map, get_or, sym, ap, ◌∙◌, subst}
use Rattle.std.specs.List.{All}
use Rattle.rt_inbox.specs.declared.inbox.Inbox.{Inbox}
use Rattle.rt_inbox.specs.declared.message.Post.{Post}
use Rattle.rt_inbox.specs.declared.notifier.Notifier.{Notifier}
use Rattle.rt_inbox.specs.Ends.{IsNotifierOf, posts_of}
use Rattle.rt_inbox.specs.declared.posters.Poster.{Poster}
use Rattle.rt_inbox.specs.Posted.{AllReady, notifier_of, list_of}
use Rattle.std.proofs.lemmas.List.{get_or-map, length-map}

-- an item of a mapped list, and that it is there
at_map : {X Y : Type 0} (f : X → Y) (xs : List X) (ys : List Y) (k : ℕ) (d : X) → map f xs ≡ ys → k < length xs
    → (k < length ys) × (get_or ys k (f d) ≡ f (get_or xs k d))
at_map f xs ys k d is lt =
    (subst (λ n. k < n) (sym (length-map xs f) ∙ ap length is) lt, ap (λ zs. get_or zs k (f d)) (sym is) ∙ get_or-map f xs k d (f d) lt)

-- posters whose ends are an inbox's own and have posted nothing, and whose lists are short enough
pub all_ready : (i : Inbox) (ps : List Poster) (ns : List Notifier) (ls : List (List Post)) → map notifier_of ps ≡ ns → map list_of ps ≡ ls
    → All (IsNotifierOf i) ns → All (λ (n : Notifier). posts_of n ≡ []) ns → All (λ (l : List Post). length l ≤ 1000000) ls → AllReady i ps
all_ready i ps ns ls ends lists own nothing few = λ k d lt.
    let end = at_map notifier_of ps ns k d ends lt in
    let list = at_map list_of ps ls k d lists lt in
    record {
      own = subst (λ n. IsNotifierOf i n) end.1 (own k (notifier_of d) end.0);
      nothing = subst (λ n. posts_of n ≡ []) end.1 (nothing k (notifier_of d) end.0);
      few = subst (λ l. length l ≤ 1000000) list.1 (few k (list_of d) list.0);
    }
