-- Each step keeps the rule.
use Rattle.std.proofs.Common.{◌≡◌, ◌≢◌, ℕ, zero, suc, ◌+◌, ◌≤◌, ◌<◌, List, [], ◌∷◌, ◌++◌, length, set, refl, sym, ap, ◌∙◌, subst, ⊎_elim, append_assoc, arith}
use Rattle.std.proofs.lemmas.Bool.{cases_lt, ne_eqb}
use mathlib.Core.Option.{some, some-injective, some-ne-none}
use lib.ListN.{get_elem?}
use Rattle.crossbeam_queue.specs.Fifo.{Pushes, Pops, Forks, Merges, Learns}
use Rattle.crossbeam_queue.proofs.Lists.{at_set}
use Rattle.rt_inbox.specs.declared.message.Post.{Post}
use Rattle.rt_inbox.specs.declared.message.Msg.{Msg}
use Rattle.rt_inbox.specs.declared.view.View.{View}
use Rattle.rt_inbox.specs.declared.view.View.TheVariants.{Posting, Owning, Spent}
use Rattle.rt_inbox.specs.Merge.{of_poster, HasPosted}
use Rattle.rt_inbox.specs.Rule.{Entry, entries, has, owners, total, AllPosted, IsOwned, Delivers, WasAt, Owns, Posts, taken_in, made_in, number_in, posts_in, message_of, with_post, with_taken, with_poster, next_poster, with_joined}
use Rattle.rt_inbox.proofs.Totals.{total-set, total-snoc, total-one, total-two, views-set, views-snoc}
use Rattle.rt_inbox.proofs.Posted.{same_number, others_more, posted_more, all_posted_more}

-- what is at the place of a view that was set
set_there : (views : List View) (i : ℕ) (v w : View) → get_elem? views i ≡ some v → get_elem? (set views i w) i ≡ some w
set_there [] i v w e = absurd (some-ne-none v (sym e))
set_there (x ∷ xs) zero v w e = refl
set_there (x ∷ xs) (suc i) v w e = set_there xs i v w e

-- what holds of each of one view
first : (F : View → Type 0) (v : View) → F v → (j : ℕ) (u : View) → get_elem? (v ∷ []) j ≡ some u → F u
first F v mine zero u e = subst F (some-injective v u e) mine
first F v mine (suc j) u e = absurd (some-ne-none u (sym e))

has_itself : (number : ℕ) (posts : List Post) → has number (Posting number posts) ≡ 1
has_itself number posts = rw (same_number number) refl

-- a poster's number is one of those made
below_made : (items : List Msg) (views : List View) (pass number : ℕ) (posts : List Post) (h : Delivers items views) → get_elem? views pass ≡ some (Posting number posts) → number < h.made
below_made items views pass number posts h at = ⊎_elim (λ (below : number < h.made). below)
    (λ (above : h.made ≤ number).
    let one = total-one (has number) views pass (Posting number posts) at in
    let none = h.no_more number above in
    let itself = has_itself number posts in
    absurd (omega arith))
    (cases_lt number h.made)

-- and no other view has it
not_theirs : (items : List Msg) (views : List View) (pass number : ℕ) (posts : List Post) (h : Delivers items views) → get_elem? views pass ≡ some (Posting number posts) → (j : ℕ) (u : View) → j ≢ pass → get_elem? views j ≡ some u → has number u ≡ 0
not_theirs items views pass number posts h at j u apart e =
    let two = total-two (has number) views pass j (Posting number posts) u at e apart in
    let once = h.once number (below_made items views pass number posts h at) in
    let itself = has_itself number posts in
    omega arith

pub pushes : (n pass number : ℕ) (posts : List Post) (what : Post) → Pushes Delivers n pass (Posting number posts) (record { poster = number; seq = length posts; what = what }) (λ w. w ≡ Posting number (posts ++ what ∷ []))
pushes n pass number posts what items views room h at =
    let x : Msg = record { poster = number; seq = length posts; what = what } in
    let v : View = Posting number posts in
    let w : View = Posting number (posts ++ what ∷ []) in
    let below = below_made items views pass number posts h at in
    let whole = h.taken ++ items in
    let more : whole ++ x ∷ [] ≡ h.taken ++ (items ++ x ∷ []) = append_assoc h.taken items (x ∷ []) in
    let kept : Delivers (items ++ x ∷ []) (set views pass w) = record {
      taken = h.taken;
      made = h.made;
      one_owner = let s = total-set owners views pass v w at in let o = h.one_owner in omega arith;
      owned = views-set (IsOwned h.taken h.made) views pass w tt (λ j u apart e. h.owned j u e);
      once = λ p lt. let s = total-set (has p) views pass v w at in let o = h.once p lt in omega arith;
      no_more = λ p le. let s = total-set (has p) views pass v w at in let o = h.no_more p le in omega arith;
      merged = views-set (λ u. AllPosted (h.taken ++ (items ++ x ∷ [])) (entries u)) views pass w
          (subst (λ ms. HasPosted ms number (posts ++ what ∷ [])) more (posted_more whole number posts what (h.merged pass v at).0), tt)
          (λ j u apart e. subst (λ ms. AllPosted ms (entries u)) more (all_posted_more whole x (entries u) (not_theirs items views pass number posts h at j u apart e) (h.merged j u e)));
      no_other = λ p le. let differs : number ≢ p = λ k. absurd (omega arith) in
          ap (of_poster p) (sym more) ∙ others_more whole x p differs ∙ h.no_other p le;
    } in
    (w, kept, refl)

-- what a view says stays where the messages in all do, but for the owner's list
still_owned : (taken got : List Msg) (made made' : ℕ) (u : View) → owners u ≡ 0 → IsOwned got made' u
still_owned taken got made made' (Posting number posts) none = tt
still_owned taken got made made' (Owning t m joined) none = absurd (omega arith)
still_owned taken got made made' Spent none = tt

-- no other view is the owner's
not_owner : (items : List Msg) (views : List View) (pass : ℕ) (v : View) (h : Delivers items views) → get_elem? views pass ≡ some v → owners v ≡ 1 → (j : ℕ) (u : View) → j ≢ pass → get_elem? views j ≡ some u → owners u ≡ 0
not_owner items views pass v h at is j u apart e =
    let two = total-two owners views pass j v u at e apart in
    let one = h.one_owner in
    omega arith

pub pops : (pass made : ℕ) (taken : List Msg) (joined : List Entry) → Pops Delivers pass (Owning taken made joined) (λ x w. (w ≡ Owning (taken ++ x ∷ []) made joined) × ((items : List Msg) × WasAt items w))
pops pass made taken joined x items views h at =
    let v : View = Owning taken made joined in
    let w : View = Owning (taken ++ x ∷ []) made joined in
    let mine = h.owned pass v at in
    let got = h.taken ++ x ∷ [] in
    let same : h.taken ++ (x ∷ items) ≡ got ++ items = sym (append_assoc h.taken (x ∷ []) items) in
    let kept : Delivers items (set views pass w) = record {
      taken = got;
      made = h.made;
      one_owner = let s = total-set owners views pass v w at in let o = h.one_owner in omega arith;
      owned = views-set (IsOwned got h.made) views pass w (ap (λ ms. ms ++ x ∷ []) mine.0, mine.1)
          (λ j u apart e. still_owned h.taken got h.made h.made u (not_owner (x ∷ items) views pass v h at refl j u apart e));
      once = λ p lt. let s = total-set (has p) views pass v w at in let o = h.once p lt in omega arith;
      no_more = λ p le. let s = total-set (has p) views pass v w at in let o = h.no_more p le in omega arith;
      merged = views-set (λ u. AllPosted (got ++ items) (entries u)) views pass w
          (subst (λ ms. AllPosted ms joined) same (h.merged pass v at))
          (λ j u apart e. subst (λ ms. AllPosted ms (entries u)) same (h.merged j u e));
      no_other = λ p le. ap (of_poster p) (sym same) ∙ h.no_other p le;
    } in
    (w, kept, (refl, (items, (pass, set views pass w, kept, set_there views pass v w at))))

pub finds_none : (pass : ℕ) (v : View) → Learns Delivers pass v (λ items. WasAt items v)
finds_none pass v items views h at = (pass, views, h, at)

pub forks : (pass made : ℕ) (taken : List Msg) (joined : List Entry) → Forks Delivers pass (Owning taken made joined) (Owning taken (made + 1) joined) (Posting made [])
forks pass made taken joined items views h at =
    let v : View = Owning taken made joined in
    let l : View = Owning taken (made + 1) joined in
    let r : View = Posting made [] in
    let mine = h.owned pass v at in
    let whole = h.taken ++ items in
    let count : (p : ℕ) → total (has p) (set views pass l ++ r ∷ []) ≡ total (has p) views + has p r = λ p.
    let s = total-set (has p) views pass v l at in let t = total-snoc (has p) (set views pass l) r in omega arith in
    record {
      taken = h.taken;
      made = h.made + 1;
      one_owner = let s = total-set owners views pass v l at in let t = total-snoc owners (set views pass l) r in let o = h.one_owner in omega arith;
      owned = views-snoc (IsOwned h.taken (h.made + 1)) (set views pass l) r tt
          (views-set (IsOwned h.taken (h.made + 1)) views pass l (mine.0, ap (λ k. k + 1) mine.1)
          (λ j u apart e. still_owned h.taken h.taken h.made (h.made + 1) u (not_owner items views pass v h at refl j u apart e)));
      once = λ p lt. let c = count p in ⊎_elim (λ (below : p < h.made). let o = h.once p below in let differs : made ≢ p = λ k. absurd (omega (arith, mine.1)) in
          let none : has p r ≡ 0 = rw (ne_eqb made p differs) refl in omega arith)
          (λ (above : h.made ≤ p). let o = h.no_more p above in let is : p ≡ made = omega (arith, mine.1) in
          let one : has p r ≡ 1 = subst (λ (k : ℕ). has k r ≡ 1) (sym is) (has_itself made []) in omega arith) (cases_lt p h.made);
      no_more = λ p le. let c = count p in let o = h.no_more p (omega arith) in let differs : made ≢ p = λ k. absurd (omega (arith, mine.1)) in
          let none : has p r ≡ 0 = rw (ne_eqb made p differs) refl in omega arith;
      merged = views-snoc (λ u. AllPosted whole (entries u)) (set views pass l) r
          (h.no_other made (omega (arith, mine.1)), tt)
          (views-set (λ u. AllPosted whole (entries u)) views pass l (h.merged pass v at) (λ j u apart e. h.merged j u e));
      no_other = λ p le. h.no_other p (omega arith);
    }

pub merges : (pass made : ℕ) (taken : List Msg) (joined : List Entry) (other number : ℕ) (posts : List Post)
    → Merges Delivers pass (Owning taken made joined) other (Posting number posts) (Owning taken made ((number, posts) ∷ joined)) Spent
merges pass made taken joined other number posts items views h at two at' =
    let v : View = Owning taken made joined in
    let w : View = Owning taken made ((number, posts) ∷ joined) in
    let u : View = Posting number posts in
    let mine = h.owned pass v at in
    let whole = h.taken ++ items in
    let vs : List View = set views pass w in
    let was : get_elem? views other ≡ some u = ⊎_elim (λ x. absurd (two x.0)) (λ x. x.1) (at_set views pass other w u at') in
    let count : (p : ℕ) → total (has p) (set vs other Spent) ≡ total (has p) views = λ p.
    let s = total-set (has p) views pass v w at in let t = total-set (has p) vs other u Spent at' in omega arith in
    record {
      taken = h.taken;
      made = h.made;
      one_owner = let s = total-set owners views pass v w at in let t = total-set owners vs other u Spent at' in let o = h.one_owner in omega arith;
      owned = views-set (IsOwned h.taken h.made) vs other Spent tt
          (λ j y apart e. views-set (IsOwned h.taken h.made) views pass w mine (λ i z differs d. h.owned i z d) j y e);
      once = λ p lt. let c = count p in let o = h.once p lt in omega arith;
      no_more = λ p le. let c = count p in let o = h.no_more p le in omega arith;
      merged = views-set (λ z. AllPosted whole (entries z)) vs other Spent tt
          (λ j y apart e. views-set (λ z. AllPosted whole (entries z)) views pass w ((h.merged other u was).0, h.merged pass v at) (λ i z differs d. h.merged i z d) j y e);
      no_other = h.no_other;
    }

pub begins : Delivers [] (Owning [] 0 [] ∷ [])
begins = record {
  taken = [];
  made = 0;
  one_owner = refl;
  owned = λ j u e. first (IsOwned [] 0) (Owning [] 0 []) (refl, refl) j u e;
  once = λ p lt. absurd (omega arith);
  no_more = λ p le. refl;
  merged = λ j u e. first (λ v. AllPosted [] (entries v)) (Owning [] 0 []) tt j u e;
  no_other = λ p le. refl;
}

-- The same, at a view that is known to be the owner's or a poster's.
pub forks_at : (pass : ℕ) (v : View) → Owns v → Forks Delivers pass v (with_poster v) (next_poster v)
forks_at pass v is = subst (λ u. Forks Delivers pass u (with_poster u) (next_poster u)) (sym is) (forks pass (made_in v) (taken_in v) (entries v))

pub merges_at : (pass : ℕ) (v : View) (other : ℕ) (u : View) → Owns v → Posts u → Merges Delivers pass v other u (with_joined v u) Spent
merges_at pass v other u is it = subst (λ y. Merges Delivers pass v other y (with_joined v y) Spent) (sym it)
    (subst (λ z. Merges Delivers pass z other (Posting (number_in u) (posts_in u)) (with_joined z (Posting (number_in u) (posts_in u))) Spent) (sym is)
    (merges pass (made_in v) (taken_in v) (entries v) other (number_in u) (posts_in u)))

pub pushes_at : (n pass : ℕ) (v : View) (x : Msg) → Posts v → x ≡ message_of v x.what → Pushes Delivers n pass v x (λ w. w ≡ with_post x.what v)
pushes_at n pass v x is next = subst (λ y. Pushes Delivers n pass v y (λ w. w ≡ with_post x.what v)) (sym next)
    (subst (λ z. Pushes Delivers n pass z (message_of z x.what) (λ w. w ≡ with_post x.what z)) (sym is) (pushes n pass (number_in v) (posts_in v) x.what))

pub pops_at : (pass : ℕ) (v : View) → Owns v → Pops Delivers pass v (λ x w. (w ≡ with_taken x v) × ((items : List Msg) × WasAt items w))
pops_at pass v is = subst (λ z. Pops Delivers pass z (λ x w. (w ≡ with_taken x z) × ((items : List Msg) × WasAt items w))) (sym is) (pops pass (made_in v) (taken_in v) (entries v))
