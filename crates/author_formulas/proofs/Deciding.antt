-- The answer of a program that only looks is decided by the values of what it looked at.
use Rattle.std.proofs.Common.{ℕ, Bool, true, false, List, [], ◌∷◌, ◌+◌, ◌≡◌, refl, ap, sym, subst, ◌∙◌, nat_lt}
use Rattle.std.specs.Prelude.{Option, Some, None, if◌then◌else◌, length}
use Rattle.rt_lemmas.proofs.Numbers.{lt_true as tested_low}
use Rattle.rt_model.specs.Lists.{at}
use Rattle.rt_model.specs.Laws.{SameAt, Agree}
use Rattle.rt_model.specs.Program.{Program, done, current_scope, read, consume_context, has_context, Call, Found, noted, noted_at, value_in, own_context, found_at, no_further, look_up, look_here}
use Rattle.rt_model.specs.Tree.{Types}
use Rattle.rt_model.specs.World.{Source, Cell, Context, World}
use Rattle.author_programs.specs.Came.{came}
use Rattle.author_programs.specs.Reads.{read_value, read_call}
use Rattle.author_formulas.specs.Looking.{Looks, all_noted, own_way, MadeNothing, StandAlike, LookingDecides}
use Rattle.author_formulas.proofs.Looking.{along, goes_along, up_notes, here_notes}

module _ {K : Types} (v w : World K) where
  -- the two worlds agree on what was looked at so far
  abbrev Agreed : Call K → Type 0
  Agreed c = Agree v w c.aside

  -- who agree on what was looked at after one more read agree on it before, and on that source
  agreed_before : (c : Call K) (x : Source) → MadeNothing v c → Agreed (noted c x) → Agreed c × SameAt v w x
  agreed_before c x u h = by c.into c.in_body u.outside h
    where
      by : (into : List ℕ) (body : Bool) → body ≡ false → Agreed (noted_at c x into body) → Agreed c × SameAt v w x
      by [] true e h = let absurdity : true ≡ false = e in cc
      by [] false e h = (h.1, h.0)
      by (n ∷ ns) body e h = (h.1, h.0)

  -- a read makes and provides nothing
  one_makes_nothing : (c : Call K) (x : Source) → MadeNothing v c → MadeNothing v (noted c x)
  one_makes_nothing c x u = by c.into c.in_body u
    where
      by : (into : List ℕ) (body : Bool) → MadeNothing v c → MadeNothing v (noted_at c x into body)
      by [] true u = record { outside = u.outside; cells = u.cells; provided = u.provided; next = u.next }
      by [] false u = record { outside = u.outside; cells = u.cells; provided = u.provided; next = u.next }
      by (n ∷ ns) body u = record { outside = u.outside; cells = u.cells; provided = u.provided; next = u.next }

  -- nor do several
  all_make_nothing : (xs : List Source) (c : Call K) → MadeNothing v c → MadeNothing v (all_noted c xs)
  all_make_nothing [] c u = u
  all_make_nothing (x ∷ xs) c u = all_make_nothing xs (noted c x) (one_makes_nothing c x u)

  -- so nor does what leaves nothing but noted reads
  pub noted_make_nothing : (c d : Call K) → MadeNothing v c → ((xs : List Source) × (d ≡ all_noted c xs)) → MadeNothing v d
  noted_make_nothing c d u h = subst (λ (e : Call K). MadeNothing v e) (sym h.1) (all_make_nothing h.0 c u)

  -- a look-up in a call makes nothing, and who agree on what was looked at after it agree on what was before
  record Goes (c : Call K) (f : Found K) : Type 0 where
    makes_nothing : MadeNothing v f.call
    agreed : Agreed f.call → Agreed c

  -- so does one scope on the way, where what follows does
  here_goes : (k s : ℕ) (c : Call K) (f : Call K → Found K) (p : Option K.Value) → MadeNothing v c → ((d : Call K) → MadeNothing v d → Goes d (f d))
      → Goes c (found_at v k s c f None p)
  here_goes k s c f (Some x) u h =
      record { makes_nothing = one_makes_nothing c (Context k s) u; agreed = λ g. (agreed_before c (Context k s) u g).0 }
  here_goes k s c f None u h =
      let d : Call K = noted c (Context k s) in
      let r = h d (one_makes_nothing c (Context k s) u) in
      record { makes_nothing = r.makes_nothing; agreed = λ g. (agreed_before c (Context k s) u (r.agreed g)).0 }

  -- a call that has provided nothing finds nothing of its own at a scope
  not_own : (u : World K) (k s : ℕ) (c : Call K) (f : Call K → Found K) (p : Option K.Value) → c.provided ≡ [] → found_at u k s c f (own_context c.provided k s) p ≡ found_at u k s c f None p
  not_own u k s c f p e = ap (λ (given : List (ℕ × ℕ × K.Value)). found_at u k s c f (own_context given k s) p) e

  -- so does a look-up along a list of scopes
  along_goes : (k : ℕ) (ss : List ℕ) (c : Call K) → MadeNothing v c → Goes c (along v k ss c)
  along_goes k [] c u = record { makes_nothing = u; agreed = λ g. g }
  along_goes k (s ∷ ss) c u =
      subst (λ (f : Found K). Goes c f) (sym (not_own v k s c (λ d. along v k ss d) (v.values.context k s) u.provided))
      (here_goes k s c (λ d. along v k ss d) (v.values.context k s) u (λ d h. along_goes k ss d h))

  -- at one scope on the way both worlds find the same, where they do from there on
  here_same : (k s : ℕ) (c d : Call K) (f g : Call K → Found K) (p q : Option K.Value) → MadeNothing v c → MadeNothing v d
      → ((e : Call K) → MadeNothing v e → Goes e (f e))
      → ((a b : Call K) → MadeNothing v a → MadeNothing v b → Agreed (f a).call → (f a).value ≡ (g b).value)
      → (SameAt v w (Context k s) → p ≡ q)
      → Agreed (found_at v k s c f None p).call
      → (found_at v k s c f None p).value ≡ (found_at w k s d g None q).value
  here_same k s c d f g (Some x) q u t goes same values h =
      ap (λ (z : Option K.Value). (found_at w k s d g None z).value) (values (agreed_before c (Context k s) u h).1)
  here_same k s c d f g None q u t goes same values h =
      let a : Call K = noted c (Context k s) in
      let agreed = (goes a (one_makes_nothing c (Context k s) u)).agreed h in
      same a (noted d (Context k s)) (one_makes_nothing c (Context k s) u) (one_makes_nothing d (Context k s) t) h
      ∙ ap (λ (z : Option K.Value). (found_at w k s d g None z).value) (values (agreed_before c (Context k s) u agreed).1)

  -- and so they do along a list of scopes
  along_same : (k : ℕ) (ss : List ℕ) (c d : Call K) → MadeNothing v c → MadeNothing v d → Agreed (along v k ss c).call → (along v k ss c).value ≡ (along w k ss d).value
  along_same k [] c d u t h = refl
  along_same k (s ∷ ss) c d u t h =
      let f : Call K → Found K = λ e. along v k ss e in
      let g : Call K → Found K = λ e. along w k ss e in
      let left = not_own v k s c f (v.values.context k s) u.provided in
      ap (λ (x : Found K). x.value) left
      ∙ here_same k s c d f g (v.values.context k s) (w.values.context k s) u t (λ e x. along_goes k ss e x) (λ a b x y z. along_same k ss a b x y z) (λ e. e)
      (subst (λ (x : Found K). Agreed x.call) left h)
      ∙ sym (ap (λ (x : Found K). x.value) (not_own w k s d g (w.values.context k s) t.provided))

  module _ (alike : StandAlike v w) where
    -- and one from the calling scope upwards
    up_goes : (k : ℕ) (c : Call K) → MadeNothing v c → Goes c (look_up v None k c)
    up_goes k c u =
        subst (λ (f : Found K). Goes c f) (sym (goes_along v k (length v.given.parents + 1) v.given.scope c)) (along_goes k (own_way v.given) c u)

    -- from the calling scope upwards both worlds find the same
    up_same : (k : ℕ) (c d : Call K) → MadeNothing v c → MadeNothing v d → Agreed (look_up v None k c).call → (look_up v None k c).value ≡ (look_up w None k d).value
    up_same k c d u t h =
        let left = goes_along v k (length v.given.parents + 1) v.given.scope c in
        let right = goes_along w k (length w.given.parents + 1) w.given.scope d in
        ap (λ (x : Found K). x.value) left
        ∙ along_same k (own_way v.given) c d u t (subst (λ (x : Found K). Agreed x.call) left h)
        ∙ ap (λ (ss : List ℕ). (along w k ss d).value) alike.way
        ∙ sym (ap (λ (x : Found K). x.value) right)

    -- nothing follows a look-up in the calling scope alone
    only_goes : (d : Call K) → MadeNothing v d → Goes d (no_further d)
    only_goes d u = record { makes_nothing = u; agreed = λ g. g }

    look_goes : (k : ℕ) (c : Call K) → MadeNothing v c → Goes c (look_here v k c)
    look_goes k c u =
        let s : ℕ = v.given.scope in
        subst (λ (f : Found K). Goes c f) (sym (not_own v k s c no_further (v.values.context k s) u.provided))
        (here_goes k s c no_further (v.values.context k s) u only_goes)

    -- in the calling scope alone both worlds find the same
    look_same : (k : ℕ) (c d : Call K) → MadeNothing v c → MadeNothing v d → Agreed (look_here v k c).call → (look_here v k c).value ≡ (look_here w k d).value
    look_same k c d u t h =
        let s : ℕ = v.given.scope in
        let left = not_own v k s c no_further (v.values.context k s) u.provided in
        ap (λ (x : Found K). x.value) left
        ∙ here_same k s c d no_further no_further (v.values.context k s) (w.values.context k s) u t only_goes (λ a b x y z. refl) (λ e. e)
        (subst (λ (x : Found K). Agreed x.call) left h)
        ∙ sym (ap (λ (x : Found K). x.value) (not_own w k s d no_further (w.values.context k s) t.provided))
        ∙ ap (λ (n : ℕ). (look_at n).value) alike.scope
      where
        look_at : ℕ → Found K
        look_at n = found_at w k n d no_further (own_context d.provided k n) (w.values.context k n)

    -- a read of a cell makes nothing, and who agree after it agreed before
    read_goes : (n : ℕ) (c : Call K) → MadeNothing v c → MadeNothing v (read_call c n) × (Agreed (read_call c n) → Agreed c)
    read_goes n c u = either (nat_lt n c.next.cells)
      where
        either : (b : Bool) → MadeNothing v (if b then noted c (Cell n) else c) × (Agreed (if b then noted c (Cell n) else c) → Agreed c)
        either true = (one_makes_nothing c (Cell n) u, λ g. (agreed_before c (Cell n) u g).0)
        either false = (u, λ g. g)

    -- both worlds answer a read of a cell alike
    read_same : (n : ℕ) (c d : Call K) → MadeNothing v c → MadeNothing v d → Agreed (read_call c n) → read_value v c n ≡ read_value w d n
    read_same n c d u t h =
        ap (λ (m : ℕ). if nat_lt n m then value_in v (at c.cells n) n else None) u.next
        ∙ by_bound (nat_lt n v.given.next.cells) refl
        ∙ sym (ap (λ (m : ℕ). if nat_lt n m then value_in w (at d.cells n) n else None) t.next)
      where
        here : nat_lt n v.given.next.cells ≡ true → v.values.cell n ≡ w.values.cell n
        here q =
            let drawn : nat_lt n c.next.cells ≡ true = ap (λ (m : ℕ). nat_lt n m) u.next ∙ q in
            (agreed_before c (Cell n) u (subst (λ (b : Bool). Agreed (if b then noted c (Cell n) else c)) drawn h)).1 (tested_low n v.given.next.cells q)

        by_bound : (b : Bool) → nat_lt n v.given.next.cells ≡ b
            → (if b then value_in v (at c.cells n) n else None) ≡ (if b then value_in w (at d.cells n) n else None)
        by_bound true q =
            ap (λ (made : List (ℕ × K.Value)). value_in v (at made n) n) u.cells
            ∙ here q
            ∙ sym (ap (λ (made : List (ℕ × K.Value)). value_in w (at made n) n) t.cells)
        by_bound false q = refl

    module _ {A : Type 0} where
      -- who agree on what a program looked at agree on what was looked at before it
      agreed : (p : Program K A) (c : Call K) → Looks p → MadeNothing v c → Agreed (came v p c).call → Agreed c
      unfolding came Looks
      agreed (done a) c l u h = h
      agreed (current_scope f) c l u h = agreed (f v.given.scope) c (l v.given.scope) u h
      agreed (read n f) c l u h =
          let r = read_goes n c u in
          r.1 (agreed (f (read_value v c n)) (read_call c n) (l (read_value v c n)) r.0 h)
      agreed (consume_context None k f) c l u h =
          let r = up_goes k c u in
          r.agreed (agreed (f (look_up v None k c).value) (look_up v None k c).call (l (look_up v None k c).value) r.makes_nothing h)
      agreed (has_context k f) c l u h =
          let r = look_goes k c u in
          r.agreed (agreed (f (look_here v k c).value) (look_here v k c).call (l (look_here v k c).value) r.makes_nothing h)
      agreed _ c l u h = absurd l

      -- and a program that only looks answers both alike
      looks_same : (p : Program K A) (c d : Call K) → Looks p → MadeNothing v c → MadeNothing v d → Agreed (came v p c).call → (came v p c).answer ≡ (came w p d).answer
      unfolding came Looks
      looks_same (done a) c d l u t h = refl
      looks_same (current_scope f) c d l u t h =
          looks_same (f v.given.scope) c d (l v.given.scope) u t h
          ∙ ap (λ (n : ℕ). (came w (f n) d).answer) alike.scope
      looks_same (read n f) c d l u t h =
          let a : Option K.Value = read_value v c n in
          let r = read_goes n c u in
          let o = read_goes n d t in
          looks_same (f a) (read_call c n) (read_call d n) (l a) r.0 o.0 h
          ∙ ap (λ (x : Option K.Value). (came w (f x) (read_call d n)).answer) (read_same n c d u t (agreed (f a) (read_call c n) (l a) r.0 h))
      looks_same (consume_context None k f) c d l u t h =
          let a : Option K.Value = (look_up v None k c).value in
          let r = up_goes k c u in
          let e : Call K = (look_up w None k d).call in
          looks_same (f a) (look_up v None k c).call e (l a) r.makes_nothing (noted_make_nothing d e t (up_notes w k d)) h
          ∙ ap (λ (x : Option K.Value). (came w (f x) e).answer) (up_same k c d u t (agreed (f a) (look_up v None k c).call (l a) r.makes_nothing h))
      looks_same (has_context k f) c d l u t h =
          let a : Option K.Value = (look_here v k c).value in
          let r = look_goes k c u in
          let e : Call K = (look_here w k d).call in
          looks_same (f a) (look_here v k c).call e (l a) r.makes_nothing (noted_make_nothing d e t (here_notes w k d)) h
          ∙ ap (λ (x : Option K.Value). (came w (f x) e).answer) (look_same k c d u t (agreed (f a) (look_here v k c).call (l a) r.makes_nothing h))
      looks_same _ c d l u t h = absurd l

-- worlds that agree on the scopes from the calling one upwards, and on what was looked at, give the same answer
pub looking_decides : (K : Types) (A : Type 0) → LookingDecides K A
looking_decides K A v w p c d l u t alike h = looks_same v w alike p c d l u t h
