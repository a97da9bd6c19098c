-- What a program that only looks leaves of its call.
use Rattle.std.proofs.Common.{ℕ, zero, suc, Bool, true, false, List, [], ◌∷◌, ◌++◌, ◌+◌, ◌≡◌, refl, ap, ◌∙◌, nat_lt}
use Rattle.std.specs.Prelude.{Option, Some, None, if◌then◌else◌, length}
use Rattle.rt_model.specs.Program.{Program, done, current_scope, read, consume_context, has_context, Call, Found, noted, own_context, found_at, further_up, no_further, looked_up, look_up, look_here, parent_in}
use Rattle.rt_model.specs.Tree.{Types}
use Rattle.rt_model.specs.World.{Source, Cell, Context, World}
use Rattle.author_programs.specs.Came.{came}
use Rattle.author_programs.specs.Sequence.{go_on}
use Rattle.author_programs.specs.Reads.{read_value, read_call}
use Rattle.author_formulas.specs.Looking.{Looks, way_up, all_noted, own_way, LookingReads}

module _ {K : Types} (w : World K) where
  -- the look-up of a kind along a list of scopes
  abbrev pub along : ℕ → List ℕ → Call K → Found K
  along k [] c = no_further c
  along k (s ∷ ss) c = found_at w k s c (λ d. along k ss d) (own_context c.provided k s) (w.values.context k s)

  -- a look-up goes along the scopes on its way up
  pub goes_along : (k n s : ℕ) (c : Call K) → looked_up w k n s c ≡ along k (way_up w.given.parents n s) c
  goes_along k zero s c = refl
  goes_along k (suc n) s c =
      λ i. found_at w k s c (λ d. further k n (parent_in w.given.parents s) (λ p e. goes_along k n p e) d i) (own_context c.provided k s) (w.values.context k s)
    where
      further : (k n : ℕ) (o : Option ℕ) → ((p : ℕ) (d : Call K) → looked_up w k n p d ≡ along k (way_up w.given.parents n p) d) → (d : Call K)
          → further_up (λ p e. looked_up w k n p e) o d ≡ along k (elim o [ None ↦ [] | Some p ↦ way_up w.given.parents n p ]) d
      further k n None h d = refl
      further k n (Some p) h d = h p d

  -- what was noted so far, before more
  pub then_noted : (c : Call K) (x : Source) (d : Call K) → ((xs : List Source) × (d ≡ all_noted (noted c x) xs)) → (xs : List Source) × (d ≡ all_noted c xs)
  then_noted c x d h = (x ∷ h.0, h.1)

  -- where what follows a scope leaves nothing but noted reads, so does the look-up from that scope on
  found_notes : (k s : ℕ) (c : Call K) (f : Call K → Found K) (o p : Option K.Value) → ((d : Call K) → (xs : List Source) × ((f d).call ≡ all_noted d xs))
      → (xs : List Source) × ((found_at w k s c f o p).call ≡ all_noted c xs)
  found_notes k s c f (Some v) p h = ([], refl)
  found_notes k s c f None (Some v) h = (Context k s ∷ [], refl)
  found_notes k s c f None None h = then_noted c (Context k s) (f (noted c (Context k s))).call (h (noted c (Context k s)))

  along_notes : (k : ℕ) (ss : List ℕ) (c : Call K) → (xs : List Source) × ((along k ss c).call ≡ all_noted c xs)
  along_notes k [] c = ([], refl)
  along_notes k (s ∷ ss) c = found_notes k s c (λ d. along k ss d) (own_context c.provided k s) (w.values.context k s) (λ d. along_notes k ss d)

  -- a look-up leaves nothing but noted reads
  pub up_notes : (k : ℕ) (c : Call K) → (xs : List Source) × ((look_up w None k c).call ≡ all_noted c xs)
  up_notes k c =
      let h = along_notes k (own_way w.given) c in
      (h.0, ap (λ (x : Found K). x.call) (goes_along k (length w.given.parents + 1) w.given.scope c) ∙ h.1)

  -- and so does one in the calling scope alone
  pub here_notes : (k : ℕ) (c : Call K) → (xs : List Source) × ((look_here w k c).call ≡ all_noted c xs)
  here_notes k c = found_notes k w.given.scope c no_further (own_context c.provided k w.given.scope) (w.values.context k w.given.scope) (λ d. ([], refl))

  -- so does a read of a cell
  read_notes : (c : Call K) (n : ℕ) → (xs : List Source) × (read_call c n ≡ all_noted c xs)
  read_notes c n = either (nat_lt n c.next.cells)
    where
      either : (b : Bool) → (xs : List Source) × ((if b then noted c (Cell n) else c) ≡ all_noted c xs)
      either true = (Cell n ∷ [], refl)
      either false = ([], refl)

  -- reads that were noted after others are one list of reads
  noted_on : (c : Call K) (xs ys : List Source) → all_noted (all_noted c xs) ys ≡ all_noted c (xs ++ ys)
  noted_on c [] ys = refl
  noted_on c (x ∷ xs) ys = noted_on (noted c x) xs ys

  -- what leaves noted reads, and then what leaves noted reads
  two_notes : (c d e : Call K) → ((xs : List Source) × (d ≡ all_noted c xs)) → ((ys : List Source) × (e ≡ all_noted d ys)) → (xs : List Source) × (e ≡ all_noted c xs)
  two_notes c d e f g = (f.0 ++ g.0, g.1 ∙ ap (λ (x : Call K). all_noted x g.0) f.1 ∙ noted_on c f.0 g.0)

  module _ {A : Type 0} where
    -- so does each program that only looks, by its calls
    looks_read : (p : Program K A) (c : Call K) → Looks p → (xs : List Source) × ((came w p c).call ≡ all_noted c xs)
    unfolding came Looks
    looks_read (done a) c h = ([], refl)
    looks_read (current_scope f) c h = looks_read (f w.given.scope) c (h w.given.scope)
    looks_read (read n f) c h =
        two_notes c (read_call c n) _ (read_notes c n) (looks_read (f (read_value w c n)) (read_call c n) (h (read_value w c n)))
    looks_read (consume_context None k f) c h =
        two_notes c (look_up w None k c).call _ (up_notes k c) (looks_read (f (look_up w None k c).value) (look_up w None k c).call (h (look_up w None k c).value))
    looks_read (has_context k f) c h =
        two_notes c (look_here w k c).call _ (here_notes k c) (looks_read (f (look_here w k c).value) (look_here w k c).call (h (look_here w k c).value))
    looks_read _ c h = absurd h

-- of its call a program that only looks leaves nothing but reads that were noted
pub looking_reads : (K : Types) (A : Type 0) → LookingReads K A
looking_reads K A w p c h = looks_read w p c h

module _ {K : Types} {A B : Type 0} where
  -- a program that only looks, and then such ones, only look
  pub looks_on : (p : Program K A) (f : A → Program K B) → Looks p → ((a : A) → Looks (f a)) → Looks (go_on p f)
  unfolding Looks go_on
  looks_on (done a) f h k = k a
  looks_on (current_scope g) f h k = λ s. looks_on (g s) f (h s) k
  looks_on (read n g) f h k = λ v. looks_on (g v) f (h v) k
  looks_on (consume_context None kind g) f h k = λ v. looks_on (g v) f (h v) k
  looks_on (has_context kind g) f h k = λ v. looks_on (g v) f (h v) k
  looks_on _ f h k = absurd h
