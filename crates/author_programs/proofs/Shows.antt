-- A page shows what its function gives of the present values.
use Rattle.std.proofs.Common.{ℕ, zero, suc, Bool, true, false, List, [], ◌∷◌, ◌≡◌, refl, sym, ap, ◌∙◌, map, length, nat_eq, nat_le, nat_lt, ◌+◌, ◌<◌, arith}
use Rattle.std.specs.Prelude.{Option, Some, None, if◌then◌else◌, option_and_then}
use Rattle.std.proofs.lemmas.Bool.{lt-leb}
use Rattle.rt_model.specs.Lists.{at, nth}
use Rattle.rt_model.specs.Program as program
use Rattle.rt_model.specs.Program.{Program, done, Call, exec, begun, noted, past_hook, hook_value, hooked, held_in, body_means, value_in, ended}
use Rattle.rt_model.specs.Tree.{Types, Tree, Element, rendered}
use Rattle.rt_model.specs.World.{World, Hook, HookValue, OtherHook, Source, Cell}
use Rattle.rt_model.proofs.Maps.{eq_same}
use Rattle.author_programs.specs.Came.{Came, came, reached}
use Rattle.author_programs.specs.Cells.{Keeping, own_cell, kept_cell, first_or_kept, all_read}
use Rattle.author_programs.specs.Pages.{Page, own_cells, and_more, one_more, shown, page_body}
use Rattle.author_programs.specs.Reads.{read_value, read_call}
use Rattle.author_programs.specs.Sequence.{go_on}
use Rattle.author_programs.specs.Shows.{IsKept, KeepAll, present, ShowsPresentValues}
use Rattle.author_programs.proofs.Goes.{exec-came, told_by}
use Rattle.author_programs.proofs.Steps.{on, at_done, at_scope, at_read, at_hook_is_new, at_use_hook}

-- where an item stands the list is longer
pub below : {A : Type 0} (xs : List A) (i : ℕ) (x : A) → nth xs i ≡ Some x → i < length xs
below [] i x h = cc
below (y ∷ ys) zero x h = omega arith
below (y ∷ ys) (suc i) x h = let low : i < length ys = below ys i x h in omega (arith, low)

pub within : {A : Type 0} (xs : List A) (i : ℕ) (x : A) → nth xs i ≡ Some x → nat_le (length xs) i ≡ false
within xs i x h = lt-leb (length xs) i (below xs i x h)

-- a hook of the kind that is asked for
pub same-kind : (K : Types) (k : ℕ) (first value : K.Value) → hook_value {K = K} k first (Some (HookValue k value)) ≡ Some value
same-kind K k first value = ap (λ (b : Bool). if b then Some value else None) (eq_same k)

module _ {K : Types} where
  passed : (w : World K) (c : Call K) (k : ℕ) (new : Hook K) (value : K.Value) → hooked w c k new (Some (HookValue k value)) ≡ past_hook c
  passed w c k new value = ap (λ (b : Bool). if b then past_hook c else past_hook (program.faults c (OtherHook w.given.scope c.index k k))) (eq_same k)

  -- one cell that is kept
  kept-one : (k : Keeping K.Value) (w : World K) (c : Call K) (first : K.Value) (n : ℕ) → IsKept k (nth w.given.hooks c.index) n
      → came w (own_cell k first) c ≡ reached (Some n) (past_hook c)
  kept-one k w c first n h =
      at_hook_is_new w (λ is_new. first_or_kept k first is_new) c
      ∙ ap (λ (b : Bool). came w (first_or_kept k first b) c) (within w.given.hooks c.index (HookValue k.kind h.value) h.is)
      ∙ at_use_hook w k.kind (k.keeps 0) (λ o. done (option_and_then k.kept o)) c
      ∙ ap (λ (o : Option (Hook K)). came w (done (option_and_then k.kept (hook_value k.kind (k.keeps 0) o))) (hooked w c k.kind (HookValue k.kind (k.keeps 0)) o)) h.is
      ∙ ap (λ (o : Option K.Value). came w (done (option_and_then k.kept o)) (hooked w c k.kind (HookValue k.kind (k.keeps 0)) (Some (HookValue k.kind h.value)))) (same-kind K k.kind (k.keeps 0) h.value)
      ∙ ap (λ (d : Call K). came w (done (k.kept h.value)) d) (passed w c k.kind (HookValue k.kind (k.keeps 0)) h.value)
      ∙ ap (λ (o : Option ℕ). came w (done o) (past_hook c)) h.keeps
      ∙ at_done w (Some n) (past_hook c)

  -- the call after so many hooks
  abbrev pub after_hooks : Call K → List ℕ → Call K
  after_hooks c [] = c
  after_hooks c (n ∷ ns) = after_hooks (past_hook c) ns

  -- all cells of the scope
  kept-all : (k : Keeping K.Value) (w : World K) (c : Call K) (vs : List K.Value) (ns : List ℕ) → KeepAll k w.given.hooks c.index ns → length vs ≡ length ns
      → came w (own_cells k vs) c ≡ reached (Some ns) (after_hooks c ns)
  kept-all k w c [] [] h same = at_done w (Some []) c
  kept-all k w c [] (n ∷ ns) h same = cc
  kept-all k w c (v ∷ vs) [] h same = cc
  kept-all k w c (v ∷ vs) (n ∷ ns) h same =
      on w (own_cell k v) (λ o. and_more (own_cells k vs) o) c
      ∙ ap (λ (x : Came K (Option ℕ)). came w (and_more (own_cells k vs) x.answer) x.call) (kept-one k w c v n h.0)
      ∙ on w (own_cells k vs) (λ o. done (one_more n o)) (past_hook c)
      ∙ ap (λ (x : Came K (Option (List ℕ))). came w (done (one_more n x.answer)) x.call) (kept-all k w (past_hook c) vs ns h.1 (fewer (length vs) (length ns) same))
      ∙ at_done w (Some (n ∷ ns)) (after_hooks (past_hook c) ns)
    where
      fewer : (m o : ℕ) → suc m ≡ suc o → m ≡ o
      fewer m o e = cc

  -- hooks change no value that is read
  still-hooks : (w : World K) (c : Call K) (ns : List ℕ) (n : ℕ) → read_value w (after_hooks c ns) n ≡ read_value w c n
  still-hooks w c [] n = refl
  still-hooks w c (m ∷ ns) n = still-hooks w (past_hook c) ns n

  -- nor do reads
  still-noted : (w : World K) (c : Call K) (x : Source) (into : List ℕ) (body : Bool) (n : ℕ) → read_value w (program.noted_at c x into body) n ≡ read_value w c n
  still-noted w c x [] true n = refl
  still-noted w c x [] false n = refl
  still-noted w c x (m ∷ ms) body n = refl

  still-either : (w : World K) (c d : Call K) (b : Bool) (n : ℕ) → read_value w d n ≡ read_value w c n → read_value w (if b then d else c) n ≡ read_value w c n
  still-either w c d true n h = h
  still-either w c d false n h = refl

  still-read : (w : World K) (c : Call K) (m n : ℕ) → read_value w (read_call c m) n ≡ read_value w c n
  still-read w c m n = still-either w c (noted c (Cell m)) (nat_lt m c.next.cells) n (still-noted w c (Cell m) c.into c.in_body n)

  -- the call after so many reads
  abbrev pub after_reads : Call K → List ℕ → Call K
  after_reads c [] = c
  after_reads c (n ∷ ns) = after_reads (read_call c n) ns

  each-still : (w : World K) (c d : Call K) (ns : List ℕ) → ((n : ℕ) → read_value w d n ≡ read_value w c n) → map (read_value w d) ns ≡ map (read_value w c) ns
  each-still w c d [] h = refl
  each-still w c d (n ∷ ns) h = λ i. h n i ∷ each-still w c d ns h i

  read-all : (w : World K) (c : Call K) (ns : List ℕ) → came w (all_read ns) c ≡ reached (map (read_value w c) ns) (after_reads c ns)
  read-all w c [] = at_done w [] c
  read-all w c (n ∷ ns) =
      let d : Call K = read_call c n in
      at_read w n (λ v. go_on (all_read ns) (λ vs. done (v ∷ vs))) c
      ∙ on w (all_read ns) (λ vs. done (read_value w c n ∷ vs)) d
      ∙ ap (λ (x : Came K (List (Option K.Value))). came w (done (read_value w c n ∷ x.answer)) x.call) (read-all w d ns)
      ∙ at_done w (read_value w c n ∷ map (read_value w d) ns) (after_reads d ns)
      ∙ ap (λ (vs : List (Option K.Value)). reached (read_value w c n ∷ vs) (after_reads d ns)) (each-still w c d ns (λ m. still-read w c n m))

  -- the whole page
  pub page-comes : (k : Keeping K.Value) (page : Page K) (w : World K) (c : Call K) (own : List ℕ) → KeepAll k w.given.hooks c.index own → length page.cells ≡ length own
      → came w (page_body k page) c
      ≡ reached (rendered (page.shows w.given.scope own (map (read_value w c) (page.reads own)))) (after_reads (after_hooks c own) (page.reads own))
  page-comes k page w c own h same =
      let d : Call K = after_hooks c own in
      let ns : List ℕ = page.reads own in
      on w (own_cells k page.cells) (λ o. shown page o) c
      ∙ ap (λ (x : Came K (Option (List ℕ))). came w (shown page x.answer) x.call) (kept-all k w c page.cells own h same)
      ∙ on w (all_read ns) (λ vs. program.current_scope (λ s. done (rendered (page.shows s own vs)))) d
      ∙ ap (λ (x : Came K (List (Option K.Value))). came w (program.current_scope (λ s. done (rendered (page.shows s own x.answer)))) x.call) (read-all w d ns)
      ∙ at_scope w (λ s. done (rendered (page.shows s own (map (read_value w d) ns)))) (after_reads d ns)
      ∙ at_done w (rendered (page.shows w.given.scope own (map (read_value w d) ns))) (after_reads d ns)
      ∙ ap (λ (vs : List (Option K.Value)). reached (rendered (page.shows w.given.scope own vs)) (after_reads d ns)) (each-still w c d ns (λ n. still-hooks w c own n))

pub shows-present-values : (K : Types) → ShowsPresentValues K
shows-present-values K k page w own h same =
    let c : Call K = begun true w.given.next in
    ap (λ (m : _). m.answer) (exec-came w (page_body k page) c)
    ∙ ap (λ (x : Came K (Element K)). x.answer) (page-comes k page w c own h same)
