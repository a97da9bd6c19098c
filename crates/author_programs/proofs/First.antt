-- A scope of a page that has run once and is current shows its page's function of first values.
use Rattle.std.proofs.Common.{ℕ, suc, ◌+◌, ◌<◌, ◌≤◌, Bool, true, false, ◌||◌, ◌&&◌, not, List, [], ◌∷◌, ◌≡◌, refl, sym, ap, subst, ◌∙◌, map, length, nat_eq, nat_le, nat_lt, arith}
use Rattle.std.specs.Prelude.{Option, Some, None, if◌then◌else◌, option_and_then}
use Rattle.std.specs.List.{AllByRecursion}
use Rattle.std.proofs.lemmas.Bool.{le-leb}
use Rattle.rt_lemmas.proofs.Bools.{or_right as or-right}
use Rattle.rt_lemmas.proofs.Numbers.{eq_below as not-at-end}
use Rattle.rt_model.specs.Commands.{names_source}
use Rattle.rt_model.specs.Current.{IsCurrent, CurrentAs, BodyIsCurrent, KeepsAnswer, Repeats, world_again, again}
use Rattle.rt_model.specs.Lists.{at, nth, first_of}
use Rattle.rt_model.specs.Program as program
use Rattle.rt_model.specs.Program.{done, Call, begun, noted, noted_at, says, faults, past_hook, drew_cell, hook_value, hooked, body_means, value_in}
use Rattle.rt_model.specs.Run.{body_of}
use Rattle.rt_model.specs.State.{State, Scope, LastCall, values_of}
use Rattle.rt_model.specs.Tree.{Types, VComponent, Tree, Element, rendered}
use Rattle.rt_model.specs.World.{World, Hook, HookValue, KeepHook, Source, Cell, Meaning, Application, CounterAtEnd, Cells, at_end, last_number}
use Rattle.rt_model.proofs.Maps.{eq_same}
use Rattle.author_programs.specs.Came.{Came, came, reached}
use Rattle.author_programs.specs.Cells.{Keeping, own_cell, made_cell, first_or_kept, all_read}
use Rattle.author_programs.specs.Pages.{Page, own_cells, and_more, one_more, shown, page_body, meaning_of_pages}
use Rattle.author_programs.specs.Reads.{read_value, read_call}
use Rattle.author_programs.specs.Sequence.{go_on}
use Rattle.author_programs.proofs.Goes.{exec-came}
use Rattle.author_programs.proofs.Shows.{after_reads}
use Rattle.author_programs.proofs.Steps.{on, at_done, at_scope, at_read, at_new_cell, at_hook_is_new, at_use_hook}
use Rattle.author_programs.specs.First.{GivesBack, numbers_from, made_from, first_value, FirstPagesShow}
use Rattle.author_programs.proofs.Present.{found}

zero-le : (n : ℕ) → nat_le 0 n ≡ true
zero-le n = le-leb 0 n (omega arith)

fits-here : (n l m : ℕ) → n + suc l ≤ m → n < m
fits-here n l m h = omega (arith, h)

fits-next : (n l m : ℕ) → n + suc l ≤ m → n + 1 + l ≤ m
fits-next n l m h = omega (arith, h)

module _ {K : Types} where
  -- the call after a cell that was made and kept
  abbrev with_cell : Keeping K.Value → Call K → K.Value → Call K
  with_cell k c v = past_hook (says (drew_cell c v) (KeepHook (HookValue k.kind (k.keeps c.next.cells))))

  -- one cell, where no hook stands yet
  make-one : (k : Keeping K.Value) (w : World K) (c : Call K) (v : K.Value) → GivesBack k → w.given.hooks ≡ [] → at_end c.next.cells ≡ false
      → came w (own_cell k v) c ≡ reached (Some c.next.cells) (with_cell k c v)
  make-one k w c v back none free =
      let n : ℕ = c.next.cells in
      let d : Call K = drew_cell c v in
      let hook : Hook K = HookValue k.kind (k.keeps n) in
      at_hook_is_new w (λ is_new. first_or_kept k v is_new) c
      ∙ ap (λ (hs : List (Hook K)). came w (first_or_kept k v (nat_le (length hs) c.index)) c) none
      ∙ ap (λ (b : Bool). came w (first_or_kept k v b) c) (zero-le c.index)
      ∙ at_new_cell w v (λ o. made_cell k o) c
      ∙ ap (λ (b : Bool). if b then came w (made_cell k None) (faults c (CounterAtEnd Cells)) else came w (made_cell k (Some n)) d) free
      ∙ at_use_hook w k.kind (k.keeps n) (λ o. done (option_and_then k.kept o)) d
      ∙ ap (λ (hs : List (Hook K)). came w (done (option_and_then k.kept (hook_value k.kind (k.keeps n) (nth hs d.index)))) (hooked w d k.kind hook (nth hs d.index))) none
      ∙ ap (λ (o : Option ℕ). came w (done o) (with_cell k c v)) (back n)
      ∙ at_done w (Some n) (with_cell k c v)

  -- the call after several
  abbrev with_cells : Keeping K.Value → Call K → List K.Value → Call K
  with_cells k c [] = c
  with_cells k c (v ∷ vs) = with_cells k (with_cell k c v) vs

  make-all : (k : Keeping K.Value) (w : World K) (c : Call K) (vs : List K.Value) → GivesBack k → w.given.hooks ≡ [] → c.next.cells + length vs ≤ last_number
      → came w (own_cells k vs) c ≡ reached (Some (numbers_from c.next.cells vs)) (with_cells k c vs)
  make-all k w c [] back none fits = at_done w (Some []) c
  make-all k w c (v ∷ vs) back none fits =
      let n : ℕ = c.next.cells in
      let d : Call K = with_cell k c v in
      on w (own_cell k v) (λ o. and_more (own_cells k vs) o) c
      ∙ ap (λ (x : Came K (Option ℕ)). came w (and_more (own_cells k vs) x.answer) x.call)
      (make-one k w c v back none (not-at-end n last_number (fits-here n (length vs) last_number fits)))
      ∙ on w (own_cells k vs) (λ o. done (one_more n o)) d
      ∙ ap (λ (x : Came K (Option (List ℕ))). came w (done (one_more n x.answer)) x.call)
      (make-all k w d vs back none (fits-next n (length vs) last_number fits))
      ∙ at_done w (Some (n ∷ numbers_from (n + 1) vs)) (with_cells k d vs)

  -- what the call has then
  next-made : (k : Keeping K.Value) (c : Call K) (vs : List K.Value) → (with_cells k c vs).next.cells ≡ c.next.cells + length vs
  next-made k c [] = let n : ℕ = c.next.cells in let e : n ≡ n + 0 = omega arith in e
  next-made k c (v ∷ vs) = next-made k (with_cell k c v) vs ∙ one-up c.next.cells (length vs)
    where
      one-up : (n l : ℕ) → n + 1 + l ≡ n + suc l
      one-up n l = omega arith

  cells-made : (k : Keeping K.Value) (c : Call K) (vs : List K.Value) → (with_cells k c vs).cells ≡ made_from c.cells c.next.cells vs
  cells-made k c [] = refl
  cells-made k c (v ∷ vs) = cells-made k (with_cell k c v) vs

  -- a body that has entered no reactive context
  abbrev Plain : Call K → Type 0
  Plain c = (c.into ≡ []) × (c.in_body ≡ true)

  plain-made : (k : Keeping K.Value) (c : Call K) (vs : List K.Value) → Plain c → Plain (with_cells k c vs)
  plain-made k c [] h = h
  plain-made k c (v ∷ vs) h = plain-made k (with_cell k c v) vs h

  noted-plain : (c : Call K) (x : Source) → Plain c → noted c x ≡ record c { reads = x ∷ c.reads }
  noted-plain c x h = λ i. noted_at c x (h.0 i) (h.1 i)

  either : (P : Call K → Type 0) (b : Bool) (c d : Call K) → (b ≡ true → P d) → P c → P (if b then d else c)
  either P true c d h k = h refl
  either P false c d h k = k

  plain-read : (c : Call K) (n : ℕ) → Plain c → Plain (read_call c n)
  plain-read c n h = either Plain (nat_lt n c.next.cells) c (noted c (Cell n)) (λ _. subst Plain (sym (noted-plain c (Cell n) h)) (h.0, h.1)) h

  -- reads draw no number and make no cell
  abbrev SameCells : Call K → Call K → Type 0
  SameCells c d = (d.next.cells ≡ c.next.cells) × (d.cells ≡ c.cells)

  same-read : (c : Call K) (n : ℕ) → Plain c → SameCells c (read_call c n)
  same-read c n h =
      either (SameCells c) (nat_lt n c.next.cells) c (noted c (Cell n)) (λ _. subst (SameCells c) (sym (noted-plain c (Cell n) h)) (refl, refl)) (refl, refl)

  same-value : (w : World K) (c d : Call K) (n : ℕ) → SameCells c d → read_value w d n ≡ read_value w c n
  same-value w c d n h = λ i. if nat_lt n (h.0 i) then value_in w (at (h.1 i) n) n else None

  each-same : (w : World K) (c d : Call K) (ns : List ℕ) → SameCells c d → map (read_value w d) ns ≡ map (read_value w c) ns
  each-same w c d [] h = refl
  each-same w c d (n ∷ ns) h = λ i. same-value w c d n h i ∷ each-same w c d ns h i

  read-all : (w : World K) (c : Call K) (ns : List ℕ) → Plain c → came w (all_read ns) c ≡ reached (map (read_value w c) ns) (after_reads c ns)
  read-all w c [] h = at_done w [] c
  read-all w c (n ∷ ns) h =
      let d : Call K = read_call c n in
      at_read w n (λ v. go_on (all_read ns) (λ vs. done (v ∷ vs))) c
      ∙ on w (all_read ns) (λ vs. done (read_value w c n ∷ vs)) d
      ∙ ap (λ (x : Came K (List (Option K.Value))). came w (done (read_value w c n ∷ x.answer)) x.call) (read-all w d ns (plain-read c n h))
      ∙ at_done w (read_value w c n ∷ map (read_value w d) ns) (after_reads d ns)
      ∙ ap (λ (vs : List (Option K.Value)). reached (read_value w c n ∷ vs) (after_reads d ns)) (each-same w c d ns (same-read c n h))

  -- a cell is among the reads
  abbrev Names : ℕ → Call K → Type 0
  Names n c = names_source c.reads (Cell n) ≡ true

  names-kept : (c : Call K) (m n : ℕ) → Plain c → Names n c → Names n (read_call c m)
  names-kept c m n h is =
      either (Names n) (nat_lt m c.next.cells) c (noted c (Cell m))
      (λ _. subst (Names n) (sym (noted-plain c (Cell m) h)) (or-right (nat_eq m n) (names_source c.reads (Cell n)) is))
      is

  names-new : (c : Call K) (n : ℕ) → Plain c → nat_lt n c.next.cells ≡ true → Names n (read_call c n)
  names-new c n h low =
      subst (λ (b : Bool). Names n (if b then noted c (Cell n) else c)) (sym low)
      (subst (Names n) (sym (noted-plain c (Cell n) h)) (ap (λ (b : Bool). b || names_source c.reads (Cell n)) (eq_same n)))

  names-stay : (c : Call K) (ns : List ℕ) (n : ℕ) → Plain c → Names n c → Names n (after_reads c ns)
  names-stay c [] n h is = is
  names-stay c (m ∷ ns) n h is = names-stay (read_call c m) ns n (plain-read c m h) (names-kept c m n h is)

  -- each cell that is read is among the reads then, where it was drawn
  all-named : (c : Call K) (ns : List ℕ) → Plain c → AllByRecursion (λ (n : ℕ). nat_lt n c.next.cells ≡ true → Names n (after_reads c ns)) ns
  all-named c [] h = tt
  all-named c (n ∷ ns) h =
      let d : Call K = read_call c n in (
        λ low. names-stay d ns n (plain-read c n h) (names-new c n h low),
        subst (λ (k : ℕ). AllByRecursion (λ (m : ℕ). nat_lt m k ≡ true → Names m (after_reads d ns)) ns) (same-read c n h).0 (all-named d ns (plain-read c n h)),
      )

-- a value that was read and recorded is the present one, or the first one of a cell that was made
one-value : {V : Type 0} (low named aside : Bool) (made u v : Option V) → (low ≡ true → named ≡ true)
    → (if low then first_of made (if aside && not named then u else v) else None) ≡ (if low then first_of made v else None)
one-value false named aside made u v h = refl
one-value true true true made u v h = refl
one-value true true false made u v h = refl
one-value true false aside made u v h = cc (h refl)

module _ {K : Types} where
  as-first : (w : World K) (o : Option K.Value) (n : ℕ) → value_in w o n ≡ first_of o (w.values.cell n)
  as-first w (Some v) n = refl
  as-first w None n = refl

  module _ (k : Keeping K.Value) (page : Page K) (w : State K) (x : Scope K) (last : LastCall K)
      (back : GivesBack k) (none : last.given.given.hooks ≡ []) (fits : last.given.given.next.cells + length page.cells ≤ last_number) where
    abbrev world : World K
    world = world_again w x last

    abbrev start : Call K
    start = begun true last.given.given.next

    abbrev made : Call K
    made = with_cells k start page.cells

    abbrev own : List ℕ
    own = numbers_from last.given.given.next.cells page.cells

    abbrev end : Call K
    end = after_reads made (page.reads own)

    plain : Plain made
    plain = plain-made k start page.cells (refl, refl)

    abbrev tree : Tree K
    tree = page.shows last.given.given.scope own (map (read_value world made) (page.reads own))

    -- the whole page
    page-comes : came world (page_body k page) start ≡ reached (rendered tree) end
    page-comes =
        let ns : List ℕ = page.reads own in
        on world (own_cells k page.cells) (λ o. shown page o) start
        ∙ ap (λ (y : Came K (Option (List ℕ))). came world (shown page y.answer) y.call) (make-all k world start page.cells back none fits)
        ∙ on world (all_read ns) (λ vs. program.current_scope (λ s. done (rendered (page.shows s own vs)))) made
        ∙ ap (λ (y : Came K (List (Option K.Value))). came world (program.current_scope (λ s. done (rendered (page.shows s own y.answer)))) y.call) (read-all world made ns plain)
        ∙ at_scope world (λ s. done (rendered (page.shows s own (map (read_value world made) ns)))) end
        ∙ at_done world (rendered tree) end

    page-means : body_means (page_body k page) world ≡ record { answer = rendered tree; reads = end.reads; aside = end.aside; commands = end.commands; next = end.next; fault = end.fault }
    page-means =
        exec-came world (page_body k page) start
        ∙ ap (λ (y : Came K (Element K)). record { answer = y.answer; reads = (y.call).reads; aside = (y.call).aside; commands = (y.call).commands; next = (y.call).next; fault = (y.call).fault })
        page-comes

    -- the value of one cell
    value-is : (n : ℕ) → (nat_lt n made.next.cells ≡ true → names_source x.reads (Cell n) ≡ true) → read_value world made n ≡ first_value w last page.cells n
    value-is n named =
        let first : Option K.Value = at made.cells n in
        ap (λ (o : Option K.Value). if nat_lt n made.next.cells then o else None) (as-first world first n)
        ∙ one-value (nat_lt n made.next.cells) (names_source x.reads (Cell n)) (names_source last.aside (Cell n)) first (last.given.values.cell n) ((values_of w).cell n) named
        ∙ (λ i. if nat_lt n (next-made k start page.cells i) then first_of (at (cells-made k start page.cells i) n) ((values_of w).cell n) else None)

    each-value : (ns : List ℕ) → AllByRecursion (λ (n : ℕ). nat_lt n made.next.cells ≡ true → names_source x.reads (Cell n) ≡ true) ns
        → map (read_value world made) ns ≡ map (first_value w last page.cells) ns
    each-value [] h = refl
    each-value (n ∷ ns) h = λ i. value-is n h.0 i ∷ each-value ns h.1 i

    page-shown : (m : Meaning K (Element K)) → m ≡ body_means (page_body k page) world → Repeats x last m → KeepsAnswer last m.answer x.main_side.output
        → x.main_side.output ≡ Some (page.shows last.given.given.scope own (map (first_value w last page.cells) (page.reads own)))
    page-shown m is repeats keeps =
        let means = is ∙ page-means in
        let reads : x.reads ≡ end.reads = repeats.1 ∙ ap (λ (y : Meaning K (Element K)). y.reads) means in
        let named : AllByRecursion (λ (n : ℕ). nat_lt n made.next.cells ≡ true → names_source x.reads (Cell n) ≡ true) (page.reads own) =
        subst (λ (xs : List Source). AllByRecursion (λ (n : ℕ). nat_lt n made.next.cells ≡ true → names_source xs (Cell n) ≡ true) (page.reads own)) (sym reads)
        (all-named made (page.reads own) plain) in
        let output : x.main_side.output ≡ Some tree = subst (λ (e : Element K). KeepsAnswer last e x.main_side.output) (ap (λ (y : Meaning K (Element K)). y.answer) means) keeps in
        output ∙ ap (λ (vs : List (Option K.Value)). Some (page.shows last.given.given.scope own vs)) (each-value (page.reads own) named)

pub first-pages-show : (K : Types) → FirstPagesShow K
first-pages-show K k a w back current s x last c p there called component none fits =
    let app : Application K = meaning_of_pages k a in
    let scope : CurrentAs app w x (at w.last_calls s) x.component = found (λ (e : ℕ × Scope K). IsCurrent app w e.0 e.1) w.scopes s x current there in
    let body : BodyIsCurrent app w x (Some last) =
    subst (λ (o : Option (LastCall K)). BodyIsCurrent app w x o) called
    (subst (λ (v : VComponent K). CurrentAs app w x (at w.last_calls s) v) component scope) in
    page-shown k (a.page c p) w x last back none fits (again app w x last)
    (ap (λ (v : VComponent K). body_of app v (world_again w x last)) component)
    body.0
    body.1
