-- Several reads and writes, one after another.
use Rattle.std.proofs.Common.{ℕ, suc, Bool, true, false, List, [], ◌∷◌, ◌++◌, ◌≡◌, refl, sym, ap, subst, ◌∙◌, ◌+◌, ◌<◌, ◌≤◌, length, get_or, slice_index_or, drop, arith}
use Rattle.std.proofs.Math.Seq.{drop-cons}
use Rattle.std.specs.Prelude.{◌↔◌, IsTrue, Option, Some, None}
use Rattle.rt_model.specs.Laws.{Tests}
use Rattle.std.proofs.Math.ListN.{drop_of_length-le}
use Rattle.std.proofs.lemmas.List.{append_assoc}
use Rattle.rt_lemmas.proofs.Lists.{next_drop, append_nil}
use Rattle.rt_model.specs.Program.{Program, done, current_scope, Call, says}
use Rattle.rt_model.specs.Tree.{Types, rendered, placeholder_tree}
use Rattle.rt_model.specs.World.{World, Write, Event, Nothing, nothing}
use Rattle.author_programs.specs.Came.{Came, came, reached}
use Rattle.author_programs.specs.Cells.{all_read, all_written}
use Rattle.author_programs.specs.Reads.{read_value, read_call}
use Rattle.author_programs.specs.Cells.{Keeping, own_cell}
use Rattle.author_programs.specs.Pages.{Page, Reply, own_cells, and_more, one_more, shown, page_body, reply_call}
use Rattle.author_programs.specs.Sequence.{go_on}
use Rattle.author_programs.proofs.Steps.{on, at_done, at_read, at_write, at_scope}

-- the item at a position of numbers, before those that follow
pub split_at : (xs : List ℕ) (i : ℕ) → i < length xs → drop i xs ≡ slice_index_or xs i 0 ∷ drop (i + 1) xs
split_at xs i low =
    let next : suc i ≡ i + 1 = omega arith in
    drop-cons xs i 0 low ∙ ap (λ (k : ℕ). slice_index_or xs i 0 ∷ drop k xs) next

-- a test that decides gives what another one answers
pub same_as_tested : {A : Type 0} (same : A → A → Bool) → Tests A same → (b : Bool) (p q : A) → (IsTrue b ↔ (p ≡ q)) → b ≡ same p q
same_as_tested {A} same tests b p q h =
    alike b (same p q) (λ is. subst (λ (x : A). same p x ≡ true) (h.0 is) (tests.1 p)) (λ is. h.1 (tests.0 p q is))
  where
    alike : (a b : Bool) → (a ≡ true → b ≡ true) → (b ≡ true → a ≡ true) → a ≡ b
    alike true true f g = refl
    alike true false f g = sym (f refl)
    alike false true f g = g refl
    alike false false f g = refl

module _ {K : Types} where
  -- the values so far, before those that are still read
  abbrev pub then_values : List (Option K.Value) → List (Option K.Value) → Program K (List (Option K.Value))
  then_values values vs = done (values ++ vs)

  pub read-first : (w : World K) (c : Call K) (ns : List ℕ) → came w (all_read ns) c ≡ came w (go_on (all_read ns) (then_values [])) c
  read-first w c ns =
      let x : Came K (List (Option K.Value)) = came w (all_read ns) c in
      sym (on w (all_read ns) (then_values []) c ∙ at_done w x.answer x.call)

  -- one more value
  pub read-more : (w : World K) (c : Call K) (ns : List ℕ) (i n : ℕ) (values longer : List (Option K.Value))
      → drop i ns ≡ n ∷ drop (i + 1) ns
      → longer ≡ values ++ read_value w c n ∷ []
      → came w (go_on (all_read (drop i ns)) (then_values values)) c ≡ came w (go_on (all_read (drop (i + 1) ns)) (then_values longer)) (read_call c n)
  read-more w c ns i n values longer split long =
      let rest : List ℕ = drop (i + 1) ns in
      let v : Option K.Value = read_value w c n in
      let d : Call K = read_call c n in
      let y : Came K (List (Option K.Value)) = came w (all_read rest) d in
      ap (λ xs. came w (go_on (all_read xs) (then_values values)) c) split
      ∙ on w (all_read (n ∷ rest)) (then_values values) c
      ∙ ap (λ (x : Came K (List (Option K.Value))). came w (then_values values x.answer) x.call)
      (at_read w n (λ u. go_on (all_read rest) (λ vs. done (u ∷ vs))) c ∙ on w (all_read rest) (λ vs. done (v ∷ vs)) d ∙ at_done w (v ∷ y.answer) y.call)
      ∙ ap (λ vs. came w (done vs) y.call) (sym (append_assoc values (v ∷ []) y.answer) ∙ ap (λ vs. vs ++ y.answer) (sym long))
      ∙ sym (on w (all_read rest) (then_values longer) d)

  -- no value is left
  pub read-end : (w : World K) (c : Call K) (ns : List ℕ) (i : ℕ) (values : List (Option K.Value)) → length ns ≤ i
      → came w (go_on (all_read (drop i ns)) (then_values values)) c ≡ reached values c
  read-end w c ns i values end =
      ap (λ xs. came w (go_on (all_read xs) (then_values values)) c) (drop_of_length-le ns end)
      ∙ on w (all_read []) (then_values values) c
      ∙ ap (λ (x : Came K (List (Option K.Value))). came w (then_values values x.answer) x.call) (at_done w [] c)
      ∙ at_done w (values ++ []) c
      ∙ ap (λ vs. reached vs c) (append_nil values)

  -- one more write
  pub write-more : (w : World K) (c : Call K) (es : List (ℕ × K.Value)) (i : ℕ) (e : ℕ × K.Value) → i < length es → e ≡ get_or es i e
      → came w (all_written (drop i es)) c ≡ came w (all_written (drop (i + 1) es)) (says c (Write e.0 e.1))
  write-more w c es i e low is =
      ap (λ xs. came w (all_written xs) c) (next_drop es i e low is)
      ∙ at_write w e.0 e.1 (all_written (drop (i + 1) es)) c

  -- no write is left
  pub write-end : (w : World K) (c : Call K) (es : List (ℕ × K.Value)) (i : ℕ) → length es ≤ i → came w (all_written (drop i es)) c ≡ reached nothing c
  write-end w c es i end =
      ap (λ xs. came w (all_written xs) c) (drop_of_length-le es end)
      ∙ at_done w nothing c

  -- the cells so far, before those that are still made
  abbrev pub then_cells : List ℕ → Option (List ℕ) → Program K (Option (List ℕ))
  then_cells own None = done None
  then_cells own (Some ns) = done (Some (own ++ ns))

  one-longer : (own : List ℕ) (n : ℕ) (o : Option (List ℕ)) → then_cells own (one_more n o) ≡ then_cells (own ++ n ∷ []) o
  one-longer own n None = refl
  one-longer own n (Some ns) = ap (λ xs. done (Some xs)) (sym (append_assoc own (n ∷ []) ns))

  pub cells-first : (w : World K) (c : Call K) (k : Keeping K.Value) (vs : List K.Value) → came w (own_cells k vs) c ≡ came w (go_on (own_cells k vs) (then_cells [])) c
  cells-first w c k vs =
      let x : Came K (Option (List ℕ)) = came w (own_cells k vs) c in
      sym (on w (own_cells k vs) (then_cells []) c ∙ whole x)
    where
      whole : (x : Came K (Option (List ℕ))) → came w (then_cells [] x.answer) x.call ≡ x
      whole x = by-answer x.answer x.call
        where
          by-answer : (o : Option (List ℕ)) (d : Call K) → came w (then_cells [] o) d ≡ reached o d
          by-answer None d = at_done w None d
          by-answer (Some ns) d = at_done w (Some ns) d

  -- one more cell
  pub cells-more : (w : World K) (c d : Call K) (k : Keeping K.Value) (vs : List K.Value) (i : ℕ) (v : K.Value) (own longer : List ℕ) (n : ℕ)
      → i < length vs → v ≡ get_or vs i v
      → came w (own_cell k v) c ≡ reached (Some n) d
      → longer ≡ own ++ n ∷ []
      → came w (go_on (own_cells k (drop i vs)) (then_cells own)) c ≡ came w (go_on (own_cells k (drop (i + 1) vs)) (then_cells longer)) d
  cells-more w c d k vs i v own longer n low is h long =
      let rest : List K.Value = drop (i + 1) vs in
      let y : Came K (Option (List ℕ)) = came w (own_cells k rest) d in
      ap (λ xs. came w (go_on (own_cells k xs) (then_cells own)) c) (next_drop vs i v low is)
      ∙ on w (own_cells k (v ∷ rest)) (then_cells own) c
      ∙ ap (λ (x : Came K (Option (List ℕ))). came w (then_cells own x.answer) x.call)
      (on w (own_cell k v) (λ o. and_more (own_cells k rest) o) c
      ∙ ap (λ (x : Came K (Option ℕ)). came w (and_more (own_cells k rest) x.answer) x.call) h
      ∙ on w (own_cells k rest) (λ o. done (one_more n o)) d
      ∙ at_done w (one_more n y.answer) y.call)
      ∙ ap (λ p. came w p y.call) (one-longer own n y.answer ∙ ap (λ xs. then_cells xs y.answer) (sym long))
      ∙ sym (on w (own_cells k rest) (then_cells longer) d)

  -- no cell is had, and the rest isn't made
  pub cells-none : (w : World K) (c d : Call K) (k : Keeping K.Value) (vs : List K.Value) (i : ℕ) (v : K.Value) (own : List ℕ)
      → i < length vs → v ≡ get_or vs i v
      → came w (own_cell k v) c ≡ reached None d
      → came w (go_on (own_cells k (drop i vs)) (then_cells own)) c ≡ reached None d
  cells-none w c d k vs i v own low is h =
      let rest : List K.Value = drop (i + 1) vs in
      ap (λ xs. came w (go_on (own_cells k xs) (then_cells own)) c) (next_drop vs i v low is)
      ∙ on w (own_cells k (v ∷ rest)) (then_cells own) c
      ∙ ap (λ (x : Came K (Option (List ℕ))). came w (then_cells own x.answer) x.call)
      (on w (own_cell k v) (λ o. and_more (own_cells k rest) o) c
      ∙ ap (λ (x : Came K (Option ℕ)). came w (and_more (own_cells k rest) x.answer) x.call) h
      ∙ at_done w None d)
      ∙ at_done w None d

  -- no cell is left
  pub cells-end : (w : World K) (c : Call K) (k : Keeping K.Value) (vs : List K.Value) (i : ℕ) (own : List ℕ) → length vs ≤ i
      → came w (go_on (own_cells k (drop i vs)) (then_cells own)) c ≡ reached (Some own) c
  cells-end w c k vs i own end =
      ap (λ xs. came w (go_on (own_cells k xs) (then_cells own)) c) (drop_of_length-le vs end)
      ∙ on w (own_cells k []) (then_cells own) c
      ∙ ap (λ (x : Came K (Option (List ℕ))). came w (then_cells own x.answer) x.call) (at_done w (Some []) c)
      ∙ at_done w (Some (own ++ [])) c
      ∙ ap (λ ns. reached (Some ns) c) (append_nil own)

module _ {K : Types} where
  -- the whole of a page
  pub shown-page : (k : Keeping K.Value) (page : Page K) (w : World K) (c d e : Call K) (firsts : List K.Value) (own reads : List ℕ) (values : List (Option K.Value))
      → firsts ≡ page.cells
      → came w (own_cells k firsts) c ≡ reached (Some own) d
      → reads ≡ page.reads own
      → came w (all_read reads) d ≡ reached values e
      → came w (page_body k page) c ≡ reached (rendered (page.shows w.given.scope own values)) e
  shown-page k page w c d e firsts own reads values cells made read all =
      on w (own_cells k page.cells) (λ o. shown page o) c
      ∙ ap (λ (x : Came K (Option (List ℕ))). came w (shown page x.answer) x.call) (ap (λ vs. came w (own_cells k vs) c) (sym cells) ∙ made)
      ∙ on w (all_read (page.reads own)) (λ vs. current_scope (λ s. done (rendered (page.shows s own vs)))) d
      ∙ ap (λ (x : Came K (List (Option K.Value))). came w (current_scope (λ s. done (rendered (page.shows s own x.answer)))) x.call)
      (ap (λ ns. came w (all_read ns) d) (sym read) ∙ all)
      ∙ at_scope w (λ s. done (rendered (page.shows s own values))) e
      ∙ at_done w (rendered (page.shows w.given.scope own values)) e

  -- the body ends where a cell isn't had
  pub none-page : (k : Keeping K.Value) (page : Page K) (w : World K) (c d : Call K) (firsts : List K.Value)
      → firsts ≡ page.cells
      → came w (own_cells k firsts) c ≡ reached None d
      → came w (page_body k page) c ≡ reached (rendered placeholder_tree) d
  none-page k page w c d firsts cells made =
      on w (own_cells k page.cells) (λ o. shown page o) c
      ∙ ap (λ (x : Came K (Option (List ℕ))). came w (shown page x.answer) x.call) (ap (λ vs. came w (own_cells k vs) c) (sym cells) ∙ made)
      ∙ at_done w (rendered placeholder_tree) d

  -- the whole of a reply
  pub replied : (r : Reply K) (w : World K) (c d e : Call K) (reads : List ℕ) (values : List (Option K.Value)) (writes : List (ℕ × K.Value)) (left : Event K)
      → reads ≡ r.reads
      → came w (all_read reads) c ≡ reached values d
      → writes ≡ r.writes values
      → came w (all_written writes) d ≡ reached nothing e
      → left ≡ r.leaves
      → came w (reply_call r) c ≡ reached left e
  replied r w c d e reads values writes left read all write done_all leaves =
      on w (all_read r.reads) (λ vs. go_on (all_written (r.writes vs)) (λ _. done r.leaves)) c
      ∙ ap (λ (x : Came K (List (Option K.Value))). came w (go_on (all_written (r.writes x.answer)) (λ _. done r.leaves)) x.call)
      (ap (λ ns. came w (all_read ns) c) (sym read) ∙ all)
      ∙ on w (all_written (r.writes values)) (λ _. done r.leaves) d
      ∙ ap (λ (x : Came K Nothing). came w (done r.leaves) x.call) (ap (λ es. came w (all_written es) d) (sym write) ∙ done_all)
      ∙ at_done w r.leaves e
      ∙ ap (λ event. reached event e) (sym leaves)

pub ruleset listing = (on, at_done, at_read, at_write, at_scope, read-first, cells-first)
