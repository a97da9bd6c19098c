-- What the button's writes leave in the model, and the row of a cell there.
use Rattle.std.proofs.Common.{ℕ, Bool, true, false, List, [], ◌∷◌, ◌++◌, ◌≡◌, refl, sym, ap, ◌∙◌, nat_eq, nat_lt}
use Rattle.std.specs.Prelude.{Option, Some, None, if◌then◌else◌}
use Rattle.rt_author.proofs.Maps.{at_put_here, at_put_other, by_test, eq_same}
use Rattle.rt_author.specs.Lists.{at, put}
use Rattle.rt_author.specs.State.{CellRow}
use Rattle.rt_author.specs.Updates.{Model, put_where, read_in, values_in, written}
use Rattle.examples_list.specs.Meaning.{ListTypes, added, items_in, words_in}
use Rattle.examples_list.specs.declared.parts.Value.{Value}
use Rattle.examples_list.specs.declared.parts.Value.TheVariants as values

-- what was read stands in the model
pub stands : (m : Model ListTypes) (drawn n : ℕ) (v : Value) → read_in m drawn n ≡ Some v → at m n ≡ Some v
stands m drawn n v h = on (nat_lt n drawn) h
  where
    on : (b : Bool) → (if b then at m n else None) ≡ Some v → at m n ≡ Some v
    on true k = k
    on false k = cc

-- a write of one cell leaves that there is another
kept : (m : Model ListTypes) (n k : ℕ) (v w : Value) (o : Option Value) → at m k ≡ Some w → (x : Value) × (at (put_where m n v o) k ≡ Some x)
kept m n k v w None there = (w, there)
kept m n k v w (Some old) there =
    by_test (nat_eq n k) (λ same. (v, at_put_here m n v k same)) (λ other. (w, at_put_other m n v k other ∙ there))

-- a write of a cell that is there leaves what was written
put_there : (m : Model ListTypes) (n : ℕ) (v w : Value) → at m n ≡ Some w → at (put_where m n v (at m n)) n ≡ Some v
put_there m n v w there = ap (λ (o : Option Value). at (put_where m n v o) n) there ∙ at_put_here m n v n (eq_same n)

-- the button's writes leave one item more
pub one_more : (m : Model ListTypes) (draft cell c : ℕ) (cs : List ℕ) (items : List (List ℕ)) (words found : Option Value)
    → words ≡ Some (values.Words (c ∷ cs))
    → found ≡ Some (values.Items items)
    → at m cell ≡ Some (values.Items items)
    → at (written m (added draft cell (words_in (Some words)) (items_in (Some found)))) cell ≡ Some (values.Items (items ++ (c ∷ cs) ∷ []))
one_more m draft cell c cs items words found typed is there =
    let emptied : Model ListTypes = put_where m draft (values.Words []) (at m draft) in
    let still = kept m draft cell (values.Words []) (values.Items items) (at m draft) there in
    let grown : Value = values.Items (items ++ (c ∷ cs) ∷ []) in
    ap (λ (o : Option Value). at (written m (added draft cell (words_in (Some o)) (items_in (Some found)))) cell) typed
    ∙ ap (λ (o : Option Value). at (written m (added draft cell (Some (c ∷ cs)) (items_in (Some o)))) cell) is
    ∙ put_there emptied cell grown still.0 still.1

row_or : (b : Bool) (c : CellRow ListTypes) (o : Option (CellRow ListTypes)) (p : Option Value) (v : Value)
    → (p ≡ Some v → (row : CellRow ListTypes) × (o ≡ Some row) × (row.value ≡ v))
    → (if b then Some c.value else p) ≡ Some v
    → (row : CellRow ListTypes) × ((if b then Some c else o) ≡ Some row) × (row.value ≡ v)
row_or true c o p v go h = (c, refl, cc)
row_or false c o p v go h = go h

-- the row of a cell with its value
pub row_of : (es : List (ℕ × CellRow ListTypes)) (n : ℕ) (v : Value) → at (values_in es) n ≡ Some v → (row : CellRow ListTypes) × (at es n ≡ Some row) × (row.value ≡ v)
row_of [] n v h = cc
row_of (e ∷ es) n v h = row_or (nat_eq e.0 n) e.1 (at es n) (at (values_in es) n) v (λ k. row_of es n v k) h

value_or : (b : Bool) (c row : CellRow ListTypes) (o : Option (CellRow ListTypes)) (p : Option Value)
    → (o ≡ Some row → p ≡ Some row.value)
    → (if b then Some c else o) ≡ Some row
    → (if b then Some c.value else p) ≡ Some row.value
value_or true c row o p go h = ap (λ (x : Option (CellRow ListTypes)). elim x as (λ z. Option Value) [ None ↦ None | Some r ↦ Some r.value ]) h
value_or false c row o p go h = go h

-- and back
pub value_at : (es : List (ℕ × CellRow ListTypes)) (n : ℕ) (row : CellRow ListTypes) → at es n ≡ Some row → at (values_in es) n ≡ Some row.value
value_at [] n row h = cc
value_at (e ∷ es) n row h = value_or (nat_eq e.0 n) e.1 row (at es n) (at (values_in es) n) (λ k. value_at es n row k) h
