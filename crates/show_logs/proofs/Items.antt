-- What a loop over a list of JSON has read, and what is left.
use Rattle.std.proofs.Common.{ℕ, ◌+◌, ◌<◌, ◌≤◌, List, [], ◌∷◌, ◌++◌, ◌≡◌, refl, sym, ◌∙◌, subst, length, drop, drop-cons, add-one, slice_index_or, append_assoc, append-nil, arith}
use Rattle.std.proofs.lemmas.List.{drop_all}
use Rattle.serde_json.specs.Data.{Data, Items, no_items, item}
use Rattle.serde_json.specs.View.{view, items_view}
use Rattle.serde_json.specs.declared.value.Value.{Value}
use Rattle.std.specs.Prelude.{Option, Some, None, Result, Ok, Err, IfOk}
use Rattle.serde_json.specs.Find.{as_array}
use Rattle.run_reports.specs.declared.entry.Entry.{Entry as Noted}
use Rattle.show_logs.specs.Reading.{ReadsEntries, ReadsList}
use Rattle.show_logs.specs.Written.{AreWritten, WritesEntry}

-- the item at a place, and those behind it
pub items_next : (values : List Value) (at : ℕ) (value : Value) → at < length values → value ≡ slice_index_or values at value
    → items_view (drop at values) ≡ item (view value) (items_view (drop (at + 1) values))
items_next values at value below is = rw (add-one, drop-cons values at value, ← is) refl

module _ {A : Type 0} (Writes : Data → A → Type 0) where
  -- with whatever the rest says the whole says what was read and that; and whatever the whole says, the rest says something
  pub record SoFar (values : List Value) (at : ℕ) (read : List A) : Type 0 where
    pub on : (rest : List A) → AreWritten Writes (items_view (drop at values)) rest → AreWritten Writes (items_view values) (read ++ rest)
    pub back : (all : List A) → AreWritten Writes (items_view values) all → (rest : List A) × AreWritten Writes (items_view (drop at values)) rest

  -- at the begin
  pub none_read : (values : List Value) → SoFar values 0 []
  none_read values = record { on = λ rest h. h; back = λ all h. (all, h) }

  rest_of : (d : Data) (ds : Items) (rest : List A) → AreWritten Writes (item d ds) rest → (more : List A) × AreWritten Writes ds more
  rest_of d ds [] h = absurd h
  rest_of d ds (y ∷ ys) h = (ys, h.1)

  first_of : (d : Data) (ds : Items) (rest : List A) → ((x : A) → Writes d x → ⊥) → AreWritten Writes (item d ds) rest → ⊥
  first_of d ds [] none h = absurd h
  first_of d ds (y ∷ ys) none h = none y h.0

  -- one more was read
  pub one_read : (values : List Value) (at : ℕ) (value : Value) (read : List A) (x : A) → at < length values → value ≡ slice_index_or values at value
      → SoFar values at read
      → Writes (view value) x
      → SoFar values (at + 1) (read ++ x ∷ [])
  one_read values at value read x below is s w =
      let rest_view = items_view (drop (at + 1) values) in
      let next = items_next values at value below is in
      record {
        on =
            λ rest h.
            subst (λ (l : List A). AreWritten Writes (items_view values) l) (sym (append_assoc read (x ∷ []) rest))
            (s.on (x ∷ rest) (subst (λ (i : Items). AreWritten Writes i (x ∷ rest)) (sym next) (w, h)));
        back =
            λ all h.
            let r = s.back all h in
            rest_of (view value) rest_view r.0 (subst (λ (i : Items). AreWritten Writes i r.0) next r.1);
      }

  -- one was refused
  pub one_refused : (values : List Value) (at : ℕ) (value : Value) (read : List A) → at < length values → value ≡ slice_index_or values at value
      → SoFar values at read
      → ((x : A) → Writes (view value) x → ⊥)
      → (all : List A)
      → AreWritten Writes (items_view values) all
      → ⊥
  one_refused values at value read below is s none all h =
      let r = s.back all h in
      first_of (view value) (items_view (drop (at + 1) values)) r.0 none
      (subst (λ (i : Items). AreWritten Writes i r.0) (items_next values at value below is) r.1)

  -- the end was reached
  pub all_read : (values : List Value) (at : ℕ) (read : List A) → length values ≤ at → SoFar values at read → AreWritten Writes (items_view values) read
  all_read values at read past s =
      let none : drop at values ≡ [] = drop_all at values past in
      subst (λ (l : List A). AreWritten Writes (items_view values) l) (append-nil read)
      (s.on [] (subst (λ (vs : List Value). AreWritten Writes (items_view vs) []) (sym none) tt))

-- how many a list says
pub count : Items → ℕ
count no_items = 0
count (item d ds) = count ds + 1

pub counted : {A : Type 0} (Writes : Data → A → Type 0) (items : Items) (xs : List A) → AreWritten Writes items xs → length xs ≡ count items
unfolding count
counted Writes no_items [] h = refl
counted Writes no_items (x ∷ xs) h = absurd h
counted Writes (item d ds) [] h = absurd h
counted Writes (item d ds) (x ∷ xs) h = let more = counted Writes ds xs h.1 in omega (arith, more)

-- what is read of the items of a list is read of its value
pub list_reads : {X : Type 0} (d : Data) (items : Items) (answer : Result (Option (List Noted)) X) → as_array d ≡ Some items → IfOk answer (ReadsEntries items)
    → IfOk answer (ReadsList d)
list_reads d items (Ok (Some entries)) is h = record { items = items; list = is; are = h }
list_reads d items (Ok None) is h = λ entries w.
    let same : w.items ≡ items = some_items w.items items (sym w.list ∙ is) in
    h entries (subst (λ (i : Items). AreWritten WritesEntry i entries) same w.are)
  where
    some_items : (a b : Items) → Some a ≡ Some b → a ≡ b
    some_items a b q = cc
list_reads d items (Err x) is h = tt

-- a value that is no list says no entries
pub no_array : (d : Data) → as_array d ≡ None → ReadsList d None
no_array d none entries h = let wrong : None ≡ Some h.items = sym none ∙ h.list in cc
