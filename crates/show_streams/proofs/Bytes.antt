-- A front of texts, as bytes.
use Rattle.std.proofs.Common.{◌≡◌, ℕ, List, [], ◌∷◌, ◌++◌, Option, Some, None, refl, sym, ap, ◌∙◌, append_assoc, append-nil}
use Rattle.std.specs.List.{concat}
use Rattle.show_streams.specs.Writes.{AddsBytes, AddsFront, Begins, Puts, bytes_in, grown, longer}

concat-append : (xs ys : List (List ℕ)) → concat (xs ++ ys) ≡ concat xs ++ concat ys
concat-append [] ys = refl
concat-append (x ∷ xs) ys = ap (λ (text : List ℕ). x ++ text) (concat-append xs ys) ∙ sym (append_assoc x (concat xs) (concat ys))

-- what was put besides is behind what was there
pub grown_bytes : (old : Puts) (more : List (List ℕ)) → bytes_in (grown old more) ≡ longer (bytes_in old) (concat more)
grown_bytes None more = refl
grown_bytes (Some puts) more = ap Some (concat-append puts more)

-- the bytes of a part of texts are a front of theirs
begun_bytes : (part texts : List (List ℕ)) → Begins part texts → (rest : List ℕ) × (concat texts ≡ concat part ++ rest)
begun_bytes [] texts begun = (concat texts, refl)
begun_bytes (part ∷ parts) [] begun = absurd begun
begun_bytes (part ∷ []) (text ∷ texts) begun =
    let more = begun.1.0 in (
      more ++ concat texts,
      ap (λ (bytes : List ℕ). bytes ++ concat texts) begun.1.1 ∙ append_assoc part more (concat texts)
          ∙ ap (λ (bytes : List ℕ). bytes ++ (more ++ concat texts)) (sym (append-nil part)),
    )
begun_bytes (part ∷ (next ∷ parts)) (text ∷ texts) begun = absurd (cc (begun.0))

-- a front of texts is a front of their bytes
pub front_bytes : (texts : List (List ℕ)) (old new : Puts) → AddsFront old new texts → AddsBytes (bytes_in old) (bytes_in new) (concat texts)
front_bytes texts old new f =
    let begun = begun_bytes f.part f.rest f.begun in
    let front = concat f.front in
    let part = concat f.part in
    record {
      front = front ++ part;
      rest = begun.0;
      whole =
          ap concat f.whole ∙ concat-append f.front f.rest ∙ ap (λ (bytes : List ℕ). front ++ bytes) begun.1
          ∙ sym (append_assoc front part begun.0);
      added =
          ap bytes_in f.added ∙ grown_bytes old (f.front ++ f.part)
          ∙ ap (λ (bytes : List ℕ). longer (bytes_in old) bytes) (concat-append f.front f.part);
    }
