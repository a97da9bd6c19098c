-- Fronts of texts that were put, one after the other.
use Rattle.std.proofs.Common.{◌≡◌, List, [], ◌∷◌, ◌++◌, ℕ, Some, None, refl, ap, sym, ◌∙◌, append_assoc, append-nil}
use Rattle.show_streams.specs.Writes.{AddsFront, Begins, Puts, grown}
pub use Rattle.show_streams.proofs.OnePut.{grown_none}

-- what is put twice is put at once
pub grown_both : (old : Puts) (a b : List (List ℕ)) → grown (grown old a) b ≡ grown old (a ++ b)
grown_both None a b = refl
grown_both (Some puts) a b = ap Some (append_assoc puts a b)

-- nothing is a front of any texts
pub front_none : (old : Puts) (texts : List (List ℕ)) → AddsFront old old texts
front_none old texts = record { front = []; part = []; rest = texts; whole = refl; begun = tt; added = sym (grown_none old) }

-- texts are a front of themselves
pub front_whole : (old new : Puts) (texts : List (List ℕ)) → new ≡ grown old texts → AddsFront old new texts
front_whole old new texts put = record {
  front = texts;
  part = [];
  rest = [];
  whole = sym (append-nil texts);
  begun = tt;
  added = put ∙ ap (λ (t : List (List ℕ)). grown old t) (sym (append-nil texts));
}

-- texts that were put, and behind them a front of others
pub front_after : (old mid new : Puts) (a b : List (List ℕ)) → mid ≡ grown old a → AddsFront mid new b → AddsFront old new (a ++ b)
front_after old mid new a b first second = record {
  front = a ++ second.front;
  part = second.part;
  rest = second.rest;
  whole = ap (λ (t : List (List ℕ)). a ++ t) second.whole ∙ sym (append_assoc a second.front second.rest);
  begun = second.begun;
  added =
      second.added ∙ ap (λ (o : Puts). grown o (second.front ++ second.part)) first ∙ grown_both old a (second.front ++ second.part)
      ∙ ap (λ (t : List (List ℕ)). grown old t) (sym (append_assoc a second.front second.part));
}

begun_more : (part texts more : List (List ℕ)) → Begins part texts → Begins part (texts ++ more)
begun_more [] texts more begun = tt
begun_more (part ∷ parts) [] more begun = absurd begun
begun_more (part ∷ parts) (text ∷ texts) more begun = begun

-- a front of texts is one of these and more
pub front_more : (old new : Puts) (a b : List (List ℕ)) → AddsFront old new a → AddsFront old new (a ++ b)
front_more old new a b first = record {
  front = first.front;
  part = first.part;
  rest = first.rest ++ b;
  whole = ap (λ (t : List (List ℕ)). t ++ b) first.whole ∙ append_assoc first.front first.rest b;
  begun = begun_more first.part first.rest b first.begun;
  added = first.added;
}

-- texts that were put are a front of these and more
pub front_first : (old new : Puts) (a b : List (List ℕ)) → new ≡ grown old a → AddsFront old new (a ++ b)
front_first old new a b put = front_more old new a b (front_whole old new a put)
