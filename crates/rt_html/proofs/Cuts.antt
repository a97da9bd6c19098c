-- Where a text is cut at a byte or behind others.
use Rattle.std.proofs.Common.{◌≡◌, Bool, true, false, ℕ, ◌<◌, List, [], ◌∷◌, ◌++◌, length, get_or, take, drop, Option, Some, None, option_map, if◌then◌else◌, nat_eq, refl, sym, ap, ◌∙◌, ⊎_elim}
use Rattle.std.specs.Prelude.{MatchOption}
use Rattle.std.specs.Borrow.{Bor}
use Rattle.std.specs.List.{All}
use Rattle.std.specs.Option.{is_none, unwrap_or}
use Rattle.std.specs.Str.Pattern.{FindsTextPrefix, StripsPrefix}
use Rattle.std.proofs.lemmas.Bool.{cases_Bool, eq-eqb, eqb-true, ne_eqb, true≢false}
use Rattle.std.proofs.lemmas.List.Elements.{All-nil, All-cons, All-head, All-tail, All-from_get_or}
use Rattle.std.proofs.lemmas.Str.Pattern.{IsSplitOnceResult, split_parts}
use Rattle.rt_html.specs.Parts.{behind, past, up_to}

-- a byte isn't of this code, and no byte is
abbrev pub Other : ℕ → ℕ → Type 0
Other code byte = nat_eq byte code ≡ false

abbrev pub Free : ℕ → List ℕ → Type 0
Free code bytes = All (Other code) bytes

-- bytes without one of this code, and then one: they are what stands before it
pub up_to-at : (code : ℕ) (bytes rest : List ℕ) → Free code bytes → up_to code (bytes ++ code ∷ rest) ≡ bytes
up_to-at code [] rest free = ap (λ (t : Bool). if t then [] else code ∷ up_to code rest) (eq-eqb code code refl)
up_to-at code (byte ∷ bytes) rest free =
    ap (λ (t : Bool). if t then [] else byte ∷ up_to code (bytes ++ code ∷ rest)) (All-head (Other code) byte bytes free)
    ∙ ap (λ (later : List ℕ). byte ∷ later) (up_to-at code bytes rest (All-tail (Other code) byte bytes free))

pub past-at : (code : ℕ) (bytes rest : List ℕ) → Free code bytes → past code (bytes ++ code ∷ rest) ≡ Some rest
past-at code [] rest free = ap (λ (t : Bool). if t then Some rest else past code rest) (eq-eqb code code refl)
past-at code (byte ∷ bytes) rest free =
    ap (λ (t : Bool). if t then Some (bytes ++ code ∷ rest) else past code (bytes ++ code ∷ rest)) (All-head (Other code) byte bytes free)
    ∙ past-at code bytes rest (All-tail (Other code) byte bytes free)

-- where no byte is of this code
pub up_to-free : (code : ℕ) (bytes : List ℕ) → Free code bytes → up_to code bytes ≡ bytes
up_to-free code [] free = refl
up_to-free code (byte ∷ bytes) free =
    ap (λ (t : Bool). if t then [] else byte ∷ up_to code bytes) (All-head (Other code) byte bytes free)
    ∙ ap (λ (later : List ℕ). byte ∷ later) (up_to-free code bytes (All-tail (Other code) byte bytes free))

pub past-free : (code : ℕ) (bytes : List ℕ) → Free code bytes → past code bytes ≡ None
past-free code [] free = refl
past-free code (byte ∷ bytes) free =
    ap (λ (t : Bool). if t then Some bytes else past code bytes) (All-head (Other code) byte bytes free)
    ∙ past-free code bytes (All-tail (Other code) byte bytes free)

-- what `split_once` says of a byte
free_before : (code : ℕ) (bytes : List ℕ) → ((i : ℕ) → i < length bytes → get_or bytes i 0 ≡ code → ⊥) → Free code bytes
free_before code bytes other = All-from_get_or (Other code) bytes 0 (λ i l. ne_eqb (get_or bytes i 0) code (other i l))

abbrev pub before_of : List ℕ → Option (Bor (List ℕ) × Bor (List ℕ)) → List ℕ
before_of text None = text
before_of text (Some parts) = parts.0.now

abbrev pub after_of : Option (Bor (List ℕ) × Bor (List ℕ)) → Option (List ℕ)
after_of None = None
after_of (Some parts) = Some parts.1.now

pub split_before : (code : ℕ) (text : List ℕ) (r : Option (Bor (List ℕ) × Bor (List ℕ))) → IsSplitOnceResult code text r → code < 128
    → before_of text r ≡ up_to code text
split_before code text None h low = sym (up_to-free code text (free_before code text (split_parts code text None h low)))
split_before code text (Some parts) h low =
    let is = split_parts code text (Some parts) h low in
    sym (ap (up_to code) is.0 ∙ up_to-at code parts.0.now parts.1.now (free_before code parts.0.now is.1))

pub split_past : (code : ℕ) (text : List ℕ) (r : Option (Bor (List ℕ) × Bor (List ℕ))) → IsSplitOnceResult code text r → code < 128
    → after_of r ≡ past code text
split_past code text None h low = sym (past-free code text (free_before code text (split_parts code text None h low)))
split_past code text (Some parts) h low =
    let is = split_parts code text (Some parts) h low in
    sym (ap (past code) is.0 ∙ past-at code parts.0.now parts.1.now (free_before code parts.0.now is.1))

-- bytes, and what stands behind them
pub behind-append : (first rest : List ℕ) → behind first (first ++ rest) ≡ Some rest
behind-append [] rest = refl
behind-append (byte ∷ first) rest =
    ap (λ (t : Bool). if t then behind first (first ++ rest) else None) (eq-eqb byte byte refl) ∙ behind-append first rest

nothing : (rest : List ℕ) → None ≡ Some rest → ⊥
nothing rest e = true≢false (ap (λ (o : Option (List ℕ)). is_none o) e)

behind-whole : (first text rest : List ℕ) → behind first text ≡ Some rest → text ≡ first ++ rest
behind-whole [] text rest h = ap (λ (o : Option (List ℕ)). unwrap_or o text) h
behind-whole (byte ∷ first) [] rest h = absurd (nothing rest h)
behind-whole (byte ∷ first) (other ∷ text) rest h = ⊎_elim
    (λ (t : nat_eq other byte ≡ true).
    let later : text ≡ first ++ rest =
    behind-whole first text rest (sym (ap (λ (u : Bool). if u then behind first text else None) t) ∙ h) in
    λ k. eqb-true other byte t k ∷ later k)
    (λ (f : nat_eq other byte ≡ false). absurd (nothing rest (sym (ap (λ (u : Bool). if u then behind first text else None) f) ∙ h)))
    (cases_Bool (nat_eq other byte))

-- what `strip_prefix` says of a text
pub strip_behind : (first text : List ℕ) (r : Option (Bor (List ℕ)))
    → MatchOption r (FindsTextPrefix first text None) (λ rest. StripsPrefix (FindsTextPrefix first) text rest.now)
    → option_map (λ (rest : Bor (List ℕ)). rest.now) r ≡ behind first text
strip_behind first text None lacks = by (behind first text) refl
  where
    by : (o : Option (List ℕ)) → behind first text ≡ o → None ≡ o
    by None e = refl
    by (Some rest) e = absurd (lacks rest (behind-whole first text rest e))
strip_behind first text (Some rest) strips =
    ap Some strips.2 ∙ sym (ap (behind first) strips.1.1 ∙ behind-append first (drop strips.0 text))
