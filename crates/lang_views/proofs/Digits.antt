-- Digits that are read one by one.
use Rattle.std.proofs.Common.{ℕ, ◌+◌, ◌*◌, ◌-◌, ◌<◌, ◌≤◌, Bool, true, false, nat_le, List, [], ◌∷◌, ◌≡◌, refl, sym, ap, subst, arith}
use Rattle.std.proofs.lemmas.Bool.{lt-leb, leb-false, leb-true}
use Rattle.std.specs.Prelude.{Option, Some, None, if◌then◌else◌}
use Rattle.std.specs.Char.{is_ascii_digit}
use Rattle.rt_lemmas.proofs.Options.{some_same as some-is}
use Rattle.rt_language.specs.Values.{digits_after}
use Rattle.lang_views.specs.Digits.{at_most, next_number}

some-none : {A : Type 0} (m : ℕ) → Some m ≡ None → A
some-none m h = cc

either : (b : Bool) (o : Option ℕ) (most : ℕ) → at_most most o ≡ None → at_most most (if b then o else None) ≡ None
either true o most h = h
either false o most h = refl

chosen : (b : Bool) (n : ℕ) → b ≡ false → (if b then Some n else None) ≡ None
chosen true n h = cc
chosen false n h = refl

greater : (n d most : ℕ) → most < n → most < n * 10 + d
greater n d most h = omega (arith, h)

-- a number above the most stays above it
past : (cs : List ℕ) (n most : ℕ) → most < n → at_most most (digits_after n cs) ≡ None
past [] n most h = chosen (nat_le n most) n (lt-leb n most h)
past (c ∷ cs) n most h = either (is_ascii_digit c) (digits_after (n * 10 + (c - 48)) cs) most (past cs (n * 10 + (c - 48)) most (greater n (c - 48) most h))

none-by : (b fits : Bool) (m most : ℕ) (cs : List ℕ) → nat_le m most ≡ fits → at_most most (if b then Some m else None) ≡ None
    → at_most most (if b then digits_after m cs else None) ≡ None
none-by false fits m most cs is h = refl
none-by true true m most cs is h = some-none m (subst (λ (f : Bool). (if f then Some m else None) ≡ None) is h)
none-by true false m most cs is h = past cs m most (leb-false m most is)

some-by : (b fits : Bool) (m most k : ℕ) (cs : List ℕ) → nat_le m most ≡ fits → at_most most (if b then Some m else None) ≡ Some k
    → (if b then digits_after m cs else None) ≡ digits_after k cs
some-by false fits m most k cs is h = some-none k (sym h)
some-by true true m most k cs is h =
    ap (λ (n : ℕ). digits_after n cs) (some-is m k (subst (λ (f : Bool). (if f then Some m else None) ≡ Some k) is h))
some-by true false m most k cs is h = some-none k (sym (subst (λ (f : Bool). (if f then Some m else None) ≡ Some k) is h))

kept-by : (fits : Bool) (m most k : ℕ) → nat_le m most ≡ fits → (if fits then Some m else None) ≡ Some k → k ≤ most
kept-by true m most k is h = subst (λ (n : ℕ). n ≤ most) (some-is m k h) (leb-true m most is)
kept-by false m most k is h = some-none k (sym h)

-- the next byte is no digit, or makes the number too great
pub digits-off : (n c most : ℕ) (cs : List ℕ) → None ≡ at_most most (next_number n c) → None ≡ at_most most (digits_after n (c ∷ cs))
digits-off n c most cs h =
    sym (none-by (is_ascii_digit c) (nat_le (n * 10 + (c - 48)) most) (n * 10 + (c - 48)) most cs refl (sym h))

-- the next byte is a digit
pub digits-on : (n c most k : ℕ) (cs : List ℕ) → Some k ≡ at_most most (next_number n c) → digits_after n (c ∷ cs) ≡ digits_after k cs
digits-on n c most k cs h =
    some-by (is_ascii_digit c) (nat_le (n * 10 + (c - 48)) most) (n * 10 + (c - 48)) most k cs refl (sym h)

-- a number that was kept isn't above the most
pub kept-below : (o : Option ℕ) (most k : ℕ) → Some k ≡ at_most most o → k ≤ most
kept-below None most k h = some-none k h
kept-below (Some m) most k h = kept-by (nat_le m most) m most k refl (sym h)

pub ruleset reading = (digits-off, digits-on, kept-below)
