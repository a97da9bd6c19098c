-- Slots of one part and then those of another: grouped either way they are the same, and no slots change nothing.
use Rattle.std.proofs.Common.{List, [], ◌∷◌, ◌++◌, ◌≡◌, sym, ap, ◌∙◌, map}
use Rattle.std.proofs.lemmas.List.{append_assoc}
use Rattle.rt_model.specs.Program.{Program, done}
use Rattle.rt_language.specs.Expressions.{SourceTypes}
use Rattle.rt_language.specs.Sequence.{go_on}
use Rattle.rt_language.specs.Syntax.{NoViews}
use Rattle.rt_language.specs.Views.{Filling, nothing_filled, filled_on, fill}
use Rattle.lang_views.specs.Plans.{Held, filled, fill_of}
use Rattle.lang_views.specs.Meant.{then_filled, filled_by, view_filled}
use Rattle.lang_views.specs.declared.plan.Fill.{Fill}
use Rattle.lang_views.proofs.Sequence.{go_on-assoc, go_on-done}
use Rattle.lang_views.proofs.Taken.{append_nil, map-append}

on_filled : (a b c : Filling) → filled_on (filled_on a b) c ≡ filled_on a (filled_on b c)
on_filled a b c = λ i. record { attributes = append_assoc a.attributes b.attributes c.attributes i; slots = append_assoc a.slots b.slots c.slots i }

on_nothing : (a : Filling) → filled_on a nothing_filled ≡ a
on_nothing a = λ i. record { attributes = append_nil a.attributes i; slots = append_nil a.slots i }

-- a program that fills slots
abbrev Filler : Type 0
Filler = Program SourceTypes Filling

-- more slots, after some
abbrev pub then_on : Filling → Filler → Filler
then_on f q = go_on q (λ g. done (filled_on f g))

-- the slots of one program, and then those of another
abbrev pub both : Filler → Filler → Filler
both p q = go_on p (λ f. then_on f q)

-- two programs after some slots
pub after-both : (f : Filling) (q r : Filler) → then_on f (both q r) ≡ go_on q (λ g. go_on r (λ k. done (filled_on f (filled_on g k))))
unfolding go_on
after-both f q r =
    go_on-assoc q (λ g. then_on g r) (λ h. done (filled_on f h)) ∙
    (λ i. go_on q (λ g. go_on-assoc r (λ k. done (filled_on g k)) (λ h. done (filled_on f h)) i))

after-first : (f : Filling) (q r : Filler) → go_on (then_on f q) (λ h. then_on h r) ≡ then_on f (both q r)
unfolding go_on
after-first f q r =
    go_on-assoc q (λ g. done (filled_on f g)) (λ h. then_on h r) ∙
    (λ i. go_on q (λ g. go_on r (λ k. done (on_filled f g k i)))) ∙
    sym (after-both f q r)

both-assoc : (p q r : Filler) → both (both p q) r ≡ both p (both q r)
both-assoc p q r = go_on-assoc p (λ f. then_on f q) (λ h. then_on h r) ∙ (λ i. go_on p (λ f. after-first f q r i))

both-nothing : (p : Filler) → both p (done nothing_filled) ≡ p
unfolding go_on
both-nothing p = (λ i. go_on p (λ f. done (on_nothing f i))) ∙ go_on-done p

pub then-assoc : (a b c : Held Filling) → then_filled (then_filled a b) c ≡ then_filled a (then_filled b c)
unfolding then_filled
then-assoc a b c = λ i by held. both-assoc (a by held) (b by held) (c by held) i

-- nothing filled
abbrev nothing : Held Filling
nothing by held = done nothing_filled

then-nothing : (a : Held Filling) → then_filled a nothing ≡ a
unfolding then_filled
then-nothing a = λ i by held. both-nothing (a by held) i

nothing-then : (a : Held Filling) → then_filled nothing a ≡ a
unfolding then_filled go_on
nothing-then a = λ i by held. go_on-done (a by held) i

-- after the slots of no view
pub then-no-view : (a : Held Filling) → then_filled a (view_filled NoViews) ≡ a
unfolding view_filled fill
then-no-view a = then-nothing a

-- no slots before others
pub no-fill-then : (a : Held Filling) → then_filled (filled_by []) a ≡ a
unfolding filled_by
no-fill-then a = nothing-then a

more : (hs : List (Held Filling)) (h : Held Filling) → filled (hs ++ h ∷ []) ≡ then_filled (filled hs) h
unfolding then_filled
more [] h = then-nothing h ∙ sym (nothing-then h)
more (g ∷ hs) h = ap (λ rest. then_filled g rest) (more hs h) ∙ sym (then-assoc g (filled hs) h)

-- one more slot
pub one-more : (fills : List Fill) (x : Fill) → filled_by (fills ++ x ∷ []) ≡ then_filled (filled_by fills) (fill_of x)
unfolding filled_by
one-more fills x = ap (λ hs. filled hs) (map-append fill_of fills (x ∷ [])) ∙ more (map fill_of fills) (fill_of x)

-- one more slot before others
pub more-then : (before after : List Fill) (x : Fill) (rest : Held Filling) → after ≡ before ++ x ∷ []
    → then_filled (filled_by after) rest ≡ then_filled (filled_by before) (then_filled (fill_of x) rest)
more-then before after x rest is =
    ap (λ fills. then_filled (filled_by fills) rest) is ∙
    ap (λ h. then_filled h rest) (one-more before x) ∙
    then-assoc (filled_by before) (fill_of x) rest
