-- Numbers and listeners aren't spelt.
use Rattle.std.proofs.Common.{◌≡◌, List, ℕ, ◌++◌, refl, ap, ap₂}
use Rattle.std.specs.Prelude.{codes}
use Rattle.rt_model.specs.Document.{DocElement, DocText, DocPlaceholder, Forest, Empty, Node}
use Rattle.rt_html.specs.Spelling.{closing, escaped, html, opening}
use Rattle.rt_html.specs.Tokens.{plain}

pub spelt_alike : (f : Forest) → html (plain f) ≡ html f
spelt_alike Empty = refl
spelt_alike (Node number (DocText text) children rest) = ap (λ (later : List ℕ). (codes "<!--t-->" ++ escaped text) ++ later) (spelt_alike rest)
spelt_alike (Node number DocPlaceholder children rest) = ap (λ (later : List ℕ). codes "<!--p-->" ++ later) (spelt_alike rest)
spelt_alike (Node number (DocElement tag namespace attributes listeners) children rest) =
    ap₂ (λ (inner later : List ℕ). (opening namespace tag attributes ++ (inner ++ closing namespace tag)) ++ later) (spelt_alike children)
    (spelt_alike rest)
