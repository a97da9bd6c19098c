-- The spelling of nodes, token by token.
use Rattle.std.proofs.Common.{◌≡◌, List, ℕ, [], ◌∷◌, ◌++◌, refl, sym, ap, ap₂, ◌∙◌, append_assoc}
use Rattle.std.specs.Prelude.{codes}
use Rattle.std.specs.List.{flat_map}
use Rattle.rt_language.specs.Lines.{qualified}
use Rattle.rt_model.specs.Document.{DocElement, DocText, DocPlaceholder, Forest, Empty, Node}
use Rattle.rt_html.specs.Spelling.{attribute_html, closing, escaped, html, opening}
use Rattle.rt_html.specs.Tokens.{Token, Opens, Shuts, Says, Holds, body_html, tokens, tokens_html}

-- tokens and then others
told-append : (first later : List Token) → tokens_html (first ++ later) ≡ tokens_html first ++ tokens_html later
told-append [] later = refl
told-append (token ∷ first) later =
    ap (λ (t : List ℕ). codes "<" ++ (body_html token ++ t)) (told-append first later)
    ∙ ap (λ (t : List ℕ). codes "<" ++ t) (sym (append_assoc (body_html token) (tokens_html first) (tokens_html later)))

pub told : (f : Forest) → html f ≡ tokens_html (tokens f)
told Empty = refl
told (Node number (DocText text) children rest) = ap (λ (later : List ℕ). (codes "<!--t-->" ++ escaped text) ++ later) (told rest)
told (Node number DocPlaceholder children rest) = ap (λ (later : List ℕ). codes "<!--p-->" ++ later) (told rest)
told (Node number (DocElement tag namespace attributes listeners) children rest) =
    let begin : List ℕ = opening namespace tag attributes in
    let end : List ℕ = closing namespace tag in
    append_assoc begin (html children ++ end) (html rest)
    ∙ ap (λ (t : List ℕ). begin ++ t) (append_assoc (html children) end (html rest))
    ∙ ap₂ (λ (inner later : List ℕ). begin ++ (inner ++ (end ++ later))) (told children) (told rest)
    ∙ ap (λ (t : List ℕ). begin ++ t) (sym (told-append (tokens children) (Shuts namespace tag ∷ tokens rest)))
