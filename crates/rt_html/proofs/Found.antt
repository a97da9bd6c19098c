-- What is read of a spelling, and that nothing that is read of one is refused afterwards.
use Rattle.std.proofs.Common.{◌≡◌, Bool, true, false, ℕ, List, Option, Some, None, refl, sym, ap, ◌∙◌}
use Rattle.std.specs.Option.{is_none, unwrap_or}
use Rattle.std.proofs.lemmas.Bool.{both_ways, true≢false}
use Rattle.rt_model.specs.Document.{Forest}
use Rattle.rt_html.specs.Parts.{nodes_in}
use Rattle.rt_html.specs.Reading.{IsSpelling, are_fit}
use Rattle.rt_html.specs.Spelling.{html}
use Rattle.rt_html.specs.Tokens.{plain}
use Rattle.rt_html.proofs.Alike.{spelt_alike}
use Rattle.rt_html.proofs.Forward.{plain_fit, spelling-back}

-- what is read of the spelling of nodes
pub read_of : (text : List ℕ) (nodes : Forest) → IsSpelling text nodes → nodes_in text ≡ Some (plain nodes)
read_of text nodes is = ap nodes_in is.spelt ∙ spelling-back nodes is.fit

same_nodes : (text : List ℕ) (found nodes : Forest) → Some found ≡ nodes_in text → IsSpelling text nodes → found ≡ plain nodes
same_nodes text found nodes e is = ap (λ (o : Option Forest). unwrap_or o found) (e ∙ read_of text nodes is)

pub refused_by_reader : (text : List ℕ) → None ≡ nodes_in text → (nodes : Forest) → IsSpelling text nodes → None ≡ Some (plain nodes)
refused_by_reader text e nodes is = e ∙ read_of text nodes is

pub refused_by_fit : (text : List ℕ) (found : Forest) → Some found ≡ nodes_in text → are_fit 1024 found ≡ false
    → (nodes : Forest) → IsSpelling text nodes → None ≡ Some (plain nodes)
refused_by_fit text found e unfit nodes is =
    absurd (both_ways (are_fit 1024 found) unfit (ap (are_fit 1024) (same_nodes text found nodes e is) ∙ plain_fit nodes 1024 is.fit))

pub refused_by_text : (text : List ℕ) (found : Forest) → Some found ≡ nodes_in text → (html found ≡ text → ⊥)
    → (nodes : Forest) → IsSpelling text nodes → None ≡ Some (plain nodes)
refused_by_text text found e other nodes is =
    absurd (other (ap html (same_nodes text found nodes e is) ∙ spelt_alike nodes ∙ sym is.spelt))

pub found_nodes : (text : List ℕ) (found : Forest) → Some found ≡ nodes_in text → (nodes : Forest) → IsSpelling text nodes → Some found ≡ Some (plain nodes)
found_nodes text found e nodes is = e ∙ read_of text nodes is

-- nodes that may be read and have one spelling
pub spelt_apart : (nodes others : Forest) → are_fit 1024 nodes ≡ true → are_fit 1024 others ≡ true → html nodes ≡ html others → plain nodes ≡ plain others
spelt_apart nodes others fit also same =
    ap (λ (o : Option Forest). unwrap_or o (plain nodes)) (sym (spelling-back nodes fit) ∙ ap nodes_in same ∙ spelling-back others also)
