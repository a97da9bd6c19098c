-- The line of a report tells all that it counts.
use Rattle.std.proofs.Common.{◌≡◌, ◌∙◌, ℕ, ◌^◌, ◌<◌, List, [], ◌∷◌, ◌++◌, ap, refl, map, sym, append_assoc}
use Rattle.std.proofs.lemmas.List.{append_cancel_left}
use Rattle.std.specs.Prelude.{decimal, codes}
use Rattle.rt_model.specs.Reports.{Report}
use Rattle.rt_language.specs.Lines.{entry_text, spaced, counts_text, report_line}
use Rattle.lang_lines.specs.Told.{IsSmall, Alike}
use Rattle.lang_lines.proofs.Names.{Ends, numbers_told}
use Rattle.lang_lines.proofs.Entries.{words_of, logs_parted}

-- from the counted edits on, from the bodies on, from the units on, from the number on; and then what follows the line
last_part : Report → List ℕ → List ℕ
last_part r p = words_of r.log ++ (10 ∷ p)

edits_part : Report → List ℕ → List ℕ
edits_part r p = decimal r.edits ++ (codes " log" ++ last_part r p)

bodies_part : Report → List ℕ → List ℕ
bodies_part r p = decimal r.bodies ++ (codes " edits " ++ edits_part r p)

units_part : Report → List ℕ → List ℕ
units_part r p = decimal r.units ++ (codes " bodies " ++ bodies_part r p)

behind_number : Report → List ℕ → List ℕ
behind_number r p = codes " units " ++ units_part r p

-- eleven texts, the last ones first
nested : (a b c d e f g h i j k : List ℕ) →
    (((((((((a ++ b) ++ c) ++ d) ++ e) ++ f) ++ g) ++ h) ++ i) ++ j) ++ k ≡ a ++ (b ++ (c ++ (d ++ (e ++ (f ++ (g ++ (h ++ (i ++ (j ++
    k)))))))))
nested a b c d e f g h i j k =
    append_assoc ((((((((a ++ b) ++ c) ++ d) ++ e) ++ f) ++ g) ++ h) ++ i) j k
    ∙ append_assoc (((((((a ++ b) ++ c) ++ d) ++ e) ++ f) ++ g) ++ h) i (j ++ k)
    ∙ append_assoc ((((((a ++ b) ++ c) ++ d) ++ e) ++ f) ++ g) h (i ++ (j ++ k))
    ∙ append_assoc (((((a ++ b) ++ c) ++ d) ++ e) ++ f) g (h ++ (i ++ (j ++ k)))
    ∙ append_assoc ((((a ++ b) ++ c) ++ d) ++ e) f (g ++ (h ++ (i ++ (j ++ k))))
    ∙ append_assoc (((a ++ b) ++ c) ++ d) e (f ++ (g ++ (h ++ (i ++ (j ++ k)))))
    ∙ append_assoc ((a ++ b) ++ c) d (e ++ (f ++ (g ++ (h ++ (i ++ (j ++ k))))))
    ∙ append_assoc (a ++ b) c (d ++ (e ++ (f ++ (g ++ (h ++ (i ++ (j ++ k)))))))
    ∙ append_assoc a b (c ++ (d ++ (e ++ (f ++ (g ++ (h ++ (i ++ (j ++ k))))))))

-- the line by its parts, and then what follows it
line_is : (number : ℕ) (r : Report) (p : List ℕ) → report_line number r ++ p ≡ codes "report " ++ (decimal number ++ behind_number r p)
unfolding behind_number units_part bodies_part edits_part last_part words_of
line_is number r p =
    append_assoc (counts_text number r ++ codes " log" ++ spaced (map entry_text r.log)) (codes "\n") p
    ∙ nested (codes "report ") (decimal number) (codes " units ") (decimal r.units) (codes " bodies ") (decimal r.bodies)
    (codes " edits ") (decimal r.edits)
    (codes " log") (spaced (map entry_text r.log)) (10 ∷ p)

-- the lines of one number and what follows them are told apart behind it
behind_parted : (r s : Report) (p q : List ℕ) → IsSmall r → IsSmall s → behind_number r p ≡ behind_number s q → Alike r s × (p ≡ q)
unfolding behind_number units_part bodies_part edits_part last_part
behind_parted r s p q small little same =
    let units = numbers_told r.units s.units (codes " bodies " ++ bodies_part r p) (codes " bodies " ++ bodies_part s q) small.units
    little.units refl refl
    (append_cancel_left (codes " units ") (units_part r p) (units_part s q) same) in
    let bodies = numbers_told r.bodies s.bodies (codes " edits " ++ edits_part r p) (codes " edits " ++ edits_part s q) small.bodies
    little.bodies refl refl
    (append_cancel_left (codes " bodies ") (bodies_part r p) (bodies_part s q) units.1) in
    let edits = numbers_told r.edits s.edits (codes " log" ++ last_part r p) (codes " log" ++ last_part s q) small.edits little.edits
    refl refl
    (append_cancel_left (codes " edits ") (edits_part r p) (edits_part s q) bodies.1) in
    let logs = logs_parted r.log s.log p q small.log little.log
    (append_cancel_left (codes " log") (last_part r p) (last_part s q) edits.1) in
    let counts : Alike r s = record { log = logs.0; units = units.0; bodies = bodies.0; edits = edits.0 } in
    (counts, logs.1)

number_ends : (r : Report) (p : List ℕ) → Ends (behind_number r p)
unfolding behind_number
number_ends r p = refl

-- lines of reports and what follows them are told apart
pub reports_parted : (k l : ℕ) (r s : Report) (p q : List ℕ) → k < 2 ^ 64 → l < 2 ^ 64 → IsSmall r → IsSmall s
    → report_line k r ++ p ≡ report_line l s ++ q → (k ≡ l) × Alike r s × (p ≡ q)
reports_parted k l r s p q few less small little same =
    let numbers = numbers_told k l (behind_number r p) (behind_number s q) few less (number_ends r p) (number_ends s q)
    (append_cancel_left (codes "report ") (decimal k ++ behind_number r p) (decimal l ++ behind_number s q) (sym (line_is k r p) ∙ same ∙
    line_is l s q)) in
    let both = behind_parted r s p q small little numbers.1 in
    (numbers.0, both.0, both.1)

-- reports of one number with one line are alike
pub lines_tell : (number : ℕ) (r s : Report) → IsSmall r → IsSmall s → report_line number r ≡ report_line number s → Alike r s
lines_tell number r s small little same =
    let whole : codes "report " ++ (decimal number ++ behind_number r []) ≡ codes "report " ++ (decimal number ++ behind_number s []) =
    sym (line_is number r []) ∙ ap (λ t. t ++ []) same ∙ line_is number s [] in
    let both = behind_parted r s [] [] small little
    (append_cancel_left (decimal number) (behind_number r []) (behind_number s [])
    (append_cancel_left (codes "report ") (decimal number ++ behind_number r []) (decimal number ++ behind_number s []) whole)) in
    both.0
