-- Entries of code are the same just where those of the definitions are.
use Rattle.std.proofs.Common.{Bool, true, false, ◌≡◌, refl, sym, ap, ◌∙◌}
use Rattle.std.specs.Prelude.{IsTrue, ◌↔◌}
use Rattle.rt_model.specs.Replay as replay
use Rattle.rt_model.specs.Replay.{same_entry}
use Rattle.rt_model.proofs.Maps.{by_test}
use Rattle.rt_model.proofs.OneLogOnly.{same_entry-true}
use Rattle.law_moves.proofs.Acceptance.{same_as_itself}
use Rattle.run_reports.specs.Seen.{entry_of}
use Rattle.run_reports.specs.declared.entry.Entry.{Entry}
use Rattle.run_reports.specs.declared.entry.Entry.TheVariants as entries

-- the entry of code that is one of the definitions
abbrev code_of : replay.Entry → Entry
code_of replay.Build = entries.Build
code_of (replay.Taken k) = entries.Input k
code_of (replay.Heard s) = entries.Heard (record { 0 = s })
code_of (replay.Rerun s) = entries.Rerun (record { 0 = s })
code_of (replay.Poll t) = entries.Poll (record { 0 = t })
code_of (replay.Effects s) = entries.Effects (record { 0 = s })
code_of (replay.Made s) = entries.Made (record { 0 = s })
code_of (replay.Fed s) = entries.Fed (record { 0 = s })
code_of (replay.Kept s) = entries.Kept (record { 0 = s })
code_of (replay.Removed s) = entries.Removed (record { 0 = s })

back : (e : Entry) → code_of (entry_of e) ≡ e
back entries.Build = refl
back (entries.Input k) = refl
back (entries.Heard s) = refl
back (entries.Rerun s) = refl
back (entries.Poll t) = refl
back (entries.Effects s) = refl
back (entries.Made s) = refl
back (entries.Fed s) = refl
back (entries.Kept s) = refl
back (entries.Removed s) = refl

-- a test that holds just of equal entries
pub same_is : (a b : Entry) (answer : Bool) → (IsTrue answer ↔ (a ≡ b)) → answer ≡ same_entry (entry_of a) (entry_of b)
same_is a b true h = sym (ap (λ (e : Entry). same_entry (entry_of a) (entry_of e)) (sym (h.0 refl)) ∙ same_as_itself (entry_of a))
same_is a b false h =
    by_test (same_entry (entry_of a) (entry_of b))
    (
    λ q.
    let same : a ≡ b = sym (back a) ∙ ap (λ (e : replay.Entry). code_of e) (same_entry-true (entry_of a) (entry_of b) q) ∙ back b in
    let wrong : false ≡ true = h.1 same in
    wrong ∙ sym q
    )
    (λ q. sym q)

-- the test looks the same from both sides
pub other_way : (d e : replay.Entry) → same_entry d e ≡ false → same_entry e d ≡ false
other_way d e h =
    by_test (same_entry e d)
    (
    λ q.
    let same : e ≡ d = same_entry-true e d q in
    let wrong : true ≡ false = sym (same_as_itself d) ∙ ap (λ (x : replay.Entry). same_entry d x) (sym same) ∙ h in
    cc
    )
    (λ q. q)
