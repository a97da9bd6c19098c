-- An entry more that is no build and no input.
use Rattle.std.proofs.Common.{◌≡◌, List, [], ◌∷◌, ◌++◌, map, false, refl, arith}
use Rattle.rt_model.specs.Reports.{is_opening}
use Rattle.rt_model.specs.Told.{count_entries}
use Rattle.run_reports.specs.Seen.{entry_of}
use Rattle.run_reports.specs.declared.entry.Entry.{Entry}

-- there is still none among them
pub later : (log : List Entry) (entry : Entry) → is_opening (entry_of entry) ≡ false →
    count_entries is_opening (map entry_of log) ≡ 0 → count_entries is_opening (map entry_of (log ++ entry ∷ [])) ≡ 0
later [] entry none start = rw none refl
later (e ∷ log) entry none start =
    let rest : count_entries is_opening (map entry_of log) ≡ 0 = omega (arith, start) in
    let more : count_entries is_opening (map entry_of (log ++ entry ∷ [])) ≡ 0 = later log entry none rest in
    rw more (omega (arith, start))
