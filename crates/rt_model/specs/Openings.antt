-- That the build and each input have one log, as tests that compute.
use Rattle.std.specs.Prelude.{ℕ, ◌+◌, Bool, true, false, ◌&&◌, nat_eq, List, [], ◌∷◌}
use Rattle.rt_model.specs.Tree.{Types}
use Rattle.rt_model.specs.Replay.{Entry, Build, Taken, Input, same_entry}
use Rattle.rt_model.specs.Told.{count_entries}
use Rattle.rt_model.specs.Reports.{is_opening}

-- the test that a log opens with this entry
abbrev pub opens_with : Entry → List Entry → Bool
opens_with first [] = false
opens_with first (e ∷ log) = same_entry e first && nat_eq (count_entries is_opening log) 0

-- the test of one log for each input, from the k-th on
abbrev pub inputs_from : {K : Types} → ℕ → List (Input K) → List (List Entry) → Bool
inputs_from k [] [] = true
inputs_from k (input ∷ inputs) (log ∷ logs) = opens_with (Taken k) log && inputs_from (k + 1) inputs logs
inputs_from k _ _ = false

-- the test of one log for the build and one for each input
abbrev pub one_each : {K : Types} → List (Input K) → List (List Entry) → Bool
one_each inputs [] = false
one_each inputs (log ∷ logs) = opens_with Build log && inputs_from 1 inputs logs

-- the test that the logs of inputs, from the k-th on, go before this last one
abbrev pub cut_from : {K : Types} → ℕ → List (Input K) → List (List Entry) → List Entry → Bool
cut_from k (input ∷ inputs) [] last = opens_with (Taken k) last
cut_from k (input ∷ inputs) (log ∷ logs) last = opens_with (Taken k) log && cut_from (k + 1) inputs logs last
cut_from k [] logs last = false

-- the test that finished logs go before this last one
abbrev pub one_each_then : {K : Types} → List (Input K) → List (List Entry) → List Entry → Bool
one_each_then inputs [] last = opens_with Build last
one_each_then inputs (log ∷ logs) last = opens_with Build log && cut_from 1 inputs logs last
