-- A statement by the levels that are left.
use Rattle.std.proofs.Common.{◌≡◌, ◌<◌, ◌-◌, ℕ, zero, suc, List, None, refl, ap, arith}
use Rattle.serde_json.specs.Data.{Data}
use Rattle.lang_expressions.specs.declared.signatures.Names.{Names}
use Rattle.lang_sources.specs.declared.forms.Place.{Place}
use Rattle.lang_sources.specs.Statements.{statement_of, statement_step, block_of}

-- no level is left
pub statement_none : (levels : ℕ) (names : Names) (place : Place) (variables : List (List ℕ)) (d : Data) → levels ≡ 0 → statement_of levels names place variables d ≡ None
unfolding statement_of
statement_none zero names place variables d none = refl
statement_none (suc levels) names place variables d none = absurd (omega arith)

-- one level goes to this statement
pub statement_some : (levels : ℕ) (names : Names) (place : Place) (variables : List (List ℕ)) (d : Data) → 0 < levels →
    statement_of levels names place variables d ≡ statement_step (block_of (statement_of (levels - 1) names place)) names place variables d
unfolding statement_of
statement_some zero names place variables d some = absurd (omega arith)
statement_some (suc levels) names place variables d some =
    let e : levels ≡ suc levels - 1 = omega arith in ap (λ n. statement_step (block_of (statement_of n names place)) names place variables d) e

pub ruleset statement_levels = (statement_none, statement_some)
