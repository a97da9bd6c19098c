-- A view node by the levels that are left.
use Rattle.std.proofs.Common.{◌≡◌, ◌<◌, ◌-◌, ℕ, zero, suc, List, Option, None, refl, ap, arith}
use Rattle.serde_json.specs.Data.{Data}
use Rattle.lang_expressions.specs.declared.signatures.Names.{Names}
use Rattle.lang_expressions.specs.Views.{node_of, node_step, views_of}

-- no level is left
pub node_none : (levels : ℕ) (names : Names) (variables : List (List ℕ)) (d : Data) → levels ≡ 0 → node_of levels names variables d ≡ None
unfolding node_of
node_none zero names variables d none = refl
node_none (suc levels) names variables d none = absurd (omega arith)

-- one level goes to this node
pub node_some : (levels : ℕ) (names : Names) (variables : List (List ℕ)) (d : Data) → 0 < levels →
    node_of levels names variables d ≡ node_step (views_of (node_of (levels - 1) names)) names variables d
unfolding node_of
node_some zero names variables d some = absurd (omega arith)
node_some (suc levels) names variables d some =
    let e : levels ≡ suc levels - 1 = omega arith in ap (λ n. node_step (views_of (node_of n names)) names variables d) e

pub ruleset node_levels = (node_none, node_some)
