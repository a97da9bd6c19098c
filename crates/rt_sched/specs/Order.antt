-- Scopes by height, and then by number.
use Rattle.std.specs.Prelude.{Bool, ◌||◌, ◌&&◌, ◌==◌, nat_lt}
use Rattle.rt_sched.specs.declared.order.ScopeOrder.{ScopeOrder}

-- whether work of the order a comes before work of the order b
abbrev pub order_before : ScopeOrder → ScopeOrder → Bool
order_before a b = nat_lt a.height b.height || (a.height == b.height && nat_lt a.id.0 b.id.0)

-- whether a and b are one order
abbrev pub same_order : ScopeOrder → ScopeOrder → Bool
same_order a b = a.height == b.height && a.id.0 == b.id.0
