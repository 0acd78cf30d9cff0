-- What every history is.
use Rattle.std.specs.Prelude.{◌≡◌, ◌≤◌, length, None}
use Rattle.std.specs.List.{All}
use Rattle.history.specs.Stack.{Stack}
use Rattle.history.specs.Faults.{item_fault}

-- no item has a fault: none is of demosaic, each one's instance stands in the order, and its values are within their ranges
pub record IsHistory (h : Stack) : Type 0 where
  pub items : All (λ item. item_fault h.order item ≡ None) h.items
  pub end : h.end ≤ length h.items
