use Rattle.std.proofs.Common.{◌≤◌, ◌+◌, take}
use Rattle.std.specs.Prelude.{vec_len, vec_capacity}
use Rattle.history.proofs.ItemLemmas.{IsCompressing}
use Rattle.history.proofs.lists.compress.Given as goal

-- those taken off are compressed, and there is room for those that are left
abbrev pub invariant-loop-item : goal.invariant-loop-item
invariant-loop-item l = IsCompressing (take l.end l.fn.items.items) l.items.items l.kept.items × (vec_len l.kept + vec_len l.items ≤ vec_capacity l.kept)

abbrev pub decreases-loop-item : goal.decreases-loop-item
decreases-loop-item l = vec_len l.items
