use Rattle.std.proofs.Common.{◌≡◌, ◌++◌, take, drop}
use Rattle.mip_cache.specs.Mipmaps.{with_held}
use Rattle.mip_cache.proofs.lists.set_held.Given as goal

-- the entries so far are set, and the others are as they were
abbrev pub invariant-loop-entry : goal.invariant-loop-entry
invariant-loop-entry l =
    l.entry-items ≡ with_held l.level l.held (take l.entry-index l.initial.entry-items) ++ drop l.entry-index l.initial.entry-items
