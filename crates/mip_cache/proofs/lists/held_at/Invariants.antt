use Rattle.std.proofs.Common.{◌≡◌, drop}
use Rattle.mip_cache.specs.Mipmaps.{held_at}
use Rattle.mip_cache.proofs.lists.held_at.Given as goal

-- no entry so far is of the level
abbrev pub invariant-loop-entry : goal.invariant-loop-entry
invariant-loop-entry l = held_at l.level l.entries ≡ held_at l.level (drop l.entry-index l.entries)
