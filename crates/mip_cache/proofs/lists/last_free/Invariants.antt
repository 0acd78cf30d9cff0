use Rattle.std.proofs.Common.{◌≡◌, take}
use Rattle.mip_cache.specs.Mipmaps.{evict_answer}
use Rattle.mip_cache.proofs.lists.last_free.Given as goal

-- it is the last free one of those so far
abbrev pub invariant-loop-entry : goal.invariant-loop-entry
invariant-loop-entry l = l.last ≡ evict_answer (take l.entry-index l.entries)
