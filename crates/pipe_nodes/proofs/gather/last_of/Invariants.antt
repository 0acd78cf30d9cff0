use Rattle.std.proofs.Common.{◌≡◌, take}
use Rattle.std.specs.Option.{option_copied}
use Rattle.pipe_nodes.specs.Actives.{last_of}
use Rattle.pipe_nodes.proofs.gather.last_of.Given as goal

-- the last of the items so far
abbrev pub invariant-loop-item : goal.invariant-loop-item
invariant-loop-item l = option_copied l.last ≡ last_of l.slot (take l.item-index l.items)
