-- Prefixes of a run: what was applied so far, and to which level.
use Rattle.std.specs.Prelude.{ℕ, ◌≤◌, List}
use Rattle.std.specs.List.{All}
use Rattle.pipe_nodes.specs.declared.active.Active.{Active}
use Rattle.pipe_nodes.specs.Active.{IsFit}

-- a mipmap level of the source, and the module instances that were applied to it
pub record PrefixSeen : Type 0 where
  pub level : ℕ
  pub actives : List Active

abbrev pub prefix : ℕ → List Active → PrefixSeen
prefix level actives = record { level = level; actives = actives }

-- what holds of every prefix
pub record IsPrefix (p : PrefixSeen) : Type 0 where
  pub level : p.level ≤ 8
  pub fit : All IsFit p.actives
