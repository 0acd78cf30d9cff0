-- instances of exposure
use Rattle.std.specs.Prelude.{ℕ, pos, None}
use Rattle.params.specs.declared.settings.Params.TheVariants as params
use Rattle.pipe_nodes.specs.declared.active.Active.{Active}

-- one with this gain, and nothing else
abbrev pub exposed : ℕ → ℕ → Active
exposed instance gain = record { instance = instance; params = params.Exposure (record { black = pos 0; gain = gain; stops = pos 0 }); blend = None }
