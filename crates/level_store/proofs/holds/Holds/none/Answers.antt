use Rattle.std.proofs.Common.{◌≡◌, ◌+◌, ◌∙◌, None, ap, arith, replicate}
use Rattle.level_store.specs.Passes.{holds_by}
use Rattle.level_store.proofs.PassLemmas.{holds_by-none}
use Rattle.level_store.proofs.holds.Holds.none.Goals as goal

pub returns : goal.returns
returns c =
    let all : c.loop-seat._seat ≡ c.args.workers + 1 = omega arith in
    ap holds_by c.loop-seat.invariant.items ∙ holds_by-none c.loop-seat._seat ∙ ap (λ n. replicate n None) all
