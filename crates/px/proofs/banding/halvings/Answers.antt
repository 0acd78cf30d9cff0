use Rattle.std.proofs.Common.{arith, ⊎_elim}
use Rattle.std.proofs.lemmas.Bool.{cases_lt}
use Rattle.std.proofs.lemmas.Nat.{pow_below}
use Rattle.px.proofs.banding.halvings.Goals as goal

pub returns : goal.returns
returns g c =
    let r = c.ilog2.result in
    ⊎_elim (λ above. absurd (omega (arith, pow_below 6 r above, c.ilog2.ensures.power_le, c.saturating_mul.ensures, c.min-threads.ensures)))
    (λ within. within) (cases_lt 6 r)
