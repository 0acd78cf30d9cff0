use Rattle.std.proofs.Common.{◌≡◌, ℕ, ◌+◌, ◌-◌, ◌*◌, ◌/◌, ◌<◌, ◌≤◌, List, ◌++◌, length, subst, sym, refl, ap, ◌∙◌, arith}
use Rattle.std.proofs.lemmas.List.{length-append}
use Rattle.px.proofs.BandLemmas.{rest_len, rest_asks, on_ok_both}
use Rattle.px.proofs.banding.+halves.Goals as goal

pub bands_from-both_halves-requires-clause-back : goal.bands_from-both_halves-requires-clause-back
bands_from-both_halves-requires-clause-back g t c κs within =
    let cut = c.split_at_mut-a.ensures in
    rest_len c.args.n (c.args.n / 2) c.args.stride (length c.args.rows.now) (length c.split_at_mut-a.result.0.now) (length c.split_at_mut-a.result.1.now) (omega arith) c.requires.len
    (ap length cut.value ∙ length-append c.split_at_mut-a.result.0.now c.split_at_mut-a.result.1.now) cut.front_len

pub bands_from-both_halves-requires-clause-more_asks : goal.bands_from-both_halves-requires-clause-more_asks
bands_from-both_halves-requires-clause-more_asks g t c κs within =
    rest_asks (g.B.BandFiller.asks c.args.filler.now) c.args.y c.args.n (c.args.n / 2) (omega arith) c.requires.asks

pub bands_from-returns : goal.bands_from-returns
bands_from-returns g t c =
    let low = c.args.n / 2 in
    let cut = c.split_at_mut-a in
    let sum : low + (c.args.n - low) ≡ c.args.n = omega arith in
    let front_len : length c.both_halves.new.a ≡ low * g.B.BandFiller.stride c.args.filler.now = c.both_halves.auto.a ∙ cut.ensures.front_len ∙ ap (λ n. low * n) c.requires.stride in
    let back : length cut.result.1.now ≡ (c.args.n - low) * c.args.stride =
    rest_len c.args.n low c.args.stride (length c.args.rows.now) (length cut.result.0.now) (length cut.result.1.now) (omega arith) c.requires.len
    (ap length cut.ensures.value ∙ length-append cut.result.0.now cut.result.1.now) cut.ensures.front_len in
    let back_len : length c.both_halves.new.b ≡ (c.args.n - low) * g.B.BandFiller.stride c.args.filler.now = c.both_halves.auto.b ∙ back ∙ ap (λ n. (c.args.n - low) * n) c.requires.stride in
    on_ok_both c.both_halves.result (λ first second.
    subst (λ n. g.B.BandFiller.fills c.args.filler.now c.args.y n (c.both_halves.new.a ++ c.both_halves.new.b)) sum
    (c.joined.ensures c.args.y low (c.args.n - low) c.both_halves.new.a c.both_halves.new.b front_len back_len first second))
    c.both_halves.ensures.front c.both_halves.ensures.back
