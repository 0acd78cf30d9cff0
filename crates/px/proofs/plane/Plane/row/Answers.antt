use Rattle.std.proofs.Common.{◌≡◌, ◌-◌, ◌*◌, ap, ◌∙◌, length, arith}
use Rattle.px.specs.Kind.{channels}
use Rattle.px.proofs.RowLemmas.{run_fits}
use Rattle.px.proofs.plane.Plane.row.Goals as goal

pub slice_bounds-result-end : goal.slice_bounds-result-end
slice_bounds-result-end c =
    let p = c.args.self.now in
    let valid = c.values-values.ensures.valid in
    let size : c.args.n * c.channels-size.result ≡ c.args.n * channels p.kind = ap (λ s. c.args.n * s) (c.channels-size.ensures ∙ ap channels c.kind.ensures) in
    let fits = run_fits (c.args.y - p.area.y) p.area.h (c.args.x - p.area.x) c.args.n p.area.w (channels p.kind) (omega (arith, c.requires.first.top, c.requires.first.bottom)) (omega (arith, c.requires.first.left, c.requires.last)) in
    let len = ap length c.values-values.ensures.values in
    omega (arith, fits, valid.len, c.place-from.ensures.place, size, len)
