use Rattle.std.proofs.Common.{◌≡◌, ◌+◌, ◌*◌, ◌≤◌, ap, arith}
use Rattle.px.specs.Kind.{channels}
use Rattle.blend.specs.Blending.{covered}
use Rattle.std.specs.Option.{option_copied}
use Rattle.blend.proofs.RowLemmas.{edited_of_laid, parts_small}
use Rattle.blend.proofs.overlay.lay_part.Goals as goal

pub lay-requires-clause-parts : goal.lay-requires-clause-parts
lay-requires-clause-parts c i below =
    let o = c.args.overlay.now in
    parts_small o.blend.now.opacity (λ k. covered (option_copied o.cover) (c.args.x + k) c.args.y) c.args.n c.fill_parts.new.parts c.fill_parts.ensures i (omega (arith, c.requires.len))

pub returns : goal.returns
returns c =
    let o = c.args.overlay.now in
    let first = c.requires.asks 0 c.requires.some in
    let size : c.args.n * channels o.input.now.kind ≡ c.args.n * 3 = ap (λ k. c.args.n * channels k) first.rgb in
    let left : o.input.now.area.x ≤ c.args.x = omega (arith, first.inside.left) in
    edited_of_laid o.blend.now (option_copied o.cover) o.input.now c.args.x c.args.y c.args.n c.fill_parts.new.parts c.row.result.now c.args.row.now c.lay.new.row first.rgb left
    (λ i below. c.row.ensures.values i (omega (arith, size))) c.fill_parts.ensures c.requires.len (omega (arith, c.requires.len, c.lay.auto.row)) c.lay.ensures
