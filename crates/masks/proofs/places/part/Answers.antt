use Rattle.std.proofs.Common.{◌≡◌, ◌≤◌, ◌*◌, ◌∙◌, arith}
use Rattle.std.specs.Prelude.{◌*ℤ◌, unsigned_abs}
use Rattle.std.proofs.lemmas.Int.{ints}
use mir.Syntax.{w64}
use mir.Val.{of_z, to_z}
use Rattle.masks.proofs.NumberLemmas.{small_product}
use Rattle.masks.proofs.places.part.Goals as goal

pub returns : goal.returns
returns c =
    let x : to_z w64 (of_z w64 c.args.distance) ≡ c.args.distance = omega (arith, ints) in
    let d : to_z w64 (of_z w64 c.from.result) ≡ c.args.d = omega (arith, ints, c.from.ensures) in
    let z = to_z w64 (of_z w64 c.args.distance) *ℤ to_z w64 (of_z w64 c.from.result) in
    let product : z ≡ c.args.distance *ℤ c.args.d = (λ i. x i *ℤ d i) in
    let small : unsigned_abs (c.args.distance *ℤ c.args.d) ≤ unsigned_abs c.args.distance * 1024 = small_product c.args.distance c.args.d c.requires.small in
    let small_z : unsigned_abs z ≤ unsigned_abs c.args.distance * 1024 = rw product small in
    let fits : to_z w64 (of_z w64 z) ≡ z = omega (arith, ints) in
    record { value = fits ∙ product; far = rw fits small_z }
