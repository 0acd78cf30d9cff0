use Rattle.std.proofs.Common.{◌≡◌, ◌≤◌, ◌+◌, ◌*◌, ◌∙◌, arith}
use Rattle.std.specs.Prelude.{◌+ℤ◌, ◌*ℤ◌, unsigned_abs}
use Rattle.std.proofs.lemmas.Int.{ints}
use mir.Syntax.{w32, w64}
use mir.Val.{of_z, to_z}
use Rattle.masks.proofs.places.along.Goals as goal

pub returns : goal.returns
returns c =
    let x : to_z w64 (of_z w64 c.args.x) ≡ c.args.x = omega (arith, ints) in
    let y : to_z w64 (of_z w64 c.args.y) ≡ c.args.y = omega (arith, ints) in
    let dx : to_z w32 (of_z w32 c.args.dx) ≡ c.args.dx = omega (arith, ints) in
    let dy : to_z w32 (of_z w32 c.args.dy) ≡ c.args.dy = omega (arith, ints) in
    let first : c.part.result ≡ c.args.x *ℤ c.args.dx = c.part.ensures.value ∙ (λ i. x i *ℤ dx i) in
    let second : c.part-2.result ≡ c.args.y *ℤ c.args.dy = c.part-2.ensures.value ∙ (λ i. y i *ℤ dy i) in
    let h : unsigned_abs c.part.result ≤ unsigned_abs c.args.x * 1024 = rw x at c.part.ensures.far in
    let k : unsigned_abs c.part-2.result ≤ unsigned_abs c.args.y * 1024 = rw y at c.part-2.ensures.far in
    let fits : to_z w64 (of_z w64 (to_z w64 (of_z w64 c.part.result) +ℤ to_z w64 (of_z w64 c.part-2.result))) ≡ c.part.result +ℤ c.part-2.result = omega (arith, ints) in
    let far : unsigned_abs (c.part.result +ℤ c.part-2.result) ≤ (unsigned_abs c.args.x + unsigned_abs c.args.y) * 1024 = omega (arith, ints) in
    record { value = fits ∙ (λ i. first i +ℤ second i); far = rw fits far }
