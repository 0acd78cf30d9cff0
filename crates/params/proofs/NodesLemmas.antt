-- An array of nodes, by one more.
use Rattle.std.proofs.Common.{◌≡◌, ℕ, ◌+◌, ◌-◌, ◌<◌, ◌≤◌, List, length, take, drop, replicate, sym, ap, ◌∙◌, arith}
use Rattle.std.proofs.Math.ListN.{set}
use Rattle.std.proofs.lemmas.List.{length-take-le, length-set, drop-set-lt, drop-drop, drop-replicate}

pub pushed : (count : ℕ) (xs : List (ℕ × ℕ)) (x : ℕ × ℕ) → count ≤ 20 → length xs ≡ 20 → drop count xs ≡ replicate (20 - count) (0, 0) → length (take count xs) < 20
    → (count + 1 ≤ 20) × (length (set xs count x) ≡ 20) × (drop (count + 1) (set xs count x) ≡ replicate (20 - (count + 1)) (0, 0))
pushed count xs x h len rest room =
    let within : count ≤ length xs = omega arith in
    let size = length-take-le count xs within in
    let fewer : 20 - count - 1 ≡ 20 - (count + 1) = omega arith in (
      omega arith,
      length-set xs count x ∙ len,
      drop-set-lt (count + 1) xs count x (omega arith) ∙ sym (drop-drop 1 count xs) ∙ ap (drop 1) rest ∙ drop-replicate 1 (20 - count) (0, 0) ∙ ap (λ n. replicate n (0, 0)) fewer,
    )
