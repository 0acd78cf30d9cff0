-- the front of a text, with one byte above the limit, tells what the whole does
use Rattle.std.proofs.Common.{◌≡◌, ℕ, ◌<◌, List, length, take, take_all, ⊎_elim, refl, sym, ap, ◌∙◌, arith}
use Rattle.std.specs.Prelude.{nat_le, false, ◌≤◌}
use Rattle.std.proofs.lemmas.Bool.{cases_lt}
use Rattle.std.proofs.lemmas.Bool.Decides.{nat_tests}
use Rattle.std.proofs.lemmas.List.{length-take}
use Rattle.json_form.specs.Text.{text_of}

pub text_of_front : (text bytes : List ℕ) → take 4194305 text ≡ bytes → text_of text ≡ text_of bytes
text_of_front text bytes front = ⊎_elim
    (λ (longer : 4194304 < length text).
    let len : length bytes ≡ 4194305 = ap length (sym front) ∙ rw (length-take 4194305 text) (omega arith) in
    let whole : nat_le (length text) 4194304 ≡ false = grind (arith, nat_tests) in
    let cut : nat_le (length bytes) 4194304 ≡ false = grind (arith, nat_tests) in
    rw (whole, cut) refl)
    (λ (within : length text ≤ 4194304). ap text_of (sym (take_all 4194305 text (omega arith)) ∙ front))
    (cases_lt 4194304 (length text))
