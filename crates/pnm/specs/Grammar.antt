-- the words of a header and what stands between them
use Rattle.std.specs.Prelude.{◌≡◌, ℕ, ◌+◌, ◌-◌, ◌*◌, ◌<◌, ◌==◌, ◌||◌, ◌&&◌, nat_le, Bool, true, false, ◌⊎◌, List, [], ◌∷◌, length}

-- space, TAB, LF, VT, FF and CR
abbrev pub is_white : ℕ → Bool
is_white b = b == 32 || (nat_le 9 b && nat_le b 13)

-- LF and CR
abbrev pub is_line_end : ℕ → Bool
is_line_end b = b == 10 || b == 13

abbrev pub is_decimal : ℕ → Bool
is_decimal b = nat_le 48 b && nat_le b 57

-- a white byte, or the `#` that a comment begins with
abbrev pub opens_gap : ℕ → Bool
opens_gap b = is_white b || b == 35

-- White bytes and whole comments, any number of them. A comment goes on up to the end of its line, which belongs to it;
-- `inside` says that the text begins in a comment.
abbrev pub IsFilling : Bool → List ℕ → Type 0
IsFilling false [] = Unit {0}
IsFilling true [] = ⊥
IsFilling false (b ∷ t) = ((is_white b ≡ true) × IsFilling false t) ⊎ ((b ≡ 35) × IsFilling true t)
IsFilling true (b ∷ t) = ((is_line_end b ≡ true) × IsFilling false t) ⊎ ((is_line_end b ≡ false) × IsFilling true t)

-- what separates two words: at least one white byte or comment
pub record IsGap (gap : List ℕ) : Type 0 where
  pub some : 0 < length gap
  pub filling : IsFilling false gap

abbrev pub AreDecimal : List ℕ → Type 0
AreDecimal [] = Unit {0}
AreDecimal (b ∷ t) = (is_decimal b ≡ true) × AreDecimal t

-- the number that digits write when they follow those of n
abbrev pub number_from : ℕ → List ℕ → ℕ
number_from n [] = n
number_from n (b ∷ t) = number_from (n * 10 + (b - 48)) t

-- one or more digits that write the number; leading zeros are allowed
pub record IsNumeral (digits : List ℕ) (n : ℕ) : Type 0 where
  pub some : 0 < length digits
  pub decimal : AreDecimal digits
  pub value : number_from 0 digits ≡ n
