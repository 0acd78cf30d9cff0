-- gaps and numbers at the front of a text
use Rattle.std.proofs.Common.{◌≡◌, ℕ, ◌<◌, ◌==◌, ◌||◌, inl, inr, Bool, true, false, List, [], ◌∷◌, ◌++◌, length, refl, ap, ◌∙◌, subst, ⊎_elim, arith}
use Rattle.std.proofs.lemmas.Bool.{cases_Bool, eqb-true}
use Rattle.std.proofs.lemmas.Bool.Decides.{nat_tests}
use Rattle.pnm.specs.Fault.{after_filling, front_digits, after_digits, begins, number_text, number_of, behind}
use Rattle.pnm.specs.Header.{HasNumber}
use Rattle.pnm.specs.Grammar.{is_white, is_line_end, is_decimal, opens_gap, IsFilling, IsGap, AreDecimal, number_from, IsNumeral}

-- a digit opens no gap
pub decimal_not_gap : (b : ℕ) → is_decimal b ≡ true → opens_gap b ≡ false
decimal_not_gap b digit = grind (arith, nat_tests)

or_false : (s t : Bool) → (s || t) ≡ false → (s ≡ false) × (t ≡ false)
or_false true t e = absurd (cc)
or_false false t e = (refl, e)

or_true : (s t : Bool) → (s || t) ≡ true → s ≡ false → t ≡ true
or_true true t e n = absurd (cc)
or_true false t e n = e

true_false : (t : Bool) → t ≡ true → t ≡ false → ⊥
true_false t is isnt = cc

pub begins_digit : (t : List ℕ) → begins is_decimal t ≡ true → begins opens_gap t ≡ false
begins_digit [] h = absurd (cc)
begins_digit (b ∷ t) h = decimal_not_gap b h

-- a filling ends where neither a white byte nor a comment begins
pub filling_ends : (inside : Bool) (g t : List ℕ) → IsFilling inside g → begins opens_gap t ≡ false → after_filling inside (g ++ t) ≡ t
filling_ends false [] [] fill stop = refl
filling_ends false [] (b ∷ t) fill stop =
    let no = or_false (is_white b) (b == 35) stop in
    rw (no.0, no.1) refl
filling_ends true [] t fill stop = absurd fill
filling_ends false (b ∷ g) t fill stop = ⊎_elim
    (λ (w : (is_white b ≡ true) × IsFilling false g). rw w.0 (filling_ends false g t w.1 stop))
    (λ (w : (b ≡ 35) × IsFilling true g). rw w.0 (filling_ends true g t w.1 stop))
    fill
filling_ends true (b ∷ g) t fill stop = ⊎_elim
    (λ (w : (is_line_end b ≡ true) × IsFilling false g). rw w.0 (filling_ends false g t w.1 stop))
    (λ (w : (is_line_end b ≡ false) × IsFilling true g). rw w.0 (filling_ends true g t w.1 stop))
    fill

-- a text is a filling and what follows it, where that begins with a digit
pub record IsFilled (inside : Bool) (text rest : List ℕ) : Type 0 where
  pub gap : List ℕ
  pub filling : IsFilling inside gap
  pub whole : text ≡ gap ++ rest

filled_more : (inside next : Bool) (b : ℕ) (t rest : List ℕ) → ((g : List ℕ) → IsFilling next g → IsFilling inside (b ∷ g)) → IsFilled next t rest → IsFilled inside (b ∷ t) rest
filled_more inside next b t rest step r = record { gap = b ∷ r.gap; filling = step r.gap r.filling; whole = ap (λ s. b ∷ s) r.whole }

pub filling_splits : (inside : Bool) (text : List ℕ) → begins is_decimal (after_filling inside text) ≡ true → IsFilled inside text (after_filling inside text)
filling_splits false [] h = absurd (cc)
filling_splits true [] h = absurd (cc)
filling_splits false (b ∷ t) h = ⊎_elim
    (λ (w : is_white b ≡ true). rw w (filled_more false false b t (after_filling false t) (λ g fill. inl (w, fill)) (filling_splits false t (rw w at h))))
    (λ (n : is_white b ≡ false). ⊎_elim
    (λ (c : (b == 35) ≡ true). rw (n, c) (filled_more false true b t (after_filling true t) (λ g fill. inr (eqb-true b 35 c, fill)) (filling_splits true t (rw (n, c) at h))))
    (λ (d : (b == 35) ≡ false). rw (n, d) (record { gap = []; filling = tt; whole = refl }))
    (cases_Bool (b == 35)))
    (cases_Bool (is_white b))
filling_splits true (b ∷ t) h = ⊎_elim
    (λ (e : is_line_end b ≡ true). rw e (filled_more true false b t (after_filling false t) (λ g fill. inl (e, fill)) (filling_splits false t (rw e at h))))
    (λ (n : is_line_end b ≡ false). rw n (filled_more true true b t (after_filling true t) (λ g fill. inr (n, fill)) (filling_splits true t (rw n at h))))
    (cases_Bool (is_line_end b))

-- digits end where no digit follows
pub digits_end : (ds t : List ℕ) → AreDecimal ds → begins is_decimal t ≡ false → (front_digits (ds ++ t) ≡ ds) × (after_digits (ds ++ t) ≡ t)
digits_end [] [] all stop = (refl, refl)
digits_end [] (b ∷ t) all stop = (rw stop refl, rw stop refl)
digits_end (b ∷ ds) t all stop =
    let rest = digits_end ds t all.1 stop in
    (rw (all.0, rest.0) refl, rw (all.0, rest.1) refl)

pub digits_split : (t : List ℕ) → (t ≡ front_digits t ++ after_digits t) × AreDecimal (front_digits t)
digits_split [] = (refl, tt)
digits_split (b ∷ t) = ⊎_elim
    (λ (d : is_decimal b ≡ true). let rest = digits_split t in rw d (ap (λ s. b ∷ s) rest.0, (d, rest.1)))
    (λ (n : is_decimal b ≡ false). rw n (refl, tt))
    (cases_Bool (is_decimal b))

some_digits : (t : List ℕ) → begins is_decimal t ≡ true → 0 < length (front_digits t)
some_digits [] h = absurd (cc)
some_digits (b ∷ t) h = rw h (omega arith)

some_gap : (g t : List ℕ) → begins opens_gap (g ++ t) ≡ true → begins is_decimal t ≡ true → 0 < length g
some_gap [] t opens digit = absurd (true_false (begins opens_gap t) opens (begins_digit t digit))
some_gap (b ∷ g) t opens digit = omega arith

-- the text as these words
pub record IsSplit (text : List ℕ) : Type 0 where
  pub gap : List ℕ
  pub is_gap : IsGap gap
  pub numeral : IsNumeral (front_digits (number_text text)) (number_of text)
  pub whole : text ≡ gap ++ (front_digits (number_text text) ++ behind text)

pub number_splits : (text : List ℕ) → HasNumber text → IsSplit text
number_splits text has =
    let fill = filling_splits false text has.starts in
    let digits = digits_split (number_text text) in
    record {
      gap = fill.gap;
      is_gap = record { some = some_gap fill.gap (number_text text) (subst (λ t. begins opens_gap t ≡ true) fill.whole has.opens) has.starts; filling = fill.filling };
      numeral = record { some = some_digits (number_text text) has.starts; decimal = digits.1; value = refl };
      whole = fill.whole ∙ ap (λ t. fill.gap ++ t) digits.0;
    }

-- what reading finds of a gap and a numeral
pub record Reads (text : List ℕ) (n : ℕ) (rest : List ℕ) : Type 0 where
  pub has : HasNumber text
  pub number : number_of text ≡ n
  pub after : behind text ≡ rest

numeral_begins : (ds t : List ℕ) → 0 < length ds → AreDecimal ds → begins is_decimal (ds ++ t) ≡ true
numeral_begins [] t some all = absurd (omega arith)
numeral_begins (b ∷ ds) t some all = all.0

gap_begins : (g t : List ℕ) → 0 < length g → IsFilling false g → begins opens_gap (g ++ t) ≡ true
gap_begins [] t some fill = absurd (omega arith)
gap_begins (b ∷ g) t some fill = ⊎_elim
    (λ (w : (is_white b ≡ true) × IsFilling false g). rw w.0 refl)
    (λ (w : (b ≡ 35) × IsFilling true g). rw w.0 refl)
    fill

pub number_reads : (gap ds rest : List ℕ) (n : ℕ) → IsGap gap → IsNumeral ds n → begins is_decimal rest ≡ false → Reads (gap ++ (ds ++ rest)) n rest
number_reads gap ds rest n is_gap numeral stop =
    let begins_it = numeral_begins ds rest numeral.some numeral.decimal in
    let at : number_text (gap ++ (ds ++ rest)) ≡ ds ++ rest = filling_ends false gap (ds ++ rest) is_gap.filling (begins_digit (ds ++ rest) begins_it) in
    let parts = digits_end ds rest numeral.decimal stop in
    record {
      has = record { opens = gap_begins gap (ds ++ rest) is_gap.some is_gap.filling; starts = ap (begins is_decimal) at ∙ begins_it };
      number = ap (λ t. number_from 0 (front_digits t)) at ∙ (ap (number_from 0) parts.0 ∙ numeral.value);
      after = ap after_digits at ∙ parts.1;
    }

white_not_digit : (b : ℕ) → is_white b ≡ true → is_decimal b ≡ false
white_not_digit b white = grind (arith, nat_tests)

pub white_stops : (b : ℕ) (t : List ℕ) → is_white b ≡ true → begins is_decimal (b ∷ t) ≡ false
white_stops b t white = white_not_digit b white

not_digit : (g t : List ℕ) → 0 < length g → IsFilling false g → begins is_decimal (g ++ t) ≡ false
not_digit [] t some fill = absurd (omega arith)
not_digit (b ∷ g) t some fill = ⊎_elim
    (λ (w : (is_white b ≡ true) × IsFilling false g). white_not_digit b w.0)
    (λ (w : (b ≡ 35) × IsFilling true g). rw w.0 refl)
    fill

-- no gap begins with a digit
pub gap_stops : (g t : List ℕ) → IsGap g → begins is_decimal (g ++ t) ≡ false
gap_stops g t is_gap = not_digit g t is_gap.some is_gap.filling
