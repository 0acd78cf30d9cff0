-- what was written is read again
use Rattle.std.proofs.Common.{◌≡◌, ℕ, zero, suc, ◌+◌, ◌-◌, ◌*◌, ◌/◌, ◌%◌, ◌<◌, ◌≤◌, min, true, Option, Some, None, List, [], ◌∷◌, ◌++◌, length, slice_index, refl, sym, ap, ◌∙◌, inl, inr, append_assoc, arith}
use Rattle.std.specs.Char.{digit_value}
use Rattle.std.specs.Fmt.{decimal}
use Rattle.std.specs.Int.{IsInRange}
use Rattle.std.specs.List.{flat_map}
use Rattle.std.specs.Str.Parse.{AllDigits, digits_value_after}
use Rattle.std.proofs.lemmas.Bool.{le-leb}
use Rattle.std.proofs.lemmas.Bool.Decides.{nat_tests}
use Rattle.std.proofs.lemmas.Fmt.{decimal_is_IsNumeral}
use Rattle.std.proofs.lemmas.List.FromFn.{length-map-range_with_len, get_or-map-range_with_len}
use Rattle.std.proofs.lemmas.Nat.{div-mul-add, mod-mul-add, mul-add-lt}
use Rattle.std.proofs.lemmas.Str.Parse.{digit_at}
use Rattle.px.specs.declared.depth.Depth.TheVariants.{Sixteen}
use Rattle.px.specs.declared.kind.Cfa.{Cfa}
use Rattle.px.specs.declared.kind.PlaneKind.TheVariants.{Rgb}
use Rattle.px.specs.Kind.{channels, least_side}
use Rattle.px.specs.Picture.{Picture, samples_of}
use Rattle.pnm.specs.Grammar.{is_decimal, AreDecimal, IsGap, IsNumeral, number_from}
use Rattle.pnm.specs.Pnm.{IsPicture, sample_bytes, whitened, written}
use Rattle.pnm.specs.Samples.{meaning, read_kind, sample_at, scaled}

digit_is : (c : ℕ) → 48 ≤ c → c ≤ 57 → digit_value c ≡ c - 48
digit_is c low high = grind (arith, nat_tests)

decimal_of : (c : ℕ) → IsInRange 48 57 c → is_decimal c ≡ true
decimal_of c range = let a = le-leb 48 c range.0 in let b = le-leb c 57 range.1 in rw (a, b) refl

digits_are : (ds : List ℕ) → AllDigits 10 ds → AreDecimal ds × ((n : ℕ) → digits_value_after 10 n ds ≡ number_from n ds)
digits_are [] all = (tt, λ n. refl)
digits_are (c ∷ cs) all =
    let range = digit_at (c ∷ cs) 0 all (omega arith) in
    let rest = digits_are cs all.1 in
    let digit = digit_is c range.0 range.1 in
    ((decimal_of c range, rest.0), λ n. rw digit (rest.1 (n * 10 + (c - 48))))

-- a number as it is written
decimal_numeral : (n : ℕ) → n ≤ 65535 → IsNumeral (decimal n) n
decimal_numeral n small =
    let written = decimal_is_IsNumeral n (omega arith) in
    let digits = digits_are (decimal n) written.0.1 in
    record { some = written.0.0; decimal = digits.0; value = sym (digits.1 0) ∙ written.1 }

space_gap : IsGap (32 ∷ [])
space_gap = record { some = omega arith; filling = inl (refl, tt) }

line_gap : IsGap (10 ∷ [])
line_gap = record { some = omega arith; filling = inl (refl, tt) }

-- two bytes of each value
words_len : (xs : List ℕ) → length (flat_map (sample_bytes Sixteen) xs) ≡ length xs * 2
words_len [] = refl
words_len (x ∷ xs) = let rest = words_len xs in omega arith

words_at : (xs : List ℕ) (i : ℕ) → i < length xs → slice_index (flat_map (sample_bytes Sixteen) xs) (i * 2) * 256 + slice_index (flat_map (sample_bytes Sixteen) xs) (i * 2 + 1) ≡ min (slice_index xs i) 65535
words_at [] i below = absurd (omega arith)
words_at (x ∷ xs) zero below = omega arith
words_at (x ∷ xs) (suc i) below =
    let first : suc i * 2 ≡ suc (suc (i * 2)) = omega arith in
    let second : suc (suc (i * 2)) + 1 ≡ suc (suc (i * 2 + 1)) = omega arith in
    rw (first, second) (words_at xs i (omega arith))

sample_of : (q : Picture) (x y c : ℕ) → x < q.w → y < q.h → c < 3 → slice_index (samples_of q) ((y * q.w + x) * 3 + c) ≡ q.at x y c
sample_of q x y c column row few =
    let i = (y * q.w + x) * 3 + c in
    let within : i < q.h * q.w * 3 = omega (arith, mul-add-lt y q.w x q.h row column) in
    let pixel : i / 3 ≡ y * q.w + x = omega arith in
    let channel : i % 3 ≡ c = omega arith in
    let line : (y * q.w + x) / q.w ≡ y = div-mul-add y q.w x column in
    let place : (y * q.w + x) % q.w ≡ x = mod-mul-add y q.w x column in
    get_or-map-range_with_len (λ i. q.at (i / 3 % q.w) (i / 3 / q.w) (i % 3)) 0 (q.h * q.w * 3) i i 0 within (omega arith)
    ∙ rw (pixel, channel, line, place) refl

read_six : (cfa : Option Cfa) → read_kind 54 cfa ≡ Rgb
read_six None = refl
read_six (Some cfa) = refl

-- at 65,535 as the greatest sample a value up to white means itself
meaning_of : (v : ℕ) → scaled 65535 (min v 65535) ≡ min v 65535
meaning_of v = omega arith

pub written_shows : (q : Picture) (cfa : Option Cfa) (rest : List ℕ) → q.kind ≡ Rgb → 0 < q.w → q.w ≤ 16384 → 0 < q.h → q.h ≤ 16384 → q.w * q.h ≤ 25165824
    → IsPicture (written q Sixteen ++ rest) cfa (whitened q)
written_shows q cfa rest rgb some_wide wide some_high high pixels =
    let raster = flat_map (sample_bytes Sixteen) (samples_of q) in
    let count : length (samples_of q) ≡ q.h * q.w * 3 = length-map-range_with_len (λ i. q.at (i / 3 % q.w) (i / 3 / q.w) (i % 3)) 0 (q.h * q.w * 3) in
    let size : channels q.kind ≡ 3 = ap channels rgb in
    let least : least_side q.kind ≡ 1 = ap least_side rgb in
    record {
      magic = 54;
      first_gap = 10 ∷ [];
      width = decimal q.w;
      second_gap = 32 ∷ [];
      height = decimal q.h;
      third_gap = 10 ∷ [];
      greatest = decimal 65535;
      white = 10;
      raster = raster;
      rest = rest;
      text = simp append_assoc;
      is_magic = inr refl;
      has_gaps = (line_gap, space_gap, line_gap);
      ends_white = refl;
      is_width = decimal_numeral q.w (omega arith);
      is_height = decimal_numeral q.h (omega arith);
      top = 65535;
      is_greatest = decimal_numeral 65535 (omega arith);
      some_top = omega arith;
      top_fits = omega arith;
      kind = rgb ∙ sym (read_six cfa);
      wide = wide;
      high = high;
      wide_enough = rw least some_wide;
      high_enough = rw least some_high;
      pixels = pixels;
      len = words_len (samples_of q) ∙ omega (arith, count);
      same = λ x y c column row below.
          let few : c < 3 = rw (← size) below in
          let place : (y * q.w + x) * 3 + min c 2 ≡ (y * q.w + x) * 3 + c = omega arith in
          let i = (y * q.w + x) * 3 + c in
          let within : i < length (samples_of q) = rw count (omega (arith, mul-add-lt y q.w x q.h row column)) in
          let sample : sample_at 65535 raster i ≡ min (q.at x y c) 65535 = words_at (samples_of q) i within ∙ ap (λ v. min v 65535) (sample_of q x y c column row few) in
          sym (ap (λ k. meaning k 65535 (sample_at 65535 raster ((y * q.w + x) * 3 + min c 2))) rgb
          ∙ (ap (λ n. scaled 65535 (sample_at 65535 raster n)) place ∙ (ap (scaled 65535) sample ∙ meaning_of (q.at x y c))));
    }
