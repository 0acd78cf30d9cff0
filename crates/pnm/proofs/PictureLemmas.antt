-- pictures and what reading makes of their bytes
use Rattle.std.proofs.Common.{◌≡◌, ℕ, ◌+◌, ◌-◌, ◌*◌, ◌<◌, min, Option, Some, List, ◌∷◌, ◌++◌, length, drop, slice_index, refl, sym, ap, ◌∙◌, subst, arith}
use Rattle.std.proofs.lemmas.List.{take-append-drop}
use Rattle.std.proofs.lemmas.Nat.{mul-add-lt}
use Rattle.px.specs.declared.kind.Cfa.{Cfa}
use Rattle.px.specs.declared.kind.PlaneKind.{PlaneKind}
use Rattle.px.specs.Area.{whole_of}
use Rattle.px.specs.Kind.{channels}
use Rattle.px.specs.Cut.{Cut, IsCutOf, picture_of, value_at}
use Rattle.px.specs.Picture.{Picture}
use Rattle.pnm.specs.declared.fault.PnmFault.{PnmFault}
use Rattle.pnm.specs.Fault.{fault_of, front_digits, greatest_gap, height_gap, last_white, number_text, raster_len, raster_text, width_gap}
use Rattle.pnm.specs.Grammar.{IsNumeral}
use Rattle.pnm.specs.Header.{IsHeader}
use Rattle.pnm.specs.Pnm.{IsPicture}
use Rattle.pnm.specs.Samples.{AreValues, bytes_of_sample, meaning, read_kind, sample_at, samples_of_magic}
use Rattle.pnm.proofs.GapLemmas.{number_splits}
use Rattle.pnm.proofs.HeaderLemmas.{parsed, two_front, white_split}

-- the whole plane of these values
abbrev pub whole_cut : PlaneKind → ℕ → ℕ → List ℕ → Cut
whole_cut kind w h values = record { kind = kind; w = w; h = h; area = whole_of w h; values = values }

-- a value of a whole plane
pub value_of_whole : (kind : PlaneKind) (w h samples top x y c : ℕ) (raster values : List ℕ) → AreValues kind samples top (h * w) raster values → x < w → y < h → c < channels kind
    → value_at (whole_cut kind w h values) x y c ≡ meaning kind top (sample_at top raster ((y * w + x) * samples + min c (samples - 1)))
value_of_whole kind w h samples top x y c raster values made column row below =
    let column_is : x - 0 ≡ x = omega arith in
    let row_is : y - 0 ≡ y = omega arith in
    let e : ((y - 0) * w + (x - 0)) * channels kind + c ≡ (y * w + x) * channels kind + c = rw (column_is, row_is) refl in
    ap (slice_index values) e ∙ made.same (y * w + x) c (omega (arith, mul-add-lt y w x h row column)) below

pub picture_from_header : (bytes : List ℕ) (cfa : Option Cfa) (kind : PlaneKind) (w h samples top : ℕ) (raster values : List ℕ)
    → IsHeader bytes cfa kind w h samples top raster → AreValues kind samples top (h * w) raster values
    → IsPicture bytes cfa (picture_of (whole_cut kind w h values))
picture_from_header bytes cfa kind w h samples top raster values header made =
    let words = header.words in
    let one = number_splits (width_gap bytes) words.width in
    let two = number_splits (height_gap bytes) words.height in
    let three = number_splits (greatest_gap bytes) words.greatest in
    let last = white_split (last_white bytes) words.white in
    let first_digits = front_digits (number_text (width_gap bytes)) in
    let second_digits = front_digits (number_text (height_gap bytes)) in
    let third_digits = front_digits (number_text (greatest_gap bytes)) in
    let tail : raster_text bytes ≡ raster ++ drop (raster_len bytes) (raster_text bytes) =
    sym (take-append-drop (raster_len bytes) (raster_text bytes)) ∙ ap (λ t. t ++ drop (raster_len bytes) (raster_text bytes)) (sym header.raster_is) in
    record {
      magic = slice_index bytes 1;
      first_gap = one.gap;
      width = first_digits;
      second_gap = two.gap;
      height = second_digits;
      third_gap = three.gap;
      greatest = third_digits;
      white = last.white;
      raster = raster;
      rest = drop (raster_len bytes) (raster_text bytes);
      text = two_front bytes 80 words.long words.first ∙ ap (λ t. 80 ∷ slice_index bytes 1 ∷ t)
          (one.whole ∙ ap (λ t. one.gap ++ (first_digits ++ t))
          (two.whole ∙ ap (λ t. two.gap ++ (second_digits ++ t))
          (three.whole ∙ ap (λ t. three.gap ++ (third_digits ++ t))
          (last.whole ∙ ap (λ t. last.white ∷ t) tail))));
      is_magic = words.second;
      has_gaps = (one.is_gap, two.is_gap, three.is_gap);
      ends_white = last.is;
      is_width = subst (IsNumeral first_digits) (sym header.w_is) one.numeral;
      is_height = subst (IsNumeral second_digits) (sym header.h_is) two.numeral;
      top = top;
      is_greatest = subst (IsNumeral third_digits) (sym header.top_is) three.numeral;
      some_top = header.some_top;
      top_fits = header.top_fits;
      kind = header.kind_is;
      wide = header.wide;
      high = header.high;
      wide_enough = header.wide_enough;
      high_enough = header.high_enough;
      pixels = header.pixels;
      len = subst (λ s. length raster ≡ h * w * s * bytes_of_sample top) header.samples_is header.len;
      same = λ x y c column row below.
          subst (λ s. value_at (whole_cut kind w h values) x y c ≡ meaning kind top (sample_at top raster ((y * w + x) * s + min c (s - 1)))) header.samples_is
          (value_of_whole kind w h samples top x y c raster values made column row below);
    }

pub same_meaning : (kind kind' : PlaneKind) (top top' samples samples' w w' x y c : ℕ) (raster raster' : List ℕ) → kind ≡ kind' → top ≡ top' → samples ≡ samples' → w ≡ w' → raster ≡ raster'
    → meaning kind top (sample_at top raster ((y * w + x) * samples + min c (samples - 1))) ≡ meaning kind' top' (sample_at top' raster' ((y * w' + x) * samples' + min c (samples' - 1)))
same_meaning kind kind' top top' samples samples' w w' x y c raster raster' k t s v r = rw (k, t, s, v, r) refl

-- each picture of these bytes is the one that was read
pub cut_of_read : (bytes : List ℕ) (cfa : Option Cfa) (kind : PlaneKind) (w h samples top : ℕ) (raster values : List ℕ)
    → IsHeader bytes cfa kind w h samples top raster → AreValues kind samples top (h * w) raster values
    → (q : Picture) → IsPicture bytes cfa q → IsCutOf q (whole_cut kind w h values)
cut_of_read bytes cfa kind w h samples top raster values header made q p =
    let found = parsed bytes cfa q p in
    let kind_is : kind ≡ q.kind = header.kind_is ∙ (ap (λ m. read_kind m cfa) found.magic_is ∙ sym p.kind) in
    let w_is : w ≡ q.w = header.w_is ∙ found.w_is in
    let h_is : h ≡ q.h = header.h_is ∙ found.h_is in
    let samples_is : samples ≡ samples_of_magic p.magic = header.samples_is ∙ ap samples_of_magic found.magic_is in
    let top_is : top ≡ p.top = header.top_is ∙ found.top_is in
    let raster_is : raster ≡ p.raster = header.raster_is ∙ found.raster_is in
    record {
      kind = kind_is;
      wide = w_is;
      high = h_is;
      same = λ x y c inside below.
          let size : c < channels kind = rw kind_is below in
          value_of_whole kind w h samples top x y c raster values made (omega (arith, inside.right)) (omega (arith, inside.bottom)) size
          ∙ (same_meaning kind q.kind top p.top samples (samples_of_magic p.magic) w q.w x y c raster p.raster kind_is top_is samples_is w_is raster_is
          ∙ sym (p.same x y c (rw (← w_is) (omega (arith, inside.right))) (rw (← h_is) (omega (arith, inside.bottom))) below));
    }

-- bytes with a fault are no picture
pub none_of_fault : (bytes : List ℕ) (cfa : Option Cfa) (f : PnmFault) → fault_of bytes cfa ≡ Some f → (q : Picture) → IsPicture bytes cfa q → ⊥
none_of_fault bytes cfa f fault q p = let none = (parsed bytes cfa q p).none in cc
