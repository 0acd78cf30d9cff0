-- headers as their words
use Rattle.std.proofs.Common.{◌≡◌, ℕ, ◌*◌, ◌<◌, ◌≤◌, ◌==◌, ◌||◌, ◌&&◌, ◌⊎◌, nat_lt, true, false, Option, None, List, [], ◌∷◌, ◌++◌, length, take, drop, slice_index, refl, sym, ap, ◌∙◌, subst, ⊎_elim, arith}
use Rattle.std.proofs.lemmas.Bool.{cases_lt, or_from, le-ltb}
use Rattle.std.proofs.lemmas.Bool.Decides.{nat_tests}
use Rattle.std.proofs.lemmas.List.{get_or_past, length-append, take_at}
use Rattle.px.specs.declared.kind.Cfa.{Cfa}
use Rattle.px.specs.declared.kind.PlaneKind.{PlaneKind}
use Rattle.px.specs.declared.kind.PlaneKind.TheVariants.{Mosaic, Rgb}
use Rattle.px.specs.Kind.{least_side}
use Rattle.px.specs.Picture.{Picture}
use Rattle.pnm.specs.declared.fault.PnmKind.TheVariants.{BadHeader, TooLarge, BadMaxval}
use Rattle.pnm.specs.Fault.{begins, behind, fault_of, greatest_gap, height_gap, kind_of, last_white, number_of, number_text, raster_len, raster_text, sides_fault, width_gap}
use Rattle.pnm.specs.Grammar.{is_white}
use Rattle.pnm.specs.Header.{HasNumber}
use Rattle.pnm.specs.Pnm.{IsPicture}
use Rattle.pnm.specs.Samples.{bytes_of_sample, read_kind, samples_of_magic}
use Rattle.pnm.proofs.FaultLemmas.{magic_none, number_none, sides_none, raster_none}
use Rattle.pnm.proofs.GapLemmas.{number_reads, gap_stops, white_stops}

-- the two bytes of a magic that is read
pub read_parts : (a b : ℕ) → (a == 80 && (b == 53 || b == 54)) ≡ true → (a ≡ 80) × ((b ≡ 53) ⊎ (b ≡ 54))
read_parts a b read = (grind (arith, nat_tests), grind (arith, nat_tests))

pub long_enough : (bytes : List ℕ) → (slice_index bytes 1 ≡ 53) ⊎ (slice_index bytes 1 ≡ 54) → 2 ≤ length bytes
long_enough bytes magic = ⊎_elim
    (λ (short : length bytes < 2). let none : slice_index bytes 1 ≡ 0 = get_or_past bytes 1 0 (omega arith) in
    ⊎_elim (λ (is : slice_index bytes 1 ≡ 53). absurd (omega arith)) (λ (is : slice_index bytes 1 ≡ 54). absurd (omega arith)) magic)
    (λ (long : 2 ≤ length bytes). long)
    (cases_lt (length bytes) 2)

-- the first two bytes and the rest
pub two_front : (bytes : List ℕ) (a : ℕ) → 2 ≤ length bytes → slice_index bytes 0 ≡ a → bytes ≡ a ∷ slice_index bytes 1 ∷ drop 2 bytes
two_front [] a long first = absurd (omega arith)
two_front (b ∷ []) a long first = absurd (omega arith)
two_front (b ∷ c ∷ t) a long first = ap (λ n. n ∷ c ∷ t) first

-- a white byte at the front and the rest
pub record IsWhiteFront (text : List ℕ) : Type 0 where
  pub white : ℕ
  pub is : is_white white ≡ true
  pub whole : text ≡ white ∷ drop 1 text

pub white_split : (text : List ℕ) → begins is_white text ≡ true → IsWhiteFront text
white_split [] h = absurd (cc)
white_split (b ∷ t) h = record { white = b; is = h; whole = refl }

-- what reading finds of the bytes of a picture
pub record IsParsed (bytes : List ℕ) (cfa : Option Cfa) (q : Picture) (magic top : ℕ) (raster : List ℕ) : Type 0 where
  pub none : fault_of bytes cfa ≡ None
  pub magic_is : slice_index bytes 1 ≡ magic
  pub w_is : number_of (width_gap bytes) ≡ q.w
  pub h_is : number_of (height_gap bytes) ≡ q.h
  pub top_is : number_of (greatest_gap bytes) ≡ top
  pub raster_is : take (raster_len bytes) (raster_text bytes) ≡ raster

pub other_magic : (a m : ℕ) → a ≡ 80 → (m ≡ 53) ⊎ (m ≡ 54) → ((a == 80 && (m == 49 || m == 50 || m == 51 || m == 52 || m == 55)) ≡ false) × ((a == 80 && (m == 53 || m == 54)) ≡ true)
other_magic a m first second = ⊎_elim
    (λ (is : m ≡ 53). rw (first, is) (refl, refl))
    (λ (is : m ≡ 54). rw (first, is) (refl, refl))
    second

least_some : (kind : PlaneKind) (n : ℕ) → least_side kind ≤ n → 0 < n
least_some (Mosaic cfa) n enough = omega arith
least_some Rgb n enough = omega arith

module _ (bytes : List ℕ) (cfa : Option Cfa) (q : Picture) (magic top white : ℕ) (raster rest : List ℕ) where
  parsed_words : slice_index bytes 0 ≡ 80 → slice_index bytes 1 ≡ magic → (magic ≡ 53) ⊎ (magic ≡ 54)
      → HasNumber (width_gap bytes) → HasNumber (height_gap bytes) → HasNumber (greatest_gap bytes)
      → number_of (width_gap bytes) ≡ q.w → number_of (height_gap bytes) ≡ q.h → number_of (greatest_gap bytes) ≡ top
      → last_white bytes ≡ white ∷ (raster ++ rest) → is_white white ≡ true → 0 < top → top ≤ 65535 → q.kind ≡ read_kind magic cfa
      → q.w ≤ 16384 → q.h ≤ 16384 → least_side q.kind ≤ q.w → least_side q.kind ≤ q.h → q.w * q.h ≤ 25165824
      → length raster ≡ q.h * q.w * samples_of_magic magic * bytes_of_sample top
      → IsParsed bytes cfa q magic top raster
  parsed_words first second is_magic width height greatest w h t last is_white_byte some small kind wide high wide_enough high_enough pixels len =
      let kind_is : kind_of bytes cfa ≡ q.kind = ap (λ m. read_kind m cfa) second ∙ sym kind in
      let magics = other_magic (slice_index bytes 0) (slice_index bytes 1) first (subst (λ m. (m ≡ 53) ⊎ (m ≡ 54)) (sym second) is_magic) in
      let a = magic_none bytes magics.0 magics.1 in
      let w_some = least_some q.kind q.w wide_enough in
      let h_some = least_some q.kind q.h high_enough in
      let b = number_none (length bytes) (width_gap bytes) 16384 BadHeader TooLarge width.opens width.starts (rw w w_some) (rw w wide) in
      let d = number_none (length bytes) (height_gap bytes) 16384 BadHeader TooLarge height.opens height.starts (rw h h_some) (rw h high) in
      let least : (nat_lt q.w (least_side q.kind) || nat_lt q.h (least_side q.kind)) ≡ false =
      or_from (nat_lt q.w (least_side q.kind)) (nat_lt q.h (least_side q.kind)) (le-ltb q.w (least_side q.kind) wide_enough) (le-ltb q.h (least_side q.kind) high_enough) in
      let e : sides_fault (length bytes) (kind_of bytes cfa) (number_of (width_gap bytes)) (number_of (height_gap bytes)) (length (number_text (width_gap bytes))) (length (number_text (height_gap bytes))) ≡ None =
      sides_none (length bytes) (kind_of bytes cfa) (number_of (width_gap bytes)) (number_of (height_gap bytes)) (length (number_text (width_gap bytes))) (length (number_text (height_gap bytes)))
      (rw (w, h) pixels) (rw (kind_is, w, h) least) in
      let f = number_none (length bytes) (greatest_gap bytes) 65535 BadMaxval BadMaxval greatest.opens greatest.starts (rw t some) (rw t small) in
      let need : raster_len bytes ≡ length raster = rw (second, w, h, t) (sym len) in
      let tail : raster_text bytes ≡ raster ++ rest = ap (drop 1) last in
      let begins_white : begins is_white (last_white bytes) ≡ true = ap (begins is_white) last ∙ is_white_byte in
      let enough : raster_len bytes ≤ length (raster_text bytes) = rw (need, tail) (omega (arith, length-append raster rest)) in
      let g = raster_none (length bytes) (last_white bytes) (raster_len bytes) begins_white enough in
      record {
        none = rw (a, b, d, e, f, g) refl;
        magic_is = second;
        w_is = w;
        h_is = h;
        top_is = t;
        raster_is = rw (need, tail) (take_at raster rest (length raster) refl);
      }

-- the bytes of a picture are read as it
pub parsed : (bytes : List ℕ) (cfa : Option Cfa) (q : Picture) (p : IsPicture bytes cfa q) → IsParsed bytes cfa q p.magic p.top p.raster
parsed bytes cfa q p =
    let last = p.white ∷ (p.raster ++ p.rest) in
    let third = p.third_gap ++ (p.greatest ++ last) in
    let second = p.second_gap ++ (p.height ++ third) in
    let first = p.first_gap ++ (p.width ++ second) in
    let three = number_reads p.third_gap p.greatest last p.top p.has_gaps.2 p.is_greatest (white_stops p.white (p.raster ++ p.rest) p.ends_white) in
    let two = number_reads p.second_gap p.height third q.h p.has_gaps.1 p.is_height (gap_stops p.third_gap (p.greatest ++ last) p.has_gaps.2) in
    let one = number_reads p.first_gap p.width second q.w p.has_gaps.0 p.is_width (gap_stops p.second_gap (p.height ++ third) p.has_gaps.1) in
    let at_width : width_gap bytes ≡ first = ap (drop 2) p.text in
    let at_height : height_gap bytes ≡ second = ap behind at_width ∙ one.after in
    let at_greatest : greatest_gap bytes ≡ third = ap behind at_height ∙ two.after in
    let at_last : last_white bytes ≡ last = ap behind at_greatest ∙ three.after in
    parsed_words bytes cfa q p.magic p.top p.white p.raster p.rest (ap (λ b. slice_index b 0) p.text) (ap (λ b. slice_index b 1) p.text) p.is_magic
    (subst HasNumber (sym at_width) one.has) (subst HasNumber (sym at_height) two.has) (subst HasNumber (sym at_greatest) three.has)
    (ap number_of at_width ∙ one.number) (ap number_of at_height ∙ two.number) (ap number_of at_greatest ∙ three.number)
    at_last p.ends_white p.some_top p.top_fits p.kind p.wide p.high p.wide_enough p.high_enough p.pixels p.len
