-- bands of a raster
use Rattle.std.proofs.Common.{◌≡◌, ℕ, suc, ◌+◌, ◌*◌, ◌/◌, ◌%◌, ◌<◌, ◌≤◌, List, [], ◌∷◌, ◌++◌, map, min, length, slice_index, refl, sym, ap, ◌∙◌, subst, arith}
use Rattle.std.specs.Prelude.{Result}
use Rattle.std.specs.List.{flat_map}
use Rattle.std.proofs.lemmas.Grind.{flat_map-append, same_number_lists}
use Rattle.std.proofs.lemmas.List.{get_or-map, length-map, length-append}
use Rattle.std.proofs.lemmas.List.Concat.{flat_map_single}
use Rattle.px.specs.declared.depth.Depth.TheVariants.{Eight, Sixteen}
use Rattle.px.specs.declared.depth.Depth.{Depth}
use Rattle.px.specs.declared.kind.PlaneKind.TheVariants.{Rgb}
use Rattle.px.specs.Area.{Area, IsArea, whole_of}
use Rattle.px.specs.Bands.{cut_by, GivesCuts}
use Rattle.px.specs.Cut.{Cut, IsPlane}
use Rattle.px.specs.Picture.{Picture}
use Rattle.px.proofs.BandLemmas.{bands_joined}
use Rattle.pnm.specs.Pnm.{greatest, header, sample_bytes, written}
use Rattle.pnm.specs.ByteBands.{AreByteBands, IsTextOf, bytes_of}
use Rattle.pnm.proofs.SampleLemmas.{written_of_whole}

pub eight_all : (values bytes : List ℕ) → length values ≡ length bytes → ((i : ℕ) → i < length values → slice_index bytes i ≡ min (slice_index values i) 65535 / 257)
    → bytes ≡ flat_map (sample_bytes Eight) values
eight_all values bytes len each =
    let same : bytes ≡ map (λ v. min v 65535 / 257) values = same_number_lists bytes (map (λ v. min v 65535 / 257) values) (let e : length bytes ≡ length (map (λ v. min v 65535 / 257) values) = simp length-map (sym len) in e)
    (λ k below. let within : k < length values = rw len below in each k within ∙ sym (get_or-map (λ v. min v 65535 / 257) values k 0 0 within)) in
    same ∙ sym (flat_map_single (λ v. min v 65535 / 257) values)

-- the first two bytes are those of the first value, and the others those of the others
abbrev pub HasPair : List ℕ → List ℕ → ℕ → Type 0
HasPair values bytes i = (slice_index bytes (i * 2) ≡ min (slice_index values i) 65535 / 256) × (slice_index bytes (i * 2 + 1) ≡ min (slice_index values i) 65535 % 256)

later_pair : (v a b : ℕ) (values bytes : List ℕ) (i : ℕ) → HasPair (v ∷ values) (a ∷ b ∷ bytes) (suc i) → HasPair values bytes i
later_pair v a b values bytes i pair =
    let first : suc i * 2 ≡ suc (suc (i * 2)) = omega arith in
    let second : suc i * 2 + 1 ≡ suc (suc (i * 2 + 1)) = omega arith in
    (subst (λ k. slice_index (a ∷ b ∷ bytes) k ≡ min (slice_index values i) 65535 / 256) first pair.0, subst (λ k. slice_index (a ∷ b ∷ bytes) k ≡ min (slice_index values i) 65535 % 256) second pair.1)

pub sixteen_all : (values bytes : List ℕ) → length bytes ≡ length values * 2 → ((i : ℕ) → i < length values → HasPair values bytes i) → bytes ≡ flat_map (sample_bytes Sixteen) values
sixteen_all [] [] len each = refl
sixteen_all [] (a ∷ bytes) len each = absurd (omega arith)
sixteen_all (v ∷ values) [] len each = absurd (omega arith)
sixteen_all (v ∷ values) (a ∷ []) len each = absurd (omega arith)
sixteen_all (v ∷ values) (a ∷ b ∷ bytes) len each =
    let first = each 0 (omega arith) in
    let rest : bytes ≡ flat_map (sample_bytes Sixteen) values = sixteen_all values bytes (omega arith) (λ i below. later_pair v a b values bytes i (each (suc i) (omega arith))) in
    λ x. first.0 x ∷ first.1 x ∷ rest x

pub byte_bands_joined : {E : Type 0} (depth : Depth) (w h : ℕ) (post : Area → Result Cut E → Type 0) (y m n : ℕ) (xs ys : List ℕ) → AreByteBands depth w h post y m xs → AreByteBands depth w h post (y + m) n ys
    → AreByteBands depth w h post y (m + n) (xs ++ ys)
byte_bands_joined depth w h post y m n xs ys front back = record {
  values = front.values ++ back.values;
  bytes_are = rw (front.bytes_are, back.bytes_are) (sym (flat_map-append (sample_bytes depth) front.values back.values));
  len = length-append front.values back.values ∙ rw (front.len, back.len) (omega arith);
  bands = bands_joined Rgb w h (whole_of w h) post y m n front.values back.values front.len front.bands back.bands;
}

-- a header and all rows
pub text_of_bands : {E : Type 0} (depth : Depth) (w h : ℕ) (post : Area → Result Cut E → Type 0) (front raster : List ℕ) → IsArea (whole_of w h) → front ≡ header w h (greatest depth) → AreByteBands depth w h post 0 h raster
    → IsTextOf depth w h post (front ++ raster)
text_of_bands depth w h post front raster area front_is rows q cuts =
    let p = cut_by Rgb w h (whole_of w h) rows.values in
    let valid : IsPlane p = record {
      area = area;
      inside = record { across = omega arith; down = omega arith };
      wide = omega (arith, area.right);
      high = omega (arith, area.bottom);
      wide_enough = omega (arith, area.wide);
      high_enough = omega (arith, area.high);
      len = rows.len ∙ omega arith;
      top = rows.bands.top;
    } in
    rw (front_is, rows.bytes_are) (written_of_whole p q w h rows.values depth valid (rows.bands.cut q cuts) refl refl refl refl refl)
