-- The forms of depths, filter arrays, boxes and views.
use Rattle.std.specs.Prelude.{ℕ, ◌*◌, ℤ, pos, List, [], ◌∷◌, Option, Some, None, option_and_then, codes, nat_le, if◌then◌else◌}
use Rattle.std.specs.Ordering.{int_eq}
use Rattle.serde_json.specs.Data.{Data}
use Rattle.serde_json.specs.Find.{as_str}
use Rattle.px.specs.declared.depth.Depth.{Depth}
use Rattle.px.specs.declared.depth.Depth.TheVariants.{Eight, Sixteen}
use Rattle.px.specs.declared.kind.Cfa.{Cfa}
use Rattle.px.specs.declared.kind.Cfa.TheVariants.{Rggb, Bggr, Grbg, Gbrg}
use Rattle.px.specs.declared.view.View.{View}
use Rattle.px.specs.declared.view.BoxSize.{BoxSize}
use Rattle.params.specs.Form.{has_only, integer, natural, natural_at, pair, named, ◌>>=◌}
use Rattle.params.specs.Stated.{null_or}

-- what follows of an object that has no key but these
abbrev pub if_only : {A : Type 0} → List (List ℕ) → Data → Option A → Option A
if_only keys d form = if has_only keys d then form else None

-- ---- depths and filter arrays

abbrev pub depth_of : ℤ → Option Depth
depth_of bits = if int_eq bits (pos 8) then Some Eight else (if int_eq bits (pos 16) then Some Sixteen else None)

-- the number 8 or 16
abbrev pub depth_form : Data → Option Depth
depth_form d = option_and_then depth_of (integer d)

abbrev pub name_of_cfa : Cfa → List ℕ
name_of_cfa Rggb = codes "RGGB"
name_of_cfa Bggr = codes "BGGR"
name_of_cfa Grbg = codes "GRBG"
name_of_cfa Gbrg = codes "GBRG"

abbrev pub cfa_named : List ℕ → Option Cfa
cfa_named text = named name_of_cfa (Rggb ∷ Bggr ∷ Grbg ∷ Gbrg ∷ []) text

abbrev pub cfa_name_form : Data → Option Cfa
cfa_name_form d = option_and_then cfa_named (as_str d)

-- the name of a filter array, or null for none
abbrev pub cfa_form : Data → Option (Option Cfa)
cfa_form d = null_or cfa_name_form d

-- ---- boxes and views

-- two sides from 1 to the longest
unfoldable pub sides_form : ℕ → Data → Option BoxSize
sides_form longest d = do
  both ← pair d
  w ← natural 1 longest both.0
  h ← natural 1 longest both.1
  Some (record { w = w; h = h })

abbrev pub view_keys : List (List ℕ)
view_keys = codes "factor" ∷ codes "cx" ∷ codes "cy" ∷ codes "w" ∷ codes "h" ∷ []

-- the view that the keys of an object say; its window has at most 786,432 pixels
unfoldable pub view_at_keys : Data → Option View
view_at_keys d = do
  factor ← natural_at (codes "factor") 1 64 d
  cx ← natural_at (codes "cx") 0 65536 d
  cy ← natural_at (codes "cy") 0 65536 d
  w ← natural_at (codes "w") 1 16384 d
  h ← natural_at (codes "h") 1 16384 d
  if nat_le (w * h) 786432 then Some (record { factor = factor; cx = cx; cy = cy; w = w; h = h }) else None

abbrev pub view_form : Data → Option View
view_form d = if_only view_keys d (view_at_keys d)
