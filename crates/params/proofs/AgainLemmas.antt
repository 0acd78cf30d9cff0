-- What is written for settings, masks and blends is read again as the same.
use Rattle.std.proofs.Common.{◌≡◌, ℕ, ℤ, pos, negsuc, ◌≤ℤ◌, List, [], ◌∷◌, length, Bool, true, false, not, ◌&&◌, IsTrue, Option, Some, None, IfSome, Ok, refl, sym, ap, ◌∙◌, arith, true≢false}
use Rattle.std.specs.Bool.{if◌then◌else◌}
use Rattle.std.specs.Cmp.{unsigned_Decides}
use Rattle.std.specs.List.{AllByRecursion}
use Rattle.std.specs.Option.{option_map}
use Rattle.std.specs.Int.RustNames.{int_le}
use Rattle.std.proofs.lemmas.Int.{ints}
use Rattle.serde_json.specs.Data.{string, no_members}
use Rattle.serde_json.specs.Find.{get_member}
use Rattle.params.specs.Form.{is_one_of, only}
use Rattle.params.specs.Names.{mode_named, name_of_mode}
use Rattle.params.specs.Read.{or_form, unless_fault, newest_read, old_read, params_of, blend_kept, blend_of}
use Rattle.params.specs.Rules.{first_fault, IsKept}
use Rattle.params.specs.Stated.{cell_entries, cells_entries, row_entries, mask_entries, blend_entries, keys_of, shape_key, blend_keys, mask_named, mask_form, blend_form, null_or, is_row, Fits, HasLayout}
use Rattle.params.specs.Table.{Part, one, three, nine, pairs, flag, row_of, old_row_of, blend_row, mask_row_of, name_of_mask}
use Rattle.params.specs.Ranges.{IsWithin, IsBlendWithin, IsIn, IsSized, module_of, newest_of, old_version, version_of, kind_of, natural, entries_of, parts_of, old_parts_of, shape_parts, stated_mask, stated_blend, params_from, shape_from, mask_from, blend_from, naturals, wide_three, matrix, wide_nine}
use Rattle.params.specs.Written.{params_data, shape_member, shape_data, mask_data, blend_members, blend_value_data, blend_data, cells_members}
use Rattle.params.specs.declared.blending.Blend.{Blend}
use Rattle.params.specs.declared.blending.Mode.{Mode}
use Rattle.params.specs.declared.blending.Mode.TheVariants as modes
use Rattle.params.specs.declared.blending.Shape.{Shape}
use Rattle.params.specs.declared.blending.Shape.TheVariants as shapes
use Rattle.params.specs.declared.masks.MaskKind.{MaskKind}
use Rattle.params.specs.declared.masks.MaskKind.TheVariants as masks
use Rattle.params.specs.declared.modules.Module.{Module}
use Rattle.params.specs.declared.modules.Module.TheVariants as modules
use Rattle.params.specs.declared.old.OldParams.{OldParams}
use Rattle.params.specs.declared.old.OldParams.TheVariants as old
use Rattle.params.specs.declared.old.OldVersion.{OldVersion}
use Rattle.params.specs.declared.old.OldVersion.TheVariants as olds
use Rattle.params.specs.declared.row.Cell.{Cell}
use Rattle.params.specs.declared.row.Layout.{Layout}
use Rattle.params.specs.declared.row.Layout.TheVariants as layouts
use Rattle.params.specs.declared.settings.Params.{Params}
use Rattle.params.specs.declared.settings.Params.TheVariants as params
use Rattle.params.proofs.RowAgain.{both, row_again, untouched, IsLowPart, IsLow}
use Rattle.params.proofs.Faults.{none_at_fault, int_le-Decides}
use Rattle.params.proofs.KeptLemmas.{all_append, nodes_kept, nodes_back}

-- ---- numbers that are kept are low

-- a cell's range is that of a number of a row
lower : (c : Cell) (z : ℤ) → negsuc 1048574 ≤ℤ c.low → c.high ≤ℤ pos 1048575 → IsIn c.low c.high z → IsLow z
lower c z g h k = (omega (arith, ints, g, k.0), omega (arith, ints, h, k.1))

part_low : (all : List Part) (c : Cell) (p : Part) → negsuc 1048574 ≤ℤ c.low → c.high ≤ℤ pos 1048575 → AllByRecursion IsKept (cell_entries all c p) → IsLowPart p
part_low all c (one z) g h k = lower c z g h k.0
part_low all c (three t) g h k = (lower c t.0 g h k.0, lower c t.1 g h k.1.0, lower c t.2 g h k.1.1.0)
part_low all c (nine t) g h k =
    let l = k.1.1.1 in
    let m = l.1.1.1 in
    ((lower c t.0.0 g h k.0, lower c t.0.1 g h k.1.0, lower c t.0.2 g h k.1.1.0), (lower c t.1.0 g h l.0, lower c t.1.1 g h l.1.0, lower c t.1.2 g h l.1.1.0), (lower c t.2.0 g h m.0, lower c t.2.1 g h m.1.0, lower c t.2.2 g h m.1.1.0))
part_low all c (pairs ns) g h k = nodes_kept c.field 0 (negsuc 0) ns k.1
part_low all c (flag b) g h k = tt

parts_low : (all : List Part) (row : List Cell) (ps : List Part) → IsTrue (is_row row) → Fits row ps → AllByRecursion IsKept (cells_entries all row ps) → AllByRecursion IsLowPart ps
parts_low all [] [] r f k = tt
parts_low all [] (p ∷ ps) r f k = absurd f
parts_low all (c ∷ cs) [] r f k = tt
parts_low all (c ∷ cs) (p ∷ ps) r f k =
    let new = both _ _ r in
    let low = both (int_le (negsuc 1048574) c.low) _ new.1 in
    let high = both (int_le c.high (pos 1048575)) _ low.1 in
    let split = all_append IsKept (cell_entries all c p) (cells_entries all cs ps) k in
    (part_low all c p ((int_le-Decides (negsuc 1048574) c.low).0 low.0) ((int_le-Decides c.high (pos 1048575)).0 high.0) split.0, parts_low all cs ps high.1 f.1 split.1)

-- ---- each row

-- by cases on the rows, each of which computes
pub is_row_of : (m : Module) → IsTrue (is_row (row_of m))
is_row_of modules.RawPrepare = refl
is_row_of _ = refl

pub is_old_row_of : (o : OldVersion) → IsTrue (is_row (old_row_of o))
is_old_row_of olds.Exposure1 = refl
is_old_row_of _ = refl

pub is_mask_row_of : (k : MaskKind) → IsTrue (is_row (mask_row_of k))
is_mask_row_of masks.Gradient = refl
is_mask_row_of _ = refl

-- ---- parts of a type fit their row

abbrev has_layout : Layout → Part → Bool
has_layout layouts.One (one z) = true
has_layout layouts.Three (three t) = true
has_layout layouts.Nine (nine t) = true
has_layout layouts.Pairs (pairs ns) = true
has_layout layouts.Flag (flag b) = true
has_layout s p = false

abbrev fits : List Cell → List Part → Bool
fits [] [] = true
fits [] (p ∷ ps) = false
fits (c ∷ cs) [] = false
fits (c ∷ cs) (p ∷ ps) = has_layout c.layout p && fits cs ps

layout_told : (s : Layout) (p : Part) → has_layout s p ≡ true → HasLayout s p
layout_told layouts.One (one z) h = tt
layout_told layouts.Three (three t) h = tt
layout_told layouts.Nine (nine t) h = tt
layout_told layouts.Pairs (pairs ns) h = tt
layout_told layouts.Flag (flag b) h = tt
layout_told s p h = absurd (true≢false (sym h))

fits_told : (row : List Cell) (ps : List Part) → fits row ps ≡ true → Fits row ps
fits_told [] [] h = tt
fits_told [] (p ∷ ps) h = absurd (true≢false (sym h))
fits_told (c ∷ cs) [] h = absurd (true≢false (sym h))
fits_told (c ∷ cs) (p ∷ ps) h = let s = both (has_layout c.layout p) (fits cs ps) h in (layout_told c.layout p s.0, fits_told cs ps s.1)

params_fit : (p : Params) → fits (row_of (module_of p)) (parts_of p) ≡ true
params_fit params.Demosaic = refl
params_fit _ = refl

old_fit : (p : OldParams) → fits (old_row_of (version_of p)) (old_parts_of p) ≡ true
old_fit (old.ToneCurve1 nodes) = refl
old_fit _ = refl

shape_fit : (s : Shape) → fits (mask_row_of (kind_of s)) (shape_parts s) ≡ true
shape_fit (shapes.Gradient ax ay dx dy slope) = refl
shape_fit _ = refl

pub parts_fit : (p : Params) → Fits (row_of (module_of p)) (parts_of p)
parts_fit p = fits_told (row_of (module_of p)) (parts_of p) (params_fit p)

pub old_parts_fit : (p : OldParams) → Fits (old_row_of (version_of p)) (old_parts_of p)
old_parts_fit p = fits_told (old_row_of (version_of p)) (old_parts_of p) (old_fit p)

pub shape_parts_fit : (s : Shape) → Fits (mask_row_of (kind_of s)) (shape_parts s)
shape_parts_fit s = fits_told (mask_row_of (kind_of s)) (shape_parts s) (shape_fit s)

-- ---- arrays

three_again : (xs : List ℕ) → length xs ≡ 3 → naturals (wide_three xs) ≡ xs
three_again [] h = absurd (omega arith)
three_again (a ∷ []) h = absurd (omega arith)
three_again (a ∷ b ∷ []) h = absurd (omega arith)
three_again (a ∷ b ∷ c ∷ []) h = refl
three_again (a ∷ b ∷ c ∷ d ∷ more) h = absurd (omega arith)

nine_again : (xs : List ℤ) → length xs ≡ 9 → matrix (wide_nine xs) ≡ xs
nine_again (a ∷ b ∷ c ∷ d ∷ e ∷ f ∷ g ∷ h ∷ i ∷ []) len = refl
nine_again [] len = absurd (omega arith)
nine_again (a ∷ []) len = absurd (omega arith)
nine_again (a ∷ b ∷ []) len = absurd (omega arith)
nine_again (a ∷ b ∷ c ∷ []) len = absurd (omega arith)
nine_again (a ∷ b ∷ c ∷ d ∷ []) len = absurd (omega arith)
nine_again (a ∷ b ∷ c ∷ d ∷ e ∷ []) len = absurd (omega arith)
nine_again (a ∷ b ∷ c ∷ d ∷ e ∷ f ∷ []) len = absurd (omega arith)
nine_again (a ∷ b ∷ c ∷ d ∷ e ∷ f ∷ g ∷ []) len = absurd (omega arith)
nine_again (a ∷ b ∷ c ∷ d ∷ e ∷ f ∷ g ∷ h ∷ []) len = absurd (omega arith)
nine_again (a ∷ b ∷ c ∷ d ∷ e ∷ f ∷ g ∷ h ∷ i ∷ j ∷ more) len = absurd (omega arith)

-- settings are those of their parts
settings_again : (p : Params) → IsSized p → params_from (module_of p) (parts_of p) ≡ p
settings_again (params.RawPrepare p) h = λ i. params.RawPrepare (record { black = three_again p.black h i; white = p.white })
settings_again (params.Temperature p) h = λ i. params.Temperature (record { mul = three_again p.mul h i })
settings_again (params.ChannelMixer p) h = λ i. params.ChannelMixer (record { rows = nine_again p.rows h i })
settings_again (params.ToneCurve p) h = λ i. params.ToneCurve (record { red = nodes_back p.red i; green = nodes_back p.green i; blue = nodes_back p.blue i })
settings_again _ h = refl

-- ---- settings

pub parts_are_low : (p : Params) → IsWithin p → AllByRecursion IsLowPart (parts_of p)
parts_are_low p h = parts_low (parts_of p) (row_of (module_of p)) (parts_of p) (is_row_of (module_of p)) (parts_fit p) h.kept

newest_again : (p : Params) → IsWithin p → newest_read (module_of p) (params_data p) ≡ Ok p
newest_again p h =
    let row = row_of (module_of p) in
    ap (λ o. or_form o (λ ps. unless_fault (first_fault (row_entries row ps)) (params_from (module_of p) ps))) (row_again [] row (parts_of p) no_members refl (is_row_of (module_of p)) (parts_fit p) (parts_are_low p h))
    ∙ ap (λ r. unless_fault r (params_from (module_of p) (parts_of p))) (none_at_fault (entries_of p) (record { kept = h.kept }))
    ∙ ap Ok (settings_again p h.sized)

-- what is written for settings is read again, in the newest version, as the same settings
pub params_again : (p : Params) → IsWithin p → params_of (module_of p) (newest_of (module_of p)) (params_data p) ≡ Ok p
params_again p h =
    ap (λ b. if b then newest_read (module_of p) (params_data p) else or_form (old_version (module_of p) (newest_of (module_of p))) (λ o. old_read o (params_data p)))
    ((unsigned_Decides (newest_of (module_of p)) (newest_of (module_of p))).1 refl)
    ∙ newest_again p h

-- ---- masks and blends

pub mask_low : (s : Shape) → AllByRecursion IsKept (mask_entries (Some (stated_mask s))) → AllByRecursion IsLowPart (shape_parts s)
mask_low s h = parts_low (shape_parts s) (mask_row_of (kind_of s)) (shape_parts s) (is_mask_row_of (kind_of s)) (shape_parts_fit s) h

-- no field of a mask stands under the key of its kind
kind_apart : (k : MaskKind) → not (is_one_of shape_key (keys_of (mask_row_of k))) ≡ true
kind_apart masks.Gradient = refl
kind_apart _ = refl

kind_alone : (k : MaskKind) → only (shape_key ∷ keys_of (mask_row_of k)) (shape_member k) ≡ true
kind_alone masks.Gradient = refl
kind_alone _ = refl

kind_again : (k : MaskKind) → mask_named (name_of_mask k) ≡ Some k
kind_again masks.Gradient = refl
kind_again _ = refl

shape_back : (s : Shape) → shape_from (kind_of s) (shape_parts s) ≡ s
shape_back (shapes.Gradient ax ay dx dy slope) = refl
shape_back _ = refl

member_there : (k : MaskKind) → get_member shape_key (shape_member k) ≡ Some (string (name_of_mask k))
member_there masks.Gradient = refl
member_there _ = refl

kind_stays : (s : Shape) → get_member shape_key (cells_members (mask_row_of (kind_of s)) (shape_parts s) (shape_member (kind_of s))) ≡ Some (string (name_of_mask (kind_of s)))
kind_stays s = untouched shape_key (mask_row_of (kind_of s)) (shape_parts s) (shape_member (kind_of s)) (kind_apart (kind_of s)) ∙ member_there (kind_of s)

mask_stated : (s : Shape) → AllByRecursion IsKept (mask_entries (Some (stated_mask s))) → mask_form (shape_data s) ≡ Some (stated_mask s)
mask_stated s h =
    let parts = row_again (shape_key ∷ []) (mask_row_of (kind_of s)) (shape_parts s) (shape_member (kind_of s)) (kind_alone (kind_of s)) (is_mask_row_of (kind_of s)) (shape_parts_fit s) (mask_low s h) in
    rw (kind_stays s) (rw (kind_again (kind_of s)) (rw parts refl))

masks_stated : (m : Option Shape) → AllByRecursion IsKept (mask_entries (option_map stated_mask m)) → null_or mask_form (mask_data m) ≡ Some (option_map stated_mask m)
masks_stated None h = refl
masks_stated (Some s) h = ap (option_map Some) (mask_stated s h)

mode_again : (m : Mode) → mode_named (name_of_mode m) ≡ Some m
mode_again modes.Normal = refl
mode_again _ = refl

pub blend_low : (b : Blend) → IsBlendWithin b → AllByRecursion IsLowPart (natural b.opacity ∷ [])
blend_low b h = parts_low (natural b.opacity ∷ []) blend_row (natural b.opacity ∷ []) refl (tt, tt) (all_append IsKept (row_entries blend_row (natural b.opacity ∷ [])) (mask_entries (option_map stated_mask b.mask)) h.kept).0

blend_stated : (b : Blend) → IsBlendWithin b → blend_form (blend_value_data b) ≡ Some (stated_blend b)
blend_stated b h =
    let ms = blend_members (mask_data b.mask) b.mode in
    let parts = natural b.opacity ∷ [] in
    let row = row_again blend_keys blend_row parts ms refl refl (tt, tt) (blend_low b h) in
    let shape = masks_stated b.mask (all_append IsKept (row_entries blend_row parts) (mask_entries (option_map stated_mask b.mask)) h.kept).1 in
    rw row (rw (mode_again b.mode) (rw shape refl))

masks_back : (m : Option Shape) → option_map mask_from (option_map stated_mask m) ≡ m
masks_back None = refl
masks_back (Some s) = ap Some (shape_back s)

-- what is written for a blend, or for none, is read again as the same
pub blend_again : (o : Option Blend) → IfSome o IsBlendWithin → blend_of (blend_data o) ≡ Ok o
blend_again None h = refl
blend_again (Some b) h =
    ap (λ o. or_form (option_map Some o) blend_kept) (blend_stated b h)
    ∙ ap (λ r. unless_fault r (Some (blend_from (stated_blend b)))) (none_at_fault (blend_entries (stated_blend b)) (record { kept = h.kept }))
    ∙ (λ i. Ok (Some (record { opacity = b.opacity; mode = b.mode; mask = masks_back b.mask i })))
