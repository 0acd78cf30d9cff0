-- What is read is within the ranges, and what the checks say.
use Rattle.std.proofs.Common.{◌≡◌, ℕ, ℤ, pos, negsuc, ◌≤ℤ◌, List, [], ◌∷◌, ◌++◌, Option, Some, None, is_some, IfSome, IfOk, IsOk, ◌↔◌, Result, Ok, Err, Bool, true, false, nat_eq, refl, sym, ap, ◌∙◌, subst, arith}
use Rattle.std.specs.Bool.{⊤, if◌then◌else◌}
use Rattle.std.specs.Prelude.{codes}
use Rattle.std.specs.List.{AllByRecursion}
use Rattle.std.specs.Option.{option_and_then, option_map}
use Rattle.std.proofs.lemmas.Int.{ints}
use Rattle.serde_json.specs.Data.{Data}
use Rattle.serde_json.specs.Find.{get, as_array, as_bool, as_null}
use Rattle.params.specs.Form.{natural_of, only_if, integer, three_integers, has_only, text_at, ◌>>=◌}
use Rattle.params.specs.Names.{mode_named}
use Rattle.params.specs.Rules.{first_fault, IsKept}
use Rattle.params.specs.Read.{IsReading, or_form, unless_fault, form_read, row_read, newest_read, old_read, params_of, blend_kept, blend_of}
use Rattle.params.specs.Seen.{wide_nodes}
use Rattle.params.specs.Stated.{StatedMask, StatedBlend, part_form, cell_form, parts_form, row_form, key_of, keys_of, nine_form, pairs_form, nodes_entries, curve_entries, row_entries, mask_entries, blend_entries, mask_named, mask_form, blend_form, null_or, shape_key, blend_keys, Fits, HasLayout}
use Rattle.params.specs.Table.{Part, one, three, nine, pairs, flag, Triple, row_of, old_row_of, blend_row, mask_row_of}
use Rattle.params.specs.Ranges.{IsRowKept, IsWithin, IsOldWithin, IsMaskKept, IsBlendKept, IsBlendWithin, IsSized, AreInputs, module_of, newest_of, old_version, version_of, kind_of, entries_of, old_entries_of, parts_of, old_parts_of, shape_parts, stated_mask, stated_blend, params_from, old_from, shape_from, mask_from, blend_from, migrated, check_of, check_old_of, nodes_of, natural, natural_at, naturals, wide_three}
use Rattle.params.specs.declared.blending.Blend.{Blend}
use Rattle.params.specs.declared.fault.Field.{Field}
use Rattle.params.specs.declared.fault.Field.TheVariants.{Nodes, Red, Green, Blue}
use Rattle.params.specs.declared.fault.ParamFault.{ParamFault}
use Rattle.params.specs.declared.fault.JsonEnd.{JsonEnd}
use Rattle.params.specs.declared.fault.JsonEnd.TheVariants.{Param}
use Rattle.params.specs.declared.masks.MaskKind.{MaskKind}
use Rattle.params.specs.declared.masks.MaskKind.TheVariants as masks
use Rattle.params.specs.declared.modules.Module.{Module}
use Rattle.params.specs.declared.modules.Module.TheVariants as modules
use Rattle.params.specs.declared.old.OldParams.{OldParams}
use Rattle.params.specs.declared.old.OldVersion.{OldVersion}
use Rattle.params.specs.declared.old.OldVersion.TheVariants as olds
use Rattle.params.specs.declared.row.Cell.{Cell}
use Rattle.params.specs.declared.row.Layout.{Layout}
use Rattle.params.specs.declared.row.Layout.TheVariants as layouts
use Rattle.params.specs.declared.rules.Entry.{Entry}
use Rattle.params.specs.declared.settings.Params.{Params}
use Rattle.params.proofs.Faults.{all_kept, none_at_fault}
use Rattle.params.proofs.KeptLemmas.{all_append, nodes_kept}
use Rattle.params.proofs.OldLemmas.{module_of_old, migrated_module, migrated_within}
use Rattle.params.proofs.ReadLemmas.{some_of}

-- the answer is none exactly where the settings are within their ranges
pub within_tells : (p : Params) (r : Result ⊤ ParamFault) → IsSized p → r ≡ check_of p → IsOk r ↔ IsWithin p
within_tells p (Ok t) sized e = (λ _. record { sized = sized; kept = (all_kept (entries_of p) (sym e)).kept }, λ _. refl)
within_tells p (Err f) sized e = (λ h. cc, λ w. cc (none_at_fault (entries_of p) (record { kept = w.kept })))

pub old_tells : (p : OldParams) (r : Result ⊤ ParamFault) → r ≡ check_old_of p → IsOk r ↔ IsOldWithin p
old_tells p (Ok t) e = (λ _. record { kept = (all_kept (old_entries_of p) (sym e)).kept }, λ _. refl)
old_tells p (Err f) e = (λ h. cc, λ w. cc (none_at_fault (old_entries_of p) (record { kept = w.kept })))

-- settings that have no fault are within their ranges
pub fault_free : (p : Params) → IsSized p → check_of p ≡ Ok tt → IsWithin p
fault_free p sized e = record { sized = sized; kept = (all_kept (entries_of p) e).kept }

-- ---- what is stated fits the row

one_fits : (o : Option ℤ) (p : Part) → option_map one o ≡ Some p → HasLayout layouts.One p
one_fits None p e = cc
one_fits (Some x) p e = let same : one x ≡ p = cc in subst (HasLayout layouts.One) same tt

three_fits : (o : Option Triple) (p : Part) → option_map three o ≡ Some p → HasLayout layouts.Three p
three_fits None p e = cc
three_fits (Some x) p e = let same : three x ≡ p = cc in subst (HasLayout layouts.Three) same tt

nine_fits : (o : Option (Triple × Triple × Triple)) (p : Part) → option_map nine o ≡ Some p → HasLayout layouts.Nine p
nine_fits None p e = cc
nine_fits (Some x) p e = let same : nine x ≡ p = cc in subst (HasLayout layouts.Nine) same tt

pairs_fits : (o : Option (List (ℤ × ℤ))) (p : Part) → option_map pairs o ≡ Some p → HasLayout layouts.Pairs p
pairs_fits None p e = cc
pairs_fits (Some x) p e = let same : pairs x ≡ p = cc in subst (HasLayout layouts.Pairs) same tt

flag_fits : (o : Option Bool) (p : Part) → option_map flag o ≡ Some p → HasLayout layouts.Flag p
flag_fits None p e = cc
flag_fits (Some x) p e = let same : flag x ≡ p = cc in subst (HasLayout layouts.Flag) same tt

part_fits : (s : Layout) (d : Data) (p : Part) → part_form s d ≡ Some p → HasLayout s p
unfolding part_form
part_fits layouts.One d p e = one_fits (integer d) p e
part_fits layouts.Three d p e = three_fits (three_integers d) p e
part_fits layouts.Nine d p e = nine_fits (nine_form d) p e
part_fits layouts.Pairs d p e = pairs_fits (as_array d >>= pairs_form) p e
part_fits layouts.Flag d p e = flag_fits (as_bool d) p e

looked_fits : (s : Layout) (o : Option Data) (p : Part) → option_and_then (part_form s) o ≡ Some p → HasLayout s p
looked_fits s None p e = cc
looked_fits s (Some d) p e = part_fits s d p e

more_fits : (c : Cell) (cs : List Cell) (o : Option Part) (rest : Option (List Part)) (ps : List Part) → ((p : Part) → o ≡ Some p → HasLayout c.layout p) → ((qs : List Part) → rest ≡ Some qs → Fits cs qs)
    → option_and_then (λ p. option_map (λ qs. p ∷ qs) rest) o ≡ Some ps → Fits (c ∷ cs) ps
more_fits c cs None rest ps f g e = cc
more_fits c cs (Some p) None ps f g e = cc
more_fits c cs (Some p) (Some qs) ps f g e = let same : (p ∷ qs) ≡ ps = cc in subst (Fits (c ∷ cs)) same (f p refl, g qs refl)

parts_fit : (row : List Cell) (d : Data) (ps : List Part) → parts_form row d ≡ Some ps → Fits row ps
parts_fit [] d ps e = let same : [] ≡ ps = cc in subst (Fits []) same tt
parts_fit (c ∷ cs) d ps e = more_fits c cs (cell_form c d) (parts_form cs d) ps (looked_fits c.layout (get (key_of c) d)) (parts_fit cs d) e

only_fits : (row : List Cell) (b : Bool) (o : Option (List Part)) (ps : List Part) → ((qs : List Part) → o ≡ Some qs → Fits row qs) → (if b then o else None) ≡ Some ps → Fits row ps
only_fits row true o ps f e = f ps e
only_fits row false o ps f e = cc

-- an object of a row's form states parts that fit it
pub row_fits : (beside : List (List ℕ)) (row : List Cell) (d : Data) (ps : List Part) → row_form beside row d ≡ Some ps → Fits row ps
row_fits beside row d ps e = only_fits row (has_only (beside ++ keys_of row) d) (parts_form row d) ps (parts_fit row d) e

-- ---- each module: parts that are kept are those of their settings

back : (z : ℤ) → pos 0 ≤ℤ z → pos (natural_of z) ≡ z
back (pos n) h = refl
back (negsuc n) h = absurd (omega (arith, ints))

nodes_back : (ns : List (ℤ × ℤ)) → AreInputs ns → wide_nodes (nodes_of ns) ≡ ns
nodes_back [] h = refl
nodes_back (n ∷ ns) h =
    let x = back n.0 h.0.0.0 in
    let y = back n.1 h.0.1.0 in
    let rest = nodes_back ns h.1 in
    λ i. (x i, y i) ∷ rest i

pub record IsBack (m : Module) (ps : List Part) (p : Params) : Type 0 where
  pub parts : parts_of p ≡ ps
  pub sized : IsSized p
  pub is : module_of p ≡ m

-- the nodes of a list of pairs whose entries are kept, by the field under which it stands
curve_back : (field : Field) (ns : List (ℤ × ℤ)) (more : List Entry) → AllByRecursion IsKept (nodes_entries field 0 (negsuc 0) ns ++ more) → wide_nodes (nodes_of ns) ≡ ns
curve_back field ns more k = nodes_back ns (nodes_kept field 0 (negsuc 0) ns (all_append IsKept (nodes_entries field 0 (negsuc 0) ns) more k).0)

three_back : (t : Triple) → pos 0 ≤ℤ t.0 → pos 0 ≤ℤ t.1 → pos 0 ≤ℤ t.2 → wide_three (naturals t) ≡ t
three_back t f g h = λ i. (back t.0 f i, back t.1 g i, back t.2 h i)

pub params_back : (m : Module) (ps : List Part) → IsRowKept (row_of m) ps → IsBack m ps (params_from m ps)
params_back modules.RawPrepare (three t ∷ one w ∷ []) h =
    let k = h.kept in
    let black = three_back t k.0.0 k.1.0.0 k.1.1.0.0 in
    let white = back w (omega (arith, ints, k.1.1.1.0.0)) in
    record { parts = λ i. three (black i) ∷ one (white i) ∷ []; sized = refl; is = refl }
params_back modules.Temperature (three t ∷ []) h =
    let k = h.kept in
    let mul = three_back t k.0.0 k.1.0.0 k.1.1.0.0 in
    record { parts = λ i. three (mul i) ∷ []; sized = refl; is = refl }
params_back modules.Demosaic [] h = record { parts = refl; sized = tt; is = refl }
params_back modules.Orientation (flag a ∷ flag b ∷ flag c ∷ []) h = record { parts = refl; sized = tt; is = refl }
params_back modules.Crop (one l ∷ one t ∷ one r ∷ one b ∷ []) h =
    let k = h.kept in
    let left = back l k.0.0 in
    let top = back t k.1.0.0 in
    let right = back r (omega (arith, ints, k.1.1.0.0)) in
    let bottom = back b (omega (arith, ints, k.1.1.1.1.0.0)) in
    record { parts = λ i. one (left i) ∷ one (top i) ∷ one (right i) ∷ one (bottom i) ∷ []; sized = tt; is = refl }
params_back modules.Exposure (one b ∷ one g ∷ one s ∷ []) h =
    let gain = back g h.kept.1.0.0 in
    record { parts = λ i. one b ∷ one (gain i) ∷ one s ∷ []; sized = tt; is = refl }
params_back modules.ChannelMixer (nine t ∷ []) h = record { parts = refl; sized = refl; is = refl }
params_back modules.ToneCurve (pairs r ∷ pairs g ∷ pairs b ∷ []) h =
    let behind_red = (all_append IsKept (curve_entries Red r) (curve_entries Green g ++ (curve_entries Blue b ++ [])) h.kept).1 in
    let behind_green = (all_append IsKept (curve_entries Green g) (curve_entries Blue b ++ []) behind_red).1 in
    let red = curve_back Red r _ h.kept.1 in
    let green = curve_back Green g _ behind_red.1 in
    let blue = curve_back Blue b _ behind_green.1 in
    record { parts = λ i. pairs (red i) ∷ pairs (green i) ∷ pairs (blue i) ∷ []; sized = tt; is = refl }
params_back modules.BoxBlur (one r ∷ []) h =
    let radius = back r (omega (arith, ints, h.kept.0.0)) in
    record { parts = λ i. one (radius i) ∷ []; sized = tt; is = refl }
params_back modules.Sharpen (one r ∷ one a ∷ []) h =
    let radius = back r (omega (arith, ints, h.kept.0.0)) in
    let amount = back a h.kept.1.0.0 in
    record { parts = λ i. one (radius i) ∷ one (amount i) ∷ []; sized = tt; is = refl }
params_back m ps h = absurd (assumption h.fits)

-- ---- what is read

kept_read : {B : Type 0} (row : List Cell) (make : List Part → B) (P : B → Type 0) → ((ps : List Part) → IsRowKept row ps → P (make ps))
    → (ps : List Part) (b : B) (r : Result ⊤ ParamFault) → first_fault (row_entries row ps) ≡ r → Fits row ps → unless_fault r (make ps) ≡ Ok b → P b
kept_read row make P each ps b (Err f) e fits q = cc
kept_read row make P each ps b (Ok t) e fits q =
    let same : make ps ≡ b = cc in
    subst P same (each ps (record { fits = fits; kept = (all_kept (row_entries row ps) e).kept }))

form_case : {B : Type 0} (row : List Cell) (make : List Part → B) (P : B → Type 0) → ((ps : List Part) → IsRowKept row ps → P (make ps))
    → (o : Option (List Part)) (b : B) → ((ps : List Part) → o ≡ Some ps → Fits row ps)
    → or_form o (λ ps. unless_fault (first_fault (row_entries row ps)) (make ps)) ≡ Ok b → P b
form_case row make P each None b f q = cc
form_case row make P each (Some ps) b f q = kept_read row make P each ps b (first_fault (row_entries row ps)) refl (f ps refl) q

-- what holds of all that parts make which keep a row holds of what is read by the row
row_read_has : {B : Type 0} (row : List Cell) (make : List Part → B) (P : B → Type 0) → ((ps : List Part) → IsRowKept row ps → P (make ps)) → (d : Data) (b : B) → row_read row make d ≡ Ok b → P b
row_read_has row make P each d b q = form_case row make P each (row_form [] row d) b (row_fits [] row d) q

-- settings of a module, within their ranges
pub record IsSettings (m : Module) (p : Params) : Type 0 where
  pub within : IsWithin p
  pub is : module_of p ≡ m

newest_settings : (m : Module) (ps : List Part) → IsRowKept (row_of m) ps → IsSettings m (params_from m ps)
newest_settings m ps h =
    let b = params_back m ps h in
    record { within = record { sized = b.sized; kept = rw (b.is, b.parts) h.kept }; is = b.is }

-- ---- old versions

old_back : (o : OldVersion) (ps : List Part) → IsRowKept (old_row_of o) ps → (version_of (old_from o ps) ≡ o) × (old_parts_of (old_from o ps) ≡ ps)
old_back olds.Exposure1 (one b ∷ one g ∷ []) h = let gain = back g h.kept.1.0.0 in (refl, λ i. one b ∷ one (gain i) ∷ [])
old_back olds.ToneCurve1 (pairs ns ∷ []) h = let nodes = curve_back Nodes ns _ h.kept.1 in (refl, λ i. pairs (nodes i) ∷ [])
old_back o ps h = absurd (assumption h.fits)

-- old settings whose parts are kept are within the old ranges
pub old_within : (o : OldVersion) (ps : List Part) → IsRowKept (old_row_of o) ps → IsOldWithin (old_from o ps)
old_within o ps h = let b = old_back o ps h in record { kept = rw (b.0, b.1) h.kept }

old_settings : (m : Module) (o : OldVersion) (ps : List Part) → module_of_old o ≡ m → IsRowKept (old_row_of o) ps → IsSettings m (migrated (old_from o ps))
old_settings m o ps e h =
    let b = old_back o ps h in
    record { within = migrated_within (old_from o ps) (old_within o ps h); is = migrated_module (old_from o ps) ∙ ap module_of_old b.0 ∙ e }

only_some : {A : Type 0} (b : Bool) (x y : A) → only_if b x ≡ Some y → x ≡ y
only_some true x y e = cc
only_some false x y e = cc

old_of : (m : Module) (v : ℕ) (o : OldVersion) → old_version m v ≡ Some o → module_of_old o ≡ m
old_of modules.Exposure v o e = let same : olds.Exposure1 ≡ o = only_some (nat_eq v 1) olds.Exposure1 o e in sym (ap module_of_old same)
old_of modules.ToneCurve v o e = let same : olds.ToneCurve1 ≡ o = only_some (nat_eq v 1) olds.ToneCurve1 o e in sym (ap module_of_old same)
old_of _ v o e = cc

-- ---- all versions

old_case : (m : Module) (o : Option OldVersion) (d : Data) (p : Params) → ((x : OldVersion) → o ≡ Some x → module_of_old x ≡ m) → or_form o (λ x. old_read x d) ≡ Ok p → IsSettings m p
old_case m None d p f q = cc
old_case m (Some x) d p f q = row_read_has (old_row_of x) (λ ps. migrated (old_from x ps)) (IsSettings m) (λ ps h. old_settings m x ps (f x refl) h) d p q

version_case : (m : Module) (b : Bool) (v : ℕ) (d : Data) (p : Params) → (if b then newest_read m d else or_form (old_version m v) (λ o. old_read o d)) ≡ Ok p → IsSettings m p
version_case m true v d p q = row_read_has (row_of m) (params_from m) (IsSettings m) (newest_settings m) d p q
version_case m false v d p q = old_case m (old_version m v) d p (old_of m v) q

params_settings : (m : Module) (v : ℕ) (d : Data) (p : Params) → params_of m v d ≡ Ok p → IsSettings m p
params_settings m v d p q = version_case m (nat_eq v (newest_of m)) v d p q

-- settings that are read are those of the module, within their ranges
pub params_read_within : (m : Module) (v : ℕ) (d : Data) (p : Params) → params_of m v d ≡ Ok p → IsWithin p × (module_of p ≡ m)
params_read_within m v d p q = let s = params_settings m v d p q in (s.within, s.is)

pub params_within_on_ok : (r : Result Params JsonEnd) (m : Module) (v : ℕ) (d : Data) → IsReading r (params_of m v d) → IfOk r IsWithin
params_within_on_ok (Ok p) m v d h = (params_read_within m v d p h).0
params_within_on_ok (Err e) m v d h = tt

pub params_module_on_ok : (r : Result Params JsonEnd) (m : Module) (v : ℕ) (d : Data) → IsReading r (params_of m v d) → IfOk r (λ p. module_of p ≡ m)
params_module_on_ok (Ok p) m v d h = (params_read_within m v d p h).1
params_module_on_ok (Err e) m v d h = tt

-- what is stated by a row, with no fault, is kept
pub row_kept : (row : List Cell) (d : Data) (ps qs : List Part) → form_read (row_form [] row d) ≡ Ok ps → qs ≡ ps → first_fault (row_entries row qs) ≡ Ok tt → IsRowKept row qs
row_kept row d ps qs e same ok = record { fits = rw same (row_fits [] row d ps (some_of (row_form [] row d) ps e)); kept = (all_kept (row_entries row qs) ok).kept }

fault_of_form : {B : Type 0} (row : List Cell) (make : List Part → B) (o : Option (List Part)) (ps : List Part) (f : ParamFault) → o ≡ Some ps → first_fault (row_entries row ps) ≡ Err f
    → or_form o (λ qs. unless_fault (first_fault (row_entries row qs)) (make qs)) ≡ Err (Param f)
fault_of_form row make o ps f e g = rw (e, g) refl

-- what is stated by a row, with a fault, is that fault
pub row_faulty : {B : Type 0} (row : List Cell) (make : List Part → B) (d : Data) (ps : List Part) (f : ParamFault) → form_read (row_form [] row d) ≡ Ok ps → first_fault (row_entries row ps) ≡ Err f
    → row_read row make d ≡ Err (Param f)
row_faulty row make d ps f e g = fault_of_form row make (row_form [] row d) ps f (some_of (row_form [] row d) ps e) g

-- ---- masks and blends

shape_back : (k : MaskKind) (ps : List Part) → IsRowKept (mask_row_of k) ps → (kind_of (shape_from k ps) ≡ k) × (shape_parts (shape_from k ps) ≡ ps)
shape_back masks.Gradient (one ax ∷ one ay ∷ one dx ∷ one dy ∷ one slope ∷ []) h =
    let k = h.kept in
    let x = back ax k.0.0 in
    let y = back ay k.1.0.0 in
    let s = back slope (omega (arith, ints, k.1.1.1.1.1.0.0)) in
    (refl, λ i. one (x i) ∷ one (y i) ∷ one dx ∷ one dy ∷ one (s i) ∷ [])
shape_back masks.Ellipse (one cx ∷ one cy ∷ one ux ∷ one uy ∷ one a ∷ one b ∷ one feather ∷ []) h =
    let k = h.kept in
    let l = k.1.1.1.1.1 in
    let x = back cx k.0.0 in
    let y = back cy k.1.0.0 in
    let s = back a (omega (arith, ints, l.0.0)) in
    let t = back b (omega (arith, ints, l.1.0.0)) in
    let f = back feather (omega (arith, ints, l.1.1.0.0)) in
    (refl, λ i. one (x i) ∷ one (y i) ∷ one ux ∷ one uy ∷ one (s i) ∷ one (t i) ∷ one (f i) ∷ [])
shape_back k ps h = absurd (assumption h.fits)

mask_back : (m : Option StatedMask) → IfSome m IsMaskKept → option_map stated_mask (option_map mask_from m) ≡ m
mask_back None h = refl
mask_back (Some m) h = let b = shape_back m.0 m.1 h in λ i. Some (b.0 i, b.1 i)

parts_back : (ps : List Part) → IsRowKept blend_row ps → natural (natural_at ps 0) ∷ [] ≡ ps
parts_back (one z ∷ []) h = let opacity = back z h.kept.0.0 in λ i. one (opacity i) ∷ []
parts_back ps h = absurd (assumption h.fits)

blend_back : (s : StatedBlend) → IsBlendKept s → stated_blend (blend_from s) ≡ s
blend_back s h =
    let parts = parts_back s.parts h.row in
    let mask = mask_back s.mask h.mask in
    λ i. record { mode = s.mode; parts = parts i; mask = mask i }

both_rows : (m : Option StatedMask) → AllByRecursion IsKept (mask_entries m) → IfSome m (λ x. Fits (mask_row_of x.0) x.1) → IfSome m IsMaskKept
both_rows None k f = tt
both_rows (Some m) k f = record { fits = f; kept = k }

-- what is stated for a blend fits its rows
pub record BlendFits (s : StatedBlend) : Type 0 where
  pub row : Fits blend_row s.parts
  pub mask : IfSome s.mask (λ m. Fits (mask_row_of m.0) m.1)

pub blend_kept_of : (s : StatedBlend) → BlendFits s → first_fault (blend_entries s) ≡ Ok tt → IsBlendKept s
blend_kept_of s f e =
    let kept = (all_kept (blend_entries s) e).kept in
    let split = all_append IsKept (row_entries blend_row s.parts) (mask_entries s.mask) kept in
    record { row = record { fits = f.row; kept = split.0 }; mask = both_rows s.mask split.1 f.mask }

some_map : {A B : Type 0} (f : A → B) (o : Option A) (b : B) → option_map f o ≡ Some b → (a : A) × (o ≡ Some a) × (f a ≡ b)
some_map f None b e = cc
some_map f (Some a) b e = (a, refl, cc)

-- what a step that gives a value was given, and what the rest gives
some_then : {A B : Type 0} (f : A → Option B) (o : Option A) (b : B) → option_and_then f o ≡ Some b → (a : A) × (o ≡ Some a) × (f a ≡ Some b)
some_then f None b e = cc
some_then f (Some a) b e = (a, refl, e)

mask_fits : (d : Data) (m : StatedMask) → mask_form d ≡ Some m → Fits (mask_row_of m.0) m.1
mask_fits d m e =
    let word = some_then (λ w. mask_named w >>= λ k. row_form (shape_key ∷ []) (mask_row_of k) d >>= λ ps. Some (k, ps)) (text_at shape_key d) m e in
    let kind = some_then (λ k. row_form (shape_key ∷ []) (mask_row_of k) d >>= λ ps. Some (k, ps)) (mask_named word.0) m word.2 in
    let parts = some_then (λ ps. Some (kind.0, ps)) (row_form (shape_key ∷ []) (mask_row_of kind.0) d) m kind.2 in
    let same : (kind.0, parts.0) ≡ m = cc (parts.2) in
    subst (λ x. Fits (mask_row_of x.0) x.1) same (row_fits (shape_key ∷ []) (mask_row_of kind.0) d parts.0 parts.1)

null_fits : (b : Bool) (d : Data) (o : Option StatedMask) → (if b then Some None else option_map Some (mask_form d)) ≡ Some o → IfSome o (λ m. Fits (mask_row_of m.0) m.1)
null_fits true d o e = let same : None ≡ o = cc in subst (λ x. IfSome x (λ m. Fits (mask_row_of m.0) m.1)) same tt
null_fits false d o e =
    let m = some_map Some (mask_form d) o e in
    subst (λ x. IfSome x (λ m. Fits (mask_row_of m.0) m.1)) m.2 (mask_fits d m.0 m.1)

pub blend_fits : (d : Data) (s : StatedBlend) → blend_form d ≡ Some s → BlendFits s
blend_fits d s e =
    let parts = some_then (λ ps. text_at (codes "mode") d >>= λ w. mode_named w >>= λ mode. get (codes "mask") d >>= λ v. null_or mask_form v >>= λ mask. Some (record { mode = mode; parts = ps; mask = mask })) (row_form blend_keys blend_row d) s e in
    let word = some_then (λ w. mode_named w >>= λ mode. get (codes "mask") d >>= λ v. null_or mask_form v >>= λ mask. Some (record { mode = mode; parts = parts.0; mask = mask })) (text_at (codes "mode") d) s parts.2 in
    let mode = some_then (λ mode. get (codes "mask") d >>= λ v. null_or mask_form v >>= λ mask. Some (record { mode = mode; parts = parts.0; mask = mask })) (mode_named word.0) s word.2 in
    let value = some_then (λ v. null_or mask_form v >>= λ mask. Some (record { mode = mode.0; parts = parts.0; mask = mask })) (get (codes "mask") d) s mode.2 in
    let mask = some_then (λ mask. Some (record { mode = mode.0; parts = parts.0; mask = mask })) (null_or mask_form value.0) s value.2 in
    let made : StatedBlend = record { mode = mode.0; parts = parts.0; mask = mask.0 } in
    let same : made ≡ s = cc (mask.2) in
    subst BlendFits same (record { row = row_fits blend_keys blend_row d parts.0 parts.1; mask = null_fits (is_some (as_null value.0)) value.0 mask.0 mask.1 })

blend_case : (s : StatedBlend) (r : Result ⊤ ParamFault) (o : Option Blend) → first_fault (blend_entries s) ≡ r → BlendFits s → unless_fault r (Some (blend_from s)) ≡ Ok o → IfSome o IsBlendWithin
blend_case s (Err f) o e fits q = cc
blend_case s (Ok t) o e fits q =
    let same : Some (blend_from s) ≡ o = cc in
    let kept = (all_kept (blend_entries s) e).kept in
    subst (λ x. IfSome x IsBlendWithin) same (record { kept = subst (λ x. AllByRecursion IsKept (blend_entries x)) (sym (blend_back s (blend_kept_of s fits e))) kept })

form_blend : (s : Option StatedBlend) (o : Option Blend) → IfSome s BlendFits → blend_kept s ≡ Ok o → IfSome o IsBlendWithin
form_blend None o f q = let same : None ≡ o = cc in subst (λ x. IfSome x IsBlendWithin) same tt
form_blend (Some s) o f q = blend_case s (first_fault (blend_entries s)) o refl f q

read_blend : (s : Option StatedBlend) (o : Option Blend) → ((x : StatedBlend) → s ≡ Some x → BlendFits x) → or_form (option_map Some s) blend_kept ≡ Ok o → IfSome o IsBlendWithin
read_blend None o f q = cc
read_blend (Some s) o f q = form_blend (Some s) o (f s refl) q

or_blend : (b : Bool) (d : Data) (o : Option Blend) → or_form (if b then Some None else option_map Some (blend_form d)) blend_kept ≡ Ok o → IfSome o IsBlendWithin
or_blend true d o q = form_blend None o tt q
or_blend false d o q = read_blend (blend_form d) o (blend_fits d) q

-- a blend that is read is within its ranges
pub blend_read_within : (d : Data) (o : Option Blend) → blend_of d ≡ Ok o → IfSome o IsBlendWithin
blend_read_within d o q = or_blend (is_some (as_null d)) d o q

pub blend_within_on_ok : (r : Result (Option Blend) JsonEnd) (d : Data) → r ≡ blend_of d → IfOk r (λ o. IfSome o IsBlendWithin)
blend_within_on_ok (Ok o) d h = blend_read_within d o (sym h)
blend_within_on_ok (Err e) d h = tt
