-- The text of what is written is short, has no float and little depth.
use Rattle.std.proofs.Common.{◌≡◌, ℕ, ◌+◌, ◌*◌, ◌<◌, ◌≤◌, max, ℤ, pos, negsuc, List, [], ◌∷◌, length, Bool, true, false, ◌||◌, ◌&&◌, nat_le, Option, Some, None, IfSome, Ordering, Less, Equal, Greater, refl, arith, lit≤, length-append}
use Rattle.std.specs.Prelude.{codes}
use Rattle.std.specs.List.{AllByRecursion}
use Rattle.std.specs.Option.{option_map}
use Rattle.std.proofs.lemmas.Bool.Decides.{nat_tests}
use Rattle.std.specs.Ordering.{match_ordering, nat_cmp}
use Rattle.std.specs.Cmp.Lexicographic.{slice_cmp}
use Rattle.std.proofs.lemmas.Fmt.{length-decimal-le, length_signed_le}
use Rattle.std.proofs.lemmas.Int.{ints}
use Rattle.serde_json.specs.Data.{Data, boolean, string, array, object, Items, no_items, item, Members, no_members, member, put, depth, items_depth, members_depth}
use Rattle.serde_json.specs.Find.{is_float, of_integer}
use Rattle.serde_json.specs.Written.{compact_text, items_text, members_text, has_float, items_have_float, members_have_float}
use Rattle.serde_json.proofs.OnLiterals.{serde_json_on_literals}
use Rattle.params.specs.Names.{name_of_mode}
use Rattle.params.specs.Rules.{IsKept}
use Rattle.params.specs.Stated.{key_of, cell_entries, cells_entries, row_entries, mask_entries, Fits, HasLayout}
use Rattle.params.specs.Table.{Part, one, three, nine, pairs, flag, Triple, row_of, blend_row, mask_row_of}
use Rattle.params.specs.Ranges.{IsWithin, IsBlendWithin, IsIn, AreInputs, module_of, kind_of, natural, parts_of, shape_parts, stated_mask}
use Rattle.params.specs.Written.{integer_data, node_data, triple_data, three_data, pairs_data, part_data, cells_members, params_data, shape_member, mask_data, blend_members, blend_value_data, blend_data}
use Rattle.params.specs.declared.blending.Blend.{Blend}
use Rattle.params.specs.declared.blending.Mode.{Mode}
use Rattle.params.specs.declared.blending.Mode.TheVariants as modes
use Rattle.params.specs.declared.blending.Shape.{Shape}
use Rattle.params.specs.declared.masks.MaskKind.{MaskKind}
use Rattle.params.specs.declared.masks.MaskKind.TheVariants as masks
use Rattle.params.specs.declared.modules.Module.{Module}
use Rattle.params.specs.declared.modules.Module.TheVariants as modules
use Rattle.params.specs.declared.row.Cell.{Cell}
use Rattle.params.specs.declared.row.Layout.{Layout}
use Rattle.params.specs.declared.row.Layout.TheVariants as layouts
use Rattle.params.specs.declared.settings.Params.{Params}
use Rattle.params.proofs.RowAgain.{both, IsLow, AreLow, IsLowPart}
use Rattle.params.proofs.KeptLemmas.{all_append}
use Rattle.params.proofs.AgainLemmas.{parts_fit, shape_parts_fit, parts_are_low, mask_low, blend_low}

-- ---- no float

no_float : (z : ℤ) → is_float (of_integer z) ≡ false
no_float (pos n) = refl
no_float (negsuc n) = refl

pairs_exact : (ns : List (ℤ × ℤ)) → items_have_float (pairs_data ns) ≡ false
pairs_exact [] = refl
pairs_exact (n ∷ ns) = rw (no_float n.0, no_float n.1) (pairs_exact ns)

part_exact : (p : Part) → has_float (part_data p) ≡ false
unfolding part_data
part_exact (one z) = no_float z
part_exact (three t) = simp no_float
part_exact (nine t) = simp no_float
part_exact (pairs ns) = pairs_exact ns
part_exact (flag b) = refl

or_false : (a b : Bool) → a ≡ false → b ≡ false → (a || b) ≡ false
or_false true b e f = e
or_false false b e f = f

halves : (a b : Bool) → (a || b) ≡ false → (a ≡ false) × (b ≡ false)
halves true b e = cc
halves false b e = (refl, e)

put_exact_at : (o : Ordering) (k l : List ℕ) (d e : Data) (ms : Members) → has_float d ≡ false → (has_float e || members_have_float ms) ≡ false → members_have_float (put k d ms) ≡ false
    → members_have_float (match_ordering o (member k d (member l e ms)) (member l d ms) (member l e (put k d ms))) ≡ false
put_exact_at Less k l d e ms h g later = or_false (has_float d) _ h g
put_exact_at Equal k l d e ms h g later = or_false (has_float d) _ h ((halves (has_float e) _ g).1)
put_exact_at Greater k l d e ms h g later = or_false (has_float e) _ ((halves (has_float e) _ g).0) later

put_exact : (k : List ℕ) (d : Data) (ms : Members) → has_float d ≡ false → members_have_float ms ≡ false → members_have_float (put k d ms) ≡ false
put_exact k d no_members h g = or_false (has_float d) false h refl
put_exact k d (member l e ms) h g = put_exact_at (slice_cmp nat_cmp k l) k l d e ms h g (put_exact k d ms h ((halves (has_float e) _ g).1))

cells_exact : (cs : List Cell) (ps : List Part) (ms : Members) → members_have_float ms ≡ false → members_have_float (cells_members cs ps ms) ≡ false
cells_exact [] ps ms g = g
cells_exact (c ∷ cs) [] ms g = g
cells_exact (c ∷ cs) (p ∷ ps) ms g = cells_exact cs ps (put (key_of c) (part_data p) ms) (put_exact (key_of c) (part_data p) ms (part_exact p) g)

-- no float is written for settings
pub params_exact : (p : Params) → has_float (params_data p) ≡ false
params_exact p = cells_exact (row_of (module_of p)) (parts_of p) no_members refl

mask_exact : (m : Option Shape) → has_float (mask_data m) ≡ false
mask_exact None = refl
mask_exact (Some s) = cells_exact (mask_row_of (kind_of s)) (shape_parts s) (shape_member (kind_of s)) refl

-- no float is written for a blend
pub blend_exact : (o : Option Blend) → has_float (blend_data o) ≡ false
blend_exact None = refl
blend_exact (Some b) = cells_exact blend_row (natural b.opacity ∷ []) (blend_members (mask_data b.mask) b.mode) (rw (mask_exact b.mask) refl)

-- ---- depth

pairs_depth : (ns : List (ℤ × ℤ)) → items_depth (pairs_data ns) ≤ 1
pairs_depth [] = lit≤ tt
pairs_depth (n ∷ ns) = let rest = pairs_depth ns in omega arith

-- how deep a part of a layout nests
abbrev deep : Layout → ℕ
deep layouts.One = 0
deep layouts.Three = 1
deep layouts.Nine = 2
deep layouts.Pairs = 2
deep layouts.Flag = 0

part_depth : (s : Layout) (p : Part) → HasLayout s p → depth (part_data p) ≤ deep s
unfolding part_data
part_depth layouts.One (one z) f = lit≤ tt
part_depth layouts.Three (three t) f = lit≤ tt
part_depth layouts.Nine (nine t) f = lit≤ tt
part_depth layouts.Pairs (pairs ns) f = let items = pairs_depth ns in omega arith
part_depth layouts.Flag (flag b) f = lit≤ tt
part_depth s p f = absurd f

put_depth_at : (n : ℕ) (o : Ordering) (k l : List ℕ) (d e : Data) (ms : Members) → depth d ≤ n → depth e ≤ n → members_depth ms ≤ n → members_depth (put k d ms) ≤ n
    → members_depth (match_ordering o (member k d (member l e ms)) (member l d ms) (member l e (put k d ms))) ≤ n
put_depth_at n Less k l d e ms h g i later = omega arith
put_depth_at n Equal k l d e ms h g i later = omega arith
put_depth_at n Greater k l d e ms h g i later = omega arith

put_depth : (n : ℕ) (k : List ℕ) (d : Data) (ms : Members) → depth d ≤ n → members_depth ms ≤ n → members_depth (put k d ms) ≤ n
put_depth n k d no_members h g = omega arith
put_depth n k d (member l e ms) h g =
    let first : depth e ≤ n = omega arith in
    let rest : members_depth ms ≤ n = omega arith in
    put_depth_at n (slice_cmp nat_cmp k l) k l d e ms h first rest (put_depth n k d ms h rest)

-- the cells nest so deep at most
abbrev nests_within : ℕ → List Cell → Bool
nests_within n [] = true
nests_within n (c ∷ cs) = nat_le (deep c.layout) n && nests_within n cs

cells_depth : (n : ℕ) (cs : List Cell) (ps : List Part) (ms : Members) → nests_within n cs ≡ true → Fits cs ps → members_depth ms ≤ n → members_depth (cells_members cs ps ms) ≤ n
cells_depth n [] ps ms w f g = g
cells_depth n (c ∷ cs) [] ms w f g = g
cells_depth n (c ∷ cs) (p ∷ ps) ms w f g =
    let b = both (nat_le (deep c.layout) n) (nests_within n cs) w in
    let most : deep c.layout ≤ n = grind (arith, nat_tests, b.0) in
    let part = part_depth c.layout p f.0 in
    cells_depth n cs ps (put (key_of c) (part_data p) ms) b.1 f.1 (put_depth n (key_of c) (part_data p) ms (omega arith) g)

rows_nest : (m : Module) → nests_within 2 (row_of m) ≡ true
rows_nest modules.RawPrepare = refl
rows_nest _ = refl

masks_nest : (k : MaskKind) → nests_within 0 (mask_row_of k) ≡ true
masks_nest masks.Gradient = refl
masks_nest _ = refl

-- settings are written as lists and objects that nest three deep at most
pub params_depth : (p : Params) → depth (params_data p) ≤ 3
params_depth p = let rest = cells_depth 2 (row_of (module_of p)) (parts_of p) no_members (rows_nest (module_of p)) (parts_fit p) (lit≤ tt) in omega arith

mask_depth : (m : Option Shape) → depth (mask_data m) ≤ 1
mask_depth None = lit≤ tt
mask_depth (Some s) = let rest = cells_depth 0 (mask_row_of (kind_of s)) (shape_parts s) (shape_member (kind_of s)) (masks_nest (kind_of s)) (shape_parts_fit s) (lit≤ tt) in omega arith

-- a blend is written as objects that nest two deep at most
pub blend_depth : (o : Option Blend) → depth (blend_data o) ≤ 2
blend_depth None = lit≤ tt
blend_depth (Some b) =
    let mask = mask_depth b.mask in
    let rest = cells_depth 1 blend_row (natural b.opacity ∷ []) (blend_members (mask_data b.mask) b.mode) refl (tt, tt) (omega arith) in
    omega arith

-- ---- length

natural_short : (n : ℕ) → n ≤ 1048575 → length (compact_text (integer_data (pos n))) ≤ 7
natural_short n h = length-decimal-le 7 n (omega arith) (omega arith) (omega arith)

integer_short : (z : ℤ) → IsLow z → length (compact_text (integer_data z)) ≤ 8
integer_short (pos n) h = let short = natural_short n (omega (arith, ints, h.1)) in omega arith
integer_short (negsuc n) h =
    let small : n < 1048575 = omega (arith, ints, h.0) in
    length_signed_le 7 (negsuc n) (omega arith) (omega arith)

input_short : (z : ℤ) → IsIn (pos 0) (pos 1048575) z → length (compact_text (integer_data z)) ≤ 7
input_short (pos n) h = natural_short n (omega (arith, ints, h.1))
input_short (negsuc n) h = absurd (omega (arith, ints, h.0))

triple_text : (a b c : Data) (n : ℕ) → length (compact_text a) ≤ n → length (compact_text b) ≤ n → length (compact_text c) ≤ n → length (compact_text (triple_data a b c)) ≤ 3 * n + 4
triple_text a b c n f g h = simp length-append (omega arith)

three_short : (t : Triple) → AreLow t → length (compact_text (three_data t)) ≤ 28
three_short t h = triple_text (integer_data t.0) (integer_data t.1) (integer_data t.2) 8 (integer_short t.0 h.0) (integer_short t.1 h.1) (integer_short t.2 h.2)

pair_text : (a b : Data) → length (compact_text a) ≤ 7 → length (compact_text b) ≤ 7 → length (compact_text (array (item a (item b no_items)))) ≤ 17
pair_text a b f g = simp length-append (omega arith)

item_short : (later : Bool) (d : Data) (ds : Items) (m : ℕ) → length (compact_text d) ≤ 17 → length (items_text true ds) ≤ m → length (items_text later (item d ds)) ≤ 18 + m
item_short true d ds m f g = simp length-append (omega arith)
item_short false d ds m f g = simp length-append (omega arith)

pairs_short : (later : Bool) (ns : List (ℤ × ℤ)) → AreInputs ns → length (items_text later (pairs_data ns)) ≤ 18 * length ns + 1
pairs_short later [] h = lit≤ tt
pairs_short later (n ∷ ns) h =
    let pair = pair_text (integer_data n.0) (integer_data n.1) (input_short n.0 h.0.0) (input_short n.1 h.0.1) in
    let rest = item_short later (node_data n) (pairs_data ns) (18 * length ns + 1) pair (pairs_short true ns h.1) in
    omega arith

-- at most twenty pairs, which the entries of a curve say
abbrev pub AreFew : Part → Type 0
AreFew (one z) = Unit {0}
AreFew (three t) = Unit {0}
AreFew (nine t) = Unit {0}
AreFew (pairs ns) = length ns ≤ 20
AreFew (flag b) = Unit {0}

abbrev width : Layout → ℕ
width layouts.One = 8
width layouts.Three = 28
width layouts.Nine = 88
width layouts.Pairs = 362
width layouts.Flag = 5

truth_short : (b : Bool) → length (compact_text (boolean b)) ≤ 5
truth_short true = lit≤ tt
truth_short false = lit≤ tt

part_short : (s : Layout) (p : Part) → HasLayout s p → IsLowPart p → AreFew p → length (compact_text (part_data p)) ≤ width s
unfolding part_data
part_short layouts.One (one z) f h few = integer_short z h
part_short layouts.Three (three t) f h few = three_short t h
part_short layouts.Nine (nine t) f h few = triple_text (three_data t.0) (three_data t.1) (three_data t.2) 28 (three_short t.0 h.0) (three_short t.1 h.1) (three_short t.2 h.2)
part_short layouts.Pairs (pairs ns) f h few = let text = pairs_short false ns h in omega arith
part_short layouts.Flag (flag b) f h few = truth_short b
part_short s p f h few = absurd f

put_short_at : (o : Ordering) (k l : List ℕ) (d e : Data) (ms : Members) (n : ℕ) → length (compact_text (string k)) + length (compact_text d) + 2 ≤ n
    → length (members_text true (put k d ms)) ≤ length (members_text true ms) + n
    → length (members_text true (match_ordering o (member k d (member l e ms)) (member l d ms) (member l e (put k d ms)))) ≤ length (members_text true (member l e ms)) + n
put_short_at Less k l d e ms n h later = let g = simp length-append at h in simp length-append (omega (arith, g))
put_short_at Equal k l d e ms n h later = let g = simp length-append at h in simp length-append (omega (arith, g))
put_short_at Greater k l d e ms n h later = simp length-append (omega arith)

put_short : (k : List ℕ) (d : Data) (ms : Members) (n : ℕ) → length (compact_text (string k)) + length (compact_text d) + 2 ≤ n → length (members_text true (put k d ms)) ≤ length (members_text true ms) + n
put_short k d no_members n h = let g = simp length-append at h in simp length-append (omega (arith, g))
put_short k d (member l e ms) n h = put_short_at (slice_cmp nat_cmp k l) k l d e ms n h (put_short k d ms n h)

-- the most that the cells' members take, each with a comma
abbrev cells_width : List Cell → ℕ
cells_width [] = 0
cells_width (c ∷ cs) = (length (compact_text (string (key_of c))) + width c.layout + 2) + cells_width cs

cells_short : (cs : List Cell) (ps : List Part) (ms : Members) → Fits cs ps → AllByRecursion IsLowPart ps → AllByRecursion AreFew ps → length (members_text true (cells_members cs ps ms)) ≤ length (members_text true ms) + cells_width cs
cells_short [] ps ms f h few = omega arith
cells_short (c ∷ cs) [] ms f h few = absurd f
cells_short (c ∷ cs) (p ∷ ps) ms f h few =
    let part = part_short c.layout p f.0 h.0 few.0 in
    let here = put_short (key_of c) (part_data p) ms (length (compact_text (string (key_of c))) + width c.layout + 2) (omega arith) in
    let rest = cells_short cs ps (put (key_of c) (part_data p) ms) f.1 h.1 few.1 in
    omega arith

-- the first member has no comma
first_member : (ms : Members) → length (members_text false ms) + 1 ≤ max 2 (length (members_text true ms))
first_member no_members = lit≤ tt
first_member (member k d ms) = simp length-append (omega arith)

object_short : (row : List Cell) (ps : List Part) (ms : Members) → Fits row ps → AllByRecursion IsLowPart ps → AllByRecursion AreFew ps
    → length (compact_text (object (cells_members row ps ms))) ≤ max 2 (1 + (length (members_text true ms) + cells_width row))
object_short row ps ms f h few =
    let all = cells_short row ps ms f h few in
    let first = first_member (cells_members row ps ms) in
    omega arith

-- ---- all that is written

part_few : (all : List Part) (c : Cell) (p : Part) → AllByRecursion IsKept (cell_entries all c p) → AreFew p
part_few all c (one z) k = tt
part_few all c (three t) k = tt
part_few all c (nine t) k = tt
part_few all c (pairs ns) k = omega (arith, ints, k.0.1)
part_few all c (flag b) k = tt

parts_few : (all : List Part) (row : List Cell) (ps : List Part) → Fits row ps → AllByRecursion IsKept (cells_entries all row ps) → AllByRecursion AreFew ps
parts_few all [] [] f k = tt
parts_few all [] (p ∷ ps) f k = absurd f
parts_few all (c ∷ cs) [] f k = tt
parts_few all (c ∷ cs) (p ∷ ps) f k =
    let split = all_append IsKept (cell_entries all c p) (cells_entries all cs ps) k in
    (part_few all c p split.0, parts_few all cs ps f.1 split.1)

-- each row computes
rows_short : (m : Module) → max 2 (1 + (length (members_text true no_members) + cells_width (row_of m))) ≤ 1120
unfolding serde_json_on_literals
rows_short modules.RawPrepare = lit≤ tt
rows_short _ = lit≤ tt

masks_short : (k : MaskKind) → max 2 (1 + (length (members_text true (shape_member k)) + cells_width (mask_row_of k))) ≤ 130
unfolding serde_json_on_literals
masks_short masks.Gradient = lit≤ tt
masks_short _ = lit≤ tt

-- what is written for settings takes at most 1,120 bytes
pub params_short : (p : Params) → IsWithin p → length (compact_text (params_data p)) ≤ 1120
params_short p h =
    let row = row_of (module_of p) in
    let text = object_short row (parts_of p) no_members (parts_fit p) (parts_are_low p h) (parts_few (parts_of p) row (parts_of p) (parts_fit p) h.kept) in
    let most = rows_short (module_of p) in
    omega arith

mask_short : (m : Option Shape) → AllByRecursion IsKept (mask_entries (option_map stated_mask m)) → length (compact_text (mask_data m)) ≤ 130
mask_short None h = lit≤ tt
mask_short (Some s) h =
    let row = mask_row_of (kind_of s) in
    let text = object_short row (shape_parts s) (shape_member (kind_of s)) (shape_parts_fit s) (mask_low s h) (parts_few (shape_parts s) row (shape_parts s) (shape_parts_fit s) h) in
    let most = masks_short (kind_of s) in
    omega arith

mode_short : (m : Mode) → length (compact_text (string (name_of_mode m))) ≤ 12
unfolding serde_json_on_literals
mode_short modes.Normal = lit≤ tt
mode_short _ = lit≤ tt

members_short : (mask mode : Data) → length (compact_text mask) ≤ 130 → length (compact_text mode) ≤ 12 → length (members_text true (member (codes "mask") mask (member (codes "mode") mode no_members))) ≤ 170
unfolding serde_json_on_literals
members_short mask mode f g = simp length-append (omega arith)

blend_width : cells_width blend_row ≤ 20
unfolding serde_json_on_literals
blend_width = lit≤ tt

blend_value_short : (b : Blend) → IsBlendWithin b → length (compact_text (blend_value_data b)) ≤ 200
blend_value_short b h =
    let parts = natural b.opacity ∷ [] in
    let split = all_append IsKept (row_entries blend_row parts) (mask_entries (option_map stated_mask b.mask)) h.kept in
    let ms = members_short (mask_data b.mask) (string (name_of_mode b.mode)) (mask_short b.mask split.1) (mode_short b.mode) in
    let text = object_short blend_row parts (blend_members (mask_data b.mask) b.mode) (tt, tt) (blend_low b h) (tt, tt) in
    let most = blend_width in
    omega arith

-- what is written for a blend, or for none, takes at most 200 bytes
pub blend_short : (o : Option Blend) → IfSome o IsBlendWithin → length (compact_text (blend_data o)) ≤ 200
blend_short None h = lit≤ tt
blend_short (Some b) h = blend_value_short b h
