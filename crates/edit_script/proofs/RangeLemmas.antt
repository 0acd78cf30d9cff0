-- What the forms give is within its ranges.
use Rattle.std.proofs.Common.{◌≡◌, ℕ, ◌*◌, ◌≤◌, ℤ, pos, negsuc, ◌≤ℤ◌, Bool, true, false, ◌&&◌, List, Option, Some, None, option_map, option_and_then, IfSome, refl, subst, arith, codes}
use Rattle.std.specs.Prelude.{nat_le, if◌then◌else◌, unwrap_or, is_some}
use Rattle.std.specs.Bool.{Decides}
use Rattle.std.specs.Int.RustNames.{int_le}
use Rattle.std.proofs.lemmas.Bool.Decides.{Decides-and, nat_tests}
use Rattle.std.proofs.lemmas.Int.{ints}
use Rattle.serde_json.specs.Data.{Data, object, no_members}
use Rattle.serde_json.specs.Find.{get, as_null}
use Rattle.px.specs.declared.depth.Depth.{Depth}
use Rattle.px.specs.declared.depth.Depth.TheVariants.{Eight}
use Rattle.px.specs.declared.kind.Cfa.{Cfa}
use Rattle.px.specs.declared.view.View.{View}
use Rattle.px.specs.declared.view.BoxSize.{BoxSize}
use Rattle.params.specs.Form.{has_only, pair, ◌>>=◌, integer, natural, natural_at, natural_or, within, natural_of, or_absent}
use Rattle.params.specs.Stated.{null_or}
use Rattle.edit_steps.specs.Ranges.{IsView, IsSettings}
use Rattle.edit_script.specs.Parts.{view_keys, depth_form, cfa_form, sides_form, view_at_keys, view_form}
use Rattle.edit_steps.specs.Settings.{start_view}
use Rattle.edit_script.specs.Settings.{settings_keys, settings_at_keys, settings_in}

-- ---- chains

-- what holds of each value that a chain may give
pub bound : {A B : Type 0} (P : B → Type 0) (o : Option A) (f : A → Option B) → ((a : A) → o ≡ Some a → IfSome (f a) P) → IfSome (option_and_then f o) P
bound P None f h = tt
bound P (Some a) f h = h a refl

pub if_true : {A : Type 0} (P : A → Type 0) (b : Bool) (x : A) → (b ≡ true → P x) → IfSome (if b then Some x else None) P
if_true P true x h = h refl
if_true P false x h = tt

pub only_some : {A : Type 0} (P : A → Type 0) (b : Bool) (o : Option A) → IfSome o P → IfSome (if b then o else None) P
only_some P true o h = h
only_some P false o h = tt

pub at_some : {A : Type 0} (P : A → Type 0) (o : Option A) (x : A) → IfSome o P → o ≡ Some x → P x
at_some P None x h e = cc
at_some P (Some y) x h e = let same : y ≡ x = cc in subst P same h

pub mapped : {A B : Type 0} (P : B → Type 0) (f : A → B) (o : Option A) → IfSome o (λ x. P (f x)) → IfSome (option_map f o) P
mapped P f None h = tt
mapped P f (Some x) h = h

-- ---- numbers

abbrev pub Between : ℕ → ℕ → ℕ → Type 0
Between low high n = (low ≤ n) × (n ≤ high)

int_le-Decides : (a b : ℤ) → Decides (int_le a b) (a ≤ℤ b)
int_le-Decides a b = (λ e. grind (arith, ints), λ h. grind (arith, ints))

number_between : (low high : ℕ) (z : ℤ) → int_le (pos low) z && int_le z (pos high) ≡ true → Between low high (natural_of z)
number_between low high (pos m) e =
    let both = (Decides-and _ _ (int_le-Decides (pos low) (pos m)) (int_le-Decides (pos m) (pos high))).0 e in
    (omega (arith, ints, both.0), omega (arith, ints, both.1))
number_between low high (negsuc m) e =
    let both = (Decides-and _ _ (int_le-Decides (pos low) (negsuc m)) (int_le-Decides (negsuc m) (pos high))).0 e in
    absurd (omega (arith, ints, both.0))

pub natural_between : (low high : ℕ) (d : Data) → IfSome (natural low high d) (Between low high)
natural_between low high d = bound (Between low high) (integer d) (within low high)
    (λ z e. if_true (Between low high) (int_le (pos low) z && int_le z (pos high)) (natural_of z) (number_between low high z))

pub natural_at_between : (key : List ℕ) (low high : ℕ) (d : Data) → IfSome (natural_at key low high d) (Between low high)
natural_at_between key low high d = bound (Between low high) (get key d) (natural low high) (λ v e. natural_between low high v)

pub or_absent_within : {A : Type 0} (P : A → Type 0) (absent : A) (f : Data → Option A) (o : Option Data) → P absent → ((d : Data) → IfSome (f d) P) → IfSome (or_absent absent f o) P
or_absent_within P absent f None h k = h
or_absent_within P absent f (Some d) h k = k d

pub natural_or_between : (key : List ℕ) (absent low high : ℕ) (d : Data) → Between low high absent → IfSome (natural_or key absent low high d) (Between low high)
natural_or_between key absent low high d h = or_absent_within (Between low high) absent (natural low high) (get key d) h (natural_between low high)

-- ---- views and boxes

view_of : (a b c e f : Option ℕ) → IfSome a (Between 1 64) → IfSome b (Between 0 65536) → IfSome c (Between 0 65536) → IfSome e (Between 1 16384) → IfSome f (Between 1 16384)
    → IfSome (a >>= λ factor. b >>= λ cx. c >>= λ cy. e >>= λ w. f >>= λ h.
    if nat_le (w * h) 786432 then Some (record { factor = factor; cx = cx; cy = cy; w = w; h = h }) else None) IsView
view_of None b c e f p q r s t = tt
view_of (Some factor) None c e f p q r s t = tt
view_of (Some factor) (Some cx) None e f p q r s t = tt
view_of (Some factor) (Some cx) (Some cy) None f p q r s t = tt
view_of (Some factor) (Some cx) (Some cy) (Some w) None p q r s t = tt
view_of (Some factor) (Some cx) (Some cy) (Some w) (Some h) p q r s t =
    if_true IsView (nat_le (w * h) 786432) (record { factor = factor; cx = cx; cy = cy; w = w; h = h }) (λ small.
    let area : w * h ≤ 786432 = grind (arith, nat_tests) in
    record { some_factor = p.0; small_factor = p.1; across = q.1; down = r.1; wide = s.0; not_too_wide = s.1; high = t.0; not_too_high = t.1; small = area })

pub view_keys_within : (d : Data) → IfSome (view_at_keys d) IsView
unfolding view_at_keys
view_keys_within d =
    view_of (natural_at (codes "factor") 1 64 d) (natural_at (codes "cx") 0 65536 d) (natural_at (codes "cy") 0 65536 d) (natural_at (codes "w") 1 16384 d) (natural_at (codes "h") 1 16384 d)
    (natural_at_between (codes "factor") 1 64 d) (natural_at_between (codes "cx") 0 65536 d) (natural_at_between (codes "cy") 0 65536 d) (natural_at_between (codes "w") 1 16384 d) (natural_at_between (codes "h") 1 16384 d)

pub view_within : (d : Data) → IfSome (view_form d) IsView
view_within d = only_some IsView (has_only view_keys d) (view_at_keys d) (view_keys_within d)

-- sides from 1 to the longest
pub record AreSides (longest : ℕ) (b : BoxSize) : Type 0 where
  pub wide : Between 1 longest b.w
  pub high : Between 1 longest b.h

both_sides : (longest : ℕ) (a b : Option ℕ) → IfSome a (Between 1 longest) → IfSome b (Between 1 longest)
    → IfSome (a >>= λ w. b >>= λ h. Some (record { w = w; h = h })) (AreSides longest)
both_sides longest None b p q = tt
both_sides longest (Some w) None p q = tt
both_sides longest (Some w) (Some h) p q = record { wide = p; high = q }

sides_of : (longest : ℕ) (o : Option (Data × Data)) → IfSome (o >>= λ both. natural 1 longest both.0 >>= λ w. natural 1 longest both.1 >>= λ h. Some (record { w = w; h = h })) (AreSides longest)
sides_of longest None = tt
sides_of longest (Some both) = both_sides longest (natural 1 longest both.0) (natural 1 longest both.1) (natural_between 1 longest both.0) (natural_between 1 longest both.1)

pub sides_within : (longest : ℕ) (d : Data) → IfSome (sides_form longest d) (AreSides longest)
unfolding sides_form
sides_within longest d = sides_of longest (pair d)

-- ---- settings

start_within : IsView start_view
start_within = record { some_factor = omega arith; small_factor = omega arith; across = omega arith; down = omega arith; wide = omega arith; not_too_wide = omega arith; high = omega arith; not_too_high = omega arith; small = omega arith }

null_case : (b : Bool) (o : Option View) → IfSome o IsView → IfSome (if b then Some None else option_map Some o) (λ w. IfSome w IsView)
null_case true o h = tt
null_case false None h = tt
null_case false (Some v) h = h

settings_of : (cfa : Option (Option Cfa)) (depth : Option Depth) (a b c e f g : Option ℕ) (i : Option View) (j : Option (Option View))
    → IfSome a (Between 64 720) → IfSome b (Between 1 4) → IfSome c (Between 1 64) → IfSome e (Between 0 33554432) → IfSome f (Between 1 4) → IfSome g (Between 1 64) → IfSome i IsView → IfSome j (λ w. IfSome w IsView)
    → IfSome (cfa >>= λ cfa. depth >>= λ depth. a >>= λ side. b >>= λ workers. c >>= λ entries. e >>= λ pixels. f >>= λ slots. g >>= λ undos. i >>= λ view. j >>= λ second.
    Some (record { cfa = cfa; depth = depth; preview_side = side; workers = workers; stage_entries = entries; stage_pixels = pixels; mip_slots = slots; undo_depth = undos; view = view; second = second })) IsSettings
settings_of None depth a b c e f g i j p q r s t u v w = tt
settings_of (Some cfa) None a b c e f g i j p q r s t u v w = tt
settings_of (Some cfa) (Some depth) None b c e f g i j p q r s t u v w = tt
settings_of (Some cfa) (Some depth) (Some side) None c e f g i j p q r s t u v w = tt
settings_of (Some cfa) (Some depth) (Some side) (Some workers) None e f g i j p q r s t u v w = tt
settings_of (Some cfa) (Some depth) (Some side) (Some workers) (Some entries) None f g i j p q r s t u v w = tt
settings_of (Some cfa) (Some depth) (Some side) (Some workers) (Some entries) (Some pixels) None g i j p q r s t u v w = tt
settings_of (Some cfa) (Some depth) (Some side) (Some workers) (Some entries) (Some pixels) (Some slots) None i j p q r s t u v w = tt
settings_of (Some cfa) (Some depth) (Some side) (Some workers) (Some entries) (Some pixels) (Some slots) (Some undos) None j p q r s t u v w = tt
settings_of (Some cfa) (Some depth) (Some side) (Some workers) (Some entries) (Some pixels) (Some slots) (Some undos) (Some view) None p q r s t u v w = tt
settings_of (Some cfa) (Some depth) (Some side) (Some workers) (Some entries) (Some pixels) (Some slots) (Some undos) (Some view) (Some second) p q r s t u v w = record {
  some_side = p.0;
  small_side = p.1;
  some_workers = q.0;
  few_workers = q.1;
  some_entries = r.0;
  few_entries = r.1;
  few_pixels = s.1;
  some_slots = t.0;
  few_slots = t.1;
  some_undo = u.0;
  small_undo = u.1;
  view = v;
  second = w;
}

settings_keys_within : (d : Data) → IfSome (settings_at_keys d) IsSettings
unfolding settings_at_keys
settings_keys_within d =
    settings_of (or_absent None cfa_form (get (codes "cfa") d)) (or_absent Eight depth_form (get (codes "depth") d))
    (natural_or (codes "preview_side") 720 64 720 d) (natural_or (codes "workers") 2 1 4 d) (natural_or (codes "stage_entries") 16 1 64 d)
    (natural_or (codes "stage_pixels") 8388608 0 33554432 d) (natural_or (codes "mip_slots") 4 1 4 d) (natural_or (codes "undo_depth") 32 1 64 d) (or_absent start_view view_form (get (codes "view") d))
    (or_absent None (null_or view_form) (get (codes "second") d))
    (natural_or_between (codes "preview_side") 720 64 720 d (omega arith, omega arith))
    (natural_or_between (codes "workers") 2 1 4 d (omega arith, omega arith))
    (natural_or_between (codes "stage_entries") 16 1 64 d (omega arith, omega arith))
    (natural_or_between (codes "stage_pixels") 8388608 0 33554432 d (omega arith, omega arith))
    (natural_or_between (codes "mip_slots") 4 1 4 d (omega arith, omega arith))
    (natural_or_between (codes "undo_depth") 32 1 64 d (omega arith, omega arith))
    (or_absent_within IsView start_view view_form (get (codes "view") d) start_within view_within)
    (or_absent_within (λ w. IfSome w IsView) None (null_or view_form) (get (codes "second") d) tt (λ v. null_case (is_some (as_null v)) (view_form v) (view_within v)))

pub settings_within : (d : Data) → IfSome (settings_in d) IsSettings
settings_within d =
    let stated = unwrap_or (get (codes "settings") d) (object no_members) in
    only_some IsSettings (has_only settings_keys stated) (settings_at_keys stated) (settings_keys_within stated)
