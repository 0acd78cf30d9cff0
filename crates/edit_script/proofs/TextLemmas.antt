-- The text of a script is short, has no float, and nests few lists and objects.
use Rattle.std.proofs.Common.{◌≡◌, ℕ, ◌+◌, ◌*◌, ◌≤◌, List, [], ◌∷◌, length, map, Bool, true, false, Option, Some, None, Ok, IfSome, refl, codes, arith, lit≤, length-append}
use Rattle.std.specs.Prelude.{nat_le, suc}
use Rattle.std.specs.Str.{IsUtf8, is_utf8}
use Rattle.std.specs.List.{All}
use Rattle.std.proofs.lemmas.Bool.Decides.{nat_tests}
use Rattle.std.proofs.lemmas.Fmt.{length-decimal-le}
use Rattle.std.proofs.lemmas.Str.{is_utf8-from_IsUtf8}
use Rattle.serde_json.specs.Read as json
use Rattle.serde_json.specs.Data.{Data, boolean, string, array, object, Items, no_items, item, no_members, member, depth, items_depth}
use Rattle.serde_json.specs.View.{items_of}
use Rattle.serde_json.specs.Written.{compact_text, items_text, has_float, items_have_float}
use Rattle.serde_json.proofs.OnLiterals.{serde_json_on_literals}
use Rattle.px.specs.declared.depth.Depth.{Depth}
use Rattle.px.specs.declared.depth.Depth.TheVariants.{Eight, Sixteen}
use Rattle.px.specs.declared.kind.Cfa.{Cfa}
use Rattle.px.specs.declared.kind.Cfa.TheVariants.{Rggb, Bggr, Grbg, Gbrg}
use Rattle.px.specs.declared.view.View.{View}
use Rattle.px.specs.declared.view.BoxSize.{BoxSize}
use Rattle.params.specs.declared.modules.Module.{Module}
use Rattle.params.specs.declared.modules.Module.TheVariants as modules
use Rattle.params.specs.Ranges.{module_of, newest_of}
use Rattle.params.specs.Written.{natural_data, params_data, blend_data}
use Rattle.params.proofs.TextLemmas.{params_short, blend_short}
use Rattle.params.proofs.TextLemmas.{params_exact, blend_exact, params_depth, blend_depth}
use Rattle.module_order.specs.declared.slots.Slot.{Slot}
use Rattle.history.specs.declared.items.Item.{Item}
use Rattle.history.specs.declared.edits.Edit.{Edit}
use Rattle.history.specs.declared.edits.Edit.TheVariants as edits
use Rattle.history.specs.Stack.{Stack}
use Rattle.edit_steps.specs.declared.settings.Settings.{Settings}
use Rattle.edit_steps.specs.declared.step.Step.{Step}
use Rattle.edit_steps.specs.declared.step.Step.TheVariants as steps
use Rattle.edit_steps.specs.Ranges.{IsView, IsBox, IsThumbnailBox, IsSettings, IsOpening, IsEditWithin, IsStepWithin}
use Rattle.edit_steps.specs.Script.{Recipe, IsScript}
use Rattle.edit_steps.proofs.FaultLemmas.{steps-few}
use Rattle.edit_script.specs.Written.{cfa_data, depth_data, box_data, box_or_null, view_data, view_or_null, settings_data, module_word, version_data, item_data, module_numbered, slot_data, history_data, set_data, select_data, word_data, placed_data, delete_data, edit_data, view_step_data, export_data, thumbnail_data, step_data, script_data}
use Rattle.edit_script.specs.Typed.{IsItemTyped, IsHistoryTyped, IsEditTyped, IsStepTyped, IsTyped}
use Rattle.edit_script.specs.Script.{script_of}
use Rattle.edit_script.proofs.TypedLemmas.{blend_within_at}
use Rattle.edit_script.proofs.ScriptAgainLemmas.{all_head, all_tail, script_back}

-- ---- what is written is small: it takes at most so many bytes, has no float, and nests at most so deep

pub record IsSmall (bytes deep : ℕ) (d : Data) : Type 0 where
  pub short : length (compact_text d) ≤ bytes
  pub exact : has_float d ≡ false
  pub shallow : depth d ≤ deep

natural_short : (n : ℕ) → n ≤ 33554432 → length (compact_text (natural_data n)) ≤ 8
natural_short n h = length-decimal-le 8 n (omega arith) (omega (arith, h)) (omega (arith, h))

natural_small : (n : ℕ) → n ≤ 33554432 → IsSmall 8 0 (natural_data n)
natural_small n h = record { short = natural_short n h; exact = refl; shallow = lit≤ tt }

truth_small : (b : Bool) → IsSmall 8 0 (boolean b)
truth_small true = record { short = lit≤ tt; exact = refl; shallow = lit≤ tt }
truth_small false = record { short = lit≤ tt; exact = refl; shallow = lit≤ tt }

module_short : (m : Module) → length (compact_text (module_word m)) ≤ 14
unfolding serde_json_on_literals
module_short modules.RawPrepare = lit≤ tt
module_short _ = lit≤ tt

module_small : (m : Module) → IsSmall 14 0 (module_word m)
module_small m = record { short = module_short m; exact = refl; shallow = lit≤ tt }

cfa_small : (cfa : Option Cfa) → IsSmall 8 0 (cfa_data cfa)
unfolding serde_json_on_literals
cfa_small None = record { short = lit≤ tt; exact = refl; shallow = lit≤ tt }
cfa_small (Some Rggb) = record { short = lit≤ tt; exact = refl; shallow = lit≤ tt }
cfa_small (Some Bggr) = record { short = lit≤ tt; exact = refl; shallow = lit≤ tt }
cfa_small (Some Grbg) = record { short = lit≤ tt; exact = refl; shallow = lit≤ tt }
cfa_small (Some Gbrg) = record { short = lit≤ tt; exact = refl; shallow = lit≤ tt }

depth_small : (depth : Depth) → IsSmall 8 0 (depth_data depth)
depth_small Eight = natural_small 8 (omega arith)
depth_small Sixteen = natural_small 16 (omega arith)

-- ---- views, boxes and settings

view_small : (v : View) → IsView v → IsSmall 100 1 (view_data v)
unfolding serde_json_on_literals view_data
view_small v h =
    let a = natural_short v.factor (omega (arith, h.small_factor)) in
    let b = natural_short v.cx (omega (arith, h.across)) in
    let c = natural_short v.cy (omega (arith, h.down)) in
    let e = natural_short v.w (omega (arith, h.not_too_wide)) in
    let f = natural_short v.h (omega (arith, h.not_too_high)) in
    record { short = simp length-append (omega arith); exact = refl; shallow = lit≤ tt }

box_small : (b : BoxSize) → b.w ≤ 16384 → b.h ≤ 16384 → IsSmall 20 1 (box_data b)
box_small b h k =
    let a = natural_short b.w (omega (arith, h)) in
    let c = natural_short b.h (omega (arith, k)) in
    record { short = simp length-append (omega arith); exact = refl; shallow = lit≤ tt }

box_or_null_small : (o : Option BoxSize) → IfSome o IsBox → IsSmall 20 1 (box_or_null o)
box_or_null_small None h = record { short = lit≤ tt; exact = refl; shallow = lit≤ tt }
box_or_null_small (Some b) h = box_small b h.not_too_wide h.not_too_high

second_small : (o : Option View) → IfSome o IsView → IsSmall 100 1 (view_or_null o)
second_small None h = record { short = lit≤ tt; exact = refl; shallow = lit≤ tt }
second_small (Some v) h = view_small v h

settings_text : (a b c e f g h i j k : Data) → IsSmall 8 0 a → IsSmall 8 0 b → IsSmall 8 0 c → IsSmall 8 0 e → IsSmall 100 1 f → IsSmall 8 0 g → IsSmall 8 0 h → IsSmall 8 0 i → IsSmall 100 1 j → IsSmall 8 0 k
    → IsSmall 450 2 (object (member (codes "cfa") a (member (codes "depth") b (member (codes "mip_slots") c (member (codes "preview_side") e (member (codes "second") f (member (codes "stage_entries") g
    (member (codes "stage_pixels") h (member (codes "undo_depth") i (member (codes "view") j (member (codes "workers") k no_members)))))))))))
unfolding serde_json_on_literals
settings_text a b c e f g h i j k p q r s t u v w x y = record {
  short = simp length-append (omega (arith, p.short, q.short, r.short, s.short, t.short, u.short, v.short, w.short, x.short, y.short));
  exact = rw (p.exact, q.exact, r.exact, s.exact, t.exact, u.exact, v.exact, w.exact, x.exact, y.exact) refl;
  shallow = omega (arith, p.shallow, q.shallow, r.shallow, s.shallow, t.shallow, u.shallow, v.shallow, w.shallow, x.shallow, y.shallow);
}

settings_small : (s : Settings) → IsSettings s → IsSmall 450 2 (settings_data s)
unfolding settings_data
settings_small s h =
    settings_text (cfa_data s.cfa) (depth_data s.depth) (natural_data s.mip_slots) (natural_data s.preview_side) (view_or_null s.second) (natural_data s.stage_entries) (natural_data s.stage_pixels) (natural_data s.undo_depth) (view_data s.view) (natural_data s.workers)
    (cfa_small s.cfa) (depth_small s.depth) (natural_small s.mip_slots (omega (arith, h.few_slots))) (natural_small s.preview_side (omega (arith, h.small_side))) (second_small s.second h.second)
    (natural_small s.stage_entries (omega (arith, h.few_entries))) (natural_small s.stage_pixels (omega (arith, h.few_pixels))) (natural_small s.undo_depth (omega (arith, h.small_undo))) (view_small s.view h.view) (natural_small s.workers (omega (arith, h.few_workers)))

-- ---- items

item_text : (a b c e f g : Data) → IsSmall 200 2 a → IsSmall 8 0 b → IsSmall 8 0 c → IsSmall 14 0 e → IsSmall 1120 3 f → IsSmall 8 0 g
    → IsSmall 1500 4 (object (member (codes "blend") a (member (codes "enabled") b (member (codes "instance") c (member (codes "module") e (member (codes "params") f (member (codes "version") g no_members)))))))
unfolding serde_json_on_literals
item_text a b c e f g p q r s t u = record {
  short = simp length-append (omega (arith, p.short, q.short, r.short, s.short, t.short, u.short));
  exact = rw (p.exact, q.exact, r.exact, s.exact, t.exact, u.exact) refl;
  shallow = omega (arith, p.shallow, q.shallow, r.shallow, s.shallow, t.shallow, u.shallow);
}

set_text : (a b c e f g : Data) → IsSmall 200 2 a → IsSmall 8 0 b → IsSmall 8 0 c → IsSmall 14 0 e → IsSmall 1120 3 f → IsSmall 8 0 g
    → IsSmall 1500 4 (object (member (codes "blend") a (member (codes "do") (string (codes "set")) (member (codes "enabled") b (member (codes "instance") c (member (codes "module") e (member (codes "params") f (member (codes "version") g no_members))))))))
unfolding serde_json_on_literals
set_text a b c e f g p q r s t u = record {
  short = simp length-append (omega (arith, p.short, q.short, r.short, s.short, t.short, u.short));
  exact = rw (p.exact, q.exact, r.exact, s.exact, t.exact, u.exact) refl;
  shallow = omega (arith, p.shallow, q.shallow, r.shallow, s.shallow, t.shallow, u.shallow);
}

newest_small : (m : Module) → newest_of m ≤ 33554432
newest_small modules.RawPrepare = lit≤ tt
newest_small _ = lit≤ tt

blend_small : (i : Item) → IsItemTyped i → IsSmall 200 2 (blend_data i.blend)
blend_small i h = record { short = blend_short i.blend (blend_within_at (module_of i.params) i.blend h.blend); exact = blend_exact i.blend; shallow = blend_depth i.blend }

params_small : (i : Item) → IsItemTyped i → IsSmall 1120 3 (params_data i.params)
params_small i h = record { short = params_short i.params h.params; exact = params_exact i.params; shallow = params_depth i.params }

version_small : (i : Item) → IsSmall 8 0 (version_data i)
version_small i = natural_small (newest_of (module_of i.params)) (newest_small (module_of i.params))

item_small : (i : Item) → IsItemTyped i → IsSmall 1500 4 (item_data i)
unfolding item_data
item_small i h =
    item_text (blend_data i.blend) (boolean i.enabled) (natural_data i.instance) (module_word (module_of i.params)) (params_data i.params) (version_data i)
    (blend_small i h) (truth_small i.enabled) (natural_small i.instance (omega (arith, h.instance))) (module_small (module_of i.params)) (params_small i h) (version_small i)

set_small : (i : Item) → IsItemTyped i → IsSmall 1500 4 (set_data i)
unfolding set_data
set_small i h =
    set_text (blend_data i.blend) (boolean i.enabled) (natural_data i.instance) (module_word (module_of i.params)) (params_data i.params) (version_data i)
    (blend_small i h) (truth_small i.enabled) (natural_small i.instance (omega (arith, h.instance))) (module_small (module_of i.params)) (params_small i h) (version_small i)

slot_text : (a b : Data) → IsSmall 14 0 a → IsSmall 8 0 b → IsSmall 1500 4 (array (item a (item b no_items)))
slot_text a b p q = record { short = simp length-append (omega (arith, p.short, q.short)); exact = rw (p.exact, q.exact) refl; shallow = omega (arith, p.shallow, q.shallow) }

slot_small : (s : Slot) → s.instance ≤ 255 → IsSmall 1500 4 (slot_data s)
slot_small s h = slot_text (module_word (module_numbered s.module)) (natural_data s.instance) (module_small (module_numbered s.module)) (natural_small s.instance (omega (arith, h)))

-- ---- steps

select_small : (end : ℕ) → end ≤ 65535 → IsSmall 1500 4 (select_data end)
unfolding serde_json_on_literals select_data
select_small end h =
    let a = natural_short end (omega (arith, h)) in
    record { short = simp length-append (omega arith); exact = refl; shallow = lit≤ tt }

compress_small : IsSmall 1500 4 (word_data (codes "compress"))
unfolding serde_json_on_literals word_data
compress_small = record { short = lit≤ tt; exact = refl; shallow = lit≤ tt }

undo_small : IsSmall 1500 4 (word_data (codes "undo"))
unfolding serde_json_on_literals word_data
undo_small = record { short = lit≤ tt; exact = refl; shallow = lit≤ tt }

redo_small : IsSmall 1500 4 (word_data (codes "redo"))
unfolding serde_json_on_literals word_data
redo_small = record { short = lit≤ tt; exact = refl; shallow = lit≤ tt }

settle_small : IsSmall 1500 4 (word_data (codes "settle"))
unfolding serde_json_on_literals word_data
settle_small = record { short = lit≤ tt; exact = refl; shallow = lit≤ tt }

placed_text : (name a b c : Data) → IsSmall 14 0 name → IsSmall 8 0 a → IsSmall 14 0 b → IsSmall 8 0 c
    → IsSmall 1500 4 (object (member (codes "do") name (member (codes "instance") a (member (codes "module") b (member (codes "place") c no_members)))))
unfolding serde_json_on_literals
placed_text name a b c o p q r = record {
  short = simp length-append (omega (arith, o.short, p.short, q.short, r.short));
  exact = rw (o.exact, p.exact, q.exact, r.exact) refl;
  shallow = omega (arith, o.shallow, p.shallow, q.shallow, r.shallow);
}

add_word : IsSmall 14 0 (string (codes "add"))
unfolding serde_json_on_literals
add_word = record { short = lit≤ tt; exact = refl; shallow = lit≤ tt }

move_word : IsSmall 14 0 (string (codes "move"))
unfolding serde_json_on_literals
move_word = record { short = lit≤ tt; exact = refl; shallow = lit≤ tt }

placed_small : (name : List ℕ) (m : Module) (instance place : ℕ) → IsSmall 14 0 (string name) → instance ≤ 255 → place ≤ 65535 → IsSmall 1500 4 (placed_data name m instance place)
unfolding placed_data
placed_small name m instance place o h k =
    placed_text (string name) (natural_data instance) (module_word m) (natural_data place) o (natural_small instance (omega (arith, h))) (module_small m) (natural_small place (omega (arith, k)))

delete_text : (a b : Data) → IsSmall 8 0 a → IsSmall 14 0 b → IsSmall 1500 4 (object (member (codes "do") (string (codes "delete")) (member (codes "instance") a (member (codes "module") b no_members))))
unfolding serde_json_on_literals
delete_text a b p q = record { short = simp length-append (omega (arith, p.short, q.short)); exact = rw (p.exact, q.exact) refl; shallow = omega (arith, p.shallow, q.shallow) }

delete_small : (m : Module) (instance : ℕ) → instance ≤ 255 → IsSmall 1500 4 (delete_data m instance)
unfolding delete_data
delete_small m instance h = delete_text (natural_data instance) (module_word m) (natural_small instance (omega (arith, h))) (module_small m)

edit_small : (e : Edit) → IsEditWithin e → IsEditTyped e → IsSmall 1500 4 (edit_data e)
edit_small (edits.Set i) h t = set_small i t
edit_small (edits.Select end) h t = select_small end h
edit_small edits.Compress h t = compress_small
edit_small (edits.Add m instance place) h t = placed_small (codes "add") m instance place add_word t h
edit_small (edits.Delete m instance) h t = delete_small m instance t
edit_small (edits.Move m instance place) h t = placed_small (codes "move") m instance place move_word t h

view_word : IsSmall 14 0 (string (codes "view"))
unfolding serde_json_on_literals
view_word = record { short = lit≤ tt; exact = refl; shallow = lit≤ tt }

second_word : IsSmall 14 0 (string (codes "second"))
unfolding serde_json_on_literals
second_word = record { short = lit≤ tt; exact = refl; shallow = lit≤ tt }

view_step_text : (name a b c e f : Data) → IsSmall 14 0 name → IsSmall 8 0 a → IsSmall 8 0 b → IsSmall 8 0 c → IsSmall 8 0 e → IsSmall 8 0 f
    → IsSmall 1500 4 (object (member (codes "cx") a (member (codes "cy") b (member (codes "do") name (member (codes "factor") c (member (codes "h") e (member (codes "w") f no_members)))))))
unfolding serde_json_on_literals
view_step_text name a b c e f o p q r s t = record {
  short = simp length-append (omega (arith, o.short, p.short, q.short, r.short, s.short, t.short));
  exact = rw (o.exact, p.exact, q.exact, r.exact, s.exact, t.exact) refl;
  shallow = omega (arith, o.shallow, p.shallow, q.shallow, r.shallow, s.shallow, t.shallow);
}

view_step_small : (name : List ℕ) (v : View) → IsSmall 14 0 (string name) → IsView v → IsSmall 1500 4 (view_step_data name v)
unfolding view_step_data
view_step_small name v o h =
    view_step_text (string name) (natural_data v.cx) (natural_data v.cy) (natural_data v.factor) (natural_data v.h) (natural_data v.w) o
    (natural_small v.cx (omega (arith, h.across))) (natural_small v.cy (omega (arith, h.down))) (natural_small v.factor (omega (arith, h.small_factor)))
    (natural_small v.h (omega (arith, h.not_too_high))) (natural_small v.w (omega (arith, h.not_too_wide)))

export_text : (a b : Data) → IsSmall 20 1 a → IsSmall 8 0 b → IsSmall 1500 4 (object (member (codes "box") a (member (codes "depth") b (member (codes "do") (string (codes "export")) no_members))))
unfolding serde_json_on_literals
export_text a b p q = record { short = simp length-append (omega (arith, p.short, q.short)); exact = rw (p.exact, q.exact) refl; shallow = omega (arith, p.shallow, q.shallow) }

export_small : (size : Option BoxSize) (depth : Depth) → IfSome size IsBox → IsSmall 1500 4 (export_data size depth)
unfolding export_data
export_small size depth h = export_text (box_or_null size) (depth_data depth) (box_or_null_small size h) (depth_small depth)

thumbnail_text : (a : Data) → IsSmall 20 1 a → IsSmall 1500 4 (object (member (codes "box") a (member (codes "do") (string (codes "thumbnail")) no_members)))
unfolding serde_json_on_literals
thumbnail_text a p = record { short = simp length-append (omega (arith, p.short)); exact = rw (p.exact) refl; shallow = omega (arith, p.shallow) }

thumbnail_small : (b : BoxSize) → IsThumbnailBox b → IsSmall 1500 4 (thumbnail_data b)
unfolding thumbnail_data
thumbnail_small b h = thumbnail_text (box_data b) (box_small b (omega (arith, h.not_too_wide)) (omega (arith, h.not_too_high)))

step_small : (s : Step) → IsStepWithin s → IsStepTyped s → IsSmall 1500 4 (step_data s)
step_small (steps.Edit edit) h t = edit_small edit h t
step_small steps.Undo h t = undo_small
step_small steps.Redo h t = redo_small
step_small (steps.View view) h t = view_step_small (codes "view") view view_word h
step_small (steps.Second view) h t = view_step_small (codes "second") view second_word h
step_small (steps.Export size depth) h t = export_small size depth h
step_small (steps.Thumbnail size) h t = thumbnail_small size h
step_small steps.Settle h t = settle_small

-- ---- lists

pub record AreSmall (later : Bool) (count : ℕ) (ds : Items) : Type 0 where
  pub short : length (items_text later ds) ≤ 1501 * count + 1
  pub exact : items_have_float ds ≡ false
  pub shallow : items_depth ds ≤ 4

one_small : (later : Bool) (count : ℕ) (d : Data) (ds : Items) → IsSmall 1500 4 d → AreSmall true count ds → AreSmall later (suc count) (item d ds)
one_small true count d ds p q = record { short = simp length-append (omega (arith, p.short, q.short)); exact = rw (p.exact) (q.exact); shallow = omega (arith, p.shallow, q.shallow) }
one_small false count d ds p q = record { short = simp length-append (omega (arith, p.short, q.short)); exact = rw (p.exact) (q.exact); shallow = omega (arith, p.shallow, q.shallow) }

list_small : {X : Type 0} (P : X → Type 0) (f : X → Data) → ((x : X) → P x → IsSmall 1500 4 (f x)) → (later : Bool) (xs : List X) → All P xs → AreSmall later (length xs) (items_of (map f xs))
list_small P f each later [] h = record { short = lit≤ tt; exact = refl; shallow = lit≤ tt }
list_small P f each later (x ∷ xs) h = one_small later (length xs) (f x) (items_of (map f xs)) (each x (all_head P x xs h)) (list_small P f each true xs (all_tail P x xs h))

-- ---- the whole

history_text : (end : ℕ) (items order : Items) (m n : ℕ) → end ≤ 256 → m ≤ 256 → n ≤ 64 → AreSmall false m items → AreSmall false n order
    → IsSmall 481000 6 (object (member (codes "end") (natural_data end) (member (codes "items") (array items) (member (codes "order") (array order) no_members))))
unfolding serde_json_on_literals
history_text end items order m n e f g p q =
    let a = natural_short end (omega (arith, e)) in
    record {
      short = simp length-append (omega (arith, p.short, q.short));
      exact = rw (p.exact, q.exact) refl;
      shallow = omega (arith, p.shallow, q.shallow);
    }

history_small : (h : Stack) → IsOpening h → IsHistoryTyped h → IsSmall 481000 6 (history_data h)
unfolding history_data
history_small h o t =
    history_text h.end (items_of (map item_data h.items)) (items_of (map slot_data h.order)) (length h.items) (length h.order)
    (omega (arith, o.few, o.history.end)) o.few t.order.valid.few
    (list_small IsItemTyped item_data item_small false h.items t.items)
    (list_small (λ s. s.instance ≤ 255) slot_data slot_small false h.order t.order.instances)

script_text : (history settings : Data) (steps : Items) (n : ℕ) → n ≤ 536 → IsSmall 481000 6 history → IsSmall 450 2 settings → AreSmall false n steps
    → IsSmall 1300000 7 (object (member (codes "history") history (member (codes "settings") settings (member (codes "steps") (array steps) no_members))))
unfolding serde_json_on_literals
script_text history settings steps n few p q r = record {
  short = simp length-append (omega (arith, p.short, q.short, r.short));
  exact = rw (p.exact, q.exact, r.exact) refl;
  shallow = omega (arith, p.shallow, q.shallow, r.shallow);
}

both_small : (s : Step) → IsStepWithin s × IsStepTyped s → IsSmall 1500 4 (step_data s)
both_small s h = step_small s h.0 h.1

-- what is written for a script takes at most 1,300,000 bytes, has no float, and nests at most seven deep
pub script_small : (r : Recipe) → IsScript r → IsTyped r → IsSmall 1300000 7 (script_data r)
unfolding script_data
script_small r h t =
    script_text (history_data r.opening) (settings_data r.settings) (items_of (map step_data r.steps)) (length r.steps) (steps-few r.settings r.opening r.steps h.allowed)
    (history_small r.opening h.opening t.opening) (settings_small r.settings h.settings)
    (list_small (λ s. IsStepWithin s × IsStepTyped s) step_data both_small false r.steps (λ k d less. (h.within k d less, t.steps k d less)))

-- the text of a script has no floats, so it is the compact one
pub text_is : (r : Recipe) (text : List ℕ) → IsScript r → IsTyped r → (has_float (script_data r) ≡ false → text ≡ compact_text (script_data r)) → text ≡ compact_text (script_data r)
text_is r text h t written = written (script_small r h t).exact

-- the text of a script is read as the script
pub text_back : (r : Recipe) (text : List ℕ) → IsScript r → IsTyped r → (has_float (script_data r) ≡ false → text ≡ compact_text (script_data r))
    → (depth (script_data r) ≤ json.max_depth → json.read text ≡ Some (script_data r)) → IsUtf8 text → script_of text ≡ Ok r
text_back r text h t written read utf8 =
    let small = script_small r h t in
    let same : text ≡ compact_text (script_data r) = written small.exact in
    let len : length text ≤ 1300000 = rw same (small.short) in
    let fits : nat_le (length text) 4194304 ≡ true = grind (arith, nat_tests) in
    let valid : is_utf8 text ≡ true = is_utf8-from_IsUtf8 text utf8 in
    let found : json.read text ≡ Some (script_data r) = read (omega (arith, small.shallow)) in
    rw (fits, valid, found) (script_back r h t)
