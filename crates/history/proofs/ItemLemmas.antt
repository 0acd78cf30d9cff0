-- Lemmas on lists of items.
use Rattle.std.proofs.Common.{◌≡◌, ◌<◌, ◌≤◌, Bool, true, false, cond, ◌||◌, List, [], ◌∷◌, ◌++◌, length, reverse, suc, refl, sym, ap, ◌∙◌, subst, arith}
use Rattle.std.specs.List.{All}
use Rattle.std.proofs.lemmas.Bool.{false≢true}
use Rattle.std.proofs.lemmas.List.{append_assoc, append-nil, reverse-reverse}
use Rattle.std.proofs.lemmas.List.Folds.{list_any-append}
use Rattle.std.proofs.lemmas.Grind.{reverse_onto}
use Rattle.std.proofs.lemmas.List.Elements.{All-cons, All-head, All-tail, All-nil}
use Rattle.module_order.specs.declared.slots.Slot.{Slot}
use Rattle.module_order.proofs.SlotLemmas.{slot_is}
use Rattle.history.specs.declared.items.Item.{Item}
use Rattle.history.specs.Item.{slot_of, is_of, has_item, last_items}
use Rattle.history.specs.After.{overwrites}

-- an item that overwrites has one below it
pub overwrites-some : (items : List Item) (item : Item) → overwrites items item ≡ true → 0 < length items
overwrites-some [] item h = absurd (false≢true h)
overwrites-some (x ∷ xs) item h = omega arith

-- what holds of all items holds of the last ones
pub All-last_items : (P : Item → Type 0) (items : List Item) → All P items → All P (last_items items)
All-last_items P [] all = All-nil P
All-last_items P (item ∷ items) all =
    let rest = All-last_items P items (All-tail P item items all) in
    elim (has_item items (slot_of item)) as (λ b. All P (cond b (last_items items) (item ∷ last_items items)))
    [ true ↦ rest | false ↦ All-cons P item (last_items items) (All-head P item items all) rest ]

pub length-last_items : (items : List Item) → length (last_items items) ≤ length items
length-last_items [] = omega arith
length-last_items (item ∷ items) =
    let rest = length-last_items items in
    elim (has_item items (slot_of item)) as (λ b. length (cond b (last_items items) (item ∷ last_items items)) ≤ suc (length items))
    [ true ↦ omega arith | false ↦ omega arith ]

pub or_true : (b : Bool) → (b || true) ≡ true
or_true true = refl
or_true false = refl

-- the last items are of the same instances
pub has_item-last_items : (s : Slot) (items : List Item) → has_item (last_items items) s ≡ has_item items s
has_item-last_items s [] = refl
has_item-last_items s (item ∷ items) =
    let rest = has_item-last_items s items in
    elim (has_item items (slot_of item)) as (λ b. has_item items (slot_of item) ≡ b → has_item (cond b (last_items items) (item ∷ last_items items)) s ≡ (is_of s item || has_item items s)) [
      | true ↦ λ e. rest ∙ (elim (is_of s item) as (λ b. is_of s item ≡ b → has_item items s ≡ (b || has_item items s))
          [ true ↦ λ same. subst (λ t. has_item items t ≡ true) (slot_is s (slot_of item) same) e | false ↦ λ _. refl ]) refl
      | false ↦ λ e. ap (λ b. is_of s item || b) rest
    ] refl

or_turned : (a b : Bool) → (a || (b || false)) ≡ (b || a)
or_turned true true = refl
or_turned true false = refl
or_turned false true = refl
or_turned false false = refl

pub has_item-reverse : (s : Slot) (items : List Item) → has_item (reverse items) s ≡ has_item items s
has_item-reverse s [] = refl
has_item-reverse s (item ∷ items) =
    ap (λ xs. has_item xs s) (reverse_onto items item []) ∙ list_any-append (is_of s) (reverse items) (item ∷ [])
    ∙ ap (λ b. b || (is_of s item || false)) (has_item-reverse s items) ∙ or_turned (has_item items s) (is_of s item)

-- kept has, the other way round, the last items of those that were taken off the end of all, so that these are left
pub record IsCompressing (all left kept : List Item) : Type 0 where
  pub gone : List Item
  pub parts : all ≡ left ++ gone
  pub compressed : kept ≡ reverse (last_items gone)

pub IsCompressing-none : (all : List Item) → IsCompressing all all []
IsCompressing-none all = record { gone = []; parts = sym (append-nil all); compressed = refl }

-- one more item taken off
pub IsCompressing-more : (all left rest kept new : List Item) (item : Item) → IsCompressing all left kept → left ≡ rest ++ item ∷ [] → new ≡ cond (has_item kept (slot_of item)) kept (kept ++ item ∷ []) → IsCompressing all rest new
IsCompressing-more all left rest kept new item so_far taken e =
    let gone = so_far.gone in
    let known : has_item kept (slot_of item) ≡ has_item gone (slot_of item) =
    ap (λ xs. has_item xs (slot_of item)) so_far.compressed ∙ has_item-reverse (slot_of item) (last_items gone) ∙ has_item-last_items (slot_of item) gone in
    let shown : new ≡ cond (has_item gone (slot_of item)) kept (kept ++ item ∷ []) = e ∙ ap (λ b. cond b kept (kept ++ item ∷ [])) known in
    record {
      gone = item ∷ gone;
      parts = so_far.parts ∙ ap (λ xs. xs ++ gone) taken ∙ append_assoc rest (item ∷ []) gone;
      compressed = (elim (has_item gone (slot_of item)) as (λ b. new ≡ cond b kept (kept ++ item ∷ []) → new ≡ reverse (cond b (last_items gone) (item ∷ last_items gone))) [
        | true ↦ λ n. n ∙ so_far.compressed
        | false ↦ λ n. n ∙ ap (λ xs. xs ++ item ∷ []) so_far.compressed ∙ sym (reverse_onto (last_items gone) item [])
      ]) shown;
    }

pub IsCompressing-all : (all left kept : List Item) → IsCompressing all left kept → left ≡ [] → reverse kept ≡ last_items all
IsCompressing-all all left kept so_far none =
    let whole : all ≡ so_far.gone = so_far.parts ∙ ap (λ xs. xs ++ so_far.gone) none in
    ap reverse so_far.compressed ∙ reverse-reverse (last_items so_far.gone) ∙ ap last_items (sym whole)
