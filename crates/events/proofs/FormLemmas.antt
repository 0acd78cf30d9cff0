-- an event by the number of its parts
use Rattle.std.proofs.Common.{◌≡◌, List, [], ◌∷◌, length, None, get_or, refl, arith}
use Rattle.serde_json.specs.View.{view, items_view}
use Rattle.serde_json.specs.declared.value.Value.{Value}
use Rattle.events.specs.Forms.{event_of_one, event_of_two, event_of_three, event_of_parts}

pub one_part : (vs : List Value) (d : Value) → length vs ≡ 1 → event_of_parts (items_view vs) ≡ event_of_one (view (get_or vs 0 d))
unfolding event_of_parts
one_part [] d h = absurd (omega arith)
one_part (a ∷ []) d h = refl
one_part (a ∷ b ∷ more) d h = absurd (omega arith)

pub two_parts : (vs : List Value) (a b : Value) → length vs ≡ 2 → a ≡ get_or vs 0 a → b ≡ get_or vs 1 b → event_of_parts (items_view vs) ≡ event_of_two (view a) (view b)
unfolding event_of_parts
two_parts [] a b h p q = absurd (omega arith)
two_parts (x ∷ []) a b h p q = absurd (omega arith)
two_parts (x ∷ y ∷ []) a b h p q = rw (p, q) refl
two_parts (x ∷ y ∷ z ∷ more) a b h p q = absurd (omega arith)

pub three_parts : (vs : List Value) (a b c : Value) → length vs ≡ 3 → a ≡ get_or vs 0 a → b ≡ get_or vs 1 b → c ≡ get_or vs 2 c → event_of_parts (items_view vs) ≡ event_of_three (view a) (view b) (view c)
unfolding event_of_parts
three_parts [] a b c h p q r = absurd (omega arith)
three_parts (x ∷ []) a b c h p q r = absurd (omega arith)
three_parts (x ∷ y ∷ []) a b c h p q r = absurd (omega arith)
three_parts (x ∷ y ∷ z ∷ []) a b c h p q r = rw (p, q, r) refl
three_parts (x ∷ y ∷ z ∷ w ∷ more) a b c h p q r = absurd (omega arith)

pub other_parts : (vs : List Value) → (length vs ≡ 1 → ⊥) → (length vs ≡ 2 → ⊥) → (length vs ≡ 3 → ⊥) → event_of_parts (items_view vs) ≡ None
unfolding event_of_parts
other_parts [] h k l = refl
other_parts (a ∷ []) h k l = absurd (h refl)
other_parts (a ∷ b ∷ []) h k l = absurd (k refl)
other_parts (a ∷ b ∷ c ∷ []) h k l = absurd (l refl)
other_parts (a ∷ b ∷ c ∷ e ∷ more) h k l = refl
