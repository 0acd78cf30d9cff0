-- What holds of the value when the lock is closed.
use Rattle.std.specs.Prelude.{◌≡◌, ◌⊎◌, ℕ, ◌<◌, ◌≤◌, true, false, List, [], ◌∷◌, Option}
use Rattle.atomic_table.specs.Table.{Me}
use Rattle.turn_lock.specs.declared.view.View.{View}
use Rattle.turn_lock.specs.Known.{Known}
use Rattle.turn_lock.specs.Story.{StartsWith, borne}
use Rattle.turn_lock.specs.Rule.{Joined}

-- what a join keeps of a pass
abbrev pub joined_of : {N E : Type 0} → Known N E → Joined E
joined_of p = (p.number, (p.seen, p.own))

module _ {E : Type 0} where
  -- the entry stands in the list
  abbrev pub Has : Joined E → List (Joined E) → Type 0
  Has x [] = ⊥
  Has x (k ∷ ks) = (x ≡ k) ⊎ Has x ks

module _ {N E : Type 0} where
  -- the other seats have all been joined
  abbrev pub HasAll : View N E → Type 0
  HasAll v = (n : ℕ) → 0 < n → n < v.count → (x : Joined E) × (x.0 ≡ n) × Has x v.kept

module _ {T N E : Type 0} where
  -- the seat of number 0, with no turn out
  pub record IsLast (me : Me (Option T) (View N E)) : Type 0 where
    pub live : me.0.live ≡ true
    pub numbered : me.0.number ≡ 0
    pub out : me.0.out ≡ false
    pub past : 0 < me.0.past

  -- the value that was left to the seat of number 0, which has joined all others
  pub record IsLeft (name_of : T → N) (story_of : T → List E) (bearer : E → ℕ) (called : N) (v : View N E) (value : T) : Type 0 where
    pub name : name_of value ≡ called
    pub seen : StartsWith (story_of value) v.seen
    pub own : borne bearer 0 (story_of value) ≡ v.own
    pub kept : (x : Joined E) → Has x v.kept → StartsWith (story_of value) x.1.0 × (borne bearer x.0 (story_of value) ≡ x.1.1)
    pub others : (n : ℕ) → v.count ≤ n → borne bearer n (story_of value) ≡ []
