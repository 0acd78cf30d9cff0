-- What each step tells the seat that makes it.
use Rattle.std.specs.Prelude.{◌≡◌, ◌≢◌, ℕ, zero, suc, ◌+◌, ◌<◌, ◌≤◌, true, false, List, [], ◌∷◌, ◌++◌, Option, Some, None}
use Rattle.atomic_table.specs.Table.{Me, Step}
use Rattle.turn_lock.specs.declared.view.View.{View}
use Rattle.turn_lock.specs.Story.{StartsWith, borne, added}

-- the turn that makes the lock isn't counted
abbrev pub turns_after : ℕ → ℕ → ℕ
turns_after zero turns = turns
turns_after (suc past) turns = turns + 1

module _ {N E : Type 0} where
  -- the first seat counts one more
  abbrev pub dealer : View N E → View N E
  dealer v = record v { count = v.count + 1 }

  -- and the new one has that number
  abbrev pub dealt : View N E → View N E
  dealt v = record v { number = v.count; own = []; turns = 0; loads = 0; loaded = 0; ticket = None; out = false; count = 0; kept = [] }

  -- a seat that has taken in another: it keeps the other's number, and what that one had seen and added, beside its own
  abbrev pub joined : View N E → View N E → View N E
  joined v w = record v { kept = (w.number, (w.seen, w.own)) ∷ v.kept }

  module _ {T : Type 0} where
    -- the seat has drawn the ticket, or nothing changed
    abbrev pub Drawn : Step (Option T) → Me (Option T) (View N E) → ℕ → Me (Option T) (View N E) → Type 0
    Drawn st m n w = (n ≡ st.first → w ≡ (record m.0 { ticket = Some n }, m.1)) × (n ≢ st.first → w ≡ m)

    module _ (name_of : T → N) (story_of : T → List E) (bearer : E → ℕ) (mark_of : T → ℕ) where
      -- the value found bears the name, and the seat finds again what it has seen and added
      abbrev pub IsFound : View N E → List E → ℕ → Option T → Type 0
      IsFound v story mark y =
          StartsWith story v.seen × (v.mark ≤ mark) × (borne bearer v.number story ≡ v.own)
          × (0 < v.past → (x : T) × (y ≡ Some x) × (Some (name_of x) ≡ v.name) × (story_of x ≡ story) × (mark_of x ≡ mark))

      -- the seat's turn has come: it has the slot
      abbrev pub Came : Me (Option T) (View N E) → Me (Option T) (View N E) → Type 0
      Came m w =
          (y : Option T) × (story : List E) × (mark : ℕ)
          × (w ≡ (record m.0 { out = true; seen = story; mark = mark; turns = turns_after m.0.past m.0.turns }, (0, y) ∷ m.1)) × IsFound m.0 story mark y

      -- of a seat that waits with the ticket k: its turn has come, or nothing changed
      abbrev pub LookedFor : Me (Option T) (View N E) → ℕ → Me (Option T) (View N E) → ℕ → Type 0
      LookedFor m n w k = (n ≤ k) × (n ≡ k → Came m w × (n ≡ 0 → (w.0.seen ≡ []) × (w.0.mark ≡ 0))) × (n ≢ k → w ≡ m)

      abbrev pub Looked : Step (Option T) → Me (Option T) (View N E) → ℕ → Me (Option T) (View N E) → Type 0
      Looked st m n w = (k : ℕ) → m.0.ticket ≡ Some k → LookedFor m n w k

    -- the mark is raised to that of the value that goes back
    abbrev pub Raised : Step (Option T) → Me (Option T) (View N E) → ℕ → Me (Option T) (View N E) → Type 0
    Raised st m n w = w ≡ (record m.0 { mark = st.first }, m.1)

    -- the turn is over, and the value is at home
    abbrev pub Served : (T → List E) → Step (Option T) → Me (Option T) (View N E) → ℕ → Me (Option T) (View N E) → Type 0
    Served story_of st m n w =
        (x : T) → m.1 ≡ (0, Some x) ∷ []
        → w ≡ (record m.0 { seen = story_of x; own = m.0.own ++ added m.0.seen (story_of x); ticket = None; out = false; past = n + 1 }, [])

    -- the mark was read. While the seat's turn is out, it is the seat's own
    abbrev pub ReadMark : (N → ℕ) → Step (Option T) → Me (Option T) (View N E) → ℕ → Me (Option T) (View N E) → Type 0
    ReadMark most st m n w =
        (w ≡ (record m.0 { mark = n; loads = m.0.loads + 1; loaded = n }, m.1)) × (m.0.mark ≤ n) × ((called : N) → m.0.name ≡ Some called → n ≤ most called) × (m.0.out ≡ true → n ≡ m.0.mark)
