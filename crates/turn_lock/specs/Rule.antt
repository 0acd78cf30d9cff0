-- The rule between any two steps: what the words, the slot and the views of all passes have to do with one another.
use Rattle.std.specs.Prelude.{◌≡◌, ℕ, ◌^◌, ◌<◌, ◌≤◌, ◌⊎◌, true, false, List, [], ◌∷◌, length, Option, Some, None}
use mathlib.Core.Option.{none, some}
use mathlib.Core.Option as maybe
use lib.ListN.{get_elem?}
use Rattle.atomic_table.specs.Table.{State}
use Rattle.turn_lock.specs.declared.view.View.{View}
use Rattle.turn_lock.specs.Story.{StartsWith, borne}

-- the story and the three words at one moment
pub record Moment (E : Type 0) : Type 0 where
  pub story : List E
  pub tickets : ℕ
  pub serving : ℕ
  pub marked : ℕ

abbrev pub words_of : {E : Type 0} → Moment E → List ℕ
words_of m = m.tickets ∷ m.serving ∷ m.marked ∷ []

-- the slots that are at home, each with what it holds
abbrev pub Homes : Type 0 → Type 0
Homes T = List (maybe.Option (Option T))

-- a seat that a join has spent: its number, and what it had seen and added
abbrev pub Joined : Type 0 → Type 0
Joined E = ℕ × (List E × List E)

module _ {N E : Type 0} where
  -- the view of the seat that makes the table: the first ticket is its own
  abbrev pub opener : N → View N E
  opener name = record { of = record {}; live = true; number = 0; name = Some name; seen = []; own = []; mark = 0; turns = 0; loads = 0; loaded = 0; ticket = Some 0; out = false; past = 0; count = 1; kept = [] }

  -- the view that a join leaves behind
  abbrev pub spent : View N E
  spent = record { of = record {}; live = false; number = 0; name = None; seen = []; own = []; mark = 0; turns = 0; loads = 0; loaded = 0; ticket = None; out = false; past = 0; count = 0; kept = [] }

  module _ (bearer : E → ℕ) (story : List E) (views : List (View N E)) where
    -- the story still begins with what the spent seat had seen, and has what it added
    abbrev pub HadFits : Joined E → Type 0
    HadFits k = StartsWith story k.1.0 × (borne bearer k.0 story ≡ k.1.1) × (get_elem? views k.0 ≡ some spent)

    abbrev pub AllHad : List (Joined E) → Type 0
    AllHad [] = Unit {0}
    AllHad (k ∷ ks) = HadFits k × AllHad ks

  -- some seat has the ticket
  abbrev pub HasTicket : List (View N E) → ℕ → Type 0
  HasTicket views k = (id : ℕ) × (v : View N E) × (get_elem? views id ≡ some v) × (v.live ≡ true) × (v.ticket ≡ Some k)

module _ {T N E : Type 0} where
  -- a turn is out
  abbrev pub IsOut : Homes T → List (View N E) → Type 0
  IsOut homes views = (id : ℕ) × (v : View N E) × (homes ≡ none ∷ []) × (get_elem? views id ≡ some v) × (v.live ≡ true) × (v.out ≡ true)

module _ {T N E : Type 0} (name_of : T → N) (story_of : T → List E) (bearer : E → ℕ) (mark_of : T → ℕ) (most : N → ℕ) where
  -- what the view of a live seat says is so. While its turn is out, it alone has the slot, and its view is the moment's
  pub record Fits (called : N) (m : Moment E) (homes : Homes T) (views : List (View N E)) (id : ℕ) (v : View N E) : Type 0 where
    pub number : v.number ≡ id
    pub name : v.name ≡ Some called
    pub seen : StartsWith m.story v.seen
    pub own : borne bearer id m.story ≡ v.own
    pub mark : v.mark ≤ m.marked
    pub past : v.past ≤ m.serving
    pub ticket : (k : ℕ) → v.ticket ≡ Some k → (m.serving ≤ k) × (k < m.tickets)
    pub out : v.out ≡ true → (v.ticket ≡ Some m.serving) × (homes ≡ none ∷ []) × (v.seen ≡ m.story) × (v.mark ≡ m.marked)
    pub kept : AllHad bearer m.story views v.kept

  -- the value is the moment's
  abbrev pub IsValue : N → Moment E → T → Type 0
  IsValue called m x = (name_of x ≡ called) × (story_of x ≡ m.story) × (mark_of x ≡ m.marked)

  -- no turn is out. Before the first one ends, the slot is empty
  abbrev pub AtHome : N → Moment E → Homes T → Type 0
  AtHome called m homes =
      (y : Option T) × (homes ≡ some y ∷ []) × (0 < m.serving → (x : T) × (y ≡ Some x) × IsValue called m x) × (m.serving ≡ 0 → (m.story ≡ []) × (m.marked ≡ 0))

  -- Each ticket from the one that is served up to the next is in exactly one view. A seat's number is its place among the views.
  -- No element bears the number of no seat, and the mark is never above the most of the name
  pub record Kept (called : N) (s : State (Option T) (View N E)) : Type 0 where
    pub moment : Moment E
    pub words : s.words ≡ words_of moment
    pub small : moment.tickets < 2 ^ 64
    pub order : moment.serving ≤ moment.tickets
    pub top : moment.marked ≤ most called
    pub each : (id : ℕ) (v : View N E) → get_elem? s.views id ≡ some v → v.live ≡ true → Fits called moment s.homes s.views id v
    pub unique : (i j : ℕ) (v w : View N E) (k : ℕ) → get_elem? s.views i ≡ some v → get_elem? s.views j ≡ some w → v.live ≡ true → w.live ≡ true → v.ticket ≡ Some k → w.ticket ≡ Some k → i ≡ j
    pub every : (k : ℕ) → moment.serving ≤ k → k < moment.tickets → HasTicket s.views k
    pub nobody : (n : ℕ) → length s.views ≤ n → borne bearer n moment.story ≡ []
    pub count : (v : View N E) → get_elem? s.views 0 ≡ some v → v.live ≡ true → v.count ≡ length s.views
    pub place : AtHome called moment s.homes ⊎ IsOut s.homes s.views
