-- A value with its past and its future, and what edits, undo and redo make of them.
use Rattle.std.specs.Prelude.{ℕ, ◌+◌, ◌≤◌, List, [], ◌∷◌, length, take, refl}
use Rattle.std.specs.Coded.{Coded, code_by, coded×, coded_ℕ, coded_list}

-- the value that stands, those before it and those that were taken back, each newest first, and how many are kept
pub record Undoing (T : Type 0) : Type 0 where
  pub present : T
  pub past : List T
  pub future : List T
  pub depth : ℕ

abbrev pub undoing_code : {T : Type 0} → Coded T → Coded (Undoing T)
undoing_code {T} code =
    code_by (T × (List T × (List T × ℕ))) (coded× code (coded× (coded_list code) (coded× (coded_list code) coded_ℕ)))
    (λ u. (u.present, (u.past, (u.future, u.depth)))) (λ p. record { present = p.0; past = p.1.0; future = p.1.1.0; depth = p.1.1.1 }) (λ _. refl)

-- the value with no past and no future
abbrev pub start : {T : Type 0} → T → ℕ → Undoing T
start present depth = record { present = present; past = []; future = []; depth = depth }

-- another value in place of the one that stands, which is the newest of the past; as many as the depth are kept, and no future
abbrev pub changed : {T : Type 0} → Undoing T → T → Undoing T
changed u next = record { present = next; past = take u.depth (u.present ∷ u.past); future = []; depth = u.depth }

-- the newest of the past stands, and what stood is the newest of the future; nothing changes where there is no past
abbrev pub undone_to : {T : Type 0} → Undoing T → List T → Undoing T
undone_to u [] = u
undone_to u (before ∷ rest) = record { present = before; past = rest; future = u.present ∷ u.future; depth = u.depth }

abbrev pub undone : {T : Type 0} → Undoing T → Undoing T
undone u = undone_to u u.past

-- the newest of the future stands, and what stood is the newest of the past; nothing changes where there is no future
abbrev pub redone_to : {T : Type 0} → Undoing T → List T → Undoing T
redone_to u [] = u
redone_to u (after ∷ rest) = record { present = after; past = u.present ∷ u.past; future = rest; depth = u.depth }

abbrev pub redone : {T : Type 0} → Undoing T → Undoing T
redone u = redone_to u u.future

-- past and future together are no more than the depth, which is 1 to 64
pub record IsWithinDepth {T : Type 0} (u : Undoing T) : Type 0 where
  pub some_depth : 1 ≤ u.depth
  pub small_depth : u.depth ≤ 64
  pub few : length u.past + length u.future ≤ u.depth
