-- A story, which only grows, and what one pass has of it.
use Rattle.std.specs.Prelude.{◌≡◌, ℕ, ◌==◌, List, [], ◌∷◌, ◌++◌, length, filter, drop}

-- the story begins with what was seen of it
abbrev pub StartsWith : {E : Type 0} → List E → List E → Type 0
StartsWith {E} story seen = (rest : List E) × (story ≡ seen ++ rest)

-- the elements that bear this number, in order
abbrev pub borne : {E : Type 0} → (E → ℕ) → ℕ → List E → List E
borne bearer number story = filter (λ e. bearer e == number) story

-- what the later story has beyond the earlier one
abbrev pub added : {E : Type 0} → List E → List E → List E
added before after = drop (length before) after

-- each element bears this number
abbrev pub AllBear : {E : Type 0} → (E → ℕ) → ℕ → List E → Type 0
AllBear bearer number [] = Unit {0}
AllBear bearer number (e ∷ es) = (bearer e ≡ number) × AllBear bearer number es
