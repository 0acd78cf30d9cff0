-- Lemmas on nodes kept in step.
use Rattle.std.proofs.Common.{◌≡◌, ℕ, ◌+◌, ◌<◌, List, [], ◌∷◌, ◌++◌, length, get_or, take, drop, refl, sym, ap, ◌∙◌, arith, Option, Some, None}
use Rattle.std.specs.Option.{option_to_list}
use Rattle.std.proofs.lemmas.List.{take_more, drop_more}
use Rattle.pipe_nodes.specs.declared.active.Active.{Active}
use Rattle.pipe_sync.specs.Changed.{change_at, changed_places}

shorter-none : (items : List Active) → items ≡ drop 1 items → items ≡ []
shorter-none [] same = refl
shorter-none (a ∷ items) same = absurd (omega (arith, ap length same))

-- the first of the old pieces is taken for the next instance
pub changed-next : (items rest : List Active) (r : Option Active) (a : Active) (later : List Active) → items ≡ option_to_list r ++ rest → rest ≡ drop 1 items
    → changed_places items (a ∷ later) ≡ change_at r a + changed_places rest later
changed-next items rest None a later whole shorter =
    let none : rest ≡ [] = sym whole ∙ shorter-none items (whole ∙ shorter) in
    ap (λ list. changed_places list (a ∷ later)) (whole ∙ none) ∙ ap (λ list. change_at None a + changed_places list later) (sym none)
changed-next items rest (Some b) a later whole shorter = ap (λ list. changed_places list (a ∷ later)) whole

-- the same, along a list of instances
pub changed-at : (items rest : List Active) (r : Option Active) (actives : List Active) (i : ℕ) (a : Active) → i < length actives → a ≡ get_or actives i a → items ≡ option_to_list r ++ rest → rest ≡ drop 1 items
    → changed_places items (drop i actives) ≡ change_at r a + changed_places rest (drop (i + 1) actives)
changed-at items rest r actives i a within is whole shorter =
    ap (changed_places items) (drop_more actives i a within ∙ ap (λ x. x ∷ drop (i + 1) actives) (sym is)) ∙ changed-next items rest r a (drop (i + 1) actives) whole shorter

-- one piece more
pub pieces-more : (pieces actives : List Active) (i : ℕ) (a piece : Active) → i < length actives → a ≡ get_or actives i a → piece ≡ a → pieces ≡ take i actives → pieces ++ piece ∷ [] ≡ take (i + 1) actives
pieces-more pieces actives i a piece within is piece_is so_far =
    ap (λ list. list ++ piece ∷ []) so_far ∙ ap (λ x. take i actives ++ x ∷ []) (piece_is ∙ is) ∙ sym (take_more actives i a within)
