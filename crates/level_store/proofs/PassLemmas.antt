-- passes and the holds that they stand for
use Rattle.std.proofs.Common.{◌≡◌, ℕ, List, [], ◌∷◌, refl, sym, ap, subst, ◌∙◌, Option, Some, None, zero, suc, replicate, IsTrue}
use Rattle.std.specs.Prelude.{slice_set, slice_index_or, option_map}
use Rattle.std.proofs.lemmas.Bool.{false≢true}
use Rattle.std.proofs.lemmas.List.{map-set}
use Rattle.level_store.specs.declared.hold.Hold.{Hold}
use Rattle.level_store.specs.declared.holds.HoldPass.{HoldPass}
use Rattle.mip_cache.specs.Passes.{WritePassSeen}
use Rattle.level_store.specs.declared.holds.HoldPass.TheVariants.{Write}
use Rattle.level_store.specs.Levels.{hold_in, is_writing}
use Rattle.level_store.specs.Passes.{hold_by, holds_by, IsOwn, AreOwn}

pub holds_by-none : (n : ℕ) → holds_by (replicate n None) ≡ replicate n None
holds_by-none zero = refl
holds_by-none (suc n) = ap (λ (hs : List (Option Hold)). None ∷ hs) (holds_by-none n)

-- one seat is written
pub holds_by-set : (passes : List (Option HoldPass)) (holds : List (Option Hold)) (w : ℕ) (x y : Option HoldPass) → holds_by passes ≡ holds → x ≡ y
    → holds_by (slice_set passes w x) ≡ slice_set holds w (option_map hold_by y)
holds_by-set passes holds w x y seen is =
    map-set (option_map hold_by) passes w x ∙ ap (λ hs. slice_set hs w (option_map hold_by x)) seen ∙ ap (λ p. slice_set holds w (option_map hold_by p)) is

-- a pass to write that a worker has is its own
seat_of : (passes : List (Option HoldPass)) (w : ℕ) (x : Option HoldPass) → IsTrue (is_writing (hold_in (holds_by passes) w)) → x ≡ slice_index_or passes w x → slice_index_or passes w None ≡ x
seat_of [] w x h is = absurd (false≢true h)
seat_of (y ∷ ys) zero x h is = sym is
seat_of (y ∷ ys) (suc w) x h is = seat_of ys w x h is

pub own_pass : (passes : List (Option HoldPass)) (holds : List (Option Hold)) (w : ℕ) (x : Option HoldPass) (pass : WritePassSeen) → AreOwn passes → holds_by passes ≡ holds
    → IsTrue (is_writing (hold_in holds w)) → x ≡ slice_index_or passes w x → x ≡ Some (Write pass) → pass.worker ≡ w
own_pass passes holds w x pass own seen h at is =
    let writes = subst (λ hs. IsTrue (is_writing (hold_in hs w))) (sym seen) h in
    subst (IsOwn w) (seat_of passes w x writes at ∙ is) (own w)
