-- workers that did nothing yet
use Rattle.std.proofs.Common.{◌≡◌, ℕ, List, map, refl}
use Rattle.std.specs.List.{All}
use Rattle.session.specs.declared.shared.Shared.{Shared}
use Rattle.session.specs.Workers.{IsOfOne, Ready, fresh_worker, number_of}
use Rattle.session.proofs.Listing.{All-map, map_same}

pub ready_fresh : (s : Shared) (n : ℕ) → IsOfOne s → Ready s (fresh_worker s n)
ready_fresh s n one = record {
  rests = record {
    of_one = one;
    desk = record { is_of = record { lock_is = refl; name_is = refl }; waits = refl };
    stage = record { is_of = record { lock_is = refl; name_is = refl }; waits = refl };
    mips = record { is_of = record { lock_is = refl; name_is = refl }; waits = refl };
    bare = refl;
    nodes = record { full = refl; preview = refl; second = refl };
    marks = record { full = tt; preview = tt; second = tt };
  };
  free = refl;
}

pub all_ready : (s : Shared) (ns : List ℕ) → IsOfOne s → All (Ready s) (map (fresh_worker s) ns)
all_ready s ns one = All-map (Ready s) (fresh_worker s) ns (λ n. ready_fresh s n one)

pub numbers : (s : Shared) (ns : List ℕ) → map number_of (map (fresh_worker s) ns) ≡ ns
numbers s ns = map_same (fresh_worker s) number_of ns (λ n. refl)
