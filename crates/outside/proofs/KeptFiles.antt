-- A sorted map of names and bytes against the map that contracts see.
use Rattle.std.proofs.Common.{◌≡◌, ℕ, true, false, cond, List, [], ◌∷◌, map, Some, refl, sym, ap, ◌∙◌}
use Rattle.std.specs.Option.{option_map}
use Rattle.std.specs.Ordering.{nat_cmp, eq_by_cmp, is_eq, match_ordering}
use Rattle.std.specs.declared.cmp.Ordering.TheVariants.{Less, Equal, Greater}
use Rattle.std.specs.Cmp.Lexicographic.{slice_cmp, nat_list_cmp_total}
use Rattle.std.specs.FinMap.{find, put, slice_cmp-IsAntisymmetric, nat_cmp-IsAntisymmetric, same_map, get-from_entries, get-insert}
use Rattle.std.specs.FinMap.Entries.{by_order, find-put}
use Rattle.std.specs.Map.{lookup}
use Rattle.std.specs.BTreeMap.{is_at, insert_entry}
use Rattle.std.specs.String.{string_cmp, string_bytes}
use Rattle.std.specs.declared.string.String.{String}
use Rattle.std.specs.declared.vec.Vec.{Vec}
use Rattle.std.specs.declared.alloc.Global.{Global}
use Rattle.outside.specs.Shelf.{held, with_file}
use Rattle.outside.specs.MemoryShelf.{file_of, files_of}

-- both insert at the same place
put_is : (es : List (String Global × Vec ℕ Global)) (k : String Global) (v : Vec ℕ Global) → map file_of (insert_entry string_cmp es k v) ≡ put (slice_cmp nat_cmp) (string_bytes k) v.items (map file_of es)
put_is [] k v = refl
put_is (e ∷ es) k v =
    elim (string_cmp k e.0) as (λ o. map file_of (match_ordering o ((k, v) ∷ e ∷ es) ((e.0, v) ∷ es) (e ∷ insert_entry string_cmp es k v))
    ≡ by_order o ((string_bytes k, v.items) ∷ file_of e ∷ map file_of es) ((string_bytes e.0, v.items) ∷ map file_of es) (file_of e ∷ put (slice_cmp nat_cmp) (string_bytes k) v.items (map file_of es))) [
      | Less ↦ refl
      | Equal ↦ refl
      | Greater ↦ ap (λ xs. file_of e ∷ xs) (put_is es k v)
    ]

-- what stands after an insertion
pub files_of-insert_entry : (es : List (String Global × Vec ℕ Global)) (k : String Global) (v : Vec ℕ Global) → files_of (insert_entry string_cmp es k v) ≡ with_file (string_bytes k) v.items (files_of es)
files_of-insert_entry es k v = same_map nat_list_cmp_total (slice_cmp-IsAntisymmetric nat_cmp-IsAntisymmetric) _ _ (λ q.
    get-from_entries nat_list_cmp_total (map file_of (insert_entry string_cmp es k v)) q
    ∙ ap (find (slice_cmp nat_cmp) q) (put_is es k v)
    ∙ find-put (slice_cmp nat_cmp) nat_list_cmp_total q (string_bytes k) v.items (map file_of es)
    ∙ ap (cond (eq_by_cmp (slice_cmp nat_cmp) q (string_bytes k)) (Some v.items)) (sym (get-from_entries nat_list_cmp_total (map file_of es) q))
    ∙ sym (get-insert nat_list_cmp_total (files_of es) (string_bytes k) v.items q))

-- both find the same bytes
find_is : (es : List (String Global × Vec ℕ Global)) (q : List ℕ) → find (slice_cmp nat_cmp) q (map file_of es) ≡ option_map (λ v. v.items) (lookup (is_at (λ k. slice_cmp nat_cmp q (string_bytes k))) es)
find_is [] q = refl
find_is (e ∷ es) q =
    elim (is_eq (slice_cmp nat_cmp q (string_bytes e.0))) as (λ b. cond b (Some e.1.items) (find (slice_cmp nat_cmp) q (map file_of es))
    ≡ option_map (λ v. v.items) (cond b (Some e.1) (lookup (is_at (λ k. slice_cmp nat_cmp q (string_bytes k))) es))) [
      | true ↦ refl
      | false ↦ find_is es q
    ]

-- what stands under a name
pub held-files_of : (es : List (String Global × Vec ℕ Global)) (q : List ℕ) → held (files_of es) q ≡ option_map (λ v. v.items) (lookup (is_at (λ k. slice_cmp nat_cmp q (string_bytes k))) es)
held-files_of es q = get-from_entries nat_list_cmp_total (map file_of es) q ∙ find_is es q
