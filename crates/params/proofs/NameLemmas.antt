-- The names of modules.
use Rattle.std.proofs.Common.{◌≡◌, ℕ, zero, suc, ◌+◌, ◌<◌, ◌≤◌, List, [], ◌∷◌, length, get_or, drop, Bool, true, false, ◌&&◌, nat_eq, bytes_eq, Some, None, refl, sym, ap, ◌∙◌, arith, lit≤}
use Rattle.std.specs.Bool.{if◌then◌else◌}
use Rattle.std.specs.Cmp.{unsigned_Decides}
use Rattle.std.proofs.lemmas.List.{at_drop_more, at_drop_all}
use Rattle.params.specs.Form.{named}
use Rattle.params.specs.Names.{name_of_module, module_named, number_of, last_number}
use Rattle.params.specs.Table.{all_modules}
use Rattle.params.specs.declared.modules.Module.{Module}
use Rattle.params.specs.declared.modules.Module.TheVariants as modules
use Rattle.params.proofs.RowAgain.{both}

-- each module is the one of its name
pub module_again : (m : Module) → module_named (name_of_module m) ≡ Some m
module_again modules.RawPrepare = refl
module_again _ = refl

-- the value at a place, if it has the name, or one behind it
named_more : {A : Type 0} (name : A → List ℕ) (text : List ℕ) (xs : List A) (i : ℕ) (d : A) → i < length xs
    → named name (drop i xs) text ≡ (if bytes_eq text (name (get_or xs i d)) then Some (get_or xs i d) else named name (drop (i + 1) xs) text)
named_more name text xs i d h = at_drop_more (λ l. named name l text) xs i d h

-- what a value that hasn't the name leaves to those behind it
pub named_behind : {A : Type 0} (name : A → List ℕ) (text : List ℕ) (xs : List A) (i : ℕ) (d : A) → i < length xs → bytes_eq text (name (get_or xs i d)) ≡ false
    → named name (drop (i + 1) xs) text ≡ named name (drop i xs) text
named_behind name text xs i d h e = sym (named_more name text xs i d h ∙ ap (λ b. if b then Some (get_or xs i d) else named name (drop (i + 1) xs) text) e)

pub none_named : {A : Type 0} (name : A → List ℕ) (text : List ℕ) (xs : List A) (i : ℕ) → length xs ≤ i → named name (drop i xs) text ≡ None
none_named name text xs i h = at_drop_all (λ l. named name l text) xs i h

-- ---- numbers

abbrev is_numbered : ℕ → List Module → Bool
is_numbered i [] = true
is_numbered i (m ∷ ms) = nat_eq (number_of m) i && is_numbered (suc i) ms

numbered : (i n : ℕ) (ms : List Module) (d : Module) → is_numbered i ms ≡ true → n < length ms → number_of (get_or ms n d) ≡ i + n
numbered i n [] d h less = absurd (omega arith)
numbered i zero (m ∷ ms) d h less =
    let is : number_of m ≡ i = (unsigned_Decides (number_of m) i).0 ((both (nat_eq (number_of m) i) (is_numbered (suc i) ms) h).0) in
    omega (arith, is)
numbered i (suc n) (m ∷ ms) d h less =
    let more = numbered (suc i) n ms d ((both (nat_eq (number_of m) i) (is_numbered (suc i) ms) h).1) (omega arith) in
    omega (arith, more)

-- the module at a place of the list has that number
pub number_at : (n : ℕ) (d : Module) → n ≤ last_number → number_of (get_or all_modules n d) ≡ n
number_at n d h = let is = numbered 0 n all_modules d refl (omega arith) in omega (arith, is)

-- no module has a greater number than the last
pub number_few : (m : Module) → number_of m ≤ last_number
number_few modules.RawPrepare = lit≤ tt
number_few _ = lit≤ tt
