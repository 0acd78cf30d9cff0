-- words of a text, byte by byte
use Rattle.std.proofs.Common.{◌≡◌, ℕ, ◌+◌, ◌-◌, ◌*◌, ◌<◌, ◌≤◌, not, min, Bool, true, false, List, [], ◌∷◌, ◌++◌, length, take, drop, slice_index, refl, sym, ap, ◌∙◌, ⊎_elim, append_assoc, arith}
use Rattle.std.proofs.lemmas.Bool.{cases_Bool}
use Rattle.std.proofs.lemmas.List.{append-nil, drop_more, drop_all, take_more}
use Rattle.pnm.specs.Fault.{after_digits, after_filling, front_digits}
use Rattle.pnm.specs.Grammar.{is_decimal, is_line_end, number_from}

-- a byte within a comment
pub in_comment : (b : ℕ) (t : List ℕ) → after_filling true (b ∷ t) ≡ after_filling (not (is_line_end b)) t
in_comment b t = ⊎_elim
    (λ (end : is_line_end b ≡ true). rw end refl)
    (λ (on : is_line_end b ≡ false). rw on refl)
    (cases_Bool (is_line_end b))

-- one byte more of a filling
pub filling_step : (inside next : Bool) (text : List ℕ) (k : ℕ) → k < length text
    → ((t : List ℕ) → after_filling inside (slice_index text k ∷ t) ≡ after_filling next t)
    → after_filling inside (drop k text) ≡ after_filling false text → after_filling next (drop (k + 1) text) ≡ after_filling false text
filling_step inside next text k below step before =
    sym (step (drop (k + 1) text)) ∙ (ap (after_filling inside) (sym (drop_more text k 0 below)) ∙ before)

-- the byte that ends it
pub filling_stop : (inside : Bool) (text : List ℕ) (k : ℕ) → k < length text
    → ((t : List ℕ) → after_filling inside (slice_index text k ∷ t) ≡ slice_index text k ∷ t)
    → after_filling inside (drop k text) ≡ after_filling false text → drop k text ≡ after_filling false text
filling_stop inside text k below stop before =
    let at = drop_more text k 0 below in
    at ∙ (sym (stop (drop (k + 1) text)) ∙ (ap (after_filling inside) (sym at) ∙ before))

after_nothing : (inside : Bool) → after_filling inside [] ≡ []
after_nothing true = refl
after_nothing false = refl

-- a filling to the end of the text
pub filling_all : (inside : Bool) (text : List ℕ) (k : ℕ) → length text ≤ k → after_filling inside (drop k text) ≡ after_filling false text → drop (length text) text ≡ after_filling false text
filling_all inside text k all before =
    drop_all (length text) text (omega arith) ∙ (sym (after_nothing inside) ∙ (ap (after_filling inside) (sym (drop_all k text all)) ∙ before))

number_more : (n : ℕ) (ds : List ℕ) (b : ℕ) → number_from n (ds ++ b ∷ []) ≡ number_from n ds * 10 + (b - 48)
number_more n [] b = refl
number_more n (c ∷ ds) b = number_more (n * 10 + (c - 48)) ds b

-- what is known of the digits so far
pub record AreDigits (text : List ℕ) (k value : ℕ) : Type 0 where
  pub value_is : value ≡ min (number_from 0 (take k text)) 1000000
  pub digits : front_digits text ≡ take k text ++ front_digits (drop k text)
  pub rest : after_digits (drop k text) ≡ after_digits text

pub digits_none : (text : List ℕ) → AreDigits text 0 0
digits_none text = record { value_is = refl; digits = refl; rest = refl }

pub digits_step : (text : List ℕ) (k value more next : ℕ) → AreDigits text k value → k < length text → is_decimal (slice_index text k) ≡ true → more ≡ slice_index text k - 48
    → next ≡ min (value * 10 + more) 1000000 → AreDigits text (k + 1) next
digits_step text k value more next was below digit more_is next_is =
    let at = drop_more text k 0 below in
    let front = take_more text k 0 below in
    let number : number_from 0 (take (k + 1) text) ≡ number_from 0 (take k text) * 10 + more = ap (number_from 0) front ∙ (number_more 0 (take k text) (slice_index text k) ∙ ap (λ m. number_from 0 (take k text) * 10 + m) (sym more_is)) in
    let go : front_digits (drop k text) ≡ slice_index text k ∷ front_digits (drop (k + 1) text) = ap front_digits at ∙ (rw digit refl) in
    let behind : after_digits (drop k text) ≡ after_digits (drop (k + 1) text) = ap after_digits at ∙ (rw digit refl) in
    record {
      value_is = omega (arith, was.value_is, number, next_is);
      digits = was.digits ∙ (ap (λ t. take k text ++ t) go ∙ (sym (append_assoc (take k text) (slice_index text k ∷ []) (front_digits (drop (k + 1) text))) ∙ ap (λ t. t ++ front_digits (drop (k + 1) text)) (sym front)));
      rest = sym behind ∙ was.rest;
    }

-- no digit follows
pub record IsNumberFront (text : List ℕ) (value len : ℕ) : Type 0 where
  pub value_is : value ≡ min (number_from 0 (front_digits text)) 1000000
  pub rest : drop len text ≡ after_digits text

front_end : (text : List ℕ) (k value : ℕ) → AreDigits text k value → front_digits (drop k text) ≡ [] → after_digits (drop k text) ≡ drop k text → IsNumberFront text value k
front_end text k value was none stays =
    let front : front_digits text ≡ take k text = was.digits ∙ (ap (λ t. take k text ++ t) none ∙ append-nil (take k text)) in
    record { value_is = was.value_is ∙ ap (λ t. min (number_from 0 t) 1000000) (sym front); rest = sym stays ∙ was.rest }

pub digits_stop : (text : List ℕ) (k value : ℕ) → AreDigits text k value → k < length text → is_decimal (slice_index text k) ≡ false → IsNumberFront text value k
digits_stop text k value was below other =
    let at = drop_more text k 0 below in
    front_end text k value was (ap front_digits at ∙ (rw other refl)) (ap after_digits at ∙ ((rw other refl) ∙ sym at))

pub digits_all : (text : List ℕ) (k value : ℕ) → AreDigits text k value → length text ≡ k → IsNumberFront text value k
digits_all text k value was all =
    let at : drop k text ≡ [] = drop_all k text (omega arith) in
    front_end text k value was (ap front_digits at) (ap after_digits at ∙ sym at)
