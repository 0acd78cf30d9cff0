-- A file that is read in turns: one turn, and what has come when no turn is left.
use Rattle.std.proofs.Common.{◌≡◌, ℕ, ◌+◌, ◌<◌, ◌≤◌, List, [], ◌∷◌, ◌++◌, length, take, drop, Option, Some, refl, sym, ap, ◌∙◌, arith}
use Rattle.std.proofs.lemmas.List.{take_all, length-take, length-drop, take_min}
use Rattle.std.proofs.lemmas.Option.{same_Some}
use Rattle.std.proofs.Math.Seq.{take-add, take-append_seam}
use Rattle.outside.specs.Shelf.{ReadsAt}
use Rattle.outside.specs.Front.{IsFront, IsLonger}

-- one turn: the front got room for more, the read filled it, and it was cut to what came
pub longer_by_turn : (file : Option (List ℕ)) (front room buf longer : List ℕ) (at m n : ℕ) → at ≡ length front → at ≤ m → at < length buf
    → take at buf ≡ take at (take m front ++ room) → longer ≡ take (at + n) buf → ReadsAt file at n (drop at buf) → IsLonger file front n longer
longer_by_turn file front room buf longer at m n e fits more same cut r =
    let kept : take m front ≡ front = take_all m front (omega arith) in
    let whole_front : take at (take m front ++ room) ≡ front = ap (λ i. take i (take m front ++ room)) e ∙ ap (λ xs. take (length front) (xs ++ room)) kept ∙ take-append_seam front room in
    record {
      content = r.content;
      stands = r.stands;
      bytes = cut ∙ take-add at n buf ∙ ap (λ xs. xs ++ take n (drop at buf)) (same ∙ whole_front) ∙ ap (λ xs. front ++ xs) (r.bytes ∙ ap (λ i. take n (drop i r.content)) e);
      ends = λ none. let at_end : length r.content ≤ at = r.ends none (omega (arith, length-drop at buf)) in omega arith;
    }

-- what was read so far, with n bytes more, is a front of the content
joined : (front content : List ℕ) (n : ℕ) → take (length front) content ≡ front → front ++ take n (drop (length front) content) ≡ take (length front + n) content
joined front content n e = ap (λ xs. xs ++ take n (drop (length front) content)) (sym e) ∙ sym (take-add (length front) n content)

-- a list that is a front of another one is the front of its own length
front_of : (xs : List ℕ) (n : ℕ) (ys : List ℕ) → ys ≡ take n xs → take (length ys) xs ≡ ys
front_of xs n ys e = ap (λ k. take k xs) (ap length e ∙ length-take n xs) ∙ take_min n xs ∙ sym e

-- where no byte was read, the front of any content is what was read
begins_so : (file : Option (List ℕ)) (front content : List ℕ) → IsFront file front → file ≡ Some content → take (length front) content ≡ front
begins_so file [] content f e = refl
begins_so file (x ∷ xs) content f e =
    let b = f.begins (omega arith) in
    ap (λ c. take (length (x ∷ xs)) c) (same_Some content b.0 (sym e ∙ b.1)) ∙ b.2

-- what came in a turn and before it is a front of the content
longer_taken : (file : Option (List ℕ)) (front longer : List ℕ) (n : ℕ) → IsFront file front → (l : IsLonger file front n longer) → longer ≡ take (length front + n) l.content
longer_taken file front longer n f l = l.bytes ∙ joined front l.content n (begins_so file front l.content f l.stands)

pub longer_is_front : (file : Option (List ℕ)) (front longer : List ℕ) (n : ℕ) → IsFront file front → IsLonger file front n longer → IsFront file longer
longer_is_front file front longer n f l = record {
  begins = λ _. (l.content, l.stands, front_of l.content (length front + n) longer (longer_taken file front longer n f l));
}
