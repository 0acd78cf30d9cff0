-- what the front of a text tells of the text
use Rattle.std.proofs.Common.{◌≡◌, ℕ, List, ◌∷◌, ◌++◌, take, drop, sym, ap, ◌∙◌, Option}
use Rattle.std.proofs.lemmas.List.{append_assoc, take-append-drop}
use Rattle.px.specs.declared.kind.Cfa.{Cfa}
use Rattle.px.specs.Picture.{Picture}
use Rattle.pnm.specs.Pnm.{IsPicture}

-- seven words and what follows them, and a text behind
behind_words : (a b c d e f g rest more : List ℕ) (white : ℕ)
    → (a ++ (b ++ (c ++ (d ++ (e ++ (f ++ white ∷ (g ++ rest))))))) ++ more ≡ a ++ (b ++ (c ++ (d ++ (e ++ (f ++ white ∷ (g ++ (rest ++ more)))))))
behind_words a b c d e f g rest more white =
    append_assoc a _ more ∙ ap (λ t. a ++ t) (append_assoc b _ more ∙ ap (λ t. b ++ t) (append_assoc c _ more ∙ ap (λ t. c ++ t) (append_assoc d _ more ∙ ap (λ t. d ++ t)
    (append_assoc e _ more ∙ ap (λ t. e ++ t) (append_assoc f _ more ∙ ap (λ t. f ++ white ∷ t) (append_assoc g rest more))))))

-- where the front of a text is a picture, the text is that picture
pub picture-front : (n : ℕ) (bytes : List ℕ) (cfa : Option Cfa) (q : Picture) → IsPicture (take n bytes) cfa q → IsPicture bytes cfa q
picture-front n bytes cfa q p =
    let whole : bytes ≡ take n bytes ++ drop n bytes = sym (take-append-drop n bytes) in
    record {
      magic = p.magic;
      first_gap = p.first_gap;
      width = p.width;
      second_gap = p.second_gap;
      height = p.height;
      third_gap = p.third_gap;
      greatest = p.greatest;
      white = p.white;
      raster = p.raster;
      rest = p.rest ++ drop n bytes;
      text = whole ∙ ap (λ t. t ++ drop n bytes) p.text
          ∙ ap (λ t. 80 ∷ p.magic ∷ t) (behind_words p.first_gap p.width p.second_gap p.height p.third_gap p.greatest p.raster p.rest (drop n bytes) p.white);
      is_magic = p.is_magic;
      has_gaps = p.has_gaps;
      ends_white = p.ends_white;
      is_width = p.is_width;
      is_height = p.is_height;
      top = p.top;
      is_greatest = p.is_greatest;
      some_top = p.some_top;
      top_fits = p.top_fits;
      kind = p.kind;
      wide = p.wide;
      high = p.high;
      wide_enough = p.wide_enough;
      high_enough = p.high_enough;
      pixels = p.pixels;
      len = p.len;
      same = p.same;
    }
