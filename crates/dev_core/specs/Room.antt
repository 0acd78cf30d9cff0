-- lists that are given room ahead of the time when they grow
use Rattle.std.specs.Prelude.{ℕ, List, refl}
use Rattle.std.specs.Coded.{Coded, code_by, coded×, coded_ℕ, coded_list}

-- the elements, and how many more fit without memory
pub record Roomed (T : Type 0) : Type 0 where
  pub items : List T
  pub room : ℕ

abbrev pub roomed_code : {T : Type 0} → Coded T → Coded (Roomed T)
roomed_code {T} code =
    code_by (List T × ℕ) (coded× (coded_list code) coded_ℕ) (λ v. (v.items, v.room)) (λ p. record { items = p.0; room = p.1 }) (λ _. refl)
