-- The passes for writing and for reading.
use Rattle.std.specs.Prelude.{ℕ}

-- the pass of a worker that writes a level
pub record WritePassSeen : Type 0 where
  pub worker : ℕ
  pub level : ℕ

-- the pass of a reader of a level
pub record ReadPassSeen : Type 0 where
  pub level : ℕ

abbrev pub write_pass : ℕ → ℕ → WritePassSeen
write_pass worker level = record { worker = worker; level = level }

abbrev pub read_pass : ℕ → ReadPassSeen
read_pass level = record { level = level }
