-- A clock in memory: the moments that it holds and has given.
use Rattle.std.specs.Prelude.{ℕ, ◌-◌, zero, suc, min, List, [], ◌∷◌, ◌++◌, length, get_or, Option}

-- a clock in memory: the moments that were given, where they are still told, those that it holds, and the calls that were made
pub record ClockState : Type 0 where
  pub given : Option (List ℕ)
  pub moments : List ℕ
  pub calls : ℕ

-- the moment that a call gives after so many calls: the next one, at the end the last again, and 0 where there is none
abbrev pub moment_at : List ℕ → ℕ → ℕ
moment_at moments calls = get_or moments (min calls (length moments - 1)) 0

-- the moments that so many calls gave
abbrev pub moments_of : List ℕ → ℕ → List ℕ
moments_of moments zero = []
moments_of moments (suc calls) = moments_of moments calls ++ moment_at moments calls ∷ []
