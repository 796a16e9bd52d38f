-- Numbers that are drawn one after another from a first number.
use Rattle.std.specs.Prelude.{ℕ, zero, suc, ◌+◌, ◌*◌, ◌/◌, ◌%◌, ◌^◌}

-- the number behind a number
abbrev pub next : ℕ → ℕ
next x = (x * 6364136223846793005 + 1442695040888963407) % 2 ^ 64

-- the number behind so many draws from a number on
abbrev pub seed : ℕ → ℕ → ℕ
seed x zero = x
seed x (suc k) = next (seed x k)

-- what draw k below n gives from a number on, the first being draw 1: the top 32 bits of the number behind it, modulo n
abbrev pub drawn : ℕ → ℕ → ℕ → ℕ
drawn x k n = seed x k / 2 ^ 32 % n
