-- A value as facts share it.
use Rattle.std.specs.Prelude.{ℕ, nat_lt, if◌then◌else◌, ℤ, pos, ◌+ℤ◌, unsigned_abs}
use Rattle.std.specs.Int.{int_div_euclid, int_rem_euclid}

-- What the fact with this number, counted from 0, carries of a value that n facts share: the value divided by n and rounded down,
-- and one more at each of the first facts, as many as the rest.
abbrev pub share : ℤ → ℕ → ℕ → ℤ
share v n k = if nat_lt k (unsigned_abs (int_rem_euclid v (pos n))) then int_div_euclid v (pos n) +ℤ pos 1 else int_div_euclid v (pos n)
