-- Plain numbers: digits, and behind a point at least one digit and no more than there are decimals.
use Rattle.std.specs.Prelude.{◌≡◌, ℕ, ◌-◌, ◌*◌, ◌^◌, ◌<◌, ◌≤◌, true, List, ◌∷◌, length, drop}
use Rattle.std.specs.List.{list_all}
use Rattle.std.specs.Char.{is_ascii_digit}
use Rattle.std.specs.Str.Parse.{digits_value}
use Rattle.cube_text.specs.Units.{is_number, is_zero, fraction_part, size_of}

-- a text without a sign is a number of this size, which is not too fine and not too large
pub record IsPlain (decimals : ℕ) (body : List ℕ) (size : ℕ) : Type 0 where
  pub number : is_number body ≡ true
  pub fine : list_all is_zero (drop decimals (fraction_part body)) ≡ true
  pub sized : size_of decimals body ≡ size
  pub few : size ≤ 1000000000000

-- a text is a point, and behind it digits that add this size
pub record IsBehind (decimals : ℕ) (rest : List ℕ) (size : ℕ) : Type 0 where
  pub fraction : List ℕ
  pub is : rest ≡ 46 ∷ fraction
  pub digits : list_all is_ascii_digit fraction ≡ true
  pub some : 0 < length fraction
  pub short : length fraction ≤ decimals
  pub sized : digits_value 10 fraction * 10 ^ (decimals - length fraction) ≡ size
