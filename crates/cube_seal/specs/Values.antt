-- The values of a core as the bytes of which a seal tells the digest.
use Rattle.std.specs.Prelude.{ℕ, ℤ, List, ◌∷◌}
use Rattle.std.specs.Int.{w64, cast_unsigned, to_be_bytes}
use Rattle.std.specs.List.{flat_map, zip}
use Rattle.cube_model.specs.Cores.{Core}
use Rattle.cube_model.specs.Dims.{NamedMeasure}
use Rattle.cube_journal.specs.Digests.{digest_of}

-- a value in eight bytes, as two's complement, the most significant first
abbrev pub value_bytes : ℤ → List ℕ
value_bytes value = to_be_bytes w64 (cast_unsigned w64 value)

-- a measure with its values: how many decimals it has, in one byte, and then each value, place by place
abbrev pub measure_bytes : NamedMeasure × List ℤ → List ℕ
measure_bytes m = m.0.decimals ∷ flat_map value_bytes m.1

-- the values of a core, measure by measure
abbrev pub values_of : Core → List ℕ
values_of c = flat_map measure_bytes (zip c.dims.measures c.cube)

-- the digest of the values of a core, which its seal tells
abbrev pub digest_of_values : Core → List ℕ
digest_of_values c = digest_of (values_of c)
