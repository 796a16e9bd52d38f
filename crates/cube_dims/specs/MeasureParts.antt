-- What the table of a measure has, before its names are looked at.
use Rattle.std.specs.Prelude.{[], codes}
use Rattle.toml.specs.Data.{Members, as_str}
use Rattle.cube_tables.specs.Tables.{value_or, under}
use Rattle.cube_dims.specs.DimsFile.{decimals_in}
use Rattle.cube_dims.specs.declared.measure.Parts.{Parts}

abbrev pub parts_in : Members → Parts
parts_in table = record {
  name = value_or [] as_str (under (codes "name") table);
  column = value_or (value_or [] as_str (under (codes "name") table)) as_str (under (codes "column") table);
  decimals = decimals_in (under (codes "decimals") table);
}
