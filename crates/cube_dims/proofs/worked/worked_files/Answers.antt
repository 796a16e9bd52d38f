use Rattle.std.proofs.Common.{refl}
use Rattle.std.specs.Fmt.{digits}
use Rattle.std.specs.Str.{is_utf8, chars}
use Rattle.cube_model.specs.Names.{is_name, is_level_name, is_measure_name}
use Rattle.cube_tables.specs.Tables.{toml_of}
use Rattle.cube_dims.specs.DimsFile.{dims_of, dimension_of, measure_of, named_faults, dimension_faults, measure_faults}
use Rattle.toml.specs.Parse.{after_element, key_equals, items as toml_items, members as toml_members, atom, val, header_key, expression, line, lines, skip_bom, parse_document}
use Rattle.toml.specs.Tables.{along_header, along_dots, at_key, define}
use Rattle.toml_parser.specs.Lexical.{skip_ws, skip_from}
use Rattle.toml_parser.specs.Numbers.{unquoted, word_len, word_value, number as toml_number, plain_number, decimal_number, underscore_fits, prefixed_integer}
use Rattle.toml_parser.specs.Strings.{hex_escape, escape_char, escape, special, body, one_line, quoted, simple_key, key_after}
use Rattle.cube_dims.proofs.worked.worked_files.Goals as goal

pub returns-clause-pay : goal.returns-clause-pay
unfolding digits is_utf8 chars lib.Utf8.encode is_name is_level_name is_measure_name toml_of dims_of dimension_of measure_of named_faults dimension_faults measure_faults after_element key_equals toml_items toml_members atom val header_key expression line lines skip_bom parse_document along_header along_dots at_key define skip_ws skip_from unquoted word_len word_value toml_number plain_number decimal_number underscore_fits prefixed_integer hex_escape escape_char escape special body one_line quoted simple_key key_after
returns-clause-pay c = refl

pub returns-clause-cut : goal.returns-clause-cut
unfolding digits is_utf8 chars lib.Utf8.encode is_name is_level_name is_measure_name toml_of dims_of dimension_of measure_of named_faults dimension_faults measure_faults after_element key_equals toml_items toml_members atom val header_key expression line lines skip_bom parse_document along_header along_dots at_key define skip_ws skip_from unquoted word_len word_value toml_number plain_number decimal_number underscore_fits prefixed_integer hex_escape escape_char escape special body one_line quoted simple_key key_after
returns-clause-cut c = refl

pub returns-clause-leaf_twice : goal.returns-clause-leaf_twice
unfolding digits is_utf8 chars lib.Utf8.encode is_name is_level_name is_measure_name toml_of dims_of dimension_of measure_of named_faults dimension_faults measure_faults after_element key_equals toml_items toml_members atom val header_key expression line lines skip_bom parse_document along_header along_dots at_key define skip_ws skip_from unquoted word_len word_value toml_number plain_number decimal_number underscore_fits prefixed_integer hex_escape escape_char escape special body one_line quoted simple_key key_after
returns-clause-leaf_twice c = refl

pub returns-clause-two_parents : goal.returns-clause-two_parents
unfolding digits is_utf8 chars lib.Utf8.encode is_name is_level_name is_measure_name toml_of dims_of dimension_of measure_of named_faults dimension_faults measure_faults after_element key_equals toml_items toml_members atom val header_key expression line lines skip_bom parse_document along_header along_dots at_key define skip_ws skip_from unquoted word_len word_value toml_number plain_number decimal_number underscore_fits prefixed_integer hex_escape escape_char escape special body one_line quoted simple_key key_after
returns-clause-two_parents c = refl

pub returns-clause-count : goal.returns-clause-count
unfolding digits is_utf8 chars lib.Utf8.encode is_name is_level_name is_measure_name toml_of dims_of dimension_of measure_of named_faults dimension_faults measure_faults after_element key_equals toml_items toml_members atom val header_key expression line lines skip_bom parse_document along_header along_dots at_key define skip_ws skip_from unquoted word_len word_value toml_number plain_number decimal_number underscore_fits prefixed_integer hex_escape escape_char escape special body one_line quoted simple_key key_after
returns-clause-count c = refl

pub returns-clause-missing : goal.returns-clause-missing
unfolding digits is_utf8 chars lib.Utf8.encode is_name is_level_name is_measure_name toml_of dims_of dimension_of measure_of named_faults dimension_faults measure_faults after_element key_equals toml_items toml_members atom val header_key expression line lines skip_bom parse_document along_header along_dots at_key define skip_ws skip_from unquoted word_len word_value toml_number plain_number decimal_number underscore_fits prefixed_integer hex_escape escape_char escape special body one_line quoted simple_key key_after
returns-clause-missing c = refl
