use Rattle.std.proofs.Common.{refl}
use Rattle.std.specs.Float.Numeral.{scan_numeral}
use Rattle.std.specs.Fmt.{digits}
use Rattle.std.specs.Str.{is_utf8, chars}
use Rattle.cube_tables.specs.Tables.{toml_of}
use Rattle.cube_policy.specs.PolicyFile.{policy_of, declared_of, within_of, object_of, measure_faults, within_faults, object_faults}
use Rattle.toml.specs.Parse.{after_element, key_equals, items as toml_items, members as toml_members, atom, val, header_key, expression, line, lines, skip_bom, parse_document}
use Rattle.toml.specs.Tables.{along_header, along_dots, at_key, define}
use Rattle.toml_parser.specs.Lexical.{skip_ws, skip_from}
use Rattle.toml_parser.specs.Numbers.{unquoted, word_len, word_value, number as toml_number, plain_number, decimal_number, underscore_fits, prefixed_integer}
use Rattle.toml_parser.specs.Strings.{hex_escape, escape_char, escape, special, body, one_line, quoted, simple_key, key_after}
use Rattle.cube_policy.proofs.worked.worked_files.Goals as goal

pub returns-clause-pay : goal.returns-clause-pay
unfolding digits is_utf8 chars lib.Utf8.encode toml_of policy_of declared_of within_of object_of measure_faults within_faults object_faults after_element key_equals toml_items toml_members atom val header_key expression line lines skip_bom parse_document along_header along_dots at_key define skip_ws skip_from unquoted word_len word_value toml_number plain_number decimal_number underscore_fits prefixed_integer hex_escape escape_char escape special body one_line quoted simple_key key_after
returns-clause-pay c = refl

pub returns-clause-south : goal.returns-clause-south
unfolding digits is_utf8 chars lib.Utf8.encode toml_of policy_of declared_of within_of object_of measure_faults within_faults object_faults after_element key_equals toml_items toml_members atom val header_key expression line lines skip_bom parse_document along_header along_dots at_key define skip_ws skip_from unquoted word_len word_value toml_number plain_number decimal_number underscore_fits prefixed_integer hex_escape escape_char escape special body one_line quoted simple_key key_after
returns-clause-south c = refl

pub returns-clause-coarse : goal.returns-clause-coarse
unfolding digits is_utf8 chars lib.Utf8.encode toml_of policy_of declared_of within_of object_of measure_faults within_faults object_faults after_element key_equals toml_items toml_members atom val header_key expression line lines skip_bom parse_document along_header along_dots at_key define skip_ws skip_from unquoted word_len word_value toml_number plain_number decimal_number underscore_fits prefixed_integer hex_escape escape_char escape special body one_line quoted simple_key key_after
returns-clause-coarse c = refl

pub returns-clause-wide : goal.returns-clause-wide
unfolding digits is_utf8 chars lib.Utf8.encode toml_of policy_of declared_of within_of object_of measure_faults within_faults object_faults after_element key_equals toml_items toml_members atom val header_key expression line lines skip_bom parse_document along_header along_dots at_key define skip_ws skip_from unquoted word_len word_value toml_number plain_number decimal_number underscore_fits prefixed_integer hex_escape escape_char escape special body one_line quoted simple_key key_after
returns-clause-wide c = refl

pub returns-clause-unnamed : goal.returns-clause-unnamed
unfolding digits is_utf8 chars lib.Utf8.encode toml_of policy_of declared_of within_of object_of measure_faults within_faults object_faults after_element key_equals toml_items toml_members atom val header_key expression line lines skip_bom parse_document along_header along_dots at_key define skip_ws skip_from unquoted word_len word_value toml_number plain_number decimal_number underscore_fits prefixed_integer hex_escape escape_char escape special body one_line quoted simple_key key_after
returns-clause-unnamed c = refl

pub returns-clause-method : goal.returns-clause-method
unfolding digits is_utf8 chars lib.Utf8.encode toml_of policy_of declared_of within_of object_of measure_faults within_faults object_faults after_element key_equals toml_items toml_members atom val header_key expression line lines skip_bom parse_document along_header along_dots at_key define skip_ws skip_from unquoted word_len word_value toml_number plain_number decimal_number underscore_fits prefixed_integer hex_escape escape_char escape special body one_line quoted simple_key key_after
returns-clause-method c = refl

pub returns-clause-twice : goal.returns-clause-twice
unfolding digits is_utf8 chars lib.Utf8.encode toml_of policy_of declared_of within_of object_of measure_faults within_faults object_faults after_element key_equals toml_items toml_members atom val header_key expression line lines skip_bom parse_document along_header along_dots at_key define skip_ws skip_from unquoted word_len word_value toml_number plain_number decimal_number underscore_fits prefixed_integer hex_escape escape_char escape special body one_line quoted simple_key key_after
returns-clause-twice c = refl

pub returns-clause-member : goal.returns-clause-member
unfolding digits is_utf8 chars lib.Utf8.encode toml_of policy_of declared_of within_of object_of measure_faults within_faults object_faults after_element key_equals toml_items toml_members atom val header_key expression line lines skip_bom parse_document along_header along_dots at_key define skip_ws skip_from unquoted word_len word_value toml_number plain_number decimal_number underscore_fits prefixed_integer hex_escape escape_char escape special body one_line quoted simple_key key_after
returns-clause-member c = refl

pub returns-clause-key : goal.returns-clause-key
unfolding digits is_utf8 chars lib.Utf8.encode toml_of policy_of declared_of within_of object_of measure_faults within_faults object_faults after_element key_equals toml_items toml_members atom val header_key expression line lines skip_bom parse_document along_header along_dots at_key define skip_ws skip_from unquoted word_len word_value toml_number plain_number decimal_number underscore_fits prefixed_integer hex_escape escape_char escape special body one_line quoted simple_key key_after
returns-clause-key c = refl

pub returns-clause-few : goal.returns-clause-few
unfolding digits scan_numeral is_utf8 chars lib.Utf8.encode toml_of policy_of declared_of within_of object_of measure_faults within_faults object_faults after_element key_equals toml_items toml_members atom val header_key expression line lines skip_bom parse_document along_header along_dots at_key define skip_ws skip_from unquoted word_len word_value toml_number plain_number decimal_number underscore_fits prefixed_integer hex_escape escape_char escape special body one_line quoted simple_key key_after
returns-clause-few c = refl

pub returns-clause-few_kind : goal.returns-clause-few_kind
unfolding digits is_utf8 chars lib.Utf8.encode toml_of policy_of declared_of within_of object_of measure_faults within_faults object_faults after_element key_equals toml_items toml_members atom val header_key expression line lines skip_bom parse_document along_header along_dots at_key define skip_ws skip_from unquoted word_len word_value toml_number plain_number decimal_number underscore_fits prefixed_integer hex_escape escape_char escape special body one_line quoted simple_key key_after
returns-clause-few_kind c = refl

pub returns-clause-few_low : goal.returns-clause-few_low
unfolding digits scan_numeral is_utf8 chars lib.Utf8.encode toml_of policy_of declared_of within_of object_of measure_faults within_faults object_faults after_element key_equals toml_items toml_members atom val header_key expression line lines skip_bom parse_document along_header along_dots at_key define skip_ws skip_from unquoted word_len word_value toml_number plain_number decimal_number underscore_fits prefixed_integer hex_escape escape_char escape special body one_line quoted simple_key key_after
returns-clause-few_low c = refl

pub returns-clause-few_high : goal.returns-clause-few_high
unfolding digits scan_numeral is_utf8 chars lib.Utf8.encode toml_of policy_of declared_of within_of object_of measure_faults within_faults object_faults after_element key_equals toml_items toml_members atom val header_key expression line lines skip_bom parse_document along_header along_dots at_key define skip_ws skip_from unquoted word_len word_value toml_number plain_number decimal_number underscore_fits prefixed_integer hex_escape escape_char escape special body one_line quoted simple_key key_after
returns-clause-few_high c = refl

pub returns-clause-few_below : goal.returns-clause-few_below
unfolding digits scan_numeral is_utf8 chars lib.Utf8.encode toml_of policy_of declared_of within_of object_of measure_faults within_faults object_faults after_element key_equals toml_items toml_members atom val header_key expression line lines skip_bom parse_document along_header along_dots at_key define skip_ws skip_from unquoted word_len word_value toml_number plain_number decimal_number underscore_fits prefixed_integer hex_escape escape_char escape special body one_line quoted simple_key key_after
returns-clause-few_below c = refl

pub returns-clause-few_coarse : goal.returns-clause-few_coarse
unfolding digits scan_numeral is_utf8 chars lib.Utf8.encode toml_of policy_of declared_of within_of object_of measure_faults within_faults object_faults after_element key_equals toml_items toml_members atom val header_key expression line lines skip_bom parse_document along_header along_dots at_key define skip_ws skip_from unquoted word_len word_value toml_number plain_number decimal_number underscore_fits prefixed_integer hex_escape escape_char escape special body one_line quoted simple_key key_after
returns-clause-few_coarse c = refl
