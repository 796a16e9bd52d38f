use Rattle.std.proofs.Common.{refl}
use Rattle.std.specs.Fmt.{digits}
use Rattle.std.specs.Str.{is_utf8, chars}
use Rattle.cube_tables.specs.Tables.{toml_of}
use Rattle.cube_groups.specs.GroupsFile.{groups_of, group_of, group_faults}
use Rattle.toml.specs.Parse.{after_element, key_equals, items as toml_items, members as toml_members, atom, val, header_key, expression, line, lines, skip_bom, parse_document}
use Rattle.toml.specs.Tables.{along_header, along_dots, at_key, define}
use Rattle.toml_parser.specs.Lexical.{skip_ws, skip_from}
use Rattle.toml_parser.specs.Numbers.{unquoted, word_len, word_value, number as toml_number, plain_number, decimal_number, underscore_fits, prefixed_integer}
use Rattle.toml_parser.specs.Strings.{hex_escape, escape_char, escape, special, body, one_line, quoted, simple_key, key_after}
use Rattle.cube_groups.proofs.worked.worked_files.Goals as goal

pub returns-clause-two : goal.returns-clause-two
unfolding digits is_utf8 chars lib.Utf8.encode toml_of groups_of group_of group_faults after_element key_equals toml_items toml_members atom val header_key expression line lines skip_bom parse_document along_header along_dots at_key define skip_ws skip_from unquoted word_len word_value toml_number plain_number decimal_number underscore_fits prefixed_integer hex_escape escape_char escape special body one_line quoted simple_key key_after
returns-clause-two c = refl

pub returns-clause-cut : goal.returns-clause-cut
unfolding digits is_utf8 chars lib.Utf8.encode toml_of groups_of group_of group_faults after_element key_equals toml_items toml_members atom val header_key expression line lines skip_bom parse_document along_header along_dots at_key define skip_ws skip_from unquoted word_len word_value toml_number plain_number decimal_number underscore_fits prefixed_integer hex_escape escape_char escape special body one_line quoted simple_key key_after
returns-clause-cut c = refl

pub returns-clause-none : goal.returns-clause-none
unfolding digits is_utf8 chars lib.Utf8.encode toml_of groups_of group_of group_faults after_element key_equals toml_items toml_members atom val header_key expression line lines skip_bom parse_document along_header along_dots at_key define skip_ws skip_from unquoted word_len word_value toml_number plain_number decimal_number underscore_fits prefixed_integer hex_escape escape_char escape special body one_line quoted simple_key key_after
returns-clause-none c = refl

pub returns-clause-empty : goal.returns-clause-empty
unfolding digits is_utf8 chars lib.Utf8.encode toml_of groups_of group_of group_faults after_element key_equals toml_items toml_members atom val header_key expression line lines skip_bom parse_document along_header along_dots at_key define skip_ws skip_from unquoted word_len word_value toml_number plain_number decimal_number underscore_fits prefixed_integer hex_escape escape_char escape special body one_line quoted simple_key key_after
returns-clause-empty c = refl

pub returns-clause-kind : goal.returns-clause-kind
unfolding digits is_utf8 chars lib.Utf8.encode toml_of groups_of group_of group_faults after_element key_equals toml_items toml_members atom val header_key expression line lines skip_bom parse_document along_header along_dots at_key define skip_ws skip_from unquoted word_len word_value toml_number plain_number decimal_number underscore_fits prefixed_integer hex_escape escape_char escape special body one_line quoted simple_key key_after
returns-clause-kind c = refl

pub returns-clause-many : goal.returns-clause-many
unfolding digits is_utf8 chars lib.Utf8.encode toml_of groups_of group_of group_faults after_element key_equals toml_items toml_members atom val header_key expression line lines skip_bom parse_document along_header along_dots at_key define skip_ws skip_from unquoted word_len word_value toml_number plain_number decimal_number underscore_fits prefixed_integer hex_escape escape_char escape special body one_line quoted simple_key key_after
returns-clause-many c = refl

pub returns-clause-policy : goal.returns-clause-policy
unfolding digits is_utf8 chars lib.Utf8.encode toml_of groups_of group_of group_faults after_element key_equals toml_items toml_members atom val header_key expression line lines skip_bom parse_document along_header along_dots at_key define skip_ws skip_from unquoted word_len word_value toml_number plain_number decimal_number underscore_fits prefixed_integer hex_escape escape_char escape special body one_line quoted simple_key key_after
returns-clause-policy c = refl

pub returns-clause-name : goal.returns-clause-name
unfolding digits is_utf8 chars lib.Utf8.encode toml_of groups_of group_of group_faults after_element key_equals toml_items toml_members atom val header_key expression line lines skip_bom parse_document along_header along_dots at_key define skip_ws skip_from unquoted word_len word_value toml_number plain_number decimal_number underscore_fits prefixed_integer hex_escape escape_char escape special body one_line quoted simple_key key_after
returns-clause-name c = refl

pub returns-clause-form : goal.returns-clause-form
unfolding digits is_utf8 chars lib.Utf8.encode toml_of groups_of group_of group_faults after_element key_equals toml_items toml_members atom val header_key expression line lines skip_bom parse_document along_header along_dots at_key define skip_ws skip_from unquoted word_len word_value toml_number plain_number decimal_number underscore_fits prefixed_integer hex_escape escape_char escape special body one_line quoted simple_key key_after
returns-clause-form c = refl

pub returns-clause-twice : goal.returns-clause-twice
unfolding digits is_utf8 chars lib.Utf8.encode toml_of groups_of group_of group_faults after_element key_equals toml_items toml_members atom val header_key expression line lines skip_bom parse_document along_header along_dots at_key define skip_ws skip_from unquoted word_len word_value toml_number plain_number decimal_number underscore_fits prefixed_integer hex_escape escape_char escape special body one_line quoted simple_key key_after
returns-clause-twice c = refl
