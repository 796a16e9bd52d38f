-- What a name is: the name of a dimension, a level, a member, a measure or a column, and of a group.
use Rattle.std.specs.Prelude.{ℕ, Bool, not, ◌&&◌, ◌||◌, ◌==◌, nat_eq, nat_lt, nat_le, List, [], ◌∷◌, length, codes}
use Rattle.std.specs.List.{list_all, list_any, starts_with}
use Rattle.std.specs.Char.{is_ascii_alphanumeric}
use Rattle.std.specs.Str.{is_utf8, bytes_eq}

-- a byte below 0x20, or 0x7F
abbrev pub is_control : ℕ → Bool
is_control b = nat_lt b 32 || b == 127

-- the text begins with a byte order mark
abbrev pub begins_with_mark : List ℕ → Bool
begins_with_mark text = starts_with nat_eq text (0xEF ∷ 0xBB ∷ 0xBF ∷ [])

-- a name: UTF-8 of 1 to 128 bytes, without control bytes, and without a mark at its front
unfoldable pub is_name : List ℕ → Bool
is_name text =
    is_utf8 text
    && nat_le 1 (length text)
    && nat_le (length text) 128
    && not (list_any is_control text)
    && not (begins_with_mark text)

-- the name of a level: `all` is the level above the named ones
unfoldable pub is_level_name : List ℕ → Bool
is_level_name text = is_name text && not (bytes_eq text (codes "all"))

-- the name of a measure: `count` is the number of facts
unfoldable pub is_measure_name : List ℕ → Bool
is_measure_name text = is_name text && not (bytes_eq text (codes "count"))

abbrev pub is_name_byte : ℕ → Bool
is_name_byte b = is_ascii_alphanumeric b || b == 95 || b == 45

-- the name of a group: 1 to 32 ASCII letters, digits, `_` or `-`
abbrev pub is_group_name : List ℕ → Bool
is_group_name name = nat_lt 0 (length name) && nat_le (length name) 32 && list_all is_name_byte name
