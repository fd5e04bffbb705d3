-- A JSON array that is read as a list of texts.
use Rattle.std.specs.Prelude.{ℕ, ◌+◌, ◌-◌, ◌^◌, min, length, Option, Some, None}
use Rattle.serde_json.specs.Data.{string, Items, no_items, item}

-- `n` plus the bytes of the texts of a JSON array, saturated at the greatest 64-bit number, if each item is a text
abbrev pub bytes_behind : ℕ → Items → Option ℕ
bytes_behind n no_items = Some n
bytes_behind n (item (string text) items) = bytes_behind (min (n + length text) (2 ^ 64 - 1)) items
bytes_behind n (item value items) = None
