-- How long values are at most, and how many documents a segment has.
use Rattle.std.specs.Prelude.{ℕ}

-- the most bytes of a text, and of a list of texts together
abbrev pub longest_text : ℕ
longest_text = 1048576

-- the most texts of a list
abbrev pub most_texts : ℕ
most_texts = 1024

-- the most bytes of a keyword
abbrev pub longest_keyword : ℕ
longest_keyword = 256

-- the most documents of a segment that is built of adds
abbrev pub most_built : ℕ
most_built = 65536

-- the most documents of a merged segment
abbrev pub most_merged : ℕ
most_merged = 1048576
