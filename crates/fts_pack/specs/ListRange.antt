-- The view that contracts have of consecutive lists among others.
use Rattle.std.specs.Prelude.{ℕ, List, slice_range}
use Rattle.fts_pack.specs.declared.list_range.ListRange.{ListRange}

-- the lists
abbrev pub lists_in_range : ListRange → List (List ℕ)
lists_in_range range = slice_range range.lists.now range.start range.end
