-- What the codes say of a line.
use Rattle.std.specs.Prelude.{◌≡◌, ◌<◌, ◌≤◌, ◌⊎◌, ◌↔◌, ◌^◌, ℕ, ℤ, List, length}
use Rattle.fts_script.specs.command.Commands.{longest}
use Rattle.fts_script.specs.session.Outputs.{SessionValue}
use Rattle.fts_c.specs.declared.codes.TheConstants.{OK, MEMORY, LINE_TOO_LONG, USED_UP}

-- a line that is tried: it isn't longer than a line may be, and there were fewer than 2^61 lines
pub record IsTried (s : SessionValue) (line : List ℕ) : Type 0 where
  pub fits_line : length line ≤ longest
  pub lines_left : s.number < 2 ^ 61

-- what was tried was done, or memory was refused
abbrev pub IsOfTried : ℤ → Type 0
IsOfTried code = (code ≡ OK) ⊎ (code ≡ MEMORY)

-- a line has this code: that of its fault exactly if it has one, and one of what was tried exactly if it has none
pub record IsCodeOf (s : SessionValue) (line : List ℕ) (code : ℤ) : Type 0 where
  pub line_too_long : (code ≡ LINE_TOO_LONG) ↔ (longest < length line)
  pub used_up : (code ≡ USED_UP) ↔ ((length line ≤ longest) × (2 ^ 61 ≤ s.number))
  pub tried : IsOfTried code ↔ IsTried s line

-- a line isn't tried, and has this code
pub record IsFault (s : SessionValue) (line : List ℕ) (code : ℤ) : Type 0 where
  pub code_is : IsCodeOf s line code
  pub untried : IsTried s line → ⊥
