-- The limits of how a run works.
use Rattle.std.specs.Prelude.{Bool, nat_le, ◌&&◌}
use Rattle.fts_model.specs.Limits.{most_built}
use Rattle.fts_model.specs.declared.cut.Cut.{Cut}
use Rattle.fts_model.specs.declared.cut.Cut.TheVariants.{Runs, Deal}

-- whether a cut is within its limits
abbrev pub is_cut : Cut → Bool
is_cut (Runs n) = nat_le 1 n && nat_le n most_built
is_cut (Deal m) = nat_le 1 m && nat_le m 64
