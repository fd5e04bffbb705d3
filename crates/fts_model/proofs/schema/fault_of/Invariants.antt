use Rattle.std.proofs.Common.{◌≡◌, [], take, drop}
use Rattle.fts_model.specs.Schemas.{first_fault}
use Rattle.fts_model.proofs.schema.fault_of.Given as goal

-- the fault of the fields is that of those that are left
abbrev pub invariant-loop-i : goal.invariant-loop-i
invariant-loop-i l = first_fault [] l.fields ≡ first_fault (take l.i l.fields) (drop l.i l.fields)
