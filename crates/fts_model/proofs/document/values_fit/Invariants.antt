use Rattle.std.proofs.Common.{◌≡◌, drop}
use Rattle.std.specs.Slice.Iter.{iter_rest}
use Rattle.fts_model.specs.Documents.{fits_fields}
use Rattle.fts_model.proofs.document.values_fit.Given as goal

-- the values fit if those that are left fit
abbrev pub invariant-loop-number : goal.invariant-loop-number
invariant-loop-number l =
    fits_fields (iter_rest l.schema) (drop l.number l.fields) (drop l.number l.values) ≡ fits_fields l.fn.schema l.fields l.values
