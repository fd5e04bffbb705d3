use Rattle.std.proofs.Common.{◌<◌, ◌∙◌, [], Some, ap, sym, length, arith}
use Rattle.std.proofs.lemmas.Bool.Decides.{Decides-eqb}
use Rattle.std.proofs.lemmas.Option.{slice_get-get_or}
use Rattle.std.proofs.lemmas.Slice.Eq.{slice_eq-Decides}
use Rattle.fts_segment.proofs.id_cache.is_named.Goals as goal

pub returns-then-number-len : goal.returns-then-number-len
returns-then-number-len c = λ h.
    let within : c.args.number < length c.args.names.now = omega (arith, c.if-number-len.true, c.len.ensures) in
    slice_get-get_or c.args.names.now c.args.number [] within
    ∙ ap Some (sym c.get.ensures ∙ (slice_eq-Decides Decides-eqb _ _ c.eq.result c.eq.ensures).0 h)
