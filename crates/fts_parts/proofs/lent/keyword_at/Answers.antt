use Rattle.std.proofs.Common.{refl, ap, ◌∙◌}
use Rattle.fts_segment.specs.Segments.{keywords}
use Rattle.fts_parts.proofs.KeptLemmas.{keyword_read}
use Rattle.fts_parts.proofs.lent.keyword_at.Goals as goal

pub returns : goal.returns
returns c =
    ap (λ (b : _). b.now) c.unwrap_or.ensures
    ∙ keyword_read (keywords c.args.segment.now c.args.field) c.args.ordinal c.keyword.result _ c.keyword.ensures refl
