use Rattle.std.proofs.Common.{refl, subst}
use Rattle.fts_segment.specs.declared.field_index.FieldIndex.{FieldIndex}
use Rattle.fts_segment.specs.FieldIndexes.{IsFieldIndex}
use Rattle.fts_segment.proofs.OrderedLemmas.{IsOrdered-keywords, IsOrdered-numbers}
use Rattle.fts_segment.proofs.field_index.FieldIndex.ordered.Goals as goal

pub returns-in-Keywords : goal.returns-in-Keywords
returns-in-Keywords c vs is =
    let P : FieldIndex → Type 0 = IsFieldIndex c.args.kind vs in
    IsOrdered-keywords c.args.kind vs _ _ (subst P c.in-Keywords.is is) refl refl refl

pub returns-in-Numbers : goal.returns-in-Numbers
returns-in-Numbers c vs is =
    let P : FieldIndex → Type 0 = IsFieldIndex c.args.kind vs in
    IsOrdered-numbers c.args.kind vs _ _ _ (subst P c.in-Numbers.is is) refl refl c.as_slice.ensures.value refl
