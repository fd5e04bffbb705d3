-- The tests of both.
use Rattle.std.proofs.Common.{◌++◌, min, ap, ap₂, ◌∙◌}
use Rattle.std.specs.List.{filter}
use Rattle.fts_postings.specs.Sets.{has}
use Rattle.fts_postings.specs.Windows.{passing}
use Rattle.fts_sets.specs.Leaves.{is_told}
use Rattle.fts_sets.proofs.ToldLemmas.{told-both}
use Rattle.fts_sets.proofs.doc_id_set.DocIdSet.meet.Goals as goal

pub returns : goal.returns
returns c =
    let s = c.self.inside in
    let o = c.other.inside in
    ap (λ m. passing (is_told m c.append.new.self.items c.append-2.new.self.items c.append-3.new.self.items) 0 m) c.min-self-inside.ensures
    ∙ ap (λ xs. passing (is_told (min s.docs o.docs) xs c.append-2.new.self.items c.append-3.new.self.items) 0 (min s.docs o.docs)) c.in_ok-append.ensures.items
    ∙ ap₂ (λ ys zs. passing (is_told (min s.docs o.docs) (s.all.items ++ o.all.items) ys zs) 0 (min s.docs o.docs)) c.in_ok-append-2.ensures.items
    c.in_ok-append-3.ensures.items
    ∙ told-both s.docs s.all.items s.any.items s.none.items o.docs o.all.items o.any.items o.none.items
    ∙ ap₂ (λ other now. filter (has other) now) c.other.view_is c.self.view_is
