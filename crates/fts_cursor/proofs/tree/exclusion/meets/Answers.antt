-- What it begins with, or once sought begins with, tells whether it has the document.
use Rattle.std.proofs.Common.{sym, ◌∙◌}
use Rattle.fts_postings.proofs.SetLemmas.{has-before_first, has-none}
use Rattle.fts_cursor.proofs.ExclusionLemmas.{has_met}
use Rattle.fts_cursor.proofs.PartsLemmas.{Narrowed-seek}
use Rattle.fts_cursor.proofs.tree.exclusion.meets.Goals as goal

pub returns-in-Some-clause-met : goal.returns-in-Some-clause-met
returns-in-Some-clause-met c = has_met c.is_at.result c.doc-in-Some.result c.seek.new.self.remaining c.args.dropped.now.remaining c.args.doc c.is_at.ensures
    c.doc-in-Some.ensures.first c.seek.ensures.remaining c.doc-in-Some.ensures.rises

pub returns-in-Some-clause-narrowed : goal.returns-in-Some-clause-narrowed
returns-in-Some-clause-narrowed c = Narrowed-seek c.args.doc c.args.dropped.now c.seek.new.self c.seek.ensures.remaining c.seek.ensures.continues

pub returns-in_default-clause-met : goal.returns-in_default-clause-met
returns-in_default-clause-met c =
    sym (has-before_first c.args.dropped.now.remaining c.in-Some.first c.args.doc c.doc.ensures.rises (sym c.in-Some.is ∙ c.doc.ensures.first) c.if-first-doc.false)

pub returns-in_default-2-clause-met : goal.returns-in_default-2-clause-met
returns-in_default-2-clause-met c = sym (has-none c.args.dropped.now.remaining c.args.doc (sym c.in_default.is ∙ c.doc.ensures.first))
