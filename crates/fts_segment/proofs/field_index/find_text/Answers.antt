use Rattle.std.proofs.Common.{Some, ap, inl, inr, sym, ◌∙◌}
use Rattle.fts_segment.proofs.FieldLemmas.{if_none, if_some, text_absent, text_found, text_without, texts_without}
use Rattle.fts_segment.proofs.TermPositionsLemmas.{position_lists_found}
use Rattle.fts_segment.proofs.field_index.find_text.Goals as goal

pub returns-in-Text-clause-none : goal.returns-in-Text-clause-none
returns-in-Text-clause-none c vs a =
    rw c.in-Text.is (if_none _ c.find.result c.find.ensures
    (λ absent. text_absent c.in-Text.text a (λ i found. absent i (found ∙ ap Some (sym c.as_str.ensures)))))

pub returns-in-Text-clause-some : goal.returns-in-Text-clause-some
returns-in-Text-clause-some c = if_some _ _ _ c.find.result c.find.ensures (λ list found. λ none.
    (text_found c.in-Text.text found.0 c.requires.1 (found.1 ∙ ap Some c.as_str.ensures)).1 (sym found.2 ∙ none))

pub returns-in-Text-clause-documents : goal.returns-in-Text-clause-documents
returns-in-Text-clause-documents c vs a = rw c.in-Text.is (if_some _ _ _ c.find.result c.find.ensures (λ list found.
    found.2 ∙ (text_found c.in-Text.text found.0 a (found.1 ∙ ap Some c.as_str.ensures)).0))

pub returns-in-Text-clause-positions : goal.returns-in-Text-clause-positions
returns-in-Text-clause-positions c vs a = rw c.in-Text.is (if_some _ _ _ c.find.result c.find.ensures (λ list found.
    found.3 ∙ position_lists_found c.in-Text.text found.0 a (found.1 ∙ ap Some c.as_str.ensures)))

pub returns-in-Texts-clause-none : goal.returns-in-Texts-clause-none
returns-in-Texts-clause-none c vs a = elim c.in-Texts.is [
  | inl texts ↦ rw texts.1 (texts_without c.args.kind vs texts.0)
  | inr number ↦ rw number.1 (text_without number.0 a)
]
