use Rattle.std.proofs.Common.{◌≡◌, ◌⊎◌, sym, ap, inl, inr, List, ℕ, Ok, Err}
use Rattle.fts_base.specs.declared.refusal.Refusal.{Refusal}
use Rattle.fts_base.specs.declared.refusal.Refusal.TheVariants.{Memory}
use Rattle.fts_model.specs.declared.schema.Field.{Field}
use Rattle.fts_model.specs.QueryValues.{query_value}
use Rattle.fts_query.specs.Outcomes.{Reads, refusal_without_byte}
use Rattle.fts_query.specs.Answers.{answer}
use Rattle.fts_query.proofs.AnswersLemmas.{reads_answer}
use Rattle.fts_script.proofs.session.search.query_of.Goals as goal

pub returns-in-Ok-clause-query : goal.returns-in-Ok-clause-query
returns-in-Ok-clause-query c = sym (reads_answer c.args.schema.now c.args.text.now (Ok (query_value c.in-Ok.query)) c.in-Ok.ensures.reads)

cause : (schema : List Field) (text : List ℕ) (r : Refusal) → (r ≡ Memory) ⊎ Reads schema text (Err r) →
    (refusal_without_byte r ≡ Memory) ⊎ (answer schema text ≡ Err (refusal_without_byte r))
cause schema text r (inl e) = inl (ap refusal_without_byte e)
cause schema text r (inr h) = inr (sym (reads_answer schema text (Err r) h))

pub returns-in-Err-clause-query : goal.returns-in-Err-clause-query
returns-in-Err-clause-query c = rw c.without_byte.ensures (cause c.args.schema.now c.args.text.now c.in-Err.refusal c.in-Err.ensures.refused)
