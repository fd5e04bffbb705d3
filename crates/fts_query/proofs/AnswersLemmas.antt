-- A text has one outcome, and reading from the left finds it.
use Rattle.std.proofs.Common.{◌≡◌, ◌⊎◌, ℕ, true, false, List, [], ◌∷◌, length, subst, Option, Some, None, Result, Ok, Err, refl, sym, ap, ◌∙◌, arith, inl, inr}
use Rattle.std.proofs.Common.{ltb}
use Rattle.std.specs.Str.{chars}
use Rattle.std.specs.List.{list_all}
use Rattle.std.proofs.lemmas.Bool.{cases_Bool, ltb-true, ltb-false, le-ltb, lt-ltb, false_from_ne_true}
use Rattle.fts_model.specs.declared.schema.Field.{Field}
use Rattle.fts_base.specs.declared.refusal.Refusal.{Refusal}
use Rattle.fts_base.specs.declared.refusal.Refusal.TheVariants.{Memory, TooLong, Syntax, TooDeep, UnknownField, BadNumber, RangeOnText, NoDefaultField}
use Rattle.fts_base.specs.declared.refusal.Refusal.TheVariants.{AllNegative}
use Rattle.fts_model.specs.declared.query.Query.{Query}
use Rattle.std.specs.Prelude.{IfOk, IfErr}
use Rattle.fts_query.specs.declared.depth.Quoting.TheVariants.{Outside}
use Rattle.fts_model.specs.QueryValues.{QueryValue, nothing, query_value}
use Rattle.fts_query.specs.Meanings.{Meaning}
use Rattle.fts_query.specs.Grammar.{is_space, IsBlank, IsQuery}
use Rattle.fts_query.specs.Outcomes.{is_too_deep, IsFit, Reads, without_byte}
use Rattle.fts_query.specs.Reading.{query_of, skip_while}
use Rattle.fts_query.specs.Answers.{outcome_of, answer_from, answer_fit, answer, IsAnswer}
use Rattle.fts_model.specs.Queries.{query_fits}
use Rattle.fts_query.proofs.MeaningsFit.{query_meaning_fits}
use Rattle.fts_query.proofs.ReadingToGrammar.{read_is_query}
use Rattle.fts_query.proofs.GrammarToReading.{query_is_read, no_query_is_blank}
use Rattle.fts_query.proofs.ReadingLemmas.{length-chars, skip_while_more, skip_while_stop}
use Rattle.fts_query.specs.declared.error.QueryError.TheVariants as errors

module _ (schema : List Field) (text : List ℕ) where
  -- the answer for a fit text is its reading
  answer_is_read : IsFit text → (IsBlank (chars text) → ⊥) → answer schema text ≡ answer_from (query_of schema 4096 (chars text))
  unfolding answer
  answer_is_read f b =
      let a : ltb 4096 (length text) ≡ false = le-ltb _ _ f.short in
      let d : is_too_deep Outside 0 (chars text) ≡ false = f.shallow in
      let c : list_all is_space (chars text) ≡ false = false_from_ne_true _ b in
      rw (a, d, c) refl

  -- a fit query is read
  read_fit : (m : Meaning) → IsFit text → IsQuery schema (chars text) m → query_of schema 4096 (chars text) ≡ Some m
  read_fit m f q = query_is_read 4096 q (omega (arith, length-chars text, f.short))

  -- the answer for a query is its outcome
  answer_query : (m : Meaning) → IsFit text → IsQuery schema (chars text) m → answer schema text ≡ outcome_of m
  answer_query m f q = answer_is_read f (no_query_is_blank q) ∙ ap answer_from (read_fit m f q)

  -- no query is a syntax error
  none_from : (o : Option Meaning) → query_of schema 4096 (chars text) ≡ o → ((m : Meaning) → IsQuery schema (chars text) m → ⊥) →
      answer_from o ≡ Err (Syntax 0)
  none_from None e h = refl
  none_from (Some m) e h = absurd (h m (read_is_query schema 4096 (chars text) m e))

  -- each outcome is the answer
  pub reads_answer : (x : Result QueryValue Refusal) → Reads schema text x → without_byte x ≡ answer schema text
  unfolding answer
  reads_answer (Err TooLong) h = let a : ltb 4096 (length text) ≡ true = lt-ltb _ _ h in rw a refl
  reads_answer (Err TooDeep) h =
      let a : ltb 4096 (length text) ≡ false = le-ltb _ _ h.0 in
      let d : is_too_deep Outside 0 (chars text) ≡ true = h.1 in
      rw (a, d) refl
  reads_answer (Err (Syntax byte)) h = sym (answer_is_read h.0 h.1 ∙ none_from _ refl h.2)
  reads_answer (Err UnknownField) h = sym (answer_query (Err errors.UnknownField) h.0 h.1)
  reads_answer (Err BadNumber) h = sym (answer_query (Err errors.BadNumber) h.0 h.1)
  reads_answer (Err RangeOnText) h = sym (answer_query (Err errors.RangeOnText) h.0 h.1)
  reads_answer (Err NoDefaultField) h = sym (answer_query (Err errors.NoDefaultField) h.0 h.1)
  reads_answer (Err AllNegative) h = sym (answer_query (Err errors.AllNegative) h.0 h.1)
  reads_answer (Ok q) (f, inr h) = sym (answer_query (Ok q) f h)
  reads_answer (Ok q) (f, inl h) =
      let a : ltb 4096 (length text) ≡ false = le-ltb _ _ f.short in
      let d : is_too_deep Outside 0 (chars text) ≡ false = f.shallow in
      let c : list_all is_space (chars text) ≡ true = h.0 in
      let e : q ≡ nothing = h.1 in
      rw (a, d, c) (ap (λ (x : QueryValue). Ok x) e)
  reads_answer (Err refusal) h = absurd h

  -- a reading is an outcome
  reads_from : (o : Option Meaning) → query_of schema 4096 (chars text) ≡ o → IsFit text → (IsBlank (chars text) → ⊥) → Reads schema text (answer_from o)
  reads_from None e f b = (f, b, λ m q. absurd (let k = read_fit m f q in cc))
  reads_from (Some (Ok q)) e f b = (f, inr (read_is_query schema _ _ (Ok q) e))
  reads_from (Some (Err errors.UnknownField)) e f b = (f, read_is_query schema _ _ (Err errors.UnknownField) e)
  reads_from (Some (Err errors.BadNumber)) e f b = (f, read_is_query schema _ _ (Err errors.BadNumber) e)
  reads_from (Some (Err errors.RangeOnText)) e f b = (f, read_is_query schema _ _ (Err errors.RangeOnText) e)
  reads_from (Some (Err errors.NoDefaultField)) e f b = (f, read_is_query schema _ _ (Err errors.NoDefaultField) e)
  reads_from (Some (Err errors.AllNegative)) e f b = (f, read_is_query schema _ _ (Err errors.AllNegative) e)

  -- the answer is an outcome
  pub answer_reads : Reads schema text (answer schema text)
  unfolding answer
  answer_reads =
      elim (cases_Bool (ltb 4096 (length text))) [
        | inl a ↦ rw a (ltb-true _ _ a)
        | inr a ↦ elim (cases_Bool (is_too_deep Outside 0 (chars text))) [
          | inl d ↦ rw (a, d) (ltb-false _ _ a, d)
          | inr d ↦
              let f : IsFit text = record { short = ltb-false _ _ a; shallow = d } in
              elim (cases_Bool (list_all is_space (chars text))) [
                | inl c ↦ rw (a, d, c) (f, inl (c, refl))
                | inr c ↦ rw (a, d, c) (reads_from _ refl f (λ k. absurd (let e = c in cc)))
              ]
        ]
      ]

  -- two outcomes of a text are equal
  pub one_outcome : (x y : Result QueryValue Refusal) → Reads schema text x → Reads schema text y → without_byte x ≡ without_byte y
  one_outcome x y h k = reads_answer x h ∙ sym (reads_answer y k)

-- nothing is left after only white space
pub blank_skips : (s t : List ℕ) → skip_while is_space s ≡ t → t ≡ [] → list_all is_space s ≡ true
unfolding skip_while
blank_skips [] t e f = refl
blank_skips (c ∷ s) t e f =
    elim (cases_Bool (is_space c)) [
      | inl k ↦ let h = sym (skip_while_more is_space (c ∷ s) s c refl k) ∙ e in rw k (blank_skips s t h f)
      | inr k ↦ absurd (let h : c ∷ s ≡ t = sym (skip_while_stop is_space (c ∷ s) s c refl k) ∙ e in cc)
    ]

-- something is left after white space and a further character
pub no_blank_skips : (s t u : List ℕ) (c : ℕ) → skip_while is_space s ≡ t → t ≡ c ∷ u → list_all is_space s ≡ false
unfolding skip_while
no_blank_skips [] t u c e f = absurd (let h = e in cc)
no_blank_skips (d ∷ s) t u c e f =
    elim (cases_Bool (is_space d)) [
      | inl k ↦ let h = sym (skip_while_more is_space (d ∷ s) s d refl k) ∙ e in rw k (no_blank_skips s t u c h f)
      | inr k ↦ rw k refl
    ]

-- the query of a text fits the schema
reads_fits : (schema : List Field) (text : List ℕ) (q : QueryValue) → Reads schema text (Ok q) → query_fits schema q ≡ true
reads_fits schema text q (f, inl h) = subst (λ (x : QueryValue). query_fits schema x ≡ true) (sym h.1) refl
reads_fits schema text q (f, inr h) = query_meaning_fits schema h

module _ (schema : List Field) (text : List ℕ) (f : IsFit text) where
  -- the answer for a fit text
  fit_answer : answer schema text ≡ answer_fit schema (chars text)
  unfolding answer
  fit_answer =
      let a : ltb 4096 (length text) ≡ false = le-ltb _ _ f.short in
      let d : is_too_deep Outside 0 (chars text) ≡ false = f.shallow in
      rw (a, d) refl

  -- the answer for a fit text is its outcome
  outcome_reads : (x : Result QueryValue Refusal) → answer_fit schema (chars text) ≡ x → Reads schema text x
  outcome_reads x e = subst (λ (o : Result QueryValue Refusal). Reads schema text o) (fit_answer ∙ e) (answer_reads schema text)

  -- a query that is returned is the outcome
  pub answered : (r : Result Query Refusal) → IsAnswer r (answer_fit schema (chars text)) → IfOk r (λ q. Reads schema text (Ok (query_value q)))
  answered (Ok q) h = outcome_reads (Ok (query_value q)) h
  answered (Err e) h = tt

  -- a refusal that is returned is the outcome, unless memory ran out
  pub refused : (r : Result Query Refusal) → IsAnswer r (answer_fit schema (chars text)) → IfErr r (λ e. (e ≡ Memory) ⊎ Reads schema text (Err e))
  refused (Ok q) h = tt
  refused (Err Memory) h = inl refl
  refused (Err (Syntax byte)) h = inr (outcome_reads (Err (Syntax 0)) h)
  refused (Err e) h = inr (outcome_reads (Err e) h)

  -- a query that is returned fits the schema
  pub fitted : (r : Result Query Refusal) → IsAnswer r (answer_fit schema (chars text)) → IfOk r (λ q. query_fits schema (query_value q) ≡ true)
  fitted (Ok q) h = reads_fits schema text (query_value q) (outcome_reads (Ok (query_value q)) h)
  fitted (Err e) h = tt
