-- Whether a text is in the grammar doesn't depend on the schema.
use Rattle.std.proofs.Common.{◌≡◌, ◌⊎◌, ◌≤◌, ℕ, List, ◌∷◌, [], length, Option, None, Result, Ok, Err, refl, sym, subst, inl, inr}
use Rattle.std.specs.Prelude.{IfOk}
use Rattle.std.specs.Str.{encode_utf8_all}
use Rattle.fts_model.specs.declared.schema.Field.{Field}
use Rattle.fts_base.specs.declared.refusal.Refusal.{Refusal}
use Rattle.fts_base.specs.declared.refusal.Refusal.TheVariants.{Memory, Syntax}
use Rattle.fts_model.specs.QueryValues.{QueryValue, every}
use Rattle.fts_query.specs.Meanings.{Meaning, Factor, list_meaning, literal_anywhere, field_meaning}
use Rattle.fts_query.specs.Grammar.{IsUnit, IsFactor, IsConjunction, IsDisjunction, IsList, IsQuery}
use Rattle.fts_query.specs.Outcomes.{IsByteOf, Reads, TellsSyntax, byte_of, without_byte}
use Rattle.fts_query.proofs.AnswersLemmas.{one_outcome}
use Rattle.fts_query.specs.Grammar

module _ (s t : List Field) where
  mutual
    unit_of_another : {w : List ℕ} {m : Meaning} → IsUnit s w m → (n : Meaning) × IsUnit t w n
    unit_of_another (Grammar.group v x w ds a l b) = let k = list_of_another l in (list_meaning k.0, Grammar.group v x w k.0 a k.1 b)
    unit_of_another Grammar.all = (Ok every, Grammar.all)
    unit_of_another (Grammar.bare {w = w} b) = (literal_anywhere t (encode_utf8_all w), Grammar.bare b)
    unit_of_another (Grammar.quoted text) = (literal_anywhere t (encode_utf8_all text), Grammar.quoted text)
    unit_of_another (Grammar.field w x {v = v} b h) = (field_meaning t (encode_utf8_all w) v, Grammar.field w x b h)

    factor_of_another : {w : List ℕ} {f : Factor} → IsFactor s w f → (g : Factor) × IsFactor t w g
    factor_of_another (Grammar.factor v x {modifier = k} a u) = let n = unit_of_another u in ((k, n.0), Grammar.factor v x a n.1)

    conjunction_of_another : {w : List ℕ} {fs : List Factor} → IsConjunction s w fs → (gs : List Factor) × IsConjunction t w gs
    conjunction_of_another (Grammar.one f) = let g = factor_of_another f in (g.0 ∷ [], Grammar.one g.1)
    conjunction_of_another (Grammar.both x w y f o fs) = let g = factor_of_another f in let gs = conjunction_of_another fs in
        (g.0 ∷ gs.0, Grammar.both x w y g.1 o gs.1)

    disjunction_of_another : {w : List ℕ} {cs : List (List Factor)} → IsDisjunction s w cs → (ds : List (List Factor)) × IsDisjunction t w ds
    disjunction_of_another (Grammar.conjunction c) = let d = conjunction_of_another c in (d.0 ∷ [], Grammar.conjunction d.1)
    disjunction_of_another (Grammar.either x w y c o cs) = let d = conjunction_of_another c in let ds = disjunction_of_another cs in
        (d.0 ∷ ds.0, Grammar.either x w y d.1 o ds.1)

    list_of_another : {w : List ℕ} {cs : List (List (List Factor))} → IsList s w cs → (ds : List (List (List Factor))) × IsList t w ds
    list_of_another (Grammar.single c) = let d = disjunction_of_another c in (d.0 ∷ [], Grammar.single d.1)
    list_of_another (Grammar.several x w y c o cs) = let d = disjunction_of_another c in let ds = list_of_another cs in
        (d.0 ∷ ds.0, Grammar.several x w y d.1 o ds.1)

  -- a query under one schema is one under another
  query_of_another : {text : List ℕ} {m : Meaning} → IsQuery s text m → (n : Meaning) × IsQuery t text n
  query_of_another q =
      let k = list_of_another q.list in (
        list_meaning k.0,
        record {
          before = q.before;
          inner = q.inner;
          after = q.after;
          disjunctions = k.0;
          parts = q.parts;
          blank_before =
              q.blank_before;
          list = k.1;
          blank_after = q.blank_after;
          means = refl;
        },
      )

-- a syntax error under one schema is one under another
syntax_of_another : (s t : List Field) (text : List ℕ) (byte : ℕ) → Reads s text (Err (Syntax byte)) → Reads t text (Err (Syntax byte))
syntax_of_another s t text byte h = (h.0, h.1, λ m q. let k = query_of_another t s q in h.2 k.0 k.1)

-- a text with another outcome is no syntax error
told_none : (schema : List Field) (text : List ℕ) (x : Result QueryValue Refusal) → (without_byte x ≡ Err (Syntax 0) → ⊥) → Reads schema text x →
    TellsSyntax text None
told_none schema text x other h = λ s byte k. other (one_outcome schema text x (Err (Syntax byte)) h (syntax_of_another s schema text byte k))

-- a query is reported without a byte
pub told_query : (schema : List Field) (text : List ℕ) (q : QueryValue) → Reads schema text (Ok q) → TellsSyntax text None
told_query schema text q h = told_none schema text (Ok q) (λ k. absurd (let e = k in cc)) h

-- a refusal is reported with its byte
told_refusal : (schema : List Field) (text : List ℕ) (e : Refusal) → (e ≡ Memory) ⊎ Reads schema text (Err e) → byte_of e ≤ length text → (at : Option ℕ) →
    IsByteOf e at → TellsSyntax text at
told_refusal schema text Memory h within at is = absurd is
told_refusal schema text (Syntax byte) (inl k) within at is = absurd (let e = k in cc)
told_refusal schema text (Syntax byte) (inr h) within at is = subst (TellsSyntax text) (sym is) (within, λ t. syntax_of_another schema t text byte h)
told_refusal schema text e (inl k) within at is = absurd (let g = k in cc)
told_refusal schema text e (inr h) within at is = subst (TellsSyntax text) (sym is) (told_none schema text (Err e) (λ k. absurd (let g = k in cc)) h)

-- the byte of a refusal is that of the text
pub told : {X : Type 0} (schema : List Field) (text : List ℕ) (e : Refusal) → (e ≡ Memory) ⊎ Reads schema text (Err e) → byte_of e ≤ length text →
    (r : Result (Option ℕ) X) → IfOk r (IsByteOf e) → IfOk r (TellsSyntax text)
told schema text e h within (Ok at) is = told_refusal schema text e h within at is
told schema text e h within (Err x) is = tt
