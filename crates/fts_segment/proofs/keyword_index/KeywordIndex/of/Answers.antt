-- The dictionary has the texts, and the column their numbers.
use Rattle.std.proofs.Common.{◌≡◌, List, Option, length, option_map, refl, ap, ◌∙◌, arith}
use Rattle.std.proofs.lemmas.List.{length-map}
use Rattle.fts_model.specs.declared.schema.Kind.TheVariants as kinds
use Rattle.fts_model.specs.declared.value.FieldValue.{FieldValue}
use Rattle.fts_segment.specs.Keywords.{before, keyword_of, ordinals_of, texts_of}
use Rattle.fts_segment.proofs.BetweenLemmas.{AreKeyed-keywords}
use Rattle.fts_segment.proofs.keyword_index.KeywordIndex.of.Goals as goal

-- there is an ordinal for each document, if it has one
size : (vs : List (Option FieldValue)) → length (ordinals_of kinds.Keyword vs) ≡ length vs
size vs = length-map vs (λ v. option_map (before (texts_of kinds.Keyword vs)) (keyword_of kinds.Keyword v))

pub ordinals_by-requires : goal.ordinals_by-requires
ordinals_by-requires c =
    let vs = c.requires.terms.0 in
    (ordinals_of kinds.Keyword vs, size vs ∙ c.requires.terms.1, AreKeyed-keywords vs c.args.dictionary c.requires.terms.2)

pub build-requires : goal.build-requires
build-requires c =
    let vs = c.requires.terms.0 in
    let made = c.in_ok-ordinals.ensures (ordinals_of kinds.Keyword vs) (size vs ∙ c.requires.terms.1)
    (AreKeyed-keywords vs c.args.dictionary c.requires.terms.2) in
    omega (arith, ap length c.deref.ensures.value, ap length made, size vs, c.requires.terms.1, c.requires.few)

pub returns : goal.returns
returns c = λ vs same terms.
    record {
      kind_is = refl;
      terms = terms;
      ordinals = c.in-Ok.ensures.ok ∙ c.deref.ensures.value ∙ c.in_ok-ordinals.ensures (ordinals_of kinds.Keyword vs) (size vs ∙ same)
          (AreKeyed-keywords vs c.args.dictionary terms);
    }
