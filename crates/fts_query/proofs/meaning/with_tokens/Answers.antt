use Rattle.std.proofs.Common.{ℕ, List, ap, sym, ◌∙◌}
use Rattle.fts_query.specs.Meanings.{with_value}
use Rattle.fts_text.specs.Places.{places_left}
use Rattle.fts_query.proofs.MeaningsLemmas.{no_token, one_token, more_tokens, first_place}
use Rattle.fts_model.specs.QueryValues.{phrase}
use Rattle.fts_query.proofs.QueryValuesLemmas.{value-none, value-term, value-phrase}
use Rattle.fts_model.specs.declared.value.FieldValue.TheVariants as values
use Rattle.fts_query.proofs.meaning.with_tokens.Goals as goal

pub token-requires : goal.token-requires
token-requires c = first_place c.args.text.now _ (places_left c.next.new.self) c.in-Some.first c.utf8.text c.new-places.ensures.tokens c.in-Some.ensures.steps.0

pub returns-in_default : goal.returns-in_default
returns-in_default c = value-none ∙ sym (no_token c.args.field c.args.text.now _ c.utf8.text c.new-places.ensures.tokens c.in_default.ensures.steps.0.0)

pub returns-in_ok-token-in-None : goal.returns-in_ok-token-in-None
returns-in_ok-token-in-None c =
    value-term _ ∙ ap (λ (t : List ℕ). with_value c.args.field (values.Text t)) c.in_ok-token-in-None.ensures
    ∙ sym (one_token c.args.field c.args.text.now _ (places_left c.next.new.self) c.in-Some.first c.utf8.text c.new-places.ensures.tokens
    c.in-Some.ensures.steps.0 c.in-None.ensures.steps.0.0)

pub returns-in_ok-pattern-in-Some-next : goal.returns-in_ok-pattern-in-Some-next
returns-in_ok-pattern-in-Some-next c =
    value-phrase c.args.field c.in_ok-pattern-in-Some-next.pattern ∙ ap (phrase c.args.field) c.in_ok-pattern-in-Some-next.ensures
    ∙ sym (more_tokens c.args.field c.args.text.now _ (places_left c.next.new.self) (places_left c.next-2.new.self) c.in-Some.first c.in-Some-next.field-0
    c.utf8.text c.new-places.ensures.tokens c.in-Some.ensures.steps.0 c.in-Some-next.ensures.steps.0)
