use Rattle.std.proofs.Common.{arith}
use Rattle.fts_text.proofs.StretchLemmas.{following-le}
use Rattle.fts_segment.proofs.OccurrencesLemmas.{Logs-start, Logs-next}
use Rattle.fts_segment.proofs.TokenLemmas.{few_tokens}
use Rattle.fts_segment.proofs.token_log.push_tokens.Goals as goal

pub loop-token-init : goal.loop-token-init
loop-token-init c = Logs-start c.args.first c.args.text.now c.args.doc c.args.log.now c.starting-tokens.result c.utf8.text c.starting-tokens.ensures.tokens
    c.starting-tokens.ensures.following

pub loop-token-preserved : goal.loop-token-preserved
loop-token-preserved c = Logs-next c.in-Some.token c.loop-token.tokens c.next_token.new.self _ c.in-Some.ensures.steps c.in-Some.ensures.following
    c.in_ok-push_token.ensures c.loop-token.invariant

pub returns-in_err-push_token-clause-few : goal.returns-in_err-push_token-clause-few
returns-in_err-push_token-clause-few c = few_tokens c.args.first c.args.text.now c.utf8.text

pub following-requires : goal.following-requires
following-requires c =
    omega (arith, c.in_default.ensures.following, c.loop-token.invariant.follows, following-le c.args.first c.args.text.now c.utf8.text, c.requires)

pub returns-clause-few : goal.returns-clause-few
returns-clause-few c = few_tokens c.args.first c.args.text.now c.utf8.text

pub returns-clause-near : goal.returns-clause-near
returns-clause-near c =
    omega (arith, c.following.ensures, c.in_default.ensures.following, c.loop-token.invariant.follows, following-le c.args.first c.args.text.now c.utf8.text)
