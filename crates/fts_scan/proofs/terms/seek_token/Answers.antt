use Rattle.std.proofs.Common.{sym, ◌∙◌, arith}
use Rattle.std.specs.Str.{bytes_eq}
use Rattle.fts_text.proofs.StretchLemmas.{following-le}
use Rattle.fts_scan.proofs.PlacesSought.{Seeks-start, Seeks-next}
use Rattle.fts_scan.proofs.terms.seek_token.Goals as goal

pub loop-place-init : goal.loop-place-init
loop-place-init c = Seeks-start c.args.first c.args.text.now (λ t. bytes_eq t.1 c.args.token.now) c.starting-tokens.result c.utf8.text
    c.starting-tokens.ensures.tokens c.starting-tokens.ensures.following

pub loop-place-preserved : goal.loop-place-preserved
loop-place-preserved c =
    Seeks-next c.args.first c.args.text.now (λ t. bytes_eq t.1 c.args.token.now) c.in-Some.place c.loop-place.tokens c.next_token.new.self
    c.in-Some.ensures.steps c.in-Some.ensures.following
    (sym c.in_ok-is_token.ensures ∙ c.if-branch.false) c.loop-place.invariant

pub following-requires : goal.following-requires
following-requires c =
    omega (arith, c.in_default.ensures.following, c.loop-place.invariant.follows, following-le c.args.first c.args.text.now c.utf8.text, c.requires)

pub returns-clause-near : goal.returns-clause-near
returns-clause-near c =
    omega (arith, c.following.ensures, c.in_default.ensures.following, c.loop-place.invariant.follows, following-le c.args.first c.args.text.now c.utf8.text)
