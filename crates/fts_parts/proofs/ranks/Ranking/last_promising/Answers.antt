use Rattle.std.proofs.Common.{◌+◌, ◌^◌, ◌<◌, drop, rules}
use Rattle.std.proofs.lemmas.Option.{IfSome_then}
use Rattle.fts_parts.proofs.RanksLemmas.{Offers-rising, Offers-falling, Offers-without}
use Rattle.fts_parts.proofs.ranks.Ranking.last_promising.Goals as goal

pub returns-in_err-least-clause-none : goal.returns-in_err-least-clause-none
returns-in_err-least-clause-none c = λ _. Offers-without c.args.self.now c.args.top_k.now c.args.docs.now c.in_err-least.ensures

pub returns-in-Rising-clause-behind : goal.returns-in-Rising-clause-behind
returns-in-Rising-clause-behind c =
    let r = c.args.self.now in
    let t = c.args.top_k.now in
    IfSome_then c.last_within.result c.last_within.ensures.behind
    (λ place out. Offers-rising r c.in-Some.most (c.in_ok-least.least, c.in_ok-least.greatest) t (drop (place + 1) c.args.docs.now) c.in-Rising.is
    c.in_ok-least.ensures c.in-Some.ensures out)

pub returns-in-Rising-clause-none : goal.returns-in-Rising-clause-none
returns-in-Rising-clause-none c = λ none.
    Offers-rising c.args.self.now c.in-Some.most (c.in_ok-least.least, c.in_ok-least.greatest) c.args.top_k.now c.args.docs.now c.in-Rising.is
    c.in_ok-least.ensures c.in-Some.ensures (c.last_within.ensures.none none)

pub returns-in-Falling-clause-behind : goal.returns-in-Falling-clause-behind
returns-in-Falling-clause-behind c =
    let most_fits : c.in-Some.most < 2 ^ 64 = search rules in
    let all_fit : c.in_ok-least.greatest < 2 ^ 64 = search rules in
    IfSome_then c.last_within-in-Falling.result c.last_within-in-Falling.ensures.behind
    (λ place out. Offers-falling c.args.self.now c.in-Some.most (c.in_ok-least.least, c.in_ok-least.greatest) c.args.top_k.now
    (drop (place + 1) c.args.docs.now) c.in-Falling.is most_fits all_fit c.in_ok-least.ensures c.in-Some.ensures out)

pub returns-in-Falling-clause-none : goal.returns-in-Falling-clause-none
returns-in-Falling-clause-none c = λ none.
    let most_fits : c.in-Some.most < 2 ^ 64 = search rules in
    let all_fit : c.in_ok-least.greatest < 2 ^ 64 = search rules in
    Offers-falling c.args.self.now c.in-Some.most (c.in_ok-least.least, c.in_ok-least.greatest) c.args.top_k.now c.args.docs.now c.in-Falling.is most_fits
    all_fit c.in_ok-least.ensures c.in-Some.ensures (c.last_within-in-Falling.ensures.none none)
