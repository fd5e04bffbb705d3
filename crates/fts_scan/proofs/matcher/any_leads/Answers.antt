use Rattle.std.proofs.Common.{◌≡◌, ◌+◌, ◌<◌, ◌≤◌, ◌^◌, ℕ, List, [], false, length, get_or, sym, subst, ◌∙◌, arith}
use Rattle.std.specs.List.{list_any}
use Rattle.fts_text.specs.Tokens.{following, tokens_from, tokens_of_texts}
use Rattle.fts_text.proofs.StretchLemmas.{following-le}
use Rattle.fts_model.specs.Queries.{leads}
use Rattle.fts_scan.specs.Scans.{strings}
use Rattle.fts_scan.proofs.PlacesSought.{Seeks-start, Seeks-place, Seeks-next, Seeks-end, SeeksOn-room, SeeksOn-next}
use Rattle.fts_scan.proofs.matcher.any_leads.Goals as goal

pub loop-place-init : goal.loop-place-init
loop-place-init c =
    Seeks-start c.loop-number.start c.get-text.result.now (leads (tokens_of_texts 0 (strings c.args.texts)) c.args.first.now c.args.others.now)
    c.starting-tokens.result c.get-text.utf8
    c.starting-tokens.ensures.tokens c.starting-tokens.ensures.following

pub leads-requires-clause-near : goal.leads-requires-clause-near
leads-requires-clause-near c =
    let texts = strings c.args.texts in
    let test = leads (tokens_of_texts 0 texts) c.args.first.now c.args.others.now in
    let start = c.loop-number.start in
    let inside : c.loop-number.number < length texts = omega arith in
    let room = subst (λ (text : List ℕ). start + length text + 2 < 2 ^ 63) (sym c.get-text.ensures) (SeeksOn-room texts test c.loop-number.number start inside
    c.loop-number.invariant) in
    let at = Seeks-place start c.get-text.result.now test c.in-Some.place c.loop-place.tokens c.next_token.new.self c.in-Some.ensures.steps
    c.loop-place.invariant in
    omega (arith, room, at.numbered, at.place.nonempty, at.place.within)

pub loop-place-preserved : goal.loop-place-preserved
loop-place-preserved c =
    Seeks-next c.loop-number.start c.get-text.result.now (leads (tokens_of_texts 0 (strings c.args.texts)) c.args.first.now c.args.others.now) c.in-Some.place
    c.loop-place.tokens c.next_token.new.self
    c.in-Some.ensures.steps c.in-Some.ensures.following (sym c.in_ok-leads.ensures ∙ c.if-branch.false) c.loop-place.invariant

pub following-start-requires : goal.following-start-requires
following-start-requires c =
    let texts = strings c.args.texts in
    let test = leads (tokens_of_texts 0 texts) c.args.first.now c.args.others.now in
    let start = c.loop-number.start in
    let inside : c.loop-number.number < length texts = omega arith in
    let room = subst (λ (text : List ℕ). start + length text + 2 < 2 ^ 63) (sym c.get-text.ensures) (SeeksOn-room texts test c.loop-number.number start inside
    c.loop-number.invariant) in
    omega (arith, room, c.in_default.ensures.following, c.loop-place.invariant.follows, following-le start c.get-text.result.now c.get-text.utf8)

pub loop-number-preserved : goal.loop-number-preserved
loop-number-preserved c =
    let texts = strings c.args.texts in
    let test = leads (tokens_of_texts 0 texts) c.args.first.now c.args.others.now in
    let start = c.loop-number.start in
    let text = c.get-text.result.now in
    let none = Seeks-end start text test c.loop-place.tokens c.in_default.ensures.steps.0 c.loop-place.invariant in
    let at = c.following-start.ensures ∙ c.in_default.ensures.following ∙ c.loop-place.invariant.follows in
    let near : c.following-start.result ≤ start + length text + 1 = omega (arith, at, following-le start text c.get-text.utf8) in
    SeeksOn-next texts test c.loop-number.number start c.following-start.result (omega arith) c.loop-number.invariant
    (subst (λ (text : List ℕ). (list_any test (tokens_from start text) ≡ false) × (c.following-start.result ≡ following start text)) c.get-text.ensures
    (none, at))
    (subst (λ (text : List ℕ). c.following-start.result ≤ start + length text + 1) c.get-text.ensures near)
