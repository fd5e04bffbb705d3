-- One more end was compared.
use Rattle.std.proofs.Common.{rules, ◌≡◌, ◌≢◌, ℕ, ◌+◌, ◌<◌, List, [], ◌∷◌, ◌++◌, take, drop, get_or, length, ap, sym, ◌∙◌, arith}
use Rattle.std.proofs.lemmas.List.{map-append, take_more, take-append-drop}
use Rattle.fts_base.specs.Totals.{times}
use Rattle.fts_rounds.specs.Rounds.{Held, lanes_of}
use Rattle.fts_base.proofs.TotalsLemmas.{times-append, times_here, times_else}
use Rattle.fts_rounds.proofs.round.has_lane.Goals as goal

numbers_more : (n : ℕ) (ends : List Held) (i : ℕ) (end : Held) → i < length ends → end ≡ get_or ends i end →
    times n (lanes_of (take (i + 1) ends)) ≡ times n (lanes_of (take i ends)) + times n (end.lane ∷ [])
numbers_more n ends i end lt is =
    ap (λ (l : List Held). times n (lanes_of l)) (take_more ends i end lt ∙ ap (λ (e : Held). take i ends ++ e ∷ []) (sym is))
    ∙ (ap (times n) (map-append (λ (h : Held). h.lane) (take i ends) (end ∷ [])) ∙ times-append n (lanes_of (take i ends)) (end.lane ∷ []))

numbers_all : (n : ℕ) (ends : List Held) (i : ℕ) → times n (lanes_of ends) ≡ times n (lanes_of (take i ends)) + times n (lanes_of (drop i ends))
numbers_all n ends i =
    ap (λ (l : List Held). times n (lanes_of l)) (sym (take-append-drop i ends))
    ∙ (ap (times n) (map-append (λ (h : Held). h.lane) (take i ends) (drop i ends)) ∙ times-append n (lanes_of (take i ends)) (lanes_of (drop i ends)))

pub returns-then-lane : goal.returns-then-lane
returns-then-lane c =
    let n : ℕ = c.args.lane in
    let i : ℕ = c.loop-end.end-index in
    let more = numbers_more n c.args.ends.now i c.end-item.result (search rules) c.end-item.is in
    let all = numbers_all n c.args.ends.now (i + 1) in
    let is : n ≡ c.end-item.result.lane = sym (sym c.lane.ensures ∙ c.if-lane.true) in
    let found : times n (c.end-item.result.lane ∷ []) ≡ 1 + times n [] = ap (λ (k : ℕ). times n (k ∷ [])) (sym is) ∙ times_here n [] in
    ((λ _. omega arith), search rules)

pub loop-end-preserved : goal.loop-end-preserved
loop-end-preserved c =
    let n : ℕ = c.args.lane in
    let more = numbers_more n c.args.ends.now c.loop-end.end-index c.end-item.result (search rules) c.end-item.is in
    let ne : n ≢ c.end-item.result.lane = (λ e. c.if-lane.false (c.lane.ensures ∙ sym e)) in
    let none = times_else n c.end-item.result.lane [] ne in
    let before = c.loop-end.invariant in
    omega arith
