use Rattle.std.proofs.Common.{◌≡◌, ◌+◌, ◌-◌, ◌==◌, ◌≤◌, ◌∙◌, IfSome, None, drop, get_or, ap, sym, subst, arith}
use Rattle.std.proofs.lemmas.List.{get_or_past}
use Rattle.std.proofs.lemmas.Nat.Bits.{bit_at-zero}
use Rattle.fts_pack.specs.column.Column.{IsColumn, is_within, least_of}
use Rattle.fts_pack.specs.column.OffsetArray.{AreMarked, in_lanes}
use Rattle.fts_pack.proofs.ColumnLemmas.{column_length, lane_there, stretch_inside, unwrap_least}
use Rattle.fts_pack.proofs.LanesLemmas.{marked_values, none_below}
use Rattle.fts_pack.proofs.column.column.Column.marks_within.Goals as goal

pub mask_within-marks-requires : goal.mask_within-marks-requires
mask_within-marks-requires c =
    let column = c.self.inside in
    let size = column_length _ _ _ _ _ c.self.view_is c.self.invariant.0 in
    stretch_inside c.args.self.now column.range column.present (in_lanes column.lanes)
    (subst (λ v. IsColumn v c.self.inside.range c.self.inside.present (in_lanes c.self.inside.lanes)) c.self.view_is c.self.invariant.0) c.args.from c.requires (omega (arith, size, c.len.ensures, c.if-from-len.false))

pub returns-then-from-len : goal.returns-then-from-len
returns-then-from-len c k lt =
    let size = column_length _ _ _ _ _ c.self.view_is c.self.invariant.0 in
    ap (λ n. n == 1) (bit_at-zero k)
    ∙ ap (is_within c.args.low c.args.high)
    (sym (get_or_past c.args.self.now (c.args.from + k) None (omega (arith, size, c.len.ensures, c.if-from-len.true))))

pub returns-then-high-least : goal.returns-then-high-least
returns-then-high-least c k lt =
    let column = c.self.inside in
    let values = c.args.self.now in
    let lanes = in_lanes column.lanes in
    let least : least_of column.range ≡ c.unwrap_or-least.result.0 = sym (ap (λ r. r.0) c.unwrap_or-least.ensures ∙ unwrap_least column.range) in
    let v = get_or values (c.args.from + k) None in
    let lane = get_or lanes (c.args.from + k) 0 in
    ap (λ n. n == 1) (bit_at-zero k) ∙ none_below v c.unwrap_or-least.result.0 c.args.low c.args.high lane c.if-high-least.true
    (subst (λ n. IfSome v (λ x. (n ≤ x) × (n + lane ≡ x))) least (lane_there values column.range column.present lanes
    (subst (λ v. IsColumn v c.self.inside.range c.self.inside.present (in_lanes c.self.inside.lanes)) c.self.view_is c.self.invariant.0) (c.args.from + k)))

pub returns : goal.returns
returns c =
    let column = c.self.inside in
    let lanes = in_lanes column.lanes in
    let least = c.unwrap_or-least.result.0 in
    let least_is : least_of column.range ≡ least = sym (ap (λ r. r.0) c.unwrap_or-least.ensures ∙ unwrap_least column.range) in
    let found : AreMarked (drop c.args.from lanes) (c.args.low - least) (c.args.high - least) c.mask_within-marks.result =
    subst (λ n. AreMarked (drop c.args.from lanes) n (c.args.high - least) c.mask_within-marks.result) c.saturating_sub-above.ensures c.mask_within-marks.ensures in
    marked_values c.args.self.now column.range column.present lanes least c.args.from c.args.low c.args.high
    c.mask_within-marks.result c.word.result
    (subst (λ v. IsColumn v c.self.inside.range c.self.inside.present (in_lanes c.self.inside.lanes)) c.self.view_is c.self.invariant.0) least_is (omega (arith, c.if-high-least.false))
    c.requires found c.word.ensures
