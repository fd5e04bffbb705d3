-- The first word is masked, and the others have later documents.
use Rattle.std.proofs.Common.{◌==◌, ◌&&◌, ◌∙◌, ◌≡◌, ◌+◌, ◌-◌, ◌*◌, ◌%◌, ◌^◌, get_or, nat_le, length, inl, inr, sym, ap, arith, rules}
use Rattle.std.specs.Int.{bit_at}
use Rattle.std.proofs.Math.Bool.{and-true}
use Rattle.std.proofs.lemmas.Bool.{cases_lt, le-leb}
use Rattle.std.proofs.lemmas.List.{get_or-set_other, length-set}
use Rattle.std.proofs.lemmas.Grind.{get_or-set_at}
use Rattle.fts_sets.proofs.RowLemmas.{first-word, word-met}
use Rattle.fts_sets.proofs.rows.keep_from.Goals as goal

pub returns : goal.returns
returns c =
    let row = c.args.row.now in
    let first = c.args.first in
    let index = c.args.index in
    let mask = (2 ^ 64 - 1) * 2 ^ c.saturating_sub.result % 2 ^ 64 in
    let some : length row ≡ 16 = search rules in
    record {
      long = length-set row 0 _;
      told = λ k j low inside. elim (cases_lt 0 k) [
        | inl above ↦
            ap (λ w. bit_at w j == 1) (get_or-set_other row 0 k _ 0 (λ e. absurd (omega (arith, e, above)))) ∙ sym (and-true (bit_at (get_or row k 0) j == 1))
            ∙ sym (ap (λ b. (bit_at (get_or row k 0) j == 1) && b) (le-leb first (64 * (index + k) + j) (omega (arith, c.requires.first, above))))
        | inr here ↦
            let none : k ≡ 0 = omega (arith, here) in
            let at : 64 * index + j ≡ 64 * (index + k) + j = omega (arith, none) in
            ap (λ w. bit_at w j == 1) (get_or-set_at row 0 k _ 0 none (omega (arith, some)))
            ∙ word-met (nat_le first) (64 * index) (get_or row 0 0) mask
            (first-word index first mask c.requires.first (ap (λ s. (2 ^ 64 - 1) * 2 ^ s % 2 ^ 64) c.saturating_sub.ensures)) j inside
            ∙ ap (λ d. (bit_at (get_or row 0 0) j == 1) && nat_le first d) at ∙ ap (λ i. (bit_at (get_or row i 0) j == 1) && nat_le first (64 * (index + k) + j)) (sym none)
      ];
    }
