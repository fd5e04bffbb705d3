-- Numbers as a column keeps them are in the order of the numbers that they are.
use Rattle.std.proofs.Common.{◌≡◌, ℕ, ◌-◌, ◌^◌, ◌<◌, ◌≤◌, nat_lt, Bool, true, false, cond, refl, arith}
use Rattle.std.specs.Prelude.{pos, negsuc}
use Rattle.std.specs.Ordering.{nat_cmp, int_cmp}
use Rattle.std.proofs.lemmas.Bool.{ltb-true, ltb-false}
use Rattle.std.proofs.lemmas.Bool.Decides.{nat_tests}
use Rattle.std.specs.declared.cmp.Ordering.TheVariants.{Less, Equal, Greater}
use Rattle.fts_model.specs.declared.schema.Kind.{Kind}
use Rattle.fts_model.specs.declared.schema.Kind.TheVariants as kinds
use Rattle.fts_model.specs.Answers.{number_cmp}
use Rattle.fts_pack.specs.bits.Signed.{i64_of}
use Rattle.fts_parts.specs.Tallies.{number_at}

-- below 2 ^ 63 the order is turned round twice
both_below : (x y : ℕ) → x < 2 ^ 63 → y < 2 ^ 63 →
    cond (nat_lt (2 ^ 63 - 1 - y) (2 ^ 63 - 1 - x)) Less (cond (nat_lt (2 ^ 63 - 1 - x) (2 ^ 63 - 1 - y)) Greater Equal) ≡ nat_cmp x y
both_below x y h l = grind (arith, nat_tests)

-- from 2 ^ 63 on it is moved
both_above : (x y : ℕ) → 2 ^ 63 ≤ x → 2 ^ 63 ≤ y → cond (nat_lt (x - 2 ^ 63) (y - 2 ^ 63)) Less (cond (nat_lt (y - 2 ^ 63) (x - 2 ^ 63)) Greater Equal)
    ≡ nat_cmp x y
both_above x y h l = grind (arith, nat_tests)

-- a number below 2 ^ 63 is below one that isn't
below_above : (x y : ℕ) → x < 2 ^ 63 → 2 ^ 63 ≤ y → Less ≡ nat_cmp x y
below_above x y h l = grind (arith, nat_tests)

above_below : (x y : ℕ) → 2 ^ 63 ≤ x → y < 2 ^ 63 → Greater ≡ nat_cmp x y
above_below x y h l = grind (arith, nat_tests)

-- signed numbers are ordered as the numbers that store them, on whichever side of 2 ^ 63 these are
signed_at : (x y : ℕ) (b c : Bool) → nat_lt x (2 ^ 63) ≡ b → nat_lt y (2 ^ 63) ≡ c →
    int_cmp (cond b (negsuc (2 ^ 63 - 1 - x)) (pos (x - 2 ^ 63))) (cond c (negsuc (2 ^ 63 - 1 - y)) (pos (y - 2 ^ 63))) ≡ nat_cmp x y
signed_at x y true true h l = both_below x y (ltb-true x (2 ^ 63) h) (ltb-true y (2 ^ 63) l)
signed_at x y true false h l = below_above x y (ltb-true x (2 ^ 63) h) (ltb-false y (2 ^ 63) l)
signed_at x y false true h l = above_below x y (ltb-false x (2 ^ 63) h) (ltb-true y (2 ^ 63) l)
signed_at x y false false h l = both_above x y (ltb-false x (2 ^ 63) h) (ltb-false y (2 ^ 63) l)

pub signed_order : (x y : ℕ) → int_cmp (i64_of x) (i64_of y) ≡ nat_cmp x y
signed_order x y = signed_at x y (nat_lt x (2 ^ 63)) (nat_lt y (2 ^ 63)) refl refl

-- two numbers of a column stand as the numbers that they are
pub number_at-cmp : (kind : Kind) (x y : ℕ) → number_cmp (number_at kind x) (number_at kind y) ≡ nat_cmp x y
number_at-cmp kinds.Text x y = refl
number_at-cmp kinds.Keyword x y = refl
number_at-cmp kinds.U64 x y = refl
number_at-cmp kinds.I64 x y = signed_order x y
