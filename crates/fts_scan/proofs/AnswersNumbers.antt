-- The order of numbers is total.
use Rattle.std.proofs.Common.{◌≡◌, refl}
use Rattle.std.specs.Cmp.{IsTotalOrder}
use Rattle.std.specs.Ordering.{ordering_reverse}
use Rattle.std.specs.declared.cmp.Ordering.TheVariants.{Less, Equal}
use Rattle.std.proofs.lemmas.Cmp.{nat_cmp_total, int_cmp_total}
use Rattle.fts_model.specs.declared.value.Number.{Number}
use Rattle.fts_model.specs.declared.value.Number.TheVariants.{U64, I64}
use Rattle.fts_model.specs.Answers.{number_cmp}

-- two numbers compare in reverse if they are swapped
number_antisymm : (x y : Number) → number_cmp x y ≡ ordering_reverse (number_cmp y x)
number_antisymm (U64 n) (U64 m) = nat_cmp_total.antisymm n m
number_antisymm (U64 n) (I64 m) = refl
number_antisymm (I64 n) (U64 m) = refl
number_antisymm (I64 n) (I64 m) = int_cmp_total.antisymm n m

-- the order of numbers is transitive
number_trans : (x y z : Number) → number_cmp x y ≡ Less → number_cmp y z ≡ Less → number_cmp x z ≡ Less
number_trans (U64 n) (U64 m) (U64 k) h l = nat_cmp_total.trans n m k h l
number_trans (U64 n) (U64 m) (I64 k) h l = refl
number_trans (U64 n) (I64 m) (U64 k) h l = cc
number_trans (U64 n) (I64 m) (I64 k) h l = refl
number_trans (I64 n) (U64 m) z h l = cc
number_trans (I64 n) (I64 m) (U64 k) h l = cc
number_trans (I64 n) (I64 m) (I64 k) h l = int_cmp_total.trans n m k h l

-- numbers that compare as equal compare with others alike
number_congr : (x y z : Number) → number_cmp x y ≡ Equal → number_cmp x z ≡ number_cmp y z
number_congr (U64 n) (U64 m) (U64 k) h = nat_cmp_total.congr n m k h
number_congr (U64 n) (U64 m) (I64 k) h = refl
number_congr (U64 n) (I64 m) z h = cc
number_congr (I64 n) (U64 m) z h = cc
number_congr (I64 n) (I64 m) (U64 k) h = refl
number_congr (I64 n) (I64 m) (I64 k) h = int_cmp_total.congr n m k h

-- the order of numbers is a total order
pub number_total : IsTotalOrder number_cmp
number_total = record { antisymm = number_antisymm; trans = number_trans; congr = number_congr }
