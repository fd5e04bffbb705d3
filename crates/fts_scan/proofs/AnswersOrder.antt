-- The order of the values of groups is total, and only equal values compare as equal.
use Rattle.std.proofs.Common.{◌≡◌, refl, ap}
use Rattle.std.specs.Cmp.Lexicographic.{nat_list_cmp_total}
use Rattle.std.specs.FinMap.{nat_cmp-IsAntisymmetric, int_cmp-IsAntisymmetric, slice_cmp-IsAntisymmetric}
use Rattle.std.specs.Ordering.{ordering_reverse}
use Rattle.std.specs.declared.cmp.Ordering.TheVariants.{Less, Equal}
use Rattle.std.proofs.lemmas.Cmp.{nat_cmp_total, int_cmp_total}
use Rattle.fts_model.specs.declared.value.GroupValue.{GroupValue}
use Rattle.fts_model.specs.declared.value.GroupValue.TheVariants.{U64, I64, Keyword}
use Rattle.fts_model.specs.Answers.{group_cmp}
use Rattle.fts_scan.proofs.Counts.{IsOneOrder}

-- two values compare in reverse if they are swapped
group_antisymm : (x y : GroupValue) → group_cmp x y ≡ ordering_reverse (group_cmp y x)
group_antisymm (U64 n) (U64 m) = nat_cmp_total.antisymm n m
group_antisymm (U64 n) (I64 m) = refl
group_antisymm (U64 n) (Keyword t) = refl
group_antisymm (I64 n) (U64 m) = refl
group_antisymm (I64 n) (I64 m) = int_cmp_total.antisymm n m
group_antisymm (I64 n) (Keyword t) = refl
group_antisymm (Keyword s) (U64 m) = refl
group_antisymm (Keyword s) (I64 m) = refl
group_antisymm (Keyword s) (Keyword t) = nat_list_cmp_total.antisymm s t

-- the order of values is transitive
group_trans : (x y z : GroupValue) → group_cmp x y ≡ Less → group_cmp y z ≡ Less → group_cmp x z ≡ Less
group_trans (U64 n) (U64 m) (U64 k) h l = nat_cmp_total.trans n m k h l
group_trans (U64 n) y (I64 k) h l = refl
group_trans (U64 n) y (Keyword t) h l = refl
group_trans (U64 n) (I64 m) (U64 k) h l = cc
group_trans (U64 n) (Keyword s) (U64 k) h l = cc
group_trans (I64 n) (U64 m) z h l = cc
group_trans (I64 n) (I64 m) (U64 k) h l = cc
group_trans (I64 n) (I64 m) (I64 k) h l = int_cmp_total.trans n m k h l
group_trans (I64 n) (I64 m) (Keyword t) h l = refl
group_trans (I64 n) (Keyword s) (U64 k) h l = cc
group_trans (I64 n) (Keyword s) (I64 k) h l = cc
group_trans (I64 n) (Keyword s) (Keyword t) h l = refl
group_trans (Keyword s) (U64 m) z h l = cc
group_trans (Keyword s) (I64 m) z h l = cc
group_trans (Keyword s) (Keyword t) (U64 k) h l = cc
group_trans (Keyword s) (Keyword t) (I64 k) h l = cc
group_trans (Keyword s) (Keyword t) (Keyword u) h l = nat_list_cmp_total.trans s t u h l

-- values that compare as equal compare with others alike
group_congr : (x y z : GroupValue) → group_cmp x y ≡ Equal → group_cmp x z ≡ group_cmp y z
group_congr (U64 n) (U64 m) (U64 k) h = nat_cmp_total.congr n m k h
group_congr (U64 n) (U64 m) (I64 k) h = refl
group_congr (U64 n) (U64 m) (Keyword t) h = refl
group_congr (U64 n) (I64 m) z h = cc
group_congr (U64 n) (Keyword s) z h = cc
group_congr (I64 n) (U64 m) z h = cc
group_congr (I64 n) (I64 m) (U64 k) h = refl
group_congr (I64 n) (I64 m) (I64 k) h = int_cmp_total.congr n m k h
group_congr (I64 n) (I64 m) (Keyword t) h = refl
group_congr (I64 n) (Keyword s) z h = cc
group_congr (Keyword s) (U64 m) z h = cc
group_congr (Keyword s) (I64 m) z h = cc
group_congr (Keyword s) (Keyword t) (U64 k) h = refl
group_congr (Keyword s) (Keyword t) (I64 k) h = refl
group_congr (Keyword s) (Keyword t) (Keyword u) h = nat_list_cmp_total.congr s t u h

-- values that compare as equal are equal
group_same : (x y : GroupValue) → group_cmp x y ≡ Equal → x ≡ y
group_same (U64 n) (U64 m) h = ap U64 (nat_cmp-IsAntisymmetric n m h)
group_same (U64 n) (I64 m) h = cc
group_same (U64 n) (Keyword t) h = cc
group_same (I64 n) (U64 m) h = cc
group_same (I64 n) (I64 m) h = ap I64 (int_cmp-IsAntisymmetric n m h)
group_same (I64 n) (Keyword t) h = cc
group_same (Keyword s) (U64 m) h = cc
group_same (Keyword s) (I64 m) h = cc
group_same (Keyword s) (Keyword t) h = ap Keyword (slice_cmp-IsAntisymmetric nat_cmp-IsAntisymmetric s t h)

-- the order of the values of groups is total, with equal values the only ones that compare as equal
pub group_order : IsOneOrder group_cmp
group_order = record { total = record { antisymm = group_antisymm; trans = group_trans; congr = group_congr }; same = group_same }
