-- Counts of numbers as counts of the values that a column keeps as these numbers.
use Rattle.std.proofs.Common.{◌≡◌, ℕ, ◌+◌, ◌<◌, List, [], ◌∷◌, map, fold, refl, sym, ap, ◌∙◌, All}
use Rattle.std.specs.Ordering.{match_ordering, nat_cmp}
use Rattle.std.specs.declared.cmp.Ordering.{Ordering}
use Rattle.std.specs.declared.cmp.Ordering.TheVariants.{Less, Equal, Greater}
use Rattle.std.proofs.lemmas.List.Elements.{All-head, All-tail}
use Rattle.fts_model.specs.Answers.{count_one}
use Rattle.fts_scan.proofs.Counts.{All-count_one, nat_order}
use Rattle.fts_parts.specs.Collected.{named_by}

-- the values of numbers below a bound stand as the numbers do
abbrev pub KeepsOrder : {V : Type 0} → (V → V → Ordering) → (ℕ → V) → ℕ → Type 0
KeepsOrder cmp value bound = (x y : ℕ) → x < bound → y < bound → cmp (value x) (value y) ≡ nat_cmp x y

-- one number more is one value more, however it stands to the first
named_at : {V : Type 0} (cmp : V → V → Ordering) (value : ℕ → V) (o : Ordering) (c : ℕ × ℕ) (counts : List (ℕ × ℕ)) (x : ℕ) →
    named_by value (count_one nat_cmp counts x) ≡ count_one cmp (named_by value counts) (value x) →
    named_by value (match_ordering o ((x, 1) ∷ c ∷ counts) ((c.0, c.1 + 1) ∷ counts) (c ∷ count_one nat_cmp counts x))
    ≡ match_ordering o ((value x, 1) ∷ named_by value (c ∷ counts)) ((value c.0, c.1 + 1) ∷ named_by value counts)
    ((value c.0, c.1) ∷ count_one cmp (named_by value counts) (value x))
named_at cmp value Less c counts x rest = refl
named_at cmp value Equal c counts x rest = refl
named_at cmp value Greater c counts x rest = ap (λ cs. (value c.0, c.1) ∷ cs) rest

-- one number more is one value more
named-one : {V : Type 0} (cmp : V → V → Ordering) (value : ℕ → V) (bound : ℕ) (counts : List (ℕ × ℕ)) (x : ℕ) → KeepsOrder cmp value bound → x < bound →
    All (λ c. c.0 < bound) counts →
    named_by value (count_one nat_cmp counts x) ≡ count_one cmp (named_by value counts) (value x)
named-one cmp value bound [] x keeps h below = refl
named-one cmp value bound (c ∷ counts) x keeps h below =
    named_at cmp value (nat_cmp x c.0) c counts x (named-one cmp value bound counts x keeps h (All-tail (λ c. c.0 < bound) c counts below))
    ∙ ap
    (λ o. match_ordering o ((value x, 1) ∷ named_by value (c ∷ counts)) ((value c.0, c.1 + 1) ∷ named_by value counts)
    ((value c.0, c.1) ∷ count_one cmp (named_by value counts) (value x)))
    (sym (keeps x c.0 h (All-head (λ c. c.0 < bound) c counts below)))

-- the counts of numbers are those of their values
pub named-fold : {V : Type 0} (cmp : V → V → Ordering) (value : ℕ → V) (bound : ℕ) (counts : List (ℕ × ℕ)) (xs : List ℕ) → KeepsOrder cmp value bound →
    All (λ x. x < bound) xs → All (λ c. c.0 < bound) counts →
    named_by value (fold (count_one nat_cmp) counts xs) ≡ fold (count_one cmp) (named_by value counts) (map value xs)
named-fold cmp value bound counts [] keeps within below = refl
named-fold cmp value bound counts (x ∷ xs) keeps within below =
    let here = All-head (λ x. x < bound) x xs within in
    named-fold cmp value bound (count_one nat_cmp counts x) xs keeps (All-tail (λ x. x < bound) x xs within)
    (All-count_one nat_order (λ c. c.0 < bound) counts x (λ c p. p) here below)
    ∙ ap (λ cs. fold (count_one cmp) cs (map value xs)) (named-one cmp value bound counts x keeps here below)
