-- Distinct texts in order, and the number of those before a text.
use Rattle.std.proofs.lemmas.Bool.{false≢true}
use Rattle.std.proofs.lemmas.Bool.Decides.{nat_tests}
use Rattle.std.proofs.Common.{cond, ◌≡◌, ◌+◌, ◌<◌, ◌≤◌, ◌⊎◌, ℕ, zero, suc, Bool, true, false, List, [], ◌∷◌, length, filter, fold, All, Contains, get_or, refl}
use Rattle.std.proofs.Common.{sym, ap, subst, ◌∙◌, inl, inr, ⊎_elim, arith, Ordering, Less, Equal, Greater}
use Rattle.std.specs.Prelude.{nat_lt, nat_le}
use Rattle.std.specs.Ordering.{nat_cmp, is_lt, is_le, is_eq, ordering_reverse, match_ordering}
use Rattle.std.specs.Cmp.Lexicographic.{slice_cmp, texts_ties}
use Rattle.std.proofs.lemmas.Cmp.{nat_list_cmp_total, tied_itself}
use Rattle.std.proofs.lemmas.Slice.Eq.{bytes_eq-Decides}
use Rattle.std.proofs.lemmas.List.{get_or_default}
use Rattle.std.proofs.lemmas.List.Elements.{All-nil, All-cons, All-contains}
use Rattle.fts_model.specs.Queries.{text_lt, text_le}
use Rattle.fts_segment.specs.Keywords.{with_text, in_order, before, up_to}

abbrev cmp : List ℕ → List ℕ → Ordering
cmp = slice_cmp nat_cmp

abbrev Behind : List ℕ → List (List ℕ) → Type 0
Behind t ts = All (λ k. cmp t k ≡ Less) ts

-- each text is before all after it
abbrev pub Climbs : List (List ℕ) → Type 0
Climbs [] = Unit {0}
Climbs (t ∷ ts) = Behind t ts × Climbs ts

same_from_equal : (xs ys : List ℕ) → cmp xs ys ≡ Equal → xs ≡ ys
same_from_equal xs ys h = (bytes_eq-Decides xs ys).0 (texts_ties xs ys ∙ ap is_eq h)

turned : (xs ys : List ℕ) (o : Ordering) → cmp xs ys ≡ o → cmp ys xs ≡ ordering_reverse o
turned xs ys o h = nat_list_cmp_total.antisymm ys xs ∙ ap ordering_reverse h

not_before_itself : (t : List ℕ) → cmp t t ≡ Less → ⊥
not_before_itself t h = let clash : Equal ≡ Less = sym (tied_itself nat_list_cmp_total t) ∙ h in cc

not_both : (s t : List ℕ) → cmp s t ≡ Less → cmp t s ≡ Less → ⊥
not_both s t h k = let clash : Greater ≡ Less = sym (turned s t Less h) ∙ k in cc

pub here : (t : List ℕ) (ts : List (List ℕ)) → Contains (t ∷ ts) t
here t ts = (0, omega arith, refl)

pub there : (t x : List ℕ) (ts : List (List ℕ)) → Contains ts x → Contains (t ∷ ts) x
there t x ts (k, less, is) = (suc k, omega (arith, less), is)

pub either : (t x : List ℕ) (ts : List (List ℕ)) → Contains (t ∷ ts) x → (t ≡ x) ⊎ Contains ts x
either t x ts (zero, less, is) = inl is
either t x ts (suc k, less, is) = inr (k, omega (arith, less), is)

pub none : (x : List ℕ) → Contains [] x → ⊥
none x (k, less, is) = omega (arith, less)

behind_trans : (s t : List ℕ) (ts : List (List ℕ)) → cmp s t ≡ Less → Behind t ts → Behind s ts
behind_trans s t ts h b = λ k d less. nat_list_cmp_total.trans s t (get_or ts k d) h (b k d less)

behind_first : (s t : List ℕ) (ts : List (List ℕ)) → cmp s t ≡ Less → Behind t ts → Behind s (t ∷ ts)
behind_first s t ts h b = All-cons (λ k. cmp s k ≡ Less) t ts h (behind_trans s t ts h b)

-- a property of a text and of all others holds with the text inserted
with-all : (P : List ℕ → Type 0) (ts : List (List ℕ)) (t : List ℕ) → P t → All P ts → All P (with_text ts t)
with-all P [] t h all = All-cons P t [] h all
with-all P (s ∷ ts) t h all = by (cmp t s) (with-all P ts t h (λ k d less. all (suc k) d (omega (arith, less))))
  where
    by : (o : Ordering) → All P (with_text ts t) → All P (match_ordering o (t ∷ s ∷ ts) (s ∷ ts) (s ∷ with_text ts t))
    by Less later = All-cons P t (s ∷ ts) h all
    by Equal later = all
    by Greater later = All-cons P s (with_text ts t) (all 0 s (omega arith)) later

with-climbs : (ts : List (List ℕ)) (t : List ℕ) → Climbs ts → Climbs (with_text ts t)
with-climbs [] t climbs = (All-nil _, tt)
with-climbs (s ∷ ts) t climbs = by (cmp t s) refl (with-climbs ts t climbs.1)
  where
    by : (o : Ordering) → cmp t s ≡ o → Climbs (with_text ts t) → Climbs (match_ordering o (t ∷ s ∷ ts) (s ∷ ts) (s ∷ with_text ts t))
    by Less is later = (behind_first t s ts is climbs.0, climbs)
    by Equal is later = climbs
    by Greater is later = (with-all (λ k. cmp s k ≡ Less) ts t (turned t s Greater is) climbs.0, later)

with-has : (ts : List (List ℕ)) (t : List ℕ) → Contains (with_text ts t) t
with-has [] t = here t []
with-has (s ∷ ts) t = by (cmp t s) refl (with-has ts t)
  where
    by : (o : Ordering) → cmp t s ≡ o → Contains (with_text ts t) t → Contains (match_ordering o (t ∷ s ∷ ts) (s ∷ ts) (s ∷ with_text ts t)) t
    by Less is later = here t (s ∷ ts)
    by Equal is later = subst (Contains (s ∷ ts)) (sym (same_from_equal t s is)) (here s ts)
    by Greater is later = there s t (with_text ts t) later

with-keeps : (ts : List (List ℕ)) (t x : List ℕ) → Contains ts x → Contains (with_text ts t) x
with-keeps [] t x h = absurd (none x h)
with-keeps (s ∷ ts) t x h = by (cmp t s) (with-keeps ts t x)
  where
    by : (o : Ordering) → (Contains ts x → Contains (with_text ts t) x) → Contains (match_ordering o (t ∷ s ∷ ts) (s ∷ ts) (s ∷ with_text ts t)) x
    by Less later = there t x (s ∷ ts) h
    by Equal later = h
    by Greater later = ⊎_elim (λ is. subst (Contains (s ∷ with_text ts t)) is (here s (with_text ts t))) (λ k. there s x (with_text ts t) (later k))
        (either s x ts h)

with-only : (ts : List (List ℕ)) (t x : List ℕ) → Contains (with_text ts t) x → (t ≡ x) ⊎ Contains ts x
with-only [] t x h = either t x [] h
with-only (s ∷ ts) t x h = by (cmp t s) (with-only ts t x) h
  where
    by : (o : Ordering) → (Contains (with_text ts t) x → (t ≡ x) ⊎ Contains ts x) → Contains (match_ordering o (t ∷ s ∷ ts) (s ∷ ts) (s ∷ with_text ts t)) x →
        (t ≡ x) ⊎ Contains (s ∷ ts) x
    by Less later k = either t x (s ∷ ts) k
    by Equal later k = inr k
    by Greater later k = ⊎_elim (λ is. inr (subst (Contains (s ∷ ts)) is (here s ts))) (λ l. ⊎_elim (λ is. inl is) (λ m. inr (there s x ts m)) (later l))
        (either s x (with_text ts t) k)

fold-climbs : (texts ts : List (List ℕ)) → Climbs ts → Climbs (fold with_text ts texts)
fold-climbs [] ts climbs = climbs
fold-climbs (t ∷ texts) ts climbs = fold-climbs texts (with_text ts t) (with-climbs ts t climbs)

fold-has : (texts ts : List (List ℕ)) (x : List ℕ) → Contains ts x ⊎ Contains texts x → Contains (fold with_text ts texts) x
fold-has [] ts x h = ⊎_elim (λ k. k) (λ k. absurd (none x k)) h
fold-has (t ∷ texts) ts x h = fold-has texts (with_text ts t) x
    (⊎_elim (λ k. inl (with-keeps ts t x k)) (λ k. ⊎_elim (λ is. inl (subst (Contains (with_text ts t)) is (with-has ts t))) (λ l. inr l) (either t x texts k))
    h)

fold-only : (texts ts : List (List ℕ)) (x : List ℕ) → Contains (fold with_text ts texts) x → Contains ts x ⊎ Contains texts x
fold-only [] ts x h = inl h
fold-only (t ∷ texts) ts x h =
    ⊎_elim (λ k. ⊎_elim (λ is. inr (subst (Contains (t ∷ texts)) is (here t texts))) (λ l. inl l) (with-only ts t x k)) (λ k. inr (there t x texts k))
    (fold-only texts (with_text ts t) x h)

pub in_order-climbs : (texts : List (List ℕ)) → Climbs (in_order texts)
in_order-climbs texts = fold-climbs texts [] tt

pub in_order-has : (texts : List (List ℕ)) (x : List ℕ) → Contains texts x → Contains (in_order texts) x
in_order-has texts x h = fold-has texts [] x (inr h)

pub in_order-only : (texts : List (List ℕ)) (x : List ℕ) → Contains (in_order texts) x → Contains texts x
in_order-only texts x h = ⊎_elim (λ k. absurd (none x k)) (λ k. k) (fold-only texts [] x h)

-- two lists in order that have the same texts are equal
same_head : (x y : List ℕ) (xs ys : List (List ℕ)) → Behind x xs → Behind y ys → Contains (y ∷ ys) x → Contains (x ∷ xs) y → x ≡ y
same_head x y xs ys a b h k = ⊎_elim (λ is. sym is)
    (λ later. ⊎_elim (λ is. is)
    (λ last. absurd (not_both x y (All-contains (λ z. cmp x z ≡ Less) xs y a last) (All-contains (λ z. cmp y z ≡ Less) ys x b later))) (either x y xs k))
    (either y x ys h)

behind_it : (x z : List ℕ) (xs ys : List (List ℕ)) → Behind x xs → Contains xs z → Contains (x ∷ ys) z → Contains ys z
behind_it x z xs ys a h k = ⊎_elim (λ is. absurd (not_before_itself x (subst (λ w. cmp x w ≡ Less) (sym is) (All-contains (λ z. cmp x z ≡ Less) xs z a h))))
    (λ l. l) (either x z ys k)

pub same_texts : (xs ys : List (List ℕ)) → Climbs xs → Climbs ys → ((z : List ℕ) → Contains xs z → Contains ys z) →
    ((z : List ℕ) → Contains ys z → Contains xs z) → xs ≡ ys
same_texts [] [] a b f g = refl
same_texts [] (y ∷ ys) a b f g = absurd (none y (g y (here y ys)))
same_texts (x ∷ xs) [] a b f g = absurd (none x (f x (here x xs)))
same_texts (x ∷ xs) (y ∷ ys) a b f g =
    let is : x ≡ y = same_head x y xs ys a.0 b.0 (f x (here x xs)) (g y (here y ys)) in
    let rest : xs ≡ ys = same_texts xs ys a.1 b.1
    (λ z h. behind_it x z xs ys a.0 h (subst (λ w. Contains (w ∷ ys) z) (sym is) (f z (there x z xs h))))
    (λ z h. behind_it y z ys xs b.0 h (subst (λ w. Contains (w ∷ xs) z) is (g z (there y z ys h)))) in
    cc

-- texts that are each before those at greater indexes ascend
pub climbs_by_place : (ts : List (List ℕ)) → ((i j : ℕ) → i < j → j < length ts → cmp (get_or ts i []) (get_or ts j []) ≡ Less) → Climbs ts
climbs_by_place [] h = tt
climbs_by_place (t ∷ ts) h = (
  behind t ts (λ k less. h 0 (suc k) (omega arith) (omega (arith, less))),
  climbs_by_place ts (λ i j order less. h (suc i) (suc j) (omega (arith, order))
      (omega (arith, less))),
)
  where
    behind : (t : List ℕ) (ts : List (List ℕ)) → ((k : ℕ) → k < length ts → cmp t (get_or ts k []) ≡ Less) → Behind t ts
    behind t [] h = All-nil _
    behind t (x ∷ ts) h = All-cons (λ k. cmp t k ≡ Less) x ts (h 0 (omega arith)) (behind t ts (λ k less. h (suc k) (omega (arith, less))))

-- 1 for a test that passes and 0 otherwise
abbrev one : Bool → ℕ
one true = 1
one false = 0

abbrev count : (List ℕ → Bool) → List (List ℕ) → ℕ
count p ts = length (filter p ts)

count-cons : (p : List ℕ → Bool) (t : List ℕ) (ts : List (List ℕ)) → count p (t ∷ ts) ≡ one (p t) + count p ts
count-cons p t ts = by (p t)
  where
    by : (b : Bool) → length (cond b (t ∷ filter p ts) (filter p ts)) ≡ one b + count p ts
    by true = omega arith
    by false = omega arith

count_none : (p : List ℕ → Bool) (ts : List (List ℕ)) → All (λ t. p t ≡ false) ts → count p ts ≡ 0
count_none p [] failed = refl
count_none p (t ∷ ts) failed =
    let first : one (p t) ≡ 0 = ap (λ b. one b) (failed 0 t (omega arith)) in
    omega (arith, count-cons p t ts, first, count_none p ts (λ k d less. failed (suc k) d (omega (arith, less))))

-- if exactly the first texts pass, their number is the count
pub count_front : (p : List ℕ → Bool) (ts : List (List ℕ)) (k : ℕ) → k ≤ length ts → ((i : ℕ) → i < k → p (get_or ts i []) ≡ true) →
    ((i : ℕ) → k ≤ i → i < length ts → p (get_or ts i []) ≡ false) → length (filter p ts) ≡ k
count_front p [] k few front back = omega (arith, few)
count_front p (t ∷ ts) zero few front back = count_none p (t ∷ ts) (λ i d less. ap p (get_or_default (t ∷ ts) i d [] less) ∙ back i (omega arith) less)
count_front p (t ∷ ts) (suc k) few front back =
    count-cons p t ts ∙ ap (λ b. one b + count p ts) (front 0 (omega arith))
    ∙ omega (
      arith,
      count_front p ts k (omega (arith, few)) (λ i h. front (suc i) (omega (arith, h)))
          (λ i h within. back (suc i) (omega (arith, h)) (omega (arith, within))),
    )

one_le : (a b : Bool) → (a ≡ true → b ≡ true) → one a ≤ one b
one_le true true f = omega arith
one_le true false f = absurd (false≢true (f refl))
one_le false true f = omega arith
one_le false false f = omega arith

-- a weaker test counts no less
count-le : (p q : List ℕ → Bool) (ts : List (List ℕ)) → ((t : List ℕ) → p t ≡ true → q t ≡ true) → count p ts ≤ count q ts
count-le p q [] f = omega arith
count-le p q (t ∷ ts) f = omega (arith, count-cons p t ts, count-cons q t ts, one_le (p t) (q t) (f t), count-le p q ts f)

count-lt : (p q : List ℕ → Bool) (ts : List (List ℕ)) (x : List ℕ) → ((t : List ℕ) → p t ≡ true → q t ≡ true) → Contains ts x → p x ≡ false → q x ≡ true →
    count p ts < count q ts
count-lt p q [] x f h fails passes = absurd (none x h)
count-lt p q (t ∷ ts) x f h fails passes = ⊎_elim
    (λ is. let a : one (p t) ≡ 0 = ap (λ y. one (p y)) is ∙ ap (λ b. one b) fails in let b : one (q t) ≡ 1 = ap (λ y. one (q y)) is ∙ ap (λ b. one b) passes in
    omega (arith, count-cons p t ts, count-cons q t ts, a, b, count-le p q ts f))
    (λ later. omega (arith, count-cons p t ts, count-cons q t ts, one_le (p t) (q t) (f t), count-lt p q ts x f later fails passes))
    (either t x ts h)

-- a text that is less is before in the order
is_before : (a b : List ℕ) → text_lt a b ≡ true → cmp a b ≡ Less
is_before a b h = by (cmp a b) h
  where
    by : (o : Ordering) → is_lt o ≡ true → o ≡ Less
    by Less h = refl
    by Equal h = absurd (false≢true h)
    by Greater h = absurd (false≢true h)

before_or_same : (a b : List ℕ) → text_le a b ≡ true → (cmp a b ≡ Less) ⊎ (a ≡ b)
before_or_same a b h = by (cmp a b) refl (h)
  where
    by : (o : Ordering) → cmp a b ≡ o → is_le o ≡ true → (cmp a b ≡ Less) ⊎ (a ≡ b)
    by Less is h = inl is
    by Equal is h = inr (same_from_equal a b is)
    by Greater is h = absurd (false≢true h)

not_up_to : (a b : List ℕ) → text_le a b ≡ false → text_lt b a ≡ true
not_up_to a b h = by (cmp a b) refl h
  where
    by : (o : Ordering) → cmp a b ≡ o → is_le o ≡ false → text_lt b a ≡ true
    by Less is h = absurd (false≢true (sym h))
    by Equal is h = absurd (false≢true (sym h))
    by Greater is h = ap is_lt (turned a b Greater is)

not_before : (a b : List ℕ) → text_lt a b ≡ false → text_le b a ≡ true
not_before a b h = by (cmp a b) refl h
  where
    by : (o : Ordering) → cmp a b ≡ o → is_lt o ≡ false → text_le b a ≡ true
    by Less is h = absurd (false≢true (sym h))
    by Equal is h = ap is_le (turned a b Equal is)
    by Greater is h = ap is_le (turned a b Greater is)

itself : (t : List ℕ) → text_lt t t ≡ false
itself t = ap is_lt (tied_itself nat_list_cmp_total t)

lt_le : (a b c : List ℕ) → text_lt a b ≡ true → text_le b c ≡ true → text_lt a c ≡ true
lt_le a b c h k = ⊎_elim (λ l. ap is_lt (nat_list_cmp_total.trans a b c (is_before a b h) l)) (λ is. subst (λ x. text_lt a x ≡ true) is h)
    (before_or_same b c k)

le_lt : (a b c : List ℕ) → text_le a b ≡ true → text_lt b c ≡ true → text_lt a c ≡ true
le_lt a b c h k = ⊎_elim (λ l. ap is_lt (nat_list_cmp_total.trans a b c l (is_before b c k))) (λ is. subst (λ x. text_lt x c ≡ true) (sym is) k)
    (before_or_same a b h)

lt-le : (a b : List ℕ) → text_lt a b ≡ true → text_le a b ≡ true
lt-le a b h = ap is_le (is_before a b h)

le_is : (m n : ℕ) → m ≤ n → nat_le m n ≡ true
le_is m n h = grind (arith, nat_tests)

le_isnt : (m n : ℕ) → n < m → nat_le m n ≡ false
le_isnt m n h = grind (arith, nat_tests)

lt_is : (m n : ℕ) → m < n → nat_lt m n ≡ true
lt_is m n h = grind (arith, nat_tests)

lt_isnt : (m n : ℕ) → n ≤ m → nat_lt m n ≡ false
lt_isnt m n h = grind (arith, nat_tests)

-- a bound admits a text exactly if its counts admit the text's number
pub from_included : (ts : List (List ℕ)) (low t : List ℕ) → Contains ts t → nat_le (before ts low) (before ts t) ≡ text_le low t
from_included ts low t h = by (text_le low t) refl
  where
    by : (b : Bool) → text_le low t ≡ b → nat_le (before ts low) (before ts t) ≡ b
    by true is = le_is _ _ (count-le (λ k. text_lt k low) (λ k. text_lt k t) ts (λ k b. lt_le k low t b is))
    by false is = le_isnt _ _ (count-lt (λ k. text_lt k t) (λ k. text_lt k low) ts t (λ k b. lt_le k t low b (lt-le t low (not_up_to low t is))) h (itself t)
        (not_up_to low t is))

pub from_excluded : (ts : List (List ℕ)) (low t : List ℕ) → Contains ts t → nat_le (up_to ts low) (before ts t) ≡ text_lt low t
from_excluded ts low t h = by (text_lt low t) refl
  where
    by : (b : Bool) → text_lt low t ≡ b → nat_le (up_to ts low) (before ts t) ≡ b
    by true is = le_is _ _ (count-le (λ k. text_le k low) (λ k. text_lt k t) ts (λ k b. le_lt k low t b is))
    by false is = le_isnt _ _ (count-lt (λ k. text_lt k t) (λ k. text_le k low) ts t (λ k b. lt-le k low (lt_le k t low b (not_before low t is))) h (itself t)
        (not_before low t is))

pub to_included : (ts : List (List ℕ)) (high t : List ℕ) → Contains ts t → nat_lt (before ts t) (up_to ts high) ≡ text_le t high
to_included ts high t h = by (text_le t high) refl
  where
    by : (b : Bool) → text_le t high ≡ b → nat_lt (before ts t) (up_to ts high) ≡ b
    by true is = lt_is _ _ (count-lt (λ k. text_lt k t) (λ k. text_le k high) ts t (λ k b. lt-le k high (lt_le k t high b is)) h (itself t) is)
    by false is = lt_isnt _ _ (count-le (λ k. text_le k high) (λ k. text_lt k t) ts (λ k b. le_lt k high t b (not_up_to t high is)))

pub to_excluded : (ts : List (List ℕ)) (high t : List ℕ) → Contains ts t → nat_lt (before ts t) (before ts high) ≡ text_lt t high
to_excluded ts high t h = by (text_lt t high) refl
  where
    by : (b : Bool) → text_lt t high ≡ b → nat_lt (before ts t) (before ts high) ≡ b
    by true is = lt_is _ _ (count-lt (λ k. text_lt k t) (λ k. text_lt k high) ts t (λ k b. lt_le k t high b (lt-le t high is)) h (itself t) is)
    by false is = lt_isnt _ _ (count-le (λ k. text_lt k high) (λ k. text_lt k t) ts (λ k b. lt_le k high t b (not_before t high is)))

-- a text at an index has as many texts before it
pub before-at : (ts : List (List ℕ)) (i : ℕ) → Climbs ts → i < length ts → before ts (get_or ts i []) ≡ i
before-at [] i climbs less = absurd (omega (arith, less))
before-at (t ∷ ts) zero climbs less = count_none (λ s. text_lt s t) (t ∷ ts)
    (All-cons (λ s. text_lt s t ≡ false) t ts (itself t) (λ k d less. ap is_lt (turned t (get_or ts k d) Less (climbs.0 k d less))))
before-at (t ∷ ts) (suc i) climbs less =
    let inside : i < length ts = omega (arith, less) in
    let is : text_lt t (get_or ts i []) ≡ true = ap is_lt (climbs.0 i [] inside) in
    count-cons (λ s. text_lt s (get_or ts i [])) t ts ∙ ap (λ b. one b + before ts (get_or ts i [])) is ∙ omega (arith, before-at ts i climbs.1 inside)
