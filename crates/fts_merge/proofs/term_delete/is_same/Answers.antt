use Rattle.std.proofs.Common.{◌≡◌, ◌&&◌, Bool, true, false, ℕ, List, [], ◌∷◌, nat_eq, refl, ap, ap₂, sym, ◌∙◌}
use Rattle.std.proofs.lemmas.Bool.{eqb-true}
use Rattle.std.proofs.lemmas.Slice.Eq.{bytes_eq-Decides}
use Rattle.std.proofs.lemmas.Bool.Decides.{Decides-int_eq}
use Rattle.std.specs.Cmp.Lexicographic.{pointwise}
use Rattle.std.specs.Ordering.{int_eq}
use Rattle.std.specs.Str.{bytes_eq}
use Rattle.fts_model.specs.declared.operation.Term.{Term}
use Rattle.fts_model.specs.declared.value.FieldValue.{FieldValue}
use Rattle.fts_model.specs.declared.value.FieldValue.TheVariants as values
use Rattle.fts_model.specs.declared.value.Number.TheVariants as numbers
use Rattle.fts_model.specs.contracts.operation.TermPartialEq.TheImpl as equal
use Rattle.fts_merge.proofs.term_delete.is_same.Goals as goal

both : (a b : Bool) → (a && b) ≡ true → (a ≡ true) × (b ≡ true)
both true b e = (refl, e)
both false b e = absurd (cc)

-- lists of texts are one list if each text is that of the other
same_texts : (xs ys : List (List ℕ)) → pointwise bytes_eq xs ys ≡ true → xs ≡ ys
same_texts [] [] e = refl
same_texts [] (y ∷ ys) e = absurd (cc)
same_texts (x ∷ xs) [] e = absurd (cc)
same_texts (x ∷ xs) (y ∷ ys) e =
    let h = both (bytes_eq x y) (pointwise bytes_eq xs ys) e in
    ap₂ (λ z zs. z ∷ zs) ((bytes_eq-Decides x y).0 h.0) (same_texts xs ys h.1)

-- terms are one if the derived test says so
same : (f g : ℕ) (v w : FieldValue) → equal.ghosts.eq (record { field = f; value = v }) (record { field = g; value = w }) ≡ true → (f ≡ g) × (v ≡ w)
same f g (values.Text s) (values.Text t) e = let h = both (nat_eq f g) (bytes_eq s t) e in (eqb-true f g h.0, ap values.Text ((bytes_eq-Decides s t).0 h.1))
same f g (values.Texts s) (values.Texts t) e = let h = both (nat_eq f g) (pointwise bytes_eq s t) e in (eqb-true f g h.0, ap values.Texts (same_texts s t h.1))
same f g (values.Number (numbers.U64 n)) (values.Number (numbers.U64 m)) e =
    let h = both (nat_eq f g) (nat_eq n m) e in (eqb-true f g h.0, ap (λ x. values.Number (numbers.U64 x)) (eqb-true n m h.1))
same f g (values.Number (numbers.I64 n)) (values.Number (numbers.I64 m)) e =
    let h = both (nat_eq f g) (int_eq n m) e in (eqb-true f g h.0, ap (λ x. values.Number (numbers.I64 x)) ((Decides-int_eq n m).0 h.1))
same f g (values.Number (numbers.U64 n)) (values.Number (numbers.I64 m)) e = let h = (both (nat_eq f g) false e).1 in absurd (cc)
same f g (values.Number (numbers.I64 n)) (values.Number (numbers.U64 m)) e = let h = (both (nat_eq f g) false e).1 in absurd (cc)
same f g (values.Text s) (values.Texts t) e = let h = (both (nat_eq f g) false e).1 in absurd (cc)
same f g (values.Text s) (values.Number m) e = let h = (both (nat_eq f g) false e).1 in absurd (cc)
same f g (values.Texts s) (values.Text t) e = let h = (both (nat_eq f g) false e).1 in absurd (cc)
same f g (values.Texts s) (values.Number m) e = let h = (both (nat_eq f g) false e).1 in absurd (cc)
same f g (values.Number n) (values.Text t) e = let h = (both (nat_eq f g) false e).1 in absurd (cc)
same f g (values.Number n) (values.Texts t) e = let h = (both (nat_eq f g) false e).1 in absurd (cc)

pub returns : goal.returns
returns c = λ e.
    let t = c.args.term.now in
    let o = c.args.other.now in
    let h = same t.field o.field t.value o.value (sym c.eq.ensures ∙ e) in
    ap₂ (λ f v. let made : Term = record { field = f; value = v } in made) h.0 h.1
