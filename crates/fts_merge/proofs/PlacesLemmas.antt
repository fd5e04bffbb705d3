-- The indexes of live documents in a merged segment.
use Rattle.std.proofs.Common.{◌≡◌, ◌+◌, ◌-◌, ◌<◌, ◌≤◌, ℕ, zero, suc, Bool, true, false, List, [], ◌∷◌, ◌++◌, Some, None, length, refl, sym, ap, ap₂, ◌∙◌}
use Rattle.std.proofs.Common.{⊎_elim, arith, All}
use Rattle.std.specs.Prelude.{slice_get}
use Rattle.std.proofs.lemmas.Bool.{cases_lt}
use Rattle.std.proofs.lemmas.List.Elements.{All-head, All-tail}
use Rattle.std.proofs.lemmas.Option.{slice_get_within}
use Rattle.fts_model.specs.declared.operation.Stamped.{Stamped}
use Rattle.fts_model.specs.Documents.{DocumentValue}
use Rattle.fts_merge.specs.declared.origin.Origin.{Origin}
use Rattle.fts_segment.specs.Contents.{where_set, content_of}
use Rattle.fts_merge.specs.Merges.{SourceValue, HasBits, contents, origins_in, origins_from}
use Rattle.fts_segment.proofs.SourceLemmas.{length-where_set}
use Rattle.fts_merge.proofs.MergeLemmas.{origins_behind, origins-cons}
use Rattle.fts_merge.proofs.OriginsLemmas.{length-origins_behind}

-- the members of two appended lists
get_left : {X : Type 0} (xs ys : List X) (i : ℕ) → i < length xs → slice_get (xs ++ ys) i ≡ slice_get xs i
get_left [] ys i h = absurd (omega (arith, h))
get_left (x ∷ xs) ys zero h = refl
get_left (x ∷ xs) ys (suc i) h = get_left xs ys i (omega (arith, h))

get_right : {X : Type 0} (xs ys : List X) (i : ℕ) → slice_get (xs ++ ys) (length xs + i) ≡ slice_get ys i
get_right [] ys i = ap (slice_get ys) (omega arith)
get_right (x ∷ xs) ys i =
    let next : suc (length xs) + i ≡ suc (length xs + i) = omega arith in
    ap (slice_get (x ∷ (xs ++ ys))) next ∙ get_right xs ys i

-- each live document has its index among those taken from its source
placed_in : (source n : ℕ) (ds : List (Stamped DocumentValue)) (bits : List Bool) (document : ℕ) → length bits ≡ length ds →
    slice_get bits document ≡ Some true →
    (place : ℕ) × (slice_get (origins_behind source n bits) place ≡ Some (record { source = source; document = n + document }))
    × (slice_get (where_set ds bits) place ≡ slice_get ds document)
placed_in source n [] [] document e h = absurd (let no : None ≡ Some true = h in cc)
placed_in source n [] (bit ∷ bits) document e h = absurd (omega (arith, e))
placed_in source n (d ∷ ds) [] document e h = absurd (omega (arith, e))
placed_in source n (d ∷ ds) (true ∷ bits) zero e h =
    (0, ap (λ os. slice_get os 0) (origins-cons source n true bits) ∙ ap (λ (m : ℕ). Some (record { source = source; document = m })) (omega arith), refl)
placed_in source n (d ∷ ds) (false ∷ bits) zero e h = absurd (let no : Some false ≡ Some true = h in cc)
placed_in source n (d ∷ ds) (true ∷ bits) (suc document) e h =
    let rest = placed_in source (n + 1) ds bits document (omega (arith, e)) h in (
      suc rest.0,
      ap (λ os. slice_get os (suc rest.0)) (origins-cons source n true bits) ∙ rest.1 ∙ ap (λ (m : ℕ). Some (record { source = source; document = m }))
          (omega arith),
      rest.2,
    )
placed_in source n (d ∷ ds) (false ∷ bits) (suc document) e h =
    let rest = placed_in source (n + 1) ds bits document (omega (arith, e)) h in (
      rest.0,
      ap (λ os. slice_get os rest.0) (origins-cons source n false bits) ∙ rest.1 ∙ ap (λ (m : ℕ). Some (record { source = source; document = m }))
          (omega arith),
      rest.2,
    )

-- a source has as many origins as live documents
same_length : (n : ℕ) (s : SourceValue) → HasBits s → length (origins_in n s.live) ≡ length (content_of s.segment s.live)
same_length n s here = length-origins_behind n 0 s.live ∙ sym (length-where_set s.segment.documents s.live here)

-- each live document of a source has its index in the merged segment
pub placed_from : (n : ℕ) (ss : List SourceValue) (number : ℕ) (s : SourceValue) (document : ℕ) → All HasBits ss → slice_get ss number ≡ Some s →
    slice_get s.live document ≡ Some true →
    (place : ℕ) × (slice_get (origins_from n ss) place ≡ Some (record { source = n + number; document = document }))
    × (slice_get (contents ss) place ≡ slice_get s.segment.documents document)
placed_from n [] number s document bits is live = absurd (let no : None ≡ Some s = is in cc)
placed_from n (t ∷ ss) zero s document bits is live =
    let same : t ≡ s = cc in
    let here : HasBits t = All-head HasBits t ss bits in
    let at = placed_in n 0 t.segment.documents t.live document here (ap (λ (u : SourceValue). slice_get u.live document) same ∙ live) in
    let within = slice_get_within (origins_in n t.live) at.0 (record { source = n; document = 0 + document }) at.1 in (
      at.0,
      get_left (origins_in n t.live) (origins_from (n + 1) ss) at.0 within ∙ at.1 ∙ ap₂ (λ (a b : ℕ). Some (record { source = a; document = b })) (omega arith)
          (omega arith),
      get_left (content_of t.segment t.live) (contents ss) at.0 (omega (arith, within, same_length n t here)) ∙ at.2
          ∙ ap (λ (u : SourceValue). slice_get u.segment.documents document) same,
    )
placed_from n (t ∷ ss) (suc number) s document bits is live =
    let here : HasBits t = All-head HasBits t ss bits in
    let rest = placed_from (n + 1) ss number s document (All-tail HasBits t ss bits) is live in (
      length (origins_in n t.live) + rest.0,
      get_right (origins_in n t.live) (origins_from (n + 1) ss) rest.0 ∙ rest.1 ∙ ap (λ (a : ℕ). Some (record { source = a; document = document }))
          (omega arith),
      ap (λ k. slice_get (contents (t ∷ ss)) (k + rest.0)) (same_length n t here) ∙ get_right (content_of t.segment t.live) (contents ss) rest.0 ∙ rest.2,
    )

-- each origin in a source is that of a live document
told_in : (source n : ℕ) (ds : List (Stamped DocumentValue)) (bits : List Bool) (place : ℕ) (o : Origin) → length bits ≡ length ds →
    slice_get (origins_behind source n bits) place ≡ Some o →
    (document : ℕ) × (o ≡ record { source = source; document = n + document }) × (slice_get bits document ≡ Some true)
    × (slice_get ds document ≡ slice_get (where_set ds bits) place)
told_in source n [] [] place o e h = absurd (let no : None ≡ Some o = h in cc)
told_in source n [] (bit ∷ bits) place o e h = absurd (omega (arith, e))
told_in source n (d ∷ ds) [] place o e h = absurd (omega (arith, e))
told_in source n (d ∷ ds) (true ∷ bits) zero o e h =
    let first : Some (record { source = source; document = n }) ≡ Some o = sym (ap (λ os. slice_get os 0) (origins-cons source n true bits)) ∙ h in
    let is : record { source = source; document = n } ≡ o = cc in
    (0, sym is ∙ ap (λ (m : ℕ). record { source = source; document = m }) (omega arith), refl, refl)
told_in source n (d ∷ ds) (true ∷ bits) (suc place) o e h =
    let rest = told_in source (n + 1) ds bits place o (omega (arith, e)) (sym (ap (λ os. slice_get os (suc place)) (origins-cons source n true bits)) ∙ h) in
    (suc rest.0, rest.1 ∙ ap (λ (m : ℕ). record { source = source; document = m }) (omega arith), rest.2, rest.3)
told_in source n (d ∷ ds) (false ∷ bits) place o e h =
    let rest = told_in source (n + 1) ds bits place o (omega (arith, e)) (sym (ap (λ os. slice_get os place) (origins-cons source n false bits)) ∙ h) in
    (suc rest.0, rest.1 ∙ ap (λ (m : ℕ). record { source = source; document = m }) (omega arith), rest.2, rest.3)

-- an origin in a merged segment is that of the document at its index
pub record Tells (ss : List SourceValue) (place number document : ℕ) : Type 0 where
  pub source : SourceValue
  pub is : slice_get ss number ≡ Some source
  pub live : slice_get source.live document ≡ Some true
  pub stored : slice_get source.segment.documents document ≡ slice_get (contents ss) place

-- each origin in a merged segment is that of a live document
pub told_from : (n : ℕ) (ss : List SourceValue) (place : ℕ) (o : Origin) → All HasBits ss → slice_get (origins_from n ss) place ≡ Some o →
    (number : ℕ) × (o.source ≡ n + number) × Tells ss place number o.document
told_from n [] place o bits h = absurd (let no : None ≡ Some o = h in cc)
told_from n (s ∷ ss) place o bits h =
    let here : HasBits s = All-head HasBits s ss bits in
    let left = origins_in n s.live in
    ⊎_elim
    (λ (within : place < length left).
    let at = told_in n 0 s.segment.documents s.live place o here (sym (get_left left (origins_from (n + 1) ss) place within) ∙ h) in
    let document : o.document ≡ at.0 = ap (λ (p : Origin). p.document) at.1 ∙ omega arith in (
      0,
      ap (λ (p : Origin). p.source) at.1 ∙ omega arith,
      record {
        source = s;
        is = refl;
        live = ap (slice_get s.live) document ∙ at.2;
        stored = ap (slice_get s.segment.documents) document ∙ at.3
            ∙ sym (get_left (content_of s.segment s.live) (contents ss) place (omega (arith, within, same_length n s here)));
      },
    ))
    (λ (beyond : length left ≤ place).
    let split : place ≡ length left + (place - length left) = omega arith in
    let rest = told_from (n + 1) ss (place - length left) o (All-tail HasBits s ss bits) (sym (get_right left (origins_from (n + 1) ss) (place - length left))
    ∙ ap (slice_get (left ++ origins_from (n + 1) ss)) (sym split) ∙ h) in (
      suc rest.0,
      rest.1 ∙ omega arith,
      record {
        source = rest.2.source;
        is = rest.2.is;
        live = rest.2.live;
        stored = rest.2.stored ∙ sym (get_right (content_of s.segment s.live) (contents ss) (place - length left))
            ∙ ap (slice_get (contents (s ∷ ss))) (omega (arith, split, same_length n s here));
      },
    ))
    (cases_lt place (length left))
