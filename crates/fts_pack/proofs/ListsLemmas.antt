-- Lists side by side: those that are stored don't change when others follow.
use Rattle.std.proofs.Common.{◌≡◌, ℕ, zero, suc, ◌+◌, ◌-◌, ◌<◌, ◌≤◌, ◌≢◌, nat_le, true, false, inl, inr, List, [], ◌∷◌, ◌++◌, Result, Ok, Err, Bool, Option, Some, None, IfSome, length, get_or, take, drop, map}
use Rattle.std.proofs.Common.{sum, cond, refl, sym, ap, ap₂, ◌∙◌, subst, arith, length-append, length-drop}
use Rattle.std.specs.Borrow.{Bor}
use Rattle.std.specs.Prelude.{OnErr, option_copied}
use Rattle.std.specs.List.Sorted.{IsStrictlyIncreasing}
use Rattle.std.proofs.lemmas.Bool.{cases_lt}
use Rattle.std.proofs.lemmas.List.{take_all, take-append-le, drop-append-le, drop_at, get_or_append_left, get_or_read, length-take-le, length_push}
use Rattle.std.proofs.lemmas.List.Sums.{sum_by-cons}
use Rattle.std.proofs.Math.Seq.{get_or-append_seam}
use Rattle.fts_pack.specs.declared.lists.Lists.TheInside.{Inside}
use Rattle.fts_pack.specs.declared.list_entry.ListEntry.{ListEntry}
use Rattle.fts_pack.specs.declared.long_entry.LongEntry.{LongEntry}
use Rattle.fts_pack.specs.declared.skip.Skip.{Skip}
use Rattle.fts_pack.specs.ListBits.{AreBitsOf}
use Rattle.fts_pack.specs.Documents.{block_count}
use Rattle.fts_pack.specs.PackedList.{AreBlocksAdded, Extends, IsPackedList, kept_documents}
use Rattle.fts_pack.specs.Lists.{Buffers, no_long, long_at, blocks_from, packed_at, plain_at, documents_at_place, lists_in, IsPlainAt, IsPackedAt, IsStored, AreStored}
use Rattle.fts_pack.proofs.PackedListLemmas.{kept_documents-append, length-kept_documents, length-kept_skips, IsPackedList-append, extends_same}

pub on_err : {T E : Type 0} (r : Result T E) (Q : Type 0) → Q → OnErr r Q
on_err (Ok v) Q h = tt
on_err (Err e) Q h = h

-- the buffers of lists
abbrev pub buffers : Inside → Buffers
buffers l = record { plain = l.plain.items; long = l.long.items; blocks = l.blocks.items; words = l.words.items }

-- each buffer begins with another
pub record IsExtended (b c : Buffers) : Type 0 where
  pub plain : Extends b.plain c.plain
  pub long : Extends b.long c.long
  pub blocks : Extends b.blocks c.blocks
  pub words : Extends b.words c.words

pub place-plain : (b : Buffers) (count place : ℕ) → count ≤ 64 → documents_at_place b count place ≡ plain_at b count place
place-plain b count place few =
    let yes : nat_le count 64 ≡ true = grind arith in
    ap (λ x. cond x (plain_at b count place) (packed_at b count place)) yes

pub place-packed : (b : Buffers) (count place : ℕ) → 64 < count → documents_at_place b count place ≡ packed_at b count place
place-packed b count place many =
    let no : nat_le count 64 ≡ false = grind arith in
    ap (λ x. cond x (plain_at b count place) (packed_at b count place)) no

long_at-extended : (b c : Buffers) (place : ℕ) → IsExtended b c → place < length b.long → long_at c place ≡ long_at b place
long_at-extended b c place x near =
    ap (λ ls. get_or ls place no_long) x.long ∙ get_or_append_left b.long (drop (length b.long) c.long) no_long place near

blocks_from-extended : (b c : Buffers) (count first : ℕ) → IsExtended b c → first + block_count count ≤ length b.blocks →
    blocks_from c count first ≡ blocks_from b count first
blocks_from-extended b c count first x room =
    let more = drop (length b.blocks) c.blocks in
    ap (λ bs. take (block_count count) (drop first bs)) x.blocks
    ∙ ap (take (block_count count)) (drop-append-le first b.blocks more (omega (arith, room)))
    ∙ take-append-le (block_count count) (drop first b.blocks) more (omega (arith, room, length-drop first b.blocks))

blocks_same : (b c : Buffers) (count place : ℕ) → IsExtended b c → IsPackedAt b count place →
    blocks_from c count (long_at c place).first ≡ blocks_from b count (long_at b place).first
blocks_same b c count place x h =
    ap (λ (l : LongEntry). blocks_from c count l.first) (long_at-extended b c place x h.near)
    ∙ blocks_from-extended b c count (long_at b place).first x h.room

packed_at-extended : (b c : Buffers) (count place : ℕ) → IsExtended b c → IsPackedAt b count place → packed_at c count place ≡ packed_at b count place
packed_at-extended b c count place x h =
    let blocks = blocks_from b count (long_at b place).first in
    ap (λ bs. kept_documents c.words 0 count bs) (blocks_same b c count place x h)
    ∙ ap (λ ws. kept_documents ws 0 count blocks) x.words
    ∙ kept_documents-append b.words (drop (length b.words) c.words) 0 count blocks h.is.kept

IsPackedAt-extended : (b c : Buffers) (count place : ℕ) → IsExtended b c → IsPackedAt b count place → IsPackedAt c count place
IsPackedAt-extended b c count place x h =
    let long = long_at-extended b c place x h.near in
    let blocks = blocks_from b count (long_at b place).first in
    let grown : IsPackedList count blocks c.words =
    subst (IsPackedList count blocks) (sym x.words) (IsPackedList-append b.words (drop (length b.words) c.words) count blocks h.is) in
    record {
      near = omega (arith, h.near, ap length x.long, length-append b.long (drop (length b.long) c.long));
      room = subst (λ (l : LongEntry). l.first + block_count count ≤ length c.blocks) (sym long)
          (omega (arith, h.room, ap length x.blocks, length-append b.blocks (drop (length b.blocks) c.blocks)));
      is = subst (λ bs. IsPackedList count bs c.words) (sym (blocks_same b c count place x h)) grown;
      bits = subst (λ (l : LongEntry). IfSome l.bits (AreBitsOf (packed_at c count place))) (sym long)
          (subst (λ ds. IfSome (long_at b place).bits (AreBitsOf ds)) (sym (packed_at-extended b c count place x h)) h.bits);
    }

plain_at-extended : (b c : Buffers) (count place : ℕ) → IsExtended b c → IsPlainAt b count place → plain_at c count place ≡ plain_at b count place
plain_at-extended b c count place x h =
    let more = drop (length b.plain) c.plain in
    ap (λ ds. take count (drop place ds)) x.plain
    ∙ ap (take count) (drop-append-le place b.plain more (omega (arith, h.room)))
    ∙ take-append-le count (drop place b.plain) more (omega (arith, h.room, length-drop place b.plain))

IsPlainAt-extended : (b c : Buffers) (count place : ℕ) → IsExtended b c → IsPlainAt b count place → IsPlainAt c count place
IsPlainAt-extended b c count place x h = record {
  room = omega (arith, h.room, ap length x.plain, length-append b.plain (drop (length b.plain) c.plain));
  rises = subst IsStrictlyIncreasing (sym (plain_at-extended b c count place x h)) h.rises;
}

IsStored-extended : (b c : Buffers) (count place : ℕ) → IsExtended b c → IsStored b count place → IsStored c count place
IsStored-extended b c count place x h = record {
  short = λ few. IsPlainAt-extended b c count place x (h.short few);
  long = λ many. IsPackedAt-extended b c count place x (h.long many);
}

place-extended : (b c : Buffers) (count place : ℕ) → IsExtended b c → IsStored b count place → documents_at_place c count place ≡ documents_at_place b count place
place-extended b c count place x h = elim (cases_lt 64 count) [
  | inl many ↦ place-packed c count place many ∙ packed_at-extended b c count place x (h.long many) ∙ sym (place-packed b count place many)
  | inr few ↦ place-plain c count place few ∙ plain_at-extended b c count place x (h.short few) ∙ sym (place-plain b count place few)
]

pub AreStored-extended : (b c : Buffers) (before : ℕ) (es : List ListEntry) → IsExtended b c → AreStored b before es → AreStored c before es
AreStored-extended b c before [] x h = tt
AreStored-extended b c before (e ∷ es) x h =
    (h.0, IsStored-extended b c (e.end - before) e.place x h.1, AreStored-extended b c e.end es x h.2)

pub lists_in-extended : (b c : Buffers) (before : ℕ) (es : List ListEntry) → IsExtended b c → AreStored b before es →
    lists_in c before es ≡ lists_in b before es
lists_in-extended b c before [] x h = refl
lists_in-extended b c before (e ∷ es) x h =
    ap₂ (λ ds ls. ds ∷ ls) (place-extended b c (e.end - before) e.place x h.1) (lists_in-extended b c e.end es x h.2)

-- the number of documents in lists
pub end_of : ℕ → List ListEntry → ℕ
end_of before [] = before
end_of before (e ∷ es) = end_of e.end es

lists_in-push : (b : Buffers) (before : ℕ) (es : List ListEntry) (e : ListEntry) →
    lists_in b before (es ++ e ∷ []) ≡ lists_in b before es ++ documents_at_place b (e.end - end_of before es) e.place ∷ []
unfolding end_of
lists_in-push b before [] e = refl
lists_in-push b before (f ∷ es) e = ap (λ ls. documents_at_place b (f.end - before) f.place ∷ ls) (lists_in-push b f.end es e)

AreStored-push : (b : Buffers) (before : ℕ) (es : List ListEntry) (e : ListEntry) → AreStored b before es → end_of before es ≤ e.end →
    IsStored b (e.end - end_of before es) e.place → AreStored b before (es ++ e ∷ [])
unfolding end_of
AreStored-push b before [] e h up is = (up, is, tt)
AreStored-push b before (f ∷ es) e h up is = (h.0, h.1, AreStored-push b f.end es e h.2 up is)

length-place : (b : Buffers) (count place : ℕ) → IsStored b count place → length (documents_at_place b count place) ≡ count
length-place b count place h = elim (cases_lt 64 count) [
  | inl many ↦
      ap length (place-packed b count place many)
      ∙ length-kept_documents b.words 0 count (blocks_from b count (long_at b place).first) (h.long many).is.kept
  | inr few ↦
      ap length (place-plain b count place few)
      ∙ length-take-le count (drop place b.plain) (omega (arith, (h.short few).room, length-drop place b.plain))
]

pub rises-place : (b : Buffers) (count place : ℕ) → IsStored b count place → IsStrictlyIncreasing (documents_at_place b count place)
rises-place b count place h = elim (cases_lt 64 count) [
  | inl many ↦ subst IsStrictlyIncreasing (sym (place-packed b count place many)) (h.long many).is.rises
  | inr few ↦ subst IsStrictlyIncreasing (sym (place-plain b count place few)) (h.short few).rises
]

pub length-lists_in : (b : Buffers) (before : ℕ) (es : List ListEntry) → length (lists_in b before es) ≡ length es
length-lists_in b before [] = refl
length-lists_in b before (e ∷ es) = ap suc (length-lists_in b e.end es)

-- the first lists end where their documents do
pub end_of-sum : (b : Buffers) (before number : ℕ) (es : List ListEntry) → AreStored b before es →
    end_of before (take number es) ≡ before + sum (take number (map length (lists_in b before es)))
unfolding end_of
end_of-sum b before zero es h = omega arith
end_of-sum b before (suc number) [] h = omega arith
end_of-sum b before (suc number) (e ∷ es) h =
    let count = length (documents_at_place b (e.end - before) e.place) in
    let rest = take number (map length (lists_in b e.end es)) in
    let more : sum (count ∷ rest) ≡ count + sum rest = sum_by-cons (λ x. x) count rest in
    omega (arith, end_of-sum b e.end number es h.2, more, length-place b (e.end - before) e.place h.1, h.0)

-- a list begins where the one before it ends
pub end_of-take : (before number : ℕ) (es : List ListEntry) (d : ListEntry) → number < length es →
    end_of before (take (suc number) es) ≡ (get_or es number d).end
unfolding end_of
end_of-take before number [] d inside = absurd (omega arith)
end_of-take before zero (e ∷ es) d inside = refl
end_of-take before (suc number) (e ∷ es) d inside = end_of-take e.end number es d (omega (arith, inside))

-- a list, by its entry
pub record IsAt (b : Buffers) (before : ℕ) (es : List ListEntry) (number : ℕ) (e : ListEntry) : Type 0 where
  pub up : end_of before (take number es) ≤ e.end
  pub is : IsStored b (e.end - end_of before (take number es)) e.place
  pub documents_are : get_or (lists_in b before es) number [] ≡ documents_at_place b (e.end - end_of before (take number es)) e.place

pub is_at : (b : Buffers) (before : ℕ) (es : List ListEntry) (number : ℕ) (d : ListEntry) → AreStored b before es → number < length es →
    IsAt b before es number (get_or es number d)
unfolding end_of
is_at b before [] number d h inside = absurd (omega arith)
is_at b before (e ∷ es) zero d h inside = record { up = h.0; is = h.1; documents_are = refl }
is_at b before (e ∷ es) (suc number) d h inside =
    let tail = is_at b e.end es number d h.2 (omega (arith, inside)) in
    record { up = tail.up; is = tail.is; documents_are = tail.documents_are }

-- a list was appended
pub record IsPushed (b c : Buffers) (es fs : List ListEntry) (documents : List ℕ) : Type 0 where
  pub stored : AreStored c 0 fs
  pub lists_are : lists_in c 0 fs ≡ lists_in b 0 es ++ documents ∷ []

pushed : (b c : Buffers) (es fs : List ListEntry) (e : ListEntry) (documents : List ℕ) → IsExtended b c → AreStored b 0 es → fs ≡ es ++ e ∷ [] →
    e.end ≡ end_of 0 es + length documents → IsStored c (length documents) e.place → documents_at_place c (length documents) e.place ≡ documents →
    IsPushed b c es fs documents
pushed b c es fs e documents x h fs_are end is same =
    let count : e.end - end_of 0 es ≡ length documents = omega (arith, end) in
    record {
      stored = subst (AreStored c 0) (sym fs_are) (AreStored-push c 0 es e (AreStored-extended b c 0 es x h) (omega (arith, end))
          (subst (λ n. IsStored c n e.place) (sym count) is));
      lists_are = ap (lists_in c 0) fs_are ∙ lists_in-push c 0 es e
          ∙ ap₂ (λ ls ds. ls ++ ds ∷ []) (lists_in-extended b c 0 es x h)
          (ap (λ n. documents_at_place c n e.place) count ∙ same);
    }

-- all lists end where their documents do
pub end_of-all : (b : Buffers) (es : List ListEntry) (lists : List (List ℕ)) (count end : ℕ) → AreStored b 0 es → lists_in b 0 es ≡ lists →
    end ≡ sum (take (length lists) (map length lists)) + count → end ≡ end_of 0 es + count
end_of-all b es lists count end h is end_is =
    let all = lists_in b 0 es in
    let total : end_of 0 es ≡ sum (take (length all) (map length all)) =
    (let e : end_of 0 (take (length all) es) ≡ sum (take (length all) (map length all)) = omega (arith, end_of-sum b 0 (length all) es h) in
    ap (end_of 0) (sym (take_all (length all) es (omega (arith, length-lists_in b 0 es)))) ∙ e) in
    omega (arith, end_is, total ∙ ap (λ ls. sum (take (length ls) (map length ls))) is)

-- the lists before one have as many documents as its predecessor's entry says
pub start_read : (b : Buffers) (es : List ListEntry) (lists : List (List ℕ)) (number : ℕ) (e : ListEntry) → AreStored b 0 es → lists_in b 0 es ≡ lists →
    number ≢ 0 → number ≤ length lists → e ≡ get_or es (number - 1) e → e.end ≡ sum (take number (map length lists))
start_read b es lists number e h is later within e_is =
    let one : suc (number - 1) ≡ number = omega arith in
    let inside : number - 1 < length es = omega (arith, length-lists_in b 0 es, ap length is, within, later) in
    let total : end_of 0 (take number es) ≡ sum (take number (map length (lists_in b 0 es))) = omega (arith, end_of-sum b 0 number es h) in
    ap (λ (x : ListEntry). x.end) e_is ∙ sym (end_of-take 0 (number - 1) es e inside) ∙ ap (λ n. end_of 0 (take n es)) one ∙ total
    ∙ ap (λ ls. sum (take number (map length ls))) is

-- a list is read from its entry and the number of documents before it
pub record IsRead (b : Buffers) (lists : List (List ℕ)) (number count place : ℕ) : Type 0 where
  pub is : IsStored b count place
  pub documents_are : get_or lists number [] ≡ documents_at_place b count place

pub list_read : (b : Buffers) (es : List ListEntry) (lists : List (List ℕ)) (number start : ℕ) (e : ListEntry) → AreStored b 0 es → lists_in b 0 es ≡ lists →
    number < length lists → start ≡ sum (take number (map length lists)) → e ≡ get_or es number e →
    (start ≤ e.end) × IsRead b lists number (e.end - start) e.place
list_read b es lists number start e h is inside start_is e_is =
    let at = subst (IsAt b 0 es number) (sym e_is) (is_at b 0 es number e h (omega (arith, length-lists_in b 0 es, ap length is, inside))) in
    let total : end_of 0 (take number es) ≡ sum (take number (map length (lists_in b 0 es))) = omega (arith, end_of-sum b 0 number es h) in
    let same : end_of 0 (take number es) ≡ start = total ∙ ap (λ ls. sum (take number (map length ls))) is ∙ sym start_is in (
      subst (λ n. n ≤ e.end) same at.up,
      record {
        is = subst (λ n. IsStored b (e.end - n) e.place) same at.is;
        documents_are = ap (λ ls. get_or ls number []) (sym is) ∙ at.documents_are ∙ ap (λ n. documents_at_place b (e.end - n) e.place) same;
      },
    )

-- a long list is read from its entry
pub record IsLongRead (b : Buffers) (count : ℕ) (documents : List ℕ) (long : LongEntry) : Type 0 where
  pub room : long.first + block_count count ≤ length b.blocks
  pub is : IsPackedList count (blocks_from b count long.first) b.words
  pub documents_are : kept_documents b.words 0 count (blocks_from b count long.first) ≡ documents
  pub bits : IfSome long.bits (AreBitsOf documents)

pub long_read : (b : Buffers) (lists : List (List ℕ)) (number count place : ℕ) (long : LongEntry) → IsRead b lists number count place → 64 < count →
    long ≡ get_or b.long place long → (place < length b.long) × IsLongRead b count (get_or lists number []) long
long_read b lists number count place long r many long_is =
    let h = r.is.long many in
    let here : long_at b place ≡ long = sym (get_or_read b.long place long h.near long_is no_long) in
    let same : packed_at b count place ≡ get_or lists number [] = sym (r.documents_are ∙ place-packed b count place many) in (
      h.near,
      record {
        room = subst (λ (l : LongEntry). l.first + block_count count ≤ length b.blocks) here h.room;
        is = subst (λ (l : LongEntry). IsPackedList count (blocks_from b count l.first) b.words) here h.is;
        documents_are = subst (λ (l : LongEntry). kept_documents b.words 0 count (blocks_from b count l.first) ≡ get_or lists number []) here same;
        bits = subst (λ (l : LongEntry). IfSome l.bits (AreBitsOf (get_or lists number []))) here
            (subst (λ ds. IfSome (long_at b place).bits (AreBitsOf ds)) same h.bits);
      },
    )

-- bits that are borrowed are those of the documents
pub bits_borrowed : (found : Option (Bor (List Bool))) (bits : Option (List Bool)) (documents : List ℕ) → option_copied found ≡ bits →
    IfSome bits (AreBitsOf documents) → IfSome found (λ b. AreBitsOf documents b.now)
bits_borrowed None bits documents is h = tt
bits_borrowed (Some b) bits documents is h = subst (λ o. IfSome o (AreBitsOf documents)) (sym is) h

-- each list rises
pub list_rises : (b : Buffers) (es : List ListEntry) (lists : List (List ℕ)) (number : ℕ) (d : ListEntry) → AreStored b 0 es → lists_in b 0 es ≡ lists →
    number < length lists → IsStrictlyIncreasing (get_or lists number [])
list_rises b es lists number d h is inside =
    let at = is_at b 0 es number d h (omega (arith, length-lists_in b 0 es, ap length is, inside)) in
    let e = get_or es number d in
    subst (λ (ls : List (List ℕ)). IsStrictlyIncreasing (get_or ls number [])) is
    (subst IsStrictlyIncreasing (sym at.documents_are) (rises-place b (e.end - end_of 0 (take number es)) e.place at.is))

-- other plain documents
abbrev pub with_plain : Buffers → List ℕ → Buffers
with_plain b plain = record { plain = plain; long = b.long; blocks = b.blocks; words = b.words }

-- other blocks
abbrev pub with_packed : Buffers → List LongEntry → List Skip → List ℕ → Buffers
with_packed b long blocks words = record { plain = b.plain; long = long; blocks = blocks; words = words }

pub IsExtended-plain : (b : Buffers) (plain : List ℕ) → Extends b.plain plain → IsExtended b (with_plain b plain)
IsExtended-plain b plain h = record { plain = h; long = extends_same b.long; blocks = extends_same b.blocks; words = extends_same b.words }

pub IsExtended-packed : (b : Buffers) (long : List LongEntry) (blocks : List Skip) (words : List ℕ) → Extends b.long long → Extends b.blocks blocks →
    Extends b.words words → IsExtended b (with_packed b long blocks words)
IsExtended-packed b long blocks words l s w = record { plain = extends_same b.plain; long = l; blocks = s; words = w }

-- the lists are the same if no entry was appended
pub kept : (b c : Buffers) (es fs : List ListEntry) (lists : List (List ℕ)) → IsExtended b c → AreStored b 0 es → lists_in b 0 es ≡ lists → fs ≡ es →
    AreStored c 0 fs × (lists_in c 0 fs ≡ lists)
kept b c es fs lists x h is same = (
  subst (AreStored c 0) (sym same) (AreStored-extended b c 0 es x h),
  ap (lists_in c 0) same ∙ lists_in-extended b c 0 es x h ∙ is,
)

pub pushed-plain : (b c : Buffers) (es fs : List ListEntry) (e : ListEntry) (documents : List ℕ) → IsExtended b c → AreStored b 0 es → fs ≡ es ++ e ∷ [] →
    e.end ≡ end_of 0 es + length documents → e.place ≡ length b.plain → c.plain ≡ b.plain ++ documents → length documents ≤ 64 →
    IsStrictlyIncreasing documents → IsPushed b c es fs documents
pushed-plain b c es fs e documents x h fs_are end place plain few rises =
    let count = length documents in
    let rest : drop e.place c.plain ≡ documents = ap₂ drop place plain ∙ drop_at b.plain documents (length b.plain) refl in
    let there : plain_at c count e.place ≡ documents = ap (take count) rest ∙ take_all count documents (omega arith) in
    let is : IsPlainAt c count e.place = record {
      room = omega (arith, place, ap length plain, length-append b.plain documents);
      rises = subst IsStrictlyIncreasing (sym there) rises;
    } in
    pushed b c es fs e documents x h fs_are end (record { short = λ _. is; long = λ many. absurd (omega (arith, many, few)) })
    (place-plain c count e.place few ∙ there)

pub pushed-packed : (b c : Buffers) (es fs : List ListEntry) (e : ListEntry) (l : LongEntry) (documents : List ℕ) → IsExtended b c → AreStored b 0 es →
    fs ≡ es ++ e ∷ [] → e.end ≡ end_of 0 es + length documents → e.place ≡ length b.long → c.long ≡ b.long ++ l ∷ [] → l.first ≡ length b.blocks →
    AreBlocksAdded documents b.blocks c.blocks c.words → IfSome l.bits (AreBitsOf documents) → 64 < length documents → IsPushed b c es fs documents
pushed-packed b c es fs e l documents x h fs_are end place long first added bits many =
    let count = length documents in
    let here : long_at c e.place ≡ l = ap₂ (λ ls n. get_or ls n no_long) long place ∙ get_or-append_seam b.long l [] no_long in
    let new = drop (length b.blocks) c.blocks in
    let size : length new ≡ block_count count = length-kept_skips c.words 0 count new added.is.kept in
    let blocks : blocks_from c count (long_at c e.place).first ≡ new =
    ap (λ (k : LongEntry). blocks_from c count k.first) here ∙ ap (λ n. take (block_count count) (drop n c.blocks)) first
    ∙ take_all (block_count count) new (omega (arith, size)) in
    let there : packed_at c count e.place ≡ documents = ap (kept_documents c.words 0 count) blocks ∙ added.documents_are in
    let is : IsPackedAt c count e.place = record {
      near = omega (arith, place, ap length long, length_push b.long l);
      room = subst (λ (k : LongEntry). k.first + block_count count ≤ length c.blocks) (sym here)
          (omega (arith, first, size, length-drop (length b.blocks) c.blocks, many));
      is = subst (λ bs. IsPackedList count bs c.words) (sym blocks) added.is;
      bits = subst (λ (k : LongEntry). IfSome k.bits (AreBitsOf (packed_at c count e.place))) (sym here)
          (subst (λ ds. IfSome l.bits (AreBitsOf ds)) (sym there) bits);
    } in
    pushed b c es fs e documents x h fs_are end (record { short = λ few. absurd (omega (arith, many, few)); long = λ _. is })
    (place-packed c count e.place many ∙ there)
