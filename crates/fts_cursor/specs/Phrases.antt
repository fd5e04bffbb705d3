-- The positions of a phrase, by the positions of its terms.
use Rattle.std.specs.Prelude.{◌≡◌, ℕ, ◌+◌, ◌^◌, ◌≤◌, ◌==◌, nat_lt, Bool, true, List, [], ◌∷◌}
use Rattle.std.specs.Prelude.{All, filter, length, slice_index_or}
use Rattle.std.specs.List.{AllZip, list_all, list_any}
use Rattle.std.specs.List.Sorted.{IsStrictlyIncreasing}
use Rattle.fts_pack.specs.Documents.{blocks_of}
use Rattle.fts_segment.specs.ListIds.{documents_in}
use Rattle.fts_cursor.specs.declared.phrase.Member.{Member}
use Rattle.fts_postings.specs.Conjoined.{Conjoined, common_of}
use Rattle.fts_postings.specs.Sets.{FirstPasses}
use Rattle.fts_cursor.specs.Terms.{AreTied}

-- how many of these are before a document
abbrev pub rank : List ℕ → ℕ → ℕ
rank documents doc = length (filter (λ d. nat_lt d doc) documents)

-- the positions of a member's term in a document
abbrev pub positions_at : Member → ℕ → List ℕ
positions_at member doc = slice_index_or member.positions (rank (documents_in member.list) doc) []

-- a member has a position whose distance from another member's is that of their offsets
abbrev pub is_behind : ℕ → ℕ → ℕ → Member → Bool
is_behind offset position doc member = list_any (λ q. q + offset == position + member.offset) (positions_at member doc)

-- the members are at their offsets from some one position of a document
abbrev pub phrase_at : List Member → ℕ → Bool
phrase_at [] doc = true
phrase_at (first ∷ others) doc = list_any (λ p. list_all (is_behind first.offset p doc) others) (positions_at first doc)

-- each cursor goes over the list of its member, that of the leading one first
pub record AreMembersOf (terms : Conjoined) (members : List Member) : Type 0 where
  pub paired : AllZip (λ p m. p.blocks ≡ blocks_of (documents_in m.list)) (terms.lead ∷ terms.others) members
  pub rise : All (λ m. IsStrictlyIncreasing (documents_in m.list)) members
  pub few : All (λ m. length (documents_in m.list) ≤ 2 ^ 32) members

-- a cursor that is at a document with the phrase, or at its end
pub record IsPhrase (terms : Conjoined) (members : List Member) : Type 0 where
  pub members_are : AreMembersOf terms members
  pub settled : FirstPasses (phrase_at members) (common_of terms)
  pub tied : AreTied terms
