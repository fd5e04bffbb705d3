-- The levels of a list as the code reads them: each is a sequence of items of the level below.
--
-- Only proofs and contracts within the crate need this file.
use Rattle.std.specs.Prelude.{ℕ, suc, List, [], ◌∷◌, length, codes, Option, Some, None, map}
use Rattle.fts_base.specs.Results.{result_map}
use Rattle.fts_query.specs.declared.clauses.Occur.TheVariants.{Should}
use Rattle.fts_query.specs.declared.reader.Level.{Level}
use Rattle.fts_query.specs.declared.reader.Level.TheVariants as levels
use Rattle.fts_query.specs.declared.reader.Factor.{Factor as CodeFactor}
use Rattle.fts_query.specs.declared.reader.SequenceItem.{SequenceItem as CodePart}
use Rattle.fts_query.specs.declared.reader.SequenceItem.TheVariants as parts
use Rattle.fts_model.specs.QueryValues.{query_value}
use Rattle.fts_query.specs.Meanings.{Meaning, Factor, Clause, occur_in_conjunction, occur_alone, conjunction, node}
use Rattle.fts_query.specs.Gathering.{Gathered, gather_all}
use Rattle.fts_query.specs.Reading.{Parser, operator_at, space_at, follow, seq_by, over, factor_of}

-- a sequence as an item of the level above: its only factor, or the node of its clauses
pub data SequenceItem : Type 0 where
  lone : Factor → SequenceItem
  several : Meaning → SequenceItem

abbrev pub factor_seen : CodeFactor → Factor
factor_seen f = (f.modifier, result_map query_value f.unit)

abbrev pub part_seen : CodePart → SequenceItem
part_seen (parts.Lone f) = lone (factor_seen f)
part_seen (parts.Several m) = several (result_map query_value m)

-- an item as a clause of the node of its level
abbrev pub clause_of : Level → SequenceItem → Clause
clause_of levels.Conjunction (lone f) = (occur_in_conjunction f.0, f.1)
clause_of levels.Disjunction (lone f) = (Should, conjunction (f ∷ []))
clause_of levels.List (lone f) = (occur_alone f.0, f.1)
clause_of level (several m) = (Should, m)

abbrev pub node_of : Level → List SequenceItem → Meaning
node_of level ps = node (map (clause_of level) ps)

-- a sequence of items: a single item is itself, and several make a node
abbrev pub joined : Level → List SequenceItem → SequenceItem
joined level [] = several (node_of level [])
joined level (p ∷ []) = p
joined level (p ∷ q ∷ ps) = several (node_of level (p ∷ q ∷ ps))

-- the rest after the separator of a level, if there is one
abbrev pub separator_of : Level → List ℕ → Option (List ℕ)
separator_of levels.Conjunction s = operator_at (codes "AND") s
separator_of levels.Disjunction s = operator_at (codes "OR") s
separator_of levels.List s = space_at s

-- a sequence of items that `item` reads
unfoldable pub sequence_by : Level → Parser SequenceItem → Parser SequenceItem
sequence_by level item s = over (joined level) (seq_by (suc (length s)) (separator_of level) item s)

abbrev pub factor_part : Parser Meaning → Parser SequenceItem
factor_part unit s = over lone (factor_of unit s)

-- an item of a level
abbrev pub item_of : Level → Parser Meaning → Parser SequenceItem
item_of levels.Conjunction unit s = factor_part unit s
item_of levels.Disjunction unit s = sequence_by levels.Conjunction (factor_part unit) s
item_of levels.List unit s = sequence_by levels.Disjunction (sequence_by levels.Conjunction (factor_part unit)) s

-- a sequence of a level
abbrev pub sequence_of : Level → Parser Meaning → Parser SequenceItem
sequence_of level unit s = sequence_by level (item_of level unit) s

-- the items that follow one at its level, at most n
abbrev pub following : ℕ → Level → Parser Meaning → Parser (List SequenceItem)
following n level unit s = follow (separator_of level s) s (λ t. seq_by n (separator_of level) (item_of level unit) t)

-- the clauses so far with those of the items that are read
abbrev pub then_gathered : Level → Gathered → Option (List SequenceItem × List ℕ) → Option (Gathered × List ℕ)
then_gathered level g None = None
then_gathered level g (Some x) = Some (gather_all g (map (clause_of level) x.0), x.1)
