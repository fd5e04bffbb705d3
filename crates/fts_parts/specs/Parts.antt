-- The answer over the hits of one segment, and when parts are the answers over the hits of a whole.
use Rattle.std.specs.Prelude.{◌≡◌, ℕ, List, map}
use Rattle.std.specs.List.{flat_map}
use Rattle.std.specs.List.Sorted.{IsPermutation}
use Rattle.fts_model.specs.declared.operation.Stamped.{Stamped}
use Rattle.fts_model.specs.declared.query.Request.{Request}
use Rattle.fts_model.specs.Documents.{DocumentValue}
use Rattle.fts_model.specs.Answers.{AnswerValue, answer_of}

-- a part: the answer over its hits, and how many blocks were opened to find them
pub record PartValue : Type 0 where
  pub answer : AnswerValue
  pub openings : ℕ

-- each list of hits after the one before it
abbrev pub joined : List (List (Stamped DocumentValue)) → List (Stamped DocumentValue)
joined lists = flat_map (λ hits. hits) lists

-- the hits were cut in some way into lists, whatever their order, and each part is the answer over one of these
pub record ArePartsOf (request : Request) (hits : List (Stamped DocumentValue)) (parts : List PartValue) : Type 0 where
  pub lists : List (List (Stamped DocumentValue))
  pub cut : IsPermutation (joined lists) hits
  pub told : map (λ part. part.answer) parts ≡ map (answer_of request) lists
