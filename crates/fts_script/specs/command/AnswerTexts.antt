-- The text of an answer, part by part.
use Rattle.std.specs.Prelude.{◌≡◌, ℕ, List, [], ◌++◌, Option, Some, None, codes}
use Rattle.json.specs.Tree.{json_tokens}
use Rattle.json.specs.Written.{Written}
use Rattle.serde_json.specs.Data.{Data, Items, array}
use Rattle.serde_json.specs.Written.{compact_text, outline}

-- a writer wrote a value, after what it had
pub record IsWritten (value : Data) (old new : Written) : Type 0 where
  pub tokens : new.tokens ≡ old.tokens ++ json_tokens (outline value)
  pub before : new.before ≡ old.before

-- what comes before the groups and the hits of an answer, after its count
abbrev pub groups_label : List ℕ
groups_label = codes ",\"groups\":"

abbrev pub top_label : List ℕ
top_label = codes ",\"top\":"

-- a list and what stands before it, if it is asked for
abbrev pub list_text : List ℕ → Option Items → List ℕ
list_text label None = []
list_text label (Some items) = label ++ compact_text (array items)
