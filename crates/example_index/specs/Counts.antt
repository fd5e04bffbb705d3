-- What a count of a commit is.
use Rattle.std.specs.Prelude.{◌≡◌, ℕ, List, Ok, length}
use Rattle.dilforec.specs.Outcomes.{Reads}
use Rattle.dilforec.specs.QueryValues.{QueryValue}
use Rattle.dilforec.specs.Queries.{hits}
use Rattle.dilforec.specs.Snapshots.{content_of}
use Rattle.dilforec.specs.Publications.{FrontValue}

-- this many of the documents alive at a commit match the query that a text is
pub record IsCountOf (commit : FrontValue) (text : List ℕ) (n : ℕ) : Type 0 where
  pub query : QueryValue
  pub reads : Reads commit.snapshot.schema text (Ok query)
  pub count : n ≡ length (hits commit.snapshot.schema query (content_of commit.snapshot))
