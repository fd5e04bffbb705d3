-- What a writer publishes: which lists of publications there are, and what is known of one.
use Rattle.std.specs.Prelude.{◌≡◌, ℕ, ◌≤◌, List, [], ◌∷◌, ◌++◌, AllPairs, Some, fold, slice_get}
use Rattle.logbook.specs.Pages.{Book}
use Rattle.fts_model.specs.declared.schema.Field.{Field}
use Rattle.fts_snapshots.specs.Snapshots.{SnapshotValue, content_of}
use Rattle.fts_snapshots.specs.Stamps.{IsStamped}
use Rattle.fts_index.specs.declared.publications.publication.Publication.{Publication}

-- the publication that a writer begins with: stamp 0, and no document
abbrev pub opening : List Field → Publication
opening schema = record { stamp = 0; schema = schema; content = [] }

-- the publication of a snapshot at a commit stamp
abbrev pub publication : ℕ → SnapshotValue → Publication
publication stamp snapshot = record { stamp = stamp; schema = snapshot.schema; content = content_of snapshot }

-- q may be published after p: the schema stays, stamps never fall, and equal stamps have equal contents
pub record Follows (p q : Publication) : Type 0 where
  pub schema : p.schema ≡ q.schema
  pub stamp : p.stamp ≤ q.stamp
  pub content : p.stamp ≡ q.stamp → p.content ≡ q.content

-- the last publication
abbrev pub newest : List Publication → Publication
newest list = fold (λ before p. p) (opening []) list

-- what one writer may have published: the opening, and then what follows all before
pub record ArePublications (list : List Publication) : Type 0 where
  pub opens : slice_get list 0 ≡ Some (opening (newest list).schema)
  pub follow : AllPairs Follows list

-- what is known of the publications of a writer: which writer it is, and a beginning of its one list of publications
pub record Known : Type 0 where
  pub of : Book
  pub list : List Publication

-- the schema of the writer, which all its publications have
abbrev pub schema_of : Known → List Field
schema_of known = (newest known.list).schema

-- a snapshot at its commit stamp, with the publications that were known when it was taken
pub record FrontValue : Type 0 where
  pub stamp : ℕ
  pub snapshot : SnapshotValue
  pub seen : Known

-- a writer's front once a snapshot was published at a stamp: its list has one publication more
abbrev pub published : ℕ → SnapshotValue → FrontValue → FrontValue
published stamp snapshot f = record {
  stamp = stamp;
  snapshot = snapshot;
  seen = record { of = f.seen.of; list = f.seen.list ++ publication stamp snapshot ∷ [] };
}

-- the known publications are those of one writer, and the last has this stamp, schema and content
pub record IsFront (f : FrontValue) : Type 0 where
  pub legal : ArePublications f.seen.list
  pub last : newest f.seen.list ≡ publication f.stamp f.snapshot
  pub stamped : IsStamped f.stamp f.snapshot

-- two fronts are of one commit: the same stamp, schema and content, however the content is cut into segments
pub record IsOneCommit (a b : FrontValue) : Type 0 where
  pub stamp : a.stamp ≡ b.stamp
  pub schema : a.snapshot.schema ≡ b.snapshot.schema
  pub content : content_of a.snapshot ≡ content_of b.snapshot
