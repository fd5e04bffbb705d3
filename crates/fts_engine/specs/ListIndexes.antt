-- A plain list of documents as an index.
use Rattle.fts_engine.specs.declared.list_engine.ListEngine.{ListEngine}
use Rattle.fts_engine.specs.Indexes.{Index}

abbrev pub index_of : ListEngine → Index
index_of e = record {
  schema = e.schema;
  documents = e.documents.items;
  commit_stamp = e.commit_stamp;
  uncommitted = e.uncommitted.items;
}
