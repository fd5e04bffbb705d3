-- What the jobs of a search are asked, and what they return.
use Rattle.std.specs.Prelude.{Result, IfOk, IsOkUnless}
use Rattle.std.specs.Arc.{arc_value}
use Rattle.fts_model.specs.declared.query.Request.{Request}
use Rattle.fts_base.specs.declared.refusal.Refusal.{Refusal}
use Rattle.fts_base.specs.declared.refusal.Refusal.TheVariants.{Memory}
use Rattle.fts_model.specs.QueryValues.{QueryValue, query_value}
use Rattle.fts_parts.specs.Parts.{PartValue}
use Rattle.fts_snapshots.specs.Entries.{EntryValue}
use Rattle.fts_collect.specs.Searches.{IsPartOf}
use Rattle.fts_index.specs.declared.searches.search_job.SearchJob.{SearchJob}

-- a query and a request, asked of one segment
pub record Asked : Type 0 where
  pub query : QueryValue
  pub request : Request
  pub entry : EntryValue

-- what one query and request ask of a segment
abbrev pub asks : QueryValue → Request → EntryValue → Asked
asks query request entry = record { query = query; request = request; entry = entry }

-- what a job is asked
abbrev pub asked_of : SearchJob → Asked
asked_of job = record { query = query_value (arc_value job.query); request = job.request; entry = job.entry }

-- a result is the part that was asked for, or says that memory ran out
abbrev pub Tells : Asked → Result PartValue Refusal → Type 0
Tells asked result = IfOk result (IsPartOf asked.query asked.request asked.entry) × IsOkUnless result Memory

-- a job returns what it is asked
abbrev pub AnswersSearch : SearchJob → Result PartValue Refusal → Type 0
AnswersSearch job result = Tells (asked_of job) result
