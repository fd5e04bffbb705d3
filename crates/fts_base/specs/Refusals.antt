-- The refusals of the index: each has a number and a name.
use Rattle.std.specs.Prelude.{ℕ, List, codes}
use Rattle.fts_base.specs.declared.refusal.Refusal.{Refusal}
use Rattle.fts_base.specs.declared.refusal.Refusal.TheVariants.{Memory, NoFields, TooManyFields, BadName, NameTwice}
use Rattle.fts_base.specs.declared.refusal.Refusal.TheVariants.{BadDefault, NotAnObject, UnknownField, WrongKind}
use Rattle.fts_base.specs.declared.refusal.Refusal.TheVariants.{TextTooLong, KeywordTooLong, BadLimit, NotANumberField}
use Rattle.fts_base.specs.declared.refusal.Refusal.TheVariants.{SegmentFull, TooLong, Syntax, TooDeep, BadNumber}
use Rattle.fts_base.specs.declared.refusal.Refusal.TheVariants.{RangeOnText, NoDefaultField, AllNegative, TooLarge}
use Rattle.fts_base.specs.declared.refusal.Refusal.TheVariants.{RoundOpen, StampsUsedUp, LaneFull, LaneMissing}
use Rattle.fts_base.specs.declared.refusal.Refusal.TheVariants.{StaleBatch, OtherSchema, UnknownSegment, SegmentTwice}
use Rattle.fts_base.specs.declared.refusal.Refusal.TheVariants.{NoSegments, SourceGone, BadJson, BadCommand, NoSchema}
use Rattle.fts_base.specs.declared.refusal.Refusal.TheVariants.{SchemaTwice, LineTooLong, NoReader, TooManyTexts}

-- the number of a refusal, and its name, as scripts print it
abbrev pub row_of : Refusal → ℕ × List ℕ
row_of Memory = (0, codes "Memory")
-- schemas, documents, terms and requests
row_of NoFields = (1, codes "NoFields")
row_of TooManyFields = (2, codes "TooManyFields")
row_of BadName = (3, codes "BadName")
row_of NameTwice = (4, codes "NameTwice")
row_of BadDefault = (5, codes "BadDefault")
row_of NotAnObject = (6, codes "NotAnObject")
row_of UnknownField = (7, codes "UnknownField")
row_of WrongKind = (8, codes "WrongKind")
row_of TextTooLong = (9, codes "TextTooLong")
row_of KeywordTooLong = (10, codes "KeywordTooLong")
row_of BadLimit = (11, codes "BadLimit")
row_of NotANumberField = (12, codes "NotANumberField")
-- segments and queries
row_of SegmentFull = (13, codes "SegmentFull")
row_of TooLong = (14, codes "TooLong")
row_of (Syntax _) = (15, codes "Syntax")
row_of TooDeep = (16, codes "TooDeep")
row_of BadNumber = (17, codes "BadNumber")
row_of RangeOnText = (18, codes "RangeOnText")
row_of NoDefaultField = (19, codes "NoDefaultField")
row_of AllNegative = (20, codes "AllNegative")
-- merges, rounds and commits
row_of TooLarge = (21, codes "TooLarge")
row_of RoundOpen = (22, codes "RoundOpen")
row_of StampsUsedUp = (23, codes "StampsUsedUp")
row_of LaneFull = (24, codes "LaneFull")
row_of (LaneMissing _) = (25, codes "LaneMissing")
row_of StaleBatch = (26, codes "StaleBatch")
row_of (OtherSchema _) = (27, codes "OtherSchema")
-- segments by number
row_of (UnknownSegment _) = (28, codes "UnknownSegment")
row_of (SegmentTwice _) = (29, codes "SegmentTwice")
row_of NoSegments = (30, codes "NoSegments")
row_of (SourceGone _) = (31, codes "SourceGone")
-- lines and readers
row_of BadJson = (32, codes "BadJson")
row_of BadCommand = (33, codes "BadCommand")
row_of NoSchema = (34, codes "NoSchema")
row_of SchemaTwice = (35, codes "SchemaTwice")
row_of LineTooLong = (36, codes "LineTooLong")
row_of NoReader = (37, codes "NoReader")
row_of TooManyTexts = (38, codes "TooManyTexts")

abbrev pub number_of : Refusal → ℕ
number_of refusal = (row_of refusal).0

abbrev pub name_of : Refusal → List ℕ
name_of refusal = (row_of refusal).1
