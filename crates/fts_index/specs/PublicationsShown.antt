-- The rule over what readers are shown: each seat knows no writer, or the one whose front is shown.
use Rattle.std.specs.Prelude.{◌≡◌, ℕ, List, Option, Some, None, Result, IfOk, IfSome}
use Rattle.std.specs.declared.alloc.AllocError.{AllocError}
use mathlib.Core.Option.{some}
use lib.ListN.{get_elem?}
use Rattle.logbook.specs.Pages.{Book}
use Rattle.atomic_table.specs.declared.shared.Seat.{Seat}
use Rattle.left_right.specs.declared.part.Part.{Part}
use Rattle.left_right.specs.declared.board.Doing.{Doing}
use Rattle.left_right.specs.Sides.{view}
use Rattle.fts_index.specs.Publications.{FrontValue}
use Rattle.fts_index.specs.declared.publications.writer_id.WriterId.{WriterId}

-- the writer that a seat knows, if it knows one
abbrev pub told_name : {T : Type 0} → Seat (Option (Part T)) (Doing T (Option WriterId)) → Option WriterId
told_name = view

abbrev pub name_of : Book → WriterId
name_of b = record { number = b.number; log_name = b.log_name; cells_name = b.cells_name }

-- the writer that a seat knows, if it knows one, is that of the book
abbrev pub KnowsName : Option WriterId → Book → Type 0
KnowsName None b = Unit {0}
KnowsName (Some n) b = n ≡ name_of b

abbrev pub IsOfOne : FrontValue → List (Option WriterId) → Type 0
IsOfOne shown views = (seat : ℕ) (v : Option WriterId) → get_elem? views seat ≡ some v → KnowsName v shown.seen.of

-- a step: the seat knew nothing or this name, and knows it now
abbrev pub Looks : Option WriterId → FrontValue → FrontValue → Option WriterId → Type 0
Looks v x y w = KnowsName v y.seen.of × (w ≡ Some (name_of y.seen.of))

-- what a look leaves: a seat that knew the writer still does, and the front that it found is that writer's
pub record Finds (before after : Option WriterId) (found : Result (Option FrontValue) AllocError) : Type 0 where
  pub keeps : (b : Book) → before ≡ Some (name_of b) → after ≡ Some (name_of b)
  pub of_one : (b : Book) → before ≡ Some (name_of b) → IfOk found (λ o. IfSome o (λ f. f.seen.of ≡ b))
