-- The shortest of the lists so far leads.
use Rattle.std.proofs.Common.{map, take}
use Rattle.fts_pack.specs.ListRef.{listed}
use Rattle.fts_cursor.specs.Leading.{IsLed}
use Rattle.fts_cursor.proofs.HitsLemmas.{hits_of}
use Rattle.fts_cursor.proofs.LeadingLemmas.{lists_of}
use Rattle.fts_cursor.proofs.terms.lists_of.Given as goal

abbrev pub invariant-loop-place : goal.invariant-loop-place
invariant-loop-place l = IsLed (map (hits_of l.segment) (take l.place l.queries)) (listed l.shortest) (lists_of l.others.items)
