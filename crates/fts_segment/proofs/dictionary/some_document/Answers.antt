-- The last document of the first block is one of the list.
use Rattle.std.proofs.Common.{◌≡◌, ◌==◌, ◌<◌, false, [], Contains, length, get_or, sym, ap, subst, ◌∙◌, arith}
use Rattle.std.proofs.lemmas.Bool.{eqb-false}
use Rattle.fts_pack.specs.ListRef.{listed}
use Rattle.fts_pack.specs.Documents.{blocks_of, last_of}
use Rattle.fts_segment.proofs.OrdinalLemmas.{last_of_first}
use Rattle.fts_segment.proofs.dictionary.some_document.Goals as goal

pub returns : goal.returns
returns c =
    let documents = listed c.args.list in
    let isnt : (length documents == 0) ≡ false = sym c.is_empty.ensures ∙ c.if-is_empty.false in
    let some : 0 < length documents = omega (arith, eqb-false (length documents) 0 isnt) in
    subst (λ n. Contains documents n) (sym (c.last.ensures ∙ ap (λ ds. last_of (get_or (blocks_of ds) 0 [])) c.source.ensures.documents))
    (last_of_first documents some)
