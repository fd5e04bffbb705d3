use Rattle.std.proofs.Common.{◌≡◌, ◌++◌, ◌∷◌, [], List, All, subst, sym}
use Rattle.std.proofs.lemmas.List.Elements.{All-push}
use Rattle.fts_model.specs.declared.operation.Op.{Op}
use Rattle.fts_model.specs.declared.operation.Stamped.{Stamped}
use Rattle.fts_merge.specs.declared.term_delete.TermDelete.{TermDelete}
use Rattle.fts_merge.specs.Internals.Deletes.{IsFound, StrikeAlike}
use Rattle.fts_merge.proofs.FoundLemmas.{alike-push, alike-none}
use Rattle.fts_merge.proofs.term_delete.push_found.Goals as goal

pub returns-in_ok-push-in-Some : goal.returns-in_ok-push-in-Some
returns-in_ok-push-in-Some c =
    let s = c.args.segment.now in
    let old = c.args.deletes.now.items in
    let new = c.push.new.self.items in
    let grown : new ≡ old ++ c.in-Some.delete ∷ [] = c.in_ok-push-in-Some.ensures.items in
    record {
      are = let P : List TermDelete → Type 0 = All (IsFound s) in subst P (sym grown) (All-push (IsFound s) old c.in-Some.delete c.requires c.in-Some.ensures.some);
      alike = λ ops alike. let P : List TermDelete → Type 0 = λ deletes. StrikeAlike s.schema deletes (ops ++ c.args.op.now ∷ []) s.documents in
          subst P (sym grown) (alike-push s.schema s.documents old ops c.args.op.now c.in-Some.delete c.in-Some.ensures.strikes alike);
    }

pub returns-in-None : goal.returns-in-None
returns-in-None c =
    let s = c.args.segment.now in
    record {
      are = c.requires;
      alike = λ ops alike. alike-none s.schema s.documents c.args.deletes.now.items ops c.args.op.now c.in-None.ensures.none alike;
    }
