use Rattle.std.proofs.Common.{◌≡◌, ◌<◌, ◌-◌, ◌∙◌, ap, sym, arith, drop, take, length, vec_len}
use Rattle.std.specs.List.{prefix_len}
use Rattle.std.proofs.lemmas.List.{length-drop}
use Rattle.fts_script.specs.session.Text.{is_white}
use Rattle.fts_script.specs.session.KeptLines.{grown, is_blank_kept}
use Rattle.fts_script.proofs.BlankLemmas.{not_blank-before, not_blank-behind, not_blank-some}
use Rattle.fts_script.proofs.KeptLemmas.{grown-behind, not_blank-grown, not_blank-unindented, rest_is, unindented-drop}
use Rattle.fts_script.proofs.RunLemmas.{on_err}
use Rattle.fts_script.proofs.partial_line.PartialLine.grow.Goals as goal

pub returns-in_err-extend_from_slice-in-None-clause-not_blank : goal.returns-in_err-extend_from_slice-in-None-clause-not_blank
returns-in_err-extend_from_slice-in-None-clause-not_blank c =
    let piece = c.args.piece.now in
    let k = c.count_white-white.result in
    let p = c.self.inside in
    let none : vec_len p.bytes ≡ 0 = grind (arith, c.if-is_empty.ensures) in
    let some : 0 < length (take (length piece - k) (drop k piece)) = omega (arith, none, c.in_err-extend_from_slice-in-None.ensures.full) in
    on_err c.from_residual.result _
    (ap (λ v. is_blank_kept (grown v piece)) (sym c.self.view_is)
    ∙ not_blank-grown p.too_long p.white p.bytes.items piece c.in-None.is
    (not_blank-behind p.bytes.items piece (not_blank-some piece k c.count_white-white.ensures.value some)))

pub invariant_of-self-then-is_empty : goal.invariant_of-self-then-is_empty
invariant_of-self-then-is_empty c =
    let piece = c.args.piece.now in
    let k = c.count_white-white.result in
    let p = c.self.inside in
    let none : vec_len p.bytes ≡ 0 = grind (arith, c.if-is_empty.ensures) in
    let nothing : length p.bytes.items ≡ 0 = omega (arith, p.bytes.ok.0) in
    let rest = rest_is p.bytes.items c.extend_from_slice.new.self.items piece k nothing c.count_white-white.ensures.value
    c.in_ok-extend_from_slice-in-None.ensures.items in
    let counted : k ≡ prefix_len is_white piece = c.count_white-white.ensures.value in (
      omega (
        arith,
        c.extend_from_slice.new.self.ok.0,
        ap length rest,
        length-drop (prefix_len is_white piece) piece,
        counted,
        c.count_white-white.ensures.within,
        c.if-self-len-le-LONGEST.true,
        none,
      ),
      ap (prefix_len is_white) rest ∙ unindented-drop piece,
    )

pub returns-in_err-extend_from_slice-in-None-2-clause-not_blank : goal.returns-in_err-extend_from_slice-in-None-2-clause-not_blank
returns-in_err-extend_from_slice-in-None-2-clause-not_blank c =
    let piece = c.args.piece.now in
    let p = c.self.inside in
    let some : 0 < vec_len p.bytes = grind (arith, c.if-is_empty.ensures) in
    let filled : 0 < length p.bytes.items = omega (arith, p.bytes.ok.0) in
    on_err c.from_residual-in_err-extend_from_slice-in-None-2.result _
    (ap (λ v. is_blank_kept (grown v piece)) (sym c.self.view_is)
    ∙ not_blank-grown p.too_long p.white p.bytes.items piece c.in-None.is
    (not_blank-before p.bytes.items piece (not_blank-unindented p.bytes.items c.self.invariant.1 filled)))

pub returns-in_ok-extend_from_slice-in-None-2-clause-ok : goal.returns-in_ok-extend_from_slice-in-None-2-clause-ok
returns-in_ok-extend_from_slice-in-None-2-clause-ok c =
    let piece = c.args.piece.now in
    let p = c.self.inside in
    let some : 0 < vec_len p.bytes = grind (arith, c.if-is_empty.ensures) in
    let filled : 0 < length p.bytes.items = omega (arith, p.bytes.ok.0) in
    grown-behind p.too_long p.white p.bytes.items c.extend_from_slice-else-is_empty.new.self.items piece c.in-None.is c.self.invariant.1 filled
    c.in_ok-extend_from_slice-in-None-2.ensures.items (omega (arith, p.bytes.ok.0, c.if-self-len-le-LONGEST.true))
    ∙ ap (λ v. grown v piece) c.self.view_is
