use Rattle.std.proofs.Common.{◌≡◌, ◌++◌, ◌∷◌, [], length, ap, subst, ◌∙◌, arith, string_bytes}
use Rattle.std.specs.Str.{IsCharBoundary}
use Rattle.fts_base.specs.Pieces.{pieces}
use Rattle.fts_base.proofs.PiecesLemmas.{pieces-push}
use Rattle.std.proofs.lemmas.Str.{IsCharBoundary-at_seam}
use Rattle.fts_model.proofs.TextsLemmas.{AreTextEnds-push}
use Rattle.fts_model.proofs.texts.Joined.push.Goals as goal

pub truncate-requires : goal.truncate-requires
truncate-requires c =
    let old = string_bytes c.self.inside.bytes in
    let new = string_bytes c.push_str.new.self in
    let bytes : new ≡ old ++ c.args.text.now = c.in_ok-push_str.ensures.bytes in
    let at : length old ≡ c.len-len.result = omega (arith, c.len-len.ensures, c.self.inside.bytes.bytes.ok.0) in
    let between = subst (IsCharBoundary new) at (IsCharBoundary-at_seam new old c.args.text.now bytes c.utf8.text) in
    λ _. (between.0, λ _. between.1)

pub invariant_of-self-else-is_err : goal.invariant_of-self-else-is_err
invariant_of-self-else-is_err c =
    let t = c.self.inside in
    let bytes : string_bytes c.push_str.new.self ≡ string_bytes t.bytes ++ c.args.text.now = c.in_ok-push_str.ensures.bytes in
    let ends : c.push.new.self.items ≡ t.ends.items ++ c.len.result ∷ [] = grind (arith) in
    let end : c.len.result ≡ length (string_bytes t.bytes ++ c.args.text.now) = omega (arith, c.len.ensures, c.push_str.new.self.bytes.ok.0, ap length bytes) in
    rw (ends, bytes) (AreTextEnds-push (string_bytes t.bytes) c.args.text.now t.ends.items c.len.result end c.utf8.text c.self.invariant)

pub returns-clause-ok : goal.returns-clause-ok
returns-clause-ok c =
    let t = c.self.inside in
    let bytes : string_bytes c.push_str.new.self ≡ string_bytes t.bytes ++ c.args.text.now = c.in_ok-push_str.ensures.bytes in
    let ends : c.push.new.self.items ≡ t.ends.items ++ c.len.result ∷ [] = grind (arith) in
    let end : c.len.result ≡ length (string_bytes t.bytes ++ c.args.text.now) = omega (arith, c.len.ensures, c.push_str.new.self.bytes.ok.0, ap length bytes) in
    ap (λ bs. pieces 0 bs c.push.new.self.items) bytes
    ∙ ap (pieces 0 (string_bytes t.bytes ++ c.args.text.now)) (ends ∙ ap (λ n. t.ends.items ++ n ∷ []) end)
    ∙ pieces-push 0 (string_bytes t.bytes) c.args.text.now t.ends.items c.self.invariant.are
    ∙ ap (λ ts. ts ++ c.args.text.now ∷ []) c.self.view_is
