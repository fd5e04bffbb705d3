use Rattle.std.proofs.Common.{◌≡◌, ◌≤◌, [], ◌∷◌, ◌++◌, ◌∙◌, length, ap, arith, length-append, subst}
use Rattle.fts_base.specs.Pieces.{pieces}
use Rattle.fts_base.proofs.PiecesLemmas.{AreEnds-push, pieces-push}
use Rattle.fts_segment.specs.Heads.{head, IsHead}
use Rattle.fts_segment.proofs.HeadLemmas.{AreHeads-push}
use Rattle.fts_segment.proofs.names.Names.push.Goals as goal

pub invariant_of-self-else-is_err-2 : goal.invariant_of-self-else-is_err-2
invariant_of-self-else-is_err-2 c = let n = c.self.inside in
    let name = c.args.name.now in
    let bytes : c.extend_from_slice.new.self.items ≡ n.bytes.items ++ name = grind (arith) in
    let long : c.len.result ≡ length c.extend_from_slice.new.self.items = omega (arith, c.extend_from_slice.new.self.ok.0) in
    let ends : c.push.new.self.items ≡ n.ends.items ++ length c.extend_from_slice.new.self.items ∷ [] = grind (arith) in
    let le : length n.bytes.items ≤ length c.extend_from_slice.new.self.items = omega (arith, ap length bytes, length-append n.bytes.items name) in
    let its : IsHead c.name.inside.head name = subst (IsHead c.name.inside.head) c.name.view_is c.name.invariant in
    let pushed : c.push-else-is_err.new.self.items ≡ n.heads.items ++ c.name.inside.head ∷ [] = grind (arith) in
    let heads : c.push-else-is_err.new.self.items ≡ n.heads.items ++ head 8 name ∷ [] = pushed ∙ ap (λ h. n.heads.items ++ h ∷ []) its.is in (
      rw ends (AreEnds-push 0 n.ends.items (length n.bytes.items) _ c.self.invariant.0 le),
      rw (heads, ends, bytes, pieces-push 0 n.bytes.items name n.ends.items c.self.invariant.0)
          (AreHeads-push n.heads.items (pieces 0 n.bytes.items n.ends.items) name its.bytes c.self.invariant.1),
    )

pub returns-clause-ok : goal.returns-clause-ok
returns-clause-ok c = let n = c.self.inside in
    let bytes : c.extend_from_slice.new.self.items ≡ n.bytes.items ++ c.args.name.now = grind (arith) in
    let long : c.len.result ≡ length c.extend_from_slice.new.self.items = omega (arith, c.extend_from_slice.new.self.ok.0) in
    let ends : c.push.new.self.items ≡ n.ends.items ++ length c.extend_from_slice.new.self.items ∷ [] = grind (arith) in
    rw (ends, bytes, ← c.self.view_is) (pieces-push 0 n.bytes.items c.args.name.now n.ends.items c.self.invariant.0)
