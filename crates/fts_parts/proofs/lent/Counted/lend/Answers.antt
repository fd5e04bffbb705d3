use Rattle.std.proofs.Common.{◌≡◌, ◌<◌, ◌+◌, ℕ, ◌++◌, ◌∷◌, [], length, map, sym, ap, ◌∙◌, arith, take, get_or}
use Rattle.std.specs.List.{take-map}
use Rattle.std.proofs.lemmas.List.{length-map, map_push, take_all, take_more}
use Rattle.fts_model.specs.declared.value.GroupValue.{GroupValue}
use Rattle.fts_parts.specs.Collected.{value_at}
use Rattle.fts_parts.proofs.lent.Counted.lend.Goals as goal

pub loop-count-preserved : goal.loop-count-preserved
loop-count-preserved c =
    let inside = c.self.inside in
    let value : ℕ → GroupValue = value_at inside.segment inside.field in
    let name : ℕ × ℕ → GroupValue × ℕ = λ c. (value c.0, c.1) in
    let counts = c.deref-count-items.result.now in
    let same : c.args.self.now ≡ map name counts = sym c.self.view_is ∙ ap (map name) (sym c.deref-count-items.ensures.value) in
    let i = c.loop-count.count-index in
    let items = c.loop-count.list.items in
    let count : ℕ × ℕ = get_or counts i (0, 0) in
    let within : i < length counts = omega arith in
    let more : take (i + 1) c.args.self.now ≡ take i c.args.self.now ++ name count ∷ [] =
    ap (take (i + 1)) same ∙ take-map name (i + 1) counts ∙ ap (map name) (take_more counts i (0, 0) within) ∙ map_push name (take i counts) count
    ∙ ap (λ gs. gs ++ name count ∷ []) (sym (take-map name i counts) ∙ ap (take i) (sym same)) in
    c.in_ok-push.ensures.items
    ∙ ap (λ (g : GroupValue × ℕ). items ++ g ∷ []) (c.new.ensures ∙ ap (λ (v : GroupValue). (v, count.1)) c.value_at-value.ensures)
    ∙ ap (λ gs. gs ++ name count ∷ []) c.loop-count.invariant
    ∙ sym more

pub returns : goal.returns
returns c =
    let inside = c.self.inside in
    let name : ℕ × ℕ → GroupValue × ℕ = λ c. (value_at inside.segment inside.field c.0, c.1) in
    let counts = c.deref-count-items.result.now in
    let same : c.args.self.now ≡ map name counts = sym c.self.view_is ∙ ap (map name) (sym c.deref-count-items.ensures.value) in
    let size : length c.args.self.now ≡ length counts = ap length same ∙ length-map counts name in
    c.loop-count.invariant ∙ take_all c.loop-count.count-index c.args.self.now (omega (arith, size, c.loop-count-test.false))
