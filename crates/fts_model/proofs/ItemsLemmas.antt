-- JSON arrays that grow.
use Rattle.std.proofs.Common.{◌≡◌, List, [], ◌∷◌, ◌++◌, refl, ap}
use Rattle.serde_json.specs.Data.{Items, no_items, item}
use Rattle.serde_json.specs.View.{view, items_view}
use Rattle.serde_json.specs.declared.value.Value.{Value}

-- the items of JSON values, in front of others
abbrev pub items_before : List Value → Items → Items
items_before [] rest = rest
items_before (v ∷ vs) rest = item (view v) (items_before vs rest)

pub items_pushed : (vs : List Value) (v : Value) (rest : Items) → items_before (vs ++ v ∷ []) rest ≡ items_before vs (item (view v) rest)
items_pushed [] v rest = refl
items_pushed (w ∷ vs) v rest = ap (item (view w)) (items_pushed vs v rest)

pub items_alone : (vs : List Value) → items_before vs no_items ≡ items_view vs
items_alone [] = refl
items_alone (v ∷ vs) = ap (item (view v)) (items_alone vs)
