-- The order of the members of objects.
use Rattle.std.specs.Prelude.{⊤}
use Rattle.serde_json.specs.Data.{Data, null, boolean, number, string, array, object, Items, no_items, item, Members}
use Rattle.serde_json.specs.Data.{no_members, member}
use Rattle.fts_model.specs.Documents.{NamesRise}

-- the names of members are in the order of their bytes in each object of a JSON value: in the value itself, and in
-- those within its lists and objects
abbrev mutual
  pub NamesRiseWithin : Data → Type 0
  NamesRiseWithin null = ⊤
  NamesRiseWithin (boolean b) = ⊤
  NamesRiseWithin (number n) = ⊤
  NamesRiseWithin (string text) = ⊤
  NamesRiseWithin (array items) = NamesRiseInItems items
  NamesRiseWithin (object ms) = NamesRise ms × NamesRiseInMembers ms

  -- the names of members are in order in each value of a list
  pub NamesRiseInItems : Items → Type 0
  NamesRiseInItems no_items = ⊤
  NamesRiseInItems (item value items) = NamesRiseWithin value × NamesRiseInItems items

  -- the names of members are in order in the value of each member
  pub NamesRiseInMembers : Members → Type 0
  NamesRiseInMembers no_members = ⊤
  NamesRiseInMembers (member name value members) = NamesRiseWithin value × NamesRiseInMembers members
