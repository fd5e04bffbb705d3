-- The commands of the code as those of the definitions.
use Rattle.std.specs.Prelude.{option_map}
use Rattle.fts_script.specs.command.Commands.{Command, Schema, Add, Delete, DeleteAll, Commit, Rollback, Merge, Find}
use Rattle.fts_script.specs.command.Commands.{Search}
use Rattle.fts_script.specs.declared.command.command.Command as code
use Rattle.fts_script.specs.declared.command.command.Command.TheVariants as variants
use Rattle.fts_script.specs.declared.command.command.Search as asked
use Rattle.serde_json.specs.View.{view}

abbrev pub search_value : asked.Search → Search
search_value s = record {
  query = s.query.now;
  groups = option_map (λ name. name.now) s.groups;
  top = option_map (λ top. (top.0.now, top.1, top.2)) s.top;
}

-- the value of a command of the code
abbrev pub command_value : code.Command → Command
command_value (variants.Schema fields) = Schema fields.items
command_value (variants.Add json) = Add (view json.now)
command_value (variants.Delete name json) = Delete name.now (view json.now)
command_value variants.DeleteAll = DeleteAll
command_value variants.Commit = Commit
command_value variants.Rollback = Rollback
command_value variants.Merge = Merge
command_value (variants.Search search) = Find (search_value search)
