use Rattle.std.proofs.Common.{refl}
use Rattle.fts_pack.specs.StoredList.{documents_packed}
use Rattle.fts_pack.proofs.PackedListLemmas.{long_length}
use Rattle.fts_pack.proofs.packed_list.PackedList.len.Goals as goal

pub returns : goal.returns
returns c = long_length (documents_packed c.args.self) _ _ _ refl c.args.self.is
