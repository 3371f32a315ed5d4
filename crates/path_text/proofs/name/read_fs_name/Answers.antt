use Rattle.std.proofs.Common.{sym, ◌∙◌}
use Rattle.path_text.proofs.NameLemmas.{fs_is_name}
use Rattle.path_text.proofs.name.read_fs_name.Goals as goal

pub of_bytes-requires : goal.of_bytes-requires
of_bytes-requires c = fs_is_name c.args.text.now (sym c.is_fs_name.ensures ∙ c.if-not-is_fs_name.false)
