-- Take a filesystem away with all that is in it (Filesystem - Delete of the REST reference).
--
--   1  the caller is the superuser   denied (superuser-only, at the root)          is_no_superuser
--   2  the filesystem is there       FilesystemNotFound                            noted
--   3  all of it goes                none; the account and all of it are written   filesystem_gone
use Rattle.std.specs.Prelude.{List, [], ◌∷◌, None}
use Rattle.namespace_model.specs.declared.code.Code.TheVariants.{FilesystemNotFound}
use Rattle.namespace_model.specs.declared.request.Entry.{Entry}
use Rattle.namespace_model.specs.Nodes.{Node}
use Rattle.namespace_model.specs.Trees.{Path, Tree, at, subtree}
use Rattle.namespace_model.specs.Replies.{success}
use Rattle.namespace_model.specs.Outcomes.{Outcome, reading, refused, unless, noted}
use Rattle.namespace_model.specs.Refusals.{caller_of, is_no_superuser}

-- the root and all that is below it go
abbrev pub filesystem_gone : List Path → Node → Outcome
filesystem_gone ps x = record {
  read = [];
  written = [] ∷ ps;
  fresh = [];
  reply = success 202 [];
  effect = record { taken = ps; puts = []; move = None };
}

unfoldable pub delete_filesystem : Tree → Entry → Path → Outcome
delete_filesystem t e p =
    unless (is_no_superuser (caller_of e) p)
    (reading ([] ∷ [])
    (noted (at t p) p (refused FilesystemNotFound) (filesystem_gone (subtree t p))))
