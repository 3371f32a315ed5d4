-- Take a file or a directory away (Path - Delete of the REST reference).
--
--   1  the way to the parent                            denied (execute), FilesystemNotFound, PathNotFound   walk
--   2  write and execute on the parent                  denied                                               lacks
--   3  the node is there                                PathNotFound                                         noted
--   4  the sticky bit of the parent                     denied (sticky)                                      is_guarded
--   5  the conditions                                   ConditionNotMet                                      is_unmet
--   6  the lease                                        LeaseIdMissing and the other codes of writes         lease_refuses
--   7  nothing is below it, or it is recursive          DirectoryNotEmpty                                    refuse_if
--   8  recursive: all three rights and the sticky bit   denied, at the first place in path order             not_clearable
--   9  the subtree goes                                 none; the parent and the subtree are written         gone
use Rattle.std.specs.Prelude.{Bool, true, false, not, ◌&&◌, List, [], ◌∷◌, Option, None, if◌then◌else◌}
use Rattle.namespace_model.specs.declared.caller.Caller.{Caller}
use Rattle.namespace_model.specs.declared.code.Code.TheVariants.{PathNotFound, DirectoryNotEmpty}
use Rattle.namespace_model.specs.declared.reply.Reply.{Reply}
use Rattle.namespace_model.specs.declared.request.Entry.{Entry}
use Rattle.namespace_model.specs.Nodes.{Node, is_directory}
use Rattle.namespace_model.specs.Trees.{Path, Tree, at, parent, is_bare, children, subtree}
use Rattle.namespace_model.specs.Replies.{success}
use Rattle.namespace_model.specs.Access.{write_execute, all}
use Rattle.namespace_model.specs.Outcomes.{Outcome, reading, refused, unless, noted}
use Rattle.namespace_model.specs.Refusals.{caller_of, lacks, is_guarded, is_unmet, lease_refuses, refuse_if, or_else, first_refusal}
use Rattle.namespace_model.specs.Walks.{walk, missing_code}

-- ---- what a recursive delete asks of a directory that isn't empty

-- all three rights on a directory that isn't empty, and then the sticky rule for each child
abbrev pub not_clearable : Tree → Caller → Path → Node → Option Reply
not_clearable t caller p x =
    if is_directory x && not (is_bare t p) then or_else (lacks caller all p x) (first_refusal (is_guarded caller x) t (children t p)) else None

-- ---- the steps

-- these paths go, out of a directory
abbrev pub gone : Path → List Path → Outcome
gone dir ps = record {
  read = [];
  written = dir ∷ ps;
  fresh = [];
  reply = success 200 [];
  effect = record { taken = ps; puts = []; move = None };
}

-- a recursive delete reads all that it takes away, and asks in path order
abbrev pub cleared : Tree → Entry → Path → Bool → List Path → Outcome
cleared t e p true ps =
    reading ps
    (unless (first_refusal (not_clearable t (caller_of e)) t ps)
    (gone (parent p) ps))
cleared t e p false ps = gone (parent p) ps

abbrev pub delete_node : Tree → Entry → Path → Bool → Node → Node → Outcome
delete_node t e p recursive dir x =
    unless (is_guarded (caller_of e) dir p x)
    (unless (is_unmet e x)
    (unless (lease_refuses e e.request.lease x)
    (unless (refuse_if (not recursive && (is_directory x && not (is_bare t p))) DirectoryNotEmpty)
    (cleared t e p recursive (subtree t p)))))

abbrev pub delete_in : Tree → Entry → Path → Bool → Node → Outcome
delete_in t e p recursive dir =
    unless (lacks (caller_of e) write_execute (parent p) dir)
    (noted (at t p) p (refused (missing_code p PathNotFound)) (delete_node t e p recursive dir))

unfoldable pub delete : Tree → Entry → Path → Bool → Outcome
delete t e p recursive =
    walk t (caller_of e) PathNotFound p
    (delete_in t e p recursive)
