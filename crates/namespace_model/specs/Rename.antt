-- Move a file or a directory with all that is below it (Path - Create with x-ms-rename-source of the REST reference).
--
--   1  the way to the source                        denied (execute), FilesystemNotFound, SourcePathNotFound                    walk
--   2  write and execute on its parent              denied                                                                      lacks
--   3  the source is there                          SourcePathNotFound                                                          noted
--   4  the sticky bit of its parent                 denied (sticky)                                                             is_guarded
--   5  the way to the destination                   denied (execute), FilesystemNotFound, RenameDestinationParentPathNotFound   walk
--   6  write and execute on its parent              denied                                                                      lacks
--   7  where it is there, the sticky bit            denied (sticky)                                                             is_guarded
--   8  where it is there, If-None-Match isn't `*`   PathAlreadyExists                                                           exists_already
--   9  the conditions on it, also without a node    ConditionNotMet                                                             is_unmet, is_unmet_without
--  10  the lease of the source                      LeaseIdMissing and the other codes of writes                                lease_refuses
--  11  where it is there, it is of the same kind    ResourceTypeMismatch                                                        refuse_if
--  12  where it is there, nothing is below it       DirectoryNotEmpty                                                           refuse_if
--  13  no path comes out too long                   RenameTooLong; the subtree is read where one may                            fitted
--  14  the source is put, stamped, and moves        none                                                                        shifted
use Rattle.std.specs.Prelude.{ℕ, Bool, not, ◌&&◌, ◌||◌, nat_lt, List, [], ◌∷◌, length, Option, Some, unwrap_or, if◌then◌else◌}
use Rattle.std.specs.List.{list_any, join_with_byte}
use Rattle.namespace_model.specs.declared.code.Code.TheVariants.{SourcePathNotFound, RenameDestinationParentPathNotFound, ResourceTypeMismatch, DirectoryNotEmpty, RenameTooLong}
use Rattle.namespace_model.specs.declared.request.Entry.{Entry}
use Rattle.namespace_model.specs.Nodes.{Node, is_directory, kind_of, has_kind}
use Rattle.namespace_model.specs.Trees.{Path, Tree, at, parent, is_bare, subtree}
use Rattle.namespace_model.specs.Effects.{stamp, moved}
use Rattle.namespace_model.specs.Replies.{success, stamp_fields}
use Rattle.namespace_model.specs.Access.{write_execute}
use Rattle.namespace_model.specs.Outcomes.{Outcome, reading, refused, unless, noted}
use Rattle.namespace_model.specs.Refusals.{caller_of, lacks, is_guarded, exists_already, is_unmet, is_unmet_without, lease_refuses, refuse_if}
use Rattle.namespace_model.specs.Walks.{walk, missing_code}

-- what is asked for
pub record Moving : Type 0 where
  pub source : Path
  pub path : Path
  pub props : Option (List (List ℕ × List ℕ))

-- ---- lengths

-- the bytes of a path's text without its first `/`
abbrev pub text_length : Path → ℕ
text_length p = length (join_with_byte 47 p)

-- a path that no node may have
abbrev pub is_too_long : Path → Bool
is_too_long p = nat_lt 60 (length p) || nat_lt 1024 (text_length p)

-- the destination has more parts or more bytes than the source
abbrev pub grows : Moving → Bool
grows m = nat_lt (length m.source) (length m.path) || nat_lt (text_length m.source) (text_length m.path)

abbrev pub some_too_long : Moving → List Path → Bool
some_too_long m ps = list_any (λ q. is_too_long (moved m.source m.path q)) ps

-- ---- the steps

-- the source's own node is stamped and takes the properties that are given; what stood at the destination goes
abbrev pub shifted : Entry → Moving → Node → List Path → Outcome
shifted e m x replaced = record {
  read = [];
  written = parent m.source ∷ parent m.path ∷ m.source ∷ replaced;
  fresh = [];
  reply = success 201 (stamp_fields e.moment);
  effect = record {
    taken = replaced;
    puts = (m.source, stamp e.moment (record x { props = unwrap_or m.props x.props })) ∷ [];
    move = Some (m.source, m.path);
  };
}

-- all below the source is read where a path may come out too long
abbrev pub fitted : Tree → Entry → Moving → Node → List Path → Outcome
fitted t e m x replaced =
    if is_directory x && grows m
    then reading (subtree t m.source)
    (unless (refuse_if (some_too_long m (subtree t m.source)) RenameTooLong)
    (shifted e m x replaced))
    else shifted e m x replaced

-- the destination is there
abbrev pub rename_over : Tree → Entry → Moving → Node → Node → Node → Outcome
rename_over t e m x dir y =
    unless (is_guarded (caller_of e) dir m.path y)
    (unless (exists_already e)
    (unless (is_unmet e y)
    (unless (lease_refuses e e.request.source_lease x)
    (unless (refuse_if (not (has_kind (kind_of x) y)) ResourceTypeMismatch)
    (unless (refuse_if (is_directory y && not (is_bare t m.path)) DirectoryNotEmpty)
    (fitted t e m x (m.path ∷ [])))))))

-- the destination isn't there
abbrev pub rename_new : Tree → Entry → Moving → Node → Outcome
rename_new t e m x =
    unless (is_unmet_without e)
    (unless (lease_refuses e e.request.source_lease x)
    (fitted t e m x []))

abbrev pub rename_into : Tree → Entry → Moving → Node → Node → Outcome
rename_into t e m x dir =
    unless (lacks (caller_of e) write_execute (parent m.path) dir)
    (noted (at t m.path) m.path (rename_new t e m x) (rename_over t e m x dir))

abbrev pub rename_node : Tree → Entry → Moving → Node → Node → Outcome
rename_node t e m dir x =
    unless (is_guarded (caller_of e) dir m.source x)
    (walk t (caller_of e) RenameDestinationParentPathNotFound m.path
    (rename_into t e m x))

abbrev pub rename_out : Tree → Entry → Moving → Node → Outcome
rename_out t e m dir =
    unless (lacks (caller_of e) write_execute (parent m.source) dir)
    (noted (at t m.source) m.source (refused (missing_code m.source SourcePathNotFound)) (rename_node t e m dir))

unfoldable pub rename : Tree → Entry → Moving → Outcome
rename t e m =
    walk t (caller_of e) SourcePathNotFound m.source
    (rename_out t e m)
