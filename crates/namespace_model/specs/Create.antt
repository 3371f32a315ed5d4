-- Make a file or a directory, and the directories that are missing on the way to it (Path - Create of the REST reference).
--
--   1  the way; a missing node ends it well         denied (execute), FilesystemNotFound, ResourceTypeMismatch   walk_or
--   2  write and execute on its last directory      denied                                                       lacks
--   3  where the node is there, the sticky bit      denied (sticky)                                              is_guarded
--   4  where it is there, If-None-Match isn't `*`   PathAlreadyExists                                            exists_already
--   5  the conditions, also without a node          ConditionNotMet                                              is_unmet, is_unmet_without
--   6  where it is there, it is of this kind        ResourceTypeMismatch                                         refuse_if
--   7  where it is there, nothing is below it       DirectoryNotEmpty                                            refuse_if
--   8  the new nodes are put, stamped               none; the last directory and they are written                made_below
use Rattle.std.specs.Prelude.{ℕ, not, ◌&&◌, List, [], ◌∷◌, ◌++◌, length, drop, map, Option, None, unwrap_or}
use Rattle.acl_text.specs.declared.perm.ModeBits.{ModeBits}
use Rattle.namespace_model.specs.declared.code.Code.TheVariants.{FilesystemNotFound, ResourceTypeMismatch, DirectoryNotEmpty}
use Rattle.namespace_model.specs.declared.op.Kind.{Kind}
use Rattle.namespace_model.specs.declared.op.Kind.TheVariants.{File, Directory}
use Rattle.namespace_model.specs.declared.request.Entry.{Entry}
use Rattle.namespace_model.specs.Nodes.{Node, Content, directory, file, blank, is_directory, has_kind}
use Rattle.namespace_model.specs.Trees.{Path, Tree, at, parent, is_bare}
use Rattle.namespace_model.specs.Effects.{Put, stamp}
use Rattle.namespace_model.specs.Access.{write_execute, acl_inherit}
use Rattle.namespace_model.specs.Replies.{success, stamp_fields}
use Rattle.namespace_model.specs.Outcomes.{Outcome, refused, unless, noted}
use Rattle.namespace_model.specs.Refusals.{caller_of, lacks, is_guarded, exists_already, is_unmet, is_unmet_without, refuse_if}
use Rattle.namespace_model.specs.Walks.{walk_or}

-- what is asked for
pub record Making : Type 0 where
  pub path : Path
  pub kind : Kind
  pub permissions : Option ModeBits
  pub umask : Option ModeBits
  pub props : Option (List (List ℕ × List ℕ))

-- ---- the new nodes

abbrev pub empty_of : Kind → Content
empty_of Directory = directory
empty_of File = file [] []

-- a node below another one: the caller's, of the other's group, with what it inherits, and without a lease
abbrev pub new_below : Entry → Node → Kind → Option ModeBits → Option ModeBits → List (List ℕ × List ℕ) → Node
new_below e above kind permissions umask props = record blank {
  content = empty_of kind;
  owner = (caller_of e).id;
  group = above.group;
  acl = (acl_inherit above.acl kind permissions umask).0;
  sticky = (acl_inherit above.acl kind permissions umask).1;
  props = props;
}

-- a directory on the way that is missing: the permissions and properties of the request are not for it
abbrev pub new_directory : Entry → Making → Node → Node
new_directory e m above = new_below e above Directory None m.umask []

abbrev pub new_node : Entry → Making → Node → Node
new_node e m above = new_below e above m.kind m.permissions m.umask (unwrap_or m.props [])

-- the nodes of these names from the top, each below the one before it; the last one is the one that is asked for
abbrev pub new_nodes : Entry → Making → Node → Path → Path → List (Path × Put)
new_nodes e m above done [] = []
new_nodes e m above done (n ∷ []) = (done ++ n ∷ [], stamp e.moment (new_node e m above)) ∷ []
new_nodes e m above done (n ∷ o ∷ names) =
    (done ++ n ∷ [], stamp e.moment (new_directory e m above)) ∷ new_nodes e m (new_directory e m above) (done ++ n ∷ []) (o ∷ names)

-- they come to stand below the last directory that is there, and what stood at the path goes
abbrev pub made : Entry → Making → Path → List Path → List (Path × Put) → Outcome
made e m base replaced puts = record {
  read = [];
  written = base ∷ map (λ (x : Path × Put). x.0) puts;
  fresh = map (λ (x : Path × Put). x.0) puts;
  reply = success 201 (stamp_fields e.moment);
  effect = record { taken = replaced; puts = puts; move = None };
}

abbrev pub made_below : Entry → Making → Path → Node → List Path → Outcome
made_below e m base x replaced = made e m base replaced (new_nodes e m x base (drop (length base) m.path))

-- ---- the steps

-- the node is there
abbrev pub create_over : Tree → Entry → Making → Node → Node → Outcome
create_over t e m dir y =
    unless (is_guarded (caller_of e) dir m.path y)
    (unless (exists_already e)
    (unless (is_unmet e y)
    (unless (refuse_if (not (has_kind m.kind y)) ResourceTypeMismatch)
    (unless (refuse_if (is_directory y && not (is_bare t m.path)) DirectoryNotEmpty)
    (made_below e m (parent m.path) dir (m.path ∷ []))))))

-- the node isn't there
abbrev pub create_new : Entry → Making → Path → Node → Outcome
create_new e m base x =
    unless (is_unmet_without e)
    (made_below e m base x [])

-- the parent is there
abbrev pub create_in : Tree → Entry → Making → Node → Outcome
create_in t e m dir =
    unless (lacks (caller_of e) write_execute (parent m.path) dir)
    (noted (at t m.path) m.path (create_new e m (parent m.path) dir) (create_over t e m dir))

-- the last directory that is there is further up
abbrev pub create_under : Entry → Making → Path → Node → Outcome
create_under e m base x =
    unless (lacks (caller_of e) write_execute base x)
    (create_new e m base x)

-- a node on the way is missing behind this directory
abbrev pub create_from : Entry → Making → Path → Node → Outcome
create_from e m [] x = refused FilesystemNotFound
create_from e m (fs ∷ names) x = create_under e m (fs ∷ names) x

unfoldable pub create : Tree → Entry → Making → Outcome
create t e m =
    walk_or t (caller_of e) (create_from e m) ResourceTypeMismatch m.path
    (create_in t e m)
