-- Where a rename has come: what was found so far, what was read for it, and what comes then.
use Rattle.std.specs.Prelude.{◌≡◌, ℕ, List, [], ◌∷◌, ◌++◌, Option, option_map, unwrap_or}
use Rattle.namespace_model.specs.declared.code.Code.TheVariants.{RenameDestinationParentPathNotFound, RenameTooLong}
use Rattle.namespace_model.specs.declared.op.Op.{Op}
use Rattle.namespace_model.specs.declared.op.Op.TheVariants as op
use Rattle.namespace_model.specs.declared.request.Entry.{Entry}
use Rattle.namespace_model.specs.Outcomes.{Outcome, reading, unless}
use Rattle.namespace_model.specs.Refusals.{caller_of, refuse_if}
use Rattle.namespace_model.specs.Rename.{Moving, some_too_long, shifted, fitted, rename_new, rename_over, rename_into, rename_node}
use Rattle.namespace_model.specs.Step.{acts}
use Rattle.namespace_model.specs.Trees.{Path, Tree, parent, subtree}
use Rattle.namespace_model.specs.Walks.{walk}
use Rattle.inode_tree.specs.declared.id.NodeId.{NodeId}
use Rattle.inode_tree.specs.declared.meta.Meta.{Meta}
use Rattle.inode_tree.specs.Footprints.{ids_of}
use Rattle.inode_tree.specs.Inodes.{BareInode, node_of}
use Rattle.inode_tree.specs.Parts.{Parts}
use Rattle.inode_tree.specs.Promises.{numbers_of, is_one_of}
use Rattle.inode_tree.specs.Stands.{Stands}
use Rattle.inode_tree.specs.Views.{Held, Shown, Agrees}
use Rattle.path_walk.specs.declared.call.Call.{Call}
use Rattle.path_walk.specs.declared.stop.Base.{Base}
use Rattle.path_walk.specs.Visits.{AreLookedAt, IsHeldAndShown}
use Rattle.path_order.specs.declared.cursor.Seen.{Seen}
use Rattle.path_order.specs.Subtrees.{IsTop}
use Rattle.dir_rename.specs.declared.eval.Asked.{Asked}
use Rattle.dir_rename.specs.declared.eval.Ends.{Ends}
use Rattle.dir_rename.specs.declared.eval.Source.{Source}
use Rattle.dir_rename.specs.Ends.{comes_then, IsIn, IsThere}
use Rattle.dir_rename.specs.Shifts.{replaced_at}

-- ---- what is asked for

-- the operation of this evaluator
abbrev pub IsOfRename : Op → Type 0
IsOfRename (op.Rename path source props) = Unit {0}
IsOfRename other = ⊥

abbrev pub IsAsked : Call → Asked → Type 0
IsAsked call asked = call.request.now.op ≡ op.Rename call.path.now asked.source.now asked.props.now

abbrev pub moving_of : Call → Asked → Moving
moving_of call asked = record { source = asked.source.now; path = call.path.now; props = asked.props.now }

-- ---- what comes then

-- what comes of the step of an entry, once some paths were read
abbrev pub Rest : Type 0
Rest = Tree → Entry → Outcome

-- the step reads the paths of these ids, and then this comes
pub record IsComingIn (parts : Parts) (t : Tree) (e : Entry) (reads : List NodeId) (rest : Outcome) : Type 0 where
  pub paths : List Path
  pub acts_so : acts t e e.request.op ≡ reading paths rest
  pub reads_are : (id : ℕ) → is_one_of id (numbers_of reads) ≡ is_one_of id (ids_of parts paths)

-- So it is of each entry of the call, for all parts that stand for a tree and agree with what was shown; and what was read was looked at.
pub record IsComing (held : Held) (shown : Shown) (call : Call) (reads : List NodeId) (rest : Rest) : Type 0 where
  pub comes : (parts : Parts) (t : Tree) → Stands parts t → Agrees shown parts → (e : Entry) → e.request ≡ call.request.now → e.moment ≡ call.moment → IsComingIn parts t e reads (rest t e)
  pub looked : AreLookedAt held shown reads

-- the source is there: the sticky bit, and what is behind it
abbrev pub renames : Moving → Source → Rest
renames m s t e = rename_node t e m (node_of s.from.node) (node_of s.top.node)

-- the sticky bit lets it go: the way to the destination, and what is behind it
abbrev pub overs : Moving → Source → Rest
overs m s t e = walk t (caller_of e) RenameDestinationParentPathNotFound m.path (rename_into t e m (node_of s.top.node))

-- both ends were found: the questions, and what is behind them
abbrev pub rename_by : Moving → Ends → Rest
rename_by m s t e = comes_then s.to.node s.old (λ dir. rename_new t e m (node_of s.top.node)) (rename_over t e m (node_of s.top.node))

abbrev pub id_of : Option Seen → Option NodeId
id_of seen = option_map (λ (s : Seen). s.id) seen

-- nothing is refused so far: the lengths of the paths, and what is behind them
abbrev pub fits : Moving → Ends → Rest
fits m s t e = fitted t e m (node_of s.top.node) (replaced_at m.path (id_of s.old))

-- the paths grow: all that moves along is read
abbrev pub reads_all : Moving → Ends → Rest
reads_all m s t e =
    reading (subtree t m.source) (unless (refuse_if (some_too_long m (subtree t m.source)) RenameTooLong) (shifted e m (node_of s.top.node) (replaced_at m.path (id_of s.old))))

-- it moves
abbrev pub moves : Moving → Ends → Rest
moves m s t e = shifted e m (node_of s.top.node) (replaced_at m.path (id_of s.old))

-- ---- what was found

-- a path and its directory, for all parts that stand for a tree and agree with what was shown
abbrev pub IsInFor : Shown → Path → Base → Type 0
IsInFor shown p base = (parts : Parts) (t : Tree) → Stands parts t → Agrees shown parts → IsIn parts p base

abbrev pub IsThereFor : Shown → Path → Option Seen → Type 0
IsThereFor shown p seen = (parts : Parts) (t : Tree) → Stands parts t → Agrees shown parts → IsThere parts p seen

-- the source, and what comes then
pub record IsSource (held : Held) (shown : Shown) (call : Call) (asked : Asked) (s : Source) (rest : Rest) : Type 0 where
  pub named : asked.source.now ≡ parent asked.source.now ++ s.name.now ∷ []
  pub is_in : IsInFor shown asked.source.now s.from
  pub is_top : IsTop shown asked.source.now s.top
  pub top_held : IsHeldAndShown held shown s.top.id.0
  pub coming : IsComing held shown call s.reads.items rest

-- both ends, and what comes then
pub record IsEnds (held : Held) (shown : Shown) (call : Call) (asked : Asked) (s : Ends) (rest : Rest) : Type 0 where
  pub named : asked.source.now ≡ parent asked.source.now ++ s.name.now ∷ []
  pub is_in : IsInFor shown asked.source.now s.from
  pub is_top : IsTop shown asked.source.now s.top
  pub top_held : IsHeldAndShown held shown s.top.id.0
  pub new_named : call.path.now ≡ parent call.path.now ++ s.new_name.now ∷ []
  pub comes_in : IsInFor shown call.path.now s.to
  pub old_there : IsThereFor shown call.path.now s.old
  pub coming : IsComing held shown call s.reads.items rest

-- ---- what it makes of the node

-- the node's own meta, with the properties that are given, and the moment of the call
abbrev pub moved_meta : Call → Asked → BareInode → Meta
moved_meta call asked x = record x.meta { props = unwrap_or asked.props.now x.meta.props; moment = call.moment }
