-- A visit on its way: the nodes that were looked at so far, and the one that it has come to.
use Rattle.std.specs.Prelude.{◌≡◌, ℕ, List, [], ◌∷◌, ◌++◌, take, drop, Some}
use Rattle.namespace_model.specs.declared.caller.Caller.{Caller}
use Rattle.namespace_model.specs.Trees.{Path, Tree, parent}
use Rattle.inode_tree.specs.declared.id.NodeId.{NodeId}
use Rattle.inode_tree.specs.Inodes.{BareInode}
use Rattle.inode_tree.specs.Footprints.{ids_of}
use Rattle.inode_tree.specs.Parts.{Parts, inode_at, follow}
use Rattle.inode_tree.specs.Promises.{numbers_of}
use Rattle.inode_tree.specs.Stands.{Stands}
use Rattle.inode_tree.specs.Views.{Held, Shown, Agrees}
use Rattle.path_walk.specs.declared.stop.End.{End}
use Rattle.path_walk.specs.declared.stop.End.TheVariants as end
use Rattle.path_walk.specs.declared.stop.Visit.{Visit}
use Rattle.path_walk.specs.declared.way.Met.{Met}
use Rattle.path_walk.specs.declared.way.Met.TheVariants as met
use Rattle.path_walk.specs.declared.way.Step.{Step}
use Rattle.path_walk.specs.declared.way.Step.TheVariants as step
use Rattle.path_walk.specs.declared.way.Trail.{Trail}
use Rattle.namespace_model.specs.Ways.{way_from, read_from}
use Rattle.path_walk.specs.Visits.{IsVisitFor, AreLookedAt}

-- The first names lead to this id and its inode, nothing has ended the way so far, and these are the ids of what was read.
pub record IsAt (parts : Parts) (t : Tree) (caller : Caller) (names : Path) (k : ℕ) (ids : List NodeId) (i : ℕ) (x : BareInode) : Type 0 where
  pub leads : follow parts 0 (take k names) ≡ Some i
  pub there : inode_at parts i ≡ Some x
  pub rest : way_from t caller [] names ≡ way_from t caller (take k names) (drop k names)
  pub so_far : ids_of parts ([] ∷ read_from t caller [] names) ≡ numbers_of ids ++ ids_of parts (read_from t caller (take k names) (drop k names))

pub record IsTrail (held : Held) (shown : Shown) (caller : Caller) (names : Path) (k : ℕ) (trail : Trail) : Type 0 where
  pub is_at : (parts : Parts) (t : Tree) → Stands parts t → Agrees shown parts → IsAt parts t caller names k trail.ids.items trail.base.id.0 trail.base.node
  pub looked : AreLookedAt held shown trail.ids.items

-- so many names further, or at the end
abbrev pub IsStepped : Held → Shown → Caller → Path → ℕ → Step → Type 0
IsStepped held shown caller path k (step.On trail) = IsTrail held shown caller (parent path) k trail
IsStepped held shown caller path k (step.Ended v) = IsVisitFor shown caller path v × AreLookedAt held shown v.ids

-- a visit that ends with a trail: it stands at the trail's last directory
pub record IsEndedAt (trail : Trail) (ids : List NodeId) (e : End) (v : Visit) : Type 0 where
  pub ids_are : v.ids ≡ ids
  pub ends : v.end ≡ e
  pub base_is : v.base ≡ trail.base

-- The trail or the visit behind what was met at the path of so many names, from a trail: the id that was met is the last one.
abbrev pub IsTaken : Trail → Path → ℕ → Met → Step → Type 0
IsTaken trail path k met.Missing (step.On next) = ⊥
IsTaken trail path k met.Missing (step.Ended v) = IsEndedAt trail trail.ids.items (end.NotFound k) v
IsTaken trail path k (met.Blocked id) (step.On next) = ⊥
IsTaken trail path k (met.Blocked id) (step.Ended v) = IsEndedAt trail (trail.ids.items ++ id ∷ []) (end.NotDirectory k) v
IsTaken trail path k (met.Closed id refusal) (step.On next) = ⊥
IsTaken trail path k (met.Closed id refusal) (step.Ended v) =
    IsEndedAt trail (trail.ids.items ++ id ∷ []) (end.Denied (record { rule = refusal.rule; at = take k path; want = 1; have = refusal.have })) v
IsTaken trail path k (met.Passed base) (step.On next) = (next.ids.items ≡ trail.ids.items ++ base.id ∷ []) × (next.base ≡ base)
IsTaken trail path k (met.Passed base) (step.Ended v) = ⊥
