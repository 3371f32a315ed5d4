-- An entry that was worked out on what a pass holds, and what has to be held for it.
use Rattle.std.specs.Prelude.{◌≡◌, ℕ, ◌<◌, List, length, sum_by, slice_get, Some}
use Rattle.lock_core.specs.declared.object.LockMode.{LockMode}
use Rattle.lock_core.specs.Object.{mode_of}
use Rattle.namespace_model.specs.Sound.{IsSound}
use Rattle.inode_tree.specs.declared.draft.Draft.{Draft}
use Rattle.inode_tree.specs.declared.fresh.Fresh.{Fresh}
use Rattle.inode_tree.specs.declared.id.NodeId.{NodeId}
use Rattle.inode_tree.specs.declared.placed.Placed.{Placed}
use Rattle.inode_tree.specs.Drawing.{next_ids}
use Rattle.inode_tree.specs.Footprints.{HasDate, lies_in}
use Rattle.inode_tree.specs.Promises.{numbers_of, IsDraft}
use Rattle.inode_tree.specs.Stripes.{StripeRecord}
use Rattle.path_locks.specs.Views.{HeldView}
use Rattle.striped_store.specs.Views.{number_of_pass, made_by}
use Rattle.parted_namespace.specs.Journals.{uses}
use Rattle.service_workers.specs.Looks.{NamespacePass, mode_in, shown_by}

-- the bytes of an entry's body
abbrev pub body_in : Placed → ℕ
body_in e = length e.entry.request.body

-- the plan holds exclusively the stripes of what is written, and shared those of what is only read
pub record AreKept (reads writes : List NodeId) (plan : List LockMode) : Type 0 where
  pub long : length plan ≡ 64
  pub modes : (k : ℕ) → k < 64 → slice_get plan k ≡ Some (mode_of (lies_in k (numbers_of writes)) (lies_in k (numbers_of reads)))

module _ {K : Type 0} where
  -- the ids that a pass has still to give
  abbrev pub fresh_of : NamespacePass K → Fresh
  fresh_of pass = record { pass = number_of_pass pass; used = sum_by uses (made_by pass) }

  -- the draft is that of the entry's request on what the pass holds and has found, and the entry drew the pass's next ids
  pub record IsDrafted (pass : NamespacePass K) (held : HeldView StripeRecord) (draft : Draft) (e : Placed) : Type 0 where
    pub small : number_of_pass pass < 64
    pub sound : IsSound e.entry.request
    pub dated : HasDate e.entry.moment
    pub drafts : IsDraft (mode_in held) (shown_by pass) e.entry.request e.entry.moment (fresh_of pass) draft
    pub by : e.pass ≡ number_of_pass pass
    pub draws : e.ids ≡ next_ids (number_of_pass pass) (sum_by uses (made_by pass)) draft.drawn
