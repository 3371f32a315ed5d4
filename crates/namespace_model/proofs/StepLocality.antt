-- Each step is decided by what it reads and writes.
use Rattle.std.proofs.Common.{inl, inr, not, List, [], ◌∷◌, refl, ap}
use Rattle.std.specs.Ordering.{eq_by_cmp}
use Rattle.path_text.specs.Paths.{path_cmp}
use Rattle.namespace_model.specs.declared.op.Op.{Op}
use Rattle.namespace_model.specs.declared.op.Op.TheVariants as op
use Rattle.namespace_model.specs.declared.request.Entry.{Entry}
use Rattle.namespace_model.specs.Trees.{Path}
use Rattle.namespace_model.specs.Outcomes.{Outcome, touched, once, without_repeats}
use Rattle.namespace_model.specs.Locality.{Among, IsLocal}
use Rattle.namespace_model.specs.Step.{acts, outcome, with_close}
use Rattle.namespace_model.proofs.Lookups.{path_tells}
use Rattle.namespace_model.proofs.PageOrder.{filter_among}
use Rattle.namespace_model.proofs.Alikeness.{among_left, among_right, among_either}
use Rattle.namespace_model.proofs.LocalSteps.{create_filesystem_local, get_filesystem_local, set_filesystem_local, delete_filesystem_local, read_file_local, get_properties_local, get_access_local, check_access_local, append_local, flush_local, set_properties_local, set_access_local, act_on_lease_local, create_local, delete_local, rename_local}
use Rattle.namespace_model.proofs.LocalPages.{list_filesystems_local, list_paths_local, set_access_recursive_local}

-- taking repeats out loses no path
pub among_once : (q : Path) (ps : List Path) → Among q ps → Among q (once ps)
among_once q [] h = absurd h
among_once q (p ∷ ps) (inl e) = inl e
among_once q (p ∷ ps) (inr h) = elim (path_tells q p) [
  | inl e ↦ inl e
  | inr e ↦ inr (filter_among (λ r. not (eq_by_cmp path_cmp r p)) q (once ps) (ap not e) (among_once q ps h))
]

touched_once : (q : Path) (o : Outcome) → Among q (touched o) → Among q (touched (without_repeats o))
touched_once q o h = elim (among_either q o.read o.written h) [
  | inl k ↦ among_left q (once o.read) (once o.written) (among_once q o.read k)
  | inr k ↦ among_right q (once o.read) (once o.written) (among_once q o.written k)
]

acts_local : (e : Entry) (asked : Op) → IsLocal (λ t. acts t e asked)
acts_local e (op.ListFilesystems prefix token max) = list_filesystems_local e prefix token max
acts_local e (op.CreateFilesystem path props) = create_filesystem_local e path props
acts_local e (op.GetFilesystem path) = get_filesystem_local e path
acts_local e (op.SetFilesystem path props) = set_filesystem_local e path props
acts_local e (op.DeleteFilesystem path) = delete_filesystem_local e path
acts_local e (op.List dir recursive token max) = list_paths_local e dir recursive token max
acts_local e (op.Create path kind permissions umask props) = create_local e (record { path = path; kind = kind; permissions = permissions; umask = umask; props = props })
acts_local e (op.Rename path source props) = rename_local e (record { source = source; path = path; props = props })
acts_local e (op.Read path range) = read_file_local e path range
acts_local e (op.GetProperties path status) = get_properties_local e path status
acts_local e (op.GetAccess path) = get_access_local e path
acts_local e (op.CheckAccess path want) = check_access_local e path want
acts_local e (op.Append path position flush retain action) = append_local e path (record { position = position; flush = flush; retain = retain; action = action })
acts_local e (op.Flush path position retain) = flush_local e path position retain
acts_local e (op.SetProperties path props) = set_properties_local e path props
acts_local e (op.SetAccess path owner group permissions acl) = set_access_local e path (record { owner = owner; group = group; permissions = permissions; acl = acl })
acts_local e (op.SetAccessRecursive path change token max force) = set_access_recursive_local e path change token max force
acts_local e (op.Lease path action) = act_on_lease_local e path action
acts_local e (op.Delete path recursive) = delete_local e path recursive
acts_local e (op.Refused code) = λ s t laid_s laid_t h. refl

pub outcome_local : (e : Entry) → IsLocal (λ t. outcome t e)
unfolding outcome
outcome_local e s t laid_s laid_t h =
    ap (λ o. without_repeats (with_close e.request.close o)) (acts_local e e.request.op s t laid_s laid_t (λ p k. h p (touched_once p (acts s e e.request.op) k)))
