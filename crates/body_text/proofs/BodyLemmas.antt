-- The values of pages and of batches: that they are the definitions', that they have no float, and how a page grows.
use Rattle.std.proofs.Common.{◌≡◌, ℕ, suc, ◌≤◌, max, Bool, true, false, ◌||◌, List, [], ◌∷◌, ◌++◌, length, refl, sym, ap, subst, ◌∙◌, arith}
use Rattle.serde_json.specs.Data.{Data, object, array, Items, no_items, item, Members, member, no_members, depth, items_depth, members_depth}
use Rattle.serde_json.specs.Events.{items_len}
use Rattle.serde_json.specs.Read.{max_depth}
use Rattle.serde_json.specs.View.{view, items_view}
use Rattle.serde_json.specs.Written.{has_float, items_have_float, members_have_float}
use Rattle.serde_json.specs.declared.value.Value.{Value}
use Rattle.serde_json.proofs.Views.{items_len-items_view}
use Rattle.namespace_model.specs.ListFilesystems.{filesystem_data, filesystem_items}
use Rattle.namespace_model.specs.ListPaths.{directory_members, path_data, path_items}
use Rattle.namespace_model.specs.Nodes.{is_directory}
use Rattle.namespace_model.specs.SetAccessRecursive.{Batch, Failure, failure_data, failure_items}
use Rattle.namespace_model.specs.Trees.{Path, Tree, node_at}
use Rattle.body_text.specs.declared.batches.Changed.{Changed}
use Rattle.body_text.specs.Told.{IsCountOf}
use Rattle.body_text.specs.Written.{batch_data, changed_directories, changed_files, data_of_batch}

-- ---- no value has a float, and none is deep

float_free : (b : Bool) (ms : Members) → members_have_float ms ≡ false → members_have_float (directory_members b ms) ≡ false
float_free true ms e = e
float_free false ms e = e

shallow : (b : Bool) (ms : Members) → members_depth ms ≡ 0 → members_depth (directory_members b ms) ≡ 0
shallow true ms e = rw e refl
shallow false ms e = e

pub paths_float : (t : Tree) (ps : List Path) → items_have_float (path_items t ps) ≡ false
paths_float t [] = refl
paths_float t (p ∷ ps) =
    ap (λ b. b || items_have_float (path_items t ps)) (float_free (is_directory (node_at t p)) _ refl) ∙ paths_float t ps

pub paths_depth : (t : Tree) (ps : List Path) → items_depth (path_items t ps) ≤ 1
paths_depth t [] = omega arith
paths_depth t (p ∷ ps) =
    let one : depth (path_data p (node_at t p)) ≡ 1 = ap suc (ap (λ n. max 0 (max 0 (max 0 n))) (shallow (is_directory (node_at t p)) _ refl)) in
    rw one (omega (arith, paths_depth t ps))

pub filesystems_float : (t : Tree) (ps : List Path) → items_have_float (filesystem_items t ps) ≡ false
filesystems_float t [] = refl
filesystems_float t (p ∷ ps) = filesystems_float t ps

pub filesystems_depth : (t : Tree) (ps : List Path) → items_depth (filesystem_items t ps) ≤ 1
filesystems_depth t [] = omega arith
filesystems_depth t (p ∷ ps) = omega (arith, filesystems_depth t ps)

pub failures_float : (fs : List Failure) → items_have_float (failure_items fs) ≡ false
failures_float [] = refl
failures_float (f ∷ fs) = failures_float fs

pub failures_depth : (fs : List Failure) → items_depth (failure_items fs) ≤ 1
failures_depth [] = omega arith
failures_depth (f ∷ fs) = omega (arith, failures_depth fs)

-- ---- how many failed

failures_count : (fs : List Failure) → items_len (failure_items fs) ≡ length fs
failures_count [] = refl
failures_count (f ∷ fs) = ap suc (failures_count fs)

pub count_is : (vs : List Value) (fs : List Failure) → items_view vs ≡ failure_items fs → length vs ≡ length fs
count_is vs fs e = sym (items_len-items_view vs) ∙ ap items_len e ∙ failures_count fs

-- ---- whole bodies

-- a page of these values
abbrev pub page : List ℕ → Items → Data
page k items = object (member k (array items) no_members)

pub page_float : (k : List ℕ) (v : Data) (items told : Items) → v ≡ page k items → items ≡ told → items_have_float told ≡ false → has_float v ≡ false
page_float k v items told is e free = ap has_float (is ∙ ap (page k) e) ∙ ap (λ b. b || false) free

pub page_shallow : (k : List ℕ) (v : Data) (items told : Items) → v ≡ page k items → items ≡ told → items_depth told ≤ 1 → depth v ≤ max_depth
page_shallow k v items told is e few = subst (λ d. depth d ≤ max_depth) (sym (is ∙ ap (page k) e)) (omega (arith, few))

-- the value of a batch that changed so many nodes and in which these failed
abbrev pub batch_of_values : Changed → List Value → Data
batch_of_values changed vs = batch_data changed.directories (items_view vs) (length vs) changed.files

pub counted : (changed : Changed) (vs : List Value) (b : Batch) → IsCountOf changed (items_view vs) b → batch_of_values changed vs ≡ data_of_batch b
counted changed vs b h =
    ap (λ n. batch_data n (items_view vs) (length vs) changed.files) h.directories
    ∙ ap (λ n. batch_data (changed_directories b) (items_view vs) (length vs) n) h.files
    ∙ ap (λ n. batch_data (changed_directories b) (items_view vs) n (changed_files b)) (count_is vs b.failed h.failed)
    ∙ ap (λ items. batch_data (changed_directories b) items (length b.failed) (changed_files b)) h.failed

pub batch_float : (v : Data) (changed : Changed) (vs : List Value) (b : Batch) → v ≡ batch_of_values changed vs
    → IsCountOf changed (items_view vs) b → has_float v ≡ false
batch_float v changed vs b is h = ap has_float (is ∙ counted changed vs b h) ∙ ap (λ b. b || false) (failures_float b.failed)

pub batch_shallow : (v : Data) (changed : Changed) (vs : List Value) (b : Batch) → v ≡ batch_of_values changed vs
    → IsCountOf changed (items_view vs) b → depth v ≤ max_depth
batch_shallow v changed vs b is h =
    subst (λ d. depth d ≤ max_depth) (sym (is ∙ counted changed vs b h)) (omega (arith, failures_depth b.failed))

-- ---- one more value at the end of a page

abbrev behind : Items → Data → Items
behind no_items d = item d no_items
behind (item e es) d = item e (behind es d)

view_behind : (vs : List Value) (v : Value) → items_view (vs ++ v ∷ []) ≡ behind (items_view vs) (view v)
view_behind [] v = refl
view_behind (w ∷ vs) v = ap (item (view w)) (view_behind vs v)

paths_behind : (t : Tree) (ps : List Path) (p : Path) → path_items t (ps ++ p ∷ []) ≡ behind (path_items t ps) (path_data p (node_at t p))
paths_behind t [] p = refl
paths_behind t (q ∷ ps) p = ap (item (path_data q (node_at t q))) (paths_behind t ps p)

filesystems_behind : (t : Tree) (ps : List Path) (p : Path) → filesystem_items t (ps ++ p ∷ []) ≡ behind (filesystem_items t ps) (filesystem_data p (node_at t p))
filesystems_behind t [] p = refl
filesystems_behind t (q ∷ ps) p = ap (item (filesystem_data q (node_at t q))) (filesystems_behind t ps p)

failures_behind : (fs : List Failure) (f : Failure) → failure_items (fs ++ f ∷ []) ≡ behind (failure_items fs) (failure_data f)
failures_behind [] f = refl
failures_behind (g ∷ fs) f = ap (item (failure_data g)) (failures_behind fs f)

-- for the loop of a listing: the values so far are those of the paths so far
pub path_pushed : (t : Tree) (ps : List Path) (p : Path) (vs : List Value) (v : Value)
    → items_view vs ≡ path_items t ps → view v ≡ path_data p (node_at t p) → items_view (vs ++ v ∷ []) ≡ path_items t (ps ++ p ∷ [])
path_pushed t ps p vs v e k =
    view_behind vs v ∙ ap (λ is. behind is (view v)) e ∙ ap (behind (path_items t ps)) k ∙ sym (paths_behind t ps p)

pub filesystem_pushed : (t : Tree) (ps : List Path) (p : Path) (vs : List Value) (v : Value)
    → items_view vs ≡ filesystem_items t ps → view v ≡ filesystem_data p (node_at t p) → items_view (vs ++ v ∷ []) ≡ filesystem_items t (ps ++ p ∷ [])
filesystem_pushed t ps p vs v e k =
    view_behind vs v ∙ ap (λ is. behind is (view v)) e ∙ ap (behind (filesystem_items t ps)) k ∙ sym (filesystems_behind t ps p)

pub failure_pushed : (fs : List Failure) (f : Failure) (vs : List Value) (v : Value)
    → items_view vs ≡ failure_items fs → view v ≡ failure_data f → items_view (vs ++ v ∷ []) ≡ failure_items (fs ++ f ∷ [])
failure_pushed fs f vs v e k =
    view_behind vs v ∙ ap (λ is. behind is (view v)) e ∙ ap (behind (failure_items fs)) k ∙ sym (failures_behind fs f)
