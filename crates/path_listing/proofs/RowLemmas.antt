-- Rows: their paths and nodes, what is asked of them, and that each has a date.
use Rattle.std.proofs.Common.{◌≡◌, ℕ, zero, suc, ◌+◌, ◌-◌, ◌≤◌, ◌<◌, true, false, cond, List, [], ◌∷◌, ◌++◌, length, take, drop, slice_get, Option, Some, None, unwrap_or, is_some, refl, sym, ap, subst, ◌∙◌, arith}
use Rattle.std.proofs.lemmas.Bool.{false≢true}
use Rattle.std.proofs.lemmas.Option.{same_Some}
use Rattle.std.proofs.Math.Logic.{∥∥₁_elim}
use Rattle.std.specs.Coded.{le_prop}
use Rattle.std.specs.Prelude.{slice_index_or}
use Rattle.lease_state.specs.declared.lease.TheConstants.{LAST_MOMENT}
use Rattle.namespace_model.specs.declared.caller.Caller.{Caller}
use Rattle.namespace_model.specs.declared.reply.Reply.{Reply}
use Rattle.namespace_model.specs.ListPaths.{is_closed}
use Rattle.namespace_model.specs.Nodes.{Node, blank}
use Rattle.namespace_model.specs.Pages.{page_of}
use Rattle.namespace_model.specs.Refusals.{or_else, first_refusal}
use Rattle.namespace_model.specs.Trees.{Path, Tree, node_at}
use Rattle.inode_tree.specs.Footprints.{HasDate}
use Rattle.inode_tree.specs.Inodes.{node_of}
use Rattle.inode_tree.specs.Parts.{Parts}
use Rattle.inode_tree.specs.Views.{Shown, Agreeing}
use Rattle.path_order.specs.declared.cursor.Seen.{Seen}
use Rattle.path_order.specs.PagesBelow.{last_of, IsNodeOf, AreNodesOf}
use Rattle.path_order.proofs.PageLemmas.{last_page, more_page}
use Rattle.path_listing.specs.declared.rows.Page.{Page}
use Rattle.path_listing.specs.declared.rows.Row.{Row}
use Rattle.path_listing.specs.Listed.{path_in, paths_in, nodes_in, rows_closed, way_closed, IsPageOf, AreShown, AreTimely}

-- ---- one row more

pub paths_more : (dir : Path) (rows : List Row) (r : Row) → paths_in dir (rows ++ r ∷ []) ≡ paths_in dir rows ++ path_in dir r ∷ []
paths_more dir [] r = refl
paths_more dir (x ∷ rows) r = ap (λ l. path_in dir x ∷ l) (paths_more dir rows r)

pub rows_nodes_more : (rows : List Row) (r : Row) → nodes_in (rows ++ r ∷ []) ≡ nodes_in rows ++ r.seen ∷ []
rows_nodes_more [] r = refl
rows_nodes_more (x ∷ rows) r = ap (λ l. x.seen ∷ l) (rows_nodes_more rows r)

pub paths_long : (dir : Path) (rows : List Row) → length (paths_in dir rows) ≡ length rows
paths_long dir [] = refl
paths_long dir (r ∷ rows) = ap suc (paths_long dir rows)

-- ---- the last row

last_at : (dir from : Path) (rows : List Row) (k : ℕ) (r : Row) → length rows ≡ suc k → slice_get rows k ≡ Some r → path_in dir r ≡ last_of from (paths_in dir rows)
last_at dir from [] k r e at = absurd (omega arith)
last_at dir from (x ∷ []) zero r e at = ap (path_in dir) (sym (same_Some x r at))
last_at dir from (x ∷ y ∷ rows) zero r e at = absurd (let h : suc (suc (length rows)) ≡ 1 = e in omega arith)
last_at dir from (x ∷ []) (suc k) r e at = absurd (let h : 1 ≡ suc (suc k) = e in omega arith)
last_at dir from (x ∷ y ∷ rows) (suc k) r e at = last_at dir (path_in dir x) (y ∷ rows) k r (let h : suc (length (y ∷ rows)) ≡ suc (suc k) = e in omega arith) at

pub last_row : (dir from : Path) (rows : List Row) (r : Row) → slice_get rows (length rows - 1) ≡ Some r → path_in dir r ≡ last_of from (paths_in dir rows)
last_row dir from [] r at = absurd (false≢true (ap is_some at))
last_row dir from (x ∷ rows) r at = last_at dir from (x ∷ rows) (length (x ∷ rows) - 1) r (let h : length (x ∷ rows) ≡ suc (length rows) = refl in omega arith) at

-- ---- nodes

pub node_shown : (parts : Parts) (t : Tree) (q : Path) (s : Seen) → IsNodeOf parts t q s → ◌≡◌ {A = Node} (node_at t q) (node_of s.node)
node_shown parts t q s is = ap (λ (o : Option Node). unwrap_or o blank) is.shows

pub rows_shown : (parts : Parts) (t : Tree) (dir : Path) (rows : List Row) → AreNodesOf parts t (paths_in dir rows) (nodes_in rows) → AreShown t dir rows
rows_shown parts t dir [] are = tt
rows_shown parts t dir (r ∷ rows) are = (node_shown parts t (path_in dir r) r.seen are.0, rows_shown parts t dir rows are.1)

-- the first refusal of the rows is that of their paths
pub rows_asked : (caller : Caller) (t : Tree) (dir : Path) (rows : List Row) → AreShown t dir rows → first_refusal (is_closed caller) t (paths_in dir rows) ≡ rows_closed caller dir rows
rows_asked caller t dir [] are = refl
rows_asked caller t dir (r ∷ rows) are =
    ap (λ x. or_else (is_closed caller (path_in dir r) x) (first_refusal (is_closed caller) t (paths_in dir rows))) are.0
    ∙ ap (or_else (is_closed caller (path_in dir r) (node_of r.seen.node))) (rows_asked caller t dir rows are.1)

-- ---- dates

dated : (shown : Shown) (a : Agreeing shown) (q : Path) (s : Seen) → IsNodeOf a.parts a.tree q s → s.node.meta.moment ≤ LAST_MOMENT
dated shown a q s is =
    let date : HasDate (node_of s.node).moment = a.dates q (node_of s.node) is.shows in
    let last : LAST_MOMENT ≡ 253402300799999 = refl in
    omega (arith, date, last)

pub rows_timely : (shown : Shown) → ∥ Agreeing shown ∥₁ → (dir : Path) (rows : List Row) → ((a : Agreeing shown) → AreNodesOf a.parts a.tree (paths_in dir rows) (nodes_in rows)) → AreTimely rows
rows_timely shown some dir [] are = tt
rows_timely shown some dir (r ∷ rows) are = (∥∥₁_elim some le_prop (λ a. dated shown a (path_in dir r) r.seen (are a).0), rows_timely shown some dir rows (λ a. (are a).1))

pub timely_item : (rows : List Row) (i : ℕ) (r : Row) → i < length rows → r ≡ slice_index_or rows i r → AreTimely rows → r.seen.node.meta.moment ≤ LAST_MOMENT
timely_item [] i r within item are = absurd (omega arith)
timely_item (x ∷ rows) zero r within item are = subst (λ (y : Row). y.seen.node.meta.moment ≤ LAST_MOMENT) (sym item) are.0
timely_item (x ∷ rows) (suc i) r within item are = timely_item rows i r (omega arith) item are.1

-- ---- the page of these rows

-- the paths of a page are those of its rows
page_with : (parts : Parts) (t : Tree) (dir : Path) (max : ℕ) (list done : List Path) (rows : List Row) (p : Page) → done ≡ paths_in dir rows → p.rows.items ≡ rows
    → page_of max list ≡ record { paths = done; next = cond p.more (Some (last_of dir done)) None } → AreNodesOf parts t done (nodes_in rows)
    → IsPageOf parts t dir max list p
page_with parts t dir max list done rows p named same is are = (
  is ∙ ap (λ l. record { paths = l; next = cond p.more (Some (last_of dir l)) None }) (named ∙ ap (λ (l : List Row). paths_in dir l) (sym same)),
  subst (λ (l : List Row). AreNodesOf parts t (paths_in dir l) (nodes_in l)) (sym same) (subst (λ l. AreNodesOf parts t l (nodes_in rows)) named are),
)

-- nothing is left
pub last_rows : (parts : Parts) (t : Tree) (dir : Path) (max : ℕ) (list done : List Path) (rows : List Row) (p : Page) → done ≡ paths_in dir rows → p.rows.items ≡ rows → p.more ≡ false
    → list ≡ done → length done ≤ max → AreNodesOf parts t done (nodes_in rows) → IsPageOf parts t dir max list p
last_rows parts t dir max list done rows p named same no_more all short are =
    page_with parts t dir max list done rows p named same
    (last_page max dir list done all short ∙ ap (λ b. record { paths = done; next = cond b (Some (last_of dir done)) None }) (sym no_more)) are

-- more is left
pub more_rows : (parts : Parts) (t : Tree) (dir : Path) (max : ℕ) (list done : List Path) (rows : List Row) (p : Page) (q : Path) (rest : List Path) → 1 ≤ max → done ≡ paths_in dir rows → p.rows.items ≡ rows
    → p.more ≡ true → list ≡ done ++ q ∷ rest → length done ≡ max → AreNodesOf parts t done (nodes_in rows) → IsPageOf parts t dir max list p
more_rows parts t dir max list done rows p q rest some named same more all full are =
    page_with parts t dir max list done rows p named same
    (more_page max dir list done q rest some all full ∙ ap (λ b. record { paths = done; next = cond b (Some (last_of dir done)) None }) (sym more)) are

-- ---- questions, one after the other

drop_next : {A : Type 0} (xs : List A) (i : ℕ) (x : A) → i < length xs → x ≡ slice_index_or xs i x → drop i xs ≡ x ∷ drop (suc i) xs
drop_next [] i x within item = absurd (omega arith)
drop_next (y ∷ xs) zero x within item = ap (λ z. z ∷ xs) (sym item)
drop_next (y ∷ xs) (suc i) x within item = drop_next xs i x (omega arith) item

drop_item : {A : Type 0} (xs : List A) (i : ℕ) (x : A) → i < length xs → x ≡ slice_index_or xs i x → drop i xs ≡ x ∷ drop (i + 1) xs
drop_item xs i x within item = drop_next xs i x within item ∙ ap (λ k. x ∷ drop k xs) (let h : suc i ≡ i + 1 = omega arith in h)

drop_all : {A : Type 0} (xs : List A) (i : ℕ) → i ≡ length xs → drop i xs ≡ []
drop_all [] zero e = refl
drop_all [] (suc i) e = refl
drop_all (x ∷ xs) zero e = absurd (omega arith)
drop_all (x ∷ xs) (suc i) e = drop_all xs i (omega arith)

-- the row of a place, and those behind it
pub rows_one : (caller : Caller) (dir : Path) (rows : List Row) (i : ℕ) (r : Row) (o : Option Reply) → i < length rows → r ≡ slice_index_or rows i r → o ≡ is_closed caller (path_in dir r) (node_of r.seen.node)
    → rows_closed caller dir rows ≡ rows_closed caller dir (drop i rows) → rows_closed caller dir rows ≡ or_else o (rows_closed caller dir (drop (i + 1) rows))
rows_one caller dir rows i r o within item asks so_far =
    so_far ∙ ap (λ (l : List Row). rows_closed caller dir l) (drop_item rows i r within item) ∙ ap (λ a. or_else a (rows_closed caller dir (drop (i + 1) rows))) (sym asks)

pub rows_none : (caller : Caller) (dir : Path) (rows : List Row) (i : ℕ) → i ≡ length rows → rows_closed caller dir rows ≡ rows_closed caller dir (drop i rows) → None ≡ rows_closed caller dir rows
rows_none caller dir rows i all so_far = sym (so_far ∙ ap (λ (l : List Row). rows_closed caller dir l) (drop_all rows i all))

-- so it is of the nodes on the way
pub way_one : (caller : Caller) (token : Path) (names depth more : ℕ) (way : List Seen) (i : ℕ) (s : Seen) (o : Option Reply) → i < length way → s ≡ slice_index_or way i s → more ≡ depth + 1
    → o ≡ is_closed caller (take more token) (node_of s.node) → way_closed caller token names way ≡ way_closed caller token depth (drop i way)
    → way_closed caller token names way ≡ or_else o (way_closed caller token more (drop (i + 1) way))
way_one caller token names depth more way i s o within item next asks so_far =
    let deeper : suc depth ≡ more = omega (arith, next) in
    so_far ∙ ap (λ (l : List Seen). way_closed caller token depth l) (drop_item way i s within item)
    ∙ ap (λ k. or_else (is_closed caller (take k token) (node_of s.node)) (way_closed caller token k (drop (i + 1) way))) deeper
    ∙ ap (λ a. or_else a (way_closed caller token more (drop (i + 1) way))) (sym asks)

pub way_none : (caller : Caller) (token : Path) (names depth : ℕ) (way : List Seen) (i : ℕ) → i ≡ length way → way_closed caller token names way ≡ way_closed caller token depth (drop i way)
    → None ≡ way_closed caller token names way
way_none caller token names depth way i all so_far = sym (so_far ∙ ap (λ (l : List Seen). way_closed caller token depth l) (drop_all way i all))
