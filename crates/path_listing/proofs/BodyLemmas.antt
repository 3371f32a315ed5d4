-- The body of a page, row by row, and the token by which it goes on.
use Rattle.std.proofs.Common.{◌≡◌, ◌≢◌, ℕ, zero, suc, ◌+◌, ◌<◌, true, List, [], ◌∷◌, ◌++◌, length, take, slice_get, refl, sym, ap, subst, ◌∙◌, arith}
use Rattle.std.proofs.Math.Seq.{take-suc}
use Rattle.std.specs.Prelude.{slice_index_or}
use Rattle.serde_json.specs.View.{items_view, view}
use Rattle.serde_json.specs.declared.value.Value.{Value}
use Rattle.body_text.specs.Told.{AreContents}
use Rattle.body_text.specs.declared.paths.Contents.TheVariants as contents
use Rattle.body_text.proofs.BodyLemmas.{path_pushed}
use Rattle.file_data.specs.FileRecord.{FileRecord}
use Rattle.namespace_model.specs.ListPaths.{path_data, path_items}
use Rattle.namespace_model.specs.Trees.{Path, Tree, node_at}
use Rattle.namespace_model.proofs.Prefixes.{same_bytes}
use Rattle.path_text.specs.Tokens.{is_on_page}
use Rattle.inode_tree.specs.declared.inode.Content.{Content}
use Rattle.inode_tree.specs.declared.inode.Content.TheVariants as content
use Rattle.inode_tree.specs.declared.inode.Inode.{Inode}
use Rattle.inode_tree.specs.ChildLists.{ChildRecord}
use Rattle.inode_tree.specs.Inodes.{BareInode, bare, bare_content, node_content, node_of, numbered}
use Rattle.path_order.specs.PagesBelow.{last_of}
use Rattle.path_listing.specs.declared.rows.Row.{Row}
use Rattle.path_listing.specs.Listed.{path_in, paths_in, AreShown}
use Rattle.path_listing.proofs.RowLemmas.{paths_more}

take_item : (rows : List Row) (i : ℕ) (r : Row) → i < length rows → r ≡ slice_index_or rows i r → take i rows ++ r ∷ [] ≡ take (i + 1) rows
take_item rows i r within item = ap (λ x. take i rows ++ x ∷ []) item ∙ sym (take-suc rows i r within) ∙ ap (λ k. take k rows) (let h : suc i ≡ i + 1 = omega arith in h)

shown_item : (t : Tree) (dir : Path) (rows : List Row) (i : ℕ) (r : Row) → i < length rows → r ≡ slice_index_or rows i r → AreShown t dir rows → node_at t (path_in dir r) ≡ node_of r.seen.node
shown_item t dir [] i r within item are = absurd (omega arith)
shown_item t dir (x ∷ rows) zero r within item are = subst (λ (y : Row). node_at t (path_in dir y) ≡ node_of y.seen.node) (sym item) are.0
shown_item t dir (x ∷ rows) (suc i) r within item are = shown_item t dir rows i r (omega arith) item are.1

-- one value more
pub values_more : (t : Tree) (dir : Path) (rows : List Row) (i : ℕ) (r : Row) (entries more : List Value) (v : Value) → i < length rows → r ≡ slice_index_or rows i r → AreShown t dir rows
    → items_view entries ≡ path_items t (paths_in dir (take i rows)) → view v ≡ path_data (path_in dir r) (node_of r.seen.node) → more ≡ entries ++ v ∷ []
    → items_view more ≡ path_items t (paths_in dir (take (i + 1) rows))
values_more t dir rows i r entries more v within item are so_far value is_more =
    ap (λ (l : List Value). items_view l) is_more
    ∙ path_pushed t (paths_in dir (take i rows)) (path_in dir r) entries v so_far (value ∙ ap (path_data (path_in dir r)) (sym (shown_item t dir rows i r within item are)))
    ∙ ap (path_items t) (sym (paths_more dir (take i rows) r) ∙ ap (λ (l : List Row). paths_in dir l) (take_item rows i r within item))

pub all_values : (t : Tree) (dir : Path) (rows : List Row) (i : ℕ) (entries : List Value) → i ≡ length rows → items_view entries ≡ path_items t (paths_in dir (take i rows)) → items_view entries ≡ path_items t (paths_in dir rows)
all_values t dir rows i entries all so_far = so_far ∙ ap (λ (l : List Row). path_items t (paths_in dir l)) (take_all rows i all)
  where
    take_all : (rows : List Row) (i : ℕ) → i ≡ length rows → take i rows ≡ rows
    take_all [] zero e = refl
    take_all [] (suc i) e = refl
    take_all (r ∷ rows) zero e = absurd (omega arith)
    take_all (r ∷ rows) (suc i) e = ap (λ l. r ∷ l) (take_all rows i (omega arith))

-- ---- what stands there

content_is : (x : BareInode) (i : Inode) (c : Content) (k : ℕ) → numbered k (bare i) ≡ x → i.content ≡ c → node_content (bare_content c) ≡ (node_of x).content
content_is x i c k e f = sym (ap (λ (d : Content). node_content (bare_content d)) f) ∙ ap (λ (y : BareInode). (node_of y).content) e

pub directory_there : (x : BareInode) (i : Inode) (children : ChildRecord) (k : ℕ) → numbered k (bare i) ≡ x → i.content ≡ content.Directory children → AreContents contents.Directory (node_of x).content
directory_there x i children k e f = subst (λ c. AreContents contents.Directory c) (content_is x i (content.Directory children) k e f) tt

pub file_there : (x : BareInode) (i : Inode) (bytes : FileRecord) (k len : ℕ) → numbered k (bare i) ≡ x → i.content ≡ content.File bytes → len ≡ length bytes.committed → AreContents (contents.File len) (node_of x).content
file_there x i bytes k len e f long = subst (λ c. AreContents (contents.File len) c) (content_is x i (content.File bytes) k e f) long

-- ---- the token

pub last_on_page : (dir : Path) (rows : List Row) → dir ≢ [] → is_on_page (slice_get dir 0) (last_of dir (paths_in dir rows)) ≡ true
last_on_page [] rows some = absurd (some refl)
last_on_page (fs ∷ names) rows some = from_there (fs ∷ names) rows (same_bytes fs)
  where
    from_there : (from : Path) (rows : List Row) → is_on_page (slice_get (fs ∷ names) 0) from ≡ true → is_on_page (slice_get (fs ∷ names) 0) (last_of from (paths_in (fs ∷ names) rows)) ≡ true
    from_there from [] h = h
    from_there from (r ∷ rows) h = from_there (path_in (fs ∷ names) r) rows (same_bytes fs)
