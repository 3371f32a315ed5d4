-- Where a walk begins by a token: below its directory, before it or behind it.
use Rattle.std.proofs.Common.{◌≡◌, ◌≢◌, inl, inr, ◌-◌, true, false, cond, ◌&&◌, List, [], ◌∷◌, ◌++◌, length, take, drop, Option, Some, None, refl, sym, ap, subst, ◌∙◌, append_assoc, append-nil}
use Rattle.std.proofs.lemmas.Bool.{false≢true}
use Rattle.std.proofs.lemmas.List.{length-drop}
use Rattle.std.proofs.Math.Seq.{take-length}
use Rattle.std.specs.List.{filter}
use Rattle.std.specs.declared.cmp.Ordering.TheVariants.{Less}
use Rattle.path_text.specs.Paths.{path_cmp, is_prefix}
use Rattle.namespace_model.specs.Locality.{Among}
use Rattle.namespace_model.specs.Pages.{is_above, above, on_the_way}
use Rattle.namespace_model.specs.Trees.{Path, Tree, is_below}
use Rattle.namespace_model.proofs.Effected.{drop_front}
use Rattle.namespace_model.proofs.Lookups.{keys_among}
use Rattle.namespace_model.proofs.PageLaws.{before_above}
use Rattle.namespace_model.proofs.PageOrder.{before_trans, before_both, before_tells}
use Rattle.namespace_model.proofs.Prefixes.{both, front_of_append, front_of_itself, below_names, behind_front}
use Rattle.inode_tree.specs.Inodes.{BareInode}
use Rattle.inode_tree.specs.Views.{Held, Shown}
use Rattle.path_order.specs.declared.begin.Start.{Start}
use Rattle.path_order.specs.Cursors.{Before, IsCursor}
use Rattle.path_order.specs.PagesBelow.{below, AreNodesOf, AreHeld}
use Rattle.path_order.specs.Starts.{IsAtFor, IsStart, IsStartBehind, IsStartAt}
use Rattle.path_order.proofs.NextPath.{apart_same, front_first, none_of}

pub all_behind : (token : Path) (xs : List Path) → ((q : Path) → Among q xs → Before token q) → above (Some token) xs ≡ xs
all_behind token [] h = refl
all_behind token (x ∷ xs) h =
    ap (λ b. cond b (x ∷ filter (is_above token) xs) (filter (is_above token) xs)) (before_above token x (h x (inl refl))) ∙ ap (λ l. x ∷ l) (all_behind token xs (λ q k. h q (inr k)))

pub below_behind : (t : Tree) (dir q : Path) → Among q (below t dir) → Before dir q
below_behind t dir q h =
    let names = below_names dir q (keys_among t (is_below dir) q h).0 in
    subst (λ r. Before dir r) (sym names.2) (front_first dir names.0 names.1)

pub none_among : (xs : List Path) → ((q : Path) → Among q xs → ⊥) → xs ≡ []
none_among [] h = refl
none_among (x ∷ xs) h = absurd (h x (inl refl))

-- nothing is on the way to a token that isn't below the path
pub nothing_way : (t : Tree) (dir token : Path) → is_prefix dir token ≡ false → on_the_way t (is_below dir) (Some token) ≡ []
nothing_way t dir token apart = none_among (on_the_way t (is_below dir) (Some token)) (λ q h.
    let parts = both (is_below dir q) (is_prefix q token) (keys_among t (λ r. is_below dir r && is_prefix r token) q h).0 in
    let names = below_names dir q parts.0 in
    let rest = behind_front q token parts.1 in
    let is : token ≡ dir ++ (names.0 ∷ names.1 ++ rest.0) = rest.1 ∙ ap (λ r. r ++ rest.0) names.2 ∙ append_assoc dir (names.0 ∷ names.1) rest.0 in
    false≢true (sym apart ∙ ap (is_prefix dir) is ∙ front_of_append dir (names.0 ∷ names.1 ++ rest.0)))

-- a walk from the beginning, where all that is below stands behind the token, and nothing is on the way to it
pub from_start : (held : Held) (shown : Shown) (dir : Path) (token : Option Path) (x : BareInode) (s : Start) → IsAtFor shown dir x → ((sh : Shown) (p : Path) → IsAtFor sh p x → IsCursor sh p p s.cursor) → s.seen.items ≡ []
    → ((t : Tree) → (above token (below t dir) ≡ below t dir) × (on_the_way t (is_below dir) token ≡ [])) → IsStartBehind held shown dir token s
from_start held shown dir token x s is begins nothing all = record {
  from = dir;
  walk = begins shown dir is;
  same = λ t. all_behind dir (below t dir) (below_behind t dir) ∙ sym (all t).0;
  way = λ parts t stands agrees.
      subst (λ l. AreNodesOf parts t (on_the_way t (is_below dir) token) l) (sym nothing) (subst (λ l. AreNodesOf parts t l []) (sym (all t).1) tt);
  looked = subst (λ l. AreHeld held shown l) (sym nothing) tt;
}

pub no_token : (dir : Path) (t : Tree) → (above None (below t dir) ≡ below t dir) × (on_the_way t (is_below dir) None ≡ [])
no_token dir t = (refl, refl)

-- a token before the path
pub token_before : (dir token : Path) → is_prefix dir token ≡ false → (path_cmp dir token ≡ Less → ⊥) → (t : Tree) → (above (Some token) (below t dir) ≡ below t dir) × (on_the_way t (is_below dir) (Some token) ≡ [])
token_before dir token apart not_less t = (
  all_behind token (below t dir) (λ q h. before_trans token dir q (elim (before_tells dir token) [
    | inl less ↦ absurd (not_less less)
    | inr other ↦ elim other [
      | inl same ↦ absurd (false≢true (sym apart ∙ ap (is_prefix dir) (sym same) ∙ front_of_itself dir))
      | inr more ↦ more
    ]
  ]) (below_behind t dir q h)),
  nothing_way t dir token apart,
)

-- a token behind it
pub token_behind : (held : Held) (shown : Shown) (dir token : Path) → is_prefix dir token ≡ false → path_cmp dir token ≡ Less → IsStartAt held shown dir (Some token) None
token_behind held shown dir token apart less t = (
  none_of token (below t dir) (λ q h before.
      let names = below_names dir q (keys_among t (is_below dir) q h).0 in
      let ahead : Before (dir ++ names.0 ∷ names.1) token = apart_same dir [] (names.0 ∷ names.1) token apart (subst (λ r. Before r token) (sym (append-nil dir)) less) in
      before_both token q before (subst (λ r. Before r token) (sym names.2) ahead)),
  nothing_way t dir token apart,
)

-- a token below it
pub token_below : (held : Held) (shown : Shown) (dir names token : Path) (s : Start) → token ≡ dir ++ names → IsStart held shown dir names s → IsStartBehind held shown dir (Some token) s
token_below held shown dir names token s is start = record {
  from = dir ++ names;
  walk = start.walk;
  same = λ t. ap (λ k. above (Some k) (below t dir)) (sym is);
  way = λ parts t stands agrees. subst (λ k. AreNodesOf parts t (on_the_way t (is_below dir) (Some k)) s.seen.items) (sym is) (start.way parts t stands agrees);
  looked = start.looked;
}

-- the names of a token below a path
pub names_behind : (dir token of whole : Path) → dir ≢ [] → is_prefix dir token ≡ true → of ≡ drop 1 dir → whole ≡ drop 1 token → token ≡ dir ++ take (length whole - length of) (drop (length of) whole)
names_behind [] token of whole some front is_of is_whole = absurd (some refl)
names_behind (f ∷ dir) token of whole some front is_of is_whole =
    let behind = behind_front (f ∷ dir) token front in
    let rest : drop (length of) whole ≡ behind.0 =
    ap (λ (p : Path). drop (length p) whole) is_of ∙ ap (drop (length dir)) (is_whole ∙ ap (drop 1) behind.1) ∙ drop_front dir behind.0 in
    behind.1
    ∙ ap (λ r. f ∷ dir ++ r) (sym (ap (λ k. take k (drop (length of) whole)) (sym (length-drop (length of) whole)) ∙ take-length (drop (length of) whole) ∙ rest))
