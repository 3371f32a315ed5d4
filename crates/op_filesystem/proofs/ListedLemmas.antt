-- A page of filesystems, root by root.
use Rattle.std.proofs.Common.{◌≡◌, ◌⊎◌, inl, inr, ℕ, ◌+◌, ◌%◌, ◌<◌, ◌≤◌, true, List, [], ◌∷◌, ◌++◌, map, length, take, is_some, Option, Some, None, option_map, option_and_then, unwrap_or, refl, sym, ap, subst, ◌∙◌, append_assoc, append-nil, length-append, arith}
use Rattle.std.proofs.Math.Logic.{∥∥₁_elim}
use mathlib.Core.HLevel.{⊥_prop}
use Rattle.std.proofs.lemmas.Bool.{cases_Bool, false≢true}
use Rattle.std.proofs.lemmas.Bool.Decides.{leb_tells}
use Rattle.std.proofs.lemmas.Option.{same_Some}
use Rattle.std.specs.FinMap as fin
use Rattle.std.specs.List.{list_all}
use Rattle.std.proofs.Math.Nat.{mod-lt}
use Rattle.std.proofs.Math.Dec.{lit<}
use Rattle.serde_json.specs.Data.{Data, Items, no_items, item}
use Rattle.serde_json.specs.View.{view, items_view}
use Rattle.serde_json.specs.declared.value.Value.{Value}
use Rattle.lease_state.specs.declared.lease.TheConstants.{LAST_MOMENT}
use Rattle.lock_core.specs.declared.object.LockMode.TheVariants.{Shared}
use Rattle.path_text.specs.Names.{is_fs_name, is_name}
use Rattle.namespace_model.specs.ListFilesystems.{filesystems, filesystem_data, filesystem_items}
use Rattle.namespace_model.specs.Locality.{Among}
use Rattle.namespace_model.specs.Nodes.{Node, blank}
use Rattle.namespace_model.specs.Pages.{page_of, above}
use Rattle.namespace_model.specs.Trees.{Path, Tree, at, node_at}
use Rattle.namespace_model.proofs.Prefixes.{both}
use Rattle.inode_tree.specs.declared.id.NodeId.{NodeId}
use Rattle.inode_tree.specs.declared.need.Need.{Need}
use Rattle.inode_tree.specs.After.{with_id}
use Rattle.inode_tree.specs.Changes.{Part}
use Rattle.inode_tree.specs.Footprints.{ids_of}
use Rattle.inode_tree.specs.Inodes.{BareInode, node_of}
use Rattle.inode_tree.specs.Parts.{Parts, follow, id_at}
use Rattle.inode_tree.specs.Promises.{numbers_of}
use Rattle.inode_tree.specs.Stands.{Stands}
use Rattle.inode_tree.specs.Views.{Held, Shown, Agreeing, Agrees, Grows, IsKnown, covers, shown_at}
use Rattle.inode_tree.proofs.FrameLemmas.{short_id}
use Rattle.inode_tree.proofs.IndexLemmas.{index_from_stands, reached_short}
use Rattle.path_walk.specs.Visits.{AreLookedAt, IsHeldAndShown}
use Rattle.path_walk.proofs.FindLemmas.{ids_of_append}
use Rattle.path_walk.proofs.TrailLemmas.{agreed, agrees_before, looked_more, numbers-append}
use Rattle.path_order.specs.Cursors.{IsAt}
use Rattle.path_order.specs.PagesBelow.{last_of}
use Rattle.path_order.specs.Starts.{IsAtFor}
use Rattle.path_order.proofs.CursorLemmas.{names_lead}
use Rattle.path_order.proofs.PageLemmas.{last_page, more_page, last_more, in_front}
use Rattle.path_order.specs.Needs.{NeedsNode}
use Rattle.body_text.specs.Told.{IsStampOf}
use Rattle.op_filesystem.specs.declared.page.Listed.{Listed}
use Rattle.op_filesystem.specs.Listed.{root_of, NamesFilesystem, IsFirstNamed, IsNextNamed, IsTold, IsListed, NeedsListed}
use Rattle.op_filesystem.proofs.NamedLemmas.{reached_at, left_at, all_left, one_left, none_left}

-- ---- what was shown

-- a node that was shown stays so
pub shown_later : (old new : Shown) (id : ℕ) (x : BareInode) → Grows old new → shown_at old id ≡ Some x → shown_at new id ≡ Some x
shown_later old new id x grows e = by_part (old (id % 64)) refl e
  where
    by_part : (o : Option Part) → old (id % 64) ≡ o → option_and_then (λ (p : Part). fin.get p id) o ≡ Some x → shown_at new id ≡ Some x
    by_part None f h = absurd (false≢true (ap is_some h))
    by_part (Some part) f h = ap (option_and_then (λ (p : Part). fin.get p id)) (grows (id % 64) part f) ∙ h

-- ---- a root that was looked at

node_shown : (parts : Parts) (t : Tree) → Stands parts t → (p : Path) (id : ℕ) (x : BareInode) → IsAt parts p id x → at t p ≡ Some (node_of x)
node_shown parts t stands p id x is =
    let place = (index_from_stands parts t stands).places p id is.leads in
    place.shows ∙ ap (λ (y : BareInode). Some (node_of y)) (same_inode place.inode x (sym place.found ∙ is.there))
  where
    same_inode : (x y : BareInode) → ◌≡◌ {A = Option BareInode} (Some x) (Some y) → x ≡ y
    same_inode x y e = same_Some x y e

-- its moment is before the year 10000
pub is_timely : (shown : Shown) (p : Path) (x : BareInode) → ∥ Agreeing shown ∥₁ → IsAtFor shown p x → (node_of x).moment ≤ LAST_MOMENT
is_timely shown p x some is = elim (leb_tells (node_of x).moment LAST_MOMENT) [
  | inl k ↦ k.1
  | inr k ↦ absurd (∥∥₁_elim some ⊥_prop (λ a.
      let here = is a.parts a.tree a.stands a.agrees in
      let date = a.dates p (node_of x) (node_shown a.parts a.tree a.stands p here.0 x here.1) in
      let late = k.1 in
      omega arith))
]

-- the name that leads to it is that of a filesystem
pub is_filesystem : (shown : Shown) (n : List ℕ) (x : BareInode) → ∥ Agreeing shown ∥₁ → IsAtFor shown (n ∷ []) x → is_fs_name n ≡ true
is_filesystem shown n x some is = elim (cases_Bool (is_fs_name n)) [
  | inl e ↦ e
  | inr e ↦ absurd (∥∥₁_elim some ⊥_prop (λ a.
      let here = is a.parts a.tree a.stands a.agrees in
      let limits = a.stands.tree.limits (n ∷ []) (there_is (at a.tree (n ∷ [])) (node_of x) (node_shown a.parts a.tree a.stands (n ∷ []) here.0 x here.1)) in
      false≢true (sym e ∙ (both (is_fs_name n) (list_all is_name []) limits.parts).0)))
]
  where
    there_is : (o : Option Node) (y : Node) → o ≡ Some y → is_some o ≡ true
    there_is o y e = ap is_some e

pub told_is : (n : List ℕ) (x : BareInode) (number moment : ℕ) (v : Value) → number ≡ (node_of x).number → moment ≡ (node_of x).moment → (node_of x).moment ≤ LAST_MOMENT
    → ((y : Node) → IsStampOf number moment y → view v ≡ filesystem_data (n ∷ []) y) → IsTold n (node_of x) v
told_is n x number moment v same at timely tells = tells (node_of x) (record { number = same; moment = at; timely = timely })

-- ---- lists

abbrev behind : Items → Data → Items
behind no_items d = item d no_items
behind (item e es) d = item e (behind es d)

view_more : (vs : List Value) (v : Value) → items_view (vs ++ v ∷ []) ≡ behind (items_view vs) (view v)
view_more [] v = refl
view_more (w ∷ vs) v = ap (item (view w)) (view_more vs v)

items_more : (t : Tree) (ps : List Path) (q : Path) → filesystem_items t (ps ++ q ∷ []) ≡ behind (filesystem_items t ps) (filesystem_data q (node_at t q))
items_more t [] q = refl
items_more t (p ∷ ps) q = ap (item (filesystem_data p (node_at t p))) (items_more t ps q)

-- ---- the page so far

-- what holds of it for parts
pub record AreListed (parts : Parts) (t : Tree) (prefix : List ℕ) (from last : Option (List ℕ)) (done : List Path) (reads : List NodeId) (entries : List Value) : Type 0 where
  pub left : above (root_of from) (filesystems t prefix) ≡ done ++ left_at t prefix last
  pub ids : numbers_of reads ≡ ids_of parts ([] ∷ done)
  pub tells : items_view entries ≡ filesystem_items t done

-- none was passed, or the last one of them leads to a filesystem
abbrev IsLast : List Path → Option (List ℕ) → Type 0
IsLast done last = (done ≡ []) ⊎ ((last_of [] done ≡ reached_at last) × ((root_of last ≡ Some (reached_at last)) × NamesFilesystem last))

pub record IsListing (held : Held) (shown : Shown) (prefix : List ℕ) (from last : Option (List ℕ)) (count : ℕ) (reads : List NodeId) (entries : List Value) : Type 0 where
  pub done : List Path
  pub long : length done ≡ count
  pub are : (parts : Parts) (t : Tree) → Stands parts t → Agrees shown parts → AreListed parts t prefix from last done reads entries
  pub ends : IsLast done last
  pub looked : AreLookedAt held shown reads

-- behind a name where one is given, and else from the beginning
from_start : (t : Tree) (prefix : List ℕ) (from : Option (List ℕ)) → above (root_of from) (filesystems t prefix) ≡ left_at t prefix from
from_start t prefix None = sym (all_left t prefix)
from_start t prefix (Some n) = refl

pub none_listed : (held : Held) (shown : Shown) (prefix : List ℕ) (from : Option (List ℕ)) (reads : List NodeId) (entries : List Value) → reads ≡ record { 0 = 0 } ∷ [] → entries ≡ []
    → IsHeldAndShown held shown 0 → IsListing held shown prefix from from 0 reads entries
none_listed held shown prefix from reads entries root none looked = record {
  done = [];
  long = refl;
  are = λ parts t stands agrees. record {
    left = from_start t prefix from;
    ids = ap (λ (l : List NodeId). numbers_of l) root;
    tells = ap (λ (l : List Value). items_view l) none;
  };
  ends = inl refl;
  looked = subst (λ (l : List NodeId). AreLookedAt held shown l) (sym root) (looked_more held shown [] (record { 0 = 0 }) (λ id h. absurd (false≢true h)) looked);
}

-- the account, for all parts
pub account_at : (shown : Shown) (x : BareInode) → shown_at shown 0 ≡ Some x → (parts : Parts) → Agrees shown parts → IsAt parts [] 0 x
account_at shown x looks parts agrees = record { leads = refl; there = agreed shown parts 0 x agrees looks }

module _ (shown : Shown) (x : BareInode) (account : shown_at shown 0 ≡ Some x) (prefix : List ℕ) (last : Option (List ℕ)) (m : List ℕ) (c : NodeId) (child : IsFirstNamed x prefix last m c.0) where
  leads : (parts : Parts) (t : Tree) → Stands parts t → Agrees shown parts → follow parts 0 (m ∷ []) ≡ Some c.0
  leads parts t stands agrees = sym (names_lead parts t stands [] 0 x (account_at shown x account parts agrees) m) ∙ child.leads

  -- the next root is known
  pub next_known : IsKnown shown c.0
  next_known parts t stands agrees = stands.found (m ∷ []) c.0 (leads parts t stands agrees)

  module _ (later : Shown) (grows : Grows shown later) where
    -- and where it was looked at it is at its path
    pub next_at : (y : BareInode) → shown_at later c.0 ≡ Some y → IsAtFor later (m ∷ []) y
    next_at y looks parts t stands agrees =
        (c.0, record { leads = leads parts t stands (agrees_before shown later parts grows agrees); there = agreed later parts c.0 y agrees looks })

    module _ (from : Option (List ℕ)) (count max : ℕ) (reads : List NodeId) (entries : List Value) (old_held held : Held) (same : held ≡ old_held)
        (is : IsListing old_held shown prefix from last count reads entries) where
      left_is : (parts : Parts) (t : Tree) → Stands parts t → Agrees later parts → above (root_of from) (filesystems t prefix) ≡ is.done ++ (m ∷ []) ∷ left_at t prefix (Some m)
      left_is parts t stands agrees =
          let was = agrees_before shown later parts grows agrees in
          (is.are parts t stands was).left ∙ ap (λ l. is.done ++ l) (one_left parts t stands x (account_at shown x account parts was) prefix last m c.0 child)

      -- its stripe isn't held
      pub next_needed : (n : Need) → count < max → NeedsNode held c.0 n → NeedsListed held later prefix from max n
      next_needed n more needs = record {
        within = subst (λ s. s < 64) (sym needs.stripe) (mod-lt c.0 (lit< tt));
        asks = needs.asks;
        lacks = ap (λ s. covers (held s) Shared) needs.stripe ∙ needs.lacks;
        needed = λ parts t stands agrees. (
          m ∷ [],
          (
            c.0,
            (
              subst (λ l. Among (m ∷ []) (take max l)) (sym (left_is parts t stands agrees))
                  (in_front max is.done (m ∷ []) (left_at t prefix (Some m)) (let e = is.long in let h : length is.done < max = omega arith in h)),
              (leads parts t stands (agrees_before shown later parts grows agrees), needs.stripe),
            ),
          ),
        );
      }

      -- or it comes to the page
      pub one_listed : (y : BareInode) → shown_at later c.0 ≡ Some y → IsHeldAndShown held later c.0 → AreLookedAt held later reads → (v : Value) → IsTold m (node_of y) v → is_fs_name m ≡ true
          → (new_reads : List NodeId) (new_entries : List Value) → new_reads ≡ reads ++ c ∷ [] → new_entries ≡ entries ++ v ∷ []
          → IsListing held later prefix from (Some m) (count + 1) new_reads new_entries
      one_listed y looks looked_it looked_them v tells named new_reads new_entries read_is entries_are = record {
        done = is.done ++ (m ∷ []) ∷ [];
        long = length-append is.done ((m ∷ []) ∷ []) ∙ ap (λ k. k + 1) is.long;
        are = λ parts t stands agrees.
            let was = agrees_before shown later parts grows agrees in
            let before = is.are parts t stands was in
            let way = leads parts t stands was in
            let it : IsAt parts (m ∷ []) c.0 y = record { leads = way; there = agreed later parts c.0 y agrees looks } in
            let id : id_at parts (m ∷ []) ≡ Some c.0 = short_id parts (m ∷ []) (reached_short parts t stands (m ∷ []) c.0 way) ∙ way in
            record {
              left = left_is parts t stands agrees ∙ sym (append_assoc is.done ((m ∷ []) ∷ []) (left_at t prefix (Some m)));
              ids = ap (λ (l : List NodeId). numbers_of l) read_is ∙ numbers-append reads (c ∷ []) ∙ ap (λ (l : List ℕ). l ++ c.0 ∷ []) before.ids
                  ∙ ap (λ (l : List ℕ). ids_of parts ([] ∷ is.done) ++ l) (sym (id_alone parts (m ∷ []) c.0 id)) ∙ sym (ids_of_append parts ([] ∷ is.done) ((m ∷ []) ∷ []));
              tells = ap (λ (l : List Value). items_view l) entries_are ∙ view_more entries v ∙ ap (λ e. behind e (view v)) before.tells
                  ∙ ap (behind (filesystem_items t is.done)) (tells ∙ ap (λ (o : Option Node). filesystem_data (m ∷ []) (unwrap_or o blank)) (sym (node_shown parts t stands (m ∷ []) c.0 y it)))
                  ∙ sym (items_more t is.done (m ∷ []));
            };
        ends = inr (last_more [] is.done (m ∷ []), (refl, named));
        looked = subst (λ (l : List NodeId). AreLookedAt held later l) (sym read_is) (looked_more held later reads c looked_them looked_it);
      }
        where
          id_alone : (parts : Parts) (p : Path) (i : ℕ) → id_at parts p ≡ Some i → ids_of parts (p ∷ []) ≡ i ∷ []
          id_alone parts p i e = ap (λ (o : Option ℕ). map (λ (z : Path × ℕ). z.1) (with_id p o ++ [])) e

-- ---- the whole page

module _ (held : Held) (shown : Shown) (x : BareInode) (account : shown_at shown 0 ≡ Some x) (prefix : List ℕ) (from last : Option (List ℕ)) (count max : ℕ) (reads : List NodeId) (entries : List Value)
    (is : IsListing held shown prefix from last count reads entries) (page : Listed) (reads_are : page.reads.items ≡ reads) (entries_are : page.entries.items ≡ entries) where
  listed : (next : Option (List ℕ)) → option_map (λ n. n.now) page.next ≡ next → NamesFilesystem next
      → ((parts : Parts) (t : Tree) → Stands parts t → Agrees shown parts → page_of max (above (root_of from) (filesystems t prefix)) ≡ record { paths = is.done; next = root_of next })
      → IsListed held shown prefix from max page
  listed next same names pages = record {
    is_listed = λ parts t stands agrees.
        let all = is.are parts t stands agrees in
        record {
          paths = is.done;
          is_page = pages parts t stands agrees ∙ ap (λ o. record { paths = is.done; next = root_of o }) (sym same);
          reads = ap (λ (l : List NodeId). numbers_of l) reads_are ∙ all.ids;
          tells = ap (λ (l : List Value). items_view l) entries_are ∙ all.tells;
        };
    next = subst NamesFilesystem (sym same) names;
    looked = subst (λ (l : List NodeId). AreLookedAt held shown l) (sym reads_are) is.looked;
  }

  -- no more are left
  pub all_listed : count ≤ max → IsNextNamed x prefix last None → option_map (λ n. n.now) page.next ≡ None → IsListed held shown prefix from max page
  all_listed within none same =
      listed None same tt (λ parts t stands agrees.
      last_page max [] (above (root_of from) (filesystems t prefix)) is.done
      ((is.are parts t stands agrees).left ∙ ap (λ l. is.done ++ l) (none_left parts t stands x (account_at shown x account parts agrees) prefix last none) ∙ append-nil is.done)
      (let e = is.long in let h : length is.done ≤ max = omega arith in h))

  -- or one is
  pub more_listed : count ≡ max → 1 ≤ max → (m : List ℕ) (c : ℕ) → IsFirstNamed x prefix last m c → option_map (λ n. n.now) page.next ≡ last → IsListed held shown prefix from max page
  more_listed full some m c child same = elim is.ends [
    | inl none ↦ absurd (let h : length is.done ≡ 0 = ap (λ (l : List Path). length l) none in let k = is.long in omega arith)
    | inr ends ↦
        listed last same ends.1.1 (λ parts t stands agrees.
        more_page max [] (above (root_of from) (filesystems t prefix)) is.done (m ∷ []) (left_at t prefix (Some m)) some
        ((is.are parts t stands agrees).left ∙ ap (λ l. is.done ++ l) (one_left parts t stands x (account_at shown x account parts agrees) prefix last m c child)) (is.long ∙ full)
        ∙ ap (λ o. record { paths = is.done; next = o }) (ap Some ends.0 ∙ sym ends.1.0))
  ]
