-- Where a walk goes: the next path, by the directories on the way to the last one.
use Rattle.std.proofs.Common.{◌≡◌, ℕ, ◌%◌, ◌<◌, true, false, T, List, [], ◌∷◌, ◌++◌, Option, Some, None, is_some, IsSome, refl, sym, ap, subst, ◌∙◌, append_assoc, append-nil, length, take, get_or, zero, suc, ◌-◌, ◌≤◌, arith}
use Rattle.std.proofs.lemmas.Bool.{false≢true}
use Rattle.std.proofs.lemmas.Option.{same_Some}
use Rattle.std.proofs.Math.Nat.{mod-lt}
use Rattle.std.proofs.Math.Seq.{take-suc}
use Rattle.std.proofs.Math.Dec.{lit<}
use Rattle.std.specs.Ordering.{is_lt}
use Rattle.lock_core.specs.declared.object.LockMode.TheVariants.{Shared}
use Rattle.namespace_model.specs.Trees.{Path, Tree, at, IsLaid}
use Rattle.inode_tree.specs.declared.id.NodeId.{NodeId}
use Rattle.inode_tree.specs.declared.need.Need.{Need}
use Rattle.inode_tree.specs.FirstChild.{IsFirstChild, IsChildAbove}
use Rattle.inode_tree.specs.Inodes.{BareInode}
use Rattle.inode_tree.specs.Parts.{Parts, follow, child_of}
use Rattle.inode_tree.specs.Stands.{Stands}
use Rattle.inode_tree.specs.Views.{Held, Shown, Grows, IsKnown, covers, shown_at}
use Rattle.inode_tree.proofs.IndexLemmas.{index_from_stands}
use Rattle.path_walk.proofs.TrailLemmas.{agreed, agrees_before, part_shown}
use Rattle.path_order.specs.declared.cursor.Level.{Level}
use Rattle.path_order.specs.declared.cursor.Cursor.{Cursor}
use Rattle.path_order.specs.Cursors.{NoneBehind, IsNext, end_of, names_in, IsAt, AreAlong, IsLeft, IsCursorIn, IsCursor, IsWalk, IsBelow, IsNextBelow, IsAdvanced, IsEnd, IsNextSeen, NeedsNext}
use Rattle.path_order.specs.Starts.{IsAtFor}
use Rattle.inode_tree.proofs.LinkLists.{less}
use Rattle.path_order.proofs.NextPath.{NoNameBehind, IsNextName, IsFirstName, front_there, none_up, next_over, next_below}

-- ---- one level more

pub end_more : (p : Path) (ls : List Level) (l : Level) → end_of p (ls ++ l ∷ []) ≡ end_of p ls ++ l.name ∷ []
end_more p [] l = refl
end_more p (k ∷ ls) l = end_more (p ++ k.name ∷ []) ls l

pub along_less : (parts : Parts) (p : Path) (ls : List Level) (l : Level) → AreAlong parts p (ls ++ l ∷ []) → AreAlong parts p ls × ((id : ℕ) × IsAt parts (end_of p ls) id l.node)
along_less parts p [] l along = (tt, along.0)
along_less parts p (k ∷ ls) l along = let more = along_less parts (p ++ k.name ∷ []) ls l along.1 in ((along.0, more.0), more.1)

pub along_more : (parts : Parts) (p : Path) (ls : List Level) (l : Level) (id : ℕ) → AreAlong parts p ls → IsAt parts (end_of p ls) id l.node → AreAlong parts p (ls ++ l ∷ [])
along_more parts p [] l id along is = ((id, is), tt)
along_more parts p (k ∷ ls) l id along is = (along.0, along_more parts (p ++ k.name ∷ []) ls l id along.1 is)

pub end_is : (p : Path) (ls : List Level) → end_of p ls ≡ p ++ names_in ls
end_is p [] = sym (append-nil p)
end_is p (l ∷ ls) = end_is (p ++ l.name ∷ []) ls ∙ append_assoc p (l.name ∷ []) (names_in ls)

pub below_more : (root : Path) (ls : List Level) (m : List ℕ) → IsBelow root (end_of root ls ++ m ∷ [])
below_more root ls m = by_names (names_in ls) (ap (λ q. q ++ m ∷ []) (end_is root ls) ∙ append_assoc root (names_in ls) (m ∷ []))
  where
    by_names : (ns : Path) → end_of root ls ++ m ∷ [] ≡ root ++ (ns ++ m ∷ []) → IsBelow root (end_of root ls ++ m ∷ [])
    by_names [] e = (m, ([], e))
    by_names (n ∷ ns) e = (n, (ns ++ m ∷ [], e))

pub take_get : (ls : List Level) (k : ℕ) (l : Level) → l ≡ get_or ls (k - 1) l → 0 < k → k ≤ length ls → take k ls ≡ take (k - 1) ls ++ l ∷ []
take_get ls k l e some within =
    ap (λ i. take i ls) (let h : k ≡ suc (k - 1) = omega arith in h) ∙ take-suc ls (k - 1) l (let h : k - 1 < length ls = omega arith in h) ∙ ap (λ x. take (k - 1) ls ++ x ∷ []) (sym e)

pub take_whole : (ls : List Level) (k : ℕ) → k ≡ length ls → take k ls ≡ ls
take_whole [] zero e = refl
take_whole [] (suc k) e = refl
take_whole (l ∷ ls) zero e = absurd (omega arith)
take_whole (l ∷ ls) (suc k) e = ap (λ r. l ∷ r) (take_whole ls k (omega arith))

-- ---- one directory

module _ (parts : Parts) (t : Tree) (stands : Stands parts t) where
  pub laid : IsLaid t
  laid = stands.tree.parents

  pub is_there : (p : Path) (id : ℕ) → follow parts 0 p ≡ Some id → is_some (at t p) ≡ true
  is_there p id e = ap is_some ((index_from_stands parts t stands).places p id e).shows

  pub names_lead : (p : Path) (id : ℕ) (x : BareInode) → IsAt parts p id x → (m : List ℕ) → child_of x m ≡ follow parts 0 (p ++ m ∷ [])
  names_lead p id x is m =
      let place = (index_from_stands parts t stands).places p id is.leads in
      ap (λ (y : BareInode). child_of y m) (same_Some x place.inode (sym is.there ∙ place.found)) ∙ place.links m

  child_there : (p : Path) (id : ℕ) (x : BareInode) → IsAt parts p id x → (m : List ℕ) → is_some (at t (p ++ m ∷ [])) ≡ true → IsSome (child_of x m)
  child_there p id x is m h = by_id (follow parts 0 (p ++ m ∷ [])) refl
    where
      by_id : (o : Option ℕ) → follow parts 0 (p ++ m ∷ []) ≡ o → IsSome (child_of x m)
      by_id None e = absurd (false≢true (sym (ap is_some ((index_from_stands parts t stands).nothing (p ++ m ∷ []) e)) ∙ h))
      by_id (Some c) e = ap is_some (names_lead p id x is m ∙ e)

  pub no_child_there : (p : Path) (id : ℕ) (x : BareInode) → IsAt parts p id x → (m : List ℕ) → child_of x m ≡ None → is_some (at t (p ++ m ∷ [])) ≡ false
  no_child_there p id x is m none = ap is_some ((index_from_stands parts t stands).nothing (p ++ m ∷ []) (sym (names_lead p id x is m) ∙ none))

  pub next_name : (p : Path) (id : ℕ) (x : BareInode) (n m : List ℕ) (c : ℕ) → IsAt parts p id x → IsFirstChild x (Some n) m c → IsNextName t p n m
  next_name p id x n m c is child = record {
    there = is_there (p ++ m ∷ []) c (sym (names_lead p id x is m) ∙ child.leads);
    behind = less _ (subst T (sym child.above) tt);
    first = λ k over h before. child.first k (ap is_lt over) (child_there p id x is k h) before;
  }

  pub first_name : (p : Path) (id : ℕ) (x : BareInode) (m : List ℕ) (c : ℕ) → IsAt parts p id x → IsFirstChild x None m c → IsFirstName t p m
  first_name p id x m c is child = record {
    there = is_there (p ++ m ∷ []) c (sym (names_lead p id x is m) ∙ child.leads);
    first = λ k h before. child.first k refl (child_there p id x is k h) before;
  }

  pub no_name_behind : (p : Path) (id : ℕ) (x : BareInode) (n : List ℕ) → IsAt parts p id x → IsChildAbove x (Some n) None → NoNameBehind t p n
  no_name_behind p id x n is none m over = no_child_there p id x is m (none m (ap is_lt over))

  pub nothing_left : (p : Path) (id : ℕ) (x : BareInode) → IsAt parts p id x → IsChildAbove x None None → NoneBehind t p p
  nothing_left p id x is none m s h before = false≢true (sym (no_child_there p id x is m (none m refl)) ∙ front_there t laid p m s h)

  -- ---- the next path

  -- the levels, and what is left where they lead
  abbrev pub IsOn : Path → Path → List Level → Option BareInode → Type 0
  IsOn root token ls ahead = AreAlong parts root ls × IsLeft parts t token (end_of root ls) ahead

  -- the levels lead to the next path
  abbrev pub IsReached : Path → Path → List Level → ℕ → Type 0
  IsReached root token ls id = AreAlong parts root ls × IsNextBelow parts t root token (end_of root ls) id

  reached : (root token : Path) (ls : List Level) (l : Level) (id c : ℕ) → AreAlong parts root ls → IsAt parts (end_of root ls) id l.node → child_of l.node l.name ≡ Some c → IsNext t token (end_of root ls ++ l.name ∷ [])
      → IsReached root token (ls ++ l ∷ []) c
  reached root token ls l id c along is leads next = (
    along_more parts root ls l id along is,
    subst (λ q. IsNextBelow parts t root token q c) (sym (end_more root ls l)) (record {
      next = next;
      below = below_more root ls l.name;
      leads = sym (names_lead (end_of root ls) id l.node is l.name) ∙ leads;
    }),
  )

  -- all that is below the last path is still to come, and it has a child
  pub goes_down : (root token : Path) (ls : List Level) (l : Level) (c : ℕ) → IsOn root token ls (Some l.node) → IsFirstChild l.node None l.name c → IsReached root token (ls ++ l ∷ []) c
  goes_down root token ls l c on child =
      let at_end = on.1.1 in
      reached root token ls l at_end.0 c on.0 at_end.1 child.leads
      (subst (λ k. IsNext t k (end_of root ls ++ l.name ∷ [])) (sym on.1.0) (next_below t laid (end_of root ls) l.name (first_name (end_of root ls) at_end.0 l.node l.name c at_end.1 child)))

  -- or it has none
  pub stays : (root token : Path) (ls : List Level) (x : BareInode) → IsOn root token ls (Some x) → IsChildAbove x None None → IsOn root token ls None
  stays root token ls x on none = (
    on.0,
    (
      ([], on.1.0 ∙ sym (append-nil (end_of root ls))),
      subst (λ k. NoneBehind t k (end_of root ls)) (sym on.1.0) (nothing_left (end_of root ls) on.1.1.0 x on.1.1.1 none),
    ),
  )

  -- what stands at the last level
  at_last : (root token : Path) (ls : List Level) (l : Level) → IsOn root token (ls ++ l ∷ []) None
      → AreAlong parts root ls × (((id : ℕ) × IsAt parts (end_of root ls) id l.node) × ((rest : Path) × ((token ≡ end_of root ls ++ l.name ∷ rest) × NoneBehind t (end_of root ls ++ l.name ∷ rest) (end_of root ls ++ l.name ∷ []))))
  at_last root token ls l on =
      let before = along_less parts root ls l on.0 in
      let rest = on.1.0.0 in
      let is : token ≡ end_of root ls ++ l.name ∷ rest = on.1.0.1 ∙ ap (λ q. q ++ rest) (end_more root ls l) ∙ append_assoc (end_of root ls) (l.name ∷ []) rest in (
        before.0,
        (before.1, (rest, (is, subst (λ k. NoneBehind t k (end_of root ls ++ l.name ∷ [])) is (subst (λ q. NoneBehind t token q) (end_more root ls l) on.1.1)))),
      )

  -- nothing is left below the last path, and its directory has a child behind it
  pub goes_over : (root token : Path) (ls : List Level) (l k : Level) (c : ℕ) → IsOn root token (ls ++ l ∷ []) None → k.node ≡ l.node → IsFirstChild l.node (Some l.name) k.name c → IsReached root token (ls ++ k ∷ []) c
  goes_over root token ls l k c on same child =
      let last = at_last root token ls l on in
      let here = last.1.0 in
      let rest = last.1.1 in
      reached root token ls k here.0 c last.0 (subst (λ x. IsAt parts (end_of root ls) here.0 x) (sym same) here.1) (ap (λ (x : BareInode). child_of x k.name) same ∙ child.leads)
      (subst (λ q. IsNext t q (end_of root ls ++ k.name ∷ [])) (sym rest.1.0)
      (next_over t laid (end_of root ls) l.name rest.0 k.name rest.1.1 (next_name (end_of root ls) here.0 l.node l.name k.name c here.1 child)))

  -- or it has none
  pub goes_up : (root token : Path) (ls : List Level) (l : Level) → IsOn root token (ls ++ l ∷ []) None → IsChildAbove l.node (Some l.name) None → IsOn root token ls None
  goes_up root token ls l on none =
      let last = at_last root token ls l on in
      let here = last.1.0 in
      let rest = last.1.1 in (
        last.0,
        (
          (l.name ∷ rest.0, rest.1.0),
          subst (λ k. NoneBehind t k (end_of root ls)) (sym rest.1.0)
              (none_up t laid (end_of root ls) l.name rest.0 (no_name_behind (end_of root ls) here.0 l.node l.name here.1 none) rest.1.1),
        ),
      )

  -- ---- by the contracts

  pub on_ahead : (root token : Path) (c : Cursor) (o : Option BareInode) → c.ahead ≡ o → IsCursorIn parts t root token c → IsOn root token c.levels.items o
  on_ahead root token c o e is = (is.along, subst (λ a. IsLeft parts t token (end_of root c.levels.items) a) e is.left)

  pub down : (root token : Path) (c : Cursor) (after : List Level) (x : BareInode) (name m : List ℕ) (id : ℕ) → c.ahead ≡ Some x → after ≡ c.levels.items ++ record { node = x; name = name } ∷ [] → name ≡ m
      → IsFirstChild x None m id → IsCursorIn parts t root token c → IsReached root token after id
  down root token c after x name m id ahead is same child at_c =
      subst (λ ls. IsReached root token ls id) (sym is)
      (goes_down root token c.levels.items (record { node = x; name = name }) id (on_ahead root token c (Some x) ahead at_c) (subst (λ k. IsFirstChild x None k id) (sym same) child))

  pub over : (root token : Path) (before ls after : List Level) (l : Level) (name m : List ℕ) (id : ℕ) → before ≡ ls ++ l ∷ [] → after ≡ ls ++ record { node = l.node; name = name } ∷ [] → name ≡ m
      → IsFirstChild l.node (Some l.name) m id → IsOn root token before None → IsReached root token after id
  over root token before ls after l name m id was is same child on =
      subst (λ ls. IsReached root token ls id) (sym is)
      (goes_over root token ls l (record { node = l.node; name = name }) id (subst (λ ls. IsOn root token ls None) was on) refl (subst (λ k. IsFirstChild l.node (Some l.name) k id) (sym same) child))

  pub up : (root token : Path) (before ls : List Level) (l : Level) → before ≡ ls ++ l ∷ [] → IsChildAbove l.node (Some l.name) None → IsOn root token before None → IsOn root token ls None
  up root token before ls l was none on = goes_up root token ls l (subst (λ ls. IsOn root token ls None) was on) none

  pub at_top : (root token : Path) (c : Cursor) (before : List Level) → length before ≡ 0 → before ≡ c.levels.items ++ [] → c.ahead ≡ None → IsOn root token before None → NoneBehind t token root × IsCursorIn parts t root token c
  at_top root token c [] none is ahead on = (
    on.1.1,
    record {
      along = subst (λ ls. AreAlong parts root ls) (is ∙ append-nil c.levels.items) on.0;
      left = subst (λ o. IsLeft parts t token (end_of root c.levels.items) o) (sym ahead) (subst (λ ls. IsLeft parts t token (end_of root ls) None) (is ∙ append-nil c.levels.items) on.1);
    },
  )
  at_top root token c (l ∷ ls) none is ahead on = absurd (omega arith)

  -- whether more is left
  pub goes_on : (root token : Path) (ls : List Level) (id : ℕ) → IsReached root token ls id → IsEnd t root token false
  goes_on root token ls id to = (end_of root ls, (to.1.next, to.1.below))

  pub more_over : (root token : Path) (before ls : List Level) (l : Level) (m : List ℕ) (id : ℕ) → before ≡ ls ++ l ∷ [] → IsFirstChild l.node (Some l.name) m id → IsOn root token before None → IsEnd t root token false
  more_over root token before ls l m id was child on =
      goes_on root token (ls ++ record { node = l.node; name = m } ∷ []) id
      (goes_over root token ls l (record { node = l.node; name = m }) id (subst (λ ls. IsOn root token ls None) was on) refl child)

  pub all_passed : (root token : Path) (ls : List Level) → IsOn root token (take 0 ls) None → IsEnd t root token true
  all_passed root token [] on = on.1.1
  all_passed root token (l ∷ ls) on = on.1.1

-- ---- the beginning

pub begins : (shown : Shown) (p : Path) (c : Cursor) (x : BareInode) → c.levels.items ≡ [] → c.ahead ≡ Some x → IsAtFor shown p x → IsCursor shown p p c
begins shown p c x none ahead is parts t stands agrees = record {
  along = subst (λ ls. AreAlong parts p ls) (sym none) tt;
  left = subst (λ o. IsLeft parts t p (end_of p c.levels.items) o) (sym ahead)
      (subst (λ ls. IsLeft parts t p (end_of p ls) (Some x)) (sym none) (refl, is parts t stands agrees));
}

-- ---- a step of the walk

abbrev pub Advances : Cursor → Cursor → Option NodeId → Type 0
Advances old new next = (parts : Parts) (t : Tree) (root token : Path) → Stands parts t → IsCursorIn parts t root token old → IsAdvanced parts t root token new next

pub next_known : (shown : Shown) (old new : Cursor) (id : NodeId) → IsWalk shown old → Advances old new (Some id) → IsKnown shown id.0
next_known shown old new id walk step parts t stands agrees =
    stands.found (end_of walk.0 new.levels.items) id.0 (step parts t walk.0 walk.1 stands (walk.2 parts t stands agrees)).1.leads

pub needs_next : (held : Held) (shown : Shown) (old new : Cursor) (id : NodeId) (n : Need) (root token : Path) → Advances old new (Some id) → IsCursor shown root token old
    → (n.stripe ≡ id.0 % 64) × (n.mode ≡ Shared) × (covers (held (id.0 % 64)) Shared ≡ false) → NeedsNext held shown root token n
needs_next held shown old new id n root token step is needs = record {
  within = subst (λ s. s < 64) (sym needs.0) (mod-lt id.0 (lit< tt));
  asks = needs.1;
  lacks = ap (λ s. covers (held s) Shared) needs.0 ∙ needs.2;
  needed = λ parts t stands agrees. (end_of root new.levels.items, (id.0, ((step parts t root token stands (is parts t stands agrees)).1, needs.0)));
}

pub seen_next : (held : Held) (shown later : Shown) (old new after : Cursor) (id : NodeId) (x y : BareInode) (root token : Path) → Advances old new (Some id) → Grows shown later → IsCursor shown root token old
    → after.levels.items ≡ new.levels.items → after.ahead ≡ Some y → y ≡ x → shown_at later id.0 ≡ Some x → covers (held (id.0 % 64)) Shared ≡ true
    → IsNextSeen held later root token after (Some (record { id = id; node = x }))
seen_next held shown later old new after id x y root token step grows is same ahead copied shows covered = (
  λ parts t stands agrees.
      let to = step parts t root token stands (is parts t stands (agrees_before shown later parts grows agrees)) in
      let there = agreed later parts id.0 x agrees shows in
      let next = subst (λ ls. IsNextBelow parts t root token (end_of root ls) id.0) (sym same) to.1 in
      record {
        is_next = next;
        there = there;
        goes_on = record {
          along = subst (λ ls. AreAlong parts root ls) (sym same) to.0;
          left = subst (λ o. IsLeft parts t (end_of root after.levels.items) (end_of root after.levels.items) o) (sym (ahead ∙ ap Some copied)) (refl, (id.0, record { leads = next.leads; there = there }));
        };
      },
  (covered, part_shown later id.0 x shows),
)
