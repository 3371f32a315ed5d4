-- A page, node by node.
use Rattle.std.proofs.Common.{◌≡◌, ◌⊎◌, inl, inr, ℕ, zero, suc, ◌+◌, ◌-◌, ◌%◌, ◌<◌, ◌≤◌, Bool, true, false, cond, not, nat_lt, slice_get, List, [], ◌∷◌, ◌++◌, length, take, Option, Some, None, is_some, refl, sym, ap, subst, ◌∙◌, append_assoc, append-nil, length-append, arith}
use Rattle.std.proofs.lemmas.Bool.{false≢true}
use Rattle.std.proofs.lemmas.Bool.Decides.{nat_tests}
use Rattle.std.proofs.lemmas.Option.{same_Some}
use Rattle.lock_core.specs.declared.object.LockMode.TheVariants.{Shared}
use Rattle.namespace_model.specs.Locality.{Among}
use Rattle.namespace_model.specs.Pages as model
use Rattle.namespace_model.specs.Pages.{page_of, above}
use Rattle.namespace_model.specs.Trees.{Path, Tree, at, is_below}
use Rattle.namespace_model.proofs.Lookups.{among_keys, keys_among}
use Rattle.namespace_model.proofs.PageOrder.{keys_ascend}
use Rattle.namespace_model.proofs.Prefixes.{together, front_of_append, below_names}
use Rattle.inode_tree.specs.declared.need.Need.{Need}
use Rattle.inode_tree.specs.Changes.{Part}
use Rattle.inode_tree.specs.Inodes.{BareInode, node_of}
use Rattle.inode_tree.specs.Parts.{Parts}
use Rattle.inode_tree.specs.Stands.{Stands}
use Rattle.inode_tree.specs.Views.{Held, Shown, Agrees, Grows, covers}
use Rattle.inode_tree.proofs.IndexLemmas.{index_from_stands}
use Rattle.path_walk.specs.Visits.{IsHeldAndShown}
use Rattle.path_walk.proofs.TrailLemmas.{agrees_before}
use Rattle.path_order.specs.declared.cursor.Cursor.{Cursor}
use Rattle.path_order.specs.declared.cursor.Seen.{Seen}
use Rattle.path_order.specs.declared.paging.Page.{Page}
use Rattle.path_order.specs.Cursors.{Before, NoneBehind, IsNext, end_of, IsCursorIn, IsCursor, IsWalk, IsBelow, IsEnd, IsNextSeen, NeedsNext}
use Rattle.path_order.specs.PagesBelow.{below, IsNodeOf, AreNodesOf, last_of, AreHeld, IsPageBelow, NeedsOfPage}
use Rattle.path_order.proofs.ApartLemmas.{page_apart}
use Rattle.path_order.proofs.NextPath.{next_of, none_of}

-- ---- what is behind a token, below a root

pub is_below_names : (root : Path) (n : List ℕ) (rest : Path) → is_below root (root ++ n ∷ rest) ≡ true
is_below_names root n rest = together (front_of_append root (n ∷ rest)) (longer (length root) (length (root ++ n ∷ rest)) (length rest) (length-append root (n ∷ rest)))
  where
    longer : (a b k : ℕ) → b ≡ a + suc k → nat_lt a b ≡ true
    longer a b k e = grind (arith, nat_tests)

pub below_of : (root q : Path) → IsBelow root q → is_below root q ≡ true
below_of root q b = ap (is_below root) b.1.1 ∙ is_below_names root b.0 b.1.0

-- the next path and what is behind it
pub next_is : (t : Tree) (root token q : Path) → IsNext t token q → IsBelow root q → above (Some token) (below t root) ≡ q ∷ above (Some q) (below t root)
next_is t root token q next b =
    next_of token q (below t root) (keys_ascend t (is_below root)) (among_keys t (is_below root) q next.there (below_of root q b)) next.behind
    (λ r h before. next.first r (keys_among t (is_below root) r h).1 before)

-- or nothing
pub nothing_is : (t : Tree) (root token : Path) → NoneBehind t token root → above (Some token) (below t root) ≡ []
nothing_is t root token none =
    none_of token (below t root) (λ r h before.
    let k = keys_among t (is_below root) r h in
    let names = below_names root r k.0 in
    none names.0 names.1 (ap (λ q. is_some (at t q)) (sym names.2) ∙ k.1) (subst (λ q. Before token q) names.2 before))

-- ---- lists

some_grows : (old new : Shown) (stripe : ℕ) → Grows old new → is_some (old stripe) ≡ true → is_some (new stripe) ≡ true
some_grows old new stripe grows h = by_part (old stripe) refl h
  where
    by_part : (o : Option Part) → old stripe ≡ o → is_some o ≡ true → is_some (new stripe) ≡ true
    by_part None e k = absurd (false≢true k)
    by_part (Some part) e k = ap is_some (grows stripe part e)

pub last_more : (token : Path) (done : List Path) (q : Path) → last_of token (done ++ q ∷ []) ≡ q
last_more token [] q = refl
last_more token (p ∷ done) q = last_more p done q

pub nodes_more : (parts : Parts) (t : Tree) (done : List Path) (seen : List Seen) (q : Path) (s : Seen) → AreNodesOf parts t done seen → IsNodeOf parts t q s → AreNodesOf parts t (done ++ q ∷ []) (seen ++ s ∷ [])
nodes_more parts t [] [] q s are is = (is, tt)
nodes_more parts t [] (x ∷ seen) q s are is = absurd are
nodes_more parts t (p ∷ done) [] q s are is = absurd are
nodes_more parts t (p ∷ done) (x ∷ seen) q s are is = (are.0, nodes_more parts t done seen q s are.1 is)

pub held_more : (held : Held) (shown : Shown) (seen : List Seen) (s : Seen) → AreHeld held shown seen → IsHeldAndShown held shown s.id.0 → AreHeld held shown (seen ++ s ∷ [])
held_more held shown [] s are is = (is, tt)
held_more held shown (x ∷ seen) s are is = (are.0, held_more held shown seen s are.1 is)

pub held_grows : (held : Held) (old new : Shown) (seen : List Seen) → Grows old new → AreHeld held old seen → AreHeld held new seen
held_grows held old new [] grows are = tt
held_grows held old new (s ∷ seen) grows are = ((are.0.0, some_grows old new (s.id.0 % 64) grows are.0.1), held_grows held old new seen grows are.1)

take_front : {A : Type 0} (n : ℕ) (xs ys : List A) → length xs ≡ n → take n (xs ++ ys) ≡ xs
take_front zero [] ys e = refl
take_front zero (x ∷ xs) ys e = absurd (omega arith)
take_front (suc n) [] ys e = absurd (omega arith)
take_front (suc n) (x ∷ xs) ys e = ap (λ l. x ∷ l) (take_front n xs ys (omega arith))

take_all : {A : Type 0} (n : ℕ) (xs : List A) → length xs ≤ n → take n xs ≡ xs
take_all n [] h = take_none n
  where
    take_none : {A : Type 0} (n : ℕ) → take {A = A} n [] ≡ []
    take_none zero = refl
    take_none (suc n) = refl
take_all zero (x ∷ xs) h = absurd (omega arith)
take_all (suc n) (x ∷ xs) h = ap (λ l. x ∷ l) (take_all n xs (omega arith))

pub in_front : (n : ℕ) (done : List Path) (q : Path) (rest : List Path) → length done < n → Among q (take n (done ++ q ∷ rest))
in_front zero done q rest h = absurd (omega arith)
in_front (suc n) [] q rest h = inl refl
in_front (suc n) (p ∷ done) q rest h = inr (in_front n done q rest (omega arith))

-- ---- the token of a page

-- the last of so many paths
last_got : (k : ℕ) (token : Path) (done : List Path) → length done ≡ suc k → slice_get done k ≡ Some (last_of token done)
last_got k token [] e = absurd (omega arith)
last_got zero token (q ∷ []) e = refl
last_got zero token (q ∷ r ∷ done) e = absurd (let h : suc (suc (length done)) ≡ 1 = e in omega arith)
last_got (suc k) token (q ∷ []) e = absurd (let h : 1 ≡ suc (suc k) = e in omega arith)
last_got (suc k) token (q ∷ r ∷ done) e = last_got k q (r ∷ done) (let h : suc (length (r ∷ done)) ≡ suc (suc k) = e in omega arith)

not_less : (a b : ℕ) → b ≤ a → nat_lt a b ≡ false
not_less a b h = grind (arith, nat_tests)

is_less : (a b k : ℕ) → b ≡ a + suc k → nat_lt a b ≡ true
is_less a b k h = grind (arith, nat_tests)

-- no more is left
pub last_page : (max : ℕ) (token : Path) (list done : List Path) → list ≡ done → length done ≤ max → page_of max list ≡ record { paths = done; next = None }
last_page max token list done is short =
    ap (page_of max) is
    ∙ ap (λ b. record { paths = take max done; next = cond b (slice_get (take max done) (max - 1)) None }) (not_less max (length done) short)
    ∙ ap (λ l. record { paths = l; next = None }) (take_all max done short)

-- more is left
pub more_page : (max : ℕ) (token : Path) (list done : List Path) (q : Path) (rest : List Path) → 1 ≤ max → list ≡ done ++ q ∷ rest → length done ≡ max → page_of max list ≡ record { paths = done; next = Some (last_of token done) }
more_page max token list done q rest some is full =
    ap (page_of max) is
    ∙ ap (λ b. record { paths = take max (done ++ q ∷ rest); next = cond b (slice_get (take max (done ++ q ∷ rest)) (max - 1)) None })
    (is_less max (length (done ++ q ∷ rest)) (length rest) (length-append done (q ∷ rest) ∙ ap (λ k. k + suc (length rest)) full))
    ∙ ap (λ l. record { paths = l; next = slice_get l (max - 1) }) (take_front max done (q ∷ rest) full)
    ∙ ap (λ o. record { paths = done; next = o }) (last_got (max - 1) token done (let h : length done ≡ suc (max - 1) = omega arith in h))

-- ---- the page so far

pub record IsPaging (held : Held) (shown : Shown) (root token : Path) (count : ℕ) (c : Cursor) (seen : List Seen) : Type 0 where
  pub done : List Path
  pub long : length done ≡ count
  pub is_page : (parts : Parts) (t : Tree) → Stands parts t → Agrees shown parts
      → (above (Some token) (below t root) ≡ done ++ above (Some (last_of token done)) (below t root)) × AreNodesOf parts t done seen
  pub goes_on : IsCursor shown root (last_of token done) c
  pub at_last : (done ≡ []) ⊎ (last_of token done ≡ end_of root c.levels.items)
  pub looked : AreHeld held shown seen

pub none_yet : (held : Held) (shown : Shown) (root token : Path) (c : Cursor) → IsCursor shown root token c → IsPaging held shown root token 0 c []
none_yet held shown root token c is = record {
  done = [];
  long = refl;
  is_page = λ parts t stands agrees. (refl, tt);
  goes_on = is;
  at_last = inl refl;
  looked = tt;
}

pub paging_as : {held later : Held} {shown : Shown} {root token : Path} {count : ℕ} {c : Cursor} {seen : List Seen} → later ≡ held → IsPaging held shown root token count c seen → IsPaging later shown root token count c seen
paging_as {shown} {root} {token} {count} {c} {seen} same is = subst (λ h. IsPaging h shown root token count c seen) (sym same) is

module _ (now held : Held) (old new : Shown) (root token : Path) (count : ℕ) (before after : Cursor) (page : List Seen) (same : now ≡ held) (grows : Grows old new) (is : IsPaging held old root token count before page) where
  pub one_more : (s : Seen) → ((r k : Path) → IsCursor old r k before → IsNextSeen now new r k after (Some s)) → IsPaging held new root token (count + 1) after (page ++ s ∷ [])
  one_more s step =
      let last = last_of token is.done in
      let q = end_of root after.levels.items in
      let seen = step root last is.goes_on in
      record {
        done = is.done ++ q ∷ [];
        long = length-append is.done (q ∷ []) ∙ ap (λ k. k + 1) is.long;
        is_page = λ parts t stands agrees.
            let so_far = is.is_page parts t stands (agrees_before old new parts grows agrees) in
            let one = seen.0 parts t stands agrees in
            let place = (index_from_stands parts t stands).places q s.id.0 one.is_next.leads in (
              so_far.0 ∙ ap (λ l. is.done ++ l) (next_is t root last q one.is_next.next one.is_next.below)
                  ∙ sym (append_assoc is.done (q ∷ []) (above (Some q) (below t root)))
                  ∙ ap (λ k. (is.done ++ q ∷ []) ++ above (Some k) (below t root)) (sym (last_more token is.done q)),
              nodes_more parts t is.done page q s so_far.1 (record {
                leads = one.is_next.leads;
                there = one.there;
                shows = place.shows ∙ ap (λ (x : BareInode). Some (node_of x)) (same_inode place.inode s.node (sym place.found ∙ one.there));
              }),
            );
        goes_on = subst (λ k. IsCursor new root k after) (sym (last_more token is.done q)) (λ parts t stands agrees. (seen.0 parts t stands agrees).goes_on);
        at_last = inr (last_more token is.done q);
        looked = held_more held new page s (held_grows held old new page grows is.looked) (subst (λ h. IsHeldAndShown h new s.id.0) same seen.1);
      }
    where
      same_inode : (x y : BareInode) → ◌≡◌ {A = Option BareInode} (Some x) (Some y) → x ≡ y
      same_inode x y e = same_Some x y e

  -- the walk is at its end
  pub page_ended : (max : ℕ) (p : Page) → count ≤ max → ((r k : Path) → IsCursor old r k before → IsNextSeen now new r k after None) → p.seen.items ≡ page → p.more ≡ false → IsPageBelow held new root token max after p
  page_ended max p within step is_seen no_more = record {
    paths = is.done;
    is_page = page_is;
    once = λ parts t stands agrees. let here = page_is parts t stands agrees in page_apart parts t stands root (Some token) max is.done p.seen.items (sym (ap (λ (q : model.Page). q.paths) here.0)) here.1;
    goes_on = λ parts t stands agrees. (step root (last_of token is.done) is.goes_on parts t stands agrees).1;
    at_last = λ e. absurd (false≢true (sym no_more ∙ e));
    looked = subst (λ l. AreHeld held new l) (sym is_seen) (held_grows held old new page grows is.looked);
  }
    where
      page_is : (parts : Parts) (t : Tree) → Stands parts t → Agrees new parts
          → (page_of max (above (Some token) (below t root)) ≡ record { paths = is.done; next = cond p.more (Some (last_of token is.done)) None }) × AreNodesOf parts t is.done p.seen.items
      page_is parts t stands agrees =
          let so_far = is.is_page parts t stands (agrees_before old new parts grows agrees) in
          let none = step root (last_of token is.done) is.goes_on parts t stands agrees in (
            last_page max token (above (Some token) (below t root)) is.done (so_far.0 ∙ ap (λ l. is.done ++ l) (nothing_is t root (last_of token is.done) none.0) ∙ append-nil is.done)
                (let e = is.long in let h : length is.done ≤ max = omega arith in h)
                ∙ ap (λ b. record { paths = is.done; next = cond b (Some (last_of token is.done)) None }) (sym no_more),
            subst (λ l. AreNodesOf parts t is.done l) (sym is_seen) so_far.1,
          )

  -- a stripe isn't held
  pub page_needs : (max : ℕ) (n : Need) → count < max → ((r k : Path) → IsCursor old r k before → NeedsNext now old r k n) → NeedsOfPage held new root token max n
  page_needs max n more step =
      let last = last_of token is.done in
      let needs = step root last is.goes_on in
      record {
        within = needs.within;
        asks = needs.asks;
        lacks = ap (λ (h : Held). covers (h n.stripe) Shared) (sym same) ∙ needs.lacks;
        needed = λ parts t stands agrees.
            let was = agrees_before old new parts grows agrees in
            let so_far = is.is_page parts t stands was in
            let one = needs.needed parts t stands was in
            let next = one.1.1.0 in (
              one.0,
              (
                one.1.0,
                (
                  subst (λ l. Among one.0 (take max l)) (sym (so_far.0 ∙ ap (λ l. is.done ++ l) (next_is t root last one.0 next.next next.below)))
                      (in_front max is.done one.0 (above (Some one.0) (below t root)) (let e = is.long in let h : length is.done < max = omega arith in h)),
                  (next.leads, one.1.1.1),
                ),
              ),
            );
      }

-- the page is full
pub page_full : (held : Held) (shown : Shown) (root token : Path) (count max : ℕ) (c : Cursor) (page : List Seen) (p : Page) (ended : Bool) → 1 ≤ max → count ≡ max → IsPaging held shown root token count c page
    → ((parts : Parts) (t : Tree) (r k : Path) → Stands parts t → IsCursorIn parts t r k c → IsEnd t r k ended) → p.seen.items ≡ page → p.more ≡ not ended → IsPageBelow held shown root token max c p
page_full held shown root token count max c page p ended some full is ends is_seen is_more = record {
  paths = is.done;
  is_page = page_is;
  once = λ parts t stands agrees. let here = page_is parts t stands agrees in page_apart parts t stands root (Some token) max is.done p.seen.items (sym (ap (λ (q : model.Page). q.paths) here.0)) here.1;
  goes_on = is.goes_on;
  at_last = λ e. elim is.at_last [ inl none ↦ absurd (let h : length is.done ≡ 0 = ap (λ (l : List Path). length l) none in let k = is.long in omega arith) | inr last ↦ last ];
  looked = subst (λ l. AreHeld held shown l) (sym is_seen) is.looked;
}
  where
    by_end : (list : List Path) (t : Tree) → list ≡ is.done ++ above (Some (last_of token is.done)) (below t root) → (b : Bool) → IsEnd t root (last_of token is.done) b
        → page_of max list ≡ record { paths = is.done; next = cond (not b) (Some (last_of token is.done)) None }
    by_end list t so_far true none =
        last_page max token list is.done (so_far ∙ ap (λ l. is.done ++ l) (nothing_is t root (last_of token is.done) none) ∙ append-nil is.done) (let e = is.long in let h : length is.done ≤ max = omega arith in h)
    by_end list t so_far false next =
        more_page max token list is.done next.0 (above (Some next.0) (below t root)) some (so_far ∙ ap (λ l. is.done ++ l) (next_is t root (last_of token is.done) next.0 next.1.0 next.1.1)) (is.long ∙ full)

    page_is : (parts : Parts) (t : Tree) → Stands parts t → Agrees shown parts
        → (page_of max (above (Some token) (below t root)) ≡ record { paths = is.done; next = cond p.more (Some (last_of token is.done)) None }) × AreNodesOf parts t is.done p.seen.items
    page_is parts t stands agrees =
        let so_far = is.is_page parts t stands agrees in (
          by_end (above (Some token) (below t root)) t so_far.0 ended (ends parts t root (last_of token is.done) stands (is.goes_on parts t stands agrees))
              ∙ ap (λ b. record { paths = is.done; next = cond b (Some (last_of token is.done)) None }) (sym is_more),
          subst (λ l. AreNodesOf parts t is.done l) (sym is_seen) so_far.1,
        )

-- a walk that went on is one
pub walks_on : (now : Held) (old new : Shown) (before after : Cursor) (s : Seen) → IsWalk old before → ((r k : Path) → IsCursor old r k before → IsNextSeen now new r k after (Some s)) → IsWalk new after
walks_on now old new before after s walk step = (walk.0, end_of walk.0 after.levels.items, λ parts t stands agrees. ((step walk.0 walk.1 walk.2).0 parts t stands agrees).goes_on)
