-- What an edit of the page at home makes of all pages.
use Rattle.std.proofs.Common.{◌≡◌, ℕ, zero, suc, ◌+◌, ◌-◌, ◌<◌, ◌≤◌, ◌==◌, Bool, true, false, cond, ◌&&◌, List, [], ◌∷◌, ◌++◌, length, set, take, drop, is_some, None, Result, Ok, Err, OnOk, OnErr, refl, sym, ap, subst, ◌∙◌, append_assoc, append-nil, arith}
use Rattle.std.specs.Prelude.{nat_lt}
use Rattle.std.proofs.lemmas.Bool.{false≢true, leb-true, leb-false, ltb-true, eqb-true, eqb-false, lt-ltb}
use Rattle.std.specs.Cmp.Lexicographic.{nat_list_cmp_total}
use Rattle.std.specs.FinMap.{find, put}
use Rattle.std.specs.FinMap.Entries.{where_key, length_without}
use Rattle.inode_tree.specs.Ascending.{differs}
use Rattle.inode_tree.specs.ChildLists.{name_cmp, AscendsByName}
use Rattle.inode_tree.specs.Pages.{Page, together, page_at, home, replaced, cut, are_few, joins_next, joins_before, settled, with_link, without_link, ArePages}
use Rattle.inode_tree.proofs.PlaceLemmas.{in_order, put_sorted, kept_sorted}
use Rattle.inode_tree.proofs.PageLists.{set_is, one_more, two_more, together_replaced, together_cut, around, same_page}
use Rattle.inode_tree.proofs.PageLemmas.{at_home, home_within, find_home, kept_none, put_page, put_long, without_page, page_sorted}
use Rattle.inode_tree.proofs.PageSizes.{Well, sizes_of, full_of, well_grown, well_first, well_gone, well_joined_next, well_joined_before, well_alone}

are_pages : (ps : List Page) → AscendsByName (together ps) → Well 128 ps → ArePages ps
are_pages ps up w = record { ascends = up; sizes = sizes_of 128 ps w; full = full_of 128 ps w }

-- ---- a name more

module _ (name : List ℕ) (id : ℕ) (ps : List Page) (are : ArePages ps) where
  abbrev grown : Page
  grown = put name_cmp name id (page_at ps (home name ps))

  pub links_with : together (with_link name id ps) ≡ put name_cmp name id (together ps)
  links_with =
      let sides = at_home name ps are in
      together_replaced ps (home name ps) 1 (cut grown)
      ∙ ap (λ l. together (take (home name ps) ps) ++ (l ++ together (drop (home name ps + 1) ps))) (together_cut grown)
      ∙ ap (λ j. together (take (home name ps) ps) ++ (grown ++ together (drop j ps))) (one_more (home name ps))
      ∙ sym (ap (put name_cmp name id) (around ps (home name ps)) ∙ put_page name_cmp name id (together (take (home name ps) ps)) (page_at ps (home name ps)) (together (drop (suc (home name ps)) ps)) sides.0 sides.1)

  pub pages_with : ArePages (with_link name id ps)
  pages_with = are_pages (with_link name id ps) (subst (λ l. AscendsByName l) (sym links_with) (put_sorted name_cmp nat_list_cmp_total name id (together ps) are.ascends)) (well ps are)
    where
      well : (qs : List Page) → ArePages qs → Well 128 (with_link name id qs)
      well [] are = well_first (name, id)
      well (q ∷ qs) are =
          let within = home_within name (q ∷ qs) in
          let long = put_long name_cmp name id (page_at (q ∷ qs) (home name (q ∷ qs))) in
          well_grown (q ∷ qs) are (home name (q ∷ qs)) (omega arith) (put name_cmp name id (page_at (q ∷ qs) (home name (q ∷ qs)))) long.0 long.1

-- ---- a page that shrank

both_true : (a b : Bool) → (a && b) ≡ true → (a ≡ true) × (b ≡ true)
both_true true b h = (refl, h)
both_true false b h = absurd (false≢true h)

second_false : (a b : Bool) → (a && b) ≡ false → a ≡ true → b ≡ false
second_false true b h e = h
second_false false b h e = absurd (false≢true e)

module _ (ps : List Page) (k : ℕ) (new : Page) where
  -- what comes of a page, case by case
  by_case : (P : List Page → Type 0)
      → (length new ≡ 0 → P (replaced ps k 1 []))
      → (1 ≤ length new → suc k < length ps → length new + length (page_at ps (suc k)) ≤ 128 → P (replaced ps k 2 ((new ++ page_at ps (suc k)) ∷ [])))
      → (1 ≤ length new → 0 < k → length (page_at ps (k - 1)) + length new ≤ 128 → P (replaced ps (k - 1) 2 ((page_at ps (k - 1) ++ new) ∷ [])))
      → (1 ≤ length new → (suc k < length ps → 128 < length new + length (page_at ps (suc k))) → (0 < k → 128 < length (page_at ps (k - 1)) + length new) → P (replaced ps k 1 (new ∷ [])))
      → P (settled ps k new)
  by_case P gone next before alone = by_tests (length new == 0) (joins_next ps k new) (joins_before ps k new) refl refl refl
    where
      by_tests : (a b c : Bool) → (length new == 0) ≡ a → joins_next ps k new ≡ b → joins_before ps k new ≡ c
          → P (cond a (replaced ps k 1 []) (cond b (replaced ps k 2 ((new ++ page_at ps (suc k)) ∷ [])) (cond c (replaced ps (k - 1) 2 ((page_at ps (k - 1) ++ new) ∷ [])) (replaced ps k 1 (new ∷ [])))))
      by_tests true b c p q r = gone (eqb-true (length new) 0 p)
      by_tests false true c p q r =
          let one = eqb-false (length new) 0 p in
          let tests = both_true (nat_lt (suc k) (length ps)) (are_few new (page_at ps (suc k))) q in
          next (omega arith) (ltb-true (suc k) (length ps) tests.0) (leb-true (length new + length (page_at ps (suc k))) 128 tests.1)
      by_tests false false true p q r =
          let one = eqb-false (length new) 0 p in
          let tests = both_true (nat_lt 0 k) (are_few (page_at ps (k - 1)) new) r in
          before (omega arith) (ltb-true 0 k tests.0) (leb-true (length (page_at ps (k - 1)) + length new) 128 tests.1)
      by_tests false false false p q r =
          let one = eqb-false (length new) 0 p in
          alone (omega arith)
          (λ h. leb-false (length new + length (page_at ps (suc k))) 128 (second_false (nat_lt (suc k) (length ps)) (are_few new (page_at ps (suc k))) q (lt-ltb (suc k) (length ps) h)))
          (λ h. leb-false (length (page_at ps (k - 1)) + length new) 128 (second_false (nat_lt 0 k) (are_few (page_at ps (k - 1)) new) r (lt-ltb 0 k h)))

  -- a page that is neither empty nor joined
  pub settled_alone : k < length ps → (length new == 0) ≡ false → joins_next ps k new ≡ false → joins_before ps k new ≡ false → set ps k new ≡ settled ps k new
  settled_alone h one apart before =
      set_is ps k new h
      ∙ sym (ap (λ b. cond b (replaced ps k 1 []) (cond (joins_next ps k new) (replaced ps k 2 ((new ++ page_at ps (suc k)) ∷ [])) (cond (joins_before ps k new) (replaced ps (k - 1) 2 ((page_at ps (k - 1) ++ new) ∷ [])) (replaced ps k 1 (new ∷ []))))) one
      ∙ ap (λ b. cond b (replaced ps k 2 ((new ++ page_at ps (suc k)) ∷ [])) (cond (joins_before ps k new) (replaced ps (k - 1) 2 ((page_at ps (k - 1) ++ new) ∷ [])) (replaced ps k 1 (new ∷ [])))) apart
      ∙ ap (λ b. cond b (replaced ps (k - 1) 2 ((page_at ps (k - 1) ++ new) ∷ [])) (replaced ps k 1 (new ∷ []))) before)

from_page : (ps : List Page) (k : ℕ) → together (drop k ps) ≡ page_at ps k ++ together (drop (suc k) ps)
from_page [] zero = refl
from_page [] (suc k) = refl
from_page (p ∷ ps) zero = refl
from_page (p ∷ ps) (suc k) = from_page ps k

up_to : (ps : List Page) (j : ℕ) → together (take (suc j) ps) ≡ together (take j ps) ++ page_at ps j
up_to [] zero = refl
up_to [] (suc j) = refl
up_to (p ∷ ps) zero = append-nil p
up_to (p ∷ ps) (suc j) = ap (λ l. p ++ l) (up_to ps j) ∙ sym (append_assoc p (together (take j ps)) (page_at ps j))

no_names : (page : Page) → length page ≡ 0 → page ≡ []
no_names [] e = refl
no_names (x ∷ page) e = absurd (omega arith)

-- the page before takes the page in
links_before : (ps : List Page) (j : ℕ) (new : Page) → together (replaced ps j 2 ((page_at ps j ++ new) ∷ [])) ≡ together (take (suc j) ps) ++ (new ++ together (drop (suc (suc j)) ps))
links_before ps j new =
    together_replaced ps j 2 ((page_at ps j ++ new) ∷ [])
    ∙ ap (λ l. together (take j ps) ++ (l ++ together (drop (j + 2) ps))) (append-nil (page_at ps j ++ new))
    ∙ ap (λ l. together (take j ps) ++ l) (append_assoc (page_at ps j) new (together (drop (j + 2) ps)))
    ∙ sym (append_assoc (together (take j ps)) (page_at ps j) (new ++ together (drop (j + 2) ps)))
    ∙ ap (λ l. l ++ (new ++ together (drop (j + 2) ps))) (sym (up_to ps j))
    ∙ ap (λ i. together (take (suc j) ps) ++ (new ++ together (drop i ps))) (two_more j)

links_settled : (ps : List Page) (k : ℕ) (new : Page) → together (settled ps k new) ≡ together (take k ps) ++ (new ++ together (drop (suc k) ps))
links_settled ps k new = by_case ps k new (λ r. together r ≡ together (take k ps) ++ (new ++ together (drop (suc k) ps)))
    (λ none. together_replaced ps k 1 [] ∙ ap (λ j. together (take k ps) ++ together (drop j ps)) (one_more k) ∙ ap (λ n. together (take k ps) ++ (n ++ together (drop (suc k) ps))) (sym (no_names new none)))
    (λ some within few.
    together_replaced ps k 2 ((new ++ page_at ps (suc k)) ∷ [])
    ∙ ap (λ l. together (take k ps) ++ (l ++ together (drop (k + 2) ps))) (append-nil (new ++ page_at ps (suc k)))
    ∙ ap (λ j. together (take k ps) ++ ((new ++ page_at ps (suc k)) ++ together (drop j ps))) (two_more k)
    ∙ ap (λ l. together (take k ps) ++ l) (append_assoc new (page_at ps (suc k)) (together (drop (suc (suc k)) ps)))
    ∙ ap (λ l. together (take k ps) ++ (new ++ l)) (sym (from_page ps (suc k))))
    (λ some within few.
    let e : suc (k - 1) ≡ k = omega arith in
    links_before ps (k - 1) new ∙ ap (λ i. together (take i ps) ++ (new ++ together (drop (suc i) ps))) e)
    (λ some next before.
    together_replaced ps k 1 (new ∷ []) ∙ ap (λ l. together (take k ps) ++ (l ++ together (drop (k + 1) ps))) (append-nil new)
    ∙ ap (λ j. together (take k ps) ++ (new ++ together (drop j ps))) (one_more k))

well_settled : (ps : List Page) → ArePages ps → (k : ℕ) → k < length ps → (new : Page) → length (page_at ps k) ≤ length new + 1 → length new ≤ length (page_at ps k) → Well 128 (settled ps k new)
well_settled ps are k h new low high = by_case ps k new (λ r. Well 128 r)
    (λ none. well_gone ps are k h new low high none)
    (λ some within few. well_joined_next ps are k h new low high some within few)
    (λ some within few.
    let e : k ≡ suc (k - 1) = omega arith in
    well_joined_before ps are (k - 1) (omega arith) new (subst (λ i. length (page_at ps i) ≤ length new + 1) e low) some few)
    (λ some next before. well_alone ps are k h new low high some next
    (λ j is. let e : k - 1 ≡ j = omega arith in subst (λ i. 128 < length (page_at ps i) + length new) e (before (omega arith))))

-- ---- a name less

module _ (name : List ℕ) (ps : List Page) (are : ArePages ps) where
  abbrev shrunk : Page
  shrunk = where_key name_cmp (differs name_cmp name) (page_at ps (home name ps))

  pub links_without : together (without_link name ps) ≡ where_key name_cmp (differs name_cmp name) (together ps)
  links_without =
      let sides = at_home name ps are in
      links_settled ps (home name ps) shrunk
      ∙ sym (ap (where_key name_cmp (differs name_cmp name)) (around ps (home name ps))
      ∙ without_page name_cmp name (together (take (home name ps) ps)) (page_at ps (home name ps)) (together (drop (suc (home name ps)) ps)) sides.0 sides.1)

  shrinks : (length (page_at ps (home name ps)) ≤ length shrunk + 1) × (length shrunk ≤ length (page_at ps (home name ps)))
  shrinks = by_test (is_some (find name_cmp name (page_at ps (home name ps)))) (length_without name_cmp nat_list_cmp_total name (page_at ps (home name ps)) (in_order _ (page_sorted ps (home name ps) are)))
    where
      by_test : (b : Bool) → cond b 1 0 + length shrunk ≡ length (page_at ps (home name ps)) → (length (page_at ps (home name ps)) ≤ length shrunk + 1) × (length shrunk ≤ length (page_at ps (home name ps)))
      by_test true e = (omega arith, omega arith)
      by_test false e = (omega arith, omega arith)

  pub pages_without : 0 < length ps → ArePages (without_link name ps)
  pages_without some =
      let within = home_within name ps in
      let long = shrinks in
      are_pages (without_link name ps) (subst (λ l. AscendsByName l) (sym links_without) (kept_sorted name_cmp nat_list_cmp_total (differs name_cmp name) (together ps) are.ascends))
      (well_settled ps are (home name ps) (omega arith) shrunk long.0 long.1)

  -- where the page at home hasn't the name, nothing changes
  pub nothing_there : 0 < length ps → shrunk ≡ page_at ps (home name ps) → ps ≡ without_link name ps
  nothing_there some same =
      let within = home_within name ps in
      sym (ap (settled ps (home name ps)) same ∙ stays (home name ps) (omega arith))
    where
      stays : (k : ℕ) → k < length ps → settled ps k (page_at ps k) ≡ ps
      stays k h = by_case ps k (page_at ps k) (λ r. r ≡ ps)
          (λ none. let one = (are.sizes k h).0 in absurd (omega arith))
          (λ one within few. let over = are.full k within in absurd (omega arith))
          (λ one within few.
          let e : suc (k - 1) ≡ k = omega arith in
          let over : 128 < length (page_at ps (k - 1)) + length (page_at ps k) =
          subst (λ i. 128 < length (page_at ps (k - 1)) + length (page_at ps i)) e (are.full (k - 1) (omega arith)) in
          absurd (omega arith))
          (λ one next before. same_page ps k h)

-- where a name leads nowhere, nothing changes
pub nothing_found : (name : List ℕ) (ps : List Page) → ArePages ps → find name_cmp name (together ps) ≡ None → ps ≡ without_link name ps
nothing_found name [] are none = refl
nothing_found name (q ∷ qs) are none =
    nothing_there name (q ∷ qs) are (omega arith) (kept_none name_cmp name (page_at (q ∷ qs) (home name (q ∷ qs))) (find_home name (q ∷ qs) are ∙ none))

-- ---- what a call leaves

module _ {E : Type 0} (name : List ℕ) (id : ℕ) (old new : List Page) (are : ArePages old) where
  pub pages_where_linked : (r : Result Unit E) → OnOk r (new ≡ with_link name id old) → OnErr r (new ≡ old) → ArePages new
  pages_where_linked (Ok _) e s = subst (λ l. ArePages l) (sym e) (pages_with name id old are)
  pages_where_linked (Err _) e s = subst (λ l. ArePages l) (sym s) are

  pub links_where_linked : (r : Result Unit E) (links : List (List ℕ × ℕ)) → together old ≡ links → OnOk r (new ≡ with_link name id old) → OnOk r (together new ≡ put name_cmp name id links)
  links_where_linked (Ok _) links is e = ap together e ∙ links_with name id old are ∙ ap (put name_cmp name id) is
  links_where_linked (Err _) links is e = tt

without : (name : List ℕ) (ps : List Page) → ArePages ps → (together (without_link name ps) ≡ where_key name_cmp (differs name_cmp name) (together ps)) × ArePages (without_link name ps)
without name [] are = (refl, are)
without name (q ∷ qs) are = (links_without name (q ∷ qs) are, pages_without name (q ∷ qs) are (omega arith))

module _ {E : Type 0} (name : List ℕ) (old new : List Page) (are : ArePages old) where
  pub pages_where_unlinked : (r : Result Unit E) → OnOk r (new ≡ without_link name old) → OnErr r (new ≡ old) → ArePages new
  pages_where_unlinked (Ok _) e s = subst (λ l. ArePages l) (sym e) (without name old are).1
  pages_where_unlinked (Err _) e s = subst (λ l. ArePages l) (sym s) are

  pub links_where_unlinked : (r : Result Unit E) (links : List (List ℕ × ℕ)) → together old ≡ links → OnOk r (new ≡ without_link name old) → OnOk r (together new ≡ where_key name_cmp (differs name_cmp name) links)
  links_where_unlinked (Ok _) links is e = ap together e ∙ (without name old are).0 ∙ ap (where_key name_cmp (differs name_cmp name)) is
  links_where_unlinked (Err _) links is e = tt
