-- The page at which a name is at home: all that stand before it are less, and all behind it are greater.
use Rattle.std.proofs.Common.{◌≡◌, inl, inr, ℕ, zero, suc, ◌+◌, ◌-◌, ◌<◌, ◌≤◌, ◌==◌, slice_get, Bool, true, false, cond, not, ◌&&◌, T, IsTrue, List, [], ◌∷◌, ◌++◌, length, get_or, take, drop, Some, None, is_some, refl, sym, ap, subst, ◌∙◌, arith}
use Rattle.std.proofs.lemmas.Bool.{false≢true, cases_Bool, eqb-true}
use Rattle.std.proofs.lemmas.List.{get_or_default, drop_all}
use Rattle.std.proofs.lemmas.List.Elements.{filter-append}
use Rattle.std.specs.declared.cmp.Ordering.{Ordering}
use Rattle.std.specs.declared.cmp.Ordering.TheVariants.{Less, Equal, Greater}
use Rattle.std.specs.Ordering.{is_eq, is_lt, eq_by_cmp}
use Rattle.std.specs.Cmp.{IsTotalOrder}
use Rattle.std.specs.Cmp.Lexicographic.{nat_list_cmp_total}
use Rattle.std.specs.List.{filter, AllWithin}
use Rattle.std.specs.FinMap.{find, put, is_sorted}
use Rattle.std.specs.FinMap.Entries.{where_key, below_all, by_order}
use Rattle.inode_tree.specs.Ascending.{differs}
use Rattle.inode_tree.specs.ChildLists.{name_cmp, first_above}
use Rattle.inode_tree.specs.Pages.{Page, together, page_at, begins_by, home, ArePages}
use Rattle.inode_tree.proofs.PageLists.{one_more, around}
use Rattle.inode_tree.proofs.PlaceLemmas.{in_order, is_true, exceeds}
use Rattle.inode_tree.proofs.Searches.{turned, first, second, less}

both : (a b : Bool) → T a → T b → T (a && b)
both true b p q = q
both false b p q = p

module _ {K X : Type 0} (R : K → K → Ordering) (k : K) where
  -- the key stands so to each of these
  abbrev pub Each : Ordering → List (K × X) → Type 0
  Each side [] = Unit {0}
  Each side (x ∷ es) = (R k x.0 ≡ side) × Each side es

  pub each_append : (side : Ordering) (a b : List (K × X)) → Each side a → Each side b → Each side (a ++ b)
  each_append side [] b h g = g
  each_append side (x ∷ a) b h g = (h.0, each_append side a b h.1 g)

  pub each_right : (side : Ordering) (a b : List (K × X)) → Each side (a ++ b) → Each side b
  each_right side [] b h = h
  each_right side (x ∷ a) b h = each_right side a b h.1

  -- ---- an edit touches its page

  find_behind : (a r : List (K × X)) → Each Greater a → find R k (a ++ r) ≡ find R k r
  find_behind [] r h = refl
  find_behind (x ∷ a) r h = ap (λ o. cond (is_eq o) (Some x.1) (find R k (a ++ r))) h.0 ∙ find_behind a r h.1

  find_nowhere : (b : List (K × X)) → Each Less b → find R k b ≡ None
  find_nowhere [] h = refl
  find_nowhere (x ∷ b) h = ap (λ o. cond (is_eq o) (Some x.1) (find R k b)) h.0 ∙ find_nowhere b h.1

  find_before : (p b : List (K × X)) → Each Less b → find R k (p ++ b) ≡ find R k p
  find_before [] b h = find_nowhere b h
  find_before (x ∷ p) b h = ap (λ o. cond (eq_by_cmp R k x.0) (Some x.1) o) (find_before p b h)

  -- what is found is found in the page
  pub find_page : (a p b : List (K × X)) → Each Greater a → Each Less b → find R k (a ++ (p ++ b)) ≡ find R k p
  find_page a p b over under = find_behind a (p ++ b) over ∙ find_before p b under

  put_behind : (v : X) (a r : List (K × X)) → Each Greater a → put R k v (a ++ r) ≡ a ++ put R k v r
  put_behind v [] r h = refl
  put_behind v (x ∷ a) r h = ap (λ o. by_order o ((k, v) ∷ x ∷ (a ++ r)) ((x.0, v) ∷ (a ++ r)) (x ∷ put R k v (a ++ r))) h.0 ∙ ap (λ l. x ∷ l) (put_behind v a r h.1)

  put_before : (v : X) (p b : List (K × X)) → Each Less b → put R k v (p ++ b) ≡ put R k v p ++ b
  put_before v [] [] h = refl
  put_before v [] (y ∷ b) h = ap (λ o. by_order o ((k, v) ∷ y ∷ b) ((y.0, v) ∷ b) (y ∷ put R k v b)) h.0
  put_before v (x ∷ p) b h = by_side (R k x.0) (put_before v p b h)
    where
      by_side : (o : Ordering) → put R k v (p ++ b) ≡ put R k v p ++ b
          → by_order o ((k, v) ∷ x ∷ (p ++ b)) ((x.0, v) ∷ (p ++ b)) (x ∷ put R k v (p ++ b)) ≡ by_order o ((k, v) ∷ x ∷ p) ((x.0, v) ∷ p) (x ∷ put R k v p) ++ b
      by_side Less e = refl
      by_side Equal e = refl
      by_side Greater e = ap (λ l. x ∷ l) e

  -- what is put is put into the page
  pub put_page : (v : X) (a p b : List (K × X)) → Each Greater a → Each Less b → put R k v (a ++ (p ++ b)) ≡ a ++ (put R k v p ++ b)
  put_page v a p b over under = put_behind v a (p ++ b) over ∙ ap (λ l. a ++ l) (put_before v p b under)

  pub put_long : (v : X) (es : List (K × X)) → (length es ≤ length (put R k v es)) × (length (put R k v es) ≤ length es + 1)
  put_long v [] = (omega arith, omega arith)
  put_long v (e ∷ es) = by_side (R k e.0) (put_long v es)
    where
      by_side : (o : Ordering) → (length es ≤ length (put R k v es)) × (length (put R k v es) ≤ length es + 1)
          → (length (e ∷ es) ≤ length (by_order o ((k, v) ∷ e ∷ es) ((e.0, v) ∷ es) (e ∷ put R k v es)))
          × (length (by_order o ((k, v) ∷ e ∷ es) ((e.0, v) ∷ es) (e ∷ put R k v es)) ≤ length (e ∷ es) + 1)
      by_side Less h = (omega arith, omega arith)
      by_side Equal h = (omega arith, omega arith)
      by_side Greater h = let low = h.0 in let high = h.1 in (omega arith, omega arith)

  kept_greater : (a : List (K × X)) → Each Greater a → where_key R (differs R k) a ≡ a
  kept_greater [] h = refl
  kept_greater (x ∷ a) h = ap (λ o. cond (not (is_eq o)) (x ∷ where_key R (differs R k) a) (where_key R (differs R k) a)) h.0 ∙ ap (λ l. x ∷ l) (kept_greater a h.1)

  kept_less : (a : List (K × X)) → Each Less a → where_key R (differs R k) a ≡ a
  kept_less [] h = refl
  kept_less (x ∷ a) h = ap (λ o. cond (not (is_eq o)) (x ∷ where_key R (differs R k) a) (where_key R (differs R k) a)) h.0 ∙ ap (λ l. x ∷ l) (kept_less a h.1)

  -- what is taken out is taken out of the page
  pub without_page : (a p b : List (K × X)) → Each Greater a → Each Less b → where_key R (differs R k) (a ++ (p ++ b)) ≡ a ++ (where_key R (differs R k) p ++ b)
  without_page a p b over under =
      filter-append (λ e. differs R k e.0) a (p ++ b) ∙ ap (λ l. l ++ where_key R (differs R k) (p ++ b)) (kept_greater a over)
      ∙ ap (λ l. a ++ l) (filter-append (λ e. differs R k e.0) p b ∙ ap (λ l. where_key R (differs R k) p ++ l) (kept_less b under))

  -- where it isn't found, nothing is taken out
  pub kept_none : (es : List (K × X)) → find R k es ≡ None → where_key R (differs R k) es ≡ es
  kept_none [] e = refl
  kept_none (x ∷ es) e = by_test (eq_by_cmp R k x.0) (kept_none es) e
    where
      by_test : (b : Bool) → (find R k es ≡ None → where_key R (differs R k) es ≡ es) → cond b (Some x.1) (find R k es) ≡ None → cond (not b) (x ∷ where_key R (differs R k) es) (where_key R (differs R k) es) ≡ x ∷ es
      by_test true rest e = absurd (false≢true (sym (ap is_some e)))
      by_test false rest e = ap (λ l. x ∷ l) (rest e)

  none_greater : (a : List (K × X)) → Each Greater a → where_key R (exceeds R k) a ≡ []
  none_greater [] h = refl
  none_greater (x ∷ a) h = ap (λ o. cond (is_lt o) (x ∷ where_key R (exceeds R k) a) (where_key R (exceeds R k) a)) h.0 ∙ none_greater a h.1

  all_less : (b : List (K × X)) → Each Less b → where_key R (exceeds R k) b ≡ b
  all_less [] h = refl
  all_less (x ∷ b) h = ap (λ o. cond (is_lt o) (x ∷ where_key R (exceeds R k) b) (where_key R (exceeds R k) b)) h.0 ∙ ap (λ l. x ∷ l) (all_less b h.1)

  -- what is greater is so in the page, or behind it
  pub above_page : (a p b : List (K × X)) → Each Greater a → Each Less b → where_key R (exceeds R k) (a ++ (p ++ b)) ≡ where_key R (exceeds R k) p ++ b
  above_page a p b over under =
      filter-append (λ e. exceeds R k e.0) a (p ++ b) ∙ ap (λ l. l ++ where_key R (exceeds R k) (p ++ b)) (none_greater a over)
      ∙ filter-append (λ e. exceeds R k e.0) p b ∙ ap (λ l. where_key R (exceeds R k) p ++ l) (all_less b under)

module _ {K X : Type 0} (R : K → K → Ordering) where
  pub below_left : (x : K) (a b : List (K × X)) → T (below_all R x (a ++ b)) → T (below_all R x a)
  below_left x [] b h = tt
  below_left x (e ∷ a) b h = both _ _ (first _ _ h) (below_left x a b (second _ _ h))

  pub below_right : (x : K) (a b : List (K × X)) → T (below_all R x (a ++ b)) → T (below_all R x b)
  below_right x [] b h = h
  below_right x (e ∷ a) b h = below_right x a b (second _ _ h)

  pub sorted_left : (a b : List (K × X)) → T (is_sorted R (a ++ b)) → T (is_sorted R a)
  sorted_left [] b h = tt
  sorted_left (e ∷ a) b h = both _ _ (below_left e.0 a b (first _ _ h)) (sorted_left a b (second _ _ h))

  pub sorted_right : (a b : List (K × X)) → T (is_sorted R (a ++ b)) → T (is_sorted R b)
  sorted_right [] b h = h
  sorted_right (e ∷ a) b h = sorted_right a b (second _ _ h)

module _ {K : Type 0} (R : K → K → Ordering) (o : IsTotalOrder R) (k : K) where
  -- what is less than a key that k doesn't stand before
  above_less : (x y : K) → R x y ≡ Less → is_lt (R k y) ≡ false → R k x ≡ Greater
  above_less x y rises not_less = by_side (R k y) refl not_less
    where
      by_side : (r : Ordering) → R k y ≡ r → is_lt r ≡ false → R k x ≡ Greater
      by_side Less e h = absurd (false≢true (sym h))
      by_side Equal e h = o.congr k y x e ∙ turned R o x y Less rises
      by_side Greater e h = turned R o x k Less (o.trans x y k rises (turned R o k y Greater e))

module _ {K X : Type 0} (R : K → K → Ordering) (o : IsTotalOrder R) (k : K) where
  each_less : (x : K) (es : List (K × X)) → R k x ≡ Less → T (below_all R x es) → Each R k Less es
  each_less x [] l h = tt
  each_less x (e ∷ es) l h = (o.trans k x e.0 l (less _ (first _ _ h)), each_less x es l (second _ _ h))

  each_greater : (a : List (K × X)) (y : K × X) (b : List (K × X)) → T (is_sorted R (a ++ y ∷ b)) → is_lt (R k y.0) ≡ false → Each R k Greater a
  each_greater [] y b h n = tt
  each_greater (x ∷ a) y b h n = (above_less R o k x.0 y.0 (less _ (first _ _ (below_right R x.0 a (y ∷ b) (first _ _ h)))) n, each_greater a y b (second _ _ h) n)

-- ---- pages

-- each page has a name
abbrev pub Filled : List Page → Type 0
Filled [] = Unit {0}
Filled (p ∷ ps) = (1 ≤ length p) × Filled ps

pub filled : (ps : List Page) → ((k : ℕ) → k < length ps → 1 ≤ length (page_at ps k)) → Filled ps
filled [] h = tt
filled (p ∷ ps) h = (h 0 (omega arith), filled ps (λ k l. h (suc k) (omega arith)))

pub are_filled : (ps : List Page) → ArePages ps → Filled ps
are_filled ps are = filled ps (λ k h. (are.sizes k h).0)

pub below_page : (x : List ℕ) (ps : List Page) (j : ℕ) → T (below_all name_cmp x (together ps)) → T (below_all name_cmp x (page_at ps j))
below_page x [] j h = tt
below_page x (p ∷ ps) zero h = below_left name_cmp x p (together ps) h
below_page x (p ∷ ps) (suc j) h = below_page x ps j (below_right name_cmp x p (together ps) h)

sorted_at : (ps : List Page) (k : ℕ) → T (is_sorted name_cmp (together ps)) → T (is_sorted name_cmp (page_at ps k))
sorted_at [] k h = tt
sorted_at (p ∷ ps) zero h = sorted_left name_cmp p (together ps) h
sorted_at (p ∷ ps) (suc k) h = sorted_at ps k (sorted_right name_cmp p (together ps) h)

-- the names of each page ascend
pub page_sorted : (ps : List Page) (k : ℕ) → ArePages ps → IsTrue (is_sorted name_cmp (page_at ps k))
page_sorted ps k are = is_true _ (sorted_at ps k (in_order _ are.ascends))

pub fewer : (p : Page → Bool) (ps : List Page) → length (filter p ps) ≤ length ps
fewer p [] = omega arith
fewer p (x ∷ ps) = let rest = fewer p ps in by_test (p x) rest
  where
    by_test : (b : Bool) → length (filter p ps) ≤ length ps → length (cond b (x ∷ filter p ps) (filter p ps)) ≤ length (x ∷ ps)
    by_test true h = omega arith
    by_test false h = omega arith

module _ (name : List ℕ) where
  none_begin : (ps : List Page) → Filled ps → Each name_cmp name Less (together ps) → filter (begins_by name) ps ≡ []
  none_begin [] f h = refl
  none_begin ([] ∷ ps) f h = let one = f.0 in absurd (omega arith)
  none_begin ((x ∷ p) ∷ ps) f h =
      ap (λ o. cond (not (is_lt o)) ((x ∷ p) ∷ filter (begins_by name) ps) (filter (begins_by name) ps)) h.0 ∙ none_begin ps f.1 (each_right name_cmp name Less p (together ps) h.1)

  -- where the first page begins behind the name, all do
  first_behind : (x : List ℕ × ℕ) (p : Page) (ps : List Page) → T (is_sorted name_cmp (together ((x ∷ p) ∷ ps))) → is_lt (name_cmp name x.0) ≡ true → Each name_cmp name Less (together ((x ∷ p) ∷ ps))
  first_behind x p ps s h =
      let l : name_cmp name x.0 ≡ Less = less _ (subst T (sym h) tt) in
      (l, each_less name_cmp nat_list_cmp_total name x.0 (p ++ together ps) l (first _ _ s))

  head_begins : (x : List ℕ × ℕ) (p : Page) (ps : List Page) → T (is_sorted name_cmp (together ((x ∷ p) ∷ ps))) → Filled ((x ∷ p) ∷ ps) → (m : ℕ)
      → length (filter (begins_by name) ((x ∷ p) ∷ ps)) ≡ suc m → is_lt (name_cmp name x.0) ≡ false
  head_begins x p ps s f m e = elim (cases_Bool (is_lt (name_cmp name x.0))) [
    | inl h ↦ let none : length (filter (begins_by name) ((x ∷ p) ∷ ps)) ≡ 0 = ap length (none_begin ((x ∷ p) ∷ ps) f (first_behind x p ps s h)) in absurd (omega arith)
    | inr h ↦ h
  ]

  -- what stands before and behind the last of so many pages that begin by the name
  abbrev Split : List Page → ℕ → Type 0
  Split ps zero = Each name_cmp name Less (together ps)
  Split ps (suc m) = Each name_cmp name Greater (together (take m ps)) × Each name_cmp name Less (together (drop (suc m) ps))

  splits : (ps : List Page) → T (is_sorted name_cmp (together ps)) → Filled ps → (c : ℕ) → length (filter (begins_by name) ps) ≡ c → Split ps c
  splits [] s f zero e = tt
  splits [] s f (suc m) e = absurd (omega arith)
  splits ([] ∷ ps) s f c e = let one = f.0 in absurd (omega arith)
  splits ((x ∷ p) ∷ ps) s f zero e = elim (cases_Bool (is_lt (name_cmp name x.0))) [
    | inl h ↦ first_behind x p ps s h
    | inr h ↦
        let some : length (filter (begins_by name) ((x ∷ p) ∷ ps)) ≡ suc (length (filter (begins_by name) ps)) =
        ap (λ b. length (cond (not b) ((x ∷ p) ∷ filter (begins_by name) ps) (filter (begins_by name) ps))) h in
        absurd (omega arith)
  ]
  splits ((x ∷ p) ∷ ps) s f (suc m) e =
      let h : is_lt (name_cmp name x.0) ≡ false = head_begins x p ps s f m e in
      let some : length (filter (begins_by name) ((x ∷ p) ∷ ps)) ≡ suc (length (filter (begins_by name) ps)) =
      ap (λ b. length (cond (not b) ((x ∷ p) ∷ filter (begins_by name) ps) (filter (begins_by name) ps))) h in
      let left : length (filter (begins_by name) ps) ≡ m = omega arith in
      by_rest m left (splits ps (sorted_right name_cmp (x ∷ p) (together ps) s) f.1 m left)
    where
      before : (qs : List Page) → T (is_sorted name_cmp (together ((x ∷ p) ∷ qs))) → Filled qs → (n : ℕ) → length (filter (begins_by name) qs) ≡ suc n → Each name_cmp name Greater (x ∷ p)
      before [] s f n e = absurd (omega arith)
      before ([] ∷ qs) s f n e = let one = f.0 in absurd (omega arith)
      before ((y ∷ q) ∷ qs) s f n e =
          each_greater name_cmp nat_list_cmp_total name (x ∷ p) y (q ++ together qs) s (head_begins y q qs (sorted_right name_cmp (x ∷ p) (together ((y ∷ q) ∷ qs)) s) f n e)

      by_rest : (n : ℕ) → length (filter (begins_by name) ps) ≡ n → Split ps n → Split ((x ∷ p) ∷ ps) (suc n)
      by_rest zero e rest = (tt, rest)
      by_rest (suc n) e rest = (each_append name_cmp name Greater (x ∷ p) (together (take n ps)) (before ps s f.1 n e) rest.0, rest.1)

  none_left : (ps : List Page) → Each name_cmp name Less (together ps) → Each name_cmp name Less (together (drop 1 ps))
  none_left [] h = tt
  none_left (p ∷ ps) h = each_right name_cmp name Less p (together ps) h

  -- all before the page at home are less, and all behind it are greater
  pub at_home : (ps : List Page) → ArePages ps → Each name_cmp name Greater (together (take (home name ps) ps)) × Each name_cmp name Less (together (drop (suc (home name ps)) ps))
  at_home ps are = by_count (length (filter (begins_by name) ps)) (splits ps (in_order _ are.ascends) (are_filled ps are) _ refl)
    where
      by_count : (c : ℕ) → Split ps c → Each name_cmp name Greater (together (take (c - 1) ps)) × Each name_cmp name Less (together (drop (suc (c - 1)) ps))
      by_count zero h = (tt, none_left ps h)
      by_count (suc m) h =
          let e : m ≡ suc m - 1 = omega arith in
          subst (λ j. Each name_cmp name Greater (together (take j ps)) × Each name_cmp name Less (together (drop (suc j) ps))) e h

  -- a look-up looks at the page at home alone
  pub find_home : (ps : List Page) → ArePages ps → find name_cmp name (page_at ps (home name ps)) ≡ find name_cmp name (together ps)
  find_home ps are =
      let sides = at_home ps are in
      sym (ap (find name_cmp name) (around ps (home name ps)) ∙ find_page name_cmp name (together (take (home name ps) ps)) (page_at ps (home name ps)) (together (drop (suc (home name ps)) ps)) sides.0 sides.1)

  first_left : (page rest : Page) (from : ℕ) (d : List ℕ × ℕ) → from < length page → slice_get (drop from page ++ rest) 0 ≡ Some (get_or page from d)
  first_left [] rest from d h = absurd (omega arith)
  first_left (x ∷ page) rest zero d h = refl
  first_left (x ∷ page) rest (suc from) d h = first_left page rest from d (omega arith)

  module _ (ps : List Page) (are : ArePages ps) (page : Page) (is : page ≡ page_at ps (home name ps)) (from : ℕ) (rest : where_key name_cmp (exceeds name_cmp name) page ≡ drop from page) where
    first_home : slice_get (drop from page ++ together (drop (suc (home name ps)) ps)) 0 ≡ first_above (Some name) (together ps)
    first_home =
        let sides = at_home ps are in
        sym (ap (λ l. slice_get (where_key name_cmp (exceeds name_cmp name) l) 0) (around ps (home name ps))
        ∙ ap (λ l. slice_get l 0) (above_page name_cmp name (together (take (home name ps) ps)) (page_at ps (home name ps)) (together (drop (suc (home name ps)) ps)) sides.0 sides.1)
        ∙ ap (λ p. slice_get (where_key name_cmp (exceeds name_cmp name) p ++ together (drop (suc (home name ps)) ps)) 0) (sym is)
        ∙ ap (λ l. slice_get (l ++ together (drop (suc (home name ps)) ps)) 0) rest)

    -- the first greater name stands in the page at home, or is the first of the next page
    pub above_in : (d : List ℕ × ℕ) → from < length page → Some (get_or page from d) ≡ first_above (Some name) (together ps)
    above_in d h = sym (first_left page (together (drop (suc (home name ps)) ps)) from d h) ∙ first_home

    pub above_next : length page ≤ from → slice_get (together (drop (home name ps + 1) ps)) 0 ≡ first_above (Some name) (together ps)
    above_next h =
        ap (λ j. slice_get (together (drop j ps)) 0) (one_more (home name ps))
        ∙ ap (λ l. slice_get (l ++ together (drop (suc (home name ps)) ps)) 0) (sym (drop_all from page h)) ∙ first_home

  pub home_within : (ps : List Page) → home name ps ≤ length ps - 1
  home_within ps = by_count (length (filter (begins_by name) ps)) (fewer (begins_by name) ps)
    where
      by_count : (c : ℕ) → c ≤ length ps → c - 1 ≤ length ps - 1
      by_count c h = omega arith

  -- ---- the search

  begins_at : (x : List ℕ × ℕ) (p q : Page) → T (below_all name_cmp x.0 q) → begins_by name q ≡ true → begins_by name (x ∷ p) ≡ true
  begins_at x p [] h e = absurd (false≢true e)
  begins_at x p (y ∷ q) h e =
      ap (λ o. not (is_lt o)) (above_less name_cmp nat_list_cmp_total name x.0 y.0 (less _ (first _ _ h)) (not_it (is_lt (name_cmp name y.0)) e))
    where
      not_it : (b : Bool) → not b ≡ true → b ≡ false
      not_it true e = absurd (false≢true e)
      not_it false e = refl

  before_it : (ps : List Page) → T (is_sorted name_cmp (together ps)) → Filled ps → (i j : ℕ) → j < length ps → i ≤ j
      → begins_by name (page_at ps j) ≡ true → begins_by name (page_at ps i) ≡ true
  before_it [] s f i j h le e = absurd (omega arith)
  before_it ([] ∷ ps) s f i j h le e = let one = f.0 in absurd (omega arith)
  before_it ((x ∷ p) ∷ ps) s f zero zero h le e = e
  before_it ((x ∷ p) ∷ ps) s f zero (suc j) h le e = begins_at x p (page_at ps j) (below_page x.0 ps j (below_right name_cmp x.0 p (together ps) (first _ _ s))) e
  before_it ((x ∷ p) ∷ ps) s f (suc i) zero h le e = absurd (omega arith)
  before_it ((x ∷ p) ∷ ps) s f (suc i) (suc j) h le e = before_it ps (sorted_right name_cmp (x ∷ p) (together ps) s) f.1 i j (omega arith) (omega arith) e

  pub begin_before : (ps : List Page) → ArePages ps → (i j : ℕ) (d e : Page) → j < length ps → i ≤ j → begins_by name (get_or ps j e) ≡ true → begins_by name (get_or ps i d) ≡ true
  begin_before ps are i j d e h le is =
      ap (begins_by name) (get_or_default ps i d [] (omega arith))
      ∙ before_it ps (in_order _ are.ascends) (are_filled ps are) i j h le (ap (begins_by name) (get_or_default ps j [] e h) ∙ is)

  pub behind_it : (ps : List Page) → ArePages ps → (i j : ℕ) (d e : Page) → j < length ps → i ≤ j → begins_by name (get_or ps i e) ≡ false → begins_by name (get_or ps j d) ≡ false
  behind_it ps are i j d e h le is = elim (cases_Bool (begins_by name (get_or ps j d))) [
    | inl on ↦ absurd (false≢true (sym is ∙ begin_before ps are i j e d h le on))
    | inr off ↦ off
  ]

  pub count_is : (ps : List Page) (low : ℕ) → low ≤ length ps → AllWithin (λ page. begins_by name page ≡ true) ps 0 low → AllWithin (λ page. begins_by name page ≡ false) ps low (length ps)
      → length (filter (begins_by name) ps) ≡ low
  count_is [] zero h on off = refl
  count_is [] (suc low) h on off = absurd (omega arith)
  count_is (p ∷ ps) zero h on off =
      ap (λ b. length (cond b (p ∷ filter (begins_by name) ps) (filter (begins_by name) ps))) (off 0 p (omega arith) (omega arith))
      ∙ count_is ps zero (omega arith) (λ k d a b. absurd (omega arith)) (λ k d a b. off (suc k) d (omega arith) (omega arith))
  count_is (p ∷ ps) (suc low) h on off =
      ap (λ b. length (cond b (p ∷ filter (begins_by name) ps) (filter (begins_by name) ps))) (on 0 p (omega arith) (omega arith))
      ∙ ap suc (count_is ps low (omega arith) (λ k d a b. on (suc k) d (omega arith) (omega arith)) (λ k d a b. off (suc k) d (omega arith) (omega arith)))

-- there are no pages exactly where there is no link
pub no_links : (ps : List Page) → ArePages ps → ((length ps == 0) ≡ true → together ps ≡ []) × (together ps ≡ [] → (length ps == 0) ≡ true)
no_links ps are = by_pages ps (are_filled ps are)
  where
    by_pages : (qs : List Page) → Filled qs → ((length qs == 0) ≡ true → together qs ≡ []) × (together qs ≡ [] → (length qs == 0) ≡ true)
    by_pages [] f = ((λ h. refl), λ h. refl)
    by_pages ([] ∷ qs) f = let one = f.0 in absurd (omega arith)
    by_pages ((x ∷ q) ∷ qs) f = ((λ h. let none = eqb-true (length ((x ∷ q) ∷ qs)) 0 h in absurd (omega arith)), λ h. let e : length (x ∷ (q ++ together qs)) ≡ 0 = ap length h in absurd (omega arith))
