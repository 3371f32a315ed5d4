-- Pages followed by their tokens go through their list once.
use Rattle.std.proofs.Common.{◌≡◌, inl, inr, ℕ, zero, suc, ◌-◌, ◌≤◌, Bool, true, false, cond, ◌&&◌, nat_lt, List, [], ◌∷◌, ◌++◌, length, take, drop, slice_get, Option, Some, None, is_some, refl, ap, sym, subst, ◌∙◌, arith}
use Rattle.namespace_model.proofs.ClosedSteps.{once_among}
use Rattle.std.specs.declared.cmp.Ordering.{Ordering}
use Rattle.std.specs.declared.cmp.Ordering.TheVariants.{Less, Equal, Greater}
use Rattle.std.specs.Ordering.{is_gt, ordering_reverse}
use Rattle.std.specs.List.{filter}
use Rattle.std.proofs.lemmas.Bool.{false≢true}
use Rattle.std.proofs.lemmas.Bool.Decides.{nat_tests}
use Rattle.std.proofs.lemmas.List.{append-nil}
use Rattle.std.proofs.lemmas.Option.{same_Some}
use Rattle.path_text.specs.Paths.{path_cmp, path_cmp_total, is_prefix}
use Rattle.namespace_model.specs.Trees.{Path, Tree, keys_where, is_child}
use Rattle.namespace_model.specs.Pages.{page_of, above, is_above}
use Rattle.namespace_model.specs.Locality.{Among}
use Rattle.namespace_model.specs.ListFilesystems.{begins_with}
use Rattle.namespace_model.specs.ListPaths.{is_listed}
use Rattle.namespace_model.specs.PageRuns.{Course, of_filesystems, of_directory, of_batch, course_of, page_at, HaveSamePaths, IsFollowed, token_after, followed_paths}
use Rattle.namespace_model.proofs.Lookups.{keys_same}
use Rattle.namespace_model.proofs.PageOrder.{Before, before_trans, before_itself, Ascends, keys_ascend, among_filter, filter_among, filter_ascends, ascending_same, got_among, among_take}
use Rattle.namespace_model.specs.declared.op.BatchChange.{BatchChange}
use Rattle.namespace_model.specs.declared.op.Op.TheVariants as op
use Rattle.namespace_model.specs.declared.request.Entry.{Entry}
use Rattle.namespace_model.specs.Trees.{IsTree}
use Rattle.namespace_model.specs.Outcomes.{Outcome}
use Rattle.namespace_model.specs.SetAccessRecursive.{set_access_recursive, batch_below, batch_page, batch_of}
use Rattle.namespace_model.specs.Step.{outcome, acts}
use Rattle.namespace_model.proofs.Everywhere.{found_has}
use Rattle.namespace_model.proofs.ShapedMaking.{paths_of}
use Rattle.namespace_model.proofs.ShapedSteps.{changed_among}
use Rattle.namespace_model.proofs.ShapedEdits.{none_some}

-- ---- behind a token

greater_is : (o : Ordering) → is_gt o ≡ true → o ≡ Greater
greater_is Less e = absurd (false≢true e)
greater_is Equal e = absurd (false≢true e)
greater_is Greater e = refl

pub above_before : (token q : Path) → is_above token q ≡ true → Before token q
above_before token q e = path_cmp_total.antisymm token q ∙ ap ordering_reverse (greater_is (path_cmp q token) e)

pub before_above : (token q : Path) → Before token q → is_above token q ≡ true
before_above token q h = ap is_gt (path_cmp_total.antisymm q token ∙ ap ordering_reverse h)

-- what is left behind a token of what is behind an earlier one
pub above_ascends : (token : Option Path) (xs : List Path) → Ascends xs → Ascends (above token xs)
above_ascends None xs up = up
above_ascends (Some token) xs up = filter_ascends (is_above token) xs up

above_in : (token : Option Path) (q : Path) (xs : List Path) → Among q (above token xs) → Among q xs
above_in None q xs h = h
above_in (Some token) q xs h = (among_filter (is_above token) q xs h).1

in_above : (token : Option Path) (n q : Path) (xs : List Path) → Among n (above token xs) → Before n q → Among q xs → Among q (above token xs)
in_above None n q xs h b k = k
in_above (Some token) n q xs h b k =
    filter_among (is_above token) q xs (before_above token q (before_trans token n q (above_before token n (among_filter (is_above token) n xs h).0) b)) k

above_twice : (token : Option Path) (n : Path) (xs : List Path) → Ascends xs → Among n (above token xs) → above (Some n) xs ≡ filter (is_above n) (above token xs)
above_twice token n xs up there =
    ascending_same (filter (is_above n) xs) (filter (is_above n) (above token xs)) (filter_ascends (is_above n) xs up) (filter_ascends (is_above n) (above token xs) (above_ascends token xs up))
    (λ q. (
      λ h. let k = among_filter (is_above n) q xs h in filter_among (is_above n) q (above token xs) k.0 (in_above token n q xs there (above_before n q k.0) k.1),
      λ h. let k = among_filter (is_above n) q (above token xs) h in filter_among (is_above n) q xs k.0 (above_in token q xs k.1),
    ))

-- of an ascending list, what is behind one of its paths is what stands behind it
not_above_itself : (p q : Path) → (Before p q → ⊥) → is_above p q ≡ false
not_above_itself p q h = by_test (is_above p q) refl
  where
    by_test : (b : Bool) → is_above p q ≡ b → is_above p q ≡ false
    by_test true e = absurd (h (above_before p q e))
    by_test false e = e

all_above : (p : Path) (xs : List Path) → ((q : Path) → Among q xs → Before p q) → filter (is_above p) xs ≡ xs
all_above p [] h = refl
all_above p (x ∷ xs) h = ap (λ b. cond b (x ∷ filter (is_above p) xs) (filter (is_above p) xs)) (before_above p x (h x (inl refl))) ∙ ap (λ l. x ∷ l) (all_above p xs (λ q k. h q (inr k)))

behind_place : (k : ℕ) (n : Path) (xs : List Path) → Ascends xs → slice_get xs k ≡ Some n → filter (is_above n) xs ≡ drop (suc k) xs
behind_place k n [] up e = absurd (none_some n e)
behind_place zero n (x ∷ xs) up e =
    let here : x ≡ n = same_Some x n e in
    ap (λ b. cond b (x ∷ filter (is_above n) xs) (filter (is_above n) xs)) (not_above_itself n x (λ b. before_itself x (subst (λ p. Before p x) (sym here) b)))
    ∙ all_above n xs (λ q k. subst (λ p. Before p q) here (up.0 q k))
behind_place (suc k) n (x ∷ xs) up e =
    ap (λ b. cond b (x ∷ filter (is_above n) xs) (filter (is_above n) xs)) (not_above_itself n x (λ b. before_itself x (before_trans x n x (up.0 n (got_among k n xs e)) b)))
    ∙ behind_place k n xs up.1 e

-- ---- a page

got_taken : (m k : ℕ) (xs : List Path) (n : Path) → slice_get (take m xs) k ≡ Some n → slice_get xs k ≡ Some n
got_taken zero k xs n e = absurd (none_some n e)
got_taken (suc m) k [] n e = e
got_taken (suc m) zero (x ∷ xs) n e = e
got_taken (suc m) (suc k) (x ∷ xs) n e = got_taken m k xs n e

pub take_drop : (m : ℕ) (xs : List Path) → take m xs ++ drop m xs ≡ xs
take_drop zero xs = refl
take_drop (suc m) [] = refl
take_drop (suc m) (x ∷ xs) = ap (λ l. x ∷ l) (take_drop m xs)

whole_taken : (m : ℕ) (xs : List Path) → length xs ≤ m → take m xs ≡ xs
whole_taken m [] h = none_taken m
  where
    none_taken : (m : ℕ) → take {A = Path} m [] ≡ []
    none_taken zero = refl
    none_taken (suc m) = refl
whole_taken zero (x ∷ xs) h = absurd (let l : length (x ∷ xs) ≡ suc (length xs) = refl in omega arith)
whole_taken (suc m) (x ∷ xs) h = ap (λ l. x ∷ l) (whole_taken m xs (let l : length (x ∷ xs) ≡ suc (length xs) = refl in omega arith))

last_there : (m : ℕ) (xs : List Path) → suc m ≤ length xs → is_some (slice_get (take (suc m) xs) m) ≡ true
last_there m [] h = absurd (let l : length (nil) ≡ 0 = refl in omega arith)
  where
    nil : List Path
    nil = []
last_there zero (x ∷ xs) h = refl
last_there (suc m) (x ∷ xs) h = last_there m xs (let l : length (x ∷ xs) ≡ suc (length xs) = refl in omega arith)

-- a page without a token has all that is left
page_is_last : (m : ℕ) (xs : List Path) → (page_of (suc m) xs).next ≡ None → (page_of (suc m) xs).paths ≡ xs
page_is_last m xs e = by_test (nat_lt (suc m) (length xs)) refl
  where
    place : suc m - 1 ≡ m
    place = omega arith

    at_most : nat_lt (suc m) (length xs) ≡ false → length xs ≤ suc m
    at_most k = grind (arith, nat_tests)

    more : nat_lt (suc m) (length xs) ≡ true → suc m ≤ length xs
    more k = grind (arith, nat_tests)

    by_test : (b : Bool) → nat_lt (suc m) (length xs) ≡ b → take (suc m) xs ≡ xs
    by_test true k =
        absurd (false≢true (sym (ap is_some (sym (ap (λ b. cond b (slice_get (take (suc m) xs) (suc m - 1)) None) k) ∙ e)) ∙ ap (λ i. is_some (slice_get (take (suc m) xs) i)) place ∙ last_there m xs (more k)))
    by_test false k = whole_taken (suc m) xs (at_most k)

-- what is behind a page's token is what is left
page_goes_on : (m : ℕ) (xs : List Path) (n : Path) → Ascends xs → (page_of (suc m) xs).next ≡ Some n → (slice_get xs m ≡ Some n) × (filter (is_above n) xs ≡ drop (suc m) xs)
page_goes_on m xs n up e = by_test (nat_lt (suc m) (length xs)) refl
  where
    place : suc m - 1 ≡ m
    place = omega arith

    by_test : (b : Bool) → nat_lt (suc m) (length xs) ≡ b → (slice_get xs m ≡ Some n) × (filter (is_above n) xs ≡ drop (suc m) xs)
    by_test true k =
        let got = got_taken (suc m) m xs n (sym (ap (λ i. slice_get (take (suc m) xs) i) place) ∙ sym (ap (λ b. cond b (slice_get (take (suc m) xs) (suc m - 1)) None) k) ∙ e) in
        (got, behind_place m n xs up got)
    by_test false k = absurd (none_some n (sym (ap (λ b. cond b (slice_get (take (suc m) xs) (suc m - 1)) None) k) ∙ e))

-- ---- courses

course_test : Course → Path → Bool
course_test (of_filesystems prefix) q = is_child [] q && begins_with prefix q
course_test (of_directory dir recursive) q = is_listed recursive dir q
course_test (of_batch p) q = is_prefix p q

course_keys : (course : Course) (t : Tree) → course_of course t ≡ keys_where t (course_test course)
unfolding course_test
course_keys (of_filesystems prefix) t = refl
course_keys (of_directory dir recursive) t = refl
course_keys (of_batch p) t = refl

pub course_ascends : (course : Course) (t : Tree) → Ascends (course_of course t)
course_ascends course t = subst Ascends (sym (course_keys course t)) (keys_ascend t (course_test course))

-- where no path comes or goes a course is the same
pub course_same : (course : Course) (t u : Tree) → HaveSamePaths t u → course_of course t ≡ course_of course u
course_same course t u same = course_keys course t ∙ keys_same t u (course_test course) (λ q e. same q) ∙ sym (course_keys course u)

pub followed_covers : (course : Course) (m : ℕ) (token : Option Path) (t : Tree) (ts : List Tree) → IsFollowed course (suc m) token (t ∷ ts) → followed_paths course (suc m) token (t ∷ ts) ≡ above token (course_of course t)
followed_covers course m token t [] h = append-nil (take (suc m) (above token (course_of course t))) ∙ page_is_last m (above token (course_of course t)) h
followed_covers course m token t (u ∷ ts) h =
    let up = above_ascends token (course_of course t) (course_ascends course t) in
    let goes = page_goes_on m (above token (course_of course t)) h.0 up h.1 in
    let rest : above (Some h.0) (course_of course u) ≡ drop (suc m) (above token (course_of course t)) =
    ap (above (Some h.0)) (sym (course_same course t u h.2)) ∙ above_twice token h.0 (course_of course t) (course_ascends course t) (got_among m h.0 (above token (course_of course t)) goes.0) ∙ goes.1 in
    ap (λ next. take (suc m) (above token (course_of course t)) ++ followed_paths course (suc m) (token_after token next) (u ∷ ts)) h.1
    ∙ ap (λ l. take (suc m) (above token (course_of course t)) ++ l) (followed_covers course m (Some h.0) u ts h.3 ∙ rest)
    ∙ take_drop (suc m) (above token (course_of course t))

-- each path of a page is behind its token
pub page_is_above : (course : Course) (max : ℕ) (token : Path) (t : Tree) (q : Path) → Among q (page_at course max (Some token) t).paths → path_cmp token q ≡ Less
page_is_above course max token t q h =
    above_before token q (among_filter (is_above token) q (course_of course t) (among_take max q (above (Some token) (course_of course t)) h)).0

-- ---- what a batch changes

changed_above : (t : Tree) (is : IsTree t) (e : Entry) (p : Path) (change : BatchChange) (token : Path) (max : ℕ) (force : Bool) (q : Path)
    → Among q (paths_of (batch_of t e change force (batch_page t p (Some token) max).paths).changed) → path_cmp token q ≡ Less
changed_above t is e p change token max force q h = page_is_above (of_batch p) max token t q (changed_among t is e change force (batch_page t p (Some token) max).paths q h)

WritesAbove : Path → Outcome → Type 0
WritesAbove token o = (q : Path) → Among q o.written → path_cmp token q ≡ Less

batch_writes_above : (t : Tree) → IsTree t → (e : Entry) (p : Path) (change : BatchChange) (token : Path) (max : ℕ) (force : Bool) → WritesAbove token (set_access_recursive t e p change (Some token) max force)
unfolding set_access_recursive WritesAbove
batch_writes_above t is e p change token max force =
    found_has (λ o. (q : Path) → Among q o.written → path_cmp token q ≡ Less) (λ reply q h. absurd h) (λ ps o h. h) t e p (batch_below t e p change (Some token) force (batch_page t p (Some token) max)) is.root
    (λ x there q h. changed_above t is e p change token max force q h)

-- each path that a batch writes is behind its token
pub batches_write_above : (t : Tree) → IsTree t → (e : Entry) (p : Path) (change : BatchChange) (token : Path) (max : ℕ) (force : Bool) → e.request.op ≡ op.SetAccessRecursive p change (Some token) max force
    → (q : Path) → Among q (outcome t e).written → path_cmp token q ≡ Less
unfolding outcome WritesAbove
batches_write_above t is e p change token max force asked q h =
    batch_writes_above t is e p change token max force q (subst (λ o. Among q (acts t e o).written) asked ((once_among q (acts t e e.request.op).written).1 h))
