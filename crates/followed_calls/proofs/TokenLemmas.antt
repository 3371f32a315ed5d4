-- The token that a reply tells is the token of the page.
use Rattle.std.proofs.Common.{◌≡◌, ℕ, ◌-◌, ◌≤◌, ◌==◌, Bool, true, false, cond, nat_lt, List, [], ◌∷◌, length, take, slice_get, Option, Some, None, is_some, option_map, refl, ap, sym, ◌∙◌, arith}
use Rattle.std.proofs.lemmas.Bool.{false≢true}
use Rattle.std.proofs.lemmas.Option.{same_Some}
use Rattle.path_text.specs.Paths.{is_prefix}
use Rattle.path_text.specs.Tokens.{is_on_page, token_path, token_text}
use Rattle.path_text.proofs.TokenLemmas.{token_is_read}
use Rattle.namespace_model.specs.declared.reply.Reply.{Reply}
use Rattle.namespace_model.specs.ListFilesystems.{begins_with}
use Rattle.namespace_model.specs.Locality.{Among}
use Rattle.namespace_model.specs.PageRuns.{Course, of_filesystems, of_directory, of_batch, course_of, page_at}
use Rattle.namespace_model.specs.Pages.{page_of, above, is_above}
use Rattle.namespace_model.specs.Replies.{page_fields}
use Rattle.namespace_model.specs.Step.{closing}
use Rattle.namespace_model.specs.Trees.{Path, Tree, at, is_child, IsTree}
use Rattle.namespace_model.proofs.Lookups.{keys_among}
use Rattle.namespace_model.proofs.PageOrder.{among_filter, among_take, got_among}
use Rattle.namespace_model.proofs.Prefixes.{behind_front, both, same_bytes}
use Rattle.followed_calls.specs.Calls.{filesystem_in}
use Rattle.followed_calls.specs.Told.{token_line}

-- ---- lines

pub line_of_page : (fs : Option (List ℕ)) (next : Option Path) → token_line (page_fields fs next) ≡ option_map (token_text fs) next
line_of_page fs None = refl
line_of_page fs (Some next) = refl

pub line_with_close : (close : Bool) (reply : Reply) → token_line (closing close reply).fields ≡ token_line reply.fields
line_with_close true reply = refl
line_with_close false reply = refl

pub code_with_close : (close : Bool) (reply : Reply) → (closing close reply).code ≡ reply.code
code_with_close true reply = refl
code_with_close false reply = refl

pub body_with_close : (close : Bool) (reply : Reply) → (closing close reply).body ≡ reply.body
body_with_close true reply = refl
body_with_close false reply = refl

-- ---- a page's token is a path of its course

pub above_among : (token : Option Path) (q : Path) (xs : List Path) → Among q (above token xs) → Among q xs
above_among None q xs h = h
above_among (Some token) q xs h = (among_filter (is_above token) q xs h).1

next_among : (max : ℕ) (xs : List Path) (n : Path) → (page_of max xs).next ≡ Some n → Among n xs
next_among max xs n e = by_test (nat_lt max (length xs)) e
  where
    by_test : (b : Bool) → cond b (slice_get (take max xs) (max - 1)) None ≡ Some n → Among n xs
    by_test true h = among_take max n xs (got_among (max - 1) n (take max xs) h)
    by_test false h = absurd (false≢true (ap is_some h))

-- ---- it is read back

-- what a sound request keeps of its course: only filesystems are listed of the account
abbrev pub IsInAccount : Course → Type 0
IsInAccount (of_filesystems prefix) = Unit {0}
IsInAccount (of_directory dir recursive) = 1 ≤ length dir
IsInAccount (of_batch p) = 1 ≤ length p

page_below : (dir q : Path) → 1 ≤ length dir → is_prefix dir q ≡ true → is_on_page (slice_get dir 0) q ≡ true
page_below [] q some h = absurd (let l : length (nil) ≡ 0 = refl in omega arith)
  where
    nil : Path
    nil = []
page_below (fs ∷ names) q some h =
    let rest = behind_front (fs ∷ names) q h in
    ap (is_on_page (Some fs)) rest.1 ∙ same_bytes fs

on_page : (course : Course) (t : Tree) (q : Path) → IsInAccount course → Among q (course_of course t) → is_on_page (filesystem_in course) q ≡ true
on_page (of_filesystems prefix) t q some h = (both (is_prefix [] q) (length q == 1) (both (is_child [] q) (begins_with prefix q) (keys_among t _ q h).0).0).1
on_page (of_directory dir true) t q some h = page_below dir q some (both _ _ (keys_among t _ q h).0).0
on_page (of_directory dir false) t q some h = page_below dir q some (both _ _ (keys_among t _ q h).0).0
on_page (of_batch p) t q some h = page_below p q some (keys_among t _ q h).0

stands_there : (course : Course) (t : Tree) (q : Path) → Among q (course_of course t) → is_some (at t q) ≡ true
stands_there (of_filesystems prefix) t q h = (keys_among t _ q h).1
stands_there (of_directory dir recursive) t q h = (keys_among t _ q h).1
stands_there (of_batch p) t q h = (keys_among t _ q h).1

-- the path that is read of a page's line is the page's token
pub read_of_line : (course : Course) (max : ℕ) (token : Option Path) (t : Tree) (text : List ℕ) (next : Path) → IsTree t → IsInAccount course
    → option_map (token_text (filesystem_in course)) (page_at course max token t).next ≡ Some text → token_path (filesystem_in course) text ≡ Some next
    → (page_at course max token t).next ≡ Some next
read_of_line course max token t text next is some line read = by_next (page_at course max token t).next refl line
  where
    fs : Option (List ℕ)
    fs = filesystem_in course

    by_next : (o : Option Path) → (page_at course max token t).next ≡ o → option_map (token_text fs) o ≡ Some text → o ≡ Some next
    by_next None e h = absurd (false≢true (ap is_some h))
    by_next (Some n) e h =
        let there = above_among token n (course_of course t) (next_among max (above token (course_of course t)) n e) in
        sym (token_is_read fs text n (record {
          limits = is.limits n (stands_there course t n there);
          page = on_page course t n some there;
          spelled = sym (same_Some (token_text fs n) text h);
        })) ∙ read

-- a page whose reply has no such line has no token
pub no_line : (fs : Option (List ℕ)) (o : Option Path) → option_map (token_text fs) o ≡ None → o ≡ None
no_line fs None e = refl
no_line fs (Some n) e = absurd (false≢true (sym (ap is_some e)))
