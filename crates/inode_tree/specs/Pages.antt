-- The children of a directory in pages: where a name is at home, and what an edit makes of the pages.
use Rattle.std.specs.Prelude.{ℕ, suc, ◌+◌, ◌-◌, ◌<◌, ◌≤◌, Bool, false, not, ◌&&◌, nat_le, nat_lt, ◌==◌, List, [], ◌∷◌, ◌++◌, length, get_or, take, drop, if◌then◌else◌}
use Rattle.std.specs.List.{filter}
use Rattle.std.specs.Ordering.{is_lt}
use Rattle.std.specs.FinMap.{put}
use Rattle.std.specs.FinMap.Entries.{where_key}
use Rattle.inode_tree.specs.Ascending.{differs}
use Rattle.inode_tree.specs.ChildLists.{name_cmp, AscendsByName}

-- names with ids
abbrev pub Page : Type 0
Page = List (List ℕ × ℕ)

-- what the pages have, one behind the other
abbrev pub together : List Page → Page
together [] = []
together (page ∷ pages) = page ++ together pages

-- the page at a place; where there is none, the empty one
abbrev pub page_at : List Page → ℕ → Page
page_at pages k = get_or pages k []

-- Names ascend over all pages. Each page has 1 to 256 names, and two that follow each other have over 128 together.
pub record ArePages (pages : List Page) : Type 0 where
  pub ascends : AscendsByName (together pages)
  pub sizes : (k : ℕ) → k < length pages → (1 ≤ length (page_at pages k)) × (length (page_at pages k) ≤ 256)
  pub full : (k : ℕ) → suc k < length pages → 128 < length (page_at pages k) + length (page_at pages (suc k))

-- the first name of a page isn't greater than a name
abbrev pub begins_by : List ℕ → Page → Bool
begins_by name [] = false
begins_by name (link ∷ page) = not (is_lt (name_cmp name link.0))

-- the place of the last page whose first name isn't greater; where there is none, the first place
abbrev pub home : List ℕ → List Page → ℕ
home name pages = length (filter (begins_by name) pages) - 1

-- from a place on, so many pages give way to others
abbrev pub replaced : List Page → ℕ → ℕ → List Page → List Page
replaced pages k count others = take k pages ++ (others ++ drop (k + count) pages)

-- ---- a name more

-- a page of over 256 names becomes two: the first 128 names, and the rest
abbrev pub cut : Page → List Page
cut page = if nat_le (length page) 256 then page ∷ [] else take 128 page ∷ drop 128 page ∷ []

-- a name is put into the page at its home; the first name makes the first page
abbrev pub with_link : List ℕ → ℕ → List Page → List Page
with_link name id pages = replaced pages (home name pages) 1 (cut (put name_cmp name id (page_at pages (home name pages))))

-- ---- a name less

-- two pages have at most 128 names together
abbrev pub are_few : Page → Page → Bool
are_few a b = nat_le (length a + length b) 128

-- a page has few names together with the page behind a place, and with the page before it
abbrev pub joins_next : List Page → ℕ → Page → Bool
joins_next pages k page = nat_lt (suc k) (length pages) && are_few page (page_at pages (suc k))

abbrev pub joins_before : List Page → ℕ → Page → Bool
joins_before pages k page = nat_lt 0 k && are_few (page_at pages (k - 1)) page

-- A page at a place that has become this one: it goes where it is empty, else it is joined with its successor where both have at most 128
-- names, else with its predecessor where these have.
abbrev pub settled : List Page → ℕ → Page → List Page
settled pages k page =
    if length page == 0 then replaced pages k 1 []
    else if joins_next pages k page then replaced pages k 2 ((page ++ page_at pages (suc k)) ∷ [])
    else if joins_before pages k page then replaced pages (k - 1) 2 ((page_at pages (k - 1) ++ page) ∷ [])
    else replaced pages k 1 (page ∷ [])

-- a name is taken out of the page at its home
abbrev pub without_link : List ℕ → List Page → List Page
without_link name pages = settled pages (home name pages) (where_key name_cmp (differs name_cmp name) (page_at pages (home name pages)))
