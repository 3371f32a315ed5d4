-- Pages of a list of paths that ascends.
use Rattle.std.specs.Prelude.{ℕ, ◌-◌, Bool, ◌&&◌, List, [], take, length, nat_lt, slice_get, Option, Some, None, if◌then◌else◌}
use Rattle.std.specs.List.{filter}
use Rattle.std.specs.Ordering.{is_gt}
use Rattle.path_text.specs.Paths.{path_cmp, is_prefix}
use Rattle.namespace_model.specs.Trees.{Path, Tree, keys_where}

-- a path that stands behind the token in path order
abbrev pub is_above : Path → Path → Bool
is_above token q = is_gt (path_cmp q token)

-- what of a list stands behind the token; all of it without one
abbrev pub above : Option Path → List Path → List Path
above None list = list
above (Some token) list = filter (is_above token) list

-- the paths of a page, and the token by which it goes on, where more are left
pub record Page : Type 0 where
  pub paths : List Path
  pub next : Option Path

-- the first paths of a list, at most so many; its token is the last of them
abbrev pub page_of : ℕ → List Path → Page
page_of max list = record {
  paths = take max list;
  next = if nat_lt max (length list) then slice_get (take max list) (max - 1) else None;
}

-- the paths that are there, pass a test, and are a front of the token or the token itself
abbrev pub on_the_way : Tree → (Path → Bool) → Option Path → List Path
on_the_way t test None = []
on_the_way t test (Some token) = keys_where t (λ q. test q && is_prefix q token)
