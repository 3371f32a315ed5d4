-- The way: how its end lies on the tree, and what is read of its last directory.
use Rattle.std.proofs.Common.{◌≡◌, inl, inr, ℕ, Bool, true, false, cond, List, [], ◌∷◌, ◌++◌, Option, Some, None, unwrap_or, Result, Ok, Err, refl, ap, sym, subst, append_assoc, append-nil}
use Rattle.namespace_model.specs.declared.caller.Caller.{Caller}
use Rattle.namespace_model.specs.declared.denied.Refusal.{Refusal}
use Rattle.namespace_model.specs.Nodes.{Node, is_directory, blank}
use Rattle.namespace_model.specs.Outcomes.{Outcome, reading}
use Rattle.namespace_model.specs.Trees.{Path, Tree, at, node_at, IsDirectory, IsDirectoryAt}
use Rattle.namespace_model.specs.Ways.{Way, reached, missing, blocked, closed, may_enter, passed, met, way_from, behind, seen, read_from}
use Rattle.namespace_model.specs.Locality.{Among}

-- to read these, and then those, is to read both
pub reading_both : (ps qs : List Path) (o : Outcome) → reading ps (reading qs o) ≡ reading (ps ++ qs) o
reading_both ps qs o = ap (λ (l : List Path). record o { read = l }) (sym (append_assoc ps qs o.read))

-- a directory that is there is the node that is handed on
pub directory_there : (t : Tree) (d : Path) → IsDirectoryAt t d → at t d ≡ Some (node_at t d)
directory_there t d here = by_node (at t d) here
  where
    by_node : (o : Option Node) → IsDirectory o → o ≡ Some (unwrap_or o blank)
    by_node None h = absurd h
    by_node (Some x) h = refl

-- ---- how a way ends

-- where the account is a directory that is there, so is this one
abbrev pub IsPassed : Tree → Path → Type 0
IsPassed t d = IsDirectoryAt t [] → IsDirectoryAt t d

-- a name is missing below a directory that is there
pub record IsMissing (t : Tree) (whole d : Path) : Type 0 where
  pub name : List ℕ
  pub rest : Path
  pub whole_is : whole ≡ d ++ name ∷ rest
  pub directory : IsPassed t d
  pub none : at t (d ++ name ∷ []) ≡ None

-- a directory on the way, which is not the account, doesn't let the caller through
pub record IsShut (t : Tree) (caller : Caller) (whole p : Path) (r : Refusal) : Type 0 where
  pub node : Node
  pub there : at t p ≡ Some node
  pub directory : is_directory node ≡ true
  pub denies : may_enter caller node ≡ Err r
  pub above : Path
  pub name : List ℕ
  pub place : p ≡ above ++ name ∷ []
  pub rest : Path
  pub whole_is : whole ≡ p ++ rest

-- what the end of a way along these names says of the tree
abbrev pub IsEndOf : Tree → Caller → Path → Way → Type 0
IsEndOf t caller whole reached = IsPassed t whole
IsEndOf t caller whole (missing d) = IsMissing t whole d
IsEndOf t caller whole (blocked p) = Unit {0}
IsEndOf t caller whole (closed p r) = IsShut t caller whole p r

module _ (t : Tree) (caller : Caller) where
  same_end : (one other : Path) → one ≡ other → (w : Way) → IsEndOf t caller one w → IsEndOf t caller other w
  same_end one other e w h = subst (λ q. IsEndOf t caller q w) e h

  met_ends : (done : Path) (n : List ℕ) (names : Path) (w : Way) → IsPassed t done → (IsPassed t (done ++ n ∷ []) → IsEndOf t caller ((done ++ n ∷ []) ++ names) w)
      → (u : Option Node) → at t (done ++ n ∷ []) ≡ u → IsEndOf t caller (done ++ n ∷ names) (met caller done (done ++ n ∷ []) u w)
  met_ends done n names w here on None is = record { name = n; rest = names; whole_is = refl; directory = here; none = is }
  met_ends done n names w here on (Some x) is = by_kind (is_directory x) refl
    where
      whole : (done ++ n ∷ []) ++ names ≡ done ++ n ∷ names
      whole = append_assoc done (n ∷ []) names

      by_check : is_directory x ≡ true → (c : Result Unit Refusal) → may_enter caller x ≡ c → IsEndOf t caller (done ++ n ∷ names) (passed (done ++ n ∷ []) c w)
      by_check dir (Ok allowed) says = same_end _ _ whole w (on (λ root. subst IsDirectory (sym is) dir))
      by_check dir (Err r) says = record { node = x; there = is; directory = dir; denies = says; above = done; name = n; place = refl; rest = names; whole_is = sym whole }

      by_kind : (d : Bool) → is_directory x ≡ d → IsEndOf t caller (done ++ n ∷ names) (cond d (passed (done ++ n ∷ []) (may_enter caller x) w) (blocked (done ++ n ∷ [])))
      by_kind true dir = by_check dir (may_enter caller x) refl
      by_kind false dir = tt

  -- the way from a directory
  pub way_ends : (done names : Path) → IsPassed t done → IsEndOf t caller (done ++ names) (way_from t caller done names)
  way_ends done [] here = subst (λ q. IsPassed t q) (sym (append-nil done)) here
  way_ends done (n ∷ names) here =
      met_ends done n names (way_from t caller (done ++ n ∷ []) names) here (λ there. way_ends (done ++ n ∷ []) names there) (at t (done ++ n ∷ [])) refl

-- ---- the last directory is read

-- the last directory of a way is among these paths
abbrev pub IsReadBy : List Path → Path → Way → Type 0
IsReadBy ps whole reached = Among whole ps
IsReadBy ps whole (missing d) = Among d ps
IsReadBy ps whole (blocked p) = Unit {0}
IsReadBy ps whole (closed p r) = Unit {0}

module _ (t : Tree) (caller : Caller) where
  more_read : (ps qs : List Path) (whole : Path) (w : Way) → ((q : Path) → Among q ps → Among q qs) → IsReadBy ps whole w → IsReadBy qs whole w
  more_read ps qs whole reached more h = more whole h
  more_read ps qs whole (missing d) more h = more d h
  more_read ps qs whole (blocked p) more h = tt
  more_read ps qs whole (closed p r) more h = tt

  met_read : (done : Path) (n : List ℕ) (names : Path) (w : Way) (rest : List Path) → IsReadBy ((done ++ n ∷ []) ∷ rest) ((done ++ n ∷ []) ++ names) w
      → (u : Option Node) → IsReadBy (done ∷ seen caller (done ++ n ∷ []) u rest) (done ++ n ∷ names) (met caller done (done ++ n ∷ []) u w)
  met_read done n names w rest on None = inl refl
  met_read done n names w rest on (Some x) = by_kind (is_directory x)
    where
      by_check : (c : Result Unit Refusal) → IsReadBy (done ∷ (done ++ n ∷ []) ∷ behind c rest) (done ++ n ∷ names) (passed (done ++ n ∷ []) c w)
      by_check (Ok allowed) =
          more_read ((done ++ n ∷ []) ∷ rest) (done ∷ (done ++ n ∷ []) ∷ rest) (done ++ n ∷ names) w (λ q k. inr k)
          (subst (λ q. IsReadBy ((done ++ n ∷ []) ∷ rest) q w) (append_assoc done (n ∷ []) names) on)
      by_check (Err r) = tt

      by_kind : (d : Bool) → IsReadBy (done ∷ (done ++ n ∷ []) ∷ cond d (behind (may_enter caller x) rest) []) (done ++ n ∷ names) (cond d (passed (done ++ n ∷ []) (may_enter caller x) w) (blocked (done ++ n ∷ [])))
      by_kind true = by_check (may_enter caller x)
      by_kind false = tt

  pub base_read : (done names : Path) → IsReadBy (done ∷ read_from t caller done names) (done ++ names) (way_from t caller done names)
  base_read done [] = inl (append-nil done)
  base_read done (n ∷ names) =
      met_read done n names (way_from t caller (done ++ n ∷ []) names) (read_from t caller (done ++ n ∷ []) names) (base_read (done ++ n ∷ []) names) (at t (done ++ n ∷ []))
