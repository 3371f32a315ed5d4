-- How the effect of a step lies on the tree: what it touches is written.
use Rattle.std.specs.Prelude.{◌≡◌, ◌⊎◌, true, false, List, [], ◌++◌, map, Option, Some, None, IfSome, IsSome}
use Rattle.std.specs.FinMap.{find}
use Rattle.path_text.specs.Paths.{path_cmp, is_prefix}
use Rattle.path_text.specs.Texts.{KeepsLimits}
use Rattle.namespace_model.specs.Nodes.{Node, is_directory}
use Rattle.namespace_model.specs.Trees.{Path, Tree, at, parent, IsDirectoryAt}
use Rattle.namespace_model.specs.Effects.{Put, Effect}
use Rattle.namespace_model.specs.Outcomes.{Outcome}
use Rattle.namespace_model.specs.Locality.{Among}

-- the paths at which nodes are put
abbrev pub put_paths : Effect → List Path
put_paths e = map (λ (x : Path × Put). x.0) e.puts

-- the node that is put at a path, where one is
abbrev pub put_at : Path → Effect → Option Put
put_at p e = find path_cmp p e.puts

-- the source of a move, its parent, and the parent of its destination are written
pub record WritesMove (written : List Path) (m : Path × Path) : Type 0 where
  pub source : Among m.0 written
  pub out_of : Among (parent m.0) written
  pub into : Among (parent m.1) written

-- Each path that is taken away, put or new is written, and so is the parent of each path that is taken away, new, moved from or moved to.
pub record IsWritten (written fresh : List Path) (e : Effect) : Type 0 where
  pub taken_too : (p : Path) → Among p e.taken → Among p written
  pub put_too : (p : Path) → Among p (put_paths e) → Among p written
  pub fresh_too : (p : Path) → Among p fresh → Among p written
  pub above_taken : (p : Path) → Among p e.taken → Among (parent p) written
  pub above_fresh : (p : Path) → Among p fresh → Among (parent p) written
  pub moved : IfSome e.move (WritesMove written)

-- What stands below a path that is taken away is taken away too. A path that is put was there and isn't taken away, or is new. A new path
-- is put, and wasn't there or is taken away.
pub record IsPlaced (t : Tree) (fresh : List Path) (e : Effect) : Type 0 where
  pub taken_below : (p q : Path) → Among p e.taken → IsSome (at t (p ++ q)) → Among (p ++ q) e.taken
  pub put : (p : Path) → Among p (put_paths e) → (IsSome (at t p) × ¬ Among p e.taken) ⊎ Among p fresh
  pub fresh_put : (p : Path) → Among p fresh → Among p (put_paths e)
  pub fresh_free : (p : Path) → Among p fresh → (at t p ≡ None) ⊎ Among p e.taken

-- a directory is at the path, and stays
pub record IsKeptDirectory (t : Tree) (e : Effect) (p : Path) : Type 0 where
  pub there : IsDirectoryAt t p
  pub stays : ¬ Among p e.taken

-- a new directory is put at the path
pub record IsNewDirectory (e : Effect) (p : Path) : Type 0 where
  pub put : Put
  pub found : put_at p e ≡ Some put
  pub directory : is_directory put.node ≡ true

-- a put that stands for a node of the same kind
abbrev pub KeepsKind : Option Node → Put → Type 0
KeepsKind old put = IfSome old (λ x. is_directory put.node ≡ is_directory x)

-- The source of a move is there and stays, the destination is apart from it, free and in a directory that stays, and what is moved keeps the
-- limits of paths. With a move nothing is new.
pub record CanMove (t : Tree) (fresh : List Path) (e : Effect) (m : Path × Path) : Type 0 where
  pub there : IsSome (at t m.0)
  pub stays : ¬ Among m.0 e.taken
  pub source_apart : is_prefix m.0 m.1 ≡ false
  pub destination_apart : is_prefix m.1 m.0 ≡ false
  pub free : (at t m.1 ≡ None) ⊎ Among m.1 e.taken
  pub above : IsKeptDirectory t e (parent m.1)
  pub limits : (r : Path) → IsSome (at t (m.0 ++ r)) → KeepsLimits (m.1 ++ r)
  pub nothing_new : fresh ≡ []

-- A put keeps the kind of what it stands for, unless that is taken away. A new path keeps the limits, and is below a directory that stays or
-- that is new itself. The account is neither new nor taken away.
pub record IsGrowth (t : Tree) (fresh : List Path) (e : Effect) : Type 0 where
  pub kinds : (p : Path) (put : Put) → put_at p e ≡ Some put → ¬ Among p e.taken → KeepsKind (at t p) put
  pub limits : (p : Path) → Among p fresh → KeepsLimits p
  pub above : (p : Path) → Among p fresh → IsKeptDirectory t e (parent p) ⊎ IsNewDirectory e (parent p)
  pub account_old : ¬ Among [] fresh
  pub account_stays : ¬ Among [] e.taken
  pub moved : IfSome e.move (CanMove t fresh e)

-- the effect of a step is written, placed and grown as it has to be
pub record HasShape (t : Tree) (written fresh : List Path) (e : Effect) : Type 0 where
  pub writes : IsWritten written fresh e
  pub placed : IsPlaced t fresh e
  pub growth : IsGrowth t fresh e

abbrev pub IsShaped : Tree → Outcome → Type 0
IsShaped t o = HasShape t o.written o.fresh o.effect

-- the path is neither at or below the source of a move nor at or below its destination
abbrev pub IsOutside : Option (Path × Path) → Path → Type 0
IsOutside None q = Unit {0}
IsOutside (Some m) q = (is_prefix m.0 q ≡ false) × (is_prefix m.1 q ≡ false)

-- a path that is neither written nor new, and outside the move, keeps its node
abbrev pub KeepsOthers : Tree → Outcome → Tree → Type 0
KeepsOthers t o after = (q : Path) → ¬ Among q o.written → ¬ Among q o.fresh → IsOutside o.effect.move q → at after q ≡ at t q
