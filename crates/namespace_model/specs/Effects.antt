-- What a step does to the tree: paths that are taken away, nodes that are put, and at most one move, in this order. Each path is a
-- place before the move.
use Rattle.std.specs.Prelude.{ℕ, Bool, true, false, not, List, [], ◌∷◌, ◌++◌, length, drop, map, filter, Option, Some, None, if◌then◌else◌}
use Rattle.std.specs.FinMap as fin
use Rattle.path_text.specs.Paths.{is_prefix}
use Rattle.namespace_model.specs.Nodes.{Node}
use Rattle.namespace_model.specs.Trees.{Path, Tree}

-- a node, and whether it gets the number of the entry that puts it
pub record Put : Type 0 where
  pub node : Node
  pub stamped : Bool

-- the node that is put by the entry with this number
abbrev pub put_by : ℕ → Put → Node
put_by number put = if put.stamped then record put.node { number = number } else put.node

-- a node with the moment and the number of the entry that puts it
abbrev pub stamp : ℕ → Node → Put
stamp moment x = record { node = record x { moment = moment }; stamped = true }

-- a node with its own moment and number
abbrev pub keep : Node → Put
keep x = record { node = x; stamped = false }

pub record Effect : Type 0 where
  pub taken : List Path
  pub puts : List (Path × Put)
  -- from where, and to where
  pub move : Option (Path × Path)

abbrev pub nothing : Effect
nothing = record { taken = []; puts = []; move = None }

abbrev pub take_all : List Path → Tree → Tree
take_all [] t = t
take_all (p ∷ ps) t = take_all ps (fin.remove t p)

-- of two puts at one path the first one stands
abbrev pub put_all : ℕ → List (Path × Put) → Tree → Tree
put_all number [] t = t
put_all number (x ∷ xs) t = fin.insert (put_all number xs t) x.0 (put_by number x.1)

-- where a path stands once a is called b
abbrev pub moved : Path → Path → Path → Path
moved a b q = if is_prefix a q then b ++ drop (length a) q else q

-- What was at b and below it goes, what was at a and below it is at b and below it, and each other node stays.
abbrev pub renamed : Tree → Path → Path → Tree
renamed t a b =
    fin.from_entries (map (λ (e : Path × Node). (moved a b e.0, e.1)) (filter (λ (e : Path × Node). not (is_prefix b e.0)) (fin.entries t)))

abbrev pub moved_by : Option (Path × Path) → Tree → Tree
moved_by None t = t
moved_by (Some m) t = renamed t m.0 m.1

-- the tree after an effect of the entry with this number
abbrev pub effected : ℕ → Effect → Tree → Tree
effected number e t = moved_by e.move (put_all number e.puts (take_all e.taken t))
