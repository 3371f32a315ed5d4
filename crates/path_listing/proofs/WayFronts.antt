-- The nodes on the way to a token are those of its fronts, each of one name more.
use Rattle.std.proofs.Common.{◌≡◌, inl, inr, ℕ, suc, ◌+◌, ◌<◌, ◌≤◌, true, List, [], ◌∷◌, ◌++◌, length, take, Option, Some, None, is_some, refl, sym, ap, subst, ◌∙◌, append_assoc, append-nil, length-append, arith}
use Rattle.std.proofs.lemmas.Bool.{cases_Bool}
use Rattle.std.proofs.Math.Logic.{∥∥₁_elim}
use Rattle.std.specs.Coded.{le_prop}
use Rattle.path_text.specs.Paths.{is_prefix}
use Rattle.namespace_model.specs.declared.caller.Caller.{Caller}
use Rattle.namespace_model.specs.ListPaths.{is_closed}
use Rattle.namespace_model.specs.Locality.{Among}
use Rattle.namespace_model.specs.Pages.{on_the_way}
use Rattle.namespace_model.specs.Refusals.{or_else, first_refusal}
use Rattle.namespace_model.specs.Trees.{Path, Tree, at, is_below}
use Rattle.namespace_model.proofs.Prefixes.{behind_front}
use Rattle.inode_tree.specs.Inodes.{node_of}
use Rattle.inode_tree.specs.Parts.{Parts}
use Rattle.inode_tree.specs.Stands.{Stands}
use Rattle.inode_tree.specs.Views.{Shown, Agreeing}
use Rattle.path_order.specs.declared.cursor.Seen.{Seen}
use Rattle.path_order.specs.PagesBelow.{AreNodesOf}
use Rattle.path_order.proofs.WayLemmas.{fronts, LeadNowhere, way_is}
use Rattle.path_order.proofs.TokenLemmas.{nothing_way}
use Rattle.path_listing.specs.Listed.{way_closed, IsWayWithin}
use Rattle.path_listing.proofs.RowLemmas.{node_shown}

-- the fronts of a path from one name more than so many on, one for each node
abbrev pub fronts_of : Path → ℕ → List Seen → List Path
fronts_of token names [] = []
fronts_of token names (s ∷ way) = take (suc names) token ∷ fronts_of token (suc names) way

-- what of the names is there, and the rest
record IsSplit (t : Tree) (p names : Path) : Type 0 where
  front : Path
  rest : Path
  split : names ≡ front ++ rest
  there : (q : Path) → Among q (fronts p front) → is_some (at t q) ≡ true
  nowhere : LeadNowhere t (p ++ front) rest

names_split : (t : Tree) (p names : Path) → IsSplit t p names
names_split t p [] = record { front = []; rest = []; split = refl; there = λ q h. absurd h; nowhere = tt }
names_split t p (n ∷ names) = elim (cases_Bool (is_some (at t (p ++ n ∷ [])))) [
  | inl e ↦
      let more = names_split t (p ++ n ∷ []) names in
      record {
        front = n ∷ more.front;
        rest = more.rest;
        split = ap (λ l. n ∷ l) more.split;
        there = λ q h. elim h [ inl same ↦ ap (λ k. is_some (at t k)) same ∙ e | inr k ↦ more.there q k ];
        nowhere = subst (λ q. LeadNowhere t q more.rest) (append_assoc p (n ∷ []) more.front) more.nowhere;
      }
  | inr e ↦ record {
    front = [];
    rest = n ∷ names;
    split = refl;
    there = λ q h. absurd h;
    nowhere = ap (λ q. is_some (at t (q ++ n ∷ []))) (append-nil p) ∙ e;
  }
]

take_more : (p : Path) (n : List ℕ) (x : Path) → take (suc (length p)) (p ++ n ∷ x) ≡ p ++ n ∷ []
take_more [] n x = refl
take_more (m ∷ p) n x = ap (λ l. m ∷ l) (take_more p n x)

-- the fronts that are there are those of the whole path, as many as there are nodes
same_fronts : (parts : Parts) (t : Tree) (p front rest : Path) (way : List Seen) → AreNodesOf parts t (fronts p front) way
    → (fronts p front ≡ fronts_of (p ++ (front ++ rest)) (length p) way) × (length way ≡ length front)
same_fronts parts t p [] rest [] are = (refl, refl)
same_fronts parts t p [] rest (s ∷ way) are = absurd are
same_fronts parts t p (n ∷ front) rest [] are = absurd are
same_fronts parts t p (n ∷ front) rest (s ∷ way) are =
    let more = same_fronts parts t (p ++ n ∷ []) front rest way are.1 in (
      ap (λ q. q ∷ fronts (p ++ n ∷ []) front) (sym (take_more p n (front ++ rest)))
          ∙ ap (λ l. take (suc (length p)) (p ++ n ∷ (front ++ rest)) ∷ l)
          (more.0 ∙ ap (λ q. fronts_of q (length (p ++ n ∷ [])) way) (append_assoc p (n ∷ []) (front ++ rest))
          ∙ ap (λ k. fronts_of (p ++ n ∷ (front ++ rest)) k way) (length-append p (n ∷ []) ∙ (let h : length p + 1 ≡ suc (length p) = omega arith in h))),
      ap suc more.1,
    )

-- the way of a page: its paths, and that there are no more of them than names
record IsWay (t : Tree) (dir token : Path) (way : List Seen) : Type 0 where
  paths : on_the_way t (is_below dir) (Some token) ≡ fronts_of token (length dir) way
  within : (k : ℕ) → k < length way → length dir + suc k ≤ length token

way_of_nodes : (parts : Parts) (t : Tree) → Stands parts t → (dir token : Path) (way : List Seen) → AreNodesOf parts t (on_the_way t (is_below dir) (Some token)) way → IsWay t dir token way
way_of_nodes parts t stands dir token way are = elim (cases_Bool (is_prefix dir token)) [
  | inl front ↦ let behind = behind_front dir token front in subst (λ k. IsWay t dir k way) (sym behind.1) (below behind.0 (subst (λ k. AreNodesOf parts t (on_the_way t (is_below dir) (Some k)) way) behind.1 are))
  | inr apart ↦ let none = nothing_way t dir token apart in elsewhere none way (subst (λ l. AreNodesOf parts t l way) none are)
]
  where
    below : (names : Path) → AreNodesOf parts t (on_the_way t (is_below dir) (Some (dir ++ names))) way → IsWay t dir (dir ++ names) way
    below names nodes =
        let s = names_split t dir names in
        let is = way_is t stands.tree.parents dir names s.front s.rest s.split s.there s.nowhere in
        let same = same_fronts parts t dir s.front s.rest way (subst (λ l. AreNodesOf parts t l way) is nodes) in
        record {
          paths = is ∙ same.0 ∙ ap (λ l. fronts_of (dir ++ l) (length dir) way) (sym s.split);
          within = λ k less.
              let a : length way ≡ length s.front = same.1 in
              let b : length names ≡ length s.front + length s.rest = ap (λ (l : Path). length l) s.split ∙ length-append s.front s.rest in
              let c : length (dir ++ names) ≡ length dir + length names = length-append dir names in
              omega arith;
        }

    elsewhere : on_the_way t (is_below dir) (Some token) ≡ [] → (way : List Seen) → AreNodesOf parts t [] way → IsWay t dir token way
    elsewhere none [] nodes = record { paths = none; within = λ k less. absurd (let h : length {A = Seen} [] ≡ 0 = refl in omega arith) }
    elsewhere none (s ∷ way) nodes = absurd nodes

pub way_paths : (parts : Parts) (t : Tree) → Stands parts t → (dir token : Path) (way : List Seen) → AreNodesOf parts t (on_the_way t (is_below dir) (Some token)) way
    → on_the_way t (is_below dir) (Some token) ≡ fronts_of token (length dir) way
way_paths parts t stands dir token way are = (way_of_nodes parts t stands dir token way are).paths

-- what is asked of them
way_asked : (caller : Caller) (parts : Parts) (t : Tree) (token : Path) (names : ℕ) (way : List Seen) → AreNodesOf parts t (fronts_of token names way) way
    → first_refusal (is_closed caller) t (fronts_of token names way) ≡ way_closed caller token names way
way_asked caller parts t token names [] are = refl
way_asked caller parts t token names (s ∷ way) are =
    ap (λ x. or_else (is_closed caller (take (suc names) token) x) (first_refusal (is_closed caller) t (fronts_of token (suc names) way))) (node_shown parts t (take (suc names) token) s are.0)
    ∙ ap (or_else (is_closed caller (take (suc names) token) (node_of s.node))) (way_asked caller parts t token (suc names) way are.1)

pub way_first : (caller : Caller) (parts : Parts) (t : Tree) → Stands parts t → (dir token : Path) (way : List Seen) → AreNodesOf parts t (on_the_way t (is_below dir) (Some token)) way
    → first_refusal (is_closed caller) t (on_the_way t (is_below dir) (Some token)) ≡ way_closed caller token (length dir) way
way_first caller parts t stands dir token way are =
    let is = way_paths parts t stands dir token way are in
    ap (first_refusal (is_closed caller) t) is ∙ way_asked caller parts t token (length dir) way (subst (λ l. AreNodesOf parts t l way) is are)

-- there are names enough
pub way_within : (shown : Shown) → ∥ Agreeing shown ∥₁ → (dir : Path) (token : Option Path) (way : List Seen)
    → ((a : Agreeing shown) → AreNodesOf a.parts a.tree (on_the_way a.tree (is_below dir) token) way) → IsWayWithin dir token way
way_within shown some dir None way are = tt
way_within shown some dir (Some token) way are = λ k less. ∥∥₁_elim some le_prop (λ a. (way_of_nodes a.parts a.tree a.stands dir token way (are a)).within k less)

-- so it is where there is no way
pub no_way_within : (shown : Shown) → ∥ Agreeing shown ∥₁ → (dir : Path) (token : Option Path) (way : List Seen) → ((a : Agreeing shown) → AreNodesOf a.parts a.tree [] way) → IsWayWithin dir token way
no_way_within shown some dir None way are = tt
no_way_within shown some dir (Some token) [] are = λ k less. absurd (let h : length {A = Seen} [] ≡ 0 = refl in omega arith)
no_way_within shown some dir (Some token) (s ∷ way) are = λ k less. ∥∥₁_elim some le_prop (λ a. absurd (are a))
