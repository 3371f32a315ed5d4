-- What turns leave at an id: each is of one id, and an id that is named by one turn alone has its turn.
use Rattle.std.proofs.Common.{◌≡◌, ◌≢◌, ◌⊎◌, inl, inr, ℕ, suc, ◌%◌, ◌==◌, Bool, true, false, cond, List, [], ◌∷◌, ◌++◌, map, flat_map, length, slice_get, Option, Some, None, option_map, option_and_then, refl, ap, sym, subst, ◌∙◌}
use Rattle.std.proofs.lemmas.Bool.{false≢true}
use Rattle.std.specs.Cmp.{nat_cmp_total, unsigned_Decides}
use Rattle.std.specs.Ordering.{nat_cmp, eq_by_cmp}
use Rattle.std.specs.FinMap as fin
use Rattle.std.specs.FinMap.{find, nat_cmp-IsAntisymmetric}
use Rattle.path_text.specs.Paths.{path_cmp}
use Rattle.namespace_model.specs.Trees.{Path}
use Rattle.namespace_model.specs.Effects.{Put, put_by, Effect}
use Rattle.inode_tree.specs.Inodes.{BareInode}
use Rattle.inode_tree.specs.Changes.{Part}
use Rattle.inode_tree.specs.Parts.{Parts, inode_at}
use Rattle.inode_tree.specs.After.{Relink, Turn, made, id_of, turn_of, making, making_of, turned, turned_in, part_after, parts_after, inode_with, relinked}
use Rattle.inode_tree.proofs.DraftLemmas.{get-with_node}
use Rattle.inode_tree.proofs.FrameLemmas.{at-after, id_of_turn}
use Rattle.inode_tree.proofs.LinkLemmas.{key_same, key_differs}

-- ---- the turns of one id

-- what the turns that name an id leave there
abbrev pub turned_by : ℕ → ℕ → List Turn → Option BareInode → Option BareInode
turned_by number id [] before = before
turned_by number id (t ∷ ts) before = turned_by number id ts (cond (id_of t == id) (turned number t before) before)

pub number_tells : (a b : ℕ) → (a ≡ b) ⊎ ((a == b) ≡ false)
number_tells a b = by_test (a == b) refl
  where
    by_test : (t : Bool) → (a == b) ≡ t → (a ≡ b) ⊎ ((a == b) ≡ false)
    by_test true e = inl ((unsigned_Decides a b).0 e)
    by_test false e = inr e

pub number_same : (n : ℕ) → (n == n) ≡ true
number_same n = (unsigned_Decides n n).1 refl

pub number_differs : (a b : ℕ) → a ≢ b → (a == b) ≡ false
number_differs a b h = elim (number_tells a b) [ inl e ↦ absurd (h e) | inr e ↦ e ]

one_turned : (s number id : ℕ) (t : Turn) (part : Part) → id % 64 ≡ s
    → fin.get (cond (id_of t % 64 == s) (turned_in number part t) part) id ≡ cond (id_of t == id) (turned number t (fin.get part id)) (fin.get part id)
one_turned s number id t part own = elim (number_tells (id_of t) id) [
  | inl e ↦
      ap (λ b. fin.get (cond b (turned_in number part t) part) id) (ap (λ i. i % 64 == s) e ∙ ap (λ r. r == s) own ∙ number_same s)
      ∙ get-with_node part (id_of t) id (turned number t (fin.get part (id_of t)))
      ∙ ap (λ b. cond b (turned number t (fin.get part (id_of t))) (fin.get part id)) (ap (λ i. eq_by_cmp nat_cmp i (id_of t)) (sym e) ∙ key_same nat_cmp nat_cmp_total nat_cmp-IsAntisymmetric (id_of t))
      ∙ ap (λ i. turned number t (fin.get part i)) e
      ∙ sym (ap (λ b. cond b (turned number t (fin.get part id)) (fin.get part id)) (ap (λ i. i == id) e ∙ number_same id))
  | inr other ↦ elsewhere other (id_of t % 64 == s) ∙ sym (ap (λ b. cond b (turned number t (fin.get part id)) (fin.get part id)) other)
]
  where
    not_it : (id_of t == id) ≡ false → id ≢ id_of t
    not_it other e = false≢true (sym other ∙ ap (λ i. i == id) (sym e) ∙ number_same id)

    elsewhere : (id_of t == id) ≡ false → (b : Bool) → fin.get (cond b (turned_in number part t) part) id ≡ fin.get part id
    elsewhere other false = refl
    elsewhere other true =
        get-with_node part (id_of t) id (turned number t (fin.get part (id_of t)))
        ∙ ap (λ b. cond b (turned number t (fin.get part (id_of t))) (fin.get part id)) (key_differs nat_cmp nat_cmp_total nat_cmp-IsAntisymmetric id (id_of t) (not_it other))

-- an id of the stripe has what its turns leave
pub get-part_after : (s number id : ℕ) (ts : List Turn) (part : Part) → id % 64 ≡ s → fin.get (part_after s number ts part) id ≡ turned_by number id ts (fin.get part id)
get-part_after s number id [] part own = refl
get-part_after s number id (t ∷ ts) part own =
    get-part_after s number id ts (cond (id_of t % 64 == s) (turned_in number part t) part) own
    ∙ ap (turned_by number id ts) (one_turned s number id t part own)

-- an id of another stripe has what was there
pub get-part_other : (s number id : ℕ) (ts : List Turn) (part : Part) → id % 64 ≢ s → fin.get (part_after s number ts part) id ≡ fin.get part id
get-part_other s number id [] part other = refl
get-part_other s number id (t ∷ ts) part other =
    get-part_other s number id ts (cond (id_of t % 64 == s) (turned_in number part t) part) other ∙ one (id_of t % 64 == s) refl
  where
    one : (b : Bool) → (id_of t % 64 == s) ≡ b → fin.get (cond b (turned_in number part t) part) id ≡ fin.get part id
    one false e = refl
    one true e =
        get-with_node part (id_of t) id (turned number t (fin.get part (id_of t)))
        ∙ ap (λ b. cond b (turned number t (fin.get part (id_of t))) (fin.get part id))
        (key_differs nat_cmp nat_cmp_total nat_cmp-IsAntisymmetric id (id_of t) (λ same. other (ap (λ i. i % 64) same ∙ (unsigned_Decides (id_of t % 64) s).0 e)))

length-parts_after : (from number : ℕ) (ts : List Turn) (parts : Parts) → length (parts_after from number ts parts) ≡ length parts
length-parts_after from number ts [] = refl
length-parts_after from number ts (x ∷ xs) = ap suc (length-parts_after (suc from) number ts xs)

pub length-after : (number : ℕ) (ts : List Turn) (parts : Parts) → length (parts_after 0 number ts parts) ≡ length parts
length-after number ts parts = length-parts_after 0 number ts parts

-- what the turns leave at an id
pub inode-after : (number id : ℕ) (ts : List Turn) (parts : Parts) (part : Part) → slice_get parts (id % 64) ≡ Some part → inode_at (parts_after 0 number ts parts) id ≡ turned_by number id ts (inode_at parts id)
inode-after number id ts parts part there =
    ap (option_and_then (λ (p : Part). fin.get p id)) (at-after number ts parts (id % 64) ∙ ap (option_map (part_after (id % 64) number ts)) there)
    ∙ get-part_after (id % 64) number id ts part refl
    ∙ sym (ap (turned_by number id ts) (ap (option_and_then (λ (p : Part). fin.get p id)) there))

-- ---- lists of paths with ids

-- the pair is one of the list
abbrev pub Within : Path × ℕ → List (Path × ℕ) → Type 0
Within x [] = ⊥
Within x (y ∷ ys) = (x ≡ y) ⊎ Within x ys

-- no pair has the id
abbrev pub Lacks : ℕ → List (Path × ℕ) → Type 0
Lacks id [] = Unit {0}
Lacks id (x ∷ xs) = (x.1 ≢ id) × Lacks id xs

-- no id stands twice
abbrev pub HasIdsOnce : List (Path × ℕ) → Type 0
HasIdsOnce [] = Unit {0}
HasIdsOnce (x ∷ xs) = Lacks x.1 xs × HasIdsOnce xs

pub within_differs : (id : ℕ) (xs : List (Path × ℕ)) (y : Path × ℕ) → Lacks id xs → Within y xs → y.1 ≢ id
within_differs id [] y h k same = absurd k
within_differs id (x ∷ xs) y h (inl e) same = h.0 (sym (ap (λ (z : Path × ℕ). z.1) e) ∙ same)
within_differs id (x ∷ xs) y h (inr k) same = within_differs id xs y h.1 k same

pub lacks_all : (id : ℕ) (xs : List (Path × ℕ)) → ((x : Path × ℕ) → Within x xs → x.1 ≢ id) → Lacks id xs
lacks_all id [] h = tt
lacks_all id (x ∷ xs) h = (h x (inl refl), lacks_all id xs (λ y k. h y (inr k)))

turned-append : (number id : ℕ) (ts us : List Turn) (before : Option BareInode) → turned_by number id (ts ++ us) before ≡ turned_by number id us (turned_by number id ts before)
turned-append number id [] us before = refl
turned-append number id (t ∷ ts) us before = turned-append number id ts us (cond (id_of t == id) (turned number t before) before)

-- ---- known paths

module _ (number : ℕ) (e : Effect) (ls : List Relink) where
  known_lacks : (id : ℕ) (xs : List (Path × ℕ)) (before : Option BareInode) → Lacks id xs → turned_by number id (map (turn_of e ls) xs) before ≡ before
  known_lacks id [] before h = refl
  known_lacks id (x ∷ xs) before h =
      ap (λ b. turned_by number id (map (turn_of e ls) xs) (cond b (turned number (turn_of e ls x) before) before)) (ap (λ i. i == id) (id_of_turn e ls x) ∙ number_differs x.1 id h.0)
      ∙ known_lacks id xs before h.1

  known_within : (xs : List (Path × ℕ)) (x : Path × ℕ) (before : Option BareInode) → HasIdsOnce xs → Within x xs → turned_by number x.1 (map (turn_of e ls) xs) before ≡ turned number (turn_of e ls x) before
  known_within [] x before once h = absurd h
  known_within (y ∷ ys) x before once (inl same) =
      ap (λ (z : Path × ℕ). turned_by number z.1 (map (turn_of e ls) (y ∷ ys)) before) same
      ∙ ap (λ b. turned_by number y.1 (map (turn_of e ls) ys) (cond b (turned number (turn_of e ls y) before) before)) (ap (λ i. i == y.1) (id_of_turn e ls y) ∙ number_same y.1)
      ∙ known_lacks y.1 ys (turned number (turn_of e ls y) before) once.0
      ∙ ap (λ (z : Path × ℕ). turned number (turn_of e ls z) before) (sym same)
  known_within (y ∷ ys) x before once (inr h) =
      ap (λ b. turned_by number x.1 (map (turn_of e ls) ys) (cond b (turned number (turn_of e ls y) before) before))
      (ap (λ i. i == x.1) (id_of_turn e ls y) ∙ number_differs y.1 x.1 (λ same. within_differs y.1 ys x once.0 h (sym same)))
      ∙ known_within ys x before once.1 h

  making_lacks : (x : Path × ℕ) (put : Option Put) (id : ℕ) (before : Option BareInode) → x.1 ≢ id → turned_by number id (making x ls put) before ≡ before
  making_lacks x None id before h = refl
  making_lacks x (Some put) id before h = ap (λ b. cond b (turned number (made x.1 x.0 put ls) before) before) (number_differs x.1 id h)

  drawn_lacks : (id : ℕ) (xs : List (Path × ℕ)) (before : Option BareInode) → Lacks id xs → turned_by number id (flat_map (making_of e ls) xs) before ≡ before
  drawn_lacks id [] before h = refl
  drawn_lacks id (x ∷ xs) before h =
      turned-append number id (making_of e ls x) (flat_map (making_of e ls) xs) before
      ∙ ap (turned_by number id (flat_map (making_of e ls) xs)) (making_lacks x (find path_cmp x.0 e.puts) id before h.0)
      ∙ drawn_lacks id xs before h.1

  drawn_within : (xs : List (Path × ℕ)) (x : Path × ℕ) (put : Put) (before : Option BareInode) → HasIdsOnce xs → Within x xs → find path_cmp x.0 e.puts ≡ Some put
      → turned_by number x.1 (flat_map (making_of e ls) xs) before ≡ Some (inode_with (put_by number put) (relinked x.0 ls fin.empty))
  drawn_within [] x put before once h found = absurd h
  drawn_within (y ∷ ys) x put before once (inl same) found =
      turned-append number x.1 (making_of e ls y) (flat_map (making_of e ls) ys) before
      ∙ ap (turned_by number x.1 (flat_map (making_of e ls) ys))
      (ap (λ (z : Path × ℕ). turned_by number x.1 (making_of e ls z) before) (sym same) ∙ ap (λ p. turned_by number x.1 (making x ls p) before) found
      ∙ ap (λ b. cond b (Some (inode_with (put_by number put) (relinked x.0 ls fin.empty))) before) (number_same x.1))
      ∙ drawn_lacks x.1 ys (Some (inode_with (put_by number put) (relinked x.0 ls fin.empty))) (subst (λ (z : Path × ℕ). Lacks z.1 ys) (sym same) once.0)
  drawn_within (y ∷ ys) x put before once (inr h) found =
      turned-append number x.1 (making_of e ls y) (flat_map (making_of e ls) ys) before
      ∙ ap (turned_by number x.1 (flat_map (making_of e ls) ys)) (making_lacks y (find path_cmp y.0 e.puts) x.1 before (λ same. within_differs y.1 ys x once.0 h (sym same)))
      ∙ drawn_within ys x put before once.1 h found

  -- an id of neither list has what was there
  pub left_alone : (id : ℕ) (xs ys : List (Path × ℕ)) (before : Option BareInode) → Lacks id xs → Lacks id ys
      → turned_by number id (map (turn_of e ls) xs ++ flat_map (making_of e ls) ys) before ≡ before
  left_alone id xs ys before h k =
      turned-append number id (map (turn_of e ls) xs) (flat_map (making_of e ls) ys) before
      ∙ ap (turned_by number id (flat_map (making_of e ls) ys)) (known_lacks id xs before h) ∙ drawn_lacks id ys before k

  -- the id of a known path has the turn of that path
  pub turned_known : (xs ys : List (Path × ℕ)) (x : Path × ℕ) (before : Option BareInode) → HasIdsOnce xs → Within x xs → Lacks x.1 ys
      → turned_by number x.1 (map (turn_of e ls) xs ++ flat_map (making_of e ls) ys) before ≡ turned number (turn_of e ls x) before
  turned_known xs ys x before once h k =
      turned-append number x.1 (map (turn_of e ls) xs) (flat_map (making_of e ls) ys) before
      ∙ ap (turned_by number x.1 (flat_map (making_of e ls) ys)) (known_within xs x before once h) ∙ drawn_lacks x.1 ys (turned number (turn_of e ls x) before) k

  -- the drawn id of a new path has the node that is put there
  pub turned_drawn : (xs ys : List (Path × ℕ)) (y : Path × ℕ) (put : Put) (before : Option BareInode) → HasIdsOnce ys → Within y ys → find path_cmp y.0 e.puts ≡ Some put
      → turned_by number y.1 (map (turn_of e ls) xs ++ flat_map (making_of e ls) ys) before ≡ Some (inode_with (put_by number put) (relinked y.0 ls fin.empty))
  turned_drawn xs ys y put before once h found =
      turned-append number y.1 (map (turn_of e ls) xs) (flat_map (making_of e ls) ys) before
      ∙ drawn_within ys y put (turned_by number y.1 (map (turn_of e ls) xs) before) once h found
