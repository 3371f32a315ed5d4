-- The parts at the start stand for the opening tree.
use Rattle.std.proofs.Common.{◌≡◌, inl, inr, ℕ, zero, suc, ◌%◌, ◌<◌, cond, List, [], ◌∷◌, ◌++◌, map, length, slice_get, option_map, Option, Some, None, option_and_then, is_some, IsSome, refl, ap, sym, subst, ◌∙◌, lit≤, lit<, arith}
use Rattle.std.proofs.lemmas.Bool.{false≢true}
use Rattle.std.proofs.lemmas.Option.{same_Some, slice_get_within}
use Rattle.std.specs.Cmp.{nat_cmp_total, unsigned_Decides}
use Rattle.std.specs.FinMap as fin
use Rattle.std.specs.FinMap.{get-insert, get-empty, nat_cmp-IsAntisymmetric}
use Rattle.std.specs.Ordering.{nat_cmp}
use Rattle.path_text.specs.Paths.{path_cmp, path_cmp_total}
use Rattle.path_text.specs.Texts.{KeepsLimits}
use Rattle.namespace_model.specs.Nodes.{Node, account}
use Rattle.namespace_model.specs.Trees.{Path, at, opening_tree, IsTree}
use Rattle.inode_tree.specs.Index.{IsIndex, Places}
use Rattle.inode_tree.specs.Changes.{Part}
use Rattle.inode_tree.specs.Parts.{Parts, inode_at}
use Rattle.inode_tree.specs.Stands.{Stands}
use Rattle.inode_tree.proofs.IndexLemmas.{stands_from_index}
use Rattle.inode_tree.proofs.LinkLemmas.{key_differs}
use Rattle.inode_tree.proofs.TurnLemmas.{number_tells}
use Rattle.inode_tree.specs.Footprints.{HasDate}
use Rattle.inode_tree.specs.Stripes.{StripeRecord}
use Rattle.inode_tree.specs.Views.{HasDates}
use Rattle.parted_namespace.specs.Opening.{bare_stripe, account_inode, account_part, AreOpening, opening_stripe, opening_below, opening_stripes}
use Rattle.parted_namespace.specs.Namespace.{parts_of}
use Rattle.parted_namespace.specs.Laws.{part_at, length-below, length-parts}

-- ---- the opening tree

at_account : at opening_tree [] ≡ Some account
unfolding opening_tree
at_account = get-insert path_cmp_total fin.empty [] account []

at_other : (n : List ℕ) (p : Path) → at opening_tree (n ∷ p) ≡ None
unfolding opening_tree
at_other n p = get-insert path_cmp_total fin.empty [] account (n ∷ p) ∙ get-empty path_cmp (n ∷ p)

absent : (p : Path) (n : List ℕ) → at opening_tree (p ++ n ∷ []) ≡ None
absent [] n = at_other n []
absent (m ∷ p) n = at_other m (p ++ n ∷ [])

account_limits : KeepsLimits []
account_limits = record { parts = refl; length_within = lit≤ tt; depth_within = lit≤ tt }

opening_is_tree : IsTree opening_tree
opening_is_tree = record {
  root = rw at_account refl;
  parents = λ p n h. absurd (false≢true (sym (ap is_some (absent p n)) ∙ h));
  limits = limits;
}
  where
    limits : (p : Path) → IsSome (at opening_tree p) → KeepsLimits p
    limits [] h = account_limits
    limits (n ∷ p) h = absurd (false≢true (sym (ap is_some (at_other n p)) ∙ h))

-- no node has a moment yet
pub opening_dates : HasDates opening_tree
opening_dates [] x e = subst (λ (y : Node). HasDate y.moment) (same_Some account x (sym at_account ∙ e)) (lit< tt)
opening_dates (n ∷ p) x e = absurd (false≢true (ap is_some (sym (at_other n p) ∙ e)))

-- ---- the parts

abbrev ids : Path → Option ℕ
ids [] = Some 0
ids (n ∷ p) = None

abbrev no_part : Part
no_part = fin.empty

get_account : (id : ℕ) → IsSome (fin.get account_part id) → id ≡ 0
get_account id h = elim (number_tells id 0) [
  | inl e ↦ e
  | inr other ↦ absurd (false≢true (sym (ap is_some (get-insert nat_cmp_total fin.empty 0 account_inode id
      ∙ ap (λ b. cond b (Some account_inode) (fin.get no_part id)) (key_differs nat_cmp nat_cmp_total nat_cmp-IsAntisymmetric id 0 (λ e. false≢true (sym other ∙ (unsigned_Decides id 0).1 e)))
      ∙ get-empty nat_cmp id)) ∙ h))
]

module _ (parts : Parts) (is : AreOpening parts) where
  account_there : inode_at parts 0 ≡ Some account_inode
  account_there = ap (option_and_then (λ (part : Part). fin.get part 0)) is.first ∙ get-insert nat_cmp_total fin.empty 0 account_inode 0

  own : (stripe id : ℕ) (part : Part) → slice_get parts stripe ≡ Some part → IsSome (fin.get part id) → (stripe ≡ 0) × (id ≡ 0)
  own zero id part there h = (refl, get_account id (subst (λ (p : Part). IsSome (fin.get p id)) (same_Some part account_part (sym there ∙ is.first)) h))
  own (suc stripe) id part there h =
      let above : 0 < suc stripe = omega arith in
      absurd (false≢true (sym (ap is_some (ap (λ (p : Part). fin.get p id) (is.others (suc stripe) part above there) ∙ get-empty nat_cmp id)) ∙ h))

  pub alone : (id : ℕ) → IsSome (inode_at parts id) → id ≡ 0
  alone id h = by_part (slice_get parts (id % 64)) refl h
    where
      by_part : (o : Option Part) → slice_get parts (id % 64) ≡ o → IsSome (option_and_then (λ (part : Part). fin.get part id) o) → id ≡ 0
      by_part None e k = absurd (false≢true k)
      by_part (Some part) e k = (own (id % 64) id part e k).1

  place : (p : Path) (id : ℕ) → ids p ≡ Some id → Places parts opening_tree ids p id
  place [] id e = subst (Places parts opening_tree ids []) (same_Some 0 id e) (record {
    inode = account_inode;
    found = account_there;
    kind = refl;
    shows = at_account;
    links = λ name. get-empty _ name;
  })
  place (n ∷ p) id e = absurd (false≢true (ap is_some e))

  index : IsIndex parts opening_tree ids
  index = record {
    account = refl;
    places = place;
    nothing = nothing;
    below_nothing = below;
    once = once;
    kept = λ id h. ([], ap (λ i. Some i) (sym (alone id h)));
  }
    where
      nothing : (p : Path) → ids p ≡ None → at opening_tree p ≡ None
      nothing [] e = absurd (false≢true (sym (ap is_some e)))
      nothing (n ∷ p) e = at_other n p

      below : (p : Path) (name : List ℕ) → ids p ≡ None → ids (p ++ name ∷ []) ≡ None
      below [] name e = absurd (false≢true (sym (ap is_some e)))
      below (n ∷ p) name e = refl

      once : (p q : Path) (id : ℕ) → ids p ≡ Some id → ids q ≡ Some id → p ≡ q
      once [] [] id a b = refl
      once [] (m ∷ q) id a b = absurd (false≢true (ap is_some b))
      once (n ∷ p) q id a b = absurd (false≢true (ap is_some a))

  pub opening_stands : Stands parts opening_tree
  opening_stands =
      stands_from_index parts opening_tree ids index
      (record { long = is.long; own = λ stripe id part there h. let o = own stripe id part there h in ap (λ i. i % 64) o.1 ∙ sym o.0 })
      opening_is_tree

-- ---- the stripes

below_at : (n k : ℕ) → k < n → slice_get (opening_below n) k ≡ Some (opening_stripe k)
unfolding opening_below
below_at zero k h = absurd (omega (arith, h))
below_at (suc n) k h = elim (number_tells k n) [
  | inl e ↦ ap (slice_get (opening_below n ++ opening_stripe n ∷ [])) e ∙ get_last (opening_below n) (opening_stripe n) n (length-below n) ∙ ap (λ j. Some (opening_stripe j)) (sym e)
  | inr other ↦
      let differs : k ≡ n → ⊥ = λ e. false≢true (sym other ∙ (unsigned_Decides k n).1 e) in
      let less : k < n = omega (arith, h, differs) in
      get_front (opening_below n) (opening_stripe n ∷ []) k (opening_stripe k) (below_at n k less)
]
  where
    get_last : (xs : List StripeRecord) (y : StripeRecord) (m : ℕ) → length xs ≡ m → slice_get (xs ++ y ∷ []) m ≡ Some y
    get_last [] y zero l = refl
    get_last [] y (suc m) l = absurd (omega (arith, l))
    get_last (x ∷ xs) y zero l = absurd (omega (arith, l))
    get_last (x ∷ xs) y (suc m) l = get_last xs y m (omega (arith, l))

    get_front : (xs ys : List StripeRecord) (i : ℕ) (s : StripeRecord) → slice_get xs i ≡ Some s → slice_get (xs ++ ys) i ≡ Some s
    get_front [] ys i s e = absurd (false≢true (ap is_some e))
    get_front (x ∷ xs) ys zero s e = e
    get_front (x ∷ xs) ys (suc i) s e = get_front xs ys i s e

-- the stripe of a number at the start
pub opening_at : (k : ℕ) → k < 64 → slice_get opening_stripes k ≡ Some (opening_stripe k)
opening_at k h = below_at 64 k h

pub opening_parts : AreOpening (parts_of opening_stripes)
opening_parts = record {
  long = length-parts opening_stripes ∙ length-below 64;
  first = part_at opening_stripes 0 ∙ ap (option_map (λ (s : StripeRecord). s.part)) (opening_at 0 (lit< tt));
  others = others;
}
  where
    others : (k : ℕ) (part : Part) → 0 < k → slice_get (parts_of opening_stripes) k ≡ Some part → part ≡ fin.empty
    others zero part h e = absurd (omega (arith, h))
    others (suc k) part h e =
        let w : suc k < length (parts_of opening_stripes) = slice_get_within (parts_of opening_stripes) (suc k) part e in
        let less : suc k < 64 = omega (arith, w, length-parts opening_stripes, length-below 64) in
        same_Some part fin.empty (sym e ∙ part_at opening_stripes (suc k) ∙ ap (option_map (λ (s : StripeRecord). s.part)) (opening_at (suc k) less))

-- what is ready aside, stripes at the start have their parts and numbers
pub parts_of_bare : (xs : List StripeRecord) → parts_of (map bare_stripe xs) ≡ parts_of xs
parts_of_bare [] = refl
parts_of_bare (x ∷ xs) = ap (λ ps. x.part ∷ ps) (parts_of_bare xs)

bare_at : (xs : List StripeRecord) (k : ℕ) → slice_get (map bare_stripe xs) k ≡ option_map bare_stripe (slice_get xs k)
bare_at [] k = refl
bare_at (x ∷ xs) zero = refl
bare_at (x ∷ xs) (suc k) = bare_at xs k

pub opening_is : (k : ℕ) (s : StripeRecord) → slice_get opening_stripes k ≡ Some s → s ≡ opening_stripe k
opening_is k s there =
    let within = slice_get_within opening_stripes k s there in
    let small : k < 64 = omega (arith, within, length-below 64) in
    same_Some s (opening_stripe k) (sym there ∙ opening_at k small)

pub opening_numbered : (xs : List StripeRecord) → map bare_stripe xs ≡ opening_stripes → (k : ℕ) (s : StripeRecord) → slice_get xs k ≡ Some s → s.stripe ≡ k
opening_numbered xs is k s there =
    ap (λ (z : StripeRecord). z.stripe) (opening_is k (bare_stripe s) (sym (ap (λ ys. slice_get ys k) is) ∙ bare_at xs k ∙ ap (option_map bare_stripe) there))
