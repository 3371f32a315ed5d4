-- The parts of stripes, and what changes of the stripes make of them.
use Rattle.std.proofs.Common.{◌≡◌, ◌≢◌, ◌⊎◌, inl, inr, ℕ, zero, suc, ◌*◌, ◌%◌, ◌^◌, ◌==◌, ◌<◌, cond, List, [], ◌∷◌, length, length-set, map, take, get_or, slice_get, slice_set, ◌++◌, bit_and, w64, Option, Some, None, option_map, is_some, refl, ap, sym, subst, ◌∙◌, arith}
use Rattle.std.specs.Cmp.{unsigned_Decides}
use Rattle.std.specs.Int.{bit_at, bit_not}
use Rattle.std.proofs.lemmas.Bool.{false≢true, cases_eq}
use Rattle.std.proofs.lemmas.Nat.{and_le_l}
use Rattle.std.proofs.lemmas.Nat.Bits.{bit_at-zero, bit_at-lt, bit_at_clear_same, bit_at_clear_other}
use Rattle.std.proofs.lemmas.Option.{same_Some, slice_get_within, slice_get-get_or}
use Rattle.std.proofs.Math.Seq.{take-append_seam}
use Rattle.inode_tree.specs.declared.change.Change.{Change}
use Rattle.inode_tree.specs.Changes.{Part, applied}
use Rattle.inode_tree.specs.Parts.{Parts, tree_of}
use Rattle.inode_tree.specs.Promises.{applied_from, applied_all}
use Rattle.inode_tree.specs.Stands.{Stands}
use Rattle.inode_tree.specs.Stripes.{StripeRecord, IsReady}
use Rattle.inode_tree.specs.Views.{HasDates}
use Rattle.inode_tree.proofs.PromiseLemmas.{at-applied_all}
use Rattle.inode_tree.proofs.SameParts.{same_lists}
use Rattle.parted_namespace.specs.Laws.{part_at, length-parts}
use Rattle.parted_namespace.specs.Namespace.{parts_of}
use Rattle.parted_namespace.specs.Opening.{bare_stripe, opening_stripes, AreOpening}
use Rattle.parted_namespace.proofs.GivenIds.{at_within}
use Rattle.parted_namespace.proofs.OpeningTree.{opening_dates, opening_numbered, opening_parts, opening_stands, parts_of_bare}
use Rattle.engine.specs.Stripes.{AreStripes, AreReady, LeaveOthers, applied_where, IsChanged, AreChanged, AreSame}

-- ---- lists

some_of : {A B : Type 0} (f : A → B) (o : Option A) (y : B) → option_map f o ≡ Some y → (x : A) × (o ≡ Some x) × (f x ≡ y)
some_of f None y e = absurd (false≢true (ap is_some e))
some_of f (Some x) y e = (x, refl, same_Some (f x) y e)

some_part : (xs : List StripeRecord) (k : ℕ) (p : Part) → slice_get (parts_of xs) k ≡ Some p → (s : StripeRecord) × (slice_get xs k ≡ Some s) × (s.part ≡ p)
some_part xs k p e = some_of (λ (s : StripeRecord). s.part) (slice_get xs k) p (sym (part_at xs k) ∙ e)

-- what was lent out is put back in its place
pub put_back : {A : Type 0} (n : ℕ) (xs ys : List A) → n ≡ length xs → take n (xs ++ ys) ≡ xs
put_back n xs ys e = ap (λ m. take m (xs ++ ys)) e ∙ take-append_seam xs ys

-- there are 64
pub long_stripes : (ys xs : List StripeRecord) → ys ≡ xs → AreStripes xs → length ys ≡ 64
long_stripes ys xs same are = ap length same ∙ sym (length-parts xs) ∙ are.stands.striped.long

-- ---- bits

pub bit_tells : (n k : ℕ) → (bit_at n k ≡ 0) ⊎ (bit_at n k ≡ 1)
bit_tells n k = by_number (bit_at n k) (bit_at-lt n k)
  where
    by_number : (b : ℕ) → b < 2 → (b ≡ 0) ⊎ (b ≡ 1)
    by_number zero h = inl refl
    by_number (suc zero) h = inr refl
    by_number (suc (suc b)) h = absurd (omega (arith, h))

-- where the bit is set the part is that with the changes
set_where : (written number : ℕ) (cs : List Change) (k stripe : ℕ) (part : Part) → bit_at written k ≡ 1 → applied_where written number cs k stripe part ≡ applied stripe number cs part
set_where written number cs k stripe part set = ap (λ b. cond b (applied stripe number cs part) part) ((unsigned_Decides (bit_at written k) 1).1 set)

-- where the bit isn't set the part stays
pub idle_where : (written number : ℕ) (cs : List Change) (k stripe : ℕ) (part : Part) → bit_at written k ≡ 0 → applied_where written number cs k stripe part ≡ part
idle_where written number cs k stripe part free = ap (λ n. cond (n == 1) (applied stripe number cs part) part) free

-- ---- stripes that have changed

-- each has its place as its number
abbrev pub AreNumbered : List StripeRecord → Type 0
AreNumbered stripes = (k : ℕ) (s : StripeRecord) → slice_get stripes k ≡ Some s → s.stripe ≡ k

pub still_numbered : (f : ℕ → ℕ → Part → Part) (old new : List StripeRecord) → AreNumbered old → AreChanged f old new → AreNumbered new
still_numbered f old new numbered changed k s e =
    let within : k < length old = let w = slice_get_within new k s e in omega (arith, w, changed.long) in
    let r = at_within old k within in
    let c = changed.each k r.0 r.1 in
    ap (λ (z : StripeRecord). z.stripe) (same_Some s c.0 (sym e ∙ c.1)) ∙ c.2.stripe ∙ numbered k r.0 r.1

pub same_parts_of : (old new : List StripeRecord) → AreSame old new → parts_of new ≡ parts_of old
same_parts_of old new same =
    same_lists (parts_of new) (parts_of old) (length-parts new ∙ same.long ∙ sym (length-parts old))
    (λ k x y a b.
    let s = some_part new k x a in
    let r = some_part old k y b in
    let c = same.each k r.0 r.1 in
    sym s.2 ∙ ap (λ (z : StripeRecord). z.part) (same_Some s.0 c.0 (sym s.1 ∙ c.1)) ∙ c.2.part ∙ r.2)

length-applied : (from number : ℕ) (cs : List Change) (parts : Parts) → length (applied_from from number cs parts) ≡ length parts
length-applied from number cs [] = refl
length-applied from number cs (x ∷ xs) = ap suc (length-applied (suc from) number cs xs)

-- stripes with the changes of each one's own have the parts with all changes, where these leave the others
pub applied_parts : (written number : ℕ) (cs : List Change) (old new : List StripeRecord) → AreStripes old → LeaveOthers written number cs (parts_of old) → AreChanged (applied_where written number cs) old new
    → parts_of new ≡ applied_all number cs (parts_of old)
applied_parts written number cs old new are leave changed =
    same_lists (parts_of new) (applied_all number cs (parts_of old)) (length-parts new ∙ changed.long ∙ sym (length-applied 0 number cs (parts_of old) ∙ length-parts old))
    (λ k x y a b.
    let s = some_part new k x a in
    let p = some_of (applied k number cs) (slice_get (parts_of old) k) y (sym (at-applied_all number cs (parts_of old) k) ∙ b) in
    let r = some_part old k p.0 p.1 in
    let c = changed.each k r.0 r.1 in
    sym s.2 ∙ ap (λ (z : StripeRecord). z.part) (same_Some s.0 c.0 (sym s.1 ∙ c.1)) ∙ c.2.part
    ∙ ap (λ n. applied_where written number cs k n r.0.part) (are.numbered k r.0 r.1) ∙ ap (applied_where written number cs k k) r.2
    ∙ by_bit k p.0 p.1 (bit_tells written k) ∙ p.2)
  where
    by_bit : (k : ℕ) (part : Part) → slice_get (parts_of old) k ≡ Some part → (bit_at written k ≡ 0) ⊎ (bit_at written k ≡ 1) → applied_where written number cs k k part ≡ applied k number cs part
    by_bit k part there (inl zero_is) =
        let w = slice_get_within (parts_of old) k part there in
        idle_where written number cs k k part zero_is ∙ sym (leave k part (omega (arith, w, are.stands.striped.long)) zero_is there)
    by_bit k part there (inr one_is) = set_where written number cs k k part one_is

-- ---- stripe after stripe, by the bits that are left

-- The bits that are left are among those that are written. Their stripes are as they were, and each other stripe has changed.
pub record AreChangedBut (f : ℕ → ℕ → Part → Part) (written left : ℕ) (old now : List StripeRecord) : Type 0 where
  pub long : length now ≡ length old
  pub among : (k : ℕ) → k < 64 → bit_at left k ≡ 1 → bit_at written k ≡ 1
  pub kept : (k : ℕ) → k < 64 → bit_at left k ≡ 1 → slice_get now k ≡ slice_get old k
  pub done : (k : ℕ) (s : StripeRecord) → bit_at left k ≡ 0 → slice_get old k ≡ Some s → (r : StripeRecord) × (slice_get now k ≡ Some r) × IsChanged (f k) s r

-- those that are written and not left are ready
abbrev pub AreReadyBut : ℕ → ℕ → List StripeRecord → List Change → Type 0
AreReadyBut written left stripes changes = (k : ℕ) (s : StripeRecord) → bit_at written k ≡ 1 → bit_at left k ≡ 0 → slice_get stripes k ≡ Some s → IsReady s changes

-- one bit is no longer left
pub record IsCleared (left k left' : ℕ) : Type 0 where
  pub gone : bit_at left' k ≡ 0
  pub others : (j : ℕ) → j < 64 → j ≢ k → bit_at left' j ≡ bit_at left j

pub cleared : (left k : ℕ) → k < 64 → IsCleared left k (bit_and left (bit_not w64 (1 * 2 ^ k % 2 ^ 64)))
cleared left k within = record { gone = bit_at_clear_same w64 left k within; others = λ j small other. bit_at_clear_other w64 left k within j small other }

get-set_same : {A : Type 0} (xs : List A) (i : ℕ) (a : A) → i < length xs → slice_get (slice_set xs i a) i ≡ Some a
get-set_same [] i a h = absurd (omega arith)
get-set_same (x ∷ xs) zero a h = refl
get-set_same (x ∷ xs) (suc i) a h = get-set_same xs i a (omega arith)

get-set_other : {A : Type 0} (xs : List A) (i k : ℕ) (a : A) → k ≢ i → slice_get (slice_set xs i a) k ≡ slice_get xs k
get-set_other [] i k a h = refl
get-set_other (x ∷ xs) zero zero a h = absurd (h refl)
get-set_other (x ∷ xs) zero (suc k) a h = refl
get-set_other (x ∷ xs) (suc i) zero a h = refl
get-set_other (x ∷ xs) (suc i) (suc k) a h = get-set_other xs i k a (λ e. h (ap suc e))

-- and the number of those left becomes smaller
pub left_less : (left k : ℕ) → k < 64 → bit_at left k ≡ 1 → bit_and left (bit_not w64 (1 * 2 ^ k % 2 ^ 64)) < left
left_less left k within set =
    let less : ℕ = bit_and left (bit_not w64 (1 * 2 ^ k % 2 ^ 64)) in
    let gone : bit_at less k ≡ 0 = bit_at_clear_same w64 left k within in
    elim (cases_eq less left) [
      | inl same ↦ absurd (let both : bit_at less k ≡ bit_at left k = ap (λ n. bit_at n k) same in omega (arith, both, gone, set))
      | inr other ↦ omega (arith, and_le_l left (bit_not w64 (1 * 2 ^ k % 2 ^ 64)))
    ]

-- the next one changes
pub changed_next : (f : ℕ → ℕ → Part → Part) (written left left' k : ℕ) (old now : List StripeRecord) (s r : StripeRecord) → length old ≡ 64 → bit_at left k ≡ 1 → IsCleared left k left'
    → AreChangedBut f written left old now → slice_get now k ≡ Some s → IsChanged (f k) s r → AreChangedBut f written left' old (slice_set now k r)
changed_next f written left left' k old now s r long set clear so there is = record {
  long = length-set now k r ∙ so.long;
  among = λ j small h. elim (cases_eq j k) [
    | inl same ↦ absurd (not_gone j same h)
    | inr other ↦ so.among j small (sym (clear.others j small other) ∙ h)
  ];
  kept = λ j small h. elim (cases_eq j k) [
    | inl same ↦ absurd (not_gone j same h)
    | inr other ↦ get-set_other now k j r other ∙ so.kept j small (sym (clear.others j small other) ∙ h)
  ];
  done = λ j x free e. by_place j x free e (cases_eq j k);
}
  where
    not_gone : (j : ℕ) → j ≡ k → bit_at left' j ≡ 1 → ⊥
    not_gone j same h = let both : bit_at left' j ≡ bit_at left' k = ap (bit_at left') same in absurd (omega (arith, both, h, clear.gone))

    by_place : (j : ℕ) (x : StripeRecord) → bit_at left' j ≡ 0 → slice_get old j ≡ Some x → (j ≡ k) ⊎ (j ≢ k) → (z : StripeRecord) × (slice_get (slice_set now k r) j ≡ Some z) × IsChanged (f j) x z
    by_place j x free e (inl same) =
        let within : k < length now = slice_get_within now k s there in
        let small : k < 64 = omega (arith, within, so.long, long) in
        let one : s ≡ x = same_Some s x (sym there ∙ so.kept k small set ∙ ap (slice_get old) (sym same) ∙ e) in
        (r, ap (slice_get (slice_set now k r)) same ∙ get-set_same now k r within, subst (λ i. IsChanged (f i) x r) (sym same) (subst (λ (y : StripeRecord). IsChanged (f k) y r) one is))
    by_place j x free e (inr other) =
        let w = slice_get_within old j x e in
        let small : j < 64 = omega (arith, w, long) in
        let was = so.done j x (sym (clear.others j small other) ∙ free) e in
        (was.0, get-set_other now k j r other ∙ was.1, was.2)

-- the one whose changes are put in next
pub applied_next : (written number : ℕ) (cs : List Change) (left k : ℕ) (old now : List StripeRecord) (d r : StripeRecord) → k < 64 → bit_at left k ≡ 1 → length old ≡ 64
    → AreChangedBut (applied_where written number cs) written left old now → r.stripe ≡ (get_or now k d).stripe
    → r.part ≡ applied (get_or now k d).stripe number cs (get_or now k d).part
    → AreChangedBut (applied_where written number cs) written (bit_and left (bit_not w64 (1 * 2 ^ k % 2 ^ 64))) old (slice_set now k r)
applied_next written number cs left k old now d r small set long so stripe part =
    let within : k < length now = omega (arith, small, so.long, long) in
    changed_next (applied_where written number cs) written left _ k old now (get_or now k d) r long set (cleared left k small) so (slice_get-get_or now k d within)
    (record { stripe = stripe; part = part ∙ sym (set_where written number cs k (get_or now k d).stripe (get_or now k d).part (so.among k small set)) })

-- what was made ready in it stands
pub still_ready : (f : ℕ → ℕ → Part → Part) (written left k : ℕ) (old now : List StripeRecord) (changes : List Change) (d : StripeRecord) → k < 64 → bit_at left k ≡ 1 → length old ≡ 64
    → AreReady written old changes → AreChangedBut f written left old now → IsReady (get_or now k d) changes
still_ready f written left k old now changes d small set long ready so =
    let within : k < length now = omega (arith, small, so.long, long) in
    ready k (get_or now k d) (so.among k small set) (sym (so.kept k small set) ∙ slice_get-get_or now k d within)

-- the one that is visited next keeps its part
pub kept_next : (written left k : ℕ) (old now : List StripeRecord) (d r : StripeRecord) → k < 64 → bit_at left k ≡ 1 → length old ≡ 64
    → AreChangedBut (λ place stripe part. part) written left old now → r.stripe ≡ (get_or now k d).stripe → r.part ≡ (get_or now k d).part
    → AreChangedBut (λ place stripe part. part) written (bit_and left (bit_not w64 (1 * 2 ^ k % 2 ^ 64))) old (slice_set now k r)
kept_next written left k old now d r small set long so stripe part =
    let within : k < length now = omega (arith, small, so.long, long) in
    changed_next (λ place stripe part. part) written left _ k old now (get_or now k d) r long set (cleared left k small) so (slice_get-get_or now k d within)
    (record { stripe = stripe; part = part })

-- at first all that are written are left, and nothing has changed
pub changed_none : (f : ℕ → ℕ → Part → Part) (written : ℕ) (old : List StripeRecord) → ((k stripe : ℕ) (part : Part) → bit_at written k ≡ 0 → f k stripe part ≡ part) → AreChangedBut f written written old old
changed_none f written old idle = record {
  long = refl;
  among = λ k small h. h;
  kept = λ k small h. refl;
  done = λ k s free e. (s, e, record { stripe = refl; part = sym (idle k s.stripe s.part free) });
}

-- at last none is left
pub changed_all : (f : ℕ → ℕ → Part → Part) (written left : ℕ) (old now : List StripeRecord) → left ≡ 0 → AreChangedBut f written left old now → AreChanged f old now
changed_all f written left old now none so = record { long = so.long; each = λ k s e. so.done k s (ap (λ b. bit_at b k) none ∙ bit_at-zero k) e }

-- a stop between leaves each part as it was
pub same_stop : (written left : ℕ) (old now : List StripeRecord) → length old ≡ 64 → AreChangedBut (λ place stripe part. part) written left old now → AreSame old now
same_stop written left old now long so = record { long = so.long; each = λ k s e. by_bit k s e (bit_tells left k) }
  where
    by_bit : (k : ℕ) (s : StripeRecord) → slice_get old k ≡ Some s → (bit_at left k ≡ 0) ⊎ (bit_at left k ≡ 1) → (r : StripeRecord) × (slice_get now k ≡ Some r) × IsChanged (λ stripe part. part) s r
    by_bit k s e (inl free) = so.done k s free e
    by_bit k s e (inr set) =
        let w = slice_get_within old k s e in
        let small : k < 64 = omega (arith, w, long) in
        (s, so.kept k small set ∙ e, record { stripe = refl; part = refl })

-- the next one is ready
pub ready_next : (written left left' k : ℕ) (now : List StripeRecord) (r : StripeRecord) (changes : List Change) → length now ≡ 64 → k < 64 → IsCleared left k left' → AreReadyBut written left now changes
    → IsReady r changes → AreReadyBut written left' (slice_set now k r) changes
ready_next written left left' k now r changes long small clear so is j s set free e = by_place (cases_eq j k)
  where
    within : k < length now
    within = subst (λ n. k < n) (sym long) small

    by_place : (j ≡ k) ⊎ (j ≢ k) → IsReady s changes
    by_place (inl same) = subst (λ (y : StripeRecord). IsReady y changes) (same_Some r s (sym (get-set_same now k r within) ∙ ap (slice_get (slice_set now k r)) (sym same) ∙ e)) is
    by_place (inr other) =
        let there : slice_get now j ≡ Some s = sym (get-set_other now k j r other) ∙ e in
        let w = slice_get_within now j s there in
        let low : j < 64 = omega (arith, w, long) in
        so j s set (sym (clear.others j low other) ∙ free) there

pub ready_none : (written : ℕ) (stripes : List StripeRecord) (changes : List Change) → AreReadyBut written written stripes changes
ready_none written stripes changes k s set free e = absurd (omega (arith, set, free))

pub ready_all : (written left : ℕ) (stripes : List StripeRecord) (changes : List Change) → left ≡ 0 → AreReadyBut written left stripes changes → AreReady written stripes changes
ready_all written left stripes changes none so k s set e = so k s set (ap (λ b. bit_at b k) none ∙ bit_at-zero k) e

-- ---- the stripes at the start

pub started_opening : (xs : List StripeRecord) → map bare_stripe xs ≡ opening_stripes → AreOpening (parts_of xs)
started_opening xs is = subst AreOpening (sym (ap parts_of is) ∙ parts_of_bare xs) opening_parts

pub started_stripes : (xs : List StripeRecord) → map bare_stripe xs ≡ opening_stripes → AreStripes xs
started_stripes xs is = record {
  numbered = opening_numbered xs is;
  stands = let s = opening_stands (parts_of xs) (started_opening xs is) in subst (Stands (parts_of xs)) (sym s.shown) s;
  dates = let s = opening_stands (parts_of xs) (started_opening xs is) in subst HasDates (sym s.shown) opening_dates;
}

-- ---- the stripes behind a call

pub applied_stripes : (written number : ℕ) (cs : List Change) (old new : List StripeRecord) → AreStripes old → LeaveOthers written number cs (parts_of old) → AreChanged (applied_where written number cs) old new
    → Stands (applied_all number cs (parts_of old)) (tree_of (applied_all number cs (parts_of old))) → HasDates (tree_of (applied_all number cs (parts_of old))) → AreStripes new
applied_stripes written number cs old new are leave changed stands dates = record {
  numbered = still_numbered (applied_where written number cs) old new are.numbered changed;
  stands = subst (λ (ps : Parts). Stands ps (tree_of ps)) (sym (applied_parts written number cs old new are leave changed)) stands;
  dates = subst (λ (ps : Parts). HasDates (tree_of ps)) (sym (applied_parts written number cs old new are leave changed)) dates;
}

pub same_stripes : (old new : List StripeRecord) → AreStripes old → AreSame old new → AreStripes new
same_stripes old new are same = record {
  numbered = still_numbered (λ place stripe part. part) old new are.numbered same;
  stands = subst (λ (ps : Parts). Stands ps (tree_of ps)) (sym (same_parts_of old new same)) are.stands;
  dates = subst (λ (ps : Parts). HasDates (tree_of ps)) (sym (same_parts_of old new same)) are.dates;
}
