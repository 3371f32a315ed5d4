-- Lists of staged pieces that ascend: what a position parts them into, what a piece put in leaves, and what covers.
use Rattle.std.proofs.Common.{◌≡◌, ◌≢◌, ◌⊎◌, inl, inr, ℕ, zero, suc, ◌+◌, ◌<◌, ◌≤◌, Bool, true, false, cond, List, [], ◌∷◌, ◌++◌, length, get_or, take, drop, Option, Some, None, refl, sym, ap, subst, ◌∙◌, arith, length-append, append_assoc}
use Rattle.std.specs.Prelude.{nat_lt, nat_le, All, insert, remove}
use Rattle.std.specs.List.{filter, AllByRecursion}
use Rattle.std.proofs.lemmas.Bool.Decides.{nat_tests}
use Rattle.std.proofs.lemmas.List.Elements.{All-cons, All-append, All-filter, filter_passes, recursion_from_All, All-from_recursion}
use Rattle.file_data.specs.declared.fault.DataFault.{DataFault}
use Rattle.file_data.specs.declared.fault.DataFault.TheVariants.{Gap, Overlap, WrongPosition}
use Rattle.file_data.specs.Staging.{end_of, pieces_below, pieces_from, pieces_above, bytes_of, with_piece, Ascends, first_trouble}

abbrev pub Pieces : Type 0
Pieces = List (ℕ × List ℕ)

pub lt_true : (a b : ℕ) → a < b → nat_lt a b ≡ true
lt_true a b h = grind (arith, nat_tests)

pub lt_false : (a b : ℕ) → b ≤ a → nat_lt a b ≡ false
lt_false a b h = grind (arith, nat_tests)

pub le_true : (a b : ℕ) → a ≤ b → nat_le a b ≡ true
le_true a b h = grind (arith, nat_tests)

pub le_false : (a b : ℕ) → b < a → nat_le a b ≡ false
le_false a b h = grind (arith, nat_tests)

pub true_lt : (a b : ℕ) → nat_lt a b ≡ true → a < b
true_lt a b h = grind (arith, nat_tests)

pub false_lt : (a b : ℕ) → nat_lt a b ≡ false → b ≤ a
false_lt a b h = grind (arith, nat_tests)

pub true_le : (a b : ℕ) → nat_le a b ≡ true → a ≤ b
true_le a b h = grind (arith, nat_tests)

-- a test that is true of each piece keeps all, and one that is false of each keeps none
pub kept_all : (test : (ℕ × List ℕ) → Bool) (ps : Pieces) → AllByRecursion (λ p. test p ≡ true) ps → filter test ps ≡ ps
kept_all test [] h = refl
kept_all test (p ∷ ps) h = rw h.0 (ap (λ r. p ∷ r) (kept_all test ps h.1))

pub kept_none : (test : (ℕ × List ℕ) → Bool) (ps : Pieces) → AllByRecursion (λ p. test p ≡ false) ps → filter test ps ≡ []
kept_none test [] h = refl
kept_none test (p ∷ ps) h = rw h.0 (kept_none test ps h.1)

pub weaker : (P Q : (ℕ × List ℕ) → Type 0) → ((p : ℕ × List ℕ) → P p → Q p) → (ps : Pieces) → AllByRecursion P ps → AllByRecursion Q ps
weaker P Q f [] h = tt
weaker P Q f (p ∷ ps) h = (f p h.0, weaker P Q f ps h.1)

pub joined : (P : (ℕ × List ℕ) → Type 0) (ps qs : Pieces) → AllByRecursion P ps → AllByRecursion P qs → AllByRecursion P (ps ++ qs)
joined P [] qs h k = k
joined P (p ∷ ps) qs h k = (h.0, joined P ps qs h.1 k)

pub filtered : (P : (ℕ × List ℕ) → Type 0) (test : (ℕ × List ℕ) → Bool) (ps : Pieces) → AllByRecursion P ps → AllByRecursion P (filter test ps)
filtered P test ps h = recursion_from_All P (filter test ps) (All-filter test P ps (All-from_recursion P ps h))

pub Ascends-filter : (test : (ℕ × List ℕ) → Bool) (ps : Pieces) → Ascends ps → Ascends (filter test ps)
Ascends-filter test [] h = tt
Ascends-filter test (p ∷ ps) h =
    elim (test p) as (λ b. Ascends (cond b (p ∷ filter test ps) (filter test ps))) [
      | true ↦ (filtered (λ r. p.0 < r.0) test ps h.0, Ascends-filter test ps h.1)
      | false ↦ Ascends-filter test ps h.1
    ]

-- from the first piece at or above a position on all are
first_and_behind : (p : ℕ × List ℕ) (ps : Pieces) (q : ℕ) → Ascends (p ∷ ps) → q ≤ p.0 → AllByRecursion (λ r. q ≤ r.0) (p ∷ ps)
first_and_behind p ps q h l = (l, weaker (λ r. p.0 < r.0) (λ r. q ≤ r.0) (λ r k. omega arith) ps h.0)

-- what begins at or above a position is all there is at or above it
pub begins_from : (p : ℕ × List ℕ) (ps : Pieces) (q : ℕ) → Ascends (p ∷ ps) → q ≤ p.0 → ([] ≡ pieces_below (p ∷ ps) q) × (p ∷ ps ≡ pieces_from (p ∷ ps) q)
begins_from p ps q h l =
    let all = first_and_behind p ps q h l in (
      sym (kept_none (λ r. nat_lt r.0 q) (p ∷ ps) (weaker (λ r. q ≤ r.0) (λ r. nat_lt r.0 q ≡ false) (λ r k. lt_false r.0 q k) (p ∷ ps) all)),
      sym (kept_all (λ r. nat_le q r.0) (p ∷ ps) (weaker (λ r. q ≤ r.0) (λ r. nat_le q r.0 ≡ true) (λ r k. le_true q r.0 k) (p ∷ ps) all)),
    )

one_more : (p : ℕ × List ℕ) (ps : Pieces) (q : ℕ) (front back : Pieces) → p.0 < q
    → (front ≡ pieces_below ps q) × (back ≡ pieces_from ps q)
    → (p ∷ front ≡ pieces_below (p ∷ ps) q) × (back ≡ pieces_from (p ∷ ps) q)
one_more p ps q front back l h =
    (rw (lt_true p.0 q l) (ap (λ r. p ∷ r) h.0), rw (le_false q p.0 l) h.1)

one_from : (p : ℕ × List ℕ) (ps : Pieces) (q : ℕ) (front back : Pieces) → q ≤ p.0
    → (front ≡ pieces_below ps q) × (back ≡ pieces_from ps q)
    → (front ≡ pieces_below (p ∷ ps) q) × (p ∷ back ≡ pieces_from (p ∷ ps) q)
one_from p ps q front back l h =
    (rw (lt_false p.0 q l) h.0, rw (le_true q p.0 l) (ap (λ r. p ∷ r) h.1))

-- where the first so many pieces pass the test of a position and no other does, they are those below it
pub parts_by : (xs : Pieces) (r q : ℕ) → r ≤ length xs
    → ((k : ℕ) (e : ℕ × List ℕ) → 0 ≤ k → k < r → nat_lt (get_or xs k e).0 q ≡ true)
    → ((k : ℕ) (e : ℕ × List ℕ) → r ≤ k → k < length xs → nat_lt (get_or xs k e).0 q ≡ false)
    → (take r xs ≡ pieces_below xs q) × (drop r xs ≡ pieces_from xs q)
parts_by [] zero q l f g = (refl, refl)
parts_by [] (suc r) q l f g = absurd (omega arith)
parts_by (p ∷ ps) zero q l f g =
    one_from p ps q [] ps (false_lt p.0 q (g 0 p (omega arith) (omega arith)))
    (parts_by ps 0 q (omega arith) (λ k e a b. absurd (omega arith)) (λ k e a b. g (suc k) e (omega arith) (omega arith)))
parts_by (p ∷ ps) (suc r) q l f g =
    one_more p ps q (take r ps) (drop r ps) (true_lt p.0 q (f 0 p (omega arith) (omega arith)))
    (parts_by ps r q (omega arith) (λ k e a b. f (suc k) e (omega arith) (omega arith)) (λ k e a b. g (suc k) e (omega arith) (omega arith)))

at_place : (P : (ℕ × List ℕ) → Type 0) (xs : Pieces) (k : ℕ) (d : ℕ × List ℕ) → k < length xs → AllByRecursion P xs → P (get_or xs k d)
at_place P [] k d l h = absurd (omega arith)
at_place P (p ∷ ps) zero d l h = h.0
at_place P (p ∷ ps) (suc k) d l h = at_place P ps k d (omega arith) h.1

starts_rise : (xs : Pieces) (i j : ℕ) (d : ℕ × List ℕ) → Ascends xs → i ≤ j → j < length xs → (get_or xs i d).0 ≤ (get_or xs j d).0
starts_rise [] i j d h l m = absurd (omega arith)
starts_rise (p ∷ ps) zero zero d h l m = omega arith
starts_rise (p ∷ ps) zero (suc j) d h l m = let k : p.0 < (get_or ps j d).0 = at_place (λ r. p.0 < r.0) ps j d (omega arith) h.0 in omega arith
starts_rise (p ∷ ps) (suc i) zero d h l m = absurd (omega arith)
starts_rise (p ∷ ps) (suc i) (suc j) d h l m = starts_rise ps i j d h.1 (omega arith) (omega arith)

-- no piece below a position comes behind one that isn't
pub starts_parted : (xs : Pieces) (q i j : ℕ) (d : ℕ × List ℕ) → Ascends xs → i ≤ j → j < length xs
    → nat_lt (get_or xs j d).0 q ≡ true → nat_lt (get_or xs i d).0 q ≡ true
starts_parted xs q i j d h l m e =
    let low : (get_or xs i d).0 ≤ (get_or xs j d).0 = starts_rise xs i j d h l m in
    let high : (get_or xs j d).0 < q = true_lt (get_or xs j d).0 q e in
    lt_true (get_or xs i d).0 q (omega arith)

pub Ascends-drop : (k : ℕ) (ps : Pieces) → Ascends ps → Ascends (drop k ps)
Ascends-drop zero [] h = tt
Ascends-drop (suc k) [] h = tt
Ascends-drop zero (p ∷ ps) h = h
Ascends-drop (suc k) (p ∷ ps) h = Ascends-drop k ps h.1

pub first_of : (xs : Pieces) (k : ℕ) (d : ℕ × List ℕ) → k < length xs → drop k xs ≡ get_or xs k d ∷ drop (suc k) xs
first_of [] k d l = absurd (omega arith)
first_of (p ∷ ps) zero d l = refl
first_of (p ∷ ps) (suc k) d l = first_of ps k d (omega arith)

-- the pieces above are among those at or above
above_below : (p : ℕ × List ℕ) (ps : Pieces) (q : ℕ) → p.0 < q → pieces_above ps q ≡ pieces_above (pieces_from ps q) q → pieces_above (p ∷ ps) q ≡ pieces_above (pieces_from (p ∷ ps) q) q
above_below p ps q l h = rw (lt_false q p.0 (omega arith), le_false q p.0 l) h

above_here : (p : ℕ × List ℕ) (ps : Pieces) (q : ℕ) → q ≤ p.0 → pieces_above ps q ≡ pieces_above (pieces_from ps q) q → pieces_above (p ∷ ps) q ≡ pieces_above (pieces_from (p ∷ ps) q) q
above_here p ps q l h = rw (le_true q p.0 l) (ap (λ r. cond (nat_lt q p.0) (p ∷ r) r) h)

either_side : (a b : ℕ) → (a < b) ⊎ (b ≤ a)
either_side a b =
    elim (nat_lt a b) as (λ t. nat_lt a b ≡ t → (a < b) ⊎ (b ≤ a)) [ true ↦ (λ e. inl (true_lt a b e)) | false ↦ (λ e. inr (false_lt a b e)) ] refl

pub above_of_from : (ps : Pieces) (q : ℕ) → pieces_above ps q ≡ pieces_above (pieces_from ps q) q
above_of_from [] q = refl
above_of_from (p ∷ ps) q =
    elim (either_side p.0 q) [ inl l ↦ above_below p ps q l (above_of_from ps q) | inr l ↦ above_here p ps q l (above_of_from ps q) ]

-- behind a piece at a position all are above it
pub above_same : (p : ℕ × List ℕ) (ps : Pieces) (q : ℕ) → Ascends (p ∷ ps) → p.0 ≡ q → pieces_above (p ∷ ps) q ≡ ps
above_same p ps q h e =
    rw (lt_false q p.0 (omega arith))
    (kept_all (λ r. nat_lt q r.0) ps (weaker (λ r. p.0 < r.0) (λ r. nat_lt q r.0 ≡ true) (λ r k. lt_true q r.0 (omega arith)) ps h.0))

pub above_all : (p : ℕ × List ℕ) (ps : Pieces) (q : ℕ) → Ascends (p ∷ ps) → q < p.0 → pieces_above (p ∷ ps) q ≡ p ∷ ps
above_all p ps q h l =
    rw (lt_true q p.0 l)
    (ap (λ r. p ∷ r) (kept_all (λ r. nat_lt q r.0) ps (weaker (λ r. p.0 < r.0) (λ r. nat_lt q r.0 ≡ true) (λ r k. lt_true q r.0 (omega arith)) ps h.0)))

-- a piece put between those below and those above keeps the order
ascends_between : (xs ys : Pieces) (q : ℕ) (bytes : List ℕ) → Ascends xs → AllByRecursion (λ p. p.0 < q) xs → Ascends ys → AllByRecursion (λ p. q < p.0) ys → Ascends (xs ++ (q, bytes) ∷ ys)
ascends_between [] ys q bytes ax bx ay by' = (by', ay)
ascends_between (p ∷ ps) ys q bytes ax bx ay by' = (
  joined (λ r. p.0 < r.0) ps ((q, bytes) ∷ ys) ax.0 (bx.0, weaker (λ r. q < r.0) (λ r. p.0 < r.0) (λ r k. omega arith) ys by'),
  ascends_between ps ys q bytes ax.1 bx.1 ay by',
)

passing : (test : (ℕ × List ℕ) → Bool) (P : (ℕ × List ℕ) → Type 0) → ((p : ℕ × List ℕ) → test p ≡ true → P p) → (ps : Pieces) → AllByRecursion P (filter test ps)
passing test P f ps = weaker (λ p. test p ≡ true) P f (filter test ps) (recursion_from_All (λ p. test p ≡ true) (filter test ps) (filter_passes test ps))

pub below_passes : (ps : Pieces) (q : ℕ) → AllByRecursion (λ p. p.0 < q) (pieces_below ps q)
below_passes ps q = passing (λ p. nat_lt p.0 q) (λ p. p.0 < q) (λ p h. true_lt p.0 q h) ps

pub from_passes : (ps : Pieces) (q : ℕ) → AllByRecursion (λ p. q ≤ p.0) (pieces_from ps q)
from_passes ps q = passing (λ p. nat_le q p.0) (λ p. q ≤ p.0) (λ p h. true_le q p.0 h) ps

pub above_passes : (ps : Pieces) (q : ℕ) → AllByRecursion (λ p. q < p.0) (pieces_above ps q)
above_passes ps q = passing (λ p. nat_lt q p.0) (λ p. q < p.0) (λ p h. true_lt q p.0 h) ps

pub Ascends-with_piece : (ps : Pieces) (q : ℕ) (bytes : List ℕ) → Ascends ps → Ascends (with_piece ps q bytes)
Ascends-with_piece ps q bytes h =
    ascends_between (pieces_below ps q) (pieces_above ps q) q bytes
    (Ascends-filter (λ p. nat_lt p.0 q) ps h) (below_passes ps q) (Ascends-filter (λ p. nat_lt q p.0) ps h) (above_passes ps q)

pub All-with_piece : (P : (ℕ × List ℕ) → Type 0) (ps : Pieces) (q : ℕ) (bytes : List ℕ) → All P ps → P (q, bytes) → All P (with_piece ps q bytes)
All-with_piece P ps q bytes h k =
    All-append P (pieces_below ps q) ((q, bytes) ∷ pieces_above ps q) (All-filter (λ p. nat_lt p.0 q) P ps h)
    (All-cons P (q, bytes) (pieces_above ps q) k (All-filter (λ p. nat_lt q p.0) P ps h))

-- no filter has more bytes than the whole
pub fewer_bytes : (test : (ℕ × List ℕ) → Bool) (ps : Pieces) → length (bytes_of (filter test ps)) ≤ length (bytes_of ps)
fewer_bytes test [] = omega arith
fewer_bytes test (p ∷ ps) =
    elim (test p) as (λ b. length (bytes_of (cond b (p ∷ filter test ps) (filter test ps))) ≤ length (p.1 ++ bytes_of ps)) [
      | true ↦ omega (arith, length-append p.1 (bytes_of ps), length-append p.1 (bytes_of (filter test ps)), fewer_bytes test ps)
      | false ↦ omega (arith, length-append p.1 (bytes_of ps), fewer_bytes test ps)
    ]

pub bytes-append : (ps qs : Pieces) → bytes_of (ps ++ qs) ≡ bytes_of ps ++ bytes_of qs
bytes-append [] qs = refl
bytes-append (p ∷ ps) qs = ap (λ r. p.1 ++ r) (bytes-append ps qs) ∙ sym (append_assoc p.1 (bytes_of ps) (bytes_of qs))

at_index : (P : (ℕ × List ℕ) → Type 0) (xs : Pieces) (k : ℕ) (d : ℕ × List ℕ) → k < length xs → AllByRecursion P (drop k xs) → P (get_or xs k d)
at_index P [] k d l h = absurd (omega arith)
at_index P (p ∷ ps) zero d l h = h.0
at_index P (p ∷ ps) (suc k) d l h = at_index P ps k d (omega arith) h

-- a piece put in front of those from its position on, in place of one there or where there is none
put_first : (p : ℕ × List ℕ) (ps qs : Pieces) (q : ℕ) (bytes : List ℕ) → [] ≡ pieces_below (p ∷ ps) q → pieces_above (p ∷ ps) q ≡ qs → (q, bytes) ∷ qs ≡ with_piece (p ∷ ps) q bytes
put_first p ps qs q bytes e f = rw (← e, f) refl

put_behind : (p : ℕ × List ℕ) (ps qs : Pieces) (q : ℕ) (bytes : List ℕ) → p.0 < q → qs ≡ with_piece ps q bytes → p ∷ qs ≡ with_piece (p ∷ ps) q bytes
put_behind p ps qs q bytes l e = rw (lt_true p.0 q l, lt_false q p.0 (omega arith)) (ap (λ r. p ∷ r) e)

put_over : (xs : Pieces) (k q : ℕ) (bytes : List ℕ) (d : ℕ × List ℕ) → Ascends xs → k < length xs
    → AllByRecursion (λ p. p.0 < q) (take k xs) → (get_or xs k d).0 ≡ q → insert (remove xs k) k (q, bytes) ≡ with_piece xs q bytes
put_over [] k q bytes d h l a e = absurd (omega arith)
put_over (p ∷ ps) zero q bytes d h l a e = put_first p ps ps q bytes (begins_from p ps q h (omega arith)).0 (above_same p ps q h e)
put_over (p ∷ ps) (suc k) q bytes d h l a e =
    put_behind p ps (insert (remove ps k) k (q, bytes)) q bytes a.0 (put_over ps k q bytes d h.1 (omega arith) a.1 e)

put_between : (xs : Pieces) (k q : ℕ) (bytes : List ℕ) (d : ℕ × List ℕ) → Ascends xs → k < length xs
    → AllByRecursion (λ p. p.0 < q) (take k xs) → q < (get_or xs k d).0 → insert xs k (q, bytes) ≡ with_piece xs q bytes
put_between [] k q bytes d h l a e = absurd (omega arith)
put_between (p ∷ ps) zero q bytes d h l a e = put_first p ps (p ∷ ps) q bytes (begins_from p ps q h (omega arith)).0 (above_all p ps q h e)
put_between (p ∷ ps) (suc k) q bytes d h l a e =
    put_behind p ps (insert ps k (q, bytes)) q bytes a.0 (put_between ps k q bytes d h.1 (omega arith) a.1 e)

put_last : (xs : Pieces) (k q : ℕ) (bytes : List ℕ) → length xs ≤ k
    → AllByRecursion (λ p. p.0 < q) (take k xs) → insert xs k (q, bytes) ≡ with_piece xs q bytes
put_last [] zero q bytes l a = refl
put_last [] (suc k) q bytes l a = refl
put_last (p ∷ ps) zero q bytes l a = absurd (omega arith)
put_last (p ∷ ps) (suc k) q bytes l a = put_behind p ps (insert ps k (q, bytes)) q bytes a.0 (put_last ps k q bytes (omega arith) a.1)

all_below : (xs : Pieces) (k q : ℕ) → take k xs ≡ pieces_below xs q → AllByRecursion (λ p. p.0 < q) (take k xs)
all_below xs k q e = subst (λ ys. AllByRecursion (λ (p : ℕ × List ℕ). p.0 < q) ys) (sym e) (below_passes xs q)

pub put_replaces : (xs : Pieces) (k q : ℕ) (bytes : List ℕ) (d : ℕ × List ℕ) → Ascends xs → k < length xs
    → take k xs ≡ pieces_below xs q → (get_or xs k d).0 ≡ q → insert (remove xs k) k (q, bytes) ≡ with_piece xs q bytes
put_replaces xs k q bytes d h l e f = put_over xs k q bytes d h l (all_below xs k q e) f

pub put_inserts : (xs : Pieces) (k q : ℕ) (bytes : List ℕ) (d : ℕ × List ℕ) → Ascends xs → k < length xs
    → take k xs ≡ pieces_below xs q → drop k xs ≡ pieces_from xs q → (get_or xs k d).0 ≢ q → insert xs k (q, bytes) ≡ with_piece xs q bytes
put_inserts xs k q bytes d h l e f n =
    let here : q ≤ (get_or xs k d).0 =
    at_index (λ p. q ≤ p.0) xs k d l (subst (λ ys. AllByRecursion (λ (p : ℕ × List ℕ). q ≤ p.0) ys) (sym f) (from_passes xs q)) in
    put_between xs k q bytes d h l (all_below xs k q e) (omega arith)

pub put_ends : (xs : Pieces) (k q : ℕ) (bytes : List ℕ) → length xs ≤ k
    → take k xs ≡ pieces_below xs q → insert xs k (q, bytes) ≡ with_piece xs q bytes
put_ends xs k q bytes l e = put_last xs k q bytes l (all_below xs k q e)

-- the first pieces and the next one have no more bytes than all
pub part_of_bytes : (xs : Pieces) (k : ℕ) (d : ℕ × List ℕ) → k < length xs → length (bytes_of (take k xs)) + length (get_or xs k d).1 ≤ length (bytes_of xs)
part_of_bytes [] k d l = absurd (omega arith)
part_of_bytes (p ∷ ps) zero d l = omega (arith, length-append p.1 (bytes_of ps))
part_of_bytes (p ∷ ps) (suc k) d l =
    omega (arith, length-append p.1 (bytes_of ps), length-append p.1 (bytes_of (take k ps)), part_of_bytes ps k d (omega arith))

-- where there is no trouble from n to q, the bytes are as many as lie between
if_none : (b : Bool) (x : DataFault) (r : Option DataFault) → cond b (Some x) r ≡ None → (b ≡ false) × (r ≡ None)
if_none true x r e = absurd (cc)
if_none false x r e = (refl, e)

pub on_the_way : (p : ℕ × List ℕ) (ps : Pieces) (n q : ℕ) → first_trouble (p ∷ ps) n q ≡ None → (n ≡ p.0) × (first_trouble ps (n + length p.1) q ≡ None)
on_the_way p ps n q e =
    let a = if_none (nat_lt n p.0) (Gap n) (cond (nat_lt p.0 n) (Some (Overlap p.0)) (first_trouble ps (n + length p.1) q)) e in
    let b = if_none (nat_lt p.0 n) (Overlap p.0) (first_trouble ps (n + length p.1) q) a.1 in
    let low : p.0 ≤ n = false_lt n p.0 a.0 in
    let high : n ≤ p.0 = false_lt p.0 n b.0 in
    (omega arith, b.1)

pub at_the_end : (n q : ℕ) → first_trouble [] n q ≡ None → n ≡ q
at_the_end n q e =
    let a = if_none (nat_lt n q) (Gap n) (cond (nat_lt q n) (Some WrongPosition) None) e in
    let b = if_none (nat_lt q n) WrongPosition None a.1 in
    let low : q ≤ n = false_lt n q a.0 in
    let high : n ≤ q = false_lt q n b.0 in
    omega arith

pub bytes_between : (ps : Pieces) (n q : ℕ) → first_trouble ps n q ≡ None → n + length (bytes_of ps) ≡ q
bytes_between [] n q e = let h : n ≡ q = at_the_end n q e in omega arith
bytes_between (p ∷ ps) n q e =
    let h : (n ≡ p.0) × (first_trouble ps (n + length p.1) q ≡ None) = on_the_way p ps n q e in
    omega (arith, length-append p.1 (bytes_of ps), bytes_between ps (n + length p.1) q h.1)

-- and q is within a limit that n and the ends of all pieces keep
pub ends_within : (m : ℕ) (ps : Pieces) (n q : ℕ) → n ≤ m → AllByRecursion (λ p. end_of p ≤ m) ps → first_trouble ps n q ≡ None → q ≤ m
ends_within m [] n q l a e = let h : n ≡ q = at_the_end n q e in omega arith
ends_within m (p ∷ ps) n q l a e =
    let h : (n ≡ p.0) × (first_trouble ps (n + length p.1) q ≡ None) = on_the_way p ps n q e in
    let first : p.0 + length p.1 ≤ m = a.0 in
    ends_within m ps (n + length p.1) q (omega arith) a.1 h.1
