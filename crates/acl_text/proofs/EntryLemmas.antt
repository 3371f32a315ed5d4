-- Lists of entries in printed order, and the finite maps that they stand for.
use Rattle.std.proofs.Common.{◌≡◌, ℕ, suc, ◌<◌, ◌≤◌, Bool, true, false, cond, List, [], ◌∷◌, length, get_or, set, insert, IsTrue, T, None, Result, Ok, Err, refl, sym, ap, subst, ◌∙◌, arith}
use Rattle.std.specs.declared.cmp.Ordering.TheVariants.{Less, Equal, Greater}
use Rattle.std.specs.FinMap as fin
use Rattle.std.specs.FinMap.{put, is_sorted}
use Rattle.std.specs.FinMap.Entries.{where_key, is_sorted-where_key, find-where_key, same_entries, is_sorted-put, by_order}
use Rattle.acl_text.specs.declared.who.Who.{Who}
use Rattle.acl_text.specs.Whos.{who_cmp}
use Rattle.acl_text.specs.Held.{IsHeld, AreHeld}
use Rattle.acl_text.specs.AclMaps.{AclMap}
use Rattle.acl_text.specs.Places.{place_of, stands_in}
use Rattle.std.proofs.lemmas.Bool.{false≢true}
use Rattle.acl_text.proofs.WhoLemmas.{who_cmp_total, who_cmp-IsAntisymmetric}

pub in_order : (b : Bool) → IsTrue b → T b
in_order b e = subst T (sym e) tt

pub is_true : (b : Bool) → T b → IsTrue b
is_true true h = refl
is_true false h = absurd h

-- a sorted list is the entries of its map
pub entries-map : (es : List (Who × ℕ)) → IsTrue (is_sorted who_cmp es) → fin.entries (fin.from_sorted {R = who_cmp} es) ≡ es
entries-map es h = fin.entries-from_sorted who_cmp es (in_order _ h)

-- a map is that of its entries
pub map-entries : (m : AclMap) → fin.from_sorted (fin.entries m) ≡ m
map-entries m = fin.same_entries_map _ m (fin.entries-from_sorted who_cmp (fin.entries m) (fin.entries_sorted m))

pub sorted-entries : (m : AclMap) → IsTrue (is_sorted who_cmp (fin.entries m))
sorted-entries m = is_true _ (fin.entries_sorted m)

-- the map of a list, where the list is the entries of a map
pub map_is : (es : List (Who × ℕ)) (m : AclMap) → es ≡ fin.entries m → fin.from_sorted es ≡ m
map_is es m e = ap fin.from_sorted e ∙ map-entries m

-- a test answers alike at ties
alike : (p : Who → Bool) (q x : Who) → who_cmp q x ≡ Equal → p x ≡ p q
alike p q x t = ap p (sym (who_cmp-IsAntisymmetric q x t))

pub entries-retain_keys : (m : AclMap) (p : Who → Bool) → fin.entries (fin.retain_keys m p) ≡ where_key who_cmp p (fin.entries m)
entries-retain_keys m p =
    same_entries who_cmp who_cmp_total who_cmp-IsAntisymmetric _ _
    (fin.entries_sorted (fin.retain_keys m p))
    (is_sorted-where_key who_cmp p (fin.entries m) (fin.entries_sorted m))
    (λ q. sym (fin.get-entries (fin.retain_keys m p) q) ∙ fin.get-retain_keys m p q (alike p q)
    ∙ ap (λ o. cond (p q) o None) (fin.get-entries m q) ∙ sym (find-where_key who_cmp p q (alike p q) (fin.entries m)))

-- what a filter keeps of a sorted list
pub kept_sorted : (p : Who → Bool) (es : List (Who × ℕ)) → IsTrue (is_sorted who_cmp es) → IsTrue (is_sorted who_cmp (where_key who_cmp p es))
kept_sorted p es h = is_true _ (is_sorted-where_key who_cmp p es (in_order _ h))

pub map-kept : (p : Who → Bool) (es : List (Who × ℕ)) → IsTrue (is_sorted who_cmp es)
    → fin.from_sorted {R = who_cmp} (where_key who_cmp p es) ≡ fin.retain_keys (fin.from_sorted es) p
map-kept p es h = map_is _ _ (ap (where_key who_cmp p) (sym (entries-map es h)) ∙ sym (entries-retain_keys (fin.from_sorted es) p))

pub put_sorted : (k : Who) (v : ℕ) (es : List (Who × ℕ)) → IsTrue (is_sorted who_cmp es) → IsTrue (is_sorted who_cmp (put who_cmp k v es))
put_sorted k v es h = is_true _ (is_sorted-put who_cmp who_cmp_total k v es (in_order _ h))

pub map-put : (k : Who) (v : ℕ) (es : List (Who × ℕ)) → IsTrue (is_sorted who_cmp es)
    → fin.from_sorted {R = who_cmp} (put who_cmp k v es) ≡ fin.insert (fin.from_sorted es) k v
map-put k v es h = map_is _ _ (ap (put who_cmp k v) (sym (entries-map es h)) ∙ sym (fin.entries-insert who_cmp_total (fin.from_sorted es) k v))

-- where an entry of the key stands, it is within the list, and its value is new
pub put-there : (k : Who) (v : ℕ) (es : List (Who × ℕ)) (d : Who × ℕ) → stands_in k es ≡ true
    → (place_of k es < length es) × (put who_cmp k v es ≡ set es (place_of k es) ((get_or es (place_of k es) d).0, v))
put-there k v [] d = λ there. absurd (false≢true there)
put-there k v (e ∷ es) d =
    elim (who_cmp k e.0) as (λ o. by_order o false true (stands_in k es) ≡ true
    → (by_order o 0 0 (suc (place_of k es)) < suc (length es))
    × (by_order o ((k, v) ∷ e ∷ es) ((e.0, v) ∷ es) (e ∷ put who_cmp k v es)
    ≡ set (e ∷ es) (by_order o 0 0 (suc (place_of k es))) ((get_or (e ∷ es) (by_order o 0 0 (suc (place_of k es))) d).0, v))) [
      | Less ↦ λ there. absurd (false≢true there)
      | Equal ↦ λ there. (omega arith, refl)
      | Greater ↦ λ there. let p = put-there k v es d there in (omega (arith, p.0), ap (λ xs. e ∷ xs) p.1)
    ]

-- else it is a new entry at its place
pub put-new : (k : Who) (v : ℕ) (es : List (Who × ℕ)) → stands_in k es ≡ false
    → (place_of k es ≤ length es) × (put who_cmp k v es ≡ insert es (place_of k es) (k, v))
put-new k v [] = λ new. (omega arith, refl)
put-new k v (e ∷ es) =
    elim (who_cmp k e.0) as (λ o. by_order o false true (stands_in k es) ≡ false
    → (by_order o 0 0 (suc (place_of k es)) ≤ suc (length es))
    × (by_order o ((k, v) ∷ e ∷ es) ((e.0, v) ∷ es) (e ∷ put who_cmp k v es)
    ≡ insert (e ∷ es) (by_order o 0 0 (suc (place_of k es))) (k, v))) [
      | Less ↦ λ new. (omega arith, refl)
      | Equal ↦ λ new. absurd (false≢true (sym new))
      | Greater ↦ λ new. let p = put-new k v es new in (omega (arith, p.0), ap (λ xs. e ∷ xs) p.1)
    ]

pub place_found : (t : Bool) (p at : ℕ) (r : Result ℕ ℕ) → r ≡ cond t (Ok p) (Err p) → r ≡ Ok at → (t ≡ true) × (at ≡ p)
place_found true p at r e is = (refl, (cc))
place_found false p at r e is = (cc)

pub place_free : (t : Bool) (p at : ℕ) (r : Result ℕ ℕ) → r ≡ cond t (Ok p) (Err p) → r ≡ Err at → (t ≡ false) × (at ≡ p)
place_free true p at r e is = (cc)
place_free false p at r e is = (refl, (cc))

pub put_or_kept_sorted : (b : Bool) (k : Who) (v : ℕ) (es : List (Who × ℕ)) → IsTrue (is_sorted who_cmp es)
    → IsTrue (is_sorted who_cmp (cond b (put who_cmp k v es) es))
put_or_kept_sorted true k v es h = put_sorted k v es h
put_or_kept_sorted false k v es h = h

pub map-put_or_kept : (b : Bool) (k : Who) (v : ℕ) (es : List (Who × ℕ)) → IsTrue (is_sorted who_cmp es)
    → fin.from_sorted {R = who_cmp} (cond b (put who_cmp k v es) es) ≡ cond b (fin.insert (fin.from_sorted es) k v) (fin.from_sorted es)
map-put_or_kept true k v es h = map-put k v es h
map-put_or_kept false k v es h = refl

-- what a place that was found, or a free one, says of the list with the new entry
pub put-found : (k : Who) (v : ℕ) (es : List (Who × ℕ)) (at : ℕ) (r : Result ℕ ℕ) (d : Who × ℕ)
    → r ≡ cond (stands_in k es) (Ok (place_of k es)) (Err (place_of k es)) → r ≡ Ok at
    → (at < length es) × (put who_cmp k v es ≡ set es at ((get_or es at d).0, v))
put-found k v es at r d e is =
    let found = place_found (stands_in k es) (place_of k es) at r e is in
    let there = put-there k v es d found.0 in
    rw found.1 there

pub put-free : (k : Who) (v : ℕ) (es : List (Who × ℕ)) (at : ℕ) (r : Result ℕ ℕ)
    → r ≡ cond (stands_in k es) (Ok (place_of k es)) (Err (place_of k es)) → r ≡ Err at
    → (at ≤ length es) × (put who_cmp k v es ≡ insert es at (k, v))
put-free k v es at r e is =
    let free = place_free (stands_in k es) (place_of k es) at r e is in
    let new = put-new k v es free.0 in
    rw free.1 new

-- what every entry keeps stays so where one is put, and where some are taken away
pub held_put : (k : Who) (v : ℕ) (es : List (Who × ℕ)) → IsHeld (k, v) → AreHeld es → AreHeld (put who_cmp k v es)
held_put k v [] new h = (new, tt)
held_put k v (e ∷ es) new h =
    elim (who_cmp k e.0) as (λ o. AreHeld (by_order o ((k, v) ∷ e ∷ es) ((e.0, v) ∷ es) (e ∷ put who_cmp k v es))) [
      | Less ↦ (new, h)
      | Equal ↦ ((h.0.0, new.1), h.1)
      | Greater ↦ (h.0, held_put k v es new h.1)
    ]

pub held_put_or_kept : (b : Bool) (k : Who) (v : ℕ) (es : List (Who × ℕ)) → IsHeld (k, v) → AreHeld es → AreHeld (cond b (put who_cmp k v es) es)
held_put_or_kept true k v es new h = held_put k v es new h
held_put_or_kept false k v es new h = h

pub held_kept : (p : Who → Bool) (es : List (Who × ℕ)) → AreHeld es → AreHeld (where_key who_cmp p es)
held_kept p [] h = tt
held_kept p (e ∷ es) h =
    elim (p e.0) as (λ b. AreHeld (cond b (e ∷ where_key who_cmp p es) (where_key who_cmp p es))) [
      | true ↦ (h.0, held_kept p es h.1)
      | false ↦ held_kept p es h.1
    ]
