-- The plan that keeps what is read and written, id by id; and that it is within what is held.
use Rattle.std.proofs.Common.{◌≡◌, ◌≢◌, inl, inr, ℕ, zero, suc, ◌%◌, ◌==◌, ◌<◌, Bool, true, false, ◌||◌, List, [], ◌∷◌, ◌++◌, length, length-set, replicate, slice_get, slice_set, Some, unwrap_or, refl, ap, sym, subst, ◌∙◌, arith}
use Rattle.std.proofs.lemmas.Bool.{false≢true}
use Rattle.std.proofs.lemmas.List.{length-replicate}
use Rattle.std.proofs.lemmas.List.Folds.{list_any-append}
use Rattle.std.proofs.lemmas.Option.{same_Some}
use Rattle.std.specs.Cmp.{unsigned_Decides}
use Rattle.lock_core.specs.declared.object.LockMode.{LockMode}
use Rattle.lock_core.specs.declared.object.LockMode.TheVariants as mode
use Rattle.lock_core.specs.Object.{mode_of}
use Rattle.namespace_model.specs.declared.request.Request.{Request}
use Rattle.inode_tree.specs.declared.draft.Draft.{Draft}
use Rattle.inode_tree.specs.declared.fresh.Fresh.{Fresh}
use Rattle.inode_tree.specs.declared.id.NodeId.{NodeId}
use Rattle.inode_tree.specs.Footprints.{lies_in}
use Rattle.inode_tree.specs.Promises.{numbers_of, IsDraft}
use Rattle.inode_tree.specs.Stripes.{StripeRecord}
use Rattle.inode_tree.specs.Views.{Shown, covers}
use Rattle.inode_tree.proofs.PromiseLemmas.{lies_one}
use Rattle.inode_tree.proofs.TurnLemmas.{number_tells}
use Rattle.path_locks.specs.Narrow.{IsBelow, IsWithin}
use Rattle.path_locks.specs.Plans.{no_plan}
use Rattle.path_locks.specs.Views.{HeldView}
use Rattle.path_walk.proofs.TrailLemmas.{numbers-append}
use Rattle.service_workers.specs.Looks.{mode_in}
use Rattle.service_workers.specs.Drafts.{AreKept}

get-replicate : {A : Type 0} (n k : ℕ) (a : A) → k < n → slice_get (replicate n a) k ≡ Some a
get-replicate zero k a h = absurd (omega (arith, h))
get-replicate (suc n) zero a h = refl
get-replicate (suc n) (suc k) a h = get-replicate n k a (omega (arith, h))

get-set_same : {A : Type 0} (xs : List A) (i : ℕ) (a : A) → i < length xs → slice_get (slice_set xs i a) i ≡ Some a
get-set_same [] i a h = absurd (omega (arith, h))
get-set_same (x ∷ xs) zero a h = refl
get-set_same (x ∷ xs) (suc i) a h = get-set_same xs i a (omega (arith, h))

get-set_other : {A : Type 0} (xs : List A) (i k : ℕ) (a : A) → k ≢ i → slice_get (slice_set xs i a) k ≡ slice_get xs k
get-set_other [] i k a h = refl
get-set_other (x ∷ xs) zero zero a h = absurd (h refl)
get-set_other (x ∷ xs) zero (suc k) a h = refl
get-set_other (x ∷ xs) (suc i) zero a h = refl
get-set_other (x ∷ xs) (suc i) (suc k) a h = get-set_other xs i k a (λ e. h (ap suc e))

or_false : (b : Bool) → (b || false) ≡ b
or_false true = refl
or_false false = refl

or_true : (b : Bool) → (b || true) ≡ true
or_true true = refl
or_true false = refl

-- one id more
more : (k : ℕ) (ids : List NodeId) (one : NodeId) → lies_in k (numbers_of (ids ++ one ∷ [])) ≡ (lies_in k (numbers_of ids) || ((one.0 % 64 == k) || false))
more k ids one = ap (lies_in k) (numbers-append ids (one ∷ [])) ∙ list_any-append (λ id. id % 64 == k) (numbers_of ids) (one.0 ∷ [])

more_here : (k : ℕ) (ids : List NodeId) (one : NodeId) → one.0 % 64 ≡ k → lies_in k (numbers_of (ids ++ one ∷ [])) ≡ true
more_here k ids one e = more k ids one ∙ ap (λ c. lies_in k (numbers_of ids) || (c || false)) ((unsigned_Decides (one.0 % 64) k).1 e) ∙ or_true (lies_in k (numbers_of ids))

more_else : (k : ℕ) (ids : List NodeId) (one : NodeId) → (one.0 % 64 == k) ≡ false → lies_in k (numbers_of (ids ++ one ∷ [])) ≡ lies_in k (numbers_of ids)
more_else k ids one e = more k ids one ∙ ap (λ c. lies_in k (numbers_of ids) || (c || false)) e ∙ or_false (lies_in k (numbers_of ids))

pub kept_none : AreKept [] [] no_plan
kept_none = record { long = length-replicate 64 mode.None; modes = λ k h. get-replicate 64 k mode.None h }

pub read_more : (ids : List NodeId) (one : NodeId) (plan : List LockMode) → AreKept ids [] plan → AreKept (ids ++ one ∷ []) [] (slice_set plan (one.0 % 64) mode.Shared)
read_more ids one plan so = record {
  long = length-set plan (one.0 % 64) mode.Shared ∙ so.long;
  modes = λ k h. elim (number_tells (one.0 % 64) k) [
    | inl e ↦
        ap (slice_get (slice_set plan (one.0 % 64) mode.Shared)) (sym e) ∙ get-set_same plan (one.0 % 64) mode.Shared (omega (arith, so.long, h, e))
        ∙ ap (λ b. Some (mode_of false b)) (sym (more_here k ids one e))
    | inr other ↦
        get-set_other plan (one.0 % 64) k mode.Shared (λ e. false≢true (sym other ∙ (unsigned_Decides (one.0 % 64) k).1 (sym e))) ∙ so.modes k h
        ∙ ap (λ b. Some (mode_of false b)) (sym (more_else k ids one other))
  ];
}

pub write_more : (reads ids : List NodeId) (one : NodeId) (plan : List LockMode) → AreKept reads ids plan → AreKept reads (ids ++ one ∷ []) (slice_set plan (one.0 % 64) mode.Exclusive)
write_more reads ids one plan so = record {
  long = length-set plan (one.0 % 64) mode.Exclusive ∙ so.long;
  modes = λ k h. elim (number_tells (one.0 % 64) k) [
    | inl e ↦
        ap (slice_get (slice_set plan (one.0 % 64) mode.Exclusive)) (sym e) ∙ get-set_same plan (one.0 % 64) mode.Exclusive (omega (arith, so.long, h, e))
        ∙ ap (λ b. Some (mode_of b (lies_in k (numbers_of reads)))) (sym (more_here k ids one e))
    | inr other ↦
        get-set_other plan (one.0 % 64) k mode.Exclusive (λ e. false≢true (sym other ∙ (unsigned_Decides (one.0 % 64) k).1 (sym e))) ∙ so.modes k h
        ∙ ap (λ b. Some (mode_of b (lies_in k (numbers_of reads)))) (sym (more_else k ids one other))
  ];
}

-- ---- within what is held

below_exclusive : (m : LockMode) → IsBelow m mode.Exclusive
below_exclusive mode.None = tt
below_exclusive mode.Shared = tt
below_exclusive mode.Exclusive = tt

below_covers : (n : LockMode) → covers n mode.Shared ≡ true → IsBelow mode.Shared n
below_covers mode.None e = false≢true e
below_covers mode.Shared e = tt
below_covers mode.Exclusive e = tt

below_by : (w r : Bool) (n : LockMode) → (w ≡ true → n ≡ mode.Exclusive) → (r ≡ true → covers n mode.Shared ≡ true) → IsBelow (mode_of w r) n
below_by true r n out seen = subst (IsBelow mode.Exclusive) (sym (out refl)) tt
below_by false true n out seen = below_covers n (seen refl)
below_by false false n out seen = tt

pub kept_within : (h : HeldView StripeRecord) (shown : Shown) (request : Request) (moment : ℕ) (fresh : Fresh) (d : Draft) → IsDraft (mode_in h) shown request moment fresh d
    → (keep : List LockMode) → AreKept d.reads.items d.writes.items keep → IsWithin keep h.modes
kept_within h shown request moment fresh d draft keep so k m n less at there =
    subst (λ x. IsBelow x n) (same_Some (mode_of (lies_in k (numbers_of d.writes.items)) (lies_in k (numbers_of d.reads.items))) m (sym (so.modes k less) ∙ at))
    (below_by (lies_in k (numbers_of d.writes.items)) (lies_in k (numbers_of d.reads.items)) n
    (λ w. let l = lies_one k (numbers_of d.writes.items) w in sym mode_is ∙ subst (λ s. mode_in h s ≡ mode.Exclusive) l.2 (draft.held_exclusively l.0 l.1))
    (λ r. let l = lies_one k (numbers_of d.reads.items) r in ap (λ x. covers x mode.Shared) (sym mode_is) ∙ subst (λ s. covers (mode_in h s) mode.Shared ≡ true) l.2 (draft.held_shared l.0 l.1)))
  where
    mode_is : mode_in h k ≡ n
    mode_is = ap (λ o. unwrap_or o mode.None) there
