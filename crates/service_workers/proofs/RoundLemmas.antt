-- Each round makes the plan wider, and no plan is wider than 128.
use Rattle.std.proofs.Common.{◌≡◌, ◌≢◌, ℕ, zero, suc, ◌+◌, ◌*◌, ◌<◌, ◌≤◌, false, List, [], ◌∷◌, length, length-set, min, slice_get, slice_set, unwrap_or, Some, refl, ap, sym, ◌∙◌, arith}
use Rattle.std.proofs.lemmas.Bool.{false≢true}
use Rattle.std.proofs.lemmas.List.Sums.{sum_by-append}
use Rattle.lock_core.specs.declared.object.LockMode.{LockMode}
use Rattle.lock_core.specs.declared.object.LockMode.TheVariants as mode
use Rattle.inode_tree.specs.declared.placed.Placed.{Placed}
use Rattle.inode_tree.specs.declared.need.Need.{Need}
use Rattle.inode_tree.specs.Stripes.{StripeRecord}
use Rattle.inode_tree.specs.Views.{covers}
use Rattle.path_locks.specs.Plans.{width, wide_of}
use Rattle.path_locks.specs.Views.{SeatView, HeldView, TableView, IsSameSeat}
use Rattle.service_workers.specs.Looks.{NamespacePass, mode_in}
use Rattle.service_workers.specs.Rounds.{IsPlan, IsHolding, IsRound}

-- what is lacking is wider
lacking_wider : (a b : LockMode) → covers a b ≡ false → width a < width b
lacking_wider mode.None mode.None e = absurd (false≢true (sym e))
lacking_wider mode.None mode.Shared e = omega arith
lacking_wider mode.None mode.Exclusive e = omega arith
lacking_wider mode.Shared mode.None e = absurd (false≢true (sym e))
lacking_wider mode.Shared mode.Shared e = absurd (false≢true (sym e))
lacking_wider mode.Shared mode.Exclusive e = omega arith
lacking_wider mode.Exclusive mode.None e = absurd (false≢true (sym e))
lacking_wider mode.Exclusive mode.Shared e = absurd (false≢true (sym e))
lacking_wider mode.Exclusive mode.Exclusive e = absurd (false≢true (sym e))

-- what is lacking is some mode
pub lacking_some : (a b : LockMode) → covers a b ≡ false → b ≢ mode.None
lacking_some a b e none = false≢true (sym (ap (covers a) (sym none) ∙ e))

width_most : (m : LockMode) → width m ≤ 2
width_most mode.None = omega arith
width_most mode.Shared = omega arith
width_most mode.Exclusive = omega arith

wide_cons : (m : LockMode) (plan : List LockMode) → wide_of (m ∷ plan) ≡ wide_of plan + width m
wide_cons m plan =
    let sum : wide_of (m ∷ plan) ≡ (0 + width m) + wide_of plan = sum_by-append width (m ∷ []) plan in
    omega (arith, sum)

pub wide_most : (plan : List LockMode) → wide_of plan ≤ 2 * length plan
wide_most [] = omega arith
wide_most (m ∷ plan) =
    let sum = wide_cons m plan in
    let long : length (m ∷ plan) ≡ suc (length plan) = refl in
    omega (arith, sum, long, width_most m, wide_most plan)

wide_set : (plan : List LockMode) (k : ℕ) (m : LockMode) → k < length plan → wide_of (slice_set plan k m) + width (unwrap_or (slice_get plan k) mode.None) ≡ wide_of plan + width m
wide_set [] k m h = absurd (omega (arith, h))
wide_set (x ∷ plan) zero m h =
    let sum : wide_of (m ∷ plan) + width x ≡ wide_of (x ∷ plan) + width m = omega (arith, wide_cons m plan, wide_cons x plan) in sum
wide_set (x ∷ plan) (suc k) m h =
    let rest : wide_of (slice_set plan k m) + width (unwrap_or (slice_get plan k) mode.None) ≡ wide_of plan + width m = wide_set plan k m (omega (arith, h)) in
    let sum : wide_of (x ∷ slice_set plan k m) + width (unwrap_or (slice_get plan k) mode.None) ≡ wide_of (x ∷ plan) + width m = omega (arith, rest, wide_cons x (slice_set plan k m), wide_cons x plan) in sum

-- the plan that is needed is wider, by 1 or 2
wider : (plan : List LockMode) (k : ℕ) (m : LockMode) → k < length plan → covers (unwrap_or (slice_get plan k) mode.None) m ≡ false
    → (wide_of plan < wide_of (slice_set plan k m)) × (wide_of (slice_set plan k m) ≤ wide_of plan + 2)
wider plan k m h lacks =
    let set = wide_set plan k m h in
    let less = lacking_wider (unwrap_or (slice_get plan k) mode.None) m lacks in
    (omega (arith, set, less), omega (arith, set, width_most m))

-- a stripe that wasn't held makes a plan wider by its mode
added_wide : (plan : List LockMode) (k : ℕ) (m : LockMode) → length plan ≡ 64 → k < 64 → slice_get plan k ≡ Some mode.None → min (wide_of plan + width m) 4294967295 ≡ wide_of (slice_set plan k m)
added_wide plan k m long less none =
    let set = wide_set plan k m (omega (arith, long, less)) in
    let nothing : width (unwrap_or (slice_get plan k) mode.None) ≡ 0 = ap (λ o. width (unwrap_or o mode.None)) none in
    omega (arith, set, nothing, long, wide_most plan, width_most m)

-- what is held with a stripe added to it
pub added_plan : (held new : HeldView StripeRecord) (plan next : List LockMode) (k : ℕ) (m : LockMode) → IsPlan held plan → k < 64 → slice_get plan k ≡ Some mode.None
    → next ≡ slice_set plan k m → new.modes ≡ slice_set held.modes k m → new.wide ≡ min (held.wide + width m) 4294967295 → IsPlan new next
added_plan held new plan next k m so less none is modes wide = record {
  modes = modes ∙ ap (λ (l : List LockMode). slice_set l k m) so.modes ∙ sym is;
  long = ap length is ∙ length-set plan k m ∙ so.long;
  wide = wide ∙ ap (λ w. min (w + width m) 4294967295) so.wide ∙ added_wide plan k m so.long less none ∙ sym (ap wide_of is);
}

-- ---- passes

pub same_seats : {T E K : Type 0} (a b c : SeatView T E K) → IsSameSeat a b → IsSameSeat b c → IsSameSeat a c
same_seats a b c x y = record {
  table = y.table ∙ x.table;
  place = y.place ∙ x.place;
  number = y.number ∙ x.number;
  olds = y.olds ∙ x.olds;
  before = y.before ∙ x.before;
  made = y.made ∙ x.made;
  limits = y.limits ∙ x.limits;
  taken = y.taken ∙ x.taken;
  tape = y.tape ∙ x.tape;
}

module _ {K : Type 0} (store : TableView Placed) (a b c : NamespacePass K) (held : HeldView StripeRecord) (plan : List LockMode) where
  -- what is held by a pass that came from another one
  pub holding_from : IsSameSeat a.seat b.seat → (b.seat.me.0.at.seen ≡ a.seat.me.0.at.seen) → (b.seat.me.0.at.mine ≡ a.seat.me.0.at.mine) → b.wide ≡ a.wide
      → IsHolding store b c held plan → IsHolding store a c held plan
  holding_from same seen mine last so = record {
    own = so.own;
    same = same_seats a.seat b.seat c.seat same so.same;
    holds = so.holds;
    found = so.found;
    planned = so.planned;
    seen = so.seen ∙ seen;
    mine = so.mine ∙ mine;
    last = so.last ∙ last;
  }

module _ {K : Type 0} (store : TableView Placed) (old a b c : NamespacePass K) (first h k : HeldView StripeRecord) (before plan next : List LockMode) (rounds : ℕ) (n : Need) where
  -- one round more: what was lacking is held beside the rest
  pub round_next : IsRound store old a first before rounds → plan ≡ before → IsHolding store a b h plan → n.stripe < 64 → covers (mode_in h n.stripe) n.mode ≡ false
      → IsHolding store b c k next → next ≡ slice_set plan n.stripe n.mode → IsRound store old c k next (rounds + 1)
  round_next so same looked within lacks raised is =
      let lacks_plan : covers (unwrap_or (slice_get plan n.stripe) mode.None) n.mode ≡ false = ap (λ l. covers (unwrap_or (slice_get l n.stripe) mode.None) n.mode) (sym looked.planned.modes) ∙ lacks in
      let more = wider plan n.stripe n.mode (omega (arith, within, looked.planned.long)) lacks_plan in
      let new : wide_of next ≡ wide_of (slice_set plan n.stripe n.mode) = ap wide_of is in
      let old_wide : wide_of plan ≡ wide_of before = ap wide_of same in
      let from : IsHolding store a c k next = holding_from store a b c k next looked.same looked.seen looked.mine looked.last raised in
      record {
        holding = holding_from store old a c k next so.holding.same so.holding.seen so.holding.mine so.holding.last from;
        least = omega (arith, new, old_wide, more.0, so.least);
        most = omega (arith, new, old_wide, more.1, so.most);
      }

-- there are at most 128 rounds in which something is lacking
pub no_more_rounds : {K : Type 0} (store : TableView Placed) (old new : NamespacePass K) (h : HeldView StripeRecord) (plan : List LockMode) (rounds : ℕ) → IsRound store old new h plan rounds → rounds ≤ 128
no_more_rounds store old new h plan rounds so = omega (arith, so.least, so.holding.planned.long, wide_most plan)
