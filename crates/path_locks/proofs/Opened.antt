-- The table at its start has the rule.
use Rattle.std.proofs.Common.{◌≡◌, ℕ, zero, suc, ◌+◌, ◌<◌, ◌≤◌, true, List, [], ◌∷◌, ◌++◌, length, map, replicate, refl, ap, sym, ◌∙◌, subst, length-append, arith}
use Rattle.lock_core.specs.Object.{Object, IsLawful, replay}
use Rattle.lock_core.specs.Machine.{LockState}
use Rattle.lock_core.specs.Sound.{AllFit, opened}
use Rattle.lock_core.proofs.Totals.{elem-map, elem-append, elem-snoc, elem_there}
use Rattle.lock_core.proofs.Columns.{length-replay}
use Rattle.lock_core.proofs.Opening.{opening_sound, index-free, words-free}
use Rattle.commit_journal.specs.Journal.{JournalView}
use Rattle.commit_journal.specs.Keeper.{Told, AreKept}
use Rattle.atomic_table.specs.Table.{opening}
use Rattle.path_locks.specs.declared.rule.Slot.{Slot}
use Rattle.path_locks.specs.declared.rule.Slot.TheVariants.{Part, Book}
use Rattle.path_locks.specs.declared.rule.View.{View}
use Rattle.path_locks.specs.declared.rule.Opening.{Opening}
use Rattle.path_locks.specs.Rule.{home_of, IsPlaced, ViewOk, Ruled, in_slot, shelf, first_view}
use Rattle.path_locks.proofs.Kept.{same_book, same_keeper}
use mathlib.Core.Option.{Option, some, some-injective, some-ne-none}
use lib.ListN.{get_elem?, length-map}

module _ {T E K : Type 0} where
  shelf_long : (parts : List T) (j : JournalView E) (c : K) → length parts ≡ 64 → length (map (in_slot {T = T} {E = E} {K = K}) parts ++ Book j c ∷ []) ≡ 65
  shelf_long parts j c l = length-append (map (in_slot {T = T} {E = E} {K = K}) parts) (Book j c ∷ [])
      ∙ ap (λ (n : ℕ). n + 1) (length-map parts (in_slot {T = T} {E = E} {K = K}) ∙ l)

  -- the parts lie in their slots
  shelf_placed : (bare : T → T) (parts : List T) (j : JournalView E) (c : K) → length parts ≡ 64
      → IsPlaced bare (map some (map (in_slot {T = T} {E = E} {K = K}) parts ++ Book j c ∷ [])) (map some (map bare parts))
  shelf_placed bare parts j c l k h =
      let p = elem_there parts k (omega arith) in
      let slots = map (in_slot {T = T} {E = E} {K = K}) parts in
      let within : k < length slots = let e = length-map parts (in_slot {T = T} {E = E} {K = K}) in omega arith in
      let slot : get_elem? (slots ++ Book j c ∷ []) k ≡ some (Part p.0) = elem-append slots (Book j c ∷ []) k within ∙ elem-map (in_slot {T = T} {E = E} {K = K}) parts k p.0 p.1 in
      ap (λ (z : Option (Option (Slot T E K))). home_of bare z) (elem-map some (slots ++ Book j c ∷ []) k (Part p.0) slot)
      ∙ sym (elem-map some (map bare parts) k (bare p.0) (elem-map bare parts k p.0 p.1))

  shelf_book : (parts : List T) (j : JournalView E) (c : K) → length parts ≡ 64
      → get_elem? (map some (map (in_slot {T = T} {E = E} {K = K}) parts ++ Book j c ∷ [])) 64 ≡ some (some (Book j c))
  shelf_book parts j c l =
      let slots = map (in_slot {T = T} {E = E} {K = K}) parts in
      let end : length slots ≡ 64 = length-map parts (in_slot {T = T} {E = E} {K = K}) ∙ l in
      elem-map some (slots ++ Book j c ∷ []) 64 (Book j c) (ap (λ (i : ℕ). get_elem? (slots ++ Book j c ∷ []) i) (sym end) ∙ elem-snoc slots (Book j c))

  -- each slot of the shelf is home
  shelf_keeper : (parts : List T) (j : JournalView E) (c : K) → length parts ≡ 64 → (j' : JournalView E) (c' : K)
      → get_elem? (map some (map (in_slot {T = T} {E = E} {K = K}) parts ++ Book j c ∷ [])) 64 ≡ some (some (Book j' c')) → (let s : Slot T E K = Book j c in s) ≡ Book j' c'
  shelf_keeper parts j c l j' c' e = some-injective _ _ (some-injective _ _ (sym (shelf_book parts j c l) ∙ e))

module _ {T E R K : Type 0} (o : Object T E R) (lawful : IsLawful o) (bare : T → T) (tells : K → Told E) (key : Opening E K) where
  pub opening_ruled : (parts : List T) → map bare parts ≡ replay o key.journal.value.entries → AreKept (tells key.keeper.value).kept key.journal.value.entries
      → AllFit o key.journal.value.entries → 1 ≤ key.seats
      → Ruled o bare tells key (opening (replicate 129 0) (shelf parts key.journal.value key.keeper.value) (first_view o tells key))
  opening_ruled parts e keeps fits some_seat =
      let h0 = key.journal.value.entries in
      let j = key.journal.value in
      let c = key.keeper.value in
      let long : length parts ≡ 64 = sym (length-map parts bare) ∙ ap (λ (l : List T). length l) e ∙ length-replay o lawful h0 in
      let slots = map (in_slot {T = T} {E = E} {K = K}) parts ++ Book j c ∷ [] in
      let m : LockState T E R = opened o h0 in (
        m,
        record {
          words = words-free;
          seats = refl;
          slots = length-map slots some ∙ shelf_long parts j c long;
          places = subst (λ (l : List T). IsPlaced bare (map some slots) (map some l)) e (shelf_placed bare parts j c long);
          book = λ z. record { book = j; keeper = c; there = shelf_book parts j c long; entries_are = refl; limits_are = refl };
          away = λ z. absurd (let f = index-free 128 in omega arith);
        },
        record {
          few = omega (arith, some_seat);
          counted = counted_of;
          each = each_of;
        },
        opening_sound o h0 lawful fits,
        record {
          count = (tells c).faults;
          counted = λ j' c' e. ap (λ (q : K). (tells q).faults) (sym (same_keeper j j' c c' (shelf_keeper parts j c long j' c' e)));
          kept = λ j' c' e. let q = shelf_keeper parts j c long j' c' e in
              subst (λ (z : K). AreKept (tells z).kept j'.entries) (same_keeper j j' c c' q)
              (subst (λ (z : JournalView E). AreKept (tells c).kept z.entries) (same_book j j' c c' q) keeps);
          below = below_of;
          had = had_of;
        },
      )
    where
      counted_of : (i : ℕ) (v : View T E) → get_elem? (first_view o tells key ∷ []) i ≡ some v → 0 < v.made → (i ≡ 0) × (v.made ≡ 1)
      counted_of zero v at p = (refl, ap (λ (z : View T E). z.made) (sym (some-injective (first_view o tells key) v at)))
      counted_of (suc i) v at p = absurd (some-ne-none v (sym at))

      each_of : (i : ℕ) (v : View T E) → get_elem? (first_view o tells key ∷ []) i ≡ some v → v.at.live ≡ true → ViewOk key key.journal.value.entries v
      each_of zero v at l = subst (λ (z : View T E). ViewOk key key.journal.value.entries z) (some-injective (first_view o tells key) v at)
          (record { limits = refl; before = λ n seen e. absurd (some-ne-none seen (sym e)) })
      each_of (suc i) v at l = absurd (some-ne-none v (sym at))

      below_of : (i : ℕ) (v : View T E) → get_elem? (first_view o tells key ∷ []) i ≡ some v → v.at.live ≡ true → v.tape ≤ (tells key.keeper.value).faults
      below_of zero v at l = let q : v.tape ≡ (tells key.keeper.value).faults = ap (λ (z : View T E). z.tape) (sym (some-injective (first_view o tells key) v at)) in omega (arith, q)
      below_of (suc i) v at l = absurd (some-ne-none v (sym at))

      had_of : (i : ℕ) (v : View T E) → get_elem? (first_view o tells key ∷ []) i ≡ some v → v.at.journal ≡ true → v.taken ≡ (tells key.keeper.value).faults
      had_of zero v at l = ap (λ (z : View T E). z.taken) (sym (some-injective (first_view o tells key) v at))
      had_of (suc i) v at l = absurd (some-ne-none v (sym at))

  pub shelf_size : (parts : List T) → map bare parts ≡ replay o key.journal.value.entries → length (shelf parts key.journal.value key.keeper.value) ≡ 65
  shelf_size parts e = shelf_long parts key.journal.value key.keeper.value
      (sym (length-map parts bare) ∙ ap (λ (l : List T). length l) e ∙ length-replay o lawful key.journal.value.entries)
