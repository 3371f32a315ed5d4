-- What is left of a table when one seat knows what all others knew, and holds nothing.
use Rattle.std.proofs.Common.{◌≡◌, ℕ, zero, suc, ◌<◌, ◌≤◌, Bool, true, false, List, [], ◌∷◌, length, map, slice_get, slice_index, refl, ap, sym, ◌∙◌, subst, arith}
use Rattle.std.specs.Prelude as std
use Rattle.lock_core.specs.declared.machine.Known.{Known}
use Rattle.lock_core.specs.declared.machine.Sitting.{Sitting}
use Rattle.lock_core.specs.Object.{Object, IsLawful, by_pass, replay}
use Rattle.lock_core.specs.Machine.{seat_at, IsIdle, known}
use Rattle.lock_core.specs.Sound.{total, one_if, StartsWith, KnowsOk, AllFit, MadeBelow, IsSound}
use Rattle.lock_core.proofs.Totals.{total_found}
use Rattle.lock_core.proofs.Columns.{live_within, length-replay, replay_there}
use Rattle.lock_core.proofs.CoreMoves.{seat_at_there}
use Rattle.lock_core.proofs.Idle.{all_home}
use Rattle.lock_core.proofs.Seats.{old_is_other}
use Rattle.commit_journal.specs.Journal.{JournalView}
use Rattle.commit_journal.specs.Keeper.{Told, AreKept}
use Rattle.atomic_table.specs.Table.{State, Final, Seen}
use Rattle.atomic_table.specs.Seated.{TableId}
use Rattle.path_locks.specs.declared.rule.Slot.{Slot}
use Rattle.path_locks.specs.declared.rule.Slot.TheVariants.{Part, Book}
use Rattle.path_locks.specs.declared.rule.View.{View}
use Rattle.path_locks.specs.declared.rule.Opening.{Opening}
use Rattle.path_locks.specs.Rule.{Ruled}
use Rattle.path_locks.specs.Plays.{IsResting}
use Rattle.path_locks.specs.Views.{SeatView, TableView, table_of, Knew, joined_in, itself, itself_before, AreEverySeat, AreTakenOut, SawOf}
use Rattle.path_locks.proofs.Kept.{same_book, same_keeper}
use Rattle.path_locks.proofs.Below.{some_inj}
use Rattle.path_locks.proofs.Shown.{part_there, seat_of_view}
use mathlib.Core.Option.{Option, some, some-injective}
use lib.ListN.{get_elem?, length-map}

-- two lists with the same elements under a function
same_lists : {A B : Type 0} (f : A → B) (n : ℕ) (xs : List A) (ys : List B) → length xs ≡ n → length ys ≡ n
    → ((k : ℕ) → k < n → (a : A) × (slice_get xs k ≡ std.Some a) × (get_elem? ys k ≡ some (f a))) → map f xs ≡ ys
same_lists f zero [] [] a b h = refl
same_lists f zero (x ∷ xs) ys a b h = absurd (omega arith)
same_lists f zero [] (y ∷ ys) a b h = absurd (omega arith)
same_lists f (suc n) [] ys a b h = absurd (omega arith)
same_lists f (suc n) (x ∷ xs) [] a b h = absurd (omega arith)
same_lists f (suc n) (x ∷ xs) (y ∷ ys) a b h =
    let t = h 0 (omega arith) in
    let first : f x ≡ y = ap f (some_inj x t.0 t.1) ∙ sym (some-injective y (f t.0) t.2) in
    let others = same_lists f n xs ys (omega arith) (omega arith) (λ k l. h (suc k) (omega arith)) in
    λ i. first i ∷ others i

module _ {T E R K : Type 0} (o : Object T E R) (lawful : IsLawful o) (bare : T → T) (tells : K → Told E) (key : Opening E K) (t : State (Slot T E K) (View T E)) (ruled : Ruled o bare tells key t)
    (id : ℕ) (v : View T E) (here : get_elem? t.views id ≡ some v) (rest : IsResting v.at)
    (every : (n : ℕ) → n < key.seats → (p : Known E) × (p.number ≡ n) × Knew v p) where
  ok : IsSound o key.journal.value.entries ruled.0
  ok = ruled.3

  seat : seat_at (ruled.0).seats id ≡ v.at
  seat = seat_of_view bare key t ruled.0 ruled.1 id v here

  alive : (seat_at (ruled.0).seats id).live ≡ true
  alive = ap (λ (z : Sitting T E). z.live) seat ∙ rest.live

  -- what the seat knew is right
  pub right : (p : Known E) → Knew v p → StartsWith (ruled.0).journal p.seen × (p.mine ≡ by_pass o p.number (ruled.0).journal)
  right p (joined_in i e) =
      let k = (ok.seats id alive).olds i p (ap (λ (z : Sitting T E). get_elem? z.olds i) seat ∙ e) in
      (k.prefix, k.mine_of_all)
  right p (itself n mine seen) = of_self n mine (subst (λ (z : List E). StartsWith (ruled.0).journal z) (sym seen) (knows.prefix))
    where
      knows : KnowsOk o key.journal.value.entries (ruled.0).journal v.at.number v.at.seen v.at.mine
      knows = subst (λ (z : Sitting T E). KnowsOk o key.journal.value.entries (ruled.0).journal z.number z.seen z.mine) seat (ok.seats id alive).knows

      of_self : p.number ≡ v.at.number → p.mine ≡ v.at.mine → StartsWith (ruled.0).journal p.seen → StartsWith (ruled.0).journal p.seen × (p.mine ≡ by_pass o p.number (ruled.0).journal)
      of_self n mine s = (s, mine ∙ knows.mine_of_all ∙ ap (λ (k : ℕ). by_pass o k (ruled.0).journal) (sym n))
  right p (itself_before n mine i e) = (((ruled.2).each id v here rest.live).before i p.seen e, mine ∙ knows.mine_of_all ∙ ap (λ (k : ℕ). by_pass o k (ruled.0).journal) (sym n))
    where
      knows : KnowsOk o key.journal.value.entries (ruled.0).journal v.at.number v.at.seen v.at.mine
      knows = subst (λ (z : Sitting T E). KnowsOk o key.journal.value.entries (ruled.0).journal z.number z.seen z.mine) seat (ok.seats id alive).knows

  few : length (ruled.0).seats ≤ key.seats
  few =
      let l : length (ruled.0).seats ≡ length t.views = ap (λ (z : List (Sitting T E)). length z) (sym (ruled.1).seats) ∙ length-map t.views (λ (z : View T E). z.at) in
      omega (arith, (ruled.2).few)

  -- no other seat is live
  alone : (j : ℕ) → (seat_at (ruled.0).seats j).live ≡ true → j ≡ id
  alone j live = let e = every j (let w = live_within (ruled.0).seats j live in omega (arith, few)) in by_knew e.0 e.1 e.2
    where
      by_knew : (p : Known E) → p.number ≡ j → Knew v p → j ≡ id
      by_knew p n (joined_in i e) =
          absurd (old_is_other o key.journal.value.entries ruled.0 ok j live id alive i p (ap (λ (z : Sitting T E). get_elem? z.olds i) seat ∙ e) n)
      by_knew p n (itself q mine seen) = sym n ∙ q ∙ sym (ap (λ (z : Sitting T E). z.number) seat) ∙ (ok.seats id alive).number
      by_knew p n (itself_before q mine i e) = sym n ∙ q ∙ sym (ap (λ (z : Sitting T E). z.number) seat) ∙ (ok.seats id alive).number

  idle : (j : ℕ) → (seat_at (ruled.0).seats j).live ≡ true → IsIdle (seat_at (ruled.0).seats j)
  idle j live = subst (λ (i : ℕ). IsIdle (seat_at (ruled.0).seats i)) (sym (alone j live)) (subst (λ (z : Sitting T E). IsIdle z) (sym seat) rest.idle)

  -- nobody has the journal
  given : slice_index (ruled.0).words 128 ≡ 0
  given = from (total (λ (z : Sitting T E). one_if z.journal) (ruled.0).seats) refl
    where
      none_has : (j : ℕ) → (b : Bool) → (seat_at (ruled.0).seats j).live ≡ b → (seat_at (ruled.0).seats j).journal ≡ false
      none_has j true e = (idle j e).no_journal
      none_has j false e = ap (λ (z : Sitting T E). z.journal) (ok.dead j e)

      found : 0 < total (λ (z : Sitting T E). one_if z.journal) (ruled.0).seats → ⊥
      found h =
          let f = total_found (λ (z : Sitting T E). one_if z.journal) (ruled.0).seats h in
          let s = seat_at_there (ruled.0).seats f.0 f.1 f.2 in
          let n : one_if (f.1).journal ≡ 0 = ap one_if (sym (ap (λ (z : Sitting T E). z.journal) s) ∙ none_has f.0 (seat_at (ruled.0).seats f.0).live refl) in
          let p = f.3 in
          omega arith

      from : (n : ℕ) → n ≡ total (λ (z : Sitting T E). one_if z.journal) (ruled.0).seats → slice_index (ruled.0).words 128 ≡ 0
      from zero e = let w = ok.journal_word in omega arith
      from (suc n) e = absurd (found (omega arith))

  module _ (xs : List (Slot T E K)) (final : (k : ℕ) (y : Slot T E K) → get_elem? t.homes k ≡ some (some y) → get_elem? xs k ≡ some y) where
    -- each part lies in its slot, and is that of the replay
    pub part_left : (k : ℕ) → k < 64 → (y : T) × (get_elem? xs k ≡ some (Part y)) × (get_elem? (replay o (ruled.0).journal) k ≡ some (bare y))
    part_left k h =
        let p = replay_there o lawful (ruled.0).journal k h in
        let home : get_elem? (ruled.0).homes k ≡ some (some p.0) = all_home o key.journal.value.entries ruled.0 ok idle k h ∙ ap (λ (z : Option T). some z) p.1 in
        let slot = part_there bare (get_elem? t.homes k) p.0 ((ruled.1).places k h ∙ home) in
        (slot.0, final k (Part slot.0) slot.1, p.1 ∙ ap (λ (z : T). some z) (sym slot.2))

    -- and so does the journal
    pub book_left : (b : JournalView E) × (c : K) × (get_elem? xs 64 ≡ some (Book b c)) × (b.entries ≡ (ruled.0).journal) × (b.limits ≡ key.journal.value.limits)
        × AreKept (tells c).kept b.entries
    book_left = let b = (ruled.1).book given in
        (b.book, b.keeper, final 64 (Book b.book b.keeper) b.there, b.entries_are, b.limits_are, (ruled.4).kept b.book b.keeper b.there)

    module _ (parts : List T) (book : JournalView E) (keeper : K) (out : AreTakenOut xs parts book keeper) where
      pub journal_is : book.entries ≡ (ruled.0).journal
      journal_is = let b = book_left in ap (λ (z : JournalView E). z.entries) (same_book book b.0 keeper b.1 (some-injective _ _ (sym out.book_is ∙ b.2))) ∙ b.3

      pub limits_are : book.limits ≡ key.journal.value.limits
      limits_are = let b = book_left in ap (λ (z : JournalView E). z.limits) (same_book book b.0 keeper b.1 (some-injective _ _ (sym out.book_is ∙ b.2))) ∙ b.4

      pub keeper_keeps : AreKept (tells keeper).kept book.entries
      keeper_keeps =
          let b = book_left in
          let q = some-injective _ _ (sym out.book_is ∙ b.2) in
          subst (λ (z : K). AreKept (tells z).kept book.entries) (sym (same_keeper book b.0 keeper b.1 q))
          (subst (λ (z : JournalView E). AreKept (tells b.1).kept z.entries) (sym (same_book book b.0 keeper b.1 q)) b.5)

      pub parts_are : map bare parts ≡ replay o book.entries
      parts_are = same_lists bare 64 parts (replay o (ruled.0).journal) out.long (length-replay o lawful (ruled.0).journal)
          (λ k h. let p = part_left k h in (p.0, out.parts_are k p.0 h p.1, p.2)) ∙ ap (λ (z : List E). replay o z) (sym journal_is)

      pub entries_fit : AllFit o book.entries
      entries_fit = subst (λ (z : List E). AllFit o z) (sym journal_is) ok.fit

      pub entries_made : MadeBelow o key.journal.value.entries key.seats book.entries
      entries_made = subst (λ (z : List E). MadeBelow o key.journal.value.entries key.seats z) (sym journal_is)
          (record { rest = ok.made.rest; begins = ok.made.begins; below = λ n e at. let b = ok.made.below n e at in omega (arith, few) })

      pub seat_saw : (s : SeatView T E K) → Knew v (known s.me.0.at) → SawOf o book.entries s
      seat_saw s k = let r = right (known s.me.0.at) k in subst (λ (z : List E). SawOf o z s) (sym journal_is) (record { seen = r.0; mine = r.1 })

-- the parts and the journal that were taken out are those of the machine's last state
pub record IsWhole {T E R K : Type 0} (o : Object T E R) (bare : T → T) (tells : K → Told E) (table : TableView E) (seats : List (SeatView T E K)) (parts : List T) (book : JournalView E) (keeper : K) : Type 0 where
  pub parts_are_replay : map bare parts ≡ replay o book.entries
  pub limits_stay : book.limits ≡ table.limits
  pub fit : AllFit o book.entries
  pub keeps : AreKept (tells keeper).kept book.entries
  pub made : MadeBelow o table.opening table.seats book.entries
  pub saw : (k : ℕ) (s : SeatView T E K) → slice_get seats k ≡ std.Some s → SawOf o book.entries s

-- what lies in the slots at the end
pub record IsLeft {T E R K : Type 0} (o : Object T E R) (bare : T → T) (tells : K → Told E) (table : TableView E) (seats : List (SeatView T E K)) (xs : List (Slot T E K)) : Type 0 where
  pub parts_lie : (k : ℕ) → k < 64 → (y : T) × (get_elem? xs k ≡ some (Part y))
  pub book_lies : (b : JournalView E) × (c : K) × (get_elem? xs 64 ≡ some (Book b c))
  pub whole : (parts : List T) (book : JournalView E) (keeper : K) → AreTakenOut xs parts book keeper → IsWhole o bare tells table seats parts book keeper

module _ {T E R K : Type 0} (o : Object T E R) (lawful : IsLawful o) (bare : T → T) (tells : K → Told E) (key : Opening E K) (tid : TableId) where
  pub is_left : (table : TableView E) (id : ℕ) (v : View T E) (ws : List ℕ) (xs : List (Slot T E K)) (seats : List (SeatView T E K)) → table_of tells tid key ≡ table
      → Final (Seen (Ruled o bare tells key) id v) ws xs → IsResting v.at → AreEverySeat table seats
      → ((k : ℕ) (s : SeatView T E K) → slice_get seats k ≡ std.Some s → Knew v (known s.me.0.at)) → IsLeft o bare tells table seats xs
  is_left table id v ws xs seats same final rest each knew =
      let t = final.0 in
      let ruled = final.1.0 in
      let here = final.1.1 in
      let all = subst (λ (z : TableView E). AreEverySeat z seats) (sym same) each in
      let every : (n : ℕ) → n < key.seats → (p : Known E) × (p.number ≡ n) × Knew v p =
      λ n h. let e = all.every n h in (known e.1.me.0.at, e.3, knew e.0 e.1 e.2) in
      subst (λ (z : TableView E). IsLeft o bare tells z seats xs) same (record {
        parts_lie = λ k h. let p = part_left o lawful bare tells key t ruled id v here rest every xs final.4 k h in (p.0, p.1);
        book_lies = let b = book_left o lawful bare tells key t ruled id v here rest every xs final.4 in (b.0, b.1, b.2);
        whole = λ parts book keeper out. record {
          parts_are_replay = parts_are o lawful bare tells key t ruled id v here rest every xs final.4 parts book keeper out;
          limits_stay = limits_are o lawful bare tells key t ruled id v here rest every xs final.4 parts book keeper out;
          fit = entries_fit o lawful bare tells key t ruled id v here rest every xs final.4 parts book keeper out;
          keeps = keeper_keeps o lawful bare tells key t ruled id v here rest every xs final.4 parts book keeper out;
          made = entries_made o lawful bare tells key t ruled id v here rest every xs final.4 parts book keeper out;
          saw = λ k s at. seat_saw o lawful bare tells key t ruled id v here rest every xs final.4 parts book keeper out s (knew k s at);
        };
      })
