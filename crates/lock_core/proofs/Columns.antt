-- An event that changes one seat, and the words and the place of one stripe, leaves the others alone.
use Rattle.std.proofs.Common.{◌≡◌, ◌≢◌, ℕ, zero, suc, ◌+◌, ◌<◌, Bool, true, false, List, [], ◌∷◌, length, map, slice_set, slice_index, nat_lt, refl, ap, sym, ◌∙◌, subst, length-set, true≢false, arith}
use Rattle.std.specs.Prelude as std
use Rattle.lock_core.specs.declared.machine.Hold.{Hold}
use Rattle.lock_core.specs.declared.machine.Known.{Known}
use Rattle.lock_core.specs.declared.machine.Sitting.{Sitting}
use Rattle.lock_core.specs.Object.{Object, IsLawful, replay, replay_from}
use Rattle.lock_core.specs.Machine.{LockState, hold_at, seat_at, spent}
use Rattle.lock_core.specs.Sound.{total, one_if, Grip, grip, is_at, StripeOk, KnowsOk, SeatOk, times, MadeBelow, IsSound}
use Rattle.lock_core.proofs.Totals.{total-set, set_again, map-set, elem-map, elem_there}
use mathlib.Core.Option.{Option, some}
use mathlib.Core.Logic.{dite}
use native.Mathlib.Decide.{ℕ_discrete}
use lib.ListN.{get_elem?}

-- a seat with no latch has none at any stripe
pub calm_at : (l : std.Option ℕ) (k : ℕ) → l ≡ std.None → is_at l k ≡ false
calm_at l k e = ap (λ (z : std.Option ℕ). is_at z k) e

pub index-set_same : (ws : List ℕ) (i n : ℕ) → i < length ws → slice_index (slice_set ws i n) i ≡ n
index-set_same [] i n h = absurd (omega arith)
index-set_same (w ∷ ws) zero n h = refl
index-set_same (w ∷ ws) (suc i) n h = index-set_same ws i n (omega arith)

pub index-set_other : (ws : List ℕ) (i j n : ℕ) → j ≢ i → slice_index (slice_set ws i n) j ≡ slice_index ws j
index-set_other [] i j n h = refl
index-set_other (w ∷ ws) zero zero n h = absurd (h refl)
index-set_other (w ∷ ws) zero (suc j) n h = refl
index-set_other (w ∷ ws) (suc i) zero n h = refl
index-set_other (w ∷ ws) (suc i) (suc j) n h = index-set_other ws i j n (λ e. h (ap suc e))

module _ {T : Type 0} where
  pub hold_at-set_same : (hs : List (Hold T)) (s : ℕ) (h : Hold T) → s < length hs → hold_at (slice_set hs s h) s ≡ h
  hold_at-set_same [] s h l = absurd (omega arith)
  hold_at-set_same (x ∷ xs) zero h l = refl
  hold_at-set_same (x ∷ xs) (suc s) h l = hold_at-set_same xs s h (omega arith)

  pub hold_at-set_other : (hs : List (Hold T)) (s k : ℕ) (h : Hold T) → k ≢ s → hold_at (slice_set hs s h) k ≡ hold_at hs k
  hold_at-set_other [] s k h n = refl
  hold_at-set_other (x ∷ xs) zero zero h n = absurd (n refl)
  hold_at-set_other (x ∷ xs) zero (suc k) h n = refl
  hold_at-set_other (x ∷ xs) (suc s) zero h n = refl
  hold_at-set_other (x ∷ xs) (suc s) (suc k) h n = hold_at-set_other xs s k h (λ e. n (ap suc e))

  pub grip_is : (h h' : Hold T) (b b' : Bool) → h ≡ h' → b ≡ b' → (let g : Grip T = record { hold = h; latched = b } in g) ≡ record { hold = h'; latched = b' }
  grip_is h h' b b' e f = λ i. record { hold = e i; latched = f i }

  pub stripe_same : {w w' l l' : ℕ} {home home' : Option (Option T)} {part : Option T} {gs gs' : List (Grip T)}
      → w ≡ w' → l ≡ l' → home ≡ home' → gs ≡ gs' → StripeOk w l home part gs → StripeOk w' l' home' part gs'
  stripe_same {w} {w'} {l} {l'} {home} {home'} {part} {gs} {gs'} a b c d s =
      subst (λ (z : ℕ). StripeOk z l' home' part gs') a (subst (λ (z : ℕ). StripeOk w z home' part gs') b
      (subst (λ (z : Option (Option T)). StripeOk w l z part gs') c (subst (λ (z : List (Grip T)). StripeOk w l home part z) d s)))

module _ {T E : Type 0} where
  pub seat_elem : (xs : List (Sitting T E)) (j : ℕ) → j < length xs → get_elem? xs j ≡ some (seat_at xs j)
  seat_elem [] j h = absurd (omega arith)
  seat_elem (x ∷ xs) zero h = refl
  seat_elem (x ∷ xs) (suc j) h = seat_elem xs j (omega arith)

  pub live_within : (xs : List (Sitting T E)) (j : ℕ) → (seat_at xs j).live ≡ true → j < length xs
  live_within [] j e = absurd (true≢false (sym e))
  live_within (x ∷ xs) zero e = omega arith
  live_within (x ∷ xs) (suc j) e = omega (arith, live_within xs j e)

  pub live_elem : (xs : List (Sitting T E)) (j : ℕ) → (seat_at xs j).live ≡ true → get_elem? xs j ≡ some (seat_at xs j)
  live_elem xs j e = seat_elem xs j (live_within xs j e)

  pub seat_at-set_same : (xs : List (Sitting T E)) (v : ℕ) (x : Sitting T E) → v < length xs → seat_at (slice_set xs v x) v ≡ x
  seat_at-set_same [] v x h = absurd (omega arith)
  seat_at-set_same (y ∷ ys) zero x h = refl
  seat_at-set_same (y ∷ ys) (suc v) x h = seat_at-set_same ys v x (omega arith)

  pub seat_at-set_other : (xs : List (Sitting T E)) (v j : ℕ) (x : Sitting T E) → j ≢ v → seat_at (slice_set xs v x) j ≡ seat_at xs j
  seat_at-set_other [] v j x n = refl
  seat_at-set_other (y ∷ ys) zero zero x n = absurd (n refl)
  seat_at-set_other (y ∷ ys) zero (suc j) x n = refl
  seat_at-set_other (y ∷ ys) (suc v) zero x n = refl
  seat_at-set_other (y ∷ ys) (suc v) (suc j) x n = seat_at-set_other ys v j x (λ e. n (ap suc e))

  -- the seat keeps its number and what it knows
  pub record Alike (x x' : Sitting T E) : Type 0 where
    pub live : x'.live ≡ x.live
    pub number : x'.number ≡ x.number
    pub wide : length x'.holds ≡ length x.holds
    pub journal : x'.journal ≡ x.journal
    pub seen : x'.seen ≡ x.seen
    pub mine : x'.mine ≡ x.mine
    pub olds : x'.olds ≡ x.olds

  pub column_same : (k : ℕ) (xs : List (Sitting T E)) (v : ℕ) (x' : Sitting T E) → (seat_at xs v).live ≡ true → grip k x' ≡ grip k (seat_at xs v)
      → map (grip k) (slice_set xs v x') ≡ map (grip k) xs
  column_same k xs v x' live e = map-set (grip k) xs v x' ∙ ap (λ (g : Grip T). slice_set (map (grip k) xs) v g) e
      ∙ set_again (map (grip k) xs) v (grip k (seat_at xs v)) (elem-map (grip k) xs v (seat_at xs v) (live_elem xs v live))

  pub times_same : (n : ℕ) (x x' : Sitting T E) → x'.live ≡ x.live → x'.number ≡ x.number → x'.olds ≡ x.olds → times n x' ≡ times n x
  times_same n x x' a b c = λ i. one_if (std.if◌then◌else◌ (a i) (std.nat_eq (b i) n) false) + total (λ (p : Known E). one_if (std.nat_eq p.number n)) (c i)

  module _ {R : Type 0} (o : Object T E R) (h0 : List E) where
    pub knows_same : {h : List E} {n n' : ℕ} {seen seen' mine mine' : List E} → n' ≡ n → seen' ≡ seen → mine' ≡ mine
        → KnowsOk o h0 h n seen mine → KnowsOk o h0 h n' seen' mine'
    knows_same {h} {n} {n'} {seen} {seen'} {mine} {mine'} a b c k =
        subst (λ (z : ℕ). KnowsOk o h0 h z seen' mine') (sym a) (subst (λ (z : List E). KnowsOk o h0 h n z mine') (sym b)
        (subst (λ (z : List E). KnowsOk o h0 h n seen z) (sym c) k))

    pub seat_same : (h : List E) (j : ℕ) (x x' : Sitting T E) → Alike x x' → SeatOk o h0 h j x → SeatOk o h0 h j x'
    seat_same h j x x' a ok = record {
      number = a.number ∙ ok.number;
      wide = a.wide ∙ ok.wide;
      knows = knows_same a.number a.seen a.mine ok.knows;
      whole = λ t. a.seen ∙ ok.whole (sym a.journal ∙ t);
      olds = λ k p e. ok.olds k p (sym (ap (λ (l : List (Known E)). get_elem? l k) a.olds) ∙ e);
    }

    module _ (m : LockState T E R) (ok : IsSound o h0 m) (v : ℕ) (x' : Sitting T E) (live : (seat_at m.seats v).live ≡ true)
        (alike : Alike (seat_at m.seats v) x') where
      seats_keep : (j : ℕ) → (seat_at (slice_set m.seats v x') j).live ≡ true → SeatOk o h0 m.journal j (seat_at (slice_set m.seats v x') j)
      seats_keep j l = dite (ℕ_discrete j v)
          (λ e. let here : seat_at (slice_set m.seats v x') j ≡ x' = ap (λ (i : ℕ). seat_at (slice_set m.seats v x') i) e
          ∙ seat_at-set_same m.seats v x' (live_within m.seats v live) in
          subst (λ (z : Sitting T E). SeatOk o h0 m.journal j z) (sym here)
          (subst (λ (i : ℕ). SeatOk o h0 m.journal i x') (sym e) (seat_same m.journal v (seat_at m.seats v) x' alike (ok.seats v live))))
          (λ n. let there = seat_at-set_other m.seats v j x' n in
          subst (λ (z : Sitting T E). SeatOk o h0 m.journal j z) (sym there)
          (ok.seats j (sym (ap (λ (z : Sitting T E). z.live) there) ∙ l)))

      dead_keep : (j : ℕ) → (seat_at (slice_set m.seats v x') j).live ≡ false → seat_at (slice_set m.seats v x') j ≡ spent
      dead_keep j l = dite (ℕ_discrete j v)
          (λ e. let here : seat_at (slice_set m.seats v x') j ≡ x' = ap (λ (i : ℕ). seat_at (slice_set m.seats v x') i) e
          ∙ seat_at-set_same m.seats v x' (live_within m.seats v live) in
          absurd (true≢false (sym live ∙ sym alike.live ∙ sym (ap (λ (z : Sitting T E). z.live) here) ∙ l)))
          (λ n. let there = seat_at-set_other m.seats v j x' n in
          there ∙ ok.dead j (sym (ap (λ (z : Sitting T E). z.live) there) ∙ l))

      pub numbered_keep : (n : ℕ) → total (times n) (slice_set m.seats v x') ≡ one_if (nat_lt n (length (slice_set m.seats v x')))
      numbered_keep n =
          let t = total-set (times n) m.seats v (seat_at m.seats v) x' (live_elem m.seats v live) in
          let s = times_same n (seat_at m.seats v) x' alike.live alike.number alike.olds in
          let same : total (times n) (slice_set m.seats v x') ≡ total (times n) m.seats = omega arith in
          same ∙ ok.numbered n ∙ sym (ap (λ (k : ℕ). one_if (nat_lt n k)) (length-set m.seats v x'))

      pub made_keep : MadeBelow o h0 (length (slice_set m.seats v x')) m.journal
      made_keep = subst (λ (k : ℕ). MadeBelow o h0 k m.journal) (sym (length-set m.seats v x')) ok.made

      journals_keep : total (λ (z : Sitting T E). one_if z.journal) (slice_set m.seats v x') ≡ total (λ (z : Sitting T E). one_if z.journal) m.seats
      journals_keep =
          let t = total-set (λ (z : Sitting T E). one_if z.journal) m.seats v (seat_at m.seats v) x' (live_elem m.seats v live) in
          let s = ap one_if alike.journal in
          omega arith

      pub touches : (s : ℕ) → s < 64 → (words' : List ℕ) (homes' : List (Option T)) → length words' ≡ 129
          → ((i : ℕ) → i ≢ s → i ≢ 64 + s → slice_index words' i ≡ slice_index m.words i) → length homes' ≡ 64
          → ((k : ℕ) → k ≢ s → get_elem? homes' k ≡ get_elem? m.homes k) → ((k : ℕ) → k ≢ s → grip k x' ≡ grip k (seat_at m.seats v))
          → StripeOk (slice_index words' s) (slice_index words' (64 + s)) (get_elem? homes' s) (get_elem? (replay o m.journal) s)
          (slice_set (map (grip s) m.seats) v (grip s x'))
          → IsSound o h0 (record { words = words'; homes = homes'; journal = m.journal; replies = m.replies; seats = slice_set m.seats v x' })
      touches s hs words' homes' wide words long homes grips stripe =
          let far : slice_index words' 128 ≡ slice_index m.words 128 = words 128 (λ e. omega arith) (λ e. omega arith) in
          record {
            words = wide;
            homes = long;
            stripes = λ k h. dite (ℕ_discrete k s)
                (λ e. subst (λ (i : ℕ). StripeOk (slice_index words' i) (slice_index words' (64 + i)) (get_elem? homes' i) (get_elem? (replay o m.journal) i)
                (map (grip i) (slice_set m.seats v x'))) (sym e) (stripe_same refl refl refl (sym (map-set (grip s) m.seats v x')) stripe))
                (λ n. stripe_same (sym (words k n (λ e. omega arith))) (sym (words (64 + k) (λ e. omega arith) (λ e. n (omega arith)))) (sym (homes k n))
                (sym (column_same k m.seats v x' live (grips k n))) (ok.stripes k h));
            journal_word = far ∙ ok.journal_word ∙ sym journals_keep;
            journal_alone = omega (arith, ok.journal_alone);
            seats = seats_keep;
            dead = dead_keep;
            numbered = numbered_keep;
            fit = ok.fit;
            made = made_keep;
            replied = ok.replied;
          }

module _ {T E R : Type 0} (o : Object T E R) (lawful : IsLawful o) where
  replay_long : (h : List E) (xs : List T) (n : ℕ) → length xs ≡ 64 → length (replay_from o xs n h) ≡ 64
  replay_long [] xs n l = l
  replay_long (e ∷ h) xs n l = replay_long h (o.after xs e n) (n + 1) (lawful.keeps xs e n l)

  pub length-replay : (h : List E) → length (replay o h) ≡ 64
  length-replay h = replay_long h o.opening 1 lawful.opens

  pub replay_there : (h : List E) (k : ℕ) → k < 64 → (x : T) × (get_elem? (replay o h) k ≡ some x)
  replay_there h k l = elem_there (replay o h) k (omega (arith, length-replay h))
