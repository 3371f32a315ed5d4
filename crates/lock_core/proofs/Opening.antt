-- The machine is sound at its start.
use Rattle.std.proofs.Common.{◌≡◌, ℕ, zero, suc, ◌+◌, true, false, List, [], ◌∷◌, length, slice_index, nat_lt, replicate, refl, ap, sym, ◌∙◌, append-nil, true≢false, le-ltb, arith}
use Rattle.lock_core.specs.declared.machine.Hold.TheVariants.{Free}
use Rattle.lock_core.specs.declared.machine.Sitting.{Sitting}
use Rattle.lock_core.specs.Object.{Object, IsLawful, replay}
use Rattle.lock_core.specs.Machine.{note_of, seat_at, spent, newcomer}
use Rattle.lock_core.specs.Sound.{one_if, Grip, IsLooked, StripeOk, SeatOk, AllFit, IsSound, free_words, opened}
use Rattle.lock_core.proofs.Totals.{elem-map}
use Rattle.lock_core.proofs.Columns.{stripe_same, grip_is, length-replay, replay_there}
use Rattle.lock_core.proofs.Histories.{replied-from}
use Rattle.lock_core.proofs.Split.{hold_at-free, length-free, lt_next}
use mathlib.Core.Option.{Option, some, some-injective, some-ne-none}
use lib.ListN.{get_elem?, length-replicate, length-map}

index-zeros : (n k : ℕ) → slice_index (replicate n 0) k ≡ 0
index-zeros zero k = refl
index-zeros (suc n) zero = refl
index-zeros (suc n) (suc k) = index-zeros n k

pub index-free : (k : ℕ) → slice_index free_words k ≡ 0
unfolding free_words
index-free k = index-zeros 129 k

pub words-free : replicate 129 0 ≡ free_words
unfolding free_words
words-free = refl

pub length-free_words : length free_words ≡ 129
unfolding free_words
length-free_words = length-replicate {A = ℕ} 129 0

module _ {T : Type 0} where
  -- a stripe that nobody holds
  free_stripe : (part : Option T) → StripeOk 0 0 (some part) part (record { hold = Free; latched = false } ∷ [])
  free_stripe part = record {
    counts = record {
      counted = refl;
      few = omega arith;
      alone = omega arith;
      apart = λ h. refl;
      latch_counted = refl;
      latch_alone = omega arith;
    };
    looked = looked_of;
    noted = noted_of;
    at_home = λ h. refl;
    away = λ h. absurd (omega arith);
  }
    where
      looked_of : (j : ℕ) (g : Grip T) → get_elem? (let g : Grip T = record { hold = Free; latched = false } in g ∷ []) j ≡ some g → g.latched ≡ true → IsLooked g.hold
      looked_of zero g e t = absurd (true≢false (sym t ∙ sym (ap (λ (z : Grip T). z.latched) (some-injective _ g e))))
      looked_of (suc j) g e t = absurd (some-ne-none g (sym e))

      noted_of : (j : ℕ) (g : Grip T) (x : T) → get_elem? (let g : Grip T = record { hold = Free; latched = false } in g ∷ []) j ≡ some g → note_of g.hold ≡ some x → part ≡ some x
      noted_of zero g x e t = absurd (some-ne-none x (sym t ∙ sym (ap (λ (z : Grip T). note_of z.hold) (some-injective _ g e))))
      noted_of (suc j) g x e t = absurd (some-ne-none g (sym e))

module _ {T E R : Type 0} (o : Object T E R) (h0 : List E) where
  pub opening_sound : IsLawful o → AllFit o h0 → IsSound o h0 (opened o h0)
  opening_sound lawful fits =
      let y : Sitting T E = newcomer o 0 h0 in
      record {
        words = length-free_words;
        homes = length-map (replay o h0) some ∙ length-replay o lawful h0;
        stripes = λ k h.
            let p = replay_there o lawful h0 k h in
            stripe_same (sym (index-free k)) (sym (index-free (64 + k))) (sym (elem-map some (replay o h0) k p.0 p.1 ∙ ap some (sym p.1)))
            (ap (λ (g : Grip T). g ∷ []) (grip_is _ _ _ _ (sym (hold_at-free k)) refl)) (free_stripe (get_elem? (replay o h0) k));
        journal_word = index-free 128;
        journal_alone = let z = index-free 128 in omega arith;
        seats = first;
        dead = others;
        numbered = λ n. let l = lt_next n 0 in let z : one_if (nat_lt n 0) ≡ 0 = ap one_if (le-ltb n 0 (omega arith)) in omega arith;
        fit = fits;
        made = record { rest = []; begins = append-nil h0; below = λ n e at. absurd (some-ne-none e (sym at)) };
        replied = replied-from o h0;
      }
    where
      first : (j : ℕ) → (seat_at (newcomer o 0 h0 ∷ []) j).live ≡ true → SeatOk o h0 h0 j (seat_at (newcomer o 0 h0 ∷ []) j)
      first zero l = record {
        number = refl;
        wide = length-free T;
        knows = record { prefix = ([], append-nil h0); start = ([], append-nil h0); mine_of_all = refl; mine_of_seen = refl };
        whole = λ t. absurd (true≢false (sym t));
        olds = λ k p e. absurd (some-ne-none p (sym e));
      }
      first (suc j) l = absurd (true≢false (sym l))

      others : (j : ℕ) → (seat_at (newcomer o 0 h0 ∷ []) j).live ≡ false → seat_at (newcomer o 0 h0 ∷ []) j ≡ spent
      others zero l = absurd (true≢false l)
      others (suc j) l = refl
