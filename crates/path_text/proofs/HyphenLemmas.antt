-- The hyphens of a filesystem's name.
use Rattle.std.proofs.Common.{◌≡◌, ℕ, zero, suc, ◌+◌, ◌-◌, ◌<◌, ◌⊎◌, inl, inr, true, false, ◌&&◌, List, [], ◌∷◌, length, get_or, sym, ap, ◌∙◌, arith}
use Rattle.std.specs.List.{list_all, slice_split, onto_first}
use Rattle.std.proofs.lemmas.Bool.{false≢true, cases_Bool}
use Rattle.std.proofs.lemmas.Bool.Decides.{nat_tests}
use Rattle.std.proofs.lemmas.List.Splits.{slice_split-cons_yes, slice_split-cons_no}
use Rattle.path_text.specs.Names.{HyphensStandBetween, has_single_hyphens, is_hyphen, is_some_run}

some_run : (b : ℕ) (run : List ℕ) → is_some_run (b ∷ run) ≡ true
some_run b run = grind (arith, nat_tests)

-- ---- one byte more at the front

at_hyphen : (b : ℕ) (rest : List ℕ) → is_hyphen b ≡ true → has_single_hyphens (b ∷ rest) ≡ false
at_hyphen b rest dash = ap (list_all is_some_run) (slice_split-cons_yes is_hyphen b rest dash)

one_byte : (b : ℕ) → is_hyphen b ≡ false → has_single_hyphens (b ∷ []) ≡ true
one_byte b none = ap (list_all is_some_run) (slice_split-cons_no is_hyphen b [] none) ∙ ap (λ t. t && true) (some_run b [])

before_hyphen : (b c : ℕ) (rest : List ℕ) → is_hyphen b ≡ false → is_hyphen c ≡ true → has_single_hyphens (b ∷ c ∷ rest) ≡ has_single_hyphens rest
before_hyphen b c rest none dash =
    ap (list_all is_some_run) (slice_split-cons_no is_hyphen b (c ∷ rest) none ∙ ap (onto_first b) (slice_split-cons_yes is_hyphen c rest dash))
    ∙ ap (λ t. t && list_all is_some_run (slice_split is_hyphen rest)) (some_run b [])

before_other : (b c : ℕ) (rest : List ℕ) → is_hyphen b ≡ false → is_hyphen c ≡ false → has_single_hyphens (b ∷ c ∷ rest) ≡ has_single_hyphens (c ∷ rest)
before_other b c rest none other =
    ap (list_all is_some_run) (slice_split-cons_no is_hyphen b (c ∷ rest) none ∙ ap (onto_first b) (slice_split-cons_no is_hyphen c rest other))
    ∙ longer (slice_split is_hyphen rest)
    ∙ sym (ap (list_all is_some_run) (slice_split-cons_no is_hyphen c rest other))
  where
    longer : (runs : List (List ℕ)) → list_all is_some_run (onto_first b (onto_first c runs)) ≡ list_all is_some_run (onto_first c runs)
    longer [] = ap (λ t. t && true) (some_run b (c ∷ []) ∙ sym (some_run c []))
    longer (run ∷ runs) = ap (λ t. t && list_all is_some_run runs) (some_run b (c ∷ run) ∙ sym (some_run c run))

-- ---- both ways

shifted : (b : ℕ) (text : List ℕ) → 0 < length text → get_or (b ∷ text) (length (b ∷ text) - 1) 0 ≡ get_or text (length text - 1) 0
shifted b text some =
    let place : length (b ∷ text) - 1 ≡ suc (length text - 1) = omega arith in
    ap (λ n. get_or (b ∷ text) n 0) place

behind : (b k : ℕ) (text : List ℕ) → get_or (b ∷ text) (suc k + 1) 0 ≡ get_or text (k + 1) 0
behind b k text =
    let place : suc k + 1 ≡ suc (k + 1) = omega arith in
    ap (λ n. get_or (b ∷ text) n 0) place

pub single_hyphens_stand : (text : List ℕ) → has_single_hyphens text ≡ true → HyphensStandBetween text
single_hyphens_stand [] e = absurd (false≢true e)
single_hyphens_stand (b ∷ []) e = at_first (cases_Bool (is_hyphen b))
  where
    at_first : (is_hyphen b ≡ true) ⊎ (is_hyphen b ≡ false) → HyphensStandBetween (b ∷ [])
    at_first (inl dash) = absurd (false≢true (sym (at_hyphen b [] dash) ∙ e))
    at_first (inr none) = record { some = omega arith; first = none; last = none; apart = λ k within hyphen. absurd (omega arith) }
single_hyphens_stand (b ∷ c ∷ rest) e = at_first (single_hyphens_stand rest) (single_hyphens_stand (c ∷ rest)) (cases_Bool (is_hyphen b)) (cases_Bool (is_hyphen c))
  where
    at_first : (has_single_hyphens rest ≡ true → HyphensStandBetween rest) → (has_single_hyphens (c ∷ rest) ≡ true → HyphensStandBetween (c ∷ rest))
        → (is_hyphen b ≡ true) ⊎ (is_hyphen b ≡ false) → (is_hyphen c ≡ true) ⊎ (is_hyphen c ≡ false) → HyphensStandBetween (b ∷ c ∷ rest)
    at_first far near (inl dash) second = absurd (false≢true (sym (at_hyphen b (c ∷ rest) dash) ∙ e))
    at_first far near (inr none) (inl dash) =
        let is = far (sym (before_hyphen b c rest none dash) ∙ e) in
        let some = is.some in
        record {
          some = omega arith;
          first = none;
          last = ap is_hyphen (shifted b (c ∷ rest) (omega arith) ∙ shifted c rest is.some) ∙ is.last;
          apart = far_apart is.first is.apart;
        }
      where
        far_apart : is_hyphen (get_or rest 0 0) ≡ false → ((k : ℕ) → k + 1 < length rest → is_hyphen (get_or rest k 0) ≡ true → is_hyphen (get_or rest (k + 1) 0) ≡ false)
            → (k : ℕ) → k + 1 < length (b ∷ c ∷ rest) → is_hyphen (get_or (b ∷ c ∷ rest) k 0) ≡ true → is_hyphen (get_or (b ∷ c ∷ rest) (k + 1) 0) ≡ false
        far_apart first apart zero within hyphen = absurd (false≢true (sym none ∙ hyphen))
        far_apart first apart (suc zero) within hyphen = first
        far_apart first apart (suc (suc k)) within hyphen = ap is_hyphen (behind b (suc k) (c ∷ rest) ∙ behind c k rest) ∙ apart k (omega arith) hyphen
    at_first far near (inr none) (inr other) =
        let is = near (sym (before_other b c rest none other) ∙ e) in
        record {
          some = omega arith;
          first = none;
          last = ap is_hyphen (shifted b (c ∷ rest) is.some) ∙ is.last;
          apart = near_apart is.apart;
        }
      where
        near_apart : ((k : ℕ) → k + 1 < length (c ∷ rest) → is_hyphen (get_or (c ∷ rest) k 0) ≡ true → is_hyphen (get_or (c ∷ rest) (k + 1) 0) ≡ false)
            → (k : ℕ) → k + 1 < length (b ∷ c ∷ rest) → is_hyphen (get_or (b ∷ c ∷ rest) k 0) ≡ true → is_hyphen (get_or (b ∷ c ∷ rest) (k + 1) 0) ≡ false
        near_apart apart zero within hyphen = absurd (false≢true (sym none ∙ hyphen))
        near_apart apart (suc k) within hyphen = ap is_hyphen (behind b k (c ∷ rest)) ∙ apart k (omega arith) hyphen

pub standing_hyphens_are_single : (text : List ℕ) → HyphensStandBetween text → has_single_hyphens text ≡ true
standing_hyphens_are_single [] is = absurd (let some = is.some in omega arith)
standing_hyphens_are_single (b ∷ []) is = one_byte b is.first
standing_hyphens_are_single (b ∷ c ∷ []) is =
    let other : is_hyphen c ≡ false = is.last in
    before_other b c [] is.first other ∙ one_byte c other
standing_hyphens_are_single (b ∷ c ∷ d ∷ rest) is = at_second (standing_hyphens_are_single (d ∷ rest)) (standing_hyphens_are_single (c ∷ d ∷ rest)) (cases_Bool (is_hyphen c))
  where
    at_second : (HyphensStandBetween (d ∷ rest) → has_single_hyphens (d ∷ rest) ≡ true) → (HyphensStandBetween (c ∷ d ∷ rest) → has_single_hyphens (c ∷ d ∷ rest) ≡ true)
        → (is_hyphen c ≡ true) ⊎ (is_hyphen c ≡ false) → has_single_hyphens (b ∷ c ∷ d ∷ rest) ≡ true
    at_second far near (inl dash) =
        before_hyphen b c (d ∷ rest) is.first dash
        ∙ far (record {
          some = omega arith;
          first = is.apart 1 (omega arith) dash;
          last = ap is_hyphen (sym (shifted b (c ∷ d ∷ rest) (omega arith) ∙ shifted c (d ∷ rest) (omega arith))) ∙ is.last;
          apart = λ k within hyphen. ap is_hyphen (sym (behind b (suc k) (c ∷ d ∷ rest) ∙ behind c k (d ∷ rest))) ∙ is.apart (suc (suc k)) (omega arith) hyphen;
        })
    at_second far near (inr other) =
        before_other b c (d ∷ rest) is.first other
        ∙ near (record {
          some = omega arith;
          first = other;
          last = ap is_hyphen (sym (shifted b (c ∷ d ∷ rest) (omega arith))) ∙ is.last;
          apart = λ k within hyphen. ap is_hyphen (sym (behind b k (c ∷ d ∷ rest))) ∙ is.apart (suc k) (omega arith) hyphen;
        })
