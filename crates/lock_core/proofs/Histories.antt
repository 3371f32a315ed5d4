-- Journals and their beginnings: replays, replies and the entries of a pass.
use Rattle.std.proofs.Common.{◌≡◌, ◌≢◌, ℕ, zero, suc, ◌+◌, ◌<◌, ◌≤◌, Bool, true, false, cond, List, [], ◌∷◌, ◌++◌, length, take, drop, filter, nat_eq, nat_lt, ltb-true, refl, ap, sym, ◌∙◌, subst, ⊎_elim, append_assoc, append-nil, eq-eqb, ne_eqb, add-zero, length-append, arith}
use Rattle.std.proofs.Math.Seq.{take-append_seam}
use Rattle.std.proofs.lemmas.List.{take-append-le}
use Rattle.lock_core.specs.Object.{Object, by_pass, replay, replay_from}
use Rattle.lock_core.specs.Machine.{longer}
use Rattle.lock_core.specs.Sound.{StartsWith, KnowsOk, MadeBelow, replies_from, AllReplied, AllFit}
use Rattle.lock_core.proofs.Totals.{at_snoc, elem-append, elem-snoc}
use mathlib.Core.Option.{some, some-injective, some-ne-none}
use lib.ListN.{get_elem?}

module _ {E : Type 0} where
  filter_step : (p : E → Bool) (x : E) (xs ys zs : List E) → zs ≡ xs ++ ys → (b : Bool) → cond b (x ∷ zs) zs ≡ cond b (x ∷ xs) xs ++ ys
  filter_step p x xs ys zs e true = ap {B = List E} (λ l. x ∷ l) e
  filter_step p x xs ys zs e false = e

  pub filter-append : (p : E → Bool) (xs ys : List E) → filter p (xs ++ ys) ≡ filter p xs ++ filter p ys
  filter-append p [] ys = refl
  filter-append p (x ∷ xs) ys = filter_step p x (filter p xs) (filter p ys) (filter p (xs ++ ys)) (filter-append p xs ys) (p x)

  -- two beginnings of one list, the shorter first
  pub shorter_begins : (h s1 s2 : List E) → StartsWith h s1 → StartsWith h s2 → length s1 ≤ length s2 → StartsWith s2 s1
  shorter_begins h [] s2 a b l = (s2, refl)
  shorter_begins h (x ∷ s1) [] a b l = absurd (omega arith)
  shorter_begins [] (x ∷ s1) (y ∷ s2) a b l = absurd (let e = ap length a.1 in omega arith)
  shorter_begins (z ∷ h) (x ∷ s1) (y ∷ s2) a b l =
      let tail : List E → List E = drop 1 in
      let r = shorter_begins h s1 s2 (a.0, ap tail a.1) (b.0, ap tail b.1) (omega arith) in
      let head : x ≡ y = some-injective x y (ap (λ (l : List E). get_elem? l 0) (a.1 ∙ sym b.1)) in
      (r.0, let f : (u : E) → u ≡ y → (u ∷ (s1 ++ r.0)) ≡ y ∷ s2 = λ u e. λ i. e i ∷ r.1 i in f x head)

  pub begins_snoc : (h s : List E) (e : E) → StartsWith h s → StartsWith (h ++ e ∷ []) s
  begins_snoc h s e a = (a.0 ++ e ∷ [], sym (append_assoc s a.0 (e ∷ [])) ∙ ap (λ (l : List E). l ++ e ∷ []) a.1)

module _ {T E R : Type 0} (o : Object T E R) where
  pub by_pass-append : (n : ℕ) (xs ys : List E) → by_pass o n (xs ++ ys) ≡ by_pass o n xs ++ by_pass o n ys
  by_pass-append n xs ys = filter-append (λ e. nat_eq (o.by e) n) xs ys

  pub by_pass_own : (n : ℕ) (h : List E) (e : E) → o.by e ≡ n → by_pass o n (h ++ e ∷ []) ≡ by_pass o n h ++ e ∷ []
  by_pass_own n h e is = by_pass-append n h (e ∷ []) ∙ ap (λ (b : Bool). by_pass o n h ++ cond b (e ∷ []) []) (eq-eqb (o.by e) n is)

  pub by_pass_other : (n : ℕ) (h : List E) (e : E) → o.by e ≢ n → by_pass o n (h ++ e ∷ []) ≡ by_pass o n h
  by_pass_other n h e other = by_pass-append n h (e ∷ []) ∙ ap (λ (b : Bool). by_pass o n h ++ cond b (e ∷ []) []) (ne_eqb (o.by e) n other)
      ∙ append-nil (by_pass o n h)

  -- nobody made an entry of a list by a number above all
  pub by_pass_none : (n : ℕ) (h : List E) → ((k : ℕ) (e : E) → get_elem? h k ≡ some e → o.by e < n) → by_pass o n h ≡ []
  by_pass_none n [] below = refl
  by_pass_none n (e ∷ h) below =
      let b = below 0 e refl in
      ap (λ (t : Bool). cond t (e ∷ by_pass o n h) (by_pass o n h)) (ne_eqb (o.by e) n (λ p. omega arith))
      ∙ by_pass_none n h (λ k x p. below (suc k) x p)

  replay_from-snoc : (h : List E) (xs : List T) (n : ℕ) (e : E)
      → replay_from o xs n (h ++ e ∷ []) ≡ o.after (replay_from o xs n h) e (n + length h)
  replay_from-snoc [] xs n e = ap (λ (k : ℕ). o.after xs e k) (sym (add-zero n))
  replay_from-snoc (x ∷ h) xs n e = replay_from-snoc h (o.after xs x n) (n + 1) e
      ∙ (let k : (n + 1) + length h ≡ n + suc (length h) = omega arith in ap (λ (k : ℕ). o.after (replay_from o (o.after xs x n) (n + 1) h) e k) k)

  pub replay-snoc : (h : List E) (e : E) → replay o (h ++ e ∷ []) ≡ o.after (replay o h) e (length h + 1)
  replay-snoc h e = replay_from-snoc h o.opening 1 e
      ∙ (let k : 1 + length h ≡ length h + 1 = omega arith in ap (λ (k : ℕ). o.after (replay o h) e k) k)

  pub take_before : (h : List E) (e : E) (n : ℕ) → n < length h → take n (h ++ e ∷ []) ≡ take n h
  take_before h e n l = take-append-le n h (e ∷ []) (omega arith)

  pub take_all_before : (h : List E) (e : E) → take (length h) (h ++ e ∷ []) ≡ h
  take_all_before h e = take-append_seam h (e ∷ [])

  pub fit-snoc : (h : List E) (e : E) → AllFit o h → o.fits (o.by e) (by_pass o (o.by e) h) (replay o h) e → AllFit o (h ++ e ∷ [])
  fit-snoc h e all f n x at = ⊎_elim
      (λ p. subst (λ (z : List E). o.fits (o.by x) (by_pass o (o.by x) z) (replay o z) x) (sym (take_before h e n p.0)) (all n x p.1))
      (λ p. subst (λ (k : ℕ). o.fits (o.by x) (by_pass o (o.by x) (take k (h ++ e ∷ []))) (replay o (take k (h ++ e ∷ []))) x) (sym p.0)
      (subst (λ (z : List E). o.fits (o.by x) (by_pass o (o.by x) z) (replay o z) x) (sym (take_all_before h e))
      (subst (λ (y : E). o.fits (o.by y) (by_pass o (o.by y) h) (replay o h) y) p.1 f)))
      (at_snoc h e x n at)

  pub replied-snoc : (rs : List R) (h : List E) (e : E) (r : R) → AllReplied o rs h → r ≡ o.reply (replay o h) e (length h + 1)
      → AllReplied o (rs ++ r ∷ []) (h ++ e ∷ [])
  replied-snoc rs h e r ok is = record {
    long = length-append rs (r ∷ []) ∙ ap (λ (n : ℕ). n + 1) ok.long ∙ sym (length-append h (e ∷ []));
    each = λ n x at. ⊎_elim
        (λ p. let l : n < length rs = (let q = ok.long in let s = p.0 in omega arith) in
        elem-append rs (r ∷ []) n l ∙ ok.each n x p.1
        ∙ ap (λ (z : List E). some (o.reply (replay o z) x (n + 1))) (sym (take_before h e n p.0)))
        (λ p. let l : n ≡ length rs = p.0 ∙ sym ok.long in
        ap (λ (k : ℕ). get_elem? (rs ++ r ∷ []) k) l ∙ elem-snoc rs r ∙ ap (λ (z : R). some z) is
        ∙ ap (λ (y : E). some (o.reply (replay o h) y (length h + 1))) p.1
        ∙ ap (λ (k : ℕ). some (o.reply (replay o h) x (k + 1))) (sym p.0)
        ∙ ap (λ (z : List E). some (o.reply (replay o z) x (n + 1))) (sym (ap (λ (k : ℕ). take k (h ++ e ∷ [])) p.0 ∙ take_all_before h e)))
        (at_snoc h e x n at);
  }

  -- what a list of entries replies from the start
  replies_each : (h : List E) (xs : List T) (k n : ℕ) (e : E) → get_elem? h n ≡ some e
      → get_elem? (replies_from o xs k h) n ≡ some (o.reply (replay_from o xs k (take n h)) e (k + n))
  replies_each [] xs k n e at = absurd (some-ne-none e (sym at))
  replies_each (x ∷ h) xs k zero e at = ap (λ (y : E). some (o.reply xs y k)) (some-injective x e at) ∙ ap (λ (i : ℕ). some (o.reply xs e i)) (sym (add-zero k))
  replies_each (x ∷ h) xs k (suc n) e at = replies_each h (o.after xs x k) (k + 1) n e at
      ∙ (let i : (k + 1) + n ≡ k + suc n = omega arith in ap (λ (i : ℕ). some (o.reply (replay_from o (o.after xs x k) (k + 1) (take n h)) e i)) i)

  replies_long : (h : List E) (xs : List T) (k : ℕ) → length (replies_from o xs k h) ≡ length h
  replies_long [] xs k = refl
  replies_long (x ∷ h) xs k = ap suc (replies_long h (o.after xs x k) (k + 1))

  pub replied-from : (h : List E) → AllReplied o (replies_from o o.opening 1 h) h
  replied-from h = record {
    long = replies_long h o.opening 1;
    each = λ n e at. replies_each h o.opening 1 n e at ∙ (let i : 1 + n ≡ n + 1 = omega arith in ap (λ (i : ℕ). some (o.reply (replay o (take n h)) e i)) i);
  }

  module _ (h0 : List E) where
    pub knows_grows : (h : List E) (e : E) (n : ℕ) (seen mine : List E) → o.by e ≢ n → KnowsOk o h0 h n seen mine → KnowsOk o h0 (h ++ e ∷ []) n seen mine
    knows_grows h e n seen mine other k = record {
      prefix = begins_snoc h seen e k.prefix;
      start = k.start;
      mine_of_all = k.mine_of_all ∙ sym (by_pass_other n h e other);
      mine_of_seen = k.mine_of_seen;
    }

    -- the committer itself, which saw the whole journal
    pub knows_own : (h : List E) (e : E) (n : ℕ) (seen mine : List E) → o.by e ≡ n → seen ≡ h → KnowsOk o h0 h n seen mine
        → KnowsOk o h0 (h ++ e ∷ []) n (seen ++ e ∷ []) (mine ++ e ∷ [])
    knows_own h e n seen mine is whole k =
        let own : mine ++ e ∷ [] ≡ by_pass o n (h ++ e ∷ []) = ap (λ (l : List E). l ++ e ∷ []) k.mine_of_all ∙ sym (by_pass_own n h e is) in
        record {
          prefix = ([], append-nil (seen ++ e ∷ []) ∙ ap (λ (l : List E). l ++ e ∷ []) whole);
          start = begins_snoc seen h0 e k.start;
          mine_of_all = own;
          mine_of_seen = own ∙ ap (λ (l : List E). by_pass o n (l ++ e ∷ [])) (sym whole);
        }

    -- the whole journal, seen
    pub knows_all : (h : List E) (n : ℕ) (seen mine : List E) → KnowsOk o h0 h n seen mine → KnowsOk o h0 h n h mine
    knows_all h n seen mine k = record {
      prefix = ([], append-nil h);
      start = (k.start.0 ++ k.prefix.0, sym (append_assoc h0 k.start.0 k.prefix.0) ∙ ap (λ (l : List E). l ++ k.prefix.0) k.start.1 ∙ k.prefix.1);
      mine_of_all = k.mine_of_all;
      mine_of_seen = k.mine_of_all;
    }

    made-snoc : (rest h : List E) (e : E) → h0 ++ rest ≡ h → h0 ++ (rest ++ e ∷ []) ≡ h ++ e ∷ []
    made-snoc rest h e is = sym (append_assoc h0 rest (e ∷ [])) ∙ ap (λ (l : List E). l ++ e ∷ []) is

    pub made_grows : (count : ℕ) (h : List E) (e : E) → o.by e < count → MadeBelow o h0 count h → MadeBelow o h0 count (h ++ e ∷ [])
    made_grows count h e below m = record {
      rest = m.rest ++ e ∷ [];
      begins = made-snoc m.rest h e m.begins;
      below = λ n x at. ⊎_elim (λ p. m.below n x p.1) (λ p. subst (λ (y : E). o.by y < count) p.1 below) (at_snoc m.rest e x n at);
    }

    rest_of : (xs ys zs : List E) → xs ++ ys ≡ xs ++ zs → ys ≡ zs
    rest_of [] ys zs e = e
    rest_of (x ∷ xs) ys zs e = rest_of xs ys zs (let tail : List E → List E = drop 1 in ap tail e)

    -- a number that no seat had has no entries past the start, whatever is seen
    pub knows_new : (count : ℕ) (h seen : List E) → MadeBelow o h0 count h → StartsWith h seen → StartsWith seen h0
        → KnowsOk o h0 h count seen (by_pass o count seen)
    knows_new count h seen m prefix start =
        let parts : h0 ++ (start.0 ++ prefix.0) ≡ h = sym (append_assoc h0 start.0 prefix.0) ∙ ap (λ (l : List E). l ++ prefix.0) start.1 ∙ prefix.1 in
        let same : m.rest ≡ start.0 ++ prefix.0 = rest_of h0 m.rest (start.0 ++ prefix.0) (m.begins ∙ sym parts) in
        let none_late : by_pass o count (start.0 ++ prefix.0) ≡ [] = ap (λ (l : List E). by_pass o count l) (sym same) ∙ by_pass_none count m.rest m.below in
        let split : by_pass o count start.0 ++ by_pass o count prefix.0 ≡ [] = sym (by_pass-append count start.0 prefix.0) ∙ none_late in
        let late : by_pass o count prefix.0 ≡ [] = nil_right (by_pass o count start.0) (by_pass o count prefix.0) split in
        record {
          prefix = prefix;
          start = start;
          mine_of_all = sym (ap (λ (l : List E). by_pass o count l) (sym prefix.1) ∙ by_pass-append count seen prefix.0
              ∙ ap (λ (l : List E). by_pass o count seen ++ l) late ∙ append-nil (by_pass o count seen));
          mine_of_seen = refl;
        }
      where
        nil_right : (xs ys : List E) → xs ++ ys ≡ [] → ys ≡ []
        nil_right [] ys e = e
        nil_right (x ∷ xs) ys e = cc

    -- what is seen grows to another beginning of the journal
    pub knows_longer : (h : List E) (n : ℕ) (seen seen' mine : List E) → KnowsOk o h0 h n seen mine → StartsWith h seen' → StartsWith seen' h0
        → KnowsOk o h0 h n (longer seen seen') mine
    knows_longer h n seen seen' mine k prefix start = pick (nat_lt (length seen) (length seen')) refl
      where
        nil_left : (xs ys : List E) → xs ++ ys ≡ [] → xs ≡ []
        nil_left [] ys e = refl
        nil_left (x ∷ xs) ys e = cc

        cancel : (xs ys : List E) → xs ≡ xs ++ ys → ys ≡ []
        cancel [] ys e = sym e
        cancel (x ∷ xs) ys e = cancel xs ys (let tail : List E → List E = drop 1 in ap tail e)

        pick : (t : Bool) → nat_lt (length seen) (length seen') ≡ t → KnowsOk o h0 h n (cond t seen' seen) mine
        pick false e = k
        pick true e =
            let l = ltb-true (length seen) (length seen') e in
            let r = shorter_begins h seen seen' k.prefix prefix (omega arith) in
            let all : by_pass o n h ≡ by_pass o n seen ++ (by_pass o n r.0 ++ by_pass o n prefix.0) =
            ap (λ (z : List E). by_pass o n z) (sym prefix.1) ∙ by_pass-append n seen' prefix.0
            ∙ ap (λ (z : List E). z ++ by_pass o n prefix.0) (ap (λ (z : List E). by_pass o n z) (sym r.1) ∙ by_pass-append n seen r.0)
            ∙ append_assoc (by_pass o n seen) (by_pass o n r.0) (by_pass o n prefix.0) in
            let none_late = cancel (by_pass o n seen) (by_pass o n r.0 ++ by_pass o n prefix.0) (sym k.mine_of_seen ∙ k.mine_of_all ∙ all) in
            let none_between : by_pass o n r.0 ≡ [] = nil_left (by_pass o n r.0) (by_pass o n prefix.0) none_late in
            record {
              prefix = prefix;
              start = start;
              mine_of_all = k.mine_of_all;
              mine_of_seen = k.mine_of_seen ∙ sym (append-nil (by_pass o n seen)) ∙ ap (λ (z : List E). by_pass o n seen ++ z) (sym none_between)
                  ∙ sym (by_pass-append n seen r.0) ∙ ap (λ (z : List E). by_pass o n z) r.1;
            }
