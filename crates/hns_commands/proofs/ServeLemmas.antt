-- The passes of a service whose workers have served.
use Rattle.std.proofs.Common.{◌≡◌, ℕ, zero, suc, ◌+◌, ◌<◌, List, [], ◌∷◌, ◌++◌, length, map, slice_get, Option, Some, None, option_map, refl, sym, ap, subst, ◌∙◌, arith, append_assoc, append-nil, length-append, Bool, true, inl, inr, ◌⊎◌, ◌≤◌}
use Rattle.std.specs.Prelude.{All, slice_index_or, sum_by, filter}
use Rattle.std.specs.Io.KnownBytes.{Appends}
use Rattle.std.proofs.lemmas.List.Elements.{filter-append}
use Rattle.std.proofs.lemmas.List.Sums.{sum_by_push}
use Rattle.reply_marks.specs.declared.tally.Tally.{Tally}
use Rattle.reply_marks.specs.Tallies.{tally_of, total_of}
use Rattle.reply_marks.proofs.TallyLemmas.{tally_others}
use Rattle.reply_marks.proofs.SumLemmas.{total_is}
use Rattle.service_workers.specs.Closes.{AreOfPasses}
use Rattle.service_workers.specs.Drafts.{body_in}
use Rattle.parted_namespace.specs.Namespace.{namespace}
use Rattle.striped_store.specs.Closed.{AreByPasses, IsOfPass}
use Rattle.conn_workers.specs.Counted.{entry_in, is_by, tally_by, OwnsWhatItSaw}
use Rattle.hns_commands.specs.Summary.{summary_text, summary_of}
use Rattle.std.proofs.lemmas.List.{length-map, map-append}
use Rattle.std.proofs.lemmas.Option.{same_Some, none-some, slice_get-map, slice_get_within, get_or_from_slice_get, slice_get-get_or}
use Rattle.commit_journal.specs.Limits.{LimitNumbers}
use Rattle.inode_tree.specs.declared.placed.Placed.{Placed}
use Rattle.path_locks.specs.Views.{TableView}
use Rattle.striped_store.specs.Closed.{AreEveryPass}
use Rattle.striped_store.specs.Views.{number_of_pass, seen_by, made_by, AreNewPasses}
use Rattle.service_workers.specs.Looks.{NamespacePass}
use Rattle.conn_workers.specs.Workers.{EachPair, IsReady, HasWorked}
use Rattle.hns_commands.specs.Serves.{AreInOrder, HasTaken, IsUnused}
use Rattle.command_words.specs.Words.{ServeGiven, serve_given}
use Rattle.std.specs.Prelude.{String}
use Rattle.std.specs.declared.alloc.Global.{Global}

some_of : {A B : Type 0} (f : A → B) (found : Option A) (y : B) → option_map f found ≡ Some y → (x : A) × (found ≡ Some x) × (f x ≡ y)
some_of f None y e = absurd (none-some _ e)
some_of f (Some x) y e = (x, refl, same_Some (f x) y e)

module _ {K X : Type 0} (store : TableView Placed) (limits : LimitNumbers) (f : X → NamespacePass K) (olds news : List X) where
  module _ (fresh : AreNewPasses store (map f olds)) (many : length news ≡ length olds) (seats : store.seats ≡ length olds)
      (worked : EachPair (λ a b. HasWorked limits (f a) (f b)) olds news) (ready : All (λ x. IsReady store (f x)) news) where
    -- what stands at a place
    there : (k : ℕ) (p : NamespacePass K) → slice_get (map f news) k ≡ Some p → (x : X) × (slice_get news k ≡ Some x) × (f x ≡ p)
    there k p is = some_of f (slice_get news k) p (sym (slice_get-map f news k) ∙ is)

    ready_at : (k : ℕ) (p : NamespacePass K) → slice_get (map f news) k ≡ Some p → IsReady store p
    ready_at k p is =
        let x = there k p is in
        subst (IsReady store) (ap f (get_or_from_slice_get news k x.0 x.0 x.1) ∙ x.2) (ready k x.0 (slice_get_within news k x.0 x.1))

    -- each pass stands at its number
    pub in_order : AreInOrder (map f news)
    in_order k p is =
        let x = there k p is in
        let within : k < length olds = (let low = slice_get_within news k x.0 x.1 in omega (arith, low, many)) in
        let old : NamespacePass K = f (slice_index_or olds k x.0) in
        let at_old : slice_get (map f olds) k ≡ Some old = slice_get-map f olds k ∙ ap (option_map f) (slice_get-get_or olds k x.0 within) in
        let new : f (slice_index_or news k x.0) ≡ p = ap f (get_or_from_slice_get news k x.0 x.0 x.1) ∙ x.2 in
        ap number_of_pass (sym new) ∙ (worked k x.0 within).again.number ∙ (fresh k old at_old).number

    -- these are all passes of the service
    pub every : AreEveryPass store (map f news)
    every = record {
      many = length-map news f ∙ many ∙ sym seats;
      own = λ k p is. (ready_at k p is).own;
      nothing = λ k p is. (ready_at k p is).nothing;
      every = λ n below. at_number n (let low : n < length news = omega (arith, below, many, seats) in low);
    }
      where
        some_there : (xs : List X) (n : ℕ) → n < length xs → (x : X) × (slice_get xs n ≡ Some x)
        some_there [] n low = absurd (omega (arith, low))
        some_there (x ∷ xs) n low = (slice_index_or (x ∷ xs) n x, slice_get-get_or (x ∷ xs) n x low)

        at_number : (n : ℕ) → n < length news → (k : ℕ) × (p : NamespacePass K) × (slice_get (map f news) k ≡ Some p) × (number_of_pass p ≡ n)
        at_number n low =
            let x = some_there news n low in
            let is : slice_get (map f news) n ≡ Some (f x.0) = slice_get-map f news n ∙ ap (option_map f) x.1 in
            (n, f x.0, is, in_order n (f x.0) is)

-- ---- workers and their passes, one after the other

module _ {A X : Type 0} (f : X → A) where
  -- one more worker takes the first of the passes that are left
  pub moved : (workers more : List X) (left rest all : List A) (x : X) (p : A) → map f workers ++ left ≡ all → left ≡ p ∷ rest → f x ≡ p → more ≡ workers ++ x ∷ []
      → map f more ++ rest ≡ all
  moved workers more left rest all x p before begins is grown =
      ap (λ (l : List X). map f l ++ rest) grown ∙ ap (λ (l : List A). l ++ rest) (map-append f workers (x ∷ [])) ∙ append_assoc (map f workers) (f x ∷ []) rest
      ∙ ap (λ (y : A). map f workers ++ y ∷ rest) is ∙ ap (λ (l : List A). map f workers ++ l) (sym begins) ∙ before

  -- one more pass is taken of the first of the workers that are left
  pub taken : (passes more : List A) (left rest : List X) (all : List A) (x : X) (p : A) → passes ++ map f left ≡ all → left ≡ x ∷ rest → p ≡ f x → more ≡ passes ++ p ∷ []
      → more ++ map f rest ≡ all
  taken passes more left rest all x p before begins is grown =
      ap (λ (l : List A). l ++ map f rest) grown ∙ append_assoc passes (p ∷ []) (map f rest) ∙ ap (λ (y : A). passes ++ y ∷ map f rest) is
      ∙ ap (λ (l : List X). passes ++ map f l) (sym begins) ∙ before

module _ {A : Type 0} (P : A → Type 0) where
  -- all but the first
  pub all_behind : (left rest : List A) (p : A) → left ≡ p ∷ rest → All P left → All P rest
  all_behind left rest p begins all k d low = subst (λ (l : List A). All P l) begins all (suc k) d (omega (arith, low))

-- one more
pub all_more : {A : Type 0} (P : A → Type 0) (xs : List A) (x : A) → All P xs → P x → All P (xs ++ x ∷ [])
all_more P [] x all is zero d low = is
all_more P [] x all is (suc k) d low = absurd (omega (arith, low))
all_more P (y ∷ xs) x all is zero d low = all zero d (omega arith)
all_more P (y ∷ xs) x all is (suc k) d low = all_more P xs x (λ j e below. all (suc j) e (omega (arith, below))) is k d (omega (arith, low))

abbrev with_counts : ℕ → ℕ → ℕ → Tally
with_counts a b c = record { ok = a; refused = b; denied = c }

counts_same : {a b c d e f : ℕ} → a ≡ d → b ≡ e → c ≡ f → with_counts a b c ≡ with_counts d e f
counts_same first second third = cc (first, second, third)

abbrev both_of : Tally → Tally → Tally
both_of t u = with_counts (t.ok + u.ok) (t.refused + u.refused) (t.denied + u.denied)

module _ {A : Type 0} (f : A → Tally) where
  -- the total of one tally more
  total_more : (passes : List A) (p : A) → total_of (map f (passes ++ p ∷ [])) ≡ both_of (total_of (map f passes)) (f p)
  total_more passes p = counts_same (one (λ t. t.ok)) (one (λ t. t.refused)) (one (λ t. t.denied))
    where
      one : (g : Tally → ℕ) → sum_by g (map f (passes ++ p ∷ [])) ≡ sum_by g (map f passes) + g (f p)
      one g = ap (sum_by g) (map-append f passes (p ∷ [])) ∙ sum_by_push g (map f passes) (f p)

  pub total_step : (passes more : List A) (p : A) (t u r : Tally) → t ≡ total_of (map f passes) → u ≡ f p → r.ok ≡ t.ok + u.ok → r.refused ≡ t.refused + u.refused → r.denied ≡ t.denied + u.denied
      → more ≡ passes ++ p ∷ [] → r ≡ total_of (map f more)
  total_step passes more p t u r total is ok refused denied grown =
      let first : r ≡ both_of t u = counts_same ok refused denied in
      first ∙ ap (λ (x : Tally). both_of x u) total ∙ ap (both_of (total_of (map f passes))) is ∙ sym (total_more passes p) ∙ ap (λ (l : List A). total_of (map f l)) (sym grown)

-- why no connection is taken any more, by the words
pub done_by : {E : Type 0} (words : List (String Global)) (asked : ServeGiven) (most count : ℕ) → serve_given words ≡ Some asked → asked.connections ≡ most → E ⊎ (most ≤ count) → E ⊎ HasTaken words count
done_by words asked most count given is (inl e) = inl e
done_by words asked most count given is (inr enough) =
    inr (λ other same. let eq : asked ≡ other = same_Some asked other (sym given ∙ same) in subst (λ (g : ServeGiven). g.connections ≤ count) eq (subst (λ n. n ≤ count) (sym is) enough))

-- ---- the summary

nothing : {A : Type 0} (l : List A) → length l ≡ 0 → l ≡ []
nothing [] is = refl
nothing (x ∷ l) is = absurd (omega arith)

-- entries behind which the own ones are as before are of others
others : {A : Type 0} (own : A → Bool) (front rest : List A) → filter own (front ++ rest) ≡ filter own front → filter own rest ≡ []
others own front rest same =
    nothing (filter own rest) (
    let both : length (filter own front) + length (filter own rest) ≡ length (filter own front) =
    sym (length-append (filter own front) (filter own rest)) ∙ ap length (sym (filter-append own front rest) ∙ same) in
    omega (arith, both))

module _ {K : Type 0} (journal : List Placed) (passes : List (NamespacePass K)) where
  module _ (of_passes : AreOfPasses journal passes) (by_passes : AreByPasses namespace journal passes) (order : AreInOrder passes) (own : All OwnsWhatItSaw passes) where
    -- the tally of a pass is that of its entries of the whole journal
    tally_at : (k : ℕ) (p : NamespacePass K) → slice_get passes k ≡ Some p → tally_by p ≡ tally_of entry_in (is_by k) journal
    tally_at k p is =
        let of_pass : IsOfPass namespace journal p = of_passes k p is in
        let mine : made_by p ≡ filter (is_by (number_of_pass p)) journal = of_pass.mine in
        let at : OwnsWhatItSaw p = subst OwnsWhatItSaw (get_or_from_slice_get passes k p p is) (own k p (slice_get_within passes k p is)) in
        let whole : seen_by p ++ of_pass.seen.0 ≡ journal = of_pass.seen.1 in
        let rest : filter (is_by (number_of_pass p)) of_pass.seen.0 ≡ [] = others (is_by (number_of_pass p)) (seen_by p) of_pass.seen.0 (ap (filter (is_by (number_of_pass p))) whole ∙ sym mine ∙ at) in
        sym (tally_others entry_in (is_by (number_of_pass p)) (seen_by p) of_pass.seen.0 rest) ∙ ap (tally_of entry_in (is_by (number_of_pass p))) whole ∙ ap (λ n. tally_of entry_in (is_by n) journal) (order k p is)

    -- all of them together are that of the journal
    pub all_tallies : total_of (map tally_by passes) ≡ tally_of entry_in (λ x. true) journal
    all_tallies = total_is entry_in (λ (x : Placed). x.pass) (map tally_by passes) journal each below
      where
        each : (k : ℕ) (t : Tally) → slice_get (map tally_by passes) k ≡ Some t → t ≡ tally_of entry_in (is_by k) journal
        each k t is = let p = some_of tally_by (slice_get passes k) t (sym (slice_get-map tally_by passes k) ∙ is) in sym p.2 ∙ tally_at k p.0 p.1

        below : (k : ℕ) (x : Placed) → slice_get journal k ≡ Some x → x.pass < length (map tally_by passes)
        below k x is =
            let by = by_passes k x is in
            let number : x.pass ≡ by.0 = by.3 ∙ order by.0 by.1 by.2 in
            let within : by.0 < length passes = slice_get_within passes by.0 by.1 by.2 in
            let long : length (map tally_by passes) ≡ length passes = length-map passes tally_by in
            omega (arith, number, within, long)

-- the five lines
pub summed : (journal : List Placed) (entries bytes : ℕ) (tally : Tally) → entries ≡ length journal → tally ≡ tally_of entry_in (λ x. true) journal → bytes ≡ sum_by body_in journal
    → summary_text entries tally bytes ≡ summary_of journal
summed journal entries bytes tally first second third =
    ap (λ n. summary_text n tally bytes) first ∙ ap (λ (t : Tally). summary_text (length journal) t bytes) second ∙ ap (summary_text (length journal) (tally_of entry_in (λ x. true) journal)) third

-- nothing was written
pub nothing_out : (out : Option (List ℕ)) → Appends out out []
nothing_out None = tt
nothing_out (Some bytes) = sym (append-nil bytes)

-- ---- new workers

module _ {K X : Type 0} (store : TableView Placed) (f : X → NamespacePass K) (xs : List X) (fresh : AreNewPasses store (map f xs)) where
  pub ready_new : All (λ x. IsReady store (f x)) xs
  ready_new k d low =
      let new = fresh k (f (slice_index_or xs k d)) (slice_get-map f xs k ∙ ap (option_map f) (slice_get-get_or xs k d low)) in
      record { own = new.own; nothing = new.nothing; limits = new.limits }

pub unused_new : {K : Type 0} (store : TableView Placed) (passes : List (NamespacePass K)) → AreNewPasses store passes → All IsUnused passes
unused_new store passes fresh k d low =
    let new = fresh k (slice_index_or passes k d) (slice_get-get_or passes k d low) in
    record { seen = new.seen; made = new.mine }
