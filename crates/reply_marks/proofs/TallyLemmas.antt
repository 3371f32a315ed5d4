-- The tally of a journal with more entries.
use Rattle.std.proofs.Common.{◌≡◌, ℕ, suc, ◌+◌, ◌≤◌, Bool, true, false, cond, List, [], ◌∷◌, ◌++◌, length, map, refl, sym, ap, ◌∙◌, arith, append-nil, append_assoc}
use Rattle.std.specs.Prelude.{filter}
use Rattle.std.proofs.lemmas.List.{length-map, map-append}
use Rattle.namespace_model.specs.declared.request.Entry.{Entry}
use Rattle.namespace_model.specs.Step.{step, tree_after, replies_of}
use Rattle.namespace_model.proofs.Runs.{replies_push, length-replies_of}
use Rattle.reply_marks.specs.declared.mark.Mark.{Mark}
use Rattle.reply_marks.specs.declared.mark.Mark.TheVariants as mark
use Rattle.reply_marks.specs.declared.tally.Tally.{Tally}
use Rattle.reply_marks.specs.Marks.{mark_of, marks_of, next_mark}
use Rattle.reply_marks.specs.Tallies.{counts, count_in, tally_of, one_more}

-- one entry more adds its mark and leaves the earlier ones
marks_push : (es : List Entry) (e : Entry) → marks_of (es ++ e ∷ []) ≡ marks_of es ++ next_mark es e ∷ []
marks_push es e = ap (map mark_of) (replies_push es e) ∙ map-append mark_of (replies_of es) ((step (tree_after es) e (length es + 1)).reply ∷ [])

length-marks_of : (es : List Entry) → length (marks_of es) ≡ length es
length-marks_of es = length-map (replies_of es) mark_of ∙ length-replies_of es

count_at_most_one : (m k : Mark) → counts m k ≤ 1
count_at_most_one mark.Ok mark.Ok = omega arith
count_at_most_one mark.Ok mark.Refused = omega arith
count_at_most_one mark.Ok mark.Denied = omega arith
count_at_most_one mark.Refused mark.Ok = omega arith
count_at_most_one mark.Refused mark.Refused = omega arith
count_at_most_one mark.Refused mark.Denied = omega arith
count_at_most_one mark.Denied mark.Ok = omega arith
count_at_most_one mark.Denied mark.Refused = omega arith
count_at_most_one mark.Denied mark.Denied = omega arith

abbrev with_counts : ℕ → ℕ → ℕ → Tally
with_counts a b c = record { ok = a; refused = b; denied = c }

module _ {X : Type 0} where
  -- no mark comes more often than there are entries
  count_few : (m : Mark) (is_one : X → Bool) (xs : List X) (ks : List Mark) → count_in m is_one xs ks ≤ length xs
  unfolding count_in
  count_few m is_one [] ks = omega arith
  count_few m is_one (x ∷ xs) [] = omega arith
  count_few m is_one (x ∷ xs) (k ∷ ks) = by_one (is_one x) (count_few m is_one xs ks)
    where
      by_one : (b : Bool) {n l : ℕ} → n ≤ l → cond b (counts m k) 0 + n ≤ suc l
      by_one true {n} {l} few = omega (arith, few, count_at_most_one m k)
      by_one false {n} {l} few = omega (arith, few)

  count-append : (m : Mark) (is_one : X → Bool) (xs ys : List X) (ks ls : List Mark) → length xs ≡ length ks
      → count_in m is_one (xs ++ ys) (ks ++ ls) ≡ count_in m is_one xs ks + count_in m is_one ys ls
  unfolding count_in
  count-append m is_one [] ys [] ls same = zero-plus (count_in m is_one ys ls)
    where
      zero-plus : (n : ℕ) → n ≡ 0 + n
      zero-plus n = omega arith
  count-append m is_one [] ys (k ∷ ks) ls same = absurd (omega arith)
  count-append m is_one (x ∷ xs) ys [] ls same = absurd (omega arith)
  count-append m is_one (x ∷ xs) ys (k ∷ ks) ls same =
      let less : length xs ≡ length ks = omega arith in
      let here = cond (is_one x) (counts m k) 0 in
      ap (λ n. here + n) (count-append m is_one xs ys ks ls less) ∙ plus-assoc here (count_in m is_one xs ks) (count_in m is_one ys ls)
    where
      plus-assoc : (a b c : ℕ) → a + (b + c) ≡ (a + b) + c
      plus-assoc a b c = omega arith

  module _ (entry_of : X → Entry) (is_one : X → Bool) where
    -- how often a mark is that of one of the entries, by the run of the journal
    abbrev count : Mark → List X → ℕ
    count m journal = count_in m is_one journal (marks_of (map entry_of journal))

    count_push : (m : Mark) (journal : List X) (x : X)
        → count m (journal ++ x ∷ []) ≡ count m journal + cond (is_one x) (counts m (next_mark (map entry_of journal) (entry_of x))) 0
    unfolding count_in
    count_push m journal x =
        let es = map entry_of journal in
        let next = next_mark es (entry_of x) in
        let marks : marks_of (map entry_of (journal ++ x ∷ [])) ≡ marks_of es ++ next ∷ [] = ap marks_of (map-append entry_of journal (x ∷ [])) ∙ marks_push es (entry_of x) in
        let long : length journal ≡ length (marks_of es) = sym (length-marks_of es ∙ length-map journal entry_of) in
        ap (count_in m is_one (journal ++ x ∷ [])) marks ∙ count-append m is_one journal (x ∷ []) (marks_of es) (next ∷ []) long
        ∙ ap (λ n. count m journal + n) (plus-zero (cond (is_one x) (counts m next) 0))
      where
        plus-zero : (n : ℕ) → n + 0 ≡ n
        plus-zero n = omega arith

    -- entries of others change nothing
    count_others : (m : Mark) (front rest : List X) → filter is_one rest ≡ [] → count m (front ++ rest) ≡ count m front
    count_others m front [] none = ap (count m) (append-nil front)
    count_others m front (x ∷ rest) none =
        let first = is_other (is_one x) refl none in
        ap (count m) (sym (append_assoc front (x ∷ []) rest)) ∙ count_others m (front ++ x ∷ []) rest first.1 ∙ count_push m front x
        ∙ ap (λ b. count m front + cond b (counts m (next_mark (map entry_of front) (entry_of x))) 0) first.0 ∙ plus-zero (count m front)
      where
        plus-zero : (n : ℕ) → n + 0 ≡ n
        plus-zero n = omega arith

        is_other : (b : Bool) → is_one x ≡ b → cond b (x ∷ filter is_one rest) (filter is_one rest) ≡ [] → (is_one x ≡ false) × (filter is_one rest ≡ [])
        is_other true is none = absurd (let long = ap length none in omega (arith, long))
        is_other false is none = (is, none)

    -- so they leave the tally as it was
    pub tally_others : (front rest : List X) → filter is_one rest ≡ [] → tally_of entry_of is_one (front ++ rest) ≡ tally_of entry_of is_one front
    tally_others front rest none =
        same (count_others mark.Ok front rest none) (count_others mark.Refused front rest none) (count_others mark.Denied front rest none)
      where
        same : {a b c d e f : ℕ} → a ≡ d → b ≡ e → c ≡ f → with_counts a b c ≡ with_counts d e f
        same first second third = cc (first, second, third)

    -- one of the entries adds its mark
    pub tally_push : (journal : List X) (x : X) → is_one x ≡ true
        → tally_of entry_of is_one (journal ++ x ∷ []) ≡ one_more (tally_of entry_of is_one journal) (next_mark (map entry_of journal) (entry_of x))
    tally_push journal x own =
        by_mark (count mark.Ok journal) (count mark.Refused journal) (count mark.Denied journal) (next_mark (map entry_of journal) (entry_of x)) (here mark.Ok) (here mark.Refused) (here mark.Denied)
      where
        here : (m : Mark) → count m (journal ++ x ∷ []) ≡ count m journal + counts m (next_mark (map entry_of journal) (entry_of x))
        here m = count_push m journal x ∙ ap (λ b. count m journal + cond b (counts m (next_mark (map entry_of journal) (entry_of x))) 0) own

        by_mark : (d e f : ℕ) {a b c : ℕ} (k : Mark) → a ≡ d + counts mark.Ok k → b ≡ e + counts mark.Refused k → c ≡ f + counts mark.Denied k
            → with_counts a b c ≡ one_more (with_counts d e f) k
        by_mark d e f mark.Ok first second third =
            let s : e + 0 ≡ e = omega arith in
            let t : f + 0 ≡ f = omega arith in
            cc (first, second, third, s, t)
        by_mark d e f mark.Refused first second third =
            let s : d + 0 ≡ d = omega arith in
            let t : f + 0 ≡ f = omega arith in
            cc (first, second, third, s, t)
        by_mark d e f mark.Denied first second third =
            let s : d + 0 ≡ d = omega arith in
            let t : e + 0 ≡ e = omega arith in
            cc (first, second, third, s, t)

    pub tally_nothing : tally_of entry_of is_one [] ≡ record { ok = 0; refused = 0; denied = 0 }
    unfolding count_in
    tally_nothing = refl

    -- no mark comes more often than there are entries
    pub ok_few : (journal : List X) → (tally_of entry_of is_one journal).ok ≤ length journal
    ok_few journal = count_few mark.Ok is_one journal (marks_of (map entry_of journal))

    pub refused_few : (journal : List X) → (tally_of entry_of is_one journal).refused ≤ length journal
    refused_few journal = count_few mark.Refused is_one journal (marks_of (map entry_of journal))

    pub denied_few : (journal : List X) → (tally_of entry_of is_one journal).denied ≤ length journal
    denied_few journal = count_few mark.Denied is_one journal (marks_of (map entry_of journal))
