-- A submit, as a desk tells it.
use Rattle.std.proofs.Common.{◌≡◌, ℕ, ◌+◌, ◌-◌, ◌≤◌, Bool, true, cond, List, [], ◌∷◌, ◌++◌, length, map, drop, Option, refl, sym, ap, subst, ◌∙◌, arith, append-nil, length-append, eq-eqb}
use Rattle.std.specs.Prelude.{filter, sum_by}
use Rattle.std.proofs.lemmas.List.{length-map, map-append}
use Rattle.std.proofs.lemmas.List.Elements.{filter-append}
use Rattle.std.proofs.lemmas.List.Sums.{sum_by-cons}
use Rattle.std.proofs.Math.Seq.{drop-append_seam}
use Rattle.reply_marks.specs.declared.tally.Tally.{Tally}
use Rattle.reply_marks.specs.Marks.{next_mark}
use Rattle.reply_marks.specs.Tallies.{one_more, tally_of}
use Rattle.reply_marks.proofs.TallyLemmas.{tally_others, tally_push, tally_nothing, ok_few, refused_few, denied_few}
use Rattle.namespace_model.specs.declared.request.Entry.{Entry}
use Rattle.serving.specs.Known.{Known, HasItsOwn, Grew, own_texts_of, own_texts}
use Rattle.serving.specs.Texts.{texts_of, next_text, body_of}
use Rattle.serving.specs.Answered.{Answered, HasFull}
use Rattle.serving.specs.Completes.{Completes}
use Rattle.serving.specs.Moments.{Paced}
use Rattle.serving.specs.Served.{Served}
use Rattle.serving.specs.declared.end.End.{End}
use Rattle.conn_io.specs.Moments.{HasTicked, IsForetold}
use Rattle.commit_journal.specs.Limits.{LimitNumbers}
use Rattle.commit_journal.specs.declared.limits.Full.TheVariants as limit
use Rattle.lease_state.specs.declared.lease.TheConstants.{LAST_MOMENT}
use Rattle.inode_tree.specs.declared.placed.Placed.{Placed}
use Rattle.engine.specs.Solos.{as_asked}
use Rattle.engine.specs.declared.solo.Answer.{Answer}
use Rattle.path_locks.specs.Alike.{limits_of}
use Rattle.path_locks.specs.Views.{IsSeatAgain}
use Rattle.parted_namespace.specs.Namespace.{namespace}
use Rattle.striped_store.specs.declared.receipt.CommitRefusal.{CommitRefusal}
use Rattle.striped_store.specs.declared.receipt.CommitRefusal.TheVariants as refusal
use Rattle.striped_store.specs.Views.{number_of_pass, seen_by, made_by, FindsOneJournal}
use Rattle.service_workers.specs.declared.asked.Asked.{Asked}
use Rattle.conn_workers.specs.Counted.{entry_in, is_by, tally_by}
use Rattle.conn_workers.specs.Desks.{AsksLast, Sitter, known_by, unserved, refusal_of}
use Rattle.service_workers.specs.Drafts.{body_in}
use Rattle.service_workers.specs.Looks.{NamespacePass}
use Rattle.service_workers.specs.Submits.{entry_at, Commits, Submits, IsRefused, IsCaused}
use Rattle.serving.proofs.KnownLemmas.{grew-more, own_texts-more, own_texts-none}
use Rattle.serving.proofs.Texts.{texts_push, length-texts_of}

none : {X : Type 0} (l : List X) → length l ≡ 0 → l ≡ []
none [] is = refl
none (x ∷ l) is = absurd (omega arith)

module _ {X : Type 0} (is_own : X → Bool) where
  -- entries behind which the own ones are as before are of others
  pub others_only : (front rest : List X) → filter is_own (front ++ rest) ≡ filter is_own front → filter is_own rest ≡ []
  others_only front rest same =
      none (filter is_own rest) (
      let both : length (filter is_own front) + length (filter is_own rest) ≡ length (filter is_own front) =
      sym (length-append (filter is_own front) (filter is_own rest)) ∙ ap length (sym (filter-append is_own front rest) ∙ same) in
      omega (arith, both))

  -- what is known grew by entries of others
  pub grew-others-by : (old new : Known X) (rest : List X) → old.seen ++ rest ≡ new.seen → new.mine ≡ old.mine → HasItsOwn is_own old → HasItsOwn is_own new
      → Grew is_own old new []
  grew-others-by old new rest begins mine was is = record {
    more = rest;
    seen = sym begins;
    own = others_only old.seen rest (ap (filter is_own) begins ∙ sym is ∙ mine ∙ was);
    mine = mine ∙ sym (append-nil old.mine);
    all_mine = is;
  }

  -- what is known grew by one own entry, behind entries of others
  pub grew-by-one : (old new : Known X) (before rest : List X) (x : X) → old.seen ++ rest ≡ before → new.seen ≡ before ++ x ∷ [] → new.mine ≡ old.mine ++ x ∷ []
      → is_own x ≡ true → HasItsOwn is_own old → HasItsOwn is_own new → HasItsOwn is_own (record { seen = before; mine = old.mine })
  grew-by-one old new before rest x begins ends grown own was is = sym (cancel (filter is_own before) old.mine x both)
    where
      one : filter is_own (x ∷ []) ≡ x ∷ []
      one = ap (λ (b : Bool). cond b (x ∷ []) []) own

      both : filter is_own before ++ x ∷ [] ≡ old.mine ++ x ∷ []
      both = ap (λ (l : List X). filter is_own before ++ l) (sym one) ∙ sym (filter-append is_own before (x ∷ [])) ∙ ap (filter is_own) (sym ends) ∙ sym is ∙ grown

      cancel : (a b : List X) (y : X) → a ++ y ∷ [] ≡ b ++ y ∷ [] → a ≡ b
      cancel [] [] y e = refl
      cancel [] (z ∷ b) y e = absurd (let l = ap length e in omega (arith, l, length-append b (y ∷ [])))
      cancel (z ∷ a) [] y e = absurd (let l = ap length e in omega (arith, l, length-append a (y ∷ [])))
      cancel (z ∷ a) (w ∷ b) y e = cc (cancel a b y (cc e), e)

  module _ (entry_of : X → Entry) where
    -- the own text of one own entry at the end
    own_text-one : (before : List X) (x : X) → is_own x ≡ true → own_texts entry_of is_own before (before ++ x ∷ []) ≡ next_text (map entry_of before) (entry_of x) ∷ []
    unfolding own_texts_of
    own_text-one before x own =
        let texts = texts_of (map entry_of before) in
        let text = next_text (map entry_of before) (entry_of x) in
        let entries : drop (length before) (before ++ x ∷ []) ≡ x ∷ [] = drop-append_seam before (x ∷ []) in
        let whole : texts_of (map entry_of (before ++ x ∷ [])) ≡ texts ++ text ∷ [] = ap texts_of (map-append entry_of before (x ∷ [])) ∙ texts_push (map entry_of before) (entry_of x) in
        let long : length texts ≡ length before = length-texts_of (map entry_of before) ∙ length-map before entry_of in
        let late : drop (length before) (texts_of (map entry_of (before ++ x ∷ []))) ≡ text ∷ [] =
        ap (drop (length before)) whole ∙ ap (λ (n : ℕ). drop n (texts ++ text ∷ [])) (sym long) ∙ drop-append_seam texts (text ∷ []) in
        ap (λ (l : List X). own_texts_of is_own l (drop (length before) (texts_of (map entry_of (before ++ x ∷ []))))) entries
        ∙ ap (λ (l : List (List ℕ)). own_texts_of is_own (x ∷ []) l) late ∙ ap (λ (b : Bool). cond b (text ∷ []) []) own

    -- behind entries of others
    pub own_text-last : (old new : Known X) (before rest : List X) (x : X) → old.seen ++ rest ≡ before → new.seen ≡ before ++ x ∷ [] → new.mine ≡ old.mine ++ x ∷ []
        → is_own x ≡ true → HasItsOwn is_own old → HasItsOwn is_own new
        → Grew is_own old new (x ∷ []) × (own_texts entry_of is_own old.seen new.seen ≡ next_text (map entry_of before) (entry_of x) ∷ [])
    own_text-last old new before rest x begins ends grown own was is =
        let mid : Known X = record { seen = before; mine = old.mine } in
        let then : HasItsOwn is_own mid = grew-by-one old new before rest x begins ends grown own was is in
        let first : Grew is_own old mid [] = grew-others-by old mid rest begins refl was then in
        let second : Grew is_own mid new (x ∷ []) = record {
          more = x ∷ [];
          seen = ends;
          own = ap (λ (b : Bool). cond b (x ∷ []) []) own;
          mine = grown;
          all_mine = is;
        } in
        let text : own_texts entry_of is_own before new.seen ≡ next_text (map entry_of before) (entry_of x) ∷ [] =
        ap (own_texts entry_of is_own before) ends ∙ own_text-one before x own in (
          grew-more is_own old mid new [] (x ∷ []) first second,
          own_texts-more is_own entry_of old mid new [] (x ∷ []) first second
              ∙ ap (λ (l : List (List ℕ)). l ++ own_texts entry_of is_own before new.seen) (own_texts-none is_own entry_of old mid first) ∙ text,
        )

-- the bytes of all bodies, of the entries with their passes and of those without
bodies-map : (h : List Placed) → sum_by body_of (map entry_in h) ≡ sum_by body_in h
bodies-map [] = refl
bodies-map (e ∷ h) = sum_by-cons body_of (entry_in e) (map entry_in h) ∙ ap (λ (n : ℕ). body_in e + n) (bodies-map h) ∙ sym (sum_by-cons body_in e h)

-- ---- the tally

module _ {K : Type 0} (pass : NamespacePass K) where
  -- a pass that has seen no entry has none of its replies
  pub tally_none : seen_by pass ≡ [] → tally_by pass ≡ record { ok = 0; refused = 0; denied = 0 }
  tally_none none = ap (tally_of entry_in (is_by (number_of_pass pass))) none ∙ tally_nothing entry_in (is_by (number_of_pass pass))

  -- no mark comes more often than there are entries
  pub few_ok : (t : Tally) (most : ℕ) → t ≡ tally_by pass → length (seen_by pass) ≤ most → t.ok ≤ most
  few_ok t most is few = subst (λ (u : Tally). u.ok ≤ most) (sym is) (let low = ok_few entry_in (is_by (number_of_pass pass)) (seen_by pass) in omega (arith, low, few))

  pub few_refused : (t : Tally) (most : ℕ) → t ≡ tally_by pass → length (seen_by pass) ≤ most → t.refused ≤ most
  few_refused t most is few = subst (λ (u : Tally). u.refused ≤ most) (sym is) (let low = refused_few entry_in (is_by (number_of_pass pass)) (seen_by pass) in omega (arith, low, few))

  pub few_denied : (t : Tally) (most : ℕ) → t ≡ tally_by pass → length (seen_by pass) ≤ most → t.denied ≤ most
  few_denied t most is few = subst (λ (u : Tally). u.denied ≤ most) (sym is) (let low = denied_few entry_in (is_by (number_of_pass pass)) (seen_by pass) in omega (arith, low, few))

-- ---- submits

module _ {K : Type 0} (old new : NamespacePass K) where
  -- the own entries are those of what was seen, by the number as it was before
  pub own_before : FindsOneJournal namespace old → HasItsOwn (is_by (number_of_pass old)) (known_by old)
  own_before found = found.mine_of_seen

  pub own_behind_it : IsSeatAgain old.seat new.seat → FindsOneJournal namespace new → HasItsOwn (is_by (number_of_pass old)) (known_by new)
  own_behind_it again found = subst (λ (n : ℕ). made_by new ≡ filter (is_by n) (seen_by new)) again.number found.mine_of_seen

  -- what was answered
  pub pass_answers : (ahead ahead' : Option (ℕ → ℕ)) (asked : Asked) (answer : Answer) → IsSeatAgain old.seat new.seat → FindsOneJournal namespace old → FindsOneJournal namespace new
      → Submits old new ahead asked answer → HasTicked ahead ahead' answer.receipt.rounds → 1 ≤ answer.receipt.rounds → answer.receipt.rounds ≤ 129
      → Answered entry_in (is_by (number_of_pass old)) as_asked AsksLast asked.conn (known_by old) (known_by new) ahead ahead' asked.index asked.request answer.bytes.items
  pass_answers ahead ahead' asked answer again was is submits ticked some few =
      let commits = submits.commits in
      let placed = commits.placed in
      let own : is_by (number_of_pass old) placed ≡ true = eq-eqb placed.pass (number_of_pass old) commits.by in
      let last = own_text-last (is_by (number_of_pass old)) entry_in (known_by old) (known_by new) commits.seen.before commits.seen.begins.0 placed commits.seen.begins.1 commits.seen.ends commits.mine
      own (own_before was) (own_behind_it again is) in
      record {
        entry = placed;
        answer = answer.receipt.rounds - 1;
        times = answer.receipt.rounds;
        asks = ap (λ (e : Entry). e.request) commits.entry_is;
        closes = ap (λ (e : Entry). e.request.close) commits.entry_is;
        on = ap (λ (e : Entry). e.conn) commits.entry_is;
        place = ap (λ (e : Entry). e.index) commits.entry_is;
        moment = subst (λ (m : ℕ). IsForetold ahead (answer.receipt.rounds - 1) m) (sym (ap (λ (e : Entry). e.moment) commits.entry_is)) submits.foretold;
        in_range = subst (λ (m : ℕ). m ≤ LAST_MOMENT) (sym (ap (λ (e : Entry). e.moment) commits.entry_is)) submits.in_range;
        ruled = record { last = omega (arith, some); few = few };
        ticked = ticked;
        history = last.0;
        text_is = last.1 ∙ ap (λ (t : List ℕ). t ∷ []) (ap (next_text (map entry_in commits.seen.before)) commits.entry_is ∙ sym commits.text);
      }

  -- what was refused
  pub pass_refused : IsSeatAgain old.seat new.seat → FindsOneJournal namespace old → FindsOneJournal namespace new → IsRefused old new
      → Grew (is_by (number_of_pass old)) (known_by old) (known_by new) []
  pass_refused again was is refused =
      grew-others-by (is_by (number_of_pass old)) (known_by old) (known_by new) refused.seen.0 refused.seen.1 refused.mine (own_before was) (own_behind_it again is)

  -- and why
  pub pass_full : (bytes : ℕ) (answer : CommitRefusal) → IsSeatAgain old.seat new.seat → IsCaused old new bytes answer
      → HasFull (refusal_of answer) (map entry_in (seen_by new)) (limits_of old.seat) bytes
  pass_full bytes (refusal.Full limit.JournalFull) again is =
      length-map (seen_by new) entry_in ∙ is.cause ∙ ap (λ (l : LimitNumbers). l.journal_max) again.limits
  pass_full bytes (refusal.Full limit.JournalBytesFull) again is = record {
    not_full = λ full. is.cause.not_full (sym (length-map (seen_by new) entry_in) ∙ full ∙ sym (ap (λ (l : LimitNumbers). l.journal_max) again.limits));
    too_large =
        let most : (limits_of new.seat).bytes_max ≡ (limits_of old.seat).bytes_max = ap (λ (l : LimitNumbers). l.bytes_max) again.limits in
        omega (arith, most, bodies-map (seen_by new), is.cause.too_large);
  }
  pass_full bytes refusal.Tape again is = tt
  pass_full bytes refusal.NoMemory again is = tt

  -- the tally by the number as it was before
  tally_again : IsSeatAgain old.seat new.seat → tally_by new ≡ tally_of entry_in (is_by (number_of_pass old)) (seen_by new)
  tally_again again = ap (λ (n : ℕ). tally_of entry_in (is_by n) (seen_by new)) again.number

  -- a submit that is answered counts its reply
  pub tally_answered : (ahead : Option (ℕ → ℕ)) (asked : Asked) (answer : Answer) → IsSeatAgain old.seat new.seat → FindsOneJournal namespace old → FindsOneJournal namespace new
      → Submits old new ahead asked answer → one_more (tally_by old) answer.mark ≡ tally_by new
  tally_answered ahead asked answer again was is submits =
      sym (tally_again again ∙ ap (tally_of entry_in own) commits.seen.ends ∙ tally_push entry_in own commits.seen.before placed by ∙ ap (λ (t : Tally). one_more t (next_mark (map entry_in commits.seen.before) placed.entry)) before
      ∙ ap (one_more (tally_by old)) mark)
    where
      commits : Commits old new (entry_at asked submits.moment) answer
      commits = submits.commits

      placed : Placed
      placed = commits.placed

      own : Placed → Bool
      own = is_by (number_of_pass old)

      by : own placed ≡ true
      by = eq-eqb placed.pass (number_of_pass old) commits.by

      mid : HasItsOwn own (record { seen = commits.seen.before; mine = made_by old })
      mid = grew-by-one own (known_by old) (known_by new) commits.seen.before commits.seen.begins.0 placed commits.seen.begins.1 commits.seen.ends commits.mine by (own_before was) (own_behind_it again is)

      rest_others : filter own commits.seen.begins.0 ≡ []
      rest_others = others_only own (seen_by old) commits.seen.begins.0 (ap (filter own) commits.seen.begins.1 ∙ sym mid ∙ own_before was)

      before : tally_of entry_in own commits.seen.before ≡ tally_by old
      before = ap (tally_of entry_in own) (sym commits.seen.begins.1) ∙ tally_others entry_in own (seen_by old) commits.seen.begins.0 rest_others

      mark : next_mark (map entry_in commits.seen.before) placed.entry ≡ answer.mark
      mark = ap (next_mark (map entry_in commits.seen.before)) commits.entry_is ∙ sym commits.mark

  -- one that is refused counts nothing
  pub tally_refused : IsSeatAgain old.seat new.seat → FindsOneJournal namespace old → FindsOneJournal namespace new → IsRefused old new → tally_by old ≡ tally_by new
  tally_refused again was is refused =
      sym (tally_again again ∙ ap (tally_of entry_in own) (sym refused.seen.1) ∙ tally_others entry_in own (seen_by old) refused.seen.0 rest_others)
    where
      own : Placed → Bool
      own = is_by (number_of_pass old)

      rest_others : filter own refused.seen.0 ≡ []
      rest_others = others_only own (seen_by old) refused.seen.0 (ap (filter own) refused.seen.1 ∙ sym (own_behind_it again is) ∙ refused.mine ∙ own_before was)

  -- the same seat again, behind a connection
  pub seat-served : (last : NamespacePass K) (a b : ℕ) (c d : ℕ) → IsSeatAgain old.seat new.seat
      → unserved (record { name = a; pass = last; conn = b }) ≡ unserved (record { name = c; pass = new; conn = d }) → IsSeatAgain old.seat last.seat
  seat-served last a b c d again same = record {
    table = ap (λ (s : Sitter K). s.pass.seat.table) same ∙ again.table;
    place = ap (λ (s : Sitter K). s.pass.seat.id) same ∙ again.place;
    number = ap (λ (s : Sitter K). s.pass.seat.me.0.at.number) same ∙ again.number;
    olds = ap (λ (s : Sitter K). s.pass.seat.me.0.at.olds) same ∙ again.olds;
    before = ap (λ (s : Sitter K). s.pass.seat.me.0.before) same ∙ again.before;
    made = ap (λ (s : Sitter K). s.pass.seat.me.0.made) same ∙ again.made;
    limits = ap (λ (s : Sitter K). s.pass.seat.me.0.limits) same ∙ again.limits;
  }

  known-same : seen_by new ≡ seen_by old → made_by new ≡ made_by old → known_by new ≡ known_by old
  known-same seen mine = same seen mine
    where
      with_lists : List Placed → List Placed → Known Placed
      with_lists seen mine = record { seen = seen; mine = mine }

      same : {a b c d : List Placed} → a ≡ c → b ≡ d → with_lists a b ≡ with_lists c d
      same first second = cc (first, second)

  -- what was served by the pass as it sat down is served by it as it was before
  pub served-before : (last : NamespacePass K) (limits : LimitNumbers) (conn : ℕ) (left left' out out' : Option (List ℕ)) (ahead : Option (ℕ → ℕ)) (answered : ℕ) (end : End)
      → IsSeatAgain old.seat new.seat → seen_by new ≡ seen_by old → made_by new ≡ made_by old → limits_of old.seat ≡ limits
      → Served entry_in (is_by (number_of_pass new)) as_asked (Paced AsksLast 0) conn (limits_of new.seat) left left' out out' ahead (known_by new) (known_by last) answered end
      → Served entry_in (is_by (number_of_pass old)) as_asked (Paced AsksLast 0) conn limits left left' out out' ahead (known_by old) (known_by last) answered end
  served-before last limits conn left left' out out' ahead answered end again seen mine within served =
      subst (λ (n : ℕ). Served entry_in (is_by n) as_asked (Paced AsksLast 0) conn limits left left' out out' ahead (known_by old) (known_by last) answered end) again.number
      (subst (λ (k : Known Placed). Served entry_in (is_by (number_of_pass new)) as_asked (Paced AsksLast 0) conn limits left left' out out' ahead k (known_by last) answered end) (known-same seen mine)
      (subst (λ (l : LimitNumbers). Served entry_in (is_by (number_of_pass new)) as_asked (Paced AsksLast 0) conn l left left' out out' ahead (known_by new) (known_by last) answered end) (again.limits ∙ within) served))

  pub complete-before : (last : NamespacePass K) (left : Option (List ℕ)) (read read' written written' : ℕ) (end : End)
      → IsSeatAgain old.seat new.seat → seen_by new ≡ seen_by old → made_by new ≡ made_by old
      → Completes entry_in (is_by (number_of_pass new)) as_asked left read read' written written' (known_by new) (known_by last) end
      → Completes entry_in (is_by (number_of_pass old)) as_asked left read read' written written' (known_by old) (known_by last) end
  complete-before last left read read' written written' end again seen mine complete =
      subst (λ (n : ℕ). Completes entry_in (is_by n) as_asked left read read' written written' (known_by old) (known_by last) end) again.number
      (subst (λ (k : Known Placed). Completes entry_in (is_by (number_of_pass new)) as_asked left read read' written written' k (known_by last) end) (known-same seen mine) complete)
