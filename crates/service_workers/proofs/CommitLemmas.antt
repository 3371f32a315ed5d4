-- From a draft to the commit of its entry.
use Rattle.std.proofs.Common.{◌≡◌, ◌⊎◌, inl, inr, ℕ, zero, suc, ◌+◌, ◌-◌, ◌<◌, ◌≤◌, Bool, true, false, ◌||◌, List, [], ◌∷◌, ◌++◌, map, flat_map, length, sum_by, slice_get, Option, Some, None, option_map, unwrap_or, is_some, IsSome, Result, Ok, Err, OnOk, refl, ap, sym, subst, ◌∙◌, arith}
use Rattle.std.proofs.Math.Dec.{lit<}
use Rattle.std.proofs.Math.Nat.{mod-lt}
use Rattle.std.proofs.lemmas.Bool.{false≢true}
use Rattle.std.proofs.lemmas.Option.{same_Some}
use Rattle.namespace_model.specs.Outcomes.{Outcome}
use Rattle.namespace_model.specs.Step.{outcome, new_paths, tree_after}
use Rattle.namespace_model.specs.Trees.{Tree}
use Rattle.inode_tree.specs.declared.draft.Draft.{Draft}
use Rattle.inode_tree.specs.declared.id.NodeId.{NodeId}
use Rattle.inode_tree.specs.declared.placed.Placed.{Placed}
use Rattle.inode_tree.specs.After.{drawn_ids, outcome_on}
use Rattle.inode_tree.specs.Drawing.{next_ids}
use Rattle.inode_tree.specs.Footprints.{Fits, lies_in, read_ids, written_ids, reads, writes}
use Rattle.inode_tree.specs.Framed.{AgreeOnFootprint, DoesTheSame}
use Rattle.inode_tree.specs.Parts.{Parts}
use Rattle.inode_tree.specs.Promises.{numbers_of, is_one_of, IsEntryOf, IsOfStep}
use Rattle.inode_tree.specs.Rows.{fresh_id, BeginsRow}
use Rattle.inode_tree.specs.Stripes.{StripeRecord}
use Rattle.inode_tree.specs.Views.{ArePossible, covers}
use Rattle.inode_tree.proofs.FrameLemmas.{framed}
use Rattle.inode_tree.proofs.PromiseLemmas.{lies_one}
use Rattle.path_walk.proofs.SetLemmas.{one_lies}
use Rattle.path_walk.proofs.Truths.{same_tests}
use Rattle.lock_core.specs.declared.object.LockMode.{LockMode}
use Rattle.lock_core.specs.declared.object.LockMode.TheVariants as mode
use Rattle.lock_core.specs.declared.machine.Hold.{Hold}
use Rattle.lock_core.specs.declared.machine.Hold.TheVariants.{Free, Shared, Looked, Exclusive}
use Rattle.lock_core.specs.Machine.{hold_at, note_of, HeldIn, IsNoted}
use Rattle.lock_core.specs.Object.{mode_of, replay}
use Rattle.lock_core.proofs.Commit.{note_there}
use Rattle.path_locks.specs.Narrow.{narrowed, AreNarrowed}
use Rattle.path_locks.specs.Views.{HeldView, IsHeldBy, IsSameSeat}
use Rattle.striped_store.specs.Commits.{CanCommit, ArePartsOf}
use Rattle.striped_store.specs.Views.{number_of_pass, made_by, found_by, parts_found, FindsOneJournal}
use Rattle.parted_namespace.specs.Journals.{entries_of, ids_given, uses, StandsFor}
use Rattle.parted_namespace.specs.Laws.{option_of, get-elem, part_at, length-below}
use Rattle.parted_namespace.specs.Namespace.{parts_of, namespace, IsWork}
use Rattle.parted_namespace.specs.Opening.{bare_stripe, opening_stripes}
use Rattle.parted_namespace.proofs.GivenIds.{get_behind}
use Rattle.parted_namespace.proofs.JournalLemmas.{free_later}
use Rattle.service_workers.specs.Looks.{NamespacePass, mode_in, shown_by}
use Rattle.service_workers.specs.Drafts.{AreKept, fresh_of, IsDrafted}
use Rattle.service_workers.proofs.LookLemmas.{agrees, so}
use mathlib.Core.Option as maybe
use mathlib.Core.Option.{none, some, some-injective, some-ne-none}

-- ---- lists

below_or : (k n : ℕ) → (k < n) ⊎ (n ≤ k)
below_or k zero = inr (omega arith)
below_or zero (suc n) = inl (omega arith)
below_or (suc k) (suc n) = elim (below_or k n) [ inl h ↦ inl (omega (arith, h)) | inr h ↦ inr (omega (arith, h)) ]

get_front : {A : Type 0} (xs ys : List A) (k : ℕ) → k < length xs → slice_get (xs ++ ys) k ≡ slice_get xs k
get_front [] ys k h = absurd (omega (arith, h))
get_front (x ∷ xs) ys zero h = refl
get_front (x ∷ xs) ys (suc k) h = get_front xs ys k (omega (arith, h))

next_at : (pass used many k id : ℕ) → slice_get (map (λ (i : NodeId). i.0) (next_ids pass used many)) k ≡ Some id → id ≡ fresh_id pass (used + k)
next_at pass used zero k id e = absurd (false≢true (ap is_some e))
next_at pass used (suc many) zero id e = sym (same_Some (fresh_id pass used) id e) ∙ ap (fresh_id pass) (let h : used ≡ used + 0 = omega arith in h)
next_at pass used (suc many) (suc k) id e = next_at pass (suc used) many k id e ∙ ap (fresh_id pass) (let h : suc used + k ≡ used + suc k = omega arith in h)

length-next : (pass used many : ℕ) → length (next_ids pass used many) ≡ many
length-next pass used zero = refl
length-next pass used (suc many) = ap suc (length-next pass (suc used) many)

same_stripes : (xs ys : List ℕ) → ((id : ℕ) → is_one_of id xs ≡ is_one_of id ys) → (stripe : ℕ) → lies_in stripe xs ≡ lies_in stripe ys
same_stripes xs ys same stripe =
    same_tests _ _
    (λ h. let l = lies_one stripe xs h in one_lies stripe l.0 ys (sym (same l.0) ∙ l.1) l.2)
    (λ h. let l = lies_one stripe ys h in one_lies stripe l.0 xs (same l.0 ∙ l.1) l.2)

lies_below : (stripe : ℕ) (ids : List ℕ) → lies_in stripe ids ≡ true → stripe < 64
lies_below stripe ids h = let l = lies_one stripe ids h in subst (λ k. k < 64) l.2 (mod-lt l.0 (lit< tt))

-- ---- one stripe

-- what is left of a hold that is narrowed to what is written or read there
record Kept (w r : Bool) (old new : Hold StripeRecord) : Type 0 where
  pub held : HeldIn (mode_of w r) new
  pub noted : IsNoted new
  pub note : (w || r) ≡ true → (x : StripeRecord) × (note_of old ≡ some x) × (note_of new ≡ some x)

kept : (w r : Bool) (old : Hold StripeRecord) → (w ≡ true → HeldIn mode.Exclusive old) → (r ≡ true → (x : StripeRecord) × (note_of old ≡ some x)) → Kept w r old (narrowed (mode_of w r) old)
kept true r Free out seen = absurd (out refl)
kept true r Shared out seen = absurd (out refl)
kept true r (Looked x) out seen = absurd (out refl)
kept true r (Exclusive x) out seen = record { held = tt; noted = tt; note = λ h. (x, refl, refl) }
kept false true Free out seen = absurd (some-ne-none _ (sym (seen refl).1))
kept false true Shared out seen = absurd (some-ne-none _ (sym (seen refl).1))
kept false true (Looked x) out seen = record { held = tt; noted = tt; note = λ h. (x, refl, refl) }
kept false true (Exclusive x) out seen = record { held = tt; noted = tt; note = λ h. (x, refl, refl) }
kept false false old out seen = record { held = tt; noted = tt; note = λ h. absurd (false≢true h) }

some_mode : (o : Option LockMode) → unwrap_or o mode.None ≡ mode.Exclusive → o ≡ Some mode.Exclusive
some_mode None e = absurd (false≢true (ap (λ m. covers m mode.Exclusive) e))
some_mode (Some m) e = ap (λ m. Some m) e

some_shown : (o : maybe.Option StripeRecord) → is_some (option_map (λ (s : StripeRecord). s.part) (option_of o)) ≡ true → (x : StripeRecord) × (o ≡ some x)
some_shown none e = absurd (false≢true e)
some_shown (some x) e = (x, refl)

hold_beyond : (hs : List (Hold StripeRecord)) (k : ℕ) → length hs ≤ k → hold_at hs k ≡ Free
hold_beyond [] k h = refl
hold_beyond (x ∷ hs) zero h = absurd (omega (arith, h))
hold_beyond (x ∷ hs) (suc k) h = hold_beyond hs k (omega (arith, h))

or_left : (w r : Bool) → w ≡ true → (w || r) ≡ true
or_left true r e = refl
or_left false r e = absurd (false≢true e)

or_right : (w r : Bool) → r ≡ true → (w || r) ≡ true
or_right true r e = refl
or_right false r e = e

-- ---- the draft on the parts of the journal

module _ {K : Type 0} (p : NamespacePass K) (found : FindsOneJournal namespace p) (held : HeldView StripeRecord) (holds : IsHeldBy bare_stripe p.seat held)
    (d : Draft) (e : Placed) (is : IsDrafted p held d e) where
  abbrev h : List Placed
  h = found.journal

  abbrev stripes : List StripeRecord
  stripes = replay namespace h

  abbrev parts : Parts
  parts = parts_of stripes

  abbrev t : Tree
  t = tree_after (entries_of h)

  abbrev number : ℕ
  number = number_of_pass p

  abbrev used : ℕ
  used = sum_by uses (made_by p)

  stand : StandsFor h
  stand = so p found

  many : used ≡ length (ids_given number h)
  many = ap (λ l. sum_by uses l) found.mine ∙ stand.counted number

  possible : ArePossible (shown_by p) number used parts t
  possible = record {
    stands = stand.stands;
    agrees = agrees p found;
    free = λ k later. free_later h stand number k is.small (omega (arith, many, later));
  }

  drawn : d.drawn ≡ length (new_paths t e.entry)
  drawn =
      (is.drafts.of_step parts t (record { entry = e.entry; pass = number; ids = next_ids number used (length (new_paths t e.entry)) }) possible
      (record { asks = refl; comes_at = refl; by = refl; draws = refl })).drawn

  entry_of : IsEntryOf e.entry.request e.entry.moment (fresh_of p) t e
  entry_of = record { asks = refl; comes_at = refl; by = is.by; draws = is.draws ∙ ap (next_ids number used) drawn }

  pub of_step : IsOfStep d parts t e
  of_step = is.drafts.of_step parts t e possible entry_of

  -- the draft's stripes are those of the entry
  written : (k : ℕ) → lies_in k (numbers_of d.writes.items) ≡ writes parts e k
  written k = same_stripes (numbers_of d.writes.items) (written_ids parts e) of_step.written_ids k

  read : (k : ℕ) → lies_in k (numbers_of d.reads.items) ≡ reads parts e k
  read k = same_stripes (numbers_of d.reads.items) (read_ids parts e) of_step.read_ids k

  row : BeginsRow number (ids_given number h ++ drawn_ids e)
  row k id there = elim (below_or k (length (ids_given number h))) [
    | inl less ↦ stand.rows number k id (sym (get_front (ids_given number h) (drawn_ids e) k less) ∙ there)
    | inr more ↦
        let old : ℕ = length (ids_given number h) in
        let place : old + (k - old) ≡ k = omega (arith, more) in
        let drawn_there : slice_get (drawn_ids e) (k - old) ≡ Some id =
        sym (get_behind (ids_given number h) (drawn_ids e) (k - old)) ∙ ap (slice_get (ids_given number h ++ drawn_ids e)) place ∙ there in
        let ids_are : drawn_ids e ≡ map (λ (i : NodeId). i.0) (next_ids number used d.drawn) = ap (λ (ids : List NodeId). map (λ (i : NodeId). i.0) ids) is.draws in
        next_at number used d.drawn (k - old) id (ap (λ (ids : List ℕ). slice_get ids (k - old)) (sym ids_are) ∙ drawn_there)
        ∙ ap (λ u. fresh_id number (u + (k - old))) many ∙ ap (fresh_id number) place
  ]

  fits : Fits number (made_by p) parts e
  fits = record {
    sound = is.sound;
    moment = is.dated;
    by = is.by;
    below = is.small;
    as_many = ap (λ (ids : List NodeId). length ids) entry_of.draws ∙ length-next number used (length (new_paths t e.entry)) ∙ sym (ap (λ (u : Tree). length (outcome u e.entry).fresh) stand.stands.shown);
    next = subst (λ (l : List Placed). BeginsRow number (flat_map drawn_ids l ++ drawn_ids e)) (sym found.mine) row;
  }

  -- ---- once it is narrowed to the draft's stripes

  module _ (keep : List LockMode) (keeps : AreKept d.reads.items d.writes.items keep)
      (q : NamespacePass K) (found_still : FindsOneJournal namespace q) (seat_same : IsSameSeat p.seat q.seat) (mine_same : made_by q ≡ made_by p)
      (narrow : AreNarrowed keep p.seat.me.0.at.holds q.seat.me.0.at.holds) where
    out_at : (k : ℕ) → lies_in k (numbers_of d.writes.items) ≡ true → HeldIn mode.Exclusive (hold_at p.seat.me.0.at.holds k)
    out_at k w =
        let l = lies_one k (numbers_of d.writes.items) w in
        let mode_is : mode_in held k ≡ mode.Exclusive = subst (λ s. mode_in held s ≡ mode.Exclusive) l.2 (is.drafts.held_exclusively l.0 l.1) in
        holds.modes k mode.Exclusive (lies_below k _ w) (some_mode (slice_get held.modes k) mode_is)

    seen_at : (k : ℕ) → lies_in k (numbers_of d.reads.items) ≡ true → (x : StripeRecord) × (note_of (hold_at p.seat.me.0.at.holds k) ≡ some x)
    seen_at k r =
        let l = lies_one k (numbers_of d.reads.items) r in
        some_shown (found_by p k) (subst (λ s. IsSome (shown_by p s)) l.2 (is.drafts.looked_at l.0 l.1))

    kept_at : (k : ℕ) → k < 64 → Kept (lies_in k (numbers_of d.writes.items)) (lies_in k (numbers_of d.reads.items)) (hold_at p.seat.me.0.at.holds k) (hold_at q.seat.me.0.at.holds k)
    kept_at k less =
        subst (Kept (lies_in k (numbers_of d.writes.items)) (lies_in k (numbers_of d.reads.items)) (hold_at p.seat.me.0.at.holds k)) (sym (narrow k _ less (keeps.modes k less)))
        (kept (lies_in k (numbers_of d.writes.items)) (lies_in k (numbers_of d.reads.items)) (hold_at p.seat.me.0.at.holds k) (out_at k) (seen_at k))

    abbrev seen_stripes : List StripeRecord
    seen_stripes = parts_found namespace q

    -- where the entry reads or writes, the stripe that was found is the replay's
    found_there : (k : ℕ) → k < 64 → (lies_in k (numbers_of d.writes.items) || lies_in k (numbers_of d.reads.items)) ≡ true
        → (x : StripeRecord) × (slice_get stripes k ≡ Some x) × (slice_get seen_stripes k ≡ Some x) × (note_of (hold_at q.seat.me.0.at.holds k) ≡ some x)
    found_there k less some_test =
        let n = (kept_at k less).note some_test in (
          n.0,
          get-elem stripes k ∙ ap option_of (found.notes k n.0 less n.1),
          get-elem seen_stripes k ∙ ap option_of (note_there opening_stripes q.seat.me.0.at.holds k n.0 (omega (arith, less, length-below 64)) n.2),
          n.2,
        )

    same_part : (k : ℕ) → (lies_in k (numbers_of d.writes.items) || lies_in k (numbers_of d.reads.items)) ≡ true → k < 64 → slice_get parts k ≡ slice_get (parts_of seen_stripes) k
    same_part k some_test less =
        let f = found_there k less some_test in
        part_at stripes k ∙ ap (option_map (λ (s : StripeRecord). s.part)) (f.1 ∙ sym f.2) ∙ sym (part_at seen_stripes k)

    same_footprint : AgreeOnFootprint parts (parts_of seen_stripes) e
    same_footprint = record {
      read = λ k r. same_part k (or_right _ _ (read k ∙ r)) (lies_below k _ r);
      written = λ k w. same_part k (or_left _ _ (written k ∙ w)) (lies_below k _ w);
    }

    same : DoesTheSame parts (parts_of seen_stripes) e
    same = framed parts (parts_of seen_stripes) e same_footprint

    -- the entry may be committed
    pub can_commit : CanCommit namespace q.seat e
    can_commit = record {
      looked = λ k. elim (below_or k 64) [
        | inl less ↦ (kept_at k less).noted
        | inr more ↦ subst IsNoted (sym (hold_beyond q.seat.me.0.at.holds k (omega (arith, more, found_still.wide)))) tt
      ];
      footprint = λ n k less.
          subst (λ (m : LockMode). HeldIn m (hold_at q.seat.me.0.at.holds k))
          (ap (λ w. mode_of w (lies_in k (numbers_of d.reads.items))) (written k ∙ same.written k) ∙ ap (mode_of (writes (parts_of seen_stripes) e k)) (read k ∙ same.read k))
          (kept_at k less).held;
      fits = (
        is.by ∙ sym seat_same.number,
        (same.fits q.seat.me.0.at.number q.seat.me.0.at.mine).0
            (subst (λ n. Fits n q.seat.me.0.at.mine parts e) (sym seat_same.number) (subst (λ (l : List Placed). Fits number l parts e) (sym mine_same) fits)),
      );
    }

    -- the draft's changes are its work
    pub is_work : IsWork d.changes.items seen_stripes e
    is_work = record {
      does = (same.does d.changes.items).0 of_step.works;
      numbered = λ k s w there.
          let here : writes parts e k ≡ true = same.written k ∙ w in
          let f = found_there k (lies_below k _ here) (or_left _ _ (written k ∙ here)) in
          ap (λ (z : StripeRecord). z.stripe) (same_Some s f.0 (sym there ∙ f.2)) ∙ (stand.numbered k f.0 f.1).0;
    }

    -- on the journal behind which the entry came to stand it replies what the draft says
    pub reply_there : (before : List Placed) → ArePartsOf namespace before q.seat → (outcome_on (parts_of (replay namespace before)) e).reply ≡ d.reply
    reply_there before are = sym (ap (λ (o : Outcome). o.reply) (framed parts (parts_of (replay namespace before)) e agree).outcome) ∙ on_parts
      where
        on_parts : (outcome_on parts e).reply ≡ d.reply
        on_parts = ap (λ (u : Tree). (outcome u e.entry).reply) stand.stands.shown ∙ sym of_step.reply

        part_same : (k : ℕ) → (lies_in k (numbers_of d.writes.items) || lies_in k (numbers_of d.reads.items)) ≡ true → k < 64 → slice_get parts k ≡ slice_get (parts_of (replay namespace before)) k
        part_same k some_test less =
            let f = found_there k less some_test in
            part_at stripes k
            ∙ ap (option_map (λ (s : StripeRecord). s.part)) (f.1 ∙ sym (get-elem (replay namespace before) k ∙ ap option_of (are k f.0 less f.3)))
            ∙ sym (part_at (replay namespace before) k)

        agree : AgreeOnFootprint parts (parts_of (replay namespace before)) e
        agree = record {
          read = λ k r. part_same k (or_right _ _ (read k ∙ r)) (lies_below k _ r);
          written = λ k w. part_same k (or_left _ _ (written k ∙ w)) (lies_below k _ w);
        }

pub where_ok : {A B T U : Type 0} (r : Result A B) → OnOk r T → (T → U) → OnOk r U
where_ok (Ok x) h f = f h
where_ok (Err x) h f = h
