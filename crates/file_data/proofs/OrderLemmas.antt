-- Pieces staged in another order, what a flush leaves to be read, and when a stage is refused.
use Prim.Native.Nat.{zero, suc}
use Rattle.std.proofs.Common.{map, replicate, subst, Ok, Err}
use Rattle.std.proofs.lemmas.List.{take_all, length-replicate}
use Rattle.std.proofs.Math.Seq.{drop-append_seam, take-append_seam}
use Rattle.std.proofs.Math.Nat.{sub-zero}
use Rattle.std.proofs.lemmas.List.Elements.{recursion_from_All}
use Rattle.file_data.specs.declared.fault.DataFault.TheVariants.{BelowLength, TooLarge}
use Rattle.file_data.specs.FileRecord.{FileRecord, file_max, IsStagedPiece, IsFile, SameButRoom, CanFlush, staged_with, stage_answer, flush_answer, flushed}
use Rattle.file_data.specs.Orders.{staged_all, exchanged, reordered, StartApart}
use Rattle.file_data.proofs.FileLemmas.{new_length}
use Rattle.std.proofs.Common.{◌≡◌, ◌≢◌, ◌⊎◌, inl, inr, ℕ, ◌+◌, ◌-◌, ◌<◌, ◌≤◌, Bool, true, false, cond, List, [], ◌∷◌, ◌++◌, length, take, refl, sym, ap, ◌∙◌, arith, append_assoc}
use Rattle.std.specs.Prelude.{nat_lt, slice_range, ◌↔◌}
use Rattle.std.specs.List.{filter, AllByRecursion}
use Rattle.std.proofs.lemmas.List.{append-nil}
use Rattle.std.proofs.lemmas.List.Elements.{filter-append}
use Rattle.file_data.specs.Staging.{pieces_below, pieces_from, pieces_above, bytes_of, with_piece, start_of, end_of}
use Rattle.file_data.proofs.StagingLemmas.{Pieces, lt_true, lt_false, le_true, true_lt, bytes_between, kept_all, kept_none, weaker, below_passes, above_passes}
use Rattle.file_data.proofs.TroubleLemmas.{either_side, flush_allowed, no_trouble}

tell : (b : Bool) → (b ≡ true) ⊎ (b ≡ false)
tell true = inl refl
tell false = inr refl

-- a test after a weaker one keeps what it keeps alone
absorbed : (s t : (ℕ × List ℕ) → Bool) → ((p : ℕ × List ℕ) → s p ≡ true → t p ≡ true) → (ps : Pieces) → filter s (filter t ps) ≡ filter s ps
absorbed s t f [] = refl
absorbed s t f (p ∷ ps) =
    elim (tell (t p)) [
      | inl y ↦ rw y (ap (λ (r : Pieces). cond (s p) (p ∷ r) r) (absorbed s t f ps))
      | inr n ↦ elim (tell (s p)) [ inl y ↦ let k = f p y in absurd (cc) | inr m ↦ rw (n, m) (absorbed s t f ps) ]
    ]

swapped : (s t : (ℕ × List ℕ) → Bool) (ps : Pieces) → filter s (filter t ps) ≡ filter t (filter s ps)
swapped s t [] = refl
swapped s t (p ∷ ps) =
    elim (tell (t p)) [
      | inl y ↦ elim (tell (s p)) [
        | inl z ↦ rw (y, z, y) (ap (λ (r : Pieces). p ∷ r) (swapped s t ps))
        | inr z ↦ rw (y, z) (swapped s t ps)
      ]
      | inr y ↦ elim (tell (s p)) [
        | inl z ↦ rw (y, z, y) (swapped s t ps)
        | inr z ↦ rw (y, z) (swapped s t ps)
      ]
    ]

-- two pieces at q and r, where q is below r
both : Pieces → ℕ → List ℕ → ℕ → List ℕ → Pieces
both ps q bs r cs = pieces_below ps q ++ (q, bs) ∷ (pieces_below (pieces_above ps q) r ++ (r, cs) ∷ pieces_above ps r)

-- below the end of a piece that was put at q there are those below q, the piece, and those above q that start below
pub below_with_piece : (ps : Pieces) (q r : ℕ) (bs : List ℕ) → q < r
    → pieces_below (with_piece ps q bs) r ≡ pieces_below ps q ++ (q, bs) ∷ pieces_below (pieces_above ps q) r
below_with_piece ps q r bs l =
    filter-append (λ p. nat_lt p.0 r) (pieces_below ps q) ((q, bs) ∷ pieces_above ps q)
    ∙ ap (λ (x : Pieces). x ++ pieces_below ((q, bs) ∷ pieces_above ps q) r)
    (kept_all (λ p. nat_lt p.0 r) (pieces_below ps q) (weaker (λ p. p.0 < q) (λ p. nat_lt p.0 r ≡ true) (λ p k. lt_true p.0 r (omega arith)) (pieces_below ps q) (below_passes ps q)))
    ∙ ap (λ (b : Bool). pieces_below ps q ++ cond b ((q, bs) ∷ pieces_below (pieces_above ps q) r) (pieces_below (pieces_above ps q) r)) (lt_true q r l)

low_first : (ps : Pieces) (q r : ℕ) (bs cs : List ℕ) → q < r → with_piece (with_piece ps q bs) r cs ≡ both ps q bs r cs
unfolding both
low_first ps q r bs cs l =
    let front = below_with_piece ps q r bs l in
    let back : pieces_above (with_piece ps q bs) r ≡ pieces_above ps r =
    filter-append (λ p. nat_lt r p.0) (pieces_below ps q) ((q, bs) ∷ pieces_above ps q)
    ∙ ap (λ (x : Pieces). x ++ pieces_above ((q, bs) ∷ pieces_above ps q) r)
    (kept_none (λ p. nat_lt r p.0) (pieces_below ps q) (weaker (λ p. p.0 < q) (λ p. nat_lt r p.0 ≡ false) (λ p k. lt_false r p.0 (omega arith)) (pieces_below ps q) (below_passes ps q)))
    ∙ ap (λ (b : Bool). cond b ((q, bs) ∷ pieces_above (pieces_above ps q) r) (pieces_above (pieces_above ps q) r)) (lt_false r q (omega arith))
    ∙ absorbed (λ p. nat_lt r p.0) (λ p. nat_lt q p.0) (λ p k. lt_true q p.0 (let m : r < p.0 = true_lt r p.0 k in omega arith)) ps in
    ap (λ (x : Pieces). x ++ (r, cs) ∷ pieces_above (with_piece ps q bs) r) front
    ∙ ap (λ (x : Pieces). (pieces_below ps q ++ (q, bs) ∷ pieces_below (pieces_above ps q) r) ++ (r, cs) ∷ x) back
    ∙ append_assoc (pieces_below ps q) ((q, bs) ∷ pieces_below (pieces_above ps q) r) ((r, cs) ∷ pieces_above ps r)

high_first : (ps : Pieces) (q r : ℕ) (bs cs : List ℕ) → q < r → with_piece (with_piece ps r cs) q bs ≡ both ps q bs r cs
unfolding both
high_first ps q r bs cs l =
    let front : pieces_below (with_piece ps r cs) q ≡ pieces_below ps q =
    filter-append (λ p. nat_lt p.0 q) (pieces_below ps r) ((r, cs) ∷ pieces_above ps r)
    ∙ ap (λ (x : Pieces). x ++ pieces_below ((r, cs) ∷ pieces_above ps r) q)
    (absorbed (λ p. nat_lt p.0 q) (λ p. nat_lt p.0 r) (λ p k. lt_true p.0 r (let m : p.0 < q = true_lt p.0 q k in omega arith)) ps)
    ∙ ap (λ (b : Bool). pieces_below ps q ++ cond b ((r, cs) ∷ pieces_below (pieces_above ps r) q) (pieces_below (pieces_above ps r) q)) (lt_false r q (omega arith))
    ∙ ap (λ (x : Pieces). pieces_below ps q ++ x)
    (kept_none (λ p. nat_lt p.0 q) (pieces_above ps r) (weaker (λ p. r < p.0) (λ p. nat_lt p.0 q ≡ false) (λ p k. lt_false p.0 q (omega arith)) (pieces_above ps r) (above_passes ps r)))
    ∙ append-nil (pieces_below ps q) in
    let back : pieces_above (with_piece ps r cs) q ≡ pieces_below (pieces_above ps q) r ++ (r, cs) ∷ pieces_above ps r =
    filter-append (λ p. nat_lt q p.0) (pieces_below ps r) ((r, cs) ∷ pieces_above ps r)
    ∙ ap (λ (x : Pieces). x ++ pieces_above ((r, cs) ∷ pieces_above ps r) q) (swapped (λ p. nat_lt q p.0) (λ p. nat_lt p.0 r) ps)
    ∙ ap (λ (b : Bool). pieces_below (pieces_above ps q) r ++ cond b ((r, cs) ∷ pieces_above (pieces_above ps r) q) (pieces_above (pieces_above ps r) q)) (lt_true q r l)
    ∙ ap (λ (x : Pieces). pieces_below (pieces_above ps q) r ++ (r, cs) ∷ x)
    (kept_all (λ p. nat_lt q p.0) (pieces_above ps r) (weaker (λ p. r < p.0) (λ p. nat_lt q p.0 ≡ true) (λ p k. lt_true q p.0 (omega arith)) (pieces_above ps r) (above_passes ps r))) in
    ap (λ (x : Pieces). x ++ (q, bs) ∷ pieces_above (with_piece ps r cs) q) front
    ∙ ap (λ (x : Pieces). pieces_below ps q ++ (q, bs) ∷ x) back

pub either_order : (ps : Pieces) (q r : ℕ) (bs cs : List ℕ) → q ≢ r → with_piece (with_piece ps q bs) r cs ≡ with_piece (with_piece ps r cs) q bs
either_order ps q r bs cs ne =
    elim (either_side q r) [
      | inl l ↦ low_first ps q r bs cs l ∙ sym (high_first ps q r bs cs l)
      | inr l ↦ let k : r < q = omega arith in high_first ps r q cs bs k ∙ sym (low_first ps r q cs bs k)
    ]

-- a second piece at a position takes the place of the first
pub put_again : (ps : Pieces) (q : ℕ) (bs cs : List ℕ) → with_piece (with_piece ps q bs) q cs ≡ with_piece ps q cs
put_again ps q bs cs =
    let front : pieces_below (with_piece ps q bs) q ≡ pieces_below ps q =
    filter-append (λ p. nat_lt p.0 q) (pieces_below ps q) ((q, bs) ∷ pieces_above ps q)
    ∙ ap (λ (x : Pieces). x ++ pieces_below ((q, bs) ∷ pieces_above ps q) q) (absorbed (λ p. nat_lt p.0 q) (λ p. nat_lt p.0 q) (λ p k. k) ps)
    ∙ ap (λ (b : Bool). pieces_below ps q ++ cond b ((q, bs) ∷ pieces_below (pieces_above ps q) q) (pieces_below (pieces_above ps q) q)) (lt_false q q (omega arith))
    ∙ ap (λ (x : Pieces). pieces_below ps q ++ x)
    (kept_none (λ p. nat_lt p.0 q) (pieces_above ps q) (weaker (λ p. q < p.0) (λ p. nat_lt p.0 q ≡ false) (λ p k. lt_false p.0 q (omega arith)) (pieces_above ps q) (above_passes ps q)))
    ∙ append-nil (pieces_below ps q) in
    let back : pieces_above (with_piece ps q bs) q ≡ pieces_above ps q =
    filter-append (λ p. nat_lt q p.0) (pieces_below ps q) ((q, bs) ∷ pieces_above ps q)
    ∙ ap (λ (x : Pieces). x ++ pieces_above ((q, bs) ∷ pieces_above ps q) q)
    (kept_none (λ p. nat_lt q p.0) (pieces_below ps q) (weaker (λ p. p.0 < q) (λ p. nat_lt q p.0 ≡ false) (λ p k. lt_false q p.0 (omega arith)) (pieces_below ps q) (below_passes ps q)))
    ∙ ap (λ (b : Bool). cond b ((q, bs) ∷ pieces_above (pieces_above ps q) q) (pieces_above (pieces_above ps q) q)) (lt_false q q (omega arith))
    ∙ absorbed (λ p. nat_lt q p.0) (λ p. nat_lt q p.0) (λ p k. k) ps in
    ap (λ (x : Pieces). x ++ (q, cs) ∷ pieces_above (with_piece ps q bs) q) front
    ∙ ap (λ (x : Pieces). pieces_below ps q ++ (q, cs) ∷ x) back

pub staged_again : (f : FileRecord) (q : ℕ) (bs cs : List ℕ) → staged_with (staged_with f q bs) q cs ≡ staged_with f q cs
staged_again f q bs cs = ap (λ (s : Pieces). kept f s) (put_again f.staged q bs cs)
  where
    kept : FileRecord → Pieces → FileRecord
    kept g s = record { committed = g.committed; extents = g.extents; staged = s; stage_room = g.stage_room; flush_room = g.flush_room }

exchange_keeps : (P : (ℕ × List ℕ) → Type 0) (k : ℕ) (ps : Pieces) → AllByRecursion P ps → AllByRecursion P (exchanged k ps)
exchange_keeps P k [] h = h
exchange_keeps P k (p ∷ []) h = h
exchange_keeps P zero (p ∷ o ∷ ps) h = (h.1.0, (h.0, h.1.1))
exchange_keeps P (suc k) (p ∷ o ∷ ps) h = (h.0, exchange_keeps P k (o ∷ ps) h.1)

exchange_apart : (k : ℕ) (ps : Pieces) → StartApart ps → StartApart (exchanged k ps)
exchange_apart k [] h = h
exchange_apart k (p ∷ []) h = h
exchange_apart zero (p ∷ o ∷ ps) h = (((λ e. h.0.0 (sym e)), h.1.0), (h.0.1, h.1.1))
exchange_apart (suc k) (p ∷ o ∷ ps) h = (exchange_keeps (λ r. p.0 ≢ r.0) k (o ∷ ps) h.0, exchange_apart k (o ∷ ps) h.1)

pub two_staged : (f : FileRecord) (q r : ℕ) (bs cs : List ℕ) → q ≢ r → staged_with (staged_with f q bs) r cs ≡ staged_with (staged_with f r cs) q bs
two_staged f q r bs cs ne = ap (λ (s : Pieces). staged_again f s) (either_order f.staged q r bs cs ne)
  where
    staged_again : FileRecord → Pieces → FileRecord
    staged_again g s = record { committed = g.committed; extents = g.extents; staged = s; stage_room = g.stage_room; flush_room = g.flush_room }

exchange_staged : (k : ℕ) (ps : Pieces) (f : FileRecord) → StartApart ps → staged_all (exchanged k ps) f ≡ staged_all ps f
exchange_staged k [] f h = refl
exchange_staged k (p ∷ []) f h = refl
exchange_staged zero (p ∷ o ∷ ps) f h = ap (λ (g : FileRecord). staged_all ps g) (two_staged f o.0 p.0 o.1 p.1 (λ e. h.0.0 (sym e)))
exchange_staged (suc k) (p ∷ o ∷ ps) f h = exchange_staged k (o ∷ ps) (staged_with f p.0 p.1) h.1

pub reordered_staged : (ks : List ℕ) (ps : Pieces) (f : FileRecord) → StartApart ps → staged_all (reordered ks ps) f ≡ staged_all ps f
reordered_staged [] ps f h = refl
reordered_staged (k ∷ ks) ps f h = reordered_staged ks (exchanged k ps) f (exchange_apart k ps h) ∙ exchange_staged k ps f h

-- where nothing is below a position all is from it on
pub all_from : (ps : Pieces) (q : ℕ) → pieces_below ps q ≡ [] → pieces_from ps q ≡ ps
all_from [] q e = refl
all_from (p ∷ ps) q e =
    elim (either_side p.0 q) [
      | inl l ↦ let k : p ∷ pieces_below ps q ≡ [] = ap (λ (b : Bool). cond b (p ∷ pieces_below ps q) (pieces_below ps q)) (sym (lt_true p.0 q l)) ∙ e in absurd (cc)
      | inr l ↦ let k : pieces_below ps q ≡ [] = ap (λ (b : Bool). cond b (p ∷ pieces_below ps q) (pieces_below ps q)) (sym (lt_false p.0 q l)) ∙ e in
          rw (le_true q p.0 l) (ap (λ (r : Pieces). p ∷ r) (all_from ps q k))
    ]

none_below : (ps : Pieces) (n : ℕ) → AllByRecursion (IsStagedPiece n) ps → pieces_below ps n ≡ []
none_below ps n h = kept_none (λ p. nat_lt p.0 n) ps (weaker (IsStagedPiece n) (λ p. nat_lt p.0 n ≡ false) (λ p k. lt_false p.0 n k.starts) ps h)

pub nothing_below : (committed : List ℕ) (staged : Pieces) → IsFile committed staged → pieces_below staged (length committed) ≡ []
nothing_below committed staged f =
    none_below staged (length committed) (recursion_from_All (IsStagedPiece (length committed)) staged f.pieces)

pub flush_here : (f : FileRecord) → pieces_below f.staged (length f.committed) ≡ [] → flush_answer f (length f.committed) ≡ Ok tt
flush_here f e =
    (flush_allowed f (length f.committed)).1
    ((omega arith), ap (λ (ps : Pieces). map start_of ps ++ length f.committed ∷ []) e ∙ sym (ap (λ (ps : Pieces). length f.committed ∷ map end_of ps) e))

pub flushed_here : (f : FileRecord) → pieces_below f.staged (length f.committed) ≡ [] → SameButRoom f (flushed f (length f.committed) true)
flushed_here f e = (
  ap (λ (ps : Pieces). f.committed ++ bytes_of ps) e ∙ append-nil f.committed,
  ap (λ (ps : Pieces). f.extents ++ ps) e ∙ append-nil f.extents,
  all_from f.staged (length f.committed) e,
)

pub flushed_here_dropping : (f : FileRecord) → pieces_below f.staged (length f.committed) ≡ [] → (flushed f (length f.committed) false).committed ≡ f.committed
flushed_here_dropping f e = ap (λ (ps : Pieces). f.committed ++ bytes_of ps) e ∙ append-nil f.committed

pub flushed_here_extents : (f : FileRecord) → pieces_below f.staged (length f.committed) ≡ [] → (flushed f (length f.committed) false).extents ≡ f.extents
flushed_here_extents f e = ap (λ (ps : Pieces). f.extents ++ ps) e ∙ append-nil f.extents

pub part_behind : (old new : List ℕ) (q : ℕ) → length old + length new ≡ q → slice_range (old ++ new) (length old) q ≡ new
part_behind old new q e =
    ap (λ (r : List ℕ). take (q - length old) r) (drop-append_seam old new) ∙ take_all (q - length old) new (omega arith)

part_before : (old new : List ℕ) → slice_range (old ++ new) 0 (length old) ≡ old
part_before old new = ap (λ (n : ℕ). take n (old ++ new)) (sub-zero (length old)) ∙ take-append_seam old new

pub read_new : (f : FileRecord) (q : ℕ) (retain : Bool) → CanFlush f q → slice_range (flushed f q retain).committed (length f.committed) q ≡ bytes_of (pieces_below f.staged q)
read_new f q retain h =
    part_behind f.committed (bytes_of (pieces_below f.staged q)) q
    (bytes_between (pieces_below f.staged q) (length f.committed) q ((no_trouble (pieces_below f.staged q) (length f.committed) q).1 h.1))

pub read_old : (f : FileRecord) (q : ℕ) (retain : Bool) → slice_range (flushed f q retain).committed 0 (length f.committed) ≡ f.committed
read_old f q retain = part_before f.committed (bytes_of (pieces_below f.staged q))

pub length_new : (f : FileRecord) (q : ℕ) (retain : Bool) → CanFlush f q → length (flushed f q retain).committed ≡ q
length_new f q retain h =
    new_length f.committed f.staged q ((no_trouble (pieces_below f.staged q) (length f.committed) q).1 h.1)

pub stage_below_length : (f : FileRecord) (q : ℕ) (bs : List ℕ) → ((stage_answer f q bs ≡ Err BelowLength) ↔ (q < length f.committed))
stage_below_length f q bs = (one, λ l. rw (lt_true q (length f.committed) l) refl)
  where
    one : stage_answer f q bs ≡ Err BelowLength → q < length f.committed
    one h = elim (either_side q (length f.committed)) [
      | inl l ↦ l
      | inr l ↦ elim (either_side file_max (q + length bs)) [
        | inl k ↦ let e : stage_answer f q bs ≡ Err TooLarge = rw (lt_false q (length f.committed) l, lt_true file_max (q + length bs) k) refl in absurd (cc)
        | inr k ↦ let e : stage_answer f q bs ≡ Ok tt = rw (lt_false q (length f.committed) l, lt_false file_max (q + length bs) k) refl in absurd (cc)
      ]
    ]

pub stage_too_large : (f : FileRecord) (q : ℕ) (bs : List ℕ) → ((stage_answer f q bs ≡ Err TooLarge) ↔ ((length f.committed ≤ q) × (file_max < q + length bs)))
stage_too_large f q bs = (one, λ h. rw (lt_false q (length f.committed) h.0, lt_true file_max (q + length bs) h.1) refl)
  where
    one : stage_answer f q bs ≡ Err TooLarge → (length f.committed ≤ q) × (file_max < q + length bs)
    one h = elim (either_side q (length f.committed)) [
      | inl l ↦ let e : stage_answer f q bs ≡ Err BelowLength = rw (lt_true q (length f.committed) l) refl in absurd (cc)
      | inr l ↦ elim (either_side file_max (q + length bs)) [
        | inl k ↦ (l, k)
        | inr k ↦ let e : stage_answer f q bs ≡ Ok tt = rw (lt_false q (length f.committed) l, lt_false file_max (q + length bs) k) refl in absurd (cc)
      ]
    ]

pub stage_passes : (f : FileRecord) (q : ℕ) (bs : List ℕ) → ((stage_answer f q bs ≡ Ok tt) ↔ ((length f.committed ≤ q) × (q + length bs ≤ file_max)))
stage_passes f q bs = (one, λ h. rw (lt_false q (length f.committed) h.0, lt_false file_max (q + length bs) h.1) refl)
  where
    one : stage_answer f q bs ≡ Ok tt → (length f.committed ≤ q) × (q + length bs ≤ file_max)
    one h = elim (either_side q (length f.committed)) [
      | inl l ↦ let e : stage_answer f q bs ≡ Err BelowLength = rw (lt_true q (length f.committed) l) refl in absurd (cc)
      | inr l ↦ elim (either_side file_max (q + length bs)) [
        | inl k ↦ let e : stage_answer f q bs ≡ Err TooLarge = rw (lt_false q (length f.committed) l, lt_true file_max (q + length bs) k) refl in absurd (cc)
        | inr k ↦ (l, k)
      ]
    ]

-- what an answer that allows a stage says, of a file under another name
pub staged_as : (f g : FileRecord) → f ≡ g → (q : ℕ) (bs : List ℕ) → Ok tt ≡ stage_answer g q bs
    → (length f.committed ≤ q) × (q + length bs ≤ file_max)
staged_as f g same q bs e =
    subst (λ (h : FileRecord). (length h.committed ≤ q) × (q + length bs ≤ file_max)) (sym same) ((stage_passes g q bs).0 (sym e))

-- a piece of so many bytes that may be staged ends within the limit
pub ends_at_limit : (f : FileRecord) (q len : ℕ) → ((bytes : List ℕ) → length bytes ≡ len → Ok tt ≡ stage_answer f q bytes) → q + len ≤ file_max
ends_at_limit f q len h =
    let long : length (replicate len 0) ≡ len = length-replicate len 0 in
    subst (λ (n : ℕ). q + n ≤ file_max) long ((stage_passes f q (replicate len 0)).0 (sym (h (replicate len 0) long))).1
