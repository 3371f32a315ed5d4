-- What a flush to the end of a piece meets, told from what is there without the piece; and an append with flush.
use Rattle.std.proofs.Common.{◌≡◌, ◌⊎◌, inl, inr, ℕ, zero, suc, ◌+◌, ◌<◌, ◌≤◌, Bool, cond, List, [], ◌∷◌, ◌++◌, length, get_or, drop, Option, Some, None, Result, Ok, Err, refl, sym, ap, subst, ◌∙◌, arith, append_assoc}
use Rattle.std.specs.Prelude.{nat_lt, ◌↔◌, slice_range}
use Rattle.std.specs.List.{AllByRecursion}
use Rattle.std.proofs.lemmas.List.{append-nil}
use Rattle.file_data.specs.declared.fault.DataFault.{DataFault}
use Rattle.file_data.specs.declared.fault.DataFault.TheVariants.{BelowLength, Gap, Overlap, WrongPosition, TooLarge}
use Rattle.file_data.specs.Staging.{pieces_below, pieces_from, pieces_above, bytes_of, with_piece, Ascends, Covers, first_trouble}
use Rattle.file_data.specs.Troubles.{BeginsAbove, HasGap, HasOverlap, EndsAbove, met_by_piece}
use Rattle.file_data.specs.FileRecord.{FileRecord, stage_answer, staged_with, flush_answer, end_at, CanAppendFlush, and_then, append_flush_answer, append_flushed}
use Rattle.file_data.proofs.StagingLemmas.{Pieces, lt_true, lt_false, le_true, le_false, Ascends-filter, begins_from, first_of, below_passes, bytes-append, on_the_way}
use Rattle.file_data.proofs.TroubleLemmas.{either_side, ends_well, goes_gap, goes_overlap, goes_on, past, never_below, never_large, none_covers, gap_is, overlap_is, wrong_is, flush_allowed, no_trouble}
use Rattle.file_data.proofs.FileLemmas.{new_length}
use Rattle.file_data.proofs.OrderLemmas.{below_with_piece, length_new, part_behind}

-- behind a gap or an overlap nothing counts
gap_stays : (front back more : Pieces) (n q r at : ℕ) → Covers front n at → BeginsAbove back at q → q ≤ r
    → (at < q → first_trouble more at r ≡ Some (Gap at)) → first_trouble ((front ++ back) ++ more) n r ≡ Some (Gap at)
gap_stays front [] more n q r at c b l h =
    ap (λ (x : Pieces). first_trouble x n r) (append_assoc front [] more) ∙ past front more n at r c ∙ h b
gap_stays front (p ∷ ps) more n q r at c b l h =
    ap (λ (x : Pieces). first_trouble x n r) (append_assoc front (p ∷ ps) more) ∙ past front (p ∷ (ps ++ more)) n at r c ∙ goes_gap p (ps ++ more) at r b

over_gap : (ps more : Pieces) (n x q at : ℕ) (bs : List ℕ) → x ≤ q → first_trouble ps n x ≡ Some (Gap at)
    → first_trouble (ps ++ (x, bs) ∷ more) n q ≡ Some (Gap at)
over_gap ps more n x q at bs l e =
    let h : HasGap ps n x at = (gap_is ps n x at).0 e in
    ap (λ (y : Pieces). first_trouble (y ++ (x, bs) ∷ more) n q) h.2
    ∙ gap_stays h.0 h.1 ((x, bs) ∷ more) n x q at h.3 h.4 l (λ k. goes_gap (x, bs) more at q k)

over_overlap : (ps more : Pieces) (n x q start : ℕ) (bs : List ℕ) → first_trouble ps n x ≡ Some (Overlap start)
    → first_trouble (ps ++ (x, bs) ∷ more) n q ≡ Some (Overlap start)
over_overlap ps more n x q start bs e =
    let h : HasOverlap ps n start = (overlap_is ps n x start).0 e in
    ap (λ (y : Pieces). first_trouble (y ++ (x, bs) ∷ more) n q) h.4
    ∙ ap (λ (y : Pieces). first_trouble y n q) (append_assoc h.0 ((start, h.1) ∷ h.2) ((x, bs) ∷ more))
    ∙ past h.0 ((start, h.1) ∷ (h.2 ++ (x, bs) ∷ more)) n h.3 q h.5 ∙ goes_overlap (start, h.1) (h.2 ++ (x, bs) ∷ more) h.3 q h.6

over_wrong : (ps more : Pieces) (n x q : ℕ) (bs : List ℕ) → first_trouble ps n x ≡ Some WrongPosition
    → first_trouble (ps ++ (x, bs) ∷ more) n q ≡ Some (Overlap x)
over_wrong ps more n x q bs e =
    let h : EndsAbove ps n x = (wrong_is ps n x).0 e in
    past ps ((x, bs) ∷ more) n h.0 q h.1 ∙ goes_overlap (x, bs) more h.0 q h.2

over_fault : (ps more : Pieces) (n x q : ℕ) (bs : List ℕ) (fault : DataFault) → x ≤ q → first_trouble ps n x ≡ Some fault
    → first_trouble (ps ++ (x, bs) ∷ more) n q ≡ Some (met_by_piece x fault)
over_fault ps more n x q bs BelowLength l e = absurd (never_below ps n x e)
over_fault ps more n x q bs (Gap at) l e = over_gap ps more n x q at bs l e
over_fault ps more n x q bs (Overlap start) l e = over_overlap ps more n x q start bs e
over_fault ps more n x q bs WrongPosition l e = over_wrong ps more n x q bs e
over_fault ps more n x q bs TooLarge l e = absurd (never_large ps n x e)

over_none : (ps more : Pieces) (n x q : ℕ) (bs : List ℕ) → first_trouble ps n x ≡ None
    → first_trouble (ps ++ (x, bs) ∷ more) n q ≡ first_trouble more (x + length bs) q
over_none ps more n x q bs e = past ps ((x, bs) ∷ more) n x q (none_covers ps n x e) ∙ goes_on (x, bs) more x q refl

-- a flush to the end of a piece that is put at x, where the way to x meets a fault
pub met_fault : (ps : Pieces) (n x len : ℕ) (bs : List ℕ) (fault : DataFault) → 0 < len → first_trouble (pieces_below ps x) n x ≡ Some fault
    → first_trouble (pieces_below (with_piece ps x bs) (x + len)) n (x + len) ≡ Some (met_by_piece x fault)
met_fault ps n x len bs fault l e =
    ap (λ (y : Pieces). first_trouble y n (x + len)) (below_with_piece ps x (x + len) bs (omega arith))
    ∙ over_fault (pieces_below ps x) (pieces_below (pieces_above ps x) (x + len)) n x (x + len) bs fault (omega arith) e

-- and where it meets none
pub met_none : (ps : Pieces) (n x len : ℕ) (bs : List ℕ) → 0 < len → length bs ≡ len → first_trouble (pieces_below ps x) n x ≡ None
    → first_trouble (pieces_below (with_piece ps x bs) (x + len)) n (x + len) ≡ first_trouble (pieces_below (pieces_above ps x) (x + len)) (x + len) (x + len)
met_none ps n x len bs l s e =
    ap (λ (y : Pieces). first_trouble y n (x + len)) (below_with_piece ps x (x + len) bs (omega arith))
    ∙ over_none (pieces_below ps x) (pieces_below (pieces_above ps x) (x + len)) n x (x + len) bs e
    ∙ ap (λ (k : ℕ). first_trouble (pieces_below (pieces_above ps x) (x + len)) (x + k) (x + len)) s

-- what starts above a position starts from the next one on
from_next : (ps : Pieces) (x : ℕ) → pieces_from ps (x + 1) ≡ pieces_above ps x
from_next [] x = refl
from_next (p ∷ ps) x =
    elim (either_side x p.0) [
      | inl l ↦ rw (lt_true x p.0 l, le_true (x + 1) p.0 (omega arith)) (ap (λ (r : Pieces). p ∷ r) (from_next ps x))
      | inr l ↦ rw (lt_false x p.0 l, le_false (x + 1) p.0 (omega arith)) (from_next ps x)
    ]

behind : (xs : Pieces) (k x : ℕ) → drop k xs ≡ pieces_from xs (x + 1) → pieces_above xs x ≡ drop k xs
behind xs k x e = sym (from_next xs x) ∙ sym e

nothing_inside : (ps : Pieces) (e : ℕ) → [] ≡ pieces_below ps e → None ≡ first_trouble (pieces_below ps e) e e
nothing_inside ps e h = sym (ends_well e) ∙ ap (λ (y : Pieces). first_trouble y e e) h

drop_none : (xs : Pieces) (k : ℕ) → length xs ≤ k → drop k xs ≡ []
drop_none [] zero l = refl
drop_none [] (suc k) l = refl
drop_none (p ∷ ps) zero l = absurd (omega arith)
drop_none (p ∷ ps) (suc k) l = drop_none ps k (omega arith)

-- no piece starts above a position
pub inside_end : (xs : Pieces) (k x e : ℕ) → length xs ≤ k → drop k xs ≡ pieces_from xs (x + 1)
    → None ≡ first_trouble (pieces_below (pieces_above xs x) e) e e
inside_end xs k x e l h =
    nothing_inside (pieces_above xs x) e (sym (ap (λ (y : Pieces). pieces_below y e) (behind xs k x h ∙ drop_none xs k l)))

-- the first piece that starts above a position does so at an end or above it
pub inside_none : (xs : Pieces) (k x e : ℕ) (d : ℕ × List ℕ) → Ascends xs → k < length xs → drop k xs ≡ pieces_from xs (x + 1)
    → e ≤ (get_or xs k d).0 → None ≡ first_trouble (pieces_below (pieces_above xs x) e) e e
inside_none xs k x e d a l h m =
    let same : pieces_above xs x ≡ get_or xs k d ∷ drop (suc k) xs = behind xs k x h ∙ first_of xs k d l in
    let up : Ascends (get_or xs k d ∷ drop (suc k) xs) = subst Ascends same (Ascends-filter (λ p. nat_lt x p.0) xs a) in
    nothing_inside (pieces_above xs x) e
    ((begins_from (get_or xs k d) (drop (suc k) xs) e up m).0 ∙ ap (λ (y : Pieces). pieces_below y e) (sym same))

-- it starts below the end
pub inside_some : (xs : Pieces) (k x e : ℕ) (d : ℕ × List ℕ) → k < length xs → drop k xs ≡ pieces_from xs (x + 1)
    → (get_or xs k d).0 < e → Some (Overlap (get_or xs k d).0) ≡ first_trouble (pieces_below (pieces_above xs x) e) e e
inside_some xs k x e d l h m =
    let same : pieces_above xs x ≡ get_or xs k d ∷ drop (suc k) xs = behind xs k x h ∙ first_of xs k d l in
    let first : pieces_below (get_or xs k d ∷ drop (suc k) xs) e ≡ get_or xs k d ∷ pieces_below (drop (suc k) xs) e =
    ap (λ b. cond b (get_or xs k d ∷ pieces_below (drop (suc k) xs) e) (pieces_below (drop (suc k) xs) e)) (lt_true (get_or xs k d).0 e m) in
    sym (ap (λ (y : Pieces). first_trouble (pieces_below y e) e e) same
    ∙ ap (λ (y : Pieces). first_trouble y e e) first ∙ goes_overlap (get_or xs k d) (pieces_below (drop (suc k) xs) e) e e m)

-- both steps are allowed exactly where the answer says so
both_allow : (a b : Result Unit DataFault) → ((and_then a b ≡ Ok tt) ↔ ((a ≡ Ok tt) × (b ≡ Ok tt)))
both_allow (Ok tt) b = ((λ e. (refl, e)), (λ h. h.1))
both_allow (Err x) b = ((λ e. absurd (cc)), (λ h. let k = h.0 in absurd (cc)))

pub append_flush_allowed : (f : FileRecord) (q : ℕ) (bs : List ℕ) → ((append_flush_answer f q bs ≡ Ok tt) ↔ CanAppendFlush f q bs)
append_flush_allowed f q bs =
    let b = both_allow (stage_answer f q bs) (flush_answer (staged_with f q bs) (end_at q bs)) in
    let a = flush_allowed (staged_with f q bs) (end_at q bs) in
    ((λ e. let h = b.0 e in (h.0, a.0 h.1)), (λ h. b.1 (h.0, a.1 h.1)))

-- and a refusal names the fault of the stage, else that of the flush
either_refuses : (a b : Result Unit DataFault) (x : DataFault) → ((and_then a b ≡ Err x) ↔ ((a ≡ Err x) ⊎ ((a ≡ Ok tt) × (b ≡ Err x))))
either_refuses (Ok tt) b x = ((λ e. inr (refl, e)), (λ h. elim h [ inl k ↦ absurd (cc) | inr k ↦ k.1 ]))
either_refuses (Err y) b x = ((λ e. inl e), (λ h. elim h [ inl k ↦ k | inr k ↦ let l = k.0 in absurd (cc) ]))

pub append_flush_refused : (f : FileRecord) (q : ℕ) (bs : List ℕ) (x : DataFault) → ((append_flush_answer f q bs ≡ Err x)
    ↔ ((stage_answer f q bs ≡ Err x) ⊎ ((stage_answer f q bs ≡ Ok tt) × (flush_answer (staged_with f q bs) (end_at q bs) ≡ Err x))))
append_flush_refused f q bs x = either_refuses (stage_answer f q bs) (flush_answer (staged_with f q bs) (end_at q bs)) x

-- an allowed append with flush appends what is below the piece, and then the piece
past_piece : (ps more : Pieces) (n x q : ℕ) (bs : List ℕ) → x ≤ q → first_trouble (ps ++ (x, bs) ∷ more) n q ≡ None → first_trouble ps n x ≡ None
past_piece ps more n x q bs l e = told (first_trouble ps n x) refl
  where
    told : (r : Option DataFault) → first_trouble ps n x ≡ r → first_trouble ps n x ≡ None
    told None h = h
    told (Some fault) h = let k : first_trouble (ps ++ (x, bs) ∷ more) n q ≡ Some (met_by_piece x fault) = over_fault ps more n x q bs fault l h in absurd (cc)

none_more : (more : Pieces) (e : ℕ) → AllByRecursion (λ p. p.0 < e) more → first_trouble more e e ≡ None → more ≡ []
none_more [] e h t = refl
none_more (p ∷ more) e h t =
    let s : e ≡ p.0 = (on_the_way p more e e t).0 in
    let l : p.0 < e = h.0 in
    absurd (omega arith)

appended : (f : FileRecord) (q : ℕ) (bs : List ℕ) (retain : Bool) → CanAppendFlush f q bs → 0 < length bs
    → ((append_flushed f q bs retain).committed ≡ (f.committed ++ bytes_of (pieces_below f.staged q)) ++ bs)
    × (length (f.committed ++ bytes_of (pieces_below f.staged q)) ≡ q)
appended f q bs retain may filled =
    let front = pieces_below f.staged q in
    let more = pieces_below (pieces_above f.staged q) (q + length bs) in
    let parted : pieces_below (with_piece f.staged q bs) (q + length bs) ≡ front ++ (q, bs) ∷ more = below_with_piece f.staged q (q + length bs) bs (omega arith) in
    let none : first_trouble (front ++ (q, bs) ∷ more) (length f.committed) (q + length bs) ≡ None =
    ap (λ (y : Pieces). first_trouble y (length f.committed) (q + length bs)) (sym parted)
    ∙ (no_trouble (pieces_below (with_piece f.staged q bs) (q + length bs)) (length f.committed) (q + length bs)).1 may.1.1 in
    let before : first_trouble front (length f.committed) q ≡ None = past_piece front more (length f.committed) q (q + length bs) bs (omega arith) none in
    let last : more ≡ [] = none_more more (q + length bs) (below_passes (pieces_above f.staged q) (q + length bs))
    (sym (over_none front more (length f.committed) q (q + length bs) bs before) ∙ none) in (
      ap (λ (y : Pieces). f.committed ++ bytes_of y) (parted ∙ ap (λ (m : Pieces). front ++ (q, bs) ∷ m) last)
          ∙ ap (λ (y : List ℕ). f.committed ++ y) (bytes-append front ((q, bs) ∷ []) ∙ ap (λ (y : List ℕ). bytes_of front ++ y) (append-nil bs))
          ∙ sym (append_assoc f.committed (bytes_of front) bs),
      new_length f.committed f.staged q before,
    )

pub appended_length : (f : FileRecord) (q : ℕ) (bs : List ℕ) (retain : Bool) → CanAppendFlush f q bs → length (append_flushed f q bs retain).committed ≡ end_at q bs
appended_length f q bs retain may = length_new (staged_with f q bs) (end_at q bs) retain may.1

pub appended_last : (f : FileRecord) (q : ℕ) (bs : List ℕ) (retain : Bool) → CanAppendFlush f q bs → 0 < length bs
    → slice_range (append_flushed f q bs retain).committed q (end_at q bs) ≡ bs
appended_last f q bs retain may filled =
    let a = appended f q bs retain may filled in
    let before = f.committed ++ bytes_of (pieces_below f.staged q) in
    let long : length before ≡ q = a.1 in
    ap (λ (zs : List ℕ). slice_range zs q (q + length bs)) a.0
    ∙ ap (λ (n : ℕ). slice_range (before ++ bs) n (q + length bs)) (sym long)
    ∙ part_behind before bs (q + length bs) (omega arith)
