-- Extents that lie end to end: their order, what a flush adds to them, and what they have of a range.
use Rattle.std.proofs.Common.{◌≡◌, ℕ, zero, suc, ◌+◌, ◌-◌, ◌<◌, ◌≤◌, min, Bool, true, cond, List, [], ◌∷◌, ◌++◌, length, take, drop, None, refl, sym, ap, subst, ◌∙◌, arith, length-take, length-drop, append_assoc, take-append-drop}
use Rattle.std.specs.Prelude.{nat_lt, slice_range}
use Rattle.std.specs.List.{AllByRecursion}
use Rattle.std.proofs.Math.Nat.{sub-zero}
use Rattle.std.proofs.lemmas.List.{append-nil, take_all}
use Rattle.std.proofs.Math.Seq.{drop-append_seam, take-append_seam}
use Rattle.std.proofs.lemmas.List.Elements.{All-append, All-filter, All-weaker, recursion_from_All}
use Rattle.file_data.specs.Staging.{end_of, pieces_below, pieces_from, bytes_of, Ascends, Covers, first_trouble}
use Rattle.file_data.specs.FileRecord.{FileRecord, IsStagedPiece, IsFile, AreExtents, CanFlush, flushed}
use Rattle.file_data.specs.Extents.{part_of, parts_of}
use Rattle.file_data.proofs.StagingLemmas.{Pieces, weaker, bytes-append, below_passes, from_passes}
use Rattle.file_data.proofs.FileLemmas.{new_length, after_flush}
use Rattle.file_data.proofs.TroubleLemmas.{inj, covers_more, covers_first, none_covers, no_trouble}

-- pieces that aren't empty and lie end to end ascend
starts_above : (ps : Pieces) (n q : ℕ) → AllByRecursion (λ p. 0 < length p.1) ps → Covers ps n q → AllByRecursion (λ p. n ≤ p.0) ps × Ascends ps
starts_above [] n q f c = (tt, tt)
starts_above (p ∷ ps) n q f c =
    let h : (p.0 ≡ n) × Covers ps (n + length p.1) q = covers_first p ps n q c in
    let filled : 0 < length p.1 = f.0 in
    let r = starts_above ps (n + length p.1) q f.1 h.1 in (
      ((omega arith), weaker (λ r. n + length p.1 ≤ r.0) (λ r. n ≤ r.0) (λ r k. omega arith) ps r.0),
      (weaker (λ r. n + length p.1 ≤ r.0) (λ r. p.0 < r.0) (λ r k. omega arith) ps r.0, r.1),
    )

pub extents_ascend : (committed : List ℕ) (extents : Pieces) → AreExtents committed extents → Ascends extents
extents_ascend committed extents h =
    (starts_above extents 0 (length committed) (recursion_from_All (λ (p : ℕ × List ℕ). 0 < length p.1) extents h.filled) h.cover).1

covers_join : (front back : Pieces) (n at q : ℕ) → Covers front n at → Covers back at q → Covers (front ++ back) n q
covers_join [] back n at q c d = subst (λ s. Covers back s q) (inj at n [] [] c).0 d
covers_join (p ∷ front) back n at q c d =
    let h : (p.0 ≡ n) × Covers front (n + length p.1) at = covers_first p front n at c in
    covers_more p (front ++ back) n q h.0 (covers_join front back (n + length p.1) at q h.1 d)

-- lists and ranges
take_none : (n : ℕ) → ◌≡◌ {A = List ℕ} (take n []) []
take_none zero = refl
take_none (suc n) = refl

drop_all : (xs : List ℕ) (n : ℕ) → length xs ≤ n → drop n xs ≡ []
drop_all [] zero l = refl
drop_all [] (suc n) l = refl
drop_all (x ∷ xs) zero l = absurd (omega arith)
drop_all (x ∷ xs) (suc n) l = drop_all xs n (omega arith)

take_joined : (xs ys : List ℕ) (n : ℕ) → take n (xs ++ ys) ≡ take n xs ++ take (n - length xs) ys
take_joined [] ys n = ap (λ (k : ℕ). take k ys) (sym (sub-zero n)) ∙ ap (λ (zs : List ℕ). zs ++ take (n - 0) ys) (sym (take_none n))
take_joined (x ∷ xs) ys zero = let e : 0 - length (x ∷ xs) ≡ 0 = omega arith in rw e refl
take_joined (x ∷ xs) ys (suc n) =
    let e : suc n - length (x ∷ xs) ≡ n - length xs = omega arith in
    rw e (ap (λ (zs : List ℕ). x ∷ zs) (take_joined xs ys n))

drop_joined : (xs ys : List ℕ) (n : ℕ) → drop n (xs ++ ys) ≡ drop n xs ++ drop (n - length xs) ys
drop_joined [] ys n = ap (λ (k : ℕ). drop k ys) (sym (sub-zero n)) ∙ ap (λ (zs : List ℕ). zs ++ drop (n - 0) ys) (sym (drop_all [] n (omega arith)))
drop_joined (x ∷ xs) ys zero = let e : 0 - length (x ∷ xs) ≡ 0 = omega arith in rw e refl
drop_joined (x ∷ xs) ys (suc n) = let e : suc n - length (x ∷ xs) ≡ n - length xs = omega arith in rw e (drop_joined xs ys n)

range_joined : (xs ys : List ℕ) (a b : ℕ) → slice_range (xs ++ ys) a b ≡ slice_range xs a b ++ slice_range ys (a - length xs) (b - length xs)
range_joined xs ys a b =
    let long : length (drop a xs) ≡ length xs - a = length-drop a xs in
    let same : (b - a) - length (drop a xs) ≡ (b - length xs) - (a - length xs) = omega arith in
    ap (λ (zs : List ℕ). take (b - a) zs) (drop_joined xs ys a) ∙ take_joined (drop a xs) (drop (a - length xs) ys) (b - a)
    ∙ ap (λ (k : ℕ). slice_range xs a b ++ take k (drop (a - length xs) ys)) same

range_above : (xs : List ℕ) (a b : ℕ) → length xs ≤ a → slice_range xs a b ≡ []
range_above xs a b l = ap (λ (zs : List ℕ). take (b - a) zs) (drop_all xs a l) ∙ take_none (b - a)

range_below : (xs : List ℕ) (a b : ℕ) → b ≤ a → slice_range xs a b ≡ []
range_below xs a b l = let e : b - a ≡ 0 = omega arith in rw e refl

pub range_length : (xs : List ℕ) (a b : ℕ) → length (slice_range xs a b) ≤ b - a
range_length xs a b = let e : length (slice_range xs a b) ≡ min (b - a) (length (drop a xs)) = length-take (b - a) (drop a xs) in omega arith

-- what pieces that lie end to end from n have of a range is that range of their bytes
parts_are : (ps : Pieces) (n q from to : ℕ) → Covers ps n q → slice_range (bytes_of ps) (from - n) (to - n) ≡ parts_of from to ps
parts_are [] n q from to c = range_above [] (from - n) (to - n) (omega arith)
parts_are (p ∷ ps) n q from to c =
    let h : (p.0 ≡ n) × Covers ps (n + length p.1) q = covers_first p ps n q c in
    let a : (from - n) - length p.1 ≡ from - (n + length p.1) = omega arith in
    let b : (to - n) - length p.1 ≡ to - (n + length p.1) = omega arith in
    range_joined p.1 (bytes_of ps) (from - n) (to - n)
    ∙ ap (λ (k : ℕ). slice_range p.1 (from - n) (to - n) ++ slice_range (bytes_of ps) k ((to - n) - length p.1)) a
    ∙ ap (λ (k : ℕ). slice_range p.1 (from - n) (to - n) ++ slice_range (bytes_of ps) (from - (n + length p.1)) k) b
    ∙ ap (λ (zs : List ℕ). slice_range p.1 (from - n) (to - n) ++ zs) (parts_are ps (n + length p.1) q from to h.1)
    ∙ ap (λ (k : ℕ). slice_range p.1 (from - k) (to - k) ++ parts_of from to ps) (sym h.0)

-- pieces that end below a range, or start above it, have nothing of it
none_before : (ps : Pieces) (from to : ℕ) → AllByRecursion (λ p. end_of p ≤ from) ps → parts_of from to ps ≡ []
none_before [] from to h = refl
none_before (p ∷ ps) from to h =
    let l : p.0 + length p.1 ≤ from = h.0 in
    ap (λ (zs : List ℕ). zs ++ parts_of from to ps) (range_above p.1 (from - p.0) (to - p.0) (omega arith)) ∙ none_before ps from to h.1

none_behind : (ps : Pieces) (from to : ℕ) → AllByRecursion (λ p. to ≤ p.0) ps → parts_of from to ps ≡ []
none_behind [] from to h = refl
none_behind (p ∷ ps) from to h =
    let l : to ≤ p.0 = h.0 in
    ap (λ (zs : List ℕ). zs ++ parts_of from to ps) (range_below p.1 (from - p.0) (to - p.0) (omega arith)) ∙ none_behind ps from to h.1

-- of pieces that start below a position all but the last one end there or below
ends_before : (ps : Pieces) (k n q from : ℕ) → Covers ps n q → suc k ≤ length ps → AllByRecursion (λ p. p.0 < from + 1) (take (suc k) ps)
    → AllByRecursion (λ p. end_of p ≤ from) (take k ps)
ends_before [] k n q from c l h = absurd (omega arith)
ends_before (p ∷ ps) zero n q from c l h = tt
ends_before (p ∷ []) (suc k) n q from c l h = absurd (omega arith)
ends_before (p ∷ r ∷ ps) (suc k) n q from c l h =
    let a : (p.0 ≡ n) × Covers (r ∷ ps) (n + length p.1) q = covers_first p (r ∷ ps) n q c in
    let b = covers_first r ps (n + length p.1) q a.1 in
    let s : r.0 ≡ n + length p.1 = b.0 in
    let m : r.0 < from + 1 = h.1.0 in
    ((omega arith), ends_before (r ∷ ps) k (n + length p.1) q from a.1 (omega arith) h.1)

front_ends : (ps : Pieces) (count n q from : ℕ) → Covers ps n q → count ≤ length ps → AllByRecursion (λ p. p.0 < from + 1) (take count ps)
    → AllByRecursion (λ p. end_of p ≤ from) (take (count - 1) ps)
front_ends ps zero n q from c l h = tt
front_ends ps (suc k) n q from c l h =
    let e : k ≡ suc k - 1 = omega arith in
    subst (λ (i : ℕ). AllByRecursion (λ (p : ℕ × List ℕ). end_of p ≤ from) (take i ps)) e (ends_before ps k n q from c l h)

parts-append : (from to : ℕ) (ps qs : Pieces) → parts_of from to (ps ++ qs) ≡ parts_of from to ps ++ parts_of from to qs
parts-append from to [] qs = refl
parts-append from to (p ∷ ps) qs =
    ap (λ (r : List ℕ). part_of from to p ++ r) (parts-append from to ps qs)
    ∙ sym (append_assoc (part_of from to p) (parts_of from to ps) (parts_of from to qs))

-- the extents from the last one that starts at or below a position on, up to the first that starts at an end or above it,
-- have the bytes between
pub range_is : (ps : Pieces) (count first last from to : ℕ) → AreExtents (bytes_of ps) ps → count ≤ length ps → first ≡ count - 1
    → take count ps ≡ pieces_below ps (from + 1) → drop last (drop first ps) ≡ pieces_from (drop first ps) to
    → slice_range (bytes_of ps) from to ≡ parts_of from to (take last (drop first ps))
range_is ps count first last from to h l f e g =
    let low : AllByRecursion (λ p. p.0 < from + 1) (take count ps) =
    subst (λ (ys : Pieces). AllByRecursion (λ (p : ℕ × List ℕ). p.0 < from + 1) ys) (sym e) (below_passes ps (from + 1)) in
    let ends : AllByRecursion (λ p. end_of p ≤ from) (take first ps) =
    subst (λ (i : ℕ). AllByRecursion (λ (p : ℕ × List ℕ). end_of p ≤ from) (take i ps)) (sym f) (front_ends ps count 0 (length (bytes_of ps)) from h.cover l low) in
    let high : AllByRecursion (λ p. to ≤ p.0) (drop last (drop first ps)) =
    subst (λ (ys : Pieces). AllByRecursion (λ (p : ℕ × List ℕ). to ≤ p.0) ys) (sym g) (from_passes (drop first ps) to) in
    ap (λ (k : ℕ). slice_range (bytes_of ps) k to) (sym (sub-zero from)) ∙ ap (λ (k : ℕ). slice_range (bytes_of ps) (from - 0) k) (sym (sub-zero to))
    ∙ parts_are ps 0 (length (bytes_of ps)) from to h.cover
    ∙ ap (parts_of from to) (sym (take-append-drop first ps)) ∙ parts-append from to (take first ps) (drop first ps)
    ∙ ap (λ (zs : List ℕ). zs ++ parts_of from to (drop first ps)) (none_before (take first ps) from to ends)
    ∙ ap (parts_of from to) (sym (take-append-drop last (drop first ps))) ∙ parts-append from to (take last (drop first ps)) (drop last (drop first ps))
    ∙ ap (λ (zs : List ℕ). parts_of from to (take last (drop first ps)) ++ zs) (none_behind (drop last (drop first ps)) from to high)
    ∙ append-nil (parts_of from to (take last (drop first ps)))

pub range_fits : (ps : Pieces) (count first last from to : ℕ) → AreExtents (bytes_of ps) ps → count ≤ length ps → first ≡ count - 1
    → take count ps ≡ pieces_below ps (from + 1) → drop last (drop first ps) ≡ pieces_from (drop first ps) to
    → length (parts_of from to (take last (drop first ps))) ≤ to - from
range_fits ps count first last from to h l f e g =
    subst (λ (zs : List ℕ). length zs ≤ to - from) (range_is ps count first last from to h l f e g) (range_length (bytes_of ps) from to)

-- a list from a place on, as a slice has it
pub rest_is : (ps : Pieces) (k : ℕ) → take (length ps - k) (drop k ps) ≡ drop k ps
rest_is ps k = let long : length (drop k ps) ≡ length ps - k = length-drop k ps in take_all (length ps - k) (drop k ps) (omega arith)

-- the same of a rest under another name
pub range_of_rest : (ps rest : Pieces) (count first last from to : ℕ) → AreExtents (bytes_of ps) ps → count ≤ length ps → first ≡ count - 1
    → take count ps ≡ pieces_below ps (from + 1) → drop first ps ≡ rest → drop last rest ≡ pieces_from rest to
    → (slice_range (bytes_of ps) from to ≡ parts_of from to (take last rest)) × (length (parts_of from to (take last rest)) ≤ to - from)
range_of_rest ps rest count first last from to h l f e r g =
    subst (λ (ys : Pieces). drop last ys ≡ pieces_from ys to
    → (slice_range (bytes_of ps) from to ≡ parts_of from to (take last ys)) × (length (parts_of from to (take last ys)) ≤ to - from)) r
    (λ k. (range_is ps count first last from to h l f e k, range_fits ps count first last from to h l f e k)) g

-- what an allowed flush leaves
pub flush_leaves : (extents staged : Pieces) (q : ℕ) (retain : Bool) → IsFile (bytes_of extents) staged
    → first_trouble (pieces_below staged q) (length (bytes_of extents)) q ≡ None
    → IsFile (bytes_of (extents ++ pieces_below staged q)) (cond retain (pieces_from staged q) [])
flush_leaves extents staged q retain f e =
    subst (λ (bs : List ℕ). IsFile bs (cond retain (pieces_from staged q) [])) (sym (bytes-append extents (pieces_below staged q)))
    (after_flush (bytes_of extents) staged q retain f e)

pub flush_ends : (extents staged : Pieces) (q : ℕ)
    → first_trouble (pieces_below staged q) (length (bytes_of extents)) q ≡ None → q ≡ length (bytes_of (extents ++ pieces_below staged q))
flush_ends extents staged q e =
    sym (ap length (bytes-append extents (pieces_below staged q)) ∙ new_length (bytes_of extents) staged q e)

zero_add : (n : ℕ) → 0 + n ≡ n
zero_add n = omega arith

-- two lists that make one with others are parted where their lengths say
pub parted_at : (xs ys us vs : Pieces) (n : ℕ) → xs ++ ys ≡ us ++ vs → length xs ≡ length us + n → (xs ≡ us ++ take n vs) × (ys ≡ drop n vs)
parted_at xs ys [] vs n e l = (
  sym (take-append_seam xs ys) ∙ ap (λ (zs : Pieces). take (length xs) zs) e ∙ ap (λ (k : ℕ). take k vs) (l ∙ zero_add n),
  sym (drop-append_seam xs ys) ∙ ap (λ (zs : Pieces). drop (length xs) zs) e ∙ ap (λ (k : ℕ). drop k vs) (l ∙ zero_add n),
)
parted_at [] ys (a ∷ us) vs n e l = absurd (omega arith)
parted_at (x ∷ xs) ys (a ∷ us) vs n e l =
    let r : (xs ≡ us ++ take n vs) × (ys ≡ drop n vs) = parted_at xs ys us vs n (cc) (omega arith) in
    let s : x ≡ a = cc in
    (ap (λ (zs : Pieces). x ∷ zs) r.0 ∙ ap (λ (y : ℕ × List ℕ). y ∷ (us ++ take n vs)) s, r.1)

-- extents stay extents over an allowed flush
pub extents_stay : (f : FileRecord) (q : ℕ) (retain : Bool) → IsFile f.committed f.staged → AreExtents f.committed f.extents → CanFlush f q
    → AreExtents (flushed f q retain).committed (flushed f q retain).extents
extents_stay f q retain file h may =
    let none : first_trouble (pieces_below f.staged q) (length f.committed) q ≡ None = (no_trouble (pieces_below f.staged q) (length f.committed) q).1 may.1 in
    let long : length (f.committed ++ bytes_of (pieces_below f.staged q)) ≡ q = new_length f.committed f.staged q none in
    record {
      filled = All-append (λ (p : ℕ × List ℕ). 0 < length p.1) f.extents (pieces_below f.staged q) h.filled
          (All-filter (λ p. nat_lt p.0 q) (λ (p : ℕ × List ℕ). 0 < length p.1) f.staged
          (All-weaker (IsStagedPiece (length f.committed)) (λ (p : ℕ × List ℕ). 0 < length p.1) (λ p k. k.filled) f.staged file.pieces));
      cover = rw long (covers_join f.extents (pieces_below f.staged q) 0 (length f.committed) q h.cover may.1);
      bytes = ap (λ (bs : List ℕ). bs ++ bytes_of (pieces_below f.staged q)) h.bytes ∙ sym (bytes-append f.extents (pieces_below f.staged q));
    }

-- the same of what a flush makes of the lists
pub flush_extends : (extents staged : Pieces) (q : ℕ) → IsFile (bytes_of extents) staged → AreExtents (bytes_of extents) extents
    → first_trouble (pieces_below staged q) (length (bytes_of extents)) q ≡ None → length (bytes_of extents) ≤ q
    → AreExtents (bytes_of (extents ++ pieces_below staged q)) (extents ++ pieces_below staged q)
flush_extends extents staged q f h e l =
    let before : FileRecord = record { committed = bytes_of extents; extents = extents; staged = staged; stage_room = 0; flush_room = 0 } in
    subst (λ (bs : List ℕ). AreExtents bs (extents ++ pieces_below staged q)) (sym (bytes-append extents (pieces_below staged q)))
    (extents_stay before q true f h (l, none_covers (pieces_below staged q) (length (bytes_of extents)) q e))
