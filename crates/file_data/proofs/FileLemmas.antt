-- What a stage and a flush keep of what is true of each file.
use Rattle.std.proofs.Common.{◌≡◌, ℕ, ◌+◌, ◌-◌, ◌<◌, ◌≤◌, min, Bool, true, false, cond, List, [], ◌∷◌, ◌++◌, length, Option, Some, None, Result, Ok, Err, refl, sym, subst, ◌∙◌, arith, length-append}
use Rattle.std.specs.Prelude.{nat_lt, nat_le}
use Rattle.std.specs.List.{AllByRecursion}
use Rattle.std.proofs.lemmas.List.Elements.{All-filter, All-weaker, All-nil, recursion_from_All, All-from_recursion}
use Rattle.file_data.specs.declared.fault.DataFault.{DataFault}
use Rattle.file_data.specs.declared.fault.DataFault.TheVariants.{BelowLength}
use Rattle.file_data.specs.Staging.{end_of, pieces_below, pieces_from, bytes_of, with_piece, first_trouble}
use Rattle.file_data.specs.FileRecord.{FileRecord, file_max, IsStagedPiece, IsFile, refusal, flush_answer}
use Rattle.file_data.proofs.StagingLemmas.{Pieces, Ascends-filter, Ascends-with_piece, All-with_piece, fewer_bytes, bytes_between, ends_within, from_passes, false_lt}

pub stage_keeps : (committed : List ℕ) (staged : Pieces) (q : ℕ) (bytes : List ℕ) → IsFile committed staged
    → length committed ≤ q → 0 < length bytes → q + length bytes ≤ file_max → IsFile committed (with_piece staged q bytes)
stage_keeps committed staged q bytes f l h m = record {
  within = f.within;
  ascends = Ascends-with_piece staged q bytes f.ascends;
  pieces = All-with_piece (IsStagedPiece (length committed)) staged q bytes f.pieces (record { starts = l; filled = h; ends = m });
}

is_none : (r : Option DataFault) → refusal r ≡ Ok tt → r ≡ None
is_none None e = refl
is_none (Some x) e = absurd (cc)

at_length : (b : Bool) (r : Result Unit DataFault) → cond b (Err BelowLength) r ≡ Ok tt → (b ≡ false) × (r ≡ Ok tt)
at_length true r e = absurd (cc)
at_length false r e = (refl, e)

-- what an answer that allows a flush says
pub allowed : (f : FileRecord) (q : ℕ) → flush_answer f q ≡ Ok tt
    → (length f.committed ≤ q) × (first_trouble (pieces_below f.staged q) (length f.committed) q ≡ None)
allowed f q e =
    let h = at_length (nat_lt q (length f.committed)) (refusal (first_trouble (pieces_below f.staged q) (length f.committed) q)) e in
    (false_lt q (length f.committed) h.0, is_none (first_trouble (pieces_below f.staged q) (length f.committed) q) h.1)

pub flush_within : (committed : List ℕ) (staged : Pieces) (q : ℕ) → IsFile committed staged
    → first_trouble (pieces_below staged q) (length committed) q ≡ None → q ≤ file_max
flush_within committed staged q f e =
    ends_within file_max (pieces_below staged q) (length committed) q f.within
    (recursion_from_All (λ p. end_of p ≤ file_max) (pieces_below staged q)
    (All-filter (λ p. nat_lt p.0 q) (λ p. end_of p ≤ file_max) staged
    (All-weaker (IsStagedPiece (length committed)) (λ p. end_of p ≤ file_max) (λ p k. k.ends) staged f.pieces)))
    e

later : (n q : ℕ) (p : ℕ × List ℕ) → IsStagedPiece n p → q ≤ p.0 → IsStagedPiece q p
later n q p k l = record { starts = l; filled = k.filled; ends = k.ends }

later_all : (n q : ℕ) (ps : Pieces) → AllByRecursion (IsStagedPiece n) ps → AllByRecursion (λ p. q ≤ p.0) ps → AllByRecursion (IsStagedPiece q) ps
later_all n q [] h k = tt
later_all n q (p ∷ ps) h k = (later n q p h.0 k.0, later_all n q ps h.1 k.1)

pub new_length : (committed : List ℕ) (staged : Pieces) (q : ℕ)
    → first_trouble (pieces_below staged q) (length committed) q ≡ None → length (committed ++ bytes_of (pieces_below staged q)) ≡ q
new_length committed staged q e =
    length-append committed (bytes_of (pieces_below staged q)) ∙ bytes_between (pieces_below staged q) (length committed) q e

pub flush_keeps : (committed : List ℕ) (staged : Pieces) (q : ℕ) → IsFile committed staged
    → first_trouble (pieces_below staged q) (length committed) q ≡ None
    → IsFile (committed ++ bytes_of (pieces_below staged q)) (pieces_from staged q)
flush_keeps committed staged q f e =
    let long = new_length committed staged q e in
    record {
      within = rw long (flush_within committed staged q f e);
      ascends = Ascends-filter (λ p. nat_le q p.0) staged f.ascends;
      pieces = rw long (All-from_recursion (IsStagedPiece q) (pieces_from staged q)
          (later_all (length committed) q (pieces_from staged q)
          (recursion_from_All (IsStagedPiece (length committed)) (pieces_from staged q)
          (All-filter (λ p. nat_le q p.0) (IsStagedPiece (length committed)) staged f.pieces))
          (from_passes staged q)));
    }

pub drop_keeps : (committed : List ℕ) (staged : Pieces) → IsFile committed staged → IsFile committed []
drop_keeps committed staged f = record { within = f.within; ascends = tt; pieces = All-nil (IsStagedPiece (length committed)) }

-- room for all staged bytes, or up to the limit, is room for those of an allowed flush
pub flush_room_is_enough : (committed : List ℕ) (staged : Pieces) (q len capacity : ℕ) → IsFile committed staged
    → first_trouble (pieces_below staged q) (length committed) q ≡ None → len ≡ length committed
    → len + min (length (bytes_of staged)) (file_max - len) ≤ capacity
    → len + length (bytes_of (pieces_below staged q)) ≤ capacity
flush_room_is_enough committed staged q len capacity f e same room =
    let ends : length committed + length (bytes_of (pieces_below staged q)) ≡ q = bytes_between (pieces_below staged q) (length committed) q e in
    let within : q ≤ file_max = flush_within committed staged q f e in
    let fewer : length (bytes_of (pieces_below staged q)) ≤ length (bytes_of staged) = fewer_bytes (λ p. nat_lt p.0 q) staged in
    omega arith

pub after_flush : (committed : List ℕ) (staged : Pieces) (q : ℕ) (retain : Bool) → IsFile committed staged
    → first_trouble (pieces_below staged q) (length committed) q ≡ None
    → IsFile (committed ++ bytes_of (pieces_below staged q)) (cond retain (pieces_from staged q) [])
after_flush committed staged q true f e = flush_keeps committed staged q f e
after_flush committed staged q false f e =
    drop_keeps (committed ++ bytes_of (pieces_below staged q)) (pieces_from staged q) (flush_keeps committed staged q f e)

-- the same of a file under another name
pub allowed_as : (f g : FileRecord) → f ≡ g → (q : ℕ) → Ok tt ≡ flush_answer g q
    → (length f.committed ≤ q) × (first_trouble (pieces_below f.staged q) (length f.committed) q ≡ None)
allowed_as f g same q e = allowed f q (subst (λ h. flush_answer h q ≡ Ok tt) (sym same) (sym e))

pub has_flush_room : (f g : FileRecord) → f ≡ g → 0 < g.flush_room → 0 < f.flush_room
has_flush_room f g same h = subst (λ k. 0 < k.flush_room) (sym same) h

pub has_length : (f g : FileRecord) → f ≡ g → (n q : ℕ) → n ≡ length g.committed → n ≤ q → length f.committed ≤ q
has_length f g same n q e l = subst (λ k. length k.committed ≤ q) (sym same) (rw (← e) l)
