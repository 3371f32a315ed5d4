-- Writing a number into bytes that were spelled with another one.
use Rattle.std.proofs.Common.{◌≡◌, ℕ, ◌+◌, ◌≤◌, List, ◌++◌, take, drop, length, Option, Some, None, IfSome, refl, ap, arith, add_assoc, append_assoc, length-append, length-drop}
use Rattle.std.proofs.lemmas.List.{take-append-le, drop-append-le, length-take-le}
use Rattle.std.proofs.Math.Seq.{take-append_seam, take-append-add, drop-append-add}
use Rattle.head_text.specs.Hex.{hex16}
use Rattle.reply_text.specs.declared.slots.Slots.{Slots}
use Rattle.reply_text.specs.Slots.{with_digits, with_digits_in, filled, Spells}

pub length-hex16 : (n : ℕ) → length (hex16 n) ≡ 16
unfolding hex16
length-hex16 n = refl

drop_digits : (n : ℕ) (back : List ℕ) → drop 16 (hex16 n ++ back) ≡ back
unfolding hex16
drop_digits n back = refl

-- digits between a front and a back are replaced
pub with_digits_between : (front back : List ℕ) (m n : ℕ) → with_digits n (length front) (front ++ (hex16 m ++ back)) ≡ front ++ hex16 n ++ back
with_digits_between front back m n =
    rw (take-append_seam front (hex16 m ++ back), drop-append-add front (hex16 m ++ back) 16, drop_digits m back) refl

-- digits behind a front
with_digits_behind : (front bytes : List ℕ) (n at : ℕ) → with_digits n (length front + at) (front ++ bytes) ≡ front ++ with_digits n at bytes
with_digits_behind front bytes n at =
    rw (take-append-add front bytes at, add_assoc (length front) at 16, drop-append-add front bytes (at + 16)) (simp append_assoc)

-- digits before a back
with_digits_before : (bytes back : List ℕ) (n at : ℕ) → at + 16 ≤ length bytes → with_digits n at (bytes ++ back) ≡ with_digits n at bytes ++ back
with_digits_before bytes back n at room =
    let begins : at ≤ length bytes = omega arith in
    rw (take-append-le at bytes back begins, drop-append-le (at + 16) bytes back room) (simp append_assoc)

pub length-with_digits : (bytes : List ℕ) (n at : ℕ) → at + 16 ≤ length bytes → length (with_digits n at bytes) ≡ length bytes
length-with_digits bytes n at room =
    let begins : at ≤ length bytes = omega arith in
    rw (length-append (take at bytes ++ hex16 n) (drop (at + 16) bytes), length-append (take at bytes) (hex16 n), length-hex16 n, length-take-le at bytes begins, length-drop (at + 16) bytes)
    (omega arith)

in_before : (place : Option ℕ) (bytes back : List ℕ) (n : ℕ) → IfSome place (λ at. at + 16 ≤ length bytes)
    → with_digits_in n place (bytes ++ back) ≡ with_digits_in n place bytes ++ back
in_before None bytes back n room = refl
in_before (Some at) bytes back n room = with_digits_before bytes back n at room

room_more : (place : Option ℕ) (few many : ℕ) → few ≤ many → IfSome place (λ at. at + 16 ≤ few) → IfSome place (λ at. at + 16 ≤ many)
room_more None few many less room = room
room_more (Some at) few many less room = omega (arith, room)

-- places in bytes are places in those bytes with more behind them
pub spells_more : (slots : Slots) (bytes back : List ℕ) (text : ℕ → List ℕ) → Spells slots bytes text → Spells slots (bytes ++ back) (λ n. text n ++ back)
unfolding filled
spells_more slots bytes back text spells = record {
  fits = record {
    id = rw (length-append bytes back) (omega (arith, spells.fits.id));
    etag = rw (length-append bytes back) (room_more slots.etag (length bytes) (length bytes + length back) (omega arith) spells.fits.etag);
  };
  text_is = λ n.
      let long : IfSome slots.etag (λ at. at + 16 ≤ length (with_digits n slots.id bytes)) = rw (length-with_digits bytes n slots.id spells.fits.id) spells.fits.etag in
      rw (with_digits_before bytes back n slots.id spells.fits.id, in_before slots.etag (with_digits n slots.id bytes) back n long)
      (ap (λ t. t ++ back) (spells.text_is n));
}

-- a first number between a front and a back
pub spells_first : (front back : List ℕ) → Spells (record { id = length front; etag = None }) (front ++ (hex16 0 ++ back)) (λ n. front ++ hex16 n ++ back)
unfolding filled
spells_first front back = record {
  fits = record {
    id = rw (length-append front (hex16 0 ++ back), length-append (hex16 0) back, length-hex16 0) (omega arith);
    etag = tt;
  };
  text_is = λ n. with_digits_between front back 0 n;
}

-- a second number, behind bytes that have one
pub spells_second : (id : ℕ) (bytes front back : List ℕ) (text : ℕ → List ℕ) → Spells (record { id = id; etag = None }) bytes text
    → Spells (record { id = id; etag = Some (length bytes + length front) }) (bytes ++ (front ++ (hex16 0 ++ back))) (λ n. text n ++ (front ++ hex16 n ++ back))
unfolding filled
spells_second id bytes front back text spells = record {
  fits = record {
    id = rw (length-append bytes (front ++ (hex16 0 ++ back))) (omega (arith, spells.fits.id));
    etag = rw (length-append bytes (front ++ (hex16 0 ++ back)), length-append front (hex16 0 ++ back), length-append (hex16 0) back, length-hex16 0) (omega arith);
  };
  text_is = λ n.
      let same : length (with_digits n id bytes) ≡ length bytes = length-with_digits bytes n id spells.fits.id in
      rw (
        with_digits_before bytes (front ++ (hex16 0 ++ back)) n id spells.fits.id,
        ← same,
        with_digits_behind (with_digits n id bytes) (front ++ (hex16 0 ++ back)) n (length front),
        with_digits_between front back 0 n,
      )
      (ap (λ t. t ++ (front ++ hex16 n ++ back)) (spells.text_is n));
}
