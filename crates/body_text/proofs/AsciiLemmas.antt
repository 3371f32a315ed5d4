-- The texts that bodies have besides names are ASCII, so they are UTF-8.
use Rattle.std.proofs.Common.{◌≡◌, ℕ, zero, suc, ◌+◌, ◌-◌, ◌/◌, ◌%◌, ◌^◌, ◌<◌, ◌≤◌, Bool, true, false, cond, nat_lt, ◌||◌, ◌==◌, bit_and, IsTrue, not, bytes_eq, List, [], ◌∷◌, ◌++◌, get_or, codes, IsUtf8, IsAscii, lit<, refl, sym, ap, subst, ◌∙◌, append_assoc, arith}
use Rattle.std.specs.List.{list_all, list_any}
use Rattle.std.proofs.lemmas.Bool.Decides.{nat_tests}
use Rattle.std.proofs.lemmas.Slice.Eq.{bytes_eq-Decides}
use Rattle.std.proofs.lemmas.Str.{IsUtf8-from_ascii}
use Rattle.httpdate.specs.declared.date.HttpDate.{HttpDate}
use Rattle.httpdate.specs.declared.parts.Parts.{Parts}
use Rattle.httpdate.specs.Calendar.{days_in_month, is_leap_year}
use Rattle.httpdate.specs.Date.{valid_secs}
use Rattle.httpdate.specs.Reader.{parse}
use Rattle.httpdate.specs.Text.{day_name, month_name, two_digits, four_digits, time_of_day, imf_fixdate}
use Rattle.httpdate.specs.Valid.{IsValid, is_valid, parts_secs}
use Rattle.httpdate.proofs.OptionLemmas.{cond_some, and_then_some}
use Rattle.httpdate.proofs.ValidLemmas.{is_valid_sound}
use Rattle.acl_text.specs.declared.perm.ModeBits.{ModeBits}
use Rattle.acl_text.specs.declared.who.Who.{Who}
use Rattle.acl_text.specs.AclWriting.{access_bits, permissions_text}
use Rattle.acl_text.specs.Ids.{is_id, is_id_byte, is_plain_id, superuser}
use Rattle.acl_text.specs.PermTexts.{letter, perm_text, last_letter, symbolic_text}
use Rattle.acl_text.specs.Whos.{is_base}
use Rattle.head_text.specs.DateText.{http_date}
use Rattle.head_text.specs.Hex.{hex_digit, hex_at, hex16}
use Rattle.head_text.proofs.Dates.{date_text-http_date, http_date_is_read}
use Rattle.path_text.proofs.PlaceLemmas.{both_parts}

-- ---- bytes below 128

abbrev Low : List ℕ → Type 0
Low [] = Unit {0}
Low (b ∷ bs) = (b < 128) × Low bs

low_ascii : (bs : List ℕ) → Low bs → IsAscii bs
low_ascii [] h i = omega arith
low_ascii (b ∷ bs) h zero = h.0
low_ascii (b ∷ bs) h (suc i) = low_ascii bs h.1 i

low_utf8 : (bs : List ℕ) → Low bs → IsUtf8 bs
low_utf8 bs h = IsUtf8-from_ascii bs (low_ascii bs h)

low_both : (xs ys : List ℕ) → Low xs → Low ys → Low (xs ++ ys)
low_both [] ys h k = k
low_both (x ∷ xs) ys h k = (h.0, low_both xs ys h.1 k)

abbrev is_low : ℕ → Bool
is_low b = nat_lt b 128

below : (b : ℕ) → is_low b ≡ true → b < 128
below b e = grind (arith, nat_tests)

-- of a text that is written out
low_written : (bs : List ℕ) → list_all is_low bs ≡ true → Low bs
low_written [] e = tt
low_written (b ∷ bs) e = let parts = both_parts (is_low b) (list_all is_low bs) e in (below b parts.0, low_written bs parts.1)

-- of one of several texts that are written out
low_one : (texts : List (List ℕ)) (n : ℕ) → list_all (λ text. list_all is_low text) texts ≡ true → Low (get_or texts n [])
low_one [] n e = tt
low_one (text ∷ texts) zero e = low_written text (both_parts (list_all is_low text) (list_all (λ t. list_all is_low t) texts) e).0
low_one (text ∷ texts) (suc n) e = low_one texts n (both_parts (list_all is_low text) (list_all (λ t. list_all is_low t) texts) e).1

-- ---- hex digits

low_digit : (n : ℕ) → n < 16 → hex_digit n < 128
low_digit n h = by_side (nat_lt n 10)
  where
    by_side : (b : Bool) → cond b (48 + n) (55 + n) < 128
    by_side true = omega arith
    by_side false = omega arith

low_at : (n k : ℕ) → hex_at n k < 128
low_at n k = low_digit (n / 16 ^ k % 16) (omega arith)

pub hex16_utf8 : (n : ℕ) → IsUtf8 (hex16 n)
unfolding hex16
hex16_utf8 n =
    low_utf8 (hex16 n)
    (low_at n 15, (low_at n 14, (low_at n 13, (low_at n 12, (low_at n 11, (low_at n 10, (low_at n 9, (low_at n 8, (low_at n 7, (low_at n 6, (low_at n 5, (low_at n 4, (low_at n 3, (low_at n 2, (low_at n 1, (low_at n 0, tt))))))))))))))))

-- ---- dates

low_two : (n : ℕ) → n < 100 → Low (two_digits n)
low_two n h = (omega arith, (omega arith, tt))

low_day : (n : ℕ) → Low (day_name n)
low_day n = low_one (codes "Mon" ∷ codes "Tue" ∷ codes "Wed" ∷ codes "Thu" ∷ codes "Fri" ∷ codes "Sat" ∷ codes "Sun" ∷ []) (n - 1) refl

low_month : (n : ℕ) → Low (month_name n)
low_month n =
    low_one
    (codes "Jan" ∷ codes "Feb" ∷ codes "Mar" ∷ codes "Apr" ∷ codes "May" ∷ codes "Jun" ∷ codes "Jul" ∷ codes "Aug" ∷ codes "Sep" ∷ codes "Oct"
    ∷ codes "Nov" ∷ codes "Dec" ∷ []) (n - 1) refl

record IsSmall (p : Parts) : Type 0 where
  year : p.year < 10000
  day : p.day < 100
  hour : p.hour < 100
  min : p.min < 100
  sec : p.sec < 100

low_time : (p : Parts) → IsSmall p → Low (time_of_day p)
low_time p h =
    low_both (two_digits p.hour) (codes ":" ++ two_digits p.min ++ codes ":" ++ two_digits p.sec) (low_two p.hour h.hour)
    (low_both (codes ":") (two_digits p.min ++ codes ":" ++ two_digits p.sec) (low_written (codes ":") refl)
    (low_both (two_digits p.min) (codes ":" ++ two_digits p.sec) (low_two p.min h.min)
    (low_both (codes ":") (two_digits p.sec) (low_written (codes ":") refl) (low_two p.sec h.sec))))

low_year : (y : ℕ) → y < 10000 → Low (four_digits y)
low_year y h = low_both (two_digits (y / 100)) (two_digits (y % 100)) (low_two (y / 100) (omega arith)) (low_two (y % 100) (omega arith))

abbrev after_month : Parts → List ℕ
after_month p = 32 ∷ (four_digits p.year ++ 32 ∷ (time_of_day p ++ codes " GMT"))

abbrev after_day : Parts → List ℕ
after_day p = 32 ∷ (month_name p.mon ++ after_month p)

abbrev after_name : Parts → List ℕ
after_name p = 44 ∷ 32 ∷ (two_digits p.day ++ after_day p)

grouped : (p : Parts) → imf_fixdate p ≡ day_name p.wday ++ after_name p
grouped p = simp append_assoc

low_after_month : (p : Parts) → IsSmall p → Low (after_month p)
low_after_month p h =
    let clock : Low (time_of_day p ++ codes " GMT") = low_both (time_of_day p) (codes " GMT") (low_time p h) (low_written (codes " GMT") refl) in
    (omega arith, low_both (four_digits p.year) (32 ∷ (time_of_day p ++ codes " GMT")) (low_year p.year h.year) (omega arith, clock))

low_after_day : (p : Parts) → IsSmall p → Low (after_day p)
low_after_day p h = (omega arith, low_both (month_name p.mon) (after_month p) (low_month p.mon) (low_after_month p h))

low_date : (p : Parts) → IsSmall p → Low (imf_fixdate p)
low_date p h =
    subst Low (sym (grouped p))
    (low_both (day_name p.wday) (after_name p) (low_day p.wday)
    (omega arith, (omega arith, low_both (two_digits p.day) (after_day p) (low_two p.day h.day) (low_after_day p h))))

days_few : (y m : ℕ) → days_in_month y m ≤ 31
days_few y m = by_month (m == 2) (is_leap_year y) ((m == 4) || (m == 6) || (m == 9) || (m == 11))
  where
    by_month : (february leap short : Bool) → cond february (cond leap 29 28) (cond short 30 31) ≤ 31
    by_month true true short = omega arith
    by_month true false short = omega arith
    by_month false leap true = omega arith
    by_month false leap false = omega arith

small : (p : Parts) → IsValid p → IsSmall p
small p h = record {
  year = omega (arith, h.0.0.1);
  day = omega (arith, h.0.2.1, days_few p.year p.mon);
  hour = omega (arith, h.1.0);
  min = omega (arith, h.1.1);
  sec = omega (arith, h.1.2);
}

low_http : (secs : ℕ) → secs < 253402300800 → Low (http_date secs)
low_http secs early =
    and_then_some valid_secs (parse (http_date secs)) secs (http_date_is_read secs early)
    (λ p _ e.
    let right = cond_some (is_valid p) (parts_secs p) secs e in
    let h = is_valid_sound p right.0 in
    let date : HttpDate = record { parts = p; civil = h.0; time = h.1; right_day = h.2 } in
    subst Low (date_text-http_date date (subst (λ s. s < 253402300800) (sym right.1) early) ∙ ap http_date right.1) (low_date p (small p h)))

pub date_utf8 : (secs : ℕ) → secs < 253402300800 → IsUtf8 (http_date secs)
date_utf8 secs early = low_utf8 (http_date secs) (low_http secs early)

-- ---- permissions

low_letter : (c bit p : ℕ) → c < 128 → letter c bit p < 128
low_letter c bit p h = by_side (bit_and p bit == 0)
  where
    by_side : (b : Bool) → cond b 45 c < 128
    by_side true = omega arith
    by_side false = h

low_last : (sticky : Bool) (p : ℕ) → last_letter sticky p < 128
low_last true p = by_side (bit_and p 1 == 0)
  where
    by_side : (b : Bool) → cond b 84 116 < 128
    by_side true = omega arith
    by_side false = omega arith
low_last false p = low_letter 120 1 p (omega arith)

low_perm : (p : ℕ) → Low (perm_text p)
low_perm p = (low_letter 114 4 p (omega arith), (low_letter 119 2 p (omega arith), (low_letter 120 1 p (omega arith), tt)))

abbrev last_of : ModeBits → List ℕ
last_of bits = letter 114 4 bits.other ∷ letter 119 2 bits.other ∷ last_letter bits.sticky bits.other ∷ []

low_symbolic : (bits : ModeBits) → Low (symbolic_text bits)
low_symbolic bits =
    let last : Low (last_of bits) = (low_letter 114 4 bits.other (omega arith), (low_letter 119 2 bits.other (omega arith), (low_last bits.sticky bits.other, tt))) in
    low_both (perm_text bits.owner) (perm_text bits.group ++ last_of bits) (low_perm bits.owner)
    (low_both (perm_text bits.group) (last_of bits) (low_perm bits.group) last)

low_plus : (b : Bool) → Low (cond b (43 ∷ []) [])
low_plus true = (omega arith, tt)
low_plus false = tt

pub permissions_utf8 : (sticky : Bool) (es : List (Who × ℕ)) → IsUtf8 (permissions_text sticky es)
permissions_utf8 sticky es =
    low_utf8 (permissions_text sticky es)
    (low_both (symbolic_text (access_bits sticky es)) _ (low_symbolic (access_bits sticky es)) (low_plus (list_any (λ e. not (is_base e.0)) es)))

-- ---- ids

low_id_byte : (b : ℕ) → is_id_byte b ≡ true → b < 128
low_id_byte b e = grind (arith, nat_tests)

low_id_bytes : (bs : List ℕ) → list_all is_id_byte bs ≡ true → Low bs
low_id_bytes [] e = tt
low_id_bytes (b ∷ bs) e = let parts = both_parts (is_id_byte b) (list_all is_id_byte bs) e in (low_id_byte b parts.0, low_id_bytes bs parts.1)

low_id : (id : List ℕ) → is_id id ≡ true → Low id
low_id id e = by_kind (bytes_eq id superuser) refl e
  where
    by_kind : (b : Bool) → bytes_eq id superuser ≡ b → (b || is_plain_id id) ≡ true → Low id
    by_kind true same k = subst Low (sym ((bytes_eq-Decides id superuser).0 same)) (low_written superuser refl)
    by_kind false other k = low_id_bytes id (both_parts _ (list_all is_id_byte id) k).1

pub id_utf8 : (id : List ℕ) → IsTrue (is_id id) → IsUtf8 id
id_utf8 id e = low_utf8 id (low_id id e)
