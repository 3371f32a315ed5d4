-- Which numbers a list of entity tags has, by the items that commas part.
use Rattle.std.proofs.Common.{codes, ◌≡◌, ◌↔◌, ◌⊎◌, inl, inr, ℕ, zero, suc, ◌<◌, ◌==◌, Bool, true, false, cond, bytes_eq, List, [], ◌∷◌, ◌++◌, length, get_or, Option, None, Some, refl, sym, ap, subst, ◌∙◌, arith}
use Rattle.std.specs.List.{list_all, filter_map, slice_split, onto_first, cons_option, join_with_byte, Contains, All, AllByRecursion}
use Rattle.std.proofs.lemmas.Bool.{false≢true}
use Rattle.std.proofs.lemmas.Bool.Decides.{nat_tests, Decides-eqb}
use Rattle.std.proofs.lemmas.List.Elements.{All-append, All-from_recursion, Contains-get_or}
use Rattle.std.proofs.lemmas.List.Splits.{join_with_byte-slice_split, length-slice_split, slice_split_at, slice_split_none}
use Rattle.std.proofs.lemmas.Slice.Eq.{bytes_eq-Decides}
use Rattle.head_text.specs.ETags.{etags_of, is_blank, is_comma, item_number, tag_number, trimmed, without_quotes, without_weak}
use Rattle.head_text.specs.Tags.{Tags}
use Rattle.head_text.specs.TagLists.{HasNoComma, AreItems}
use Rattle.head_text.specs.TagTexts.{SpellsTag}
use Rattle.head_text.proofs.PropertyLemmas.{both_are}
use Rattle.head_text.proofs.TagTextLemmas.{item_law}
use Rattle.head_text.proofs.TrimLemmas.{trimmed_is}

-- ---- the items are the parts at commas

no_commas : (item : List ℕ) → HasNoComma item → All (λ b. is_comma b ≡ false) item
no_commas item none k d within =
    elim (get_or item k d == 44) as (λ c. (get_or item k d == 44) ≡ c → c ≡ false) [
      | true ↦ λ is. absurd (none (subst (Contains item) ((Decides-eqb (get_or item k d) 44).0 is) (Contains-get_or item k d within)))
      | false ↦ λ _. refl
    ] refl

parted : (item : List ℕ) (items : List (List ℕ)) → AllByRecursion HasNoComma (item ∷ items)
    → slice_split is_comma (join_with_byte 44 (item ∷ items)) ≡ item ∷ items
parted item [] h = slice_split_none is_comma item (no_commas item h.0)
parted item (next ∷ items) h =
    slice_split_at is_comma item 44 (join_with_byte 44 (next ∷ items)) (no_commas item h.0) refl
    ∙ ap (λ rest. item ∷ rest) (parted next items h.1)

are_parts : (text : List ℕ) (items : List (List ℕ)) → AreItems text items → slice_split is_comma text ≡ items
are_parts text [] are = absurd (omega (arith, are.some))
are_parts text (item ∷ items) are = ap (slice_split is_comma) (sym are.joined) ∙ parted item items are.each

nothing : HasNoComma []
nothing at = omega (arith, at.1)

behind : (b : ℕ) (item : List ℕ) → is_comma b ≡ false → HasNoComma item → HasNoComma (b ∷ item)
behind b item is none (zero, within, e) = false≢true (sym is ∙ (Decides-eqb b 44).1 e)
behind b item is none (suc k, within, e) = none (k, omega arith, e)

onto : (b : ℕ) (items : List (List ℕ)) → is_comma b ≡ false → AllByRecursion HasNoComma items → AllByRecursion HasNoComma (onto_first b items)
onto b [] is h = (behind b [] is nothing, tt)
onto b (item ∷ items) is h = (behind b item is h.0, h.1)

no_comma_in_parts : (text : List ℕ) → AllByRecursion HasNoComma (slice_split is_comma text)
no_comma_in_parts [] = (nothing, tt)
no_comma_in_parts (b ∷ text) =
    let rest = no_comma_in_parts text in
    elim (is_comma b) as (λ c. is_comma b ≡ c → AllByRecursion HasNoComma (cond c ([] ∷ slice_split is_comma text) (onto_first b (slice_split is_comma text)))) [
      | true ↦ λ _. (nothing, rest)
      | false ↦ λ is. onto b (slice_split is_comma text) is rest
    ] refl

pub parts_are : (text : List ℕ) → AreItems text (slice_split is_comma text)
parts_are text = record {
  some = omega (arith, length-slice_split is_comma text);
  each = no_comma_in_parts text;
  joined = join_with_byte-slice_split 44 text;
}

-- ---- the numbers of the items

first_or_later : (m : ℕ) (ns : List ℕ) (n : ℕ) → Contains (m ∷ ns) n → (m ≡ n) ⊎ Contains ns n
first_or_later m ns n (zero, within, e) = inl e
first_or_later m ns n (suc k, within, e) = inr (k, omega arith, e)

later : {X : Type 0} (x : X) (xs : List X) (y : X) → Contains xs y → Contains (x ∷ xs) y
later x xs y at = (suc at.0, omega (arith, at.1), at.2)

of_option : (o : Option ℕ) (ns : List ℕ) (n : ℕ) → Contains (cons_option o ns) n → (o ≡ Some n) ⊎ Contains ns n
of_option None ns n at = inr at
of_option (Some m) ns n at = elim (first_or_later m ns n at) as (λ _. (Some m ≡ Some n) ⊎ Contains ns n) [
  | inl same ↦ inl (ap Some same)
  | inr there ↦ inr there
]

in_option : (o : Option ℕ) (ns : List ℕ) (n : ℕ) → Contains ns n → Contains (cons_option o ns) n
in_option None ns n at = at
in_option (Some m) ns n at = later m ns n at

abbrev IsNumberOf : List (List ℕ) → ℕ → Type 0
IsNumberOf items n = (item : List ℕ) × Contains items item × SpellsTag item n

spelled : (items : List (List ℕ)) (n : ℕ) → Contains (filter_map item_number items) n → IsNumberOf items n
spelled [] n at = absurd (omega (arith, at.1))
spelled (item ∷ items) n at =
    elim (of_option (item_number item) (filter_map item_number items) n at) as (λ _. IsNumberOf (item ∷ items) n) [
      | inl here ↦ (item, (0, omega arith, refl), (item_law item n).0 here)
      | inr there ↦ let found = spelled items n there in (found.0, later item items found.0 found.1, found.2)
    ]

listed_at : (items : List (List ℕ)) (item : List ℕ) (n k : ℕ) → k < length items → get_or items k item ≡ item → item_number item ≡ Some n
    → Contains (filter_map item_number items) n
listed_at [] item n k within same is = absurd (omega arith)
listed_at (x ∷ items) item n zero within same is =
    let number : item_number x ≡ Some n = ap item_number same ∙ is in
    subst (λ o. Contains (cons_option o (filter_map item_number items)) n) (sym number) (0, omega arith, refl)
listed_at (x ∷ items) item n (suc k) within same is =
    in_option (item_number x) (filter_map item_number items) n (listed_at items item n k (omega arith) same is)

numbers_of_items : (items : List (List ℕ)) (n : ℕ) → (Contains (filter_map item_number items) n ↔ IsNumberOf items n)
numbers_of_items items n = (
  spelled items n,
  λ found. listed_at items found.0 n found.1.0 found.1.1 found.1.2 ((item_law found.0 n).1 found.2),
)

-- ---- a star alone

abbrev IsStar : List ℕ → Type 0
IsStar text = trimmed text ≡ codes "*"

blank_no_comma : (b : ℕ) → is_blank b ≡ true → is_comma b ≡ false
blank_no_comma b e = grind (arith, nat_tests)

blanks_no_comma : (t : List ℕ) → list_all is_blank t ≡ true → AllByRecursion (λ b. is_comma b ≡ false) t
blanks_no_comma [] e = tt
blanks_no_comma (b ∷ t) e =
    let parts = both_are (is_blank b) (list_all is_blank t) e in
    (blank_no_comma b parts.0, blanks_no_comma t parts.1)

star_is_one_item : (text : List ℕ) → IsStar text → slice_split is_comma text ≡ text ∷ []
star_is_one_item text star =
    let is = trimmed_is text in
    let P : ℕ → Type 0 = λ b. is_comma b ≡ false in
    let front = All-from_recursion P is.front (blanks_no_comma is.front is.blank_front) in
    let back = All-from_recursion P is.back (blanks_no_comma is.back is.blank_back) in
    let inner : All P (trimmed text) = subst (All P) (sym star) (All-from_recursion P (codes "*") (refl, tt)) in
    slice_split_none is_comma text (subst (All P) (sym is.parts) (All-append P is.front (trimmed text ++ is.back) front (All-append P (trimmed text) is.back inner back)))

no_number : tag_number (without_quotes (without_weak (codes "*"))) ≡ None
unfolding tag_number without_quotes without_weak
no_number = refl

star_has_no_number : (text : List ℕ) → IsStar text → filter_map item_number (slice_split is_comma text) ≡ []
star_has_no_number text star =
    ap (filter_map item_number) (star_is_one_item text star)
    ∙ ap (λ t. cons_option (tag_number (without_quotes (without_weak t))) []) star
    ∙ ap (λ o. cons_option o []) no_number

-- ---- the list

abbrev list_or_any : Bool → List ℕ → Tags
list_or_any b ns = cond b (record { any = true; numbers = [] }) (record { any = false; numbers = ns })

numbers_are : (text : List ℕ) → (etags_of text).numbers ≡ filter_map item_number (slice_split is_comma text)
unfolding etags_of
numbers_are text =
    let listed = filter_map item_number (slice_split is_comma text) in
    elim (bytes_eq (trimmed text) (codes "*")) as (λ b. bytes_eq (trimmed text) (codes "*") ≡ b → (list_or_any b listed).numbers ≡ listed) [
      | true ↦ λ is. sym (star_has_no_number text ((bytes_eq-Decides (trimmed text) (codes "*")).0 is))
      | false ↦ λ _. refl
    ] refl

pub any_is_star : (text : List ℕ) → (((etags_of text).any ≡ true) ↔ IsStar text)
unfolding etags_of
any_is_star text =
    let listed = filter_map item_number (slice_split is_comma text) in
    let decides = bytes_eq-Decides (trimmed text) (codes "*") in
    elim (bytes_eq (trimmed text) (codes "*")) as (λ b. bytes_eq (trimmed text) (codes "*") ≡ b → (((list_or_any b listed).any ≡ true) ↔ IsStar text)) [
      | true ↦ λ is. (λ _. decides.0 is, λ _. refl)
      | false ↦ λ is. (λ e. absurd (false≢true e), λ star. absurd (false≢true (sym is ∙ decides.1 star)))
    ] refl

pub listed_is_spelled : (text : List ℕ) (items : List (List ℕ)) (n : ℕ) → AreItems text items
    → (Contains (etags_of text).numbers n ↔ IsNumberOf items n)
listed_is_spelled text items n are =
    let numbers : (etags_of text).numbers ≡ filter_map item_number items =
    numbers_are text ∙ ap (filter_map item_number) (are_parts text items are) in
    subst (λ ns. Contains ns n ↔ IsNumberOf items n) (sym numbers) (numbers_of_items items n)
