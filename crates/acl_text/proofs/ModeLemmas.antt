-- The texts of modes are read as what they spell, and nothing else is.
use Rattle.std.proofs.Common.{◌≡◌, ℕ, ◌==◌, ◌<◌, Bool, true, false, cond, ◌&&◌, List, [], ◌∷◌, ◌++◌, length, slice_index, Option, None, Some, option_and_then, Ok, Err, IfErr, inl, inr, refl, sym, ap, subst, ◌∙◌, arith}
use Rattle.std.proofs.lemmas.Bool.Decides.{Decides-eqb}
use Rattle.std.proofs.lemmas.Option.{option_and_then_some}
use Rattle.acl_text.specs.declared.perm.ModeBits.{ModeBits}
use Rattle.acl_text.specs.declared.acl.AclFault.{AclFault}
use Rattle.acl_text.specs.declared.acl.AclFault.TheVariants.{BadOctal, BadSymbolic}
use Rattle.acl_text.specs.PermTexts.{letter, last_letter, perm_text, symbolic_text, octal_text, AreBits, SpellsPerm, SpellsMode, SpellsUmask, perm_of, perm_at, perm_in, sticky_letter, octal_digit, sticky_digit, octal_mode, symbolic_mode, has_symbolic_length, or_fault, mode_fault, permissions_of, umask_of}
use Rattle.acl_text.proofs.PermLemmas.{below_8, perm_of-text, perm_is, octal_digit-text, octal_digit_is}

-- ---- three letters

pub perm_in-text : (t : List ℕ) (p : ℕ) → SpellsPerm t p → perm_in t ≡ Some p
perm_in-text t p h = ap perm_in h.1 ∙ perm_of-text p h.0

three : (t : List ℕ) → length t ≡ 3 → t ≡ slice_index t 0 ∷ slice_index t 1 ∷ slice_index t 2 ∷ []
three [] e = absurd (omega arith)
three (a ∷ []) e = absurd (omega arith)
three (a ∷ b ∷ []) e = absurd (omega arith)
three (a ∷ b ∷ c ∷ []) e = refl
three (a ∷ b ∷ c ∷ x ∷ xs) e = absurd (omega arith)

pub perm_in_is : (t : List ℕ) (p : ℕ) → perm_in t ≡ Some p → SpellsPerm t p
perm_in_is t p =
    elim (length t == 3) as (λ b. length t == 3 ≡ b → cond b (perm_at t 0) None ≡ Some p → SpellsPerm t p) [
      | true ↦ λ is e. let h = perm_is (slice_index t 0) (slice_index t 1) (slice_index t 2) p e in (h.0, three t ((Decides-eqb (length t) 3).0 is) ∙ h.1)
      | false ↦ λ _ e. (cc)
    ] refl

-- ---- what is spelled is read

abbrev mode : Bool → ℕ → ℕ → ℕ → ModeBits
mode s a b c = record { sticky = s; owner = a; group = b; other = c }

abbrev all_of : Option Bool → Option ℕ → Option ℕ → Option ℕ → Option ModeBits
all_of s a b c = option_and_then (λ s. option_and_then (λ a. option_and_then (λ b. option_and_then (λ c. Some (mode s a b c)) c) b) a) s

sticky_digit-text : (s : Bool) → sticky_digit (cond s 49 48) ≡ Some s
sticky_digit-text true = refl
sticky_digit-text false = refl

octal_mode-text : (bits : ModeBits) → AreBits bits → octal_mode (octal_text bits) ≡ Some bits
unfolding octal_mode
octal_mode-text bits h =
    let s = sticky_digit-text bits.sticky in
    let a = octal_digit-text bits.owner h.owner in
    let b = octal_digit-text bits.group h.group in
    let c = octal_digit-text bits.other h.other in
    λ i. all_of (s i) (a i) (b i) (c i)

-- the last letter with the sticky bit, and without
sticky_letter-last : (s : Bool) (p : ℕ) → p < 8 → sticky_letter (last_letter s p) ≡ (s, letter 120 1 p)
sticky_letter-last true = below_8 (λ p. sticky_letter (last_letter true p) ≡ (true, letter 120 1 p)) refl refl refl refl refl refl refl refl
sticky_letter-last false = below_8 (λ p. sticky_letter (last_letter false p) ≡ (false, letter 120 1 p)) refl refl refl refl refl refl refl refl

symbolic_mode-text : (bits : ModeBits) (more : List ℕ) → AreBits bits → symbolic_mode (symbolic_text bits ++ more) ≡ Some bits
unfolding symbolic_mode
symbolic_mode-text bits more h =
    let owner = perm_of-text bits.owner h.owner in
    let group = perm_of-text bits.group h.group in
    let other = perm_of-text bits.other h.other in
    let last = sticky_letter-last bits.sticky bits.other h.other in
    (λ i. all_of (Some (last i).0) (owner i) (group i) (perm_of (letter 114 4 bits.other) (letter 119 2 bits.other) (last i).1))
    ∙ ap (all_of (Some bits.sticky) (Some bits.owner) (Some bits.group)) other

pub permissions_of-text : (t : List ℕ) (bits : ModeBits) → SpellsMode t bits → permissions_of t ≡ Ok bits
permissions_of-text t bits h =
    elim h.1 as (λ _. permissions_of t ≡ Ok bits) [
      | inl is ↦ ap permissions_of is ∙ ap (λ o. or_fault o BadOctal) (octal_mode-text bits h.0)
      | inr spelled ↦ elim spelled as (λ _. permissions_of t ≡ Ok bits) [
        | inl is ↦ ap permissions_of (is ∙ refl) ∙ ap (λ o. or_fault o BadSymbolic) (symbolic_mode-text bits [] h.0)
        | inr is ↦ ap permissions_of is ∙ ap (λ o. or_fault o BadSymbolic) (symbolic_mode-text bits (43 ∷ []) h.0)
      ]
    ]

pub umask_of-text : (t : List ℕ) (bits : ModeBits) → SpellsUmask t bits → umask_of t ≡ Ok bits
umask_of-text t bits h =
    ap umask_of h.2 ∙ ap (λ s. cond (cond s 49 48 == 48) (or_fault (octal_mode (octal_text bits)) BadOctal) (Err BadOctal)) h.1 ∙ ap (λ o. or_fault o BadOctal) (octal_mode-text bits h.0)

-- ---- what is read is spelled so

four : (t : List ℕ) → length t ≡ 4 → t ≡ slice_index t 0 ∷ slice_index t 1 ∷ slice_index t 2 ∷ slice_index t 3 ∷ []
four [] e = absurd (omega arith)
four (a ∷ []) e = absurd (omega arith)
four (a ∷ b ∷ []) e = absurd (omega arith)
four (a ∷ b ∷ c ∷ []) e = absurd (omega arith)
four (a ∷ b ∷ c ∷ d ∷ []) e = refl
four (a ∷ b ∷ c ∷ d ∷ x ∷ xs) e = absurd (omega arith)

sticky_digit_is : (b : ℕ) (s : Bool) → sticky_digit b ≡ Some s → b ≡ cond s 49 48
sticky_digit_is b s =
    elim (b == 48) as (λ t. b == 48 ≡ t → cond t (Some false) (cond (b == 49) (Some true) None) ≡ Some s → b ≡ cond s 49 48) [
      | true ↦ λ is e. let f : false ≡ s = (cc) in (Decides-eqb b 48).0 is ∙ ap (λ s. cond s 49 48) f
      | false ↦ λ _. elim (b == 49) as (λ t. b == 49 ≡ t → cond t (Some true) None ≡ Some s → b ≡ cond s 49 48) [
        | true ↦ λ is e. let f : true ≡ s = (cc) in (Decides-eqb b 49).0 is ∙ ap (λ s. cond s 49 48) f
        | false ↦ λ _ e. (cc)
      ] refl
    ] refl

octal_is : (t : List ℕ) (bits : ModeBits) → length t ≡ 4 → octal_mode t ≡ Some bits → AreBits bits × (t ≡ octal_text bits)
unfolding octal_mode
octal_is t bits long e =
    option_and_then_some _ (sticky_digit (slice_index t 0)) bits e (λ s p e.
    option_and_then_some _ (octal_digit (slice_index t 1)) bits e (λ a q e.
    option_and_then_some _ (octal_digit (slice_index t 2)) bits e (λ b r e.
    option_and_then_some _ (octal_digit (slice_index t 3)) bits e (λ c u e.
    let same : record { sticky = s; owner = a; group = b; other = c } ≡ bits = (cc) in
    let first = sticky_digit_is (slice_index t 0) s p in
    let owner = octal_digit_is (slice_index t 1) a q in
    let group = octal_digit_is (slice_index t 2) b r in
    let other = octal_digit_is (slice_index t 3) c u in
    subst (λ bits. AreBits bits × (t ≡ octal_text bits)) same (
      record { owner = owner.0; group = group.0; other = other.0 },
      four t long ∙ (λ i. first i ∷ owner.1 i ∷ group.1 i ∷ other.1 i ∷ []),
    )))))

nine : (t : List ℕ) → length t ≡ 9
    → t ≡ slice_index t 0 ∷ slice_index t 1 ∷ slice_index t 2 ∷ slice_index t 3 ∷ slice_index t 4 ∷ slice_index t 5 ∷ slice_index t 6 ∷ slice_index t 7 ∷ slice_index t 8 ∷ []
nine [] e = absurd (omega arith)
nine (a ∷ []) e = absurd (omega arith)
nine (a ∷ b ∷ []) e = absurd (omega arith)
nine (a ∷ b ∷ c ∷ []) e = absurd (omega arith)
nine (a ∷ b ∷ c ∷ d ∷ []) e = absurd (omega arith)
nine (a ∷ b ∷ c ∷ d ∷ f ∷ []) e = absurd (omega arith)
nine (a ∷ b ∷ c ∷ d ∷ f ∷ g ∷ []) e = absurd (omega arith)
nine (a ∷ b ∷ c ∷ d ∷ f ∷ g ∷ h ∷ []) e = absurd (omega arith)
nine (a ∷ b ∷ c ∷ d ∷ f ∷ g ∷ h ∷ i ∷ []) e = absurd (omega arith)
nine (a ∷ b ∷ c ∷ d ∷ f ∷ g ∷ h ∷ i ∷ j ∷ []) e = refl
nine (a ∷ b ∷ c ∷ d ∷ f ∷ g ∷ h ∷ i ∷ j ∷ x ∷ xs) e = absurd (omega arith)

ten : (t : List ℕ) → length t ≡ 10
    → t ≡ slice_index t 0 ∷ slice_index t 1 ∷ slice_index t 2 ∷ slice_index t 3 ∷ slice_index t 4 ∷ slice_index t 5 ∷ slice_index t 6 ∷ slice_index t 7 ∷ slice_index t 8 ∷ slice_index t 9 ∷ []
ten [] e = absurd (omega arith)
ten (x ∷ xs) e = ap (λ ys. x ∷ ys) (nine xs (omega arith))

-- three letters, one by one
one_letter : (a b c p : ℕ) → a ∷ b ∷ c ∷ [] ≡ perm_text p → (a ≡ letter 114 4 p) × (b ≡ letter 119 2 p) × (c ≡ letter 120 1 p)
one_letter a b c p e = (ap (λ xs. slice_index xs 0) e, ap (λ xs. slice_index xs 1) e, ap (λ xs. slice_index xs 2) e)

set_sticky : (p : ℕ) → p < 8 → 120 ≡ letter 120 1 p → 116 ≡ last_letter true p
set_sticky = below_8 (λ p. 120 ≡ letter 120 1 p → 116 ≡ last_letter true p)
    (λ e. absurd (omega arith)) (λ e. refl) (λ e. absurd (omega arith)) (λ e. refl) (λ e. absurd (omega arith)) (λ e. refl) (λ e. absurd (omega arith)) (λ e. refl)

bare_sticky : (p : ℕ) → p < 8 → 45 ≡ letter 120 1 p → 84 ≡ last_letter true p
bare_sticky = below_8 (λ p. 45 ≡ letter 120 1 p → 84 ≡ last_letter true p)
    (λ e. refl) (λ e. absurd (omega arith)) (λ e. refl) (λ e. absurd (omega arith)) (λ e. refl) (λ e. absurd (omega arith)) (λ e. refl) (λ e. absurd (omega arith))

last_is : (byte p : ℕ) → p < 8 → (sticky_letter byte).1 ≡ letter 120 1 p → byte ≡ last_letter (sticky_letter byte).0 p
last_is byte p h =
    elim (byte == 116) as (λ t. byte == 116 ≡ t → (cond {A = Bool × ℕ} t (true, 120) (cond (byte == 84) (true, 45) (false, byte))).1 ≡ letter 120 1 p
    → byte ≡ last_letter (cond {A = Bool × ℕ} t (true, 120) (cond (byte == 84) (true, 45) (false, byte))).0 p) [
      | true ↦ λ is e. (Decides-eqb byte 116).0 is ∙ set_sticky p h e
      | false ↦ λ _. elim (byte == 84) as (λ t. byte == 84 ≡ t → (cond {A = Bool × ℕ} t (true, 45) (false, byte)).1 ≡ letter 120 1 p
          → byte ≡ last_letter (cond {A = Bool × ℕ} t (true, 45) (false, byte)).0 p) [
            | true ↦ λ is e. (Decides-eqb byte 84).0 is ∙ bare_sticky p h e
            | false ↦ λ _ e. e
          ] refl
    ] refl

-- the nine letters of a text that is read
nine_are : (t : List ℕ) (bits : ModeBits) → symbolic_mode t ≡ Some bits
    → AreBits bits
    × (slice_index t 0 ∷ slice_index t 1 ∷ slice_index t 2 ∷ slice_index t 3 ∷ slice_index t 4 ∷ slice_index t 5 ∷ slice_index t 6 ∷ slice_index t 7 ∷ slice_index t 8 ∷ []
    ≡ symbolic_text bits)
unfolding symbolic_mode
nine_are t bits e =
    option_and_then_some _ (perm_at t 0) bits e (λ a p e.
    option_and_then_some _ (perm_at t 3) bits e (λ b q e.
    option_and_then_some _ (perm_of (slice_index t 6) (slice_index t 7) (sticky_letter (slice_index t 8)).1) bits e (λ c r e.
    let same : mode (sticky_letter (slice_index t 8)).0 a b c ≡ bits = (cc) in
    let owner = perm_is (slice_index t 0) (slice_index t 1) (slice_index t 2) a p in
    let group = perm_is (slice_index t 3) (slice_index t 4) (slice_index t 5) b q in
    let other = perm_is (slice_index t 6) (slice_index t 7) (sticky_letter (slice_index t 8)).1 c r in
    let u = one_letter _ _ _ a owner.1 in
    let g = one_letter _ _ _ b group.1 in
    let o = one_letter _ _ _ c other.1 in
    let last = last_is (slice_index t 8) c other.0 o.2 in
    subst (λ bits. AreBits bits
    × (slice_index t 0 ∷ slice_index t 1 ∷ slice_index t 2 ∷ slice_index t 3 ∷ slice_index t 4 ∷ slice_index t 5 ∷ slice_index t 6 ∷ slice_index t 7 ∷ slice_index t 8 ∷ []
    ≡ symbolic_text bits)) same (
      record { owner = owner.0; group = group.0; other = other.0 },
      (λ i. u.0 i ∷ u.1 i ∷ u.2 i ∷ g.0 i ∷ g.1 i ∷ g.2 i ∷ o.0 i ∷ o.1 i ∷ last i ∷ []),
    ))))

or_fault_is : (o : Option ModeBits) (f : AclFault) (bits : ModeBits) → or_fault o f ≡ Ok bits → o ≡ Some bits
or_fault_is (Some b) f bits e = let same : b ≡ bits = (cc) in ap Some same
or_fault_is None f bits e = (cc)

pub permissions_is : (t : List ℕ) (bits : ModeBits) → permissions_of t ≡ Ok bits → SpellsMode t bits
permissions_is t bits =
    elim (length t == 4) as (λ b. length t == 4 ≡ b → cond b (or_fault (octal_mode t) BadOctal) (cond (has_symbolic_length t) (or_fault (symbolic_mode t) BadSymbolic) (Err BadSymbolic)) ≡ Ok bits → SpellsMode t bits) [
      | true ↦ λ long e. let p = octal_is t bits ((Decides-eqb (length t) 4).0 long) (or_fault_is _ _ bits e) in (p.0, inl p.1)
      | false ↦ λ _. elim (length t == 9) as (λ b. length t == 9 ≡ b → cond (cond b true (length t == 10 && slice_index t 9 == 43)) (or_fault (symbolic_mode t) BadSymbolic) (Err BadSymbolic) ≡ Ok bits → SpellsMode t bits) [
        | true ↦ λ long e. let p = nine_are t bits (or_fault_is _ _ bits e) in (p.0, inr (inl (nine t ((Decides-eqb (length t) 9).0 long) ∙ p.1)))
        | false ↦ λ _. elim (length t == 10) as (λ b. length t == 10 ≡ b → cond (b && slice_index t 9 == 43) (or_fault (symbolic_mode t) BadSymbolic) (Err BadSymbolic) ≡ Ok bits → SpellsMode t bits) [
          | true ↦ λ long. elim (slice_index t 9 == 43) as (λ b. slice_index t 9 == 43 ≡ b → cond b (or_fault (symbolic_mode t) BadSymbolic) (Err BadSymbolic) ≡ Ok bits → SpellsMode t bits) [
            | true ↦ λ plus e.
                let p = nine_are t bits (or_fault_is _ _ bits e) in
                (p.0, inr (inr (ten t ((Decides-eqb (length t) 10).0 long) ∙ (λ i. p.1 i ++ (Decides-eqb (slice_index t 9) 43).0 plus i ∷ []))))
            | false ↦ λ _ e. (cc)
          ] refl
          | false ↦ λ _ e. (cc)
        ] refl
      ] refl
    ] refl

pub umask_is : (t : List ℕ) (bits : ModeBits) → umask_of t ≡ Ok bits → SpellsUmask t bits
umask_is t bits =
    elim (length t == 4) as (λ b. length t == 4 ≡ b → cond b (cond (slice_index t 0 == 48) (or_fault (octal_mode t) BadOctal) (Err BadOctal)) (Err BadSymbolic) ≡ Ok bits → SpellsUmask t bits) [
      | true ↦ λ long. elim (slice_index t 0 == 48) as (λ b. slice_index t 0 == 48 ≡ b → cond b (or_fault (octal_mode t) BadOctal) (Err BadOctal) ≡ Ok bits → SpellsUmask t bits) [
        | true ↦ λ zero e.
            let p = octal_is t bits ((Decides-eqb (length t) 4).0 long) (or_fault_is _ _ bits e) in
            (p.0, unsticky bits.sticky (ap (λ xs. slice_index xs 0) (sym p.1) ∙ (Decides-eqb (slice_index t 0) 48).0 zero), p.1)
        | false ↦ λ _ e. (cc)
      ] refl
      | false ↦ λ _ e. (cc)
    ] refl
  where
    unsticky : (s : Bool) → ◌≡◌ {A = ℕ} (cond s 49 48) 48 → s ≡ false
    unsticky true e = absurd (omega arith)
    unsticky false e = refl

-- ---- what is refused

fault_is : (o : Option ModeBits) (f : AclFault) → IfErr (or_fault o f) (λ fault. fault ≡ f)
fault_is (Some bits) f = tt
fault_is None f = refl

pub permissions_fault : (t : List ℕ) → IfErr (permissions_of t) (λ fault. fault ≡ mode_fault t)
permissions_fault t =
    elim (length t == 4) as (λ b. IfErr (cond b (or_fault (octal_mode t) BadOctal) (cond (has_symbolic_length t) (or_fault (symbolic_mode t) BadSymbolic) (Err BadSymbolic))) (λ fault. fault ≡ cond b BadOctal BadSymbolic)) [
      | true ↦ fault_is (octal_mode t) BadOctal
      | false ↦ elim (has_symbolic_length t) as (λ b. IfErr (cond b (or_fault (symbolic_mode t) BadSymbolic) (Err BadSymbolic)) (λ fault. fault ≡ BadSymbolic)) [
        | true ↦ fault_is (symbolic_mode t) BadSymbolic
        | false ↦ refl
      ]
    ]

pub umask_fault : (t : List ℕ) → IfErr (umask_of t) (λ fault. fault ≡ mode_fault t)
umask_fault t =
    elim (length t == 4) as (λ b. IfErr (cond b (cond (slice_index t 0 == 48) (or_fault (octal_mode t) BadOctal) (Err BadOctal)) (Err BadSymbolic)) (λ fault. fault ≡ cond b BadOctal BadSymbolic)) [
      | true ↦ elim (slice_index t 0 == 48) as (λ b. IfErr (cond b (or_fault (octal_mode t) BadOctal) (Err BadOctal)) (λ fault. fault ≡ BadOctal)) [
        | true ↦ fault_is (octal_mode t) BadOctal
        | false ↦ refl
      ]
      | false ↦ refl
    ]

-- ---- what is printed

pub printed_is_read : (bits : ModeBits) (n : Bool) → AreBits bits → permissions_of (symbolic_text bits ++ cond n (43 ∷ []) []) ≡ Ok bits
printed_is_read bits true h = permissions_of-text _ bits (h, inr (inr refl))
printed_is_read bits false h = permissions_of-text _ bits (h, inr (inl refl))
