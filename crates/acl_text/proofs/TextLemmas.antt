-- A text that commas part is read as the list that it spells, and what is read is spelled so.
use Rattle.std.proofs.Common.{◌≡◌, ℕ, suc, ◌+◌, ◌==◌, ◌<◌, ◌≤◌, Bool, true, false, cond, not, ◌&&◌, ◌||◌, nat_lt, bytes_eq, List, [], ◌∷◌, ◌++◌, length, Option, None, Some, is_none, Result, Ok, Err, IfOk, inl, inr, refl, sym, ap, subst, ◌∙◌, arith, append_assoc}
use Rattle.std.specs.List.{AllByRecursion, list_any, list_all, slice_split, onto_first, join_with_byte, filter_map, cons_option, position_from}
use Rattle.std.proofs.lemmas.Bool.{false≢true, ltb-true}
use Rattle.std.proofs.lemmas.Bool.Decides.{nat_tests, Decides-eqb}
use Rattle.std.proofs.lemmas.List.{append-nil, nil_from_length}
use Rattle.std.proofs.lemmas.List.Folds.{list_all-append}
use Rattle.std.proofs.lemmas.List.Splits.{join_with_byte-slice_split}
use Rattle.std.proofs.lemmas.Slice.Eq.{bytes_eq-Decides}
use Rattle.acl_text.specs.declared.scope.Scope.{Scope}
use Rattle.acl_text.specs.declared.scope.Scope.TheVariants.{Access, Default}
use Rattle.acl_text.specs.declared.who.Who.{Who}
use Rattle.acl_text.specs.declared.who.Who.TheVariants.{Owner, User, OwningGroup, Group, Mask, Other}
use Rattle.acl_text.specs.declared.acl.AclFault.{AclFault}
use Rattle.acl_text.specs.declared.acl.AclFault.TheVariants.{TooMany, BadEntry, Twice, Missing, BadOctal, BadSymbolic}
use Rattle.acl_text.specs.Ids.{superuser, is_id_byte, is_plain_id, is_id}
use Rattle.acl_text.specs.Whos.{id_in, is_whose}
use Rattle.acl_text.specs.Held.{AreWhose, AreWritable}
use Rattle.acl_text.specs.PermTexts.{perm_text}
use Rattle.acl_text.specs.AclTexts.{kind_text, who_text, scope_text, SpellsEntry, SpellsItem, EachSpells, NoneRepeats, IsListText, IsFirstUnread, IsFirstRepeat, IsFaultOf, IsListFault, items_of, values_of, or_bad, or_twice, unrepeated, repeat_from, list_of, entry_of, item_of, same_entry, same_item, IsAclText, IsRemoveText, acl_list_of, remove_list_of}
use Rattle.acl_text.proofs.EntryTextLemmas.{entry_of-text, entry_is, item_of-text, item_of-kind, item_is}
use Rattle.acl_text.specs.declared.acl.AclStop.{AclStop}
use Rattle.acl_text.specs.declared.acl.AclStop.TheVariants as stop
use Rattle.acl_text.specs.Stops.{Answers}
use Rattle.acl_text.proofs.PermLemmas.{below_8}

abbrev pub comma : ℕ → Bool
comma b = b == 44

-- a text without a comma
abbrev pub IsClean : List ℕ → Type 0
IsClean t = list_all (λ b. not (comma b)) t ≡ true

both : (a b : Bool) → a ≡ true → b ≡ true → (a && b) ≡ true
both true b p q = q
both false b p q = absurd (false≢true p)

both_are : (a b : Bool) → (a && b) ≡ true → (a ≡ true) × (b ≡ true)
both_are true b p = (refl, p)
both_are false b p = absurd (false≢true p)

isn't : (b : Bool) → not b ≡ true → b ≡ false
isn't true p = absurd (false≢true p)
isn't false p = refl

clean-append : (s t : List ℕ) → IsClean s → IsClean t → IsClean (s ++ t)
clean-append s t p q = list_all-append (λ b. not (comma b)) s t ∙ both _ _ p q

clean_byte : (b : ℕ) → is_id_byte b ≡ true → not (comma b) ≡ true
clean_byte b e =
    elim (comma b) as (λ c. comma b ≡ c → not c ≡ true) [
      | true ↦ λ is. absurd (false≢true (sym (ap is_id_byte ((Decides-eqb b 44).0 is)) ∙ e))
      | false ↦ λ _. refl
    ] refl

clean_bytes : (t : List ℕ) → list_all is_id_byte t ≡ true → IsClean t
clean_bytes [] e = refl
clean_bytes (x ∷ xs) e = let p = both_are (is_id_byte x) _ e in both _ _ (clean_byte x p.0) (clean_bytes xs p.1)

clean_id : (id : List ℕ) → is_id id ≡ true → IsClean id
clean_id id =
    elim (bytes_eq id superuser) as (λ b. bytes_eq id superuser ≡ b → (b || is_plain_id id) ≡ true → IsClean id) [
      | true ↦ λ is _. subst IsClean (sym ((bytes_eq-Decides id superuser).0 is)) refl
      | false ↦ λ _ e. clean_bytes id (both_are _ _ e).1
    ] refl

clean_who : (w : Who) → is_whose w ≡ true → IsClean (who_text w)
clean_who Owner e = refl
clean_who (User id) e = clean_id id e
clean_who OwningGroup e = refl
clean_who (Group id) e = clean_id id e
clean_who Mask e = refl
clean_who Other e = refl

clean_kind : (w : Who) → IsClean (kind_text w)
clean_kind Owner = refl
clean_kind (User id) = refl
clean_kind OwningGroup = refl
clean_kind (Group id) = refl
clean_kind Mask = refl
clean_kind Other = refl

clean_scope : (d : Scope) → IsClean (scope_text d)
clean_scope Default = refl
clean_scope Access = refl

pub clean_entry : (t : List ℕ) (e : Scope × Who × ℕ) → SpellsEntry t e → IsClean t
clean_entry t e h =
    subst IsClean (sym h.2) (clean-append (scope_text e.0) _ (clean_scope e.0)
    (clean-append (who_text e.1) (58 ∷ perm_text e.2) (clean_who e.1 h.0) (below_8 (λ p. IsClean (58 ∷ perm_text p)) refl refl refl refl refl refl refl refl e.2 h.1)))

pub clean_item : (t : List ℕ) (e : Scope × Who) → SpellsItem t e → IsClean t
clean_item t e h =
    elim h.1 as (λ _. IsClean t) [
      | inl is ↦ subst IsClean (sym is) (clean-append (scope_text e.0) (who_text e.1) (clean_scope e.0) (clean_who e.1 h.0))
      | inr is ↦ subst IsClean (sym is.1) (clean-append (scope_text e.0) (kind_text e.1) (clean_scope e.0) (clean_kind e.1))
    ]

-- ---- texts that aren't empty

abbrev pub HasBytes : List ℕ → Type 0
HasBytes t = (length t == 0) ≡ false

begun : (t : List ℕ) (a : ℕ) (r : List ℕ) → t ≡ a ∷ r → HasBytes t
begun t a r e = ap (λ t. length t == 0) e ∙ not_zero (length r)
  where
    not_zero : (n : ℕ) → (suc n == 0) ≡ false
    not_zero n = grind (arith, nat_tests)

kind_bytes : (d : Scope) (w : Who) (more : List ℕ) → HasBytes (scope_text d ++ (kind_text w ++ more))
kind_bytes Default w more = begun (scope_text Default ++ (kind_text w ++ more)) _ _ refl
kind_bytes Access Owner more = begun (kind_text Owner ++ more) _ _ refl
kind_bytes Access (User id) more = begun (kind_text (User id) ++ more) _ _ refl
kind_bytes Access OwningGroup more = begun (kind_text OwningGroup ++ more) _ _ refl
kind_bytes Access (Group id) more = begun (kind_text (Group id) ++ more) _ _ refl
kind_bytes Access Mask more = begun (kind_text Mask ++ more) _ _ refl
kind_bytes Access Other more = begun (kind_text Other ++ more) _ _ refl

pub bytes_entry : (t : List ℕ) (e : Scope × Who × ℕ) → SpellsEntry t e → HasBytes t
bytes_entry t e h =
    subst HasBytes (sym (h.2 ∙ ap (λ x. scope_text e.0 ++ x) (append_assoc (kind_text e.1) (58 ∷ id_in e.1) (58 ∷ perm_text e.2)))) (kind_bytes e.0 e.1 ((58 ∷ id_in e.1) ++ 58 ∷ perm_text e.2))

pub bytes_item : (t : List ℕ) (e : Scope × Who) → SpellsItem t e → HasBytes t
bytes_item t e h =
    elim h.1 as (λ _. HasBytes t) [
      | inl is ↦ subst HasBytes (sym is) (kind_bytes e.0 e.1 (58 ∷ id_in e.1))
      | inr is ↦ subst HasBytes (sym (is.1 ∙ ap (λ x. scope_text e.0 ++ x) (sym (append-nil (kind_text e.1))))) (kind_bytes e.0 e.1 [])
    ]

-- ---- splitting

split_clean : (t rest : List ℕ) → IsClean t → slice_split comma (t ++ 44 ∷ rest) ≡ t ∷ slice_split comma rest
split_clean [] rest h = refl
split_clean (x ∷ xs) rest h =
    let p = both_are (not (comma x)) _ h in
    ap (λ b. cond b ([] ∷ slice_split comma (xs ++ 44 ∷ rest)) (onto_first x (slice_split comma (xs ++ 44 ∷ rest)))) (isn't (comma x) p.0)
    ∙ ap (onto_first x) (split_clean xs rest p.1)

split_last : (t : List ℕ) → IsClean t → slice_split comma t ≡ t ∷ []
split_last [] h = refl
split_last (x ∷ xs) h =
    let p = both_are (not (comma x)) _ h in
    ap (λ b. cond b ([] ∷ slice_split comma xs) (onto_first x (slice_split comma xs))) (isn't (comma x) p.0) ∙ ap (onto_first x) (split_last xs p.1)

few_enough : (n : ℕ) → n ≤ 64 → nat_lt 64 n ≡ false
few_enough n h = grind (arith, nat_tests)

few_from : (n : ℕ) → nat_lt 64 n ≡ false → n ≤ 64
few_from n h = grind (arith, nat_tests)

module _ {X : Type 0} (read : List ℕ → Option X) (Spells : List ℕ → X → Type 0)
    (sound : (t : List ℕ) (x : X) → read t ≡ Some x → Spells t x)
    (complete : (t : List ℕ) (x : X) → Spells t x → read t ≡ Some x)
    (clean : (t : List ℕ) (x : X) → Spells t x → IsClean t)
    (bytes : (t : List ℕ) (x : X) → Spells t x → HasBytes t) where
  split_joined : (t : List ℕ) (ts : List (List ℕ)) (x : X) (xs : List X) → EachSpells Spells (t ∷ ts) (x ∷ xs)
      → slice_split comma (join_with_byte 44 (t ∷ ts)) ≡ t ∷ ts
  split_joined t [] x xs h = split_last t (clean t x h.0)
  split_joined t (u ∷ us) x [] h = absurd h.1
  split_joined t (u ∷ us) x (y ∷ ys) h = split_clean t (join_with_byte 44 (u ∷ us)) (clean t x h.0) ∙ ap (λ us. t ∷ us) (split_joined u us y ys h.1)

  bytes_joined : (t : List ℕ) (ts : List (List ℕ)) → HasBytes t → HasBytes (join_with_byte 44 (t ∷ ts))
  bytes_joined t [] h = h
  bytes_joined [] (u ∷ us) h = absurd (false≢true (sym h))
  bytes_joined (a ∷ bs) (u ∷ us) h = begun (join_with_byte 44 ((a ∷ bs) ∷ u ∷ us)) _ _ refl

  none_bad : (ts : List (List ℕ)) (xs : List X) (i : ℕ) → EachSpells Spells ts xs → position_from (λ t. is_none (read t)) i ts ≡ None
  none_bad [] [] i h = refl
  none_bad [] (x ∷ xs) i h = absurd h
  none_bad (t ∷ ts) [] i h = absurd h
  none_bad (t ∷ ts) (x ∷ xs) i h =
      ap (λ o. cond (is_none o) (Some i) (position_from (λ t. is_none (read t)) (i + 1) ts)) (complete t x h.0) ∙ none_bad ts xs (i + 1) h.1

  all_values : (ts : List (List ℕ)) (xs : List X) → EachSpells Spells ts xs → filter_map read ts ≡ xs
  all_values [] [] h = refl
  all_values [] (x ∷ xs) h = absurd h
  all_values (t ∷ ts) [] h = absurd h
  all_values (t ∷ ts) (x ∷ xs) h =
      ap (λ o. cons_option o (filter_map read ts)) (complete t x h.0) ∙ ap (λ ys. x ∷ ys) (all_values ts xs h.1)

  same_length : (ts : List (List ℕ)) (xs : List X) → EachSpells Spells ts xs → length ts ≡ length xs
  same_length [] [] h = refl
  same_length [] (x ∷ xs) h = absurd h
  same_length (t ∷ ts) [] h = absurd h
  same_length (t ∷ ts) (x ∷ xs) h = ap suc (same_length ts xs h.1)

  values : (ts : List (List ℕ)) (xs : List X) → EachSpells Spells ts xs → values_of read ts ≡ Ok xs
  unfolding values_of
  values ts xs h = (λ i. or_bad (none_bad ts xs 0 h i) (all_values ts xs h i))

  each : (ts : List (List ℕ)) (i : ℕ) → position_from (λ t. is_none (read t)) i ts ≡ None → EachSpells Spells ts (filter_map read ts)
  each [] i = λ e. tt
  each (t ∷ ts) i =
      elim (read t) as (λ o. read t ≡ o → cond (is_none o) (Some i) (position_from (λ t. is_none (read t)) (i + 1) ts) ≡ None → EachSpells Spells (t ∷ ts) (cons_option o (filter_map read ts))) [
        | None ↦ λ _ e. (cc)
        | Some x ↦ λ is e. (sound t x is, each ts (i + 1) e)
      ] refl

  read_each : (ts : List (List ℕ)) (xs : List X) → values_of read ts ≡ Ok xs → EachSpells Spells ts xs
  unfolding values_of
  read_each ts xs =
      elim (position_from (λ t. is_none (read t)) 0 ts) as (λ o. position_from (λ t. is_none (read t)) 0 ts ≡ o → or_bad o (filter_map read ts) ≡ Ok xs → EachSpells Spells ts xs) [
        | None ↦ λ none e. let same : filter_map read ts ≡ xs = (cc) in subst (EachSpells Spells ts) same (each ts 0 none)
        | Some i ↦ λ _ e. (cc)
      ] refl

  module _ (same : X → X → Bool) where
    pub only_read : (text : List ℕ) (xs : List X) → IsListText Spells same text xs → list_of read same text ≡ Ok xs
    only_read text xs h = by h.spelled.0 xs h.spelled.1 h.spelled.2 h.few h.once
      where
        by : (items : List (List ℕ)) (xs : List X) → text ≡ join_with_byte 44 items → EachSpells Spells items xs → length xs ≤ 64 → NoneRepeats same xs → list_of read same text ≡ Ok xs
        by [] [] is h few once = ap (list_of read same) is
        by [] (x ∷ xs) is h few once = absurd h
        by (t ∷ ts) [] is h few once = absurd h
        by (t ∷ ts) (x ∷ xs) is h few once =
            let some : HasBytes text = subst HasBytes (sym is) (bytes_joined t ts (bytes t x h.0)) in
            let split : items_of text ≡ t ∷ ts = ap (slice_split comma) is ∙ split_joined t ts x xs h in
            let long = same_length (t ∷ ts) (x ∷ xs) h in
            let within : nat_lt 64 (length (t ∷ ts)) ≡ false = few_enough (length (t ∷ ts)) (omega (arith, long)) in
            (λ i. cond (some i) (Ok []) (cond (nat_lt 64 (length (split i))) (Err TooMany) (unrepeated same (values_of read (split i)))))
            ∙ (λ i. cond (within i) (Err TooMany) (unrepeated same (values (t ∷ ts) (x ∷ xs) h i)))
            ∙ ap (λ o. or_twice o (x ∷ xs)) once

    unrepeated_is : (r : Result (List X) AclFault) (xs : List X) → unrepeated same r ≡ Ok xs → (r ≡ Ok xs) × NoneRepeats same xs
    unrepeated_is (Err f) xs = λ e. (cc)
    unrepeated_is (Ok ys) xs =
        elim (repeat_from same [] ys) as (λ o. repeat_from same [] ys ≡ o → or_twice o ys ≡ Ok xs → ◌≡◌ {A = Result (List X) AclFault} (Ok ys) (Ok xs) × NoneRepeats same xs) [
          | None ↦ λ once e. let is : ys ≡ xs = (cc) in (ap Ok is, subst (NoneRepeats same) is once)
          | Some i ↦ λ _ e. (cc)
        ] refl

    pub is_read : (text : List ℕ) (xs : List X) → list_of read same text ≡ Ok xs → IsListText Spells same text xs
    is_read text xs =
        elim (length text == 0) as (λ b. length text == 0 ≡ b → cond b (Ok []) (cond (nat_lt 64 (length (items_of text))) (Err TooMany) (unrepeated same (values_of read (items_of text)))) ≡ Ok xs → IsListText Spells same text xs) [
          | true ↦ λ none e.
              let nothing : [] ≡ xs = (cc) in
              subst (IsListText Spells same text) nothing
              (record { spelled = ([], nil_from_length text ((Decides-eqb (length text) 0).0 none), tt); few = omega arith; once = refl })
          | false ↦ λ _. elim (nat_lt 64 (length (items_of text))) as (λ b. nat_lt 64 (length (items_of text)) ≡ b → cond b (Err TooMany) (unrepeated same (values_of read (items_of text))) ≡ Ok xs → IsListText Spells same text xs) [
            | true ↦ λ _ e. (cc)
            | false ↦ λ within e.
                let p = unrepeated_is (values_of read (items_of text)) xs e in
                let spelled = read_each (items_of text) xs p.0 in
                let long = same_length (items_of text) xs spelled in
                let few : length (items_of text) ≤ 64 = few_from (length (items_of text)) within in
                record { spelled = (items_of text, sym (join_with_byte-slice_split 44 text), spelled); few = omega (arith, long, few); once = p.1 }
          ] refl
        ] refl

-- ---- faults

module _ {X : Type 0} (same : X → X → Bool) where
  repeat_is : (seen xs : List X) (i : ℕ) → repeat_from same seen xs ≡ Some i
      → (front : List X) × (x : X) × (back : List X) × (xs ≡ front ++ x ∷ back) × (length (seen ++ front) ≡ i)
      × (repeat_from same seen front ≡ None) × (list_any (same x) (seen ++ front) ≡ true)
  repeat_is seen [] i = λ e. (cc)
  repeat_is seen (x ∷ xs) i =
      elim (list_any (same x) seen) as (λ b. list_any (same x) seen ≡ b → cond b (Some (length seen)) (repeat_from same (seen ++ x ∷ []) xs) ≡ Some i
      → (front : List X) × (y : X) × (back : List X) × (x ∷ xs ≡ front ++ y ∷ back) × (length (seen ++ front) ≡ i)
      × (repeat_from same seen front ≡ None) × (list_any (same y) (seen ++ front) ≡ true)) [
        | true ↦ λ again e.
            let place : length seen ≡ i = (cc) in
            ([], x, xs, refl, ap length (append-nil seen) ∙ place, refl, ap (list_any (same x)) (append-nil seen) ∙ again)
        | false ↦ λ new e.
            let p = repeat_is (seen ++ x ∷ []) xs i e in
            let moved : (seen ++ x ∷ []) ++ p.0 ≡ seen ++ (x ∷ p.0) = append_assoc seen (x ∷ []) p.0 in (
              x ∷ p.0,
              p.1,
              p.2,
              ap (λ ys. x ∷ ys) p.3,
              ap length (sym moved) ∙ p.4,
              ap (λ b. cond b (Some (length seen)) (repeat_from same (seen ++ x ∷ []) p.0)) new ∙ p.5,
              ap (list_any (same p.1)) (sym moved) ∙ p.6,
            )
      ] refl

  pub first_repeat : (xs : List X) (i : ℕ) → repeat_from same [] xs ≡ Some i → IsFirstRepeat same xs i
  first_repeat xs i e =
      let p = repeat_is [] xs i e in
      record { front = p.0; value = p.1; back = p.2; parts = p.3; place = p.4; once = p.5; again = p.6 }

module _ {X : Type 0} (read : List ℕ → Option X) (Spells : List ℕ → X → Type 0)
    (sound : (t : List ℕ) (x : X) → read t ≡ Some x → Spells t x)
    (complete : (t : List ℕ) (x : X) → Spells t x → read t ≡ Some x)
    (same : X → X → Bool) where
  bad_is : (ts : List (List ℕ)) (n i : ℕ) → position_from (λ t. is_none (read t)) n ts ≡ Some i
      → (front : List (List ℕ)) × (t : List ℕ) × (back : List (List ℕ)) × (ts ≡ front ++ t ∷ back) × (n + length front ≡ i)
      × AllByRecursion (λ t. (x : X) × Spells t x) front × (read t ≡ None)
  bad_is [] n i = λ e. (cc)
  bad_is (t ∷ ts) n i =
      elim (read t) as (λ o. read t ≡ o → cond (is_none o) (Some n) (position_from (λ t. is_none (read t)) (n + 1) ts) ≡ Some i
      → (front : List (List ℕ)) × (u : List ℕ) × (back : List (List ℕ)) × (t ∷ ts ≡ front ++ u ∷ back) × (n + length front ≡ i)
      × AllByRecursion (λ t. (x : X) × Spells t x) front × (read u ≡ None)) [
        | None ↦ λ is e. let place : n ≡ i = (cc) in ([], t, ts, refl, omega arith, tt, is)
        | Some x ↦ λ is e.
            let p = bad_is ts (n + 1) i e in
            let place = p.4 in
            (t ∷ p.0, p.1, p.2, ap (λ us. t ∷ us) p.3, omega (arith, place), ((x, sound t x is), p.5), p.6)
      ] refl

  first_unread : (ts : List (List ℕ)) (i : ℕ) → position_from (λ t. is_none (read t)) 0 ts ≡ Some i → IsFirstUnread Spells ts i
  first_unread ts i e =
      let p = bad_is ts 0 i e in
      let place = p.4 in
      record {
        front = p.0;
        item = p.1;
        back = p.2;
        parts = p.3;
        place = omega (arith, place);
        read = p.5;
        unread = λ (x, spelled). nothing x (sym p.6 ∙ complete p.1 x spelled);
      }
    where
      nothing : (x : X) → None ≡ Some x → ⊥
      nothing x e = (cc)

module _ {X : Type 0} (read : List ℕ → Option X) (Spells : List ℕ → X → Type 0)
    (sound : (t : List ℕ) (x : X) → read t ≡ Some x → Spells t x)
    (complete : (t : List ℕ) (x : X) → Spells t x → read t ≡ Some x)
    (clean : (t : List ℕ) (x : X) → Spells t x → IsClean t)
    (bytes : (t : List ℕ) (x : X) → Spells t x → HasBytes t)
    (same : X → X → Bool) where
  faulty : (items : List (List ℕ)) (f : AclFault) → cond (nat_lt 64 (length items)) (Err TooMany) (unrepeated same (values_of read items)) ≡ Err f → IsFaultOf Spells same items f
  unfolding values_of
  faulty items f =
      elim (nat_lt 64 (length items)) as (λ b. nat_lt 64 (length items) ≡ b → cond b (Err TooMany) (unrepeated same (values_of read items)) ≡ Err f → IsFaultOf Spells same items f) [
        | true ↦ λ over e. let is : TooMany ≡ f = (cc) in subst (IsFaultOf Spells same items) is (ltb-true 64 (length items) over)
        | false ↦ λ within. elim (position_from (λ t. is_none (read t)) 0 items) as (λ o. position_from (λ t. is_none (read t)) 0 items ≡ o → unrepeated same (or_bad o (filter_map read items)) ≡ Err f → IsFaultOf Spells same items f) [
          | Some i ↦ λ bad e.
              let is : BadEntry i ≡ f = (cc) in
              subst (IsFaultOf Spells same items) is (few_from (length items) within, first_unread read Spells sound complete same items i bad)
          | None ↦ λ good. elim (repeat_from same [] (filter_map read items)) as (λ o. repeat_from same [] (filter_map read items) ≡ o → or_twice o (filter_map read items) ≡ Err f → IsFaultOf Spells same items f) [
            | None ↦ λ _ e. (cc)
            | Some i ↦ λ again e.
                let is : Twice i ≡ f = (cc) in
                subst (IsFaultOf Spells same items) is
                (few_from (length items) within, (filter_map read items, each read Spells sound complete clean bytes items 0 good, first_repeat same (filter_map read items) i again))
          ] refl
        ] refl
      ] refl

  pub listed_fault : (text : List ℕ) (f : AclFault) → list_of read same text ≡ Err f → IsListFault Spells same text f
  listed_fault [] f e = (cc)
  listed_fault (x ∷ xs) f e =
      faulty (items_of (x ∷ xs)) f (sym (ap (λ b. cond b (Ok []) (cond (nat_lt 64 (length (items_of (x ∷ xs)))) (Err TooMany) (unrepeated same (values_of read (items_of (x ∷ xs)))))) (begun (x ∷ xs) x xs refl)) ∙ e)

  unread_none : (item : List ℕ) → ¬ ((x : X) × Spells item x) → read item ≡ None
  unread_none item h =
      elim (read item) as (λ o. read item ≡ o → o ≡ None) [
        | None ↦ λ _. refl
        | Some x ↦ λ is. absurd (h (x, sound item x is))
      ] refl

  bad_at : (front : List (List ℕ)) (item : List ℕ) (back : List (List ℕ)) (n : ℕ) → AllByRecursion (λ t. (x : X) × Spells t x) front → read item ≡ None
      → position_from (λ t. is_none (read t)) n (front ++ item ∷ back) ≡ Some (n + length front)
  bad_at [] item back n h none =
      ap (λ o. cond (is_none o) (Some n) (position_from (λ t. is_none (read t)) (n + 1) back)) none ∙ ap Some (omega arith)
  bad_at (t ∷ ts) item back n h none =
      ap (λ o. cond (is_none o) (Some n) (position_from (λ t. is_none (read t)) (n + 1) (ts ++ item ∷ back))) (complete t h.0.0 h.0.1)
      ∙ bad_at ts item back (n + 1) h.1 none ∙ ap Some (omega arith)

  repeated_at : (seen front : List X) (x : X) (back : List X) → repeat_from same seen front ≡ None → list_any (same x) (seen ++ front) ≡ true
      → repeat_from same seen (front ++ x ∷ back) ≡ Some (length (seen ++ front))
  repeated_at seen [] x back = λ once again.
      ap (λ b. cond b (Some (length seen)) (repeat_from same (seen ++ x ∷ []) back)) (ap (list_any (same x)) (sym (append-nil seen)) ∙ again)
      ∙ ap (λ l. Some (length l)) (sym (append-nil seen))
  repeated_at seen (y ∷ ys) x back =
      elim (list_any (same y) seen) as (λ b. cond b (Some (length seen)) (repeat_from same (seen ++ y ∷ []) ys) ≡ None → list_any (same x) (seen ++ (y ∷ ys)) ≡ true
      → cond b (Some (length seen)) (repeat_from same (seen ++ y ∷ []) (ys ++ x ∷ back)) ≡ Some (length (seen ++ (y ∷ ys)))) [
        | true ↦ λ once again. (cc)
        | false ↦ λ once again.
            let moved : (seen ++ y ∷ []) ++ ys ≡ seen ++ (y ∷ ys) = append_assoc seen (y ∷ []) ys in
            repeated_at (seen ++ y ∷ []) ys x back once (ap (list_any (same x)) moved ∙ again) ∙ ap (λ l. Some (length l)) moved
      ]

  -- what is no list is refused so
  refused_items : (items : List (List ℕ)) (f : AclFault) → IsFaultOf Spells same items f
      → cond (nat_lt 64 (length items)) (Err TooMany) (unrepeated same (values_of read items)) ≡ Err f
  unfolding values_of
  refused_items items TooMany h = ap (λ b. cond b (Err TooMany) (unrepeated same (values_of read items))) (over (length items) h)
    where
      over : (n : ℕ) → 64 < n → nat_lt 64 n ≡ true
      over n h = grind (arith, nat_tests)
  refused_items items (BadEntry i) h =
      let first = h.1 in
      let place = first.place in
      let at : 0 + length first.front ≡ i = omega (arith, place) in
      ap (λ b. cond b (Err TooMany) (unrepeated same (values_of read items))) (few_enough (length items) h.0)
      ∙ ap (λ o. unrepeated same (or_bad o (filter_map read items)))
      (ap (position_from (λ t. is_none (read t)) 0) first.parts ∙ bad_at first.front first.item first.back 0 first.read (unread_none first.item first.unread) ∙ ap Some at)
  refused_items items (Twice i) h =
      let first = h.1.2 in
      ap (λ b. cond b (Err TooMany) (unrepeated same (values_of read items))) (few_enough (length items) h.0)
      ∙ ap (unrepeated same) (values read Spells sound complete clean bytes items h.1.0 h.1.1)
      ∙ ap (λ o. or_twice o h.1.0)
      (ap (repeat_from same []) first.parts ∙ repeated_at [] first.front first.value first.back first.once first.again ∙ ap Some first.place)
  refused_items items (Missing who) h = absurd h
  refused_items items BadOctal h = absurd h
  refused_items items BadSymbolic h = absurd h

  none_refused : (f : AclFault) → IsFaultOf Spells same [] f → ⊥
  none_refused TooMany h = omega (arith, h)
  none_refused (BadEntry i) h = not_nil h.1.front h.1.item h.1.back h.1.parts
    where
      not_nil : (front : List (List ℕ)) (x : List ℕ) (back : List (List ℕ)) → [] ≡ front ++ x ∷ back → ⊥
      not_nil [] x back e = (cc)
      not_nil (y ∷ ys) x back e = (cc)
  none_refused (Twice i) h = nothing h.1.0 h.1.1 h.1.2
    where
      nothing : (xs : List X) → EachSpells Spells [] xs → IsFirstRepeat same xs i → ⊥
      nothing [] each first = not_nil first.front first.value first.back first.parts
        where
          not_nil : (front : List X) (x : X) (back : List X) → [] ≡ front ++ x ∷ back → ⊥
          not_nil [] x back e = (cc)
          not_nil (y ∷ ys) x back e = (cc)
      nothing (x ∷ xs) each first = each
  none_refused (Missing who) h = h
  none_refused BadOctal h = h
  none_refused BadSymbolic h = h

  pub listed_refused : (text : List ℕ) (f : AclFault) → IsListFault Spells same text f → list_of read same text ≡ Err f
  listed_refused [] f h = absurd (none_refused f h)
  listed_refused (x ∷ xs) f h =
      ap (λ b. cond b (Ok []) (cond (nat_lt 64 (length (items_of (x ∷ xs)))) (Err TooMany) (unrepeated same (values_of read (items_of (x ∷ xs)))))) (begun (x ∷ xs) x xs refl)
      ∙ refused_items (items_of (x ∷ xs)) f h

-- ---- answers

pub ok_is : {T : Type 0} (r : Result T AclStop) (answer : Result T AclFault) (P : T → Type 0) → Answers r answer → ((x : T) → answer ≡ Ok x → P x) → IfOk r P
ok_is (Ok x) answer P h f = f x h
ok_is (Err e) answer P h f = tt

pub answers_along : {T : Type 0} (r : Result T AclStop) (answer other : Result T AclFault) → Answers r answer → answer ≡ other → Answers r other
answers_along r answer other h e = subst (Answers r) e h

-- ---- the two grammars

pub acl_text_only : (text : List ℕ) (es : List (Scope × Who × ℕ)) → IsAclText text es → acl_list_of text ≡ Ok es
acl_text_only = only_read entry_of SpellsEntry entry_is entry_complete clean_entry bytes_entry same_entry
  where
    entry_complete : (t : List ℕ) (e : Scope × Who × ℕ) → SpellsEntry t e → entry_of t ≡ Some e
    entry_complete t e h = ap entry_of h.2 ∙ entry_of-text e h.0 h.1

pub acl_text_is : (text : List ℕ) (es : List (Scope × Who × ℕ)) → acl_list_of text ≡ Ok es → IsAclText text es
acl_text_is = is_read entry_of SpellsEntry entry_is entry_complete clean_entry bytes_entry same_entry
  where
    entry_complete : (t : List ℕ) (e : Scope × Who × ℕ) → SpellsEntry t e → entry_of t ≡ Some e
    entry_complete t e h = ap entry_of h.2 ∙ entry_of-text e h.0 h.1

item_complete : (t : List ℕ) (e : Scope × Who) → SpellsItem t e → item_of t ≡ Some e
item_complete t e h =
    elim h.1 as (λ _. item_of t ≡ Some e) [
      | inl is ↦ ap item_of is ∙ item_of-text e h.0
      | inr is ↦ ap item_of is.1 ∙ item_of-kind e h.0 is.0
    ]

pub remove_text_only : (text : List ℕ) (es : List (Scope × Who)) → IsRemoveText text es → remove_list_of text ≡ Ok es
remove_text_only = only_read item_of SpellsItem item_is item_complete clean_item bytes_item same_item

pub remove_text_is : (text : List ℕ) (es : List (Scope × Who)) → remove_list_of text ≡ Ok es → IsRemoveText text es
remove_text_is = is_read item_of SpellsItem item_is item_complete clean_item bytes_item same_item

pub fault_is : (T : Type 0) (r : Result T AclStop) (answer : Result T AclFault) (P : AclFault → Type 0) → Answers r answer
    → ((f : AclFault) → answer ≡ Err f → P f) → (f : AclFault) → r ≡ Err (stop.Fault f) → P f
fault_is T r answer P h g f e = g f (let Q : Result T AclStop → Type 0 = λ r. Answers r answer in subst Q e h)

pub acl_text_fault : (text : List ℕ) (f : AclFault) → acl_list_of text ≡ Err f → IsListFault SpellsEntry same_entry text f
acl_text_fault = listed_fault entry_of SpellsEntry entry_is entry_complete clean_entry bytes_entry same_entry
  where
    entry_complete : (t : List ℕ) (e : Scope × Who × ℕ) → SpellsEntry t e → entry_of t ≡ Some e
    entry_complete t e h = ap entry_of h.2 ∙ entry_of-text e h.0 h.1

pub acl_text_refused : (text : List ℕ) (f : AclFault) → IsListFault SpellsEntry same_entry text f → acl_list_of text ≡ Err f
acl_text_refused = listed_refused entry_of SpellsEntry entry_is entry_complete clean_entry bytes_entry same_entry
  where
    entry_complete : (t : List ℕ) (e : Scope × Who × ℕ) → SpellsEntry t e → entry_of t ≡ Some e
    entry_complete t e h = ap entry_of h.2 ∙ entry_of-text e h.0 h.1

pub remove_text_refused : (text : List ℕ) (f : AclFault) → IsListFault SpellsItem same_item text f → remove_list_of text ≡ Err f
remove_text_refused = listed_refused item_of SpellsItem item_is item_complete clean_item bytes_item same_item

pub remove_text_fault : (text : List ℕ) (f : AclFault) → remove_list_of text ≡ Err f → IsListFault SpellsItem same_item text f
remove_text_fault = listed_fault item_of SpellsItem item_is item_complete clean_item bytes_item same_item

-- what is read has ids that are ones, and permissions of three bits
each_writable : (ts : List (List ℕ)) (es : List (Scope × Who × ℕ)) → EachSpells SpellsEntry ts es → AreWritable es
each_writable [] [] h = tt
each_writable [] (e ∷ es) h = absurd h
each_writable (t ∷ ts) [] h = absurd h
each_writable (t ∷ ts) (e ∷ es) h = ((h.0.0, h.0.1), each_writable ts es h.1)

pub acl_text_writable : (text : List ℕ) (es : List (Scope × Who × ℕ)) → acl_list_of text ≡ Ok es → AreWritable es
acl_text_writable text es e = let spelled = (acl_text_is text es e).spelled in each_writable spelled.0 es spelled.2

each_whose : (ts : List (List ℕ)) (es : List (Scope × Who)) → EachSpells SpellsItem ts es → AreWhose es
each_whose [] [] h = tt
each_whose [] (e ∷ es) h = absurd h
each_whose (t ∷ ts) [] h = absurd h
each_whose (t ∷ ts) (e ∷ es) h = (h.0.0, each_whose ts es h.1)

pub remove_text_whose : (text : List ℕ) (es : List (Scope × Who)) → remove_list_of text ≡ Ok es → AreWhose es
remove_text_whose text es e = let spelled = (remove_text_is text es e).spelled in each_whose spelled.0 es spelled.2
