-- What is printed of a pair is read as its entries.
use Rattle.std.proofs.Common.{◌≡◌, ℕ, ◌+◌, ◌≤◌, Bool, true, false, ◌&&◌, ◌||◌, List, [], ◌∷◌, ◌++◌, map, length, IfSome, T, Option, None, Some, Ok, if◌then◌else◌, refl, sym, ap, subst, ◌∙◌, arith, length-append}
use Rattle.std.specs.List.{AllByRecursion, list_any}
use Rattle.std.specs.Ordering.{is_eq, is_lt, ordering_reverse}
use Rattle.std.specs.declared.cmp.Ordering.{Ordering}
use Rattle.std.specs.declared.cmp.Ordering.TheVariants.{Less, Equal, Greater}
use Rattle.std.specs.FinMap.Entries.{below_all, is_sorted}
use Rattle.std.proofs.lemmas.List.{length-map, append-nil}
use Rattle.acl_text.specs.declared.scope.Scope.{Scope}
use Rattle.acl_text.specs.declared.scope.Scope.TheVariants.{Access, Default}
use Rattle.acl_text.specs.declared.who.Who.{Who}
use Rattle.acl_text.specs.declared.acl.AclPair.{AclPair}
use Rattle.acl_text.specs.Whos.{who_cmp}
use Rattle.acl_text.specs.Acls.{IsAcl}
use Rattle.acl_text.specs.AclTexts.{entry_text, SpellsEntry, EachSpells, repeat_from, same_entry, acl_list_of}
use Rattle.acl_text.specs.AclWriting.{scoped, default_entries, entries_of, acl_text}
use Rattle.acl_text.specs.Held.{AreHeld, AreWritable}
use Rattle.acl_text.specs.AclLaws.{IsAclPair}
use Rattle.acl_text.proofs.WhoLemmas.{who_cmp_total}
use Rattle.acl_text.proofs.EntryLemmas.{in_order}
use Rattle.acl_text.proofs.TextLemmas.{acl_text_only}
use Rattle.acl_text.proofs.LawLemmas.{list_any-append, own_scope}

abbrev Entry : Type 0
Entry = Scope × Who × ℕ

-- none of a list is for the one of an entry, in its scope
abbrev AreOthers : Entry → List Entry → Type 0
AreOthers x ys = AllByRecursion (λ y. same_entry y x ≡ false) ys

Apart : List Entry → Type 0
Apart [] = Unit {0}
Apart (x ∷ xs) = AreOthers x xs × Apart xs

-- none of a list is among those that were seen
abbrev AreUnseen : List Entry → List Entry → Type 0
AreUnseen seen xs = AllByRecursion (λ y. list_any (same_entry y) seen ≡ false) xs

one_seen : (seen : List Entry) (x : Entry) (xs : List Entry) → AreUnseen seen xs → AreOthers x xs → AreUnseen (seen ++ x ∷ []) xs
one_seen seen x [] u a = tt
one_seen seen x (y ∷ ys) u a =
    (list_any-append (same_entry y) seen (x ∷ []) ∙ (λ i. u.0 i || (a.0 i || false)), one_seen seen x ys u.1 a.1)

none_repeats : (seen xs : List Entry) → Apart xs → AreUnseen seen xs → repeat_from same_entry seen xs ≡ None
unfolding Apart
none_repeats seen [] a u = refl
none_repeats seen (x ∷ xs) a u =
    (λ i. if u.0 i then Some (length seen) else repeat_from same_entry (seen ++ x ∷ []) xs) ∙ none_repeats (seen ++ x ∷ []) xs a.1 (one_seen seen x xs u.1 a.0)

unseen : (xs : List Entry) → AreUnseen [] xs
unseen [] = tt
unseen (x ∷ xs) = (refl, unseen xs)

both_of : (a b : Bool) → T (a && b) → T a × T b
both_of true b h = (tt, h)
both_of false b h = absurd h

is_less : (o : Ordering) → T (is_lt o) → o ≡ Less
is_less Less h = refl
is_less Equal h = absurd h
is_less Greater h = absurd h

-- those above an entry in its scope, and those of the default scope where it isn't of it, are others
above_others : (d : Scope) (e : Who × ℕ) (es : List (Who × ℕ)) (more : List Entry) → T (below_all who_cmp e.0 es) → AreOthers (d, e.0, e.1) more
    → AreOthers (d, e.0, e.1) (scoped d es ++ more)
above_others d e [] more h m = m
above_others d e (x ∷ xs) more h m =
    let p = both_of (is_lt (who_cmp e.0 x.0)) (below_all who_cmp e.0 xs) h in
    let greater : who_cmp x.0 e.0 ≡ Greater = who_cmp_total.antisymm x.0 e.0 ∙ ap ordering_reverse (is_less (who_cmp e.0 x.0) p.0) in
    ((λ i. own_scope d i && is_eq (greater i)), above_others d e xs more p.1 m)

default_others : (e : Who × ℕ) (es : List (Who × ℕ)) → AreOthers (Access, e.0, e.1) (scoped Default es)
default_others e [] = tt
default_others e (x ∷ xs) = (refl, default_others e xs)

default_are_others : (e : Who × ℕ) (default : Option (List (Who × ℕ))) → AreOthers (Access, e.0, e.1) (default_entries default)
default_are_others e None = tt
default_are_others e (Some es) = default_others e es

scope_apart : (d : Scope) (es : List (Who × ℕ)) (more : List Entry) → T (is_sorted who_cmp es) → ((e : Who × ℕ) → AreOthers (d, e.0, e.1) more) → Apart more
    → Apart (scoped d es ++ more)
unfolding Apart
scope_apart d [] more h others m = m
scope_apart d (e ∷ es) more h others m =
    let p = both_of (below_all who_cmp e.0 es) (is_sorted who_cmp es) h in
    (above_others d e es more p.0 (others e), scope_apart d es more p.1 others m)

default_apart : (default : Option (List (Who × ℕ))) → IfSome default IsAcl → Apart (default_entries default)
unfolding Apart
default_apart None h = tt
default_apart (Some es) h = subst Apart (append-nil (scoped Default es)) (scope_apart Default es [] (in_order _ h.in_order) (λ _. tt) tt)

each_spells : (es : List Entry) → AreWritable es → EachSpells SpellsEntry (map entry_text es) es
each_spells [] h = tt
each_spells (e ∷ es) h = ((h.0.0, h.0.1, refl), each_spells es h.1)

few_scoped : (d : Scope) (es : List (Who × ℕ)) → IsAcl es → length (scoped d es) ≤ 32
few_scoped d es h = subst (λ n. n ≤ 32) (sym (length-map es (λ (e : Who × ℕ). (d, e.0, e.1)))) h.few

both_few : (a b : ℕ) → a ≤ 32 → b ≤ 32 → a + b ≤ 64
both_few a b p q = omega arith

few_default : (default : Option (List (Who × ℕ))) → IfSome default IsAcl → length (default_entries default) ≤ 32
few_default None h = omega arith
few_default (Some es) h = few_scoped Default es h

scope_writable : (d : Scope) (es : List (Who × ℕ)) (more : List Entry) → AreHeld es → AreWritable more → AreWritable (scoped d es ++ more)
scope_writable d [] more h w = w
scope_writable d (e ∷ es) more h w = (h.0, scope_writable d es more h.1 w)

default_writable : (default : Option (List (Who × ℕ))) → IfSome default IsAcl → AreWritable (default_entries default)
default_writable None h = tt
default_writable (Some es) h = subst AreWritable (append-nil (scoped Default es)) (scope_writable Default es [] h.held tt)

-- what a pair has can be written
pub pair_writable : (pair : AclPair) → IsAclPair pair → AreWritable (entries_of pair)
pair_writable pair h = scope_writable Access pair.access (default_entries pair.default) h.0.held (default_writable pair.default h.1)

pub printed_is_read : (pair : AclPair) → IsAclPair pair → acl_list_of (acl_text pair) ≡ Ok (entries_of pair)
printed_is_read pair h =
    acl_text_only (acl_text pair) (entries_of pair) (record {
      spelled = (map entry_text (entries_of pair), refl, each_spells (entries_of pair) (pair_writable pair h));
      few = subst (λ n. n ≤ 64) (sym (length-append (scoped Access pair.access) (default_entries pair.default))) (both_few _ _ (few_scoped Access pair.access h.0) (few_default pair.default h.1));
      once = none_repeats [] (entries_of pair)
          (scope_apart Access pair.access (default_entries pair.default) (in_order _ h.0.in_order) (λ e. default_are_others e pair.default) (default_apart pair.default h.1))
          (unseen (entries_of pair));
    })
