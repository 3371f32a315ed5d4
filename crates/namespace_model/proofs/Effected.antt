-- What stands at each path after an effect.
use Rattle.std.proofs.Common.{◌≡◌, ◌⊎◌, inl, inr, ℕ, Bool, true, false, cond, not, ◌||◌, List, [], ◌∷◌, ◌++◌, map, filter, length, drop, Option, Some, None, refl, ap, sym, ◌∙◌}
use Rattle.std.proofs.lemmas.Bool.{false≢true, cases_Bool}
use Rattle.std.specs.Ordering.{eq_by_cmp}
use Rattle.std.specs.List.{list_any}
use Rattle.std.specs.FinMap as fin
use Rattle.std.specs.FinMap.{find}
use Rattle.path_text.specs.Paths.{path_cmp, path_cmp_total, is_prefix}
use Rattle.namespace_model.specs.Nodes.{Node}
use Rattle.namespace_model.specs.Trees.{Path, Tree, at}
use Rattle.namespace_model.specs.Effects.{Put, put_by, take_all, put_all, moved, renamed}
use Rattle.namespace_model.specs.Locality.{Among}
use Rattle.namespace_model.proofs.Lookups.{path_tells, path_from_eq, same_path, among_any, any_among}
use Rattle.namespace_model.proofs.Prefixes.{behind_front, front_of_append}

-- ---- taken away

abbrev pub is_in : Path → List Path → Bool
is_in q ps = list_any (eq_by_cmp path_cmp q) ps

pub is_in_among : (q : Path) (ps : List Path) → is_in q ps ≡ true → Among q ps
is_in_among q ps e = any_among q ps e

pub among_is_in : (q : Path) (ps : List Path) → Among q ps → is_in q ps ≡ true
among_is_in q ps h = among_any q ps h

pub in_tells : (q : Path) (ps : List Path) → (Among q ps) ⊎ (is_in q ps ≡ false)
in_tells q ps = by_test (is_in q ps) refl
  where
    by_test : (b : Bool) → is_in q ps ≡ b → (Among q ps) ⊎ (is_in q ps ≡ false)
    by_test true e = inl (any_among q ps e)
    by_test false e = inr e

two_tests : (a b : Bool) (o : Option Node) → cond b None (cond a None o) ≡ cond (a || b) None o
two_tests true true o = refl
two_tests true false o = refl
two_tests false true o = refl
two_tests false false o = refl

pub at-take_all : (ps : List Path) (t : Tree) (q : Path) → at (take_all ps t) q ≡ cond (is_in q ps) None (at t q)
at-take_all [] t q = refl
at-take_all (p ∷ ps) t q =
    at-take_all ps (fin.remove t p) q ∙ ap (λ o. cond (is_in q ps) None o) (fin.get-remove path_cmp_total t p q) ∙ two_tests (eq_by_cmp path_cmp q p) (is_in q ps) (at t q)

-- ---- put

abbrev pub put_or : ℕ → Option Put → Option Node → Option Node
put_or number None o = o
put_or number (Some put) o = Some (put_by number put)

-- the first put at a path
abbrev pub put_at : Path → List (Path × Put) → Option Put
put_at q xs = find path_cmp q xs

by_put : (b : Bool) (number : ℕ) (put : Put) (found : Option Put) (o rest : Option Node) → rest ≡ put_or number found o → cond b (Some (put_by number put)) rest ≡ put_or number (cond b (Some put) found) o
by_put true number put found o rest e = refl
by_put false number put found o rest e = e

pub at-put_all : (number : ℕ) (xs : List (Path × Put)) (t : Tree) (q : Path) → at (put_all number xs t) q ≡ put_or number (put_at q xs) (at t q)
at-put_all number [] t q = refl
at-put_all number (x ∷ xs) t q =
    fin.get-insert path_cmp_total (put_all number xs t) x.0 (put_by number x.1) q ∙ by_put (eq_by_cmp path_cmp q x.0) number x.1 (put_at q xs) (at t q) (at (put_all number xs t) q) (at-put_all number xs t q)

-- ---- moved

abbrev Entries : Type 0
Entries = List (Path × Node)

abbrev moving : Path → Path → Path × Node → Path × Node
moving a b e = (moved a b e.0, e.1)

-- of entries at paths that fit, one is found under its new name where its old one would be
found_under : (a b q old : Path) → ((p : Path) → is_prefix b p ≡ false → eq_by_cmp path_cmp q (moved a b p) ≡ eq_by_cmp path_cmp old p) → is_prefix b old ≡ false
    → (es : List (Path × Node)) → find path_cmp q (map (λ (e : Path × Node). (moved a b e.0, e.1)) (filter (λ (e : Path × Node). not (is_prefix b e.0)) es)) ≡ find path_cmp old es
found_under a b q old same apart [] = refl
found_under a b q old same apart (e ∷ es) = by_test (is_prefix b e.0) refl (found_under a b q old same apart es)
  where
    by_test : (t : Bool) → is_prefix b e.0 ≡ t
        → find path_cmp q (map (λ (e : Path × Node). (moved a b e.0, e.1)) (filter (λ (e : Path × Node). not (is_prefix b e.0)) es)) ≡ find path_cmp old es
        → find path_cmp q (map (λ (e : Path × Node). (moved a b e.0, e.1)) (cond (not t) (e ∷ filter (λ (e : Path × Node). not (is_prefix b e.0)) es) (filter (λ (e : Path × Node). not (is_prefix b e.0)) es))) ≡ find path_cmp old (e ∷ es)
    by_test true is h = h ∙ sym (passed_over (eq_by_cmp path_cmp old e.0) refl)
      where
        passed_over : (u : Bool) → eq_by_cmp path_cmp old e.0 ≡ u → cond u (Some e.1) (find path_cmp old es) ≡ find path_cmp old es
        passed_over true k = absurd (false≢true (sym apart ∙ ap (is_prefix b) (path_from_eq old e.0 k) ∙ is))
        passed_over false k = refl
    by_test false is h = rw (same e.0 is, h) refl

none_under : (a b q : Path) → ((p : Path) → is_prefix b p ≡ false → eq_by_cmp path_cmp q (moved a b p) ≡ false)
    → (es : List (Path × Node)) → find path_cmp q (map (λ (e : Path × Node). (moved a b e.0, e.1)) (filter (λ (e : Path × Node). not (is_prefix b e.0)) es)) ≡ None
none_under a b q other [] = refl
none_under a b q other (e ∷ es) = by_test (is_prefix b e.0) refl (none_under a b q other es)
  where
    by_test : (t : Bool) → is_prefix b e.0 ≡ t
        → find path_cmp q (map (λ (e : Path × Node). (moved a b e.0, e.1)) (filter (λ (e : Path × Node). not (is_prefix b e.0)) es)) ≡ None
        → find path_cmp q (map (λ (e : Path × Node). (moved a b e.0, e.1)) (cond (not t) (e ∷ filter (λ (e : Path × Node). not (is_prefix b e.0)) es) (filter (λ (e : Path × Node). not (is_prefix b e.0)) es))) ≡ None
    by_test true is h = h
    by_test false is h = rw (other e.0 is, h) refl

-- the same test
by_both : (p q : Path) (c d : Path) → (p ≡ q → c ≡ d) → (c ≡ d → p ≡ q) → eq_by_cmp path_cmp p q ≡ eq_by_cmp path_cmp c d
by_both p q c d to from = elim (path_tells p q) [
  | inl e ↦ ap (λ x. eq_by_cmp path_cmp p x) (sym e) ∙ same_path p ∙ sym (ap (λ x. eq_by_cmp path_cmp c x) (sym (to e)) ∙ same_path c)
  | inr e ↦ elim (path_tells c d) [
    | inl f ↦ ap (λ x. eq_by_cmp path_cmp p x) (sym (from f)) ∙ same_path p ∙ sym (ap (λ x. eq_by_cmp path_cmp c x) (sym f) ∙ same_path c)
    | inr f ↦ e ∙ sym f
  ]
]

pub drop_front : (a r : Path) → drop (length a) (a ++ r) ≡ r
drop_front [] r = refl
drop_front (n ∷ a) r = drop_front a r

pub same_behind : (b r s : Path) → b ++ r ≡ b ++ s → r ≡ s
same_behind b r s e = sym (drop_front b r) ∙ ap (drop (length b)) e ∙ drop_front b s

pub moved_below : (a b r : Path) → moved a b (a ++ r) ≡ b ++ r
moved_below a b r = rw (front_of_append a r, drop_front a r) refl

pub moved_other : (a b q : Path) → is_prefix a q ≡ false → moved a b q ≡ q
moved_other a b q e = rw (e) refl

-- under the destination stands what stood under the source
pub at-renamed_to : (t : Tree) (a b r : Path) → is_prefix b (a ++ r) ≡ false → at (renamed t a b) (b ++ r) ≡ at t (a ++ r)
at-renamed_to t a b r apart =
    fin.get-from_entries path_cmp_total _ (b ++ r)
    ∙ found_under a b (b ++ r) (a ++ r) (λ p out. by_both (b ++ r) (moved a b p) (a ++ r) p (to p out) (from p)) apart (fin.entries t)
    ∙ sym (fin.get-entries t (a ++ r))
  where
    to : (p : Path) → is_prefix b p ≡ false → b ++ r ≡ moved a b p → a ++ r ≡ p
    to p out e = elim (cases_Bool (is_prefix a p)) [
      | inl front ↦
          let rest = behind_front a p front in
          ap (λ x. a ++ x) (same_behind b r rest.0 (e ∙ ap (moved a b) rest.1 ∙ moved_below a b rest.0)) ∙ sym rest.1
      | inr other ↦ absurd (false≢true (sym out ∙ ap (is_prefix b) (sym (e ∙ moved_other a b p other)) ∙ front_of_append b r))
    ]

    from : (p : Path) → a ++ r ≡ p → b ++ r ≡ moved a b p
    from p e = sym (moved_below a b r) ∙ ap (moved a b) e

-- under the source stands nothing any more, and elsewhere all is as it was
pub at-renamed_from : (t : Tree) (a b q : Path) → is_prefix b q ≡ false → is_prefix a q ≡ true → at (renamed t a b) q ≡ None
at-renamed_from t a b q out front =
    fin.get-from_entries path_cmp_total _ q ∙ none_under a b q (λ p apart. differs p apart) (fin.entries t)
  where
    never : (p : Path) → is_prefix b p ≡ false → q ≡ moved a b p → ⊥
    never p apart e = elim (cases_Bool (is_prefix a p)) [
      | inl at_front ↦
          let rest = behind_front a p at_front in
          false≢true (sym out ∙ ap (is_prefix b) (e ∙ ap (moved a b) rest.1 ∙ moved_below a b rest.0) ∙ front_of_append b rest.0)
      | inr other ↦ false≢true (sym other ∙ ap (is_prefix a) (sym (e ∙ moved_other a b p other)) ∙ front)
    ]

    differs : (p : Path) → is_prefix b p ≡ false → eq_by_cmp path_cmp q (moved a b p) ≡ false
    differs p apart = elim (path_tells q (moved a b p)) [ inl e ↦ absurd (never p apart e) | inr e ↦ e ]

pub at-renamed_other : (t : Tree) (a b q : Path) → is_prefix b q ≡ false → is_prefix a q ≡ false → at (renamed t a b) q ≡ at t q
at-renamed_other t a b q out other =
    fin.get-from_entries path_cmp_total _ q
    ∙ found_under a b q q (λ p apart. by_both q (moved a b p) q p (to p apart) (λ e. sym (moved_other a b q other) ∙ ap (moved a b) e)) out (fin.entries t)
    ∙ sym (fin.get-entries t q)
  where
    to : (p : Path) → is_prefix b p ≡ false → q ≡ moved a b p → q ≡ p
    to p apart e = elim (cases_Bool (is_prefix a p)) [
      | inl front ↦
          let rest = behind_front a p front in
          absurd (false≢true (sym out ∙ ap (is_prefix b) (e ∙ ap (moved a b) rest.1 ∙ moved_below a b rest.0) ∙ front_of_append b rest.0))
      | inr apart_a ↦ e ∙ moved_other a b p apart_a
    ]
