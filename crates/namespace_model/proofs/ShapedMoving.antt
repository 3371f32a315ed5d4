-- The effect of a rename lies on the tree as it has to.
use Rattle.std.proofs.Common.{◌≡◌, ◌⊎◌, inl, inr, ℕ, ◌+◌, ◌≤◌, Bool, true, false, ◌&&◌, ◌||◌, nat_lt, List, [], ◌∷◌, ◌++◌, length, Option, Some, None, is_some, refl, ap, sym, subst, ◌∙◌, append_assoc, arith}
use Rattle.std.proofs.lemmas.Bool.{false≢true, cases_Bool}
use Rattle.std.proofs.lemmas.Bool.Decides.{nat_tests}
use Rattle.std.proofs.lemmas.List.{append-nil}
use Rattle.std.specs.List.{join_with_byte}
use Rattle.path_text.specs.Paths.{is_prefix}
use Rattle.path_text.specs.Texts.{KeepsLimits}
use Rattle.namespace_model.specs.declared.request.Entry.{Entry}
use Rattle.namespace_model.specs.Nodes.{Node, is_directory}
use Rattle.namespace_model.specs.Trees.{Path, Tree, at, parent, subtree, IsDirectory, IsDirectoryAt, IsTree}
use Rattle.namespace_model.specs.Effects.{moved}
use Rattle.namespace_model.specs.Locality.{Among}
use Rattle.namespace_model.specs.Rename.{Moving, shifted, grows, is_too_long, some_too_long, text_length}
use Rattle.namespace_model.specs.Shapes.{IsShaped}
use Rattle.namespace_model.specs.Sound.{IsBelowRoot, CanBeMoved}
use Rattle.namespace_model.proofs.Lookups.{among_keys}
use Rattle.namespace_model.proofs.Prefixes.{behind_front, front_of_append, front_of_itself, parent_name, length_append}
use Rattle.namespace_model.proofs.Alikeness.{nothing_below}
use Rattle.namespace_model.proofs.Effected.{moved_below}
use Rattle.namespace_model.proofs.Limits.{limits_joined, joined_length}
use Rattle.namespace_model.proofs.ShapedEdits.{one_kind}

-- What a rename takes away: nothing, where the destination isn't there; or the destination, below which nothing stands.
pub record IsCleared (t : Tree) (b : Path) (replaced : List Path) : Type 0 where
  pub free : (at t b ≡ None) ⊎ Among b replaced
  pub only : (p : Path) → Among p replaced → p ≡ b
  -- nothing stands below it, whether or not it is there
  pub bare : (n : List ℕ) (r : Path) → is_some (at t (b ++ n ∷ r)) ≡ false

-- what is moved keeps the limits
abbrev pub FitsUnder : Tree → Path → Path → Type 0
FitsUnder t a b = (r : Path) → is_some (at t (a ++ r)) ≡ true → KeepsLimits (b ++ r)

pub long_path : (p : Path) → 2 ≤ length p → p ≡ [] → ⊥
long_path p h e = let l : length p ≡ 0 = ap (λ (q : Path). length q) e in absurd (omega arith)

module _ (t : Tree) (is : IsTree t) (e : Entry) (m : Moving) (x : Node) (there : at t m.source ≡ Some x) (from_sound : IsBelowRoot m.source) (to_sound : IsBelowRoot m.path) (can : CanBeMoved m.source m.path)
    (replaced : List Path) (clear : IsCleared t m.path replaced) (dir : IsDirectoryAt t (parent m.path)) (fits : FitsUnder t m.source m.path) where
  -- the destination is no front of the source: it would have something below it
  destination_apart : is_prefix m.path m.source ≡ false
  destination_apart = elim (cases_Bool (is_prefix m.path m.source)) [
    | inl front ↦ let rest = behind_front m.path m.source front in absurd (by_rest rest.0 rest.1)
    | inr out ↦ out
  ]
    where
      by_rest : (r : Path) → m.source ≡ m.path ++ r → ⊥
      by_rest [] same = false≢true (sym can.apart ∙ ap (λ p. is_prefix p m.path) (same ∙ append-nil m.path) ∙ front_of_itself m.path)
      by_rest (n ∷ r) same = false≢true (sym (clear.bare n r) ∙ ap (λ p. is_some (at t p)) (sym same) ∙ ap is_some there)

  source_stays : Among m.source replaced → ⊥
  source_stays h = false≢true (sym can.apart ∙ ap (λ p. is_prefix p m.path) (clear.only m.source h) ∙ front_of_itself m.path)

  parent_stays : Among (parent m.path) replaced → ⊥
  parent_stays h = by_name (parent_name m.path)
    where
      same : parent m.path ≡ m.path
      same = clear.only (parent m.path) h

      by_name : (m.path ≡ []) ⊎ ((n : List ℕ) × (m.path ≡ parent m.path ++ n ∷ [])) → ⊥
      by_name (inl none) = long_path m.path to_sound.parts none
      by_name (inr name) =
          let long : length m.path ≡ length (parent m.path) + 1 = ap (λ (p : Path). length p) name.1 ∙ length_append (parent m.path) (name.0 ∷ []) in
          let short : length (parent m.path) ≡ length m.path = ap (λ (p : Path). length p) same in
          absurd (omega arith)

  below_taken : (p q : Path) → Among p replaced → is_some (at t (p ++ q)) ≡ true → Among (p ++ q) replaced
  below_taken p [] h k = subst (λ d. Among d replaced) (sym (append-nil p)) h
  below_taken p (n ∷ r) h k = absurd (false≢true (sym (clear.bare n r) ∙ subst (λ d. is_some (at t (d ++ n ∷ r)) ≡ true) (clear.only p h) k))

  pub shifted_shaped : IsShaped t (shifted e m x replaced)
  shifted_shaped = record {
    writes = record {
      taken_too = λ p h. inr (inr (inr h));
      put_too = λ p h. elim h [ inl same ↦ inr (inr (inl same)) | inr k ↦ absurd k ];
      fresh_too = λ p h. absurd h;
      above_taken = λ p h. inr (inl (ap parent (clear.only p h)));
      above_fresh = λ p h. absurd h;
      moved = record { source = inr (inr (inl refl)); out_of = inl refl; into = inr (inl refl) };
    };
    placed = record {
      taken_below = below_taken;
      put = λ p h. elim h [
        | inl same ↦ inl (ap (λ q. is_some (at t q)) same ∙ ap is_some there, λ k. source_stays (subst (λ q. Among q replaced) same k))
        | inr k ↦ absurd k
      ];
      fresh_put = λ p h. absurd h;
      fresh_free = λ p h. absurd h;
    };
    growth = record {
      kinds = λ p put found stays. one_kind t m.source p _ _ put x refl there refl found;
      limits = λ p h. absurd h;
      above = λ p h. absurd h;
      account_old = λ h. h;
      account_stays = λ h. long_path m.path to_sound.parts (sym (clear.only [] h));
      moved = record {
        there = ap is_some there;
        stays = source_stays;
        source_apart = can.apart;
        destination_apart = destination_apart;
        free = clear.free;
        above = record { there = dir; stays = parent_stays };
        limits = fits;
        nothing_new = refl;
      };
    };
  }

-- ---- what is moved fits

none_too_long : (m : Moving) (ps : List Path) (q : Path) → some_too_long m ps ≡ false → Among q ps → is_too_long (moved m.source m.path q) ≡ false
none_too_long m [] q e h = absurd h
none_too_long m (p ∷ ps) q e (inl same) = ap (λ r. is_too_long (moved m.source m.path r)) same ∙ (neither (is_too_long (moved m.source m.path p)) (some_too_long m ps) e).0
  where
    neither : (a b : Bool) → (a || b) ≡ false → (a ≡ false) × (b ≡ false)
    neither true b e = absurd (false≢true (sym e))
    neither false b e = (refl, e)
none_too_long m (p ∷ ps) q e (inr h) = none_too_long m ps q (neither (is_too_long (moved m.source m.path p)) (some_too_long m ps) e).1 h
  where
    neither : (a b : Bool) → (a || b) ≡ false → (a ≡ false) × (b ≡ false)
    neither true b e = absurd (false≢true (sym e))
    neither false b e = (refl, e)

both_false : (a b : Bool) → (a || b) ≡ false → (a ≡ false) × (b ≡ false)
both_false true b e = absurd (false≢true (sym e))
both_false false b e = (refl, e)

at_most : (a b : ℕ) → nat_lt a b ≡ false → b ≤ a
at_most a b e = grind (arith, nat_tests)

-- two paths that aren't the account
with_heads : (a b r : Path) → (a ≡ [] → ⊥) → (b ≡ [] → ⊥) → KeepsLimits (a ++ r) → KeepsLimits b → length (join_with_byte 47 (b ++ r)) ≤ 1024 → length (b ++ r) ≤ 60 → KeepsLimits (b ++ r)
with_heads [] b r some_a some_b is to short shallow = absurd (some_a refl)
with_heads (fs ∷ a) [] r some_a some_b is to short shallow = absurd (some_b refl)
with_heads (fs ∷ a) (gs ∷ b) r some_a some_b is to short shallow = limits_joined fs a gs b r is to short shallow

text_of_joined : (a b r : Path) → (a ≡ [] → ⊥) → (b ≡ [] → ⊥) → length (join_with_byte 47 b) ≤ length (join_with_byte 47 a) → length (join_with_byte 47 (b ++ r)) ≤ length (join_with_byte 47 (a ++ r))
text_of_joined [] b r some_a some_b le = absurd (some_a refl)
text_of_joined (fs ∷ a) [] r some_a some_b le = absurd (some_b refl)
text_of_joined (fs ∷ a) (gs ∷ b) [] some_a some_b le = subst (λ p. length (join_with_byte 47 p) ≤ length (join_with_byte 47 ((fs ∷ a) ++ []))) (sym (append-nil (gs ∷ b))) (subst (λ p. length (join_with_byte 47 (gs ∷ b)) ≤ length (join_with_byte 47 p)) (sym (append-nil (fs ∷ a))) le)
text_of_joined (fs ∷ a) (gs ∷ b) (n ∷ r) some_a some_b le =
    let one = joined_length fs a n r in let two = joined_length gs b n r in omega arith

module _ (t : Tree) (is : IsTree t) (m : Moving) (x : Node) (there : at t m.source ≡ Some x) (from_sound : IsBelowRoot m.source) (to_sound : IsBelowRoot m.path) where
  -- a path that was looked at and isn't too long
  fits_where_looked : some_too_long m (subtree t m.source) ≡ false → FitsUnder t m.source m.path
  fits_where_looked e r k =
      let among = among_keys t (is_prefix m.source) (m.source ++ r) k (front_of_append m.source r) in
      let short = sym (ap is_too_long (moved_below m.source m.path r)) ∙ none_too_long m (subtree t m.source) (m.source ++ r) e among in
      let parts = both_false (nat_lt 60 (length (m.path ++ r))) (nat_lt 1024 (text_length (m.path ++ r))) short in
      with_heads m.source m.path r (long_path m.source from_sound.parts) (long_path m.path to_sound.parts) (is.limits (m.source ++ r) k) to_sound.limits (at_most 1024 _ parts.1) (at_most 60 _ parts.0)

  -- a destination that is no longer than the source
  fits_where_shorter : grows m ≡ false → FitsUnder t m.source m.path
  fits_where_shorter e r k =
      let parts = both_false (nat_lt (length m.source) (length m.path)) (nat_lt (text_length m.source) (text_length m.path)) e in
      let limits = is.limits (m.source ++ r) k in
      let shallow = at_most (length m.source) (length m.path) parts.0 in
      let deep = limits.depth_within in
      let one = length_append m.source r in
      let two = length_append m.path r in
      let text = text_of_joined m.source m.path r (long_path m.source from_sound.parts) (long_path m.path to_sound.parts) (at_most (text_length m.source) (text_length m.path) parts.1) in
      let long = limits.length_within in
      with_heads m.source m.path r (long_path m.source from_sound.parts) (long_path m.path to_sound.parts) limits to_sound.limits (omega arith) (omega arith)

  -- nothing stands below a file
  fits_where_file : is_directory x ≡ false → FitsUnder t m.source m.path
  fits_where_file file [] k = subst KeepsLimits (sym (append-nil m.path)) to_sound.limits
  fits_where_file file (n ∷ r) k = absurd (by_child (cases_Bool (is_some (at t (m.source ++ n ∷ [])))))
    where
      below_none : (r : Path) → is_some (at t (m.source ++ n ∷ [])) ≡ false → is_some (at t (m.source ++ n ∷ r)) ≡ false
      below_none [] none = none
      below_none (o ∷ r) none = subst (λ q. is_some (at t q) ≡ false) (append_assoc m.source (n ∷ []) (o ∷ r)) (nothing_below t is.parents (m.source ++ n ∷ []) o r none)

      by_child : (is_some (at t (m.source ++ n ∷ [])) ≡ true) ⊎ (is_some (at t (m.source ++ n ∷ [])) ≡ false) → ⊥
      by_child (inl child) = false≢true (sym file ∙ subst (λ (o : Option Node). IsDirectory o) there (is.parents m.source n child))
      by_child (inr none) = false≢true (sym (below_none r none) ∙ k)

  pub fits_unless : (is_directory x && grows m) ≡ false → FitsUnder t m.source m.path
  fits_unless e = by_kind (cases_Bool (is_directory x))
    where
      second : (a b : Bool) → (a && b) ≡ false → a ≡ true → b ≡ false
      second true b e k = e
      second false b e k = absurd (false≢true k)

      by_kind : (is_directory x ≡ true) ⊎ (is_directory x ≡ false) → FitsUnder t m.source m.path
      by_kind (inl dir) = fits_where_shorter (second (is_directory x) (grows m) e dir)
      by_kind (inr file) = fits_where_file file

  pub fits_looked : some_too_long m (subtree t m.source) ≡ false → FitsUnder t m.source m.path
  fits_looked = fits_where_looked
