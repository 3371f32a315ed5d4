-- Fronts of paths within the limits, and paths joined anew.
use Rattle.std.proofs.Common.{◌≡◌, ℕ, suc, ◌+◌, ◌≤◌, true, List, [], ◌∷◌, ◌++◌, length, refl, ap, sym, subst, ◌∙◌, append_assoc, length-append, arith}
use Rattle.std.specs.List.{list_all, join_with_byte}
use Rattle.std.proofs.lemmas.List.{append-nil}
use Rattle.std.proofs.lemmas.List.Folds.{list_all-append}
use Rattle.path_text.specs.Names.{is_fs_name, is_name}
use Rattle.path_text.specs.Texts.{KeepsLimits}
use Rattle.namespace_model.specs.Trees.{Path}
use Rattle.namespace_model.proofs.Prefixes.{both, together}

join_split : (fs : List ℕ) (p : Path) (n : List ℕ) (r : Path) → join_with_byte 47 ((fs ∷ p) ++ n ∷ r) ≡ join_with_byte 47 (fs ∷ p) ++ 47 ∷ join_with_byte 47 (n ∷ r)
join_split fs [] n r = refl
join_split fs (m ∷ p) n r =
    ap (λ text. fs ++ 47 ∷ text) (join_split m p n r) ∙ sym (append_assoc fs (47 ∷ join_with_byte 47 (m ∷ p)) (47 ∷ join_with_byte 47 (n ∷ r)))

names_split : (p r : Path) → list_all is_name (p ++ r) ≡ true → (list_all is_name p ≡ true) × (list_all is_name r ≡ true)
names_split p r all = both (list_all is_name p) (list_all is_name r) (sym (list_all-append is_name p r) ∙ all)

-- a front of a path within the limits is within them
front_limits : (fs : List ℕ) (p : Path) (n : List ℕ) (r : Path) → KeepsLimits ((fs ∷ p) ++ n ∷ r) → KeepsLimits (fs ∷ p)
front_limits fs p n r is =
    let parts = both (is_fs_name fs) (list_all is_name (p ++ n ∷ r)) is.parts in
    let split = join_split fs p n r in
    let long : length (join_with_byte 47 ((fs ∷ p) ++ n ∷ r)) ≡ length (join_with_byte 47 (fs ∷ p)) + length (47 ∷ join_with_byte 47 (n ∷ r)) =
    ap (λ (t : List ℕ). length t) split ∙ length-append (join_with_byte 47 (fs ∷ p)) (47 ∷ join_with_byte 47 (n ∷ r)) in
    let within = is.length_within in
    let deep : length ((fs ∷ p) ++ n ∷ r) ≡ length (fs ∷ p) + length (n ∷ r) = length-append (fs ∷ p) (n ∷ r) in
    let depth = is.depth_within in
    record {
      parts = together parts.0 (names_split p (n ∷ r) parts.1).0;
      length_within = omega arith;
      depth_within = omega arith;
    }

pub limits_front : (fs : List ℕ) (p r : Path) → KeepsLimits ((fs ∷ p) ++ r) → KeepsLimits (fs ∷ p)
limits_front fs p [] is = subst KeepsLimits (append-nil (fs ∷ p)) is
limits_front fs p (n ∷ r) is = front_limits fs p n r is

-- what stands below one path keeps the limits below another one, as far as it is short enough
joined_limits : (fs : List ℕ) (a : Path) (gs : List ℕ) (b : Path) (n : List ℕ) (r : Path) → KeepsLimits ((fs ∷ a) ++ n ∷ r) → KeepsLimits (gs ∷ b)
    → length (join_with_byte 47 ((gs ∷ b) ++ n ∷ r)) ≤ 1024 → length ((gs ∷ b) ++ n ∷ r) ≤ 60 → KeepsLimits ((gs ∷ b) ++ n ∷ r)
joined_limits fs a gs b n r is to short shallow =
    let names = (names_split a (n ∷ r) (both (is_fs_name fs) (list_all is_name (a ++ n ∷ r)) is.parts).1).1 in
    let parts = both (is_fs_name gs) (list_all is_name b) to.parts in
    record {
      parts = together parts.0 (list_all-append is_name b (n ∷ r) ∙ together parts.1 names);
      length_within = short;
      depth_within = shallow;
    }

pub limits_joined : (fs : List ℕ) (a : Path) (gs : List ℕ) (b r : Path) → KeepsLimits ((fs ∷ a) ++ r) → KeepsLimits (gs ∷ b)
    → length (join_with_byte 47 ((gs ∷ b) ++ r)) ≤ 1024 → length ((gs ∷ b) ++ r) ≤ 60 → KeepsLimits ((gs ∷ b) ++ r)
limits_joined fs a gs b [] is to short shallow = subst KeepsLimits (sym (append-nil (gs ∷ b))) to
limits_joined fs a gs b (n ∷ r) is to short shallow = joined_limits fs a gs b n r is to short shallow

-- how long the text of a joined path is
pub joined_length : (fs : List ℕ) (p : Path) (n : List ℕ) (r : Path) → length (join_with_byte 47 ((fs ∷ p) ++ n ∷ r)) ≡ length (join_with_byte 47 (fs ∷ p)) + suc (length (join_with_byte 47 (n ∷ r)))
joined_length fs p n r = ap (λ (t : List ℕ). length t) (join_split fs p n r) ∙ length-append (join_with_byte 47 (fs ∷ p)) (47 ∷ join_with_byte 47 (n ∷ r))
