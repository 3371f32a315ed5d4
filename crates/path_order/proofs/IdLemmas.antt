-- Ids of nodes behind others, one by one.
use Rattle.std.proofs.Common.{◌≡◌, ℕ, zero, suc, ◌+◌, ◌<◌, List, [], ◌∷◌, ◌++◌, length, take, refl, sym, ap, ◌∙◌, append_assoc, arith}
use Rattle.std.proofs.Math.Seq.{take-suc}
use Rattle.std.specs.Prelude.{slice_index_or}
use Rattle.inode_tree.specs.declared.id.NodeId.{NodeId}
use Rattle.inode_tree.specs.Promises.{numbers_of}
use Rattle.path_walk.proofs.TrailLemmas.{numbers-append}
use Rattle.path_order.specs.declared.cursor.Seen.{Seen}
use Rattle.path_order.specs.PagesBelow.{ids_in}

-- ---- a list, one by one

pub take_next : {A : Type 0} (xs : List A) (i : ℕ) (x : A) → i < length xs → x ≡ slice_index_or xs i x → take i xs ++ x ∷ [] ≡ take (i + 1) xs
take_next xs i x within item = ap (λ y. take i xs ++ y ∷ []) item ∙ sym (take-suc xs i x within) ∙ ap (λ k. take k xs) (let h : suc i ≡ i + 1 = omega arith in h)

pub take_whole : {A : Type 0} (xs : List A) (i : ℕ) → i ≡ length xs → take i xs ≡ xs
take_whole [] zero e = refl
take_whole [] (suc i) e = refl
take_whole (x ∷ xs) zero e = absurd (omega arith)
take_whole (x ∷ xs) (suc i) e = ap (λ l. x ∷ l) (take_whole xs i (omega arith))

-- ---- the ids of nodes

pub ids_more : (seen : List Seen) (s : Seen) → ids_in (seen ++ s ∷ []) ≡ ids_in seen ++ s.id.0 ∷ []
ids_more [] s = refl
ids_more (x ∷ seen) s = ap (λ l. x.id.0 ∷ l) (ids_more seen s)

-- one id more behind these
pub id_more : (base so_far : List ℕ) (ids more : List NodeId) (id : NodeId) → numbers_of ids ≡ base ++ so_far → more ≡ ids ++ id ∷ [] → numbers_of more ≡ base ++ (so_far ++ id.0 ∷ [])
id_more base so_far ids more id are is =
    ap (λ (l : List NodeId). numbers_of l) is ∙ numbers-append ids (id ∷ []) ∙ ap (λ l. l ++ id.0 ∷ []) are ∙ append_assoc base so_far (id.0 ∷ [])

pub way_next : (base : List ℕ) (way : List Seen) (i : ℕ) (s : Seen) (ids more : List NodeId) → i < length way → s ≡ slice_index_or way i s → numbers_of ids ≡ base ++ ids_in (take i way) → more ≡ ids ++ s.id ∷ []
    → numbers_of more ≡ base ++ ids_in (take (i + 1) way)
way_next base way i s ids more within item are is =
    id_more base (ids_in (take i way)) ids more s.id are is ∙ ap (λ l. base ++ l) (sym (ids_more (take i way) s) ∙ ap (λ (l : List Seen). ids_in l) (take_next way i s within item))

pub way_all : (base : List ℕ) (way : List Seen) (i : ℕ) (ids : List NodeId) → i ≡ length way → numbers_of ids ≡ base ++ ids_in (take i way) → numbers_of ids ≡ base ++ ids_in way
way_all base way i ids all are = are ∙ ap (λ (l : List Seen). base ++ ids_in l) (take_whole way i all)
