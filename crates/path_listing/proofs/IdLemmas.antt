-- The ids of what was read, one by one.
use Rattle.std.proofs.Common.{◌≡◌, ℕ, ◌+◌, ◌<◌, List, [], ◌∷◌, ◌++◌, length, take, refl, sym, ap, ◌∙◌, append_assoc}
use Rattle.std.specs.Prelude.{slice_index_or}
use Rattle.inode_tree.specs.declared.id.NodeId.{NodeId}
use Rattle.inode_tree.specs.Promises.{numbers_of}
use Rattle.path_order.specs.PagesBelow.{ids_in}
use Rattle.path_order.proofs.IdLemmas.{take_next, take_whole, id_more}
use Rattle.path_listing.specs.declared.rows.Row.{Row}
use Rattle.path_listing.specs.Listed.{nodes_in}

rows_more : (rows : List Row) (r : Row) → ids_in (nodes_in (rows ++ r ∷ [])) ≡ ids_in (nodes_in rows) ++ r.seen.id.0 ∷ []
rows_more [] r = refl
rows_more (x ∷ rows) r = ap (λ l. x.seen.id.0 ∷ l) (rows_more rows r)

pub rows_next : (base : List ℕ) (rows : List Row) (i : ℕ) (r : Row) (ids more : List NodeId) → i < length rows → r ≡ slice_index_or rows i r → numbers_of ids ≡ base ++ ids_in (nodes_in (take i rows))
    → more ≡ ids ++ r.seen.id ∷ [] → numbers_of more ≡ base ++ ids_in (nodes_in (take (i + 1) rows))
rows_next base rows i r ids more within item are is =
    id_more base (ids_in (nodes_in (take i rows))) ids more r.seen.id are is ∙ ap (λ l. base ++ l) (sym (rows_more (take i rows) r) ∙ ap (λ (l : List Row). ids_in (nodes_in l)) (take_next rows i r within item))

pub rows_all : (base : List ℕ) (rows : List Row) (i : ℕ) (ids : List NodeId) → i ≡ length rows → numbers_of ids ≡ base ++ ids_in (nodes_in (take i rows)) → numbers_of ids ≡ base ++ ids_in (nodes_in rows)
rows_all base rows i ids all are = are ∙ ap (λ (l : List Row). base ++ ids_in (nodes_in l)) (take_whole rows i all)

-- the ids of both
pub both_next : (base way rows : List ℕ) (between after : List NodeId) → numbers_of between ≡ base ++ way → numbers_of after ≡ numbers_of between ++ rows → numbers_of after ≡ base ++ (way ++ rows)
both_next base way rows between after first then = then ∙ ap (λ l. l ++ rows) first ∙ append_assoc base way rows
