-- What nodes that are to be written owe of what is held.
use Rattle.std.proofs.Common.{◌≡◌, ℕ, zero, suc, ◌%◌, ◌==◌, ◌<◌, Bool, true, false, ◌||◌, List, [], ◌∷◌, ◌++◌, length, get_or, refl, ap, sym, subst, ◌∙◌, arith}
use Rattle.std.proofs.Math.Dec.{lit<}
use Rattle.std.proofs.Math.Nat.{mod-lt}
use Rattle.std.proofs.lemmas.Bool.{false≢true}
use Rattle.std.specs.Cmp.{unsigned_Decides}
use Rattle.lock_core.specs.declared.object.LockMode.{LockMode}
use Rattle.lock_core.specs.declared.object.LockMode.TheVariants as mode
use Rattle.namespace_model.specs.declared.request.Request.{Request}
use Rattle.namespace_model.specs.Trees.{Tree}
use Rattle.inode_tree.specs.declared.fresh.Fresh.{Fresh}
use Rattle.inode_tree.specs.declared.id.NodeId.{NodeId}
use Rattle.inode_tree.specs.declared.need.Need.{Need}
use Rattle.inode_tree.specs.declared.placed.Placed.{Placed}
use Rattle.inode_tree.specs.Footprints.{lies_in, written_ids}
use Rattle.inode_tree.specs.Parts.{Parts}
use Rattle.inode_tree.specs.Promises.{IsEntryOf, IsNeed, NeedsStripe, numbers_of, is_one_of}
use Rattle.inode_tree.specs.Views.{Held, Shown, ArePossible, covers}
use Rattle.inode_tree.proofs.PromiseLemmas.{lies_one}
use Rattle.path_walk.specs.Holds.{AreHeldToWrite, LacksStripe}
use Rattle.path_walk.proofs.SetLemmas.{one_lies}
use Rattle.path_walk.proofs.TrailLemmas.{numbers-append, one_of_append}
use Rattle.path_walk.proofs.Truths.{either_true}

-- what covers an exclusive hold is one
pub exclusive_is : (m : LockMode) → covers m mode.Exclusive ≡ true → m ≡ mode.Exclusive
exclusive_is mode.None h = absurd (false≢true h)
exclusive_is mode.Shared h = absurd (false≢true h)
exclusive_is mode.Exclusive h = refl

-- one more id that is held
pub held_more : (held : Held) (ids : List NodeId) (one : NodeId) → AreHeldToWrite held ids → held (one.0 % 64) ≡ mode.Exclusive → AreHeldToWrite held (ids ++ one ∷ [])
held_more held ids one before here id h =
    by_first (is_one_of id (numbers_of ids)) refl (sym (one_of_append id (numbers_of ids) (one.0 ∷ [])) ∙ ap (is_one_of id) (sym (numbers-append ids (one ∷ []))) ∙ h)
  where
    by_last : (b : Bool) → (one.0 == id) ≡ b → (b || false) ≡ true → held (id % 64) ≡ mode.Exclusive
    by_last true e k = subst (λ i. held (i % 64) ≡ mode.Exclusive) ((unsigned_Decides one.0 id).0 e) here
    by_last false e k = absurd (false≢true k)

    by_first : (b : Bool) → is_one_of id (numbers_of ids) ≡ b → (b || ((one.0 == id) || false)) ≡ true → held (id % 64) ≡ mode.Exclusive
    by_first true e k = before id e
    by_first false e k = by_last (one.0 == id) refl k

lies_at : (ids : List NodeId) (i : ℕ) (none : NodeId) → i < length ids → lies_in ((get_or ids i none).0 % 64) (numbers_of ids) ≡ true
lies_at [] i none h = absurd (omega arith)
lies_at (x ∷ xs) zero none h = ap (λ b. b || lies_in (x.0 % 64) (numbers_of xs)) ((unsigned_Decides (x.0 % 64) (x.0 % 64)).1 refl)
lies_at (x ∷ xs) (suc i) none h = ap (λ b. (x.0 % 64 == (get_or xs i none).0 % 64) || b) (lies_at xs i none (omega arith)) ∙ either_true (x.0 % 64 == (get_or xs i none).0 % 64)

-- the stripe of an id of the list, which isn't held
pub lacks_stripe : (held : Held) (ids : List NodeId) (i : ℕ) (none : NodeId) → i < length ids → covers (held ((get_or ids i none).0 % 64)) mode.Exclusive ≡ false
    → LacksStripe held ids (record { stripe = (get_or ids i none).0 % 64; mode = mode.Exclusive })
lacks_stripe held ids i none within lacks = record { within = mod-lt (get_or ids i none).0 (lit< tt); asks = refl; lacks = lacks; of_one = lies_at ids i none within }

-- A stripe of ids that each such entry writes is needed, where it isn't held.
pub written_need : (held : Held) (shown : Shown) (request : Request) (moment : ℕ) (fresh : Fresh) (ids : List NodeId) (n : Need) → LacksStripe held ids n
    → ((parts : Parts) (t : Tree) (e : Placed) → ArePossible shown fresh.pass fresh.used parts t → IsEntryOf request moment fresh t e
    → (id : ℕ) → is_one_of id (numbers_of ids) ≡ true → is_one_of id (written_ids parts e) ≡ true)
    → IsNeed held shown request moment fresh n
written_need held shown request moment fresh ids n lacks says = record {
  within = lacks.within;
  lacks = ap (covers (held n.stripe)) lacks.asks ∙ lacks.lacks;
  needed = λ parts t e possible of.
      let one = lies_one n.stripe (numbers_of ids) lacks.of_one in
      subst (λ m. NeedsStripe m n.stripe parts e) (sym lacks.asks)
      (one_lies n.stripe one.0 (written_ids parts e) (says parts t e possible of one.0 one.1) one.2);
}
