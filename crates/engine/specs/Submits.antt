-- One submit.
use Rattle.std.specs.Prelude.{◌≡◌, ◌+◌, true, false, [], ◌∷◌, ◌++◌, length}
use Rattle.namespace_model.specs.declared.request.Entry.{Entry}
use Rattle.namespace_model.specs.Step.{tree_after, new_paths}
use Rattle.engine.specs.declared.solo.Answer.{Answer}
use Rattle.engine.specs.Solos.{SoloView, parts_in, placed_behind}
use Rattle.inode_tree.specs.After.{after}
use Rattle.inode_tree.specs.Footprints.{reads, writes}
use Rattle.striped_store.specs.Receipts.{AreBits}
use Rattle.serving.specs.Texts.{texts_of}
use Rattle.reply_marks.specs.Marks.{next_mark}

-- The entry is the journal's last. The answer has the text of its reply in the run of the journal, what that counts as, and its number. The parts are those that the
-- entry makes of the ones before, its new nodes have the next ids, and the receipt has the stripes of what it wrote, and of what it read alone.
pub record Submits (old new : SoloView) (entry : Entry) (answer : Answer) : Type 0 where
  pub journal : new.entries ≡ old.entries ++ entry ∷ []
  pub text : texts_of new.entries ≡ texts_of old.entries ++ answer.bytes.items ∷ []
  pub mark : answer.mark ≡ next_mark old.entries entry
  pub parts : parts_in new ≡ after (parts_in old) (placed_behind old entry) (length new.entries)
  pub ids : new.used ≡ old.used + length (new_paths (tree_after old.entries) entry)
  pub number : answer.receipt.number ≡ length new.entries
  pub written : AreBits answer.receipt.exclusive (λ k. writes (parts_in old) (placed_behind old entry) k ≡ true)
  pub read : AreBits answer.receipt.shared (λ k. (writes (parts_in old) (placed_behind old entry) k ≡ false) × (reads (parts_in old) (placed_behind old entry) k ≡ true))
  pub rounds : answer.receipt.rounds ≡ 1

-- the journal has the same entries and limits, the parts are the same, and as many ids are used
pub record IsUnchanged (old new : SoloView) : Type 0 where
  pub entries : new.entries ≡ old.entries
  pub limits : new.limits ≡ old.limits
  pub parts : parts_in new ≡ parts_in old
  pub used : new.used ≡ old.used
