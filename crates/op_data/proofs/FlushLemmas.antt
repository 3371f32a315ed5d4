-- What comes of a flush, by the first refusal of what it asks.
use Rattle.std.proofs.Common.{◌≡◌, ℕ, Bool, Option, Some, None, Result, Ok, Err, refl, ap, ◌∙◌}
use Rattle.file_data.specs.declared.fault.DataFault.{DataFault}
use Rattle.file_data.specs.FileRecord.{FileRecord, flush_answer}
use Rattle.namespace_model.specs.declared.reply.Reply.{Reply}
use Rattle.namespace_model.specs.declared.request.Entry.{Entry}
use Rattle.namespace_model.specs.Contents.{data_of, refused_flush}
use Rattle.namespace_model.specs.Flush.{flushed_to}
use Rattle.namespace_model.specs.Outcomes.{unless}
use Rattle.namespace_model.specs.Refusals.{is_unmet, lease_refuses, or_else}
use Rattle.namespace_model.specs.Trees.{Path}
use Rattle.inode_tree.specs.Inodes.{BareInode, node_content, node_of}
use Rattle.path_walk.proofs.QuestionLemmas.{unless_both, unless_rest}
use Rattle.op_data.specs.Tasks.{IsFileOf, of_flush}

second_none : (a b : Option Reply) → or_else a b ≡ None → b ≡ None
second_none None b e = e
second_none (Some reply) b e = absurd (cc)

flush_passes : (answer : Result Unit DataFault) → refused_flush answer ≡ None → answer ≡ Ok tt
flush_passes (Ok u) e = refl
flush_passes (Err fault) e = absurd (cc)

module _ (e : Entry) (p : Path) (position : ℕ) (x : BareInode) (f : FileRecord) (is : IsFileOf x f) where
  -- what a flush asks
  abbrev asked_of_flush : Option Reply
  asked_of_flush =
      or_else (is_unmet e (node_of x))
      (or_else (lease_refuses e e.request.lease (node_of x))
      (refused_flush (flush_answer f position)))

  same_answer : flush_answer (data_of (node_of x).content) position ≡ flush_answer f position
  same_answer = ap (λ c. flush_answer (data_of (node_content c)) position) is

  pub flush_asks : (retain : Bool) → of_flush e p position retain (node_of x) ≡ unless asked_of_flush (flushed_to e p position retain (node_of x))
  flush_asks retain =
      unless_rest (is_unmet e (node_of x)) _ _ _ (unless_both (lease_refuses e e.request.lease (node_of x)) (refused_flush (flush_answer (data_of (node_of x).content) position)) (flushed_to e p position retain (node_of x)))
      ∙ ap (λ answer. unless (or_else (is_unmet e (node_of x)) (or_else (lease_refuses e e.request.lease (node_of x)) (refused_flush answer))) (flushed_to e p position retain (node_of x))) same_answer

  -- where nothing is refused, the flush is allowed
  pub flush_allowed : asked_of_flush ≡ None → flush_answer (data_of (node_of x).content) position ≡ Ok tt
  flush_allowed none = same_answer ∙ flush_passes (flush_answer f position) (second_none (lease_refuses e e.request.lease (node_of x)) _ (second_none (is_unmet e (node_of x)) _ none))
