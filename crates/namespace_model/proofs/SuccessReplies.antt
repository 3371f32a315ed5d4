-- The reply of a success has no code and no denial, and its status is no denial's.
use Rattle.std.proofs.Common.{◌≡◌, false, ◌==◌, None, refl, ap, ◌∙◌}
use Rattle.lease_state.specs.declared.lease.LeaseAction.{LeaseAction}
use Rattle.lease_state.specs.declared.lease.LeaseAction.TheVariants as action
use Rattle.namespace_model.specs.declared.reply.Reply.{Reply}
use Rattle.namespace_model.specs.declared.request.Entry.{Entry}
use Rattle.namespace_model.specs.LeaseNode.{action_status}
use Rattle.namespace_model.specs.Outcomes.{Outcome}
use Rattle.namespace_model.specs.Trees.{Tree}
use Rattle.namespace_model.proofs.Successes.{IsSuccess, a_filesystem_is_made, a_filesystem_is_shown, a_filesystem_is_set, a_filesystem_goes, filesystems_are_listed, paths_are_listed, nodes_are_made, a_node_moves, a_file_is_read, a_part_is_read, properties_are_shown, access_is_shown, a_right_is_there, a_file_is_appended_to, a_file_is_flushed, properties_are_set, access_is_set, a_batch_is_done, a_lease_is_acted_on, nodes_go}

-- no code, no denial, and another status than a denial's
pub record IsPlainReply (reply : Reply) : Type 0 where
  pub code : reply.code ≡ None
  pub denied : reply.denied ≡ None
  pub status : (reply.status == 403) ≡ false

action_plain : (a : LeaseAction) → (action_status a == 403) ≡ false
action_plain (action.Acquire id secs) = refl
action_plain (action.Renew id) = refl
action_plain (action.Change id other) = refl
action_plain (action.Release id) = refl
action_plain (action.Break period) = refl

plain_as : (o other : Outcome) → o ≡ other → IsPlainReply other.reply → IsPlainReply o.reply
plain_as o other same h = record {
  code = ap (λ (x : Outcome). x.reply.code) same ∙ h.code;
  denied = ap (λ (x : Outcome). x.reply.denied) same ∙ h.denied;
  status = ap (λ (x : Outcome). x.reply.status == 403) same ∙ h.status;
}

pub plain_success : (t : Tree) (e : Entry) (o : Outcome) → IsSuccess t e o → IsPlainReply o.reply
plain_success t e o (a_filesystem_is_made path props is same) = plain_as o _ same (record { code = refl; denied = refl; status = refl })
plain_success t e o (a_filesystem_is_shown path x is there same) = plain_as o _ same (record { code = refl; denied = refl; status = refl })
plain_success t e o (a_filesystem_is_set path props x is there same) = plain_as o _ same (record { code = refl; denied = refl; status = refl })
plain_success t e o (a_filesystem_goes path x is same) = plain_as o _ same (record { code = refl; denied = refl; status = refl })
plain_success t e o (filesystems_are_listed prefix token max next body ps is same) = plain_as o _ same (record { code = refl; denied = refl; status = refl })
plain_success t e o (paths_are_listed dir recursive token max fs next body is same) = plain_as o _ same (record { code = refl; denied = refl; status = refl })
plain_success t e o (nodes_are_made path kind permissions umask props base x replaced is base_is same) = plain_as o _ same (record { code = refl; denied = refl; status = refl })
plain_success t e o (a_node_moves path source props x replaced is same) = plain_as o _ same (record { code = refl; denied = refl; status = refl })
plain_success t e o (a_file_is_read path range x bytes is there same) = plain_as o _ same (record { code = refl; denied = refl; status = refl })
plain_success t e o (a_part_is_read path range x bytes from to is there same) = plain_as o _ same (record { code = refl; denied = refl; status = refl })
plain_success t e o (properties_are_shown path status x is there same) = plain_as o _ same (record { code = refl; denied = refl; status = refl })
plain_success t e o (access_is_shown path x is there same) = plain_as o _ same (record { code = refl; denied = refl; status = refl })
plain_success t e o (a_right_is_there path want is same) = plain_as o _ same (record { code = refl; denied = refl; status = refl })
plain_success t e o (a_file_is_appended_to path position flush retain action x after is there same) = plain_as o _ same (record { code = refl; denied = refl; status = refl })
plain_success t e o (a_file_is_flushed path position retain x is there same) = plain_as o _ same (record { code = refl; denied = refl; status = refl })
plain_success t e o (properties_are_set path props x is there same) = plain_as o _ same (record { code = refl; denied = refl; status = refl })
plain_success t e o (access_is_set path owner group permissions acl x pair is there same) = plain_as o _ same (record { code = refl; denied = refl; status = refl })
plain_success t e o (a_batch_is_done path change token max force is same) = plain_as o _ same (record { code = refl; denied = refl; status = refl })
plain_success t e o (a_lease_is_acted_on path act x after is there same) = plain_as o _ same (record { code = refl; denied = refl; status = action_plain act })
plain_success t e o (nodes_go path recursive is same) = plain_as o _ same (record { code = refl; denied = refl; status = refl })

pub no_code : (t : Tree) (e : Entry) (o : Outcome) → IsSuccess t e o → o.reply.code ≡ None
no_code t e o success = (plain_success t e o success).code
