-- What a rename asks, in its order, by what was found at both ends.
use Rattle.std.specs.Prelude.{false, not, Option, Some, None}
use Rattle.std.specs.Option.{option_map_or}
use Rattle.head_text.specs.ConditionsOf.{conditions_of}
use Rattle.lease_state.specs.LeaseTable.{lease_may_write}
use Rattle.namespace_model.specs.declared.code.Code.TheVariants.{PathAlreadyExists, ResourceTypeMismatch, DirectoryNotEmpty}
use Rattle.namespace_model.specs.declared.reply.Reply.{Reply}
use Rattle.namespace_model.specs.Nodes.{has_kind, kind_of}
use Rattle.namespace_model.specs.Refusals.{is_guarded, unmet_for_change, stamps_of, refused_by_lease, refuse_if, or_else}
use Rattle.inode_tree.specs.Inodes.{BareInode, node_of}
use Rattle.path_walk.specs.declared.call.Call.{Call}
use Rattle.path_walk.specs.Children.{has_children}
use Rattle.path_order.specs.declared.cursor.Seen.{Seen}
use Rattle.dir_rename.specs.declared.eval.Ends.{Ends}

-- the lease of the source refuses the source's lease id, or that there is none
abbrev pub lease_refusal : Call → BareInode → Option Reply
lease_refusal call x = refused_by_lease (lease_may_write (node_of x).lease call.request.now.source_lease call.moment)

-- Nothing stands at the destination: the conditions, and the lease of the source.
abbrev pub refusal_new : Call → BareInode → Option Reply
refusal_new call x = or_else (unmet_for_change (conditions_of call.request.now.cond None)) (lease_refusal call x)

-- A node stands there, in this directory: the sticky bit, If-None-Match, the conditions, the lease of the source, the kinds, and that it is empty.
abbrev pub refusal_over : Call → BareInode → BareInode → BareInode → Option Reply
refusal_over call dir x y =
    or_else (is_guarded call.caller.now (node_of dir) call.path.now (node_of y))
    (or_else (refuse_if (option_map_or (λ tags. tags.any) call.request.now.cond.none false) PathAlreadyExists)
    (or_else (unmet_for_change (conditions_of call.request.now.cond (Some (stamps_of (node_of y)))))
    (or_else (lease_refusal call x)
    (or_else (refuse_if (not (has_kind (kind_of (node_of x)) (node_of y))) ResourceTypeMismatch)
    (refuse_if (has_children y) DirectoryNotEmpty)))))

abbrev pub refusal_by : Call → BareInode → BareInode → Option Seen → Option Reply
refusal_by call dir x None = refusal_new call x
refusal_by call dir x (Some old) = refusal_over call dir x old.node

abbrev pub refusal_of : Call → Ends → Option Reply
refusal_of call ends = refusal_by call ends.to.node ends.top.node ends.old
