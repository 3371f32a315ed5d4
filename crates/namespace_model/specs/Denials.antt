-- When a step denies access: what a denial says is so on the tree before the step.
use Rattle.std.specs.Prelude.{◌≡◌, ◌↔◌, ℕ, false, List, Option, Some, None, Err, IfSome, IsSome}
use Rattle.namespace_model.specs.declared.caller.Caller.{Caller}
use Rattle.namespace_model.specs.declared.denied.Denied.{Denied}
use Rattle.namespace_model.specs.declared.denied.Rule.{Rule}
use Rattle.namespace_model.specs.declared.denied.Rule.TheVariants as rule
use Rattle.namespace_model.specs.declared.op.Op.{Op}
use Rattle.namespace_model.specs.declared.op.Op.TheVariants as op
use Rattle.namespace_model.specs.declared.reply.Reply.{Reply}
use Rattle.namespace_model.specs.declared.request.Entry.{Entry}
use Rattle.namespace_model.specs.Nodes.{Node}
use Rattle.namespace_model.specs.Trees.{Tree, at, parent}
use Rattle.namespace_model.specs.Access.{access_check, is_superuser, sticky_lets, may_set_access, may_set_owner, may_set_group}
use Rattle.namespace_model.specs.Refusals.{caller_of}

-- The deciding case of the check on the node at the place denies what was wanted by this rule, with these bits compared last.
pub record IsCheckDenial (t : Tree) (caller : Caller) (d : Denied) : Type 0 where
  pub node : Node
  pub there : at t d.at ≡ Some node
  pub deciding : access_check node.acl.access node.owner node.group caller d.want ≡ Err (record { rule = d.rule; have = d.have })

-- no bits are wanted, and none were compared
pub record HasNoBits (d : Denied) : Type 0 where
  pub want : d.want ≡ 0
  pub have : d.have ≡ 0

-- the node at the place is a child of a sticky directory, and the caller is neither its owner nor the directory's nor the superuser
pub record IsStickyDenial (t : Tree) (caller : Caller) (d : Denied) : Type 0 where
  pub node : Node
  pub directory : Node
  pub there : at t d.at ≡ Some node
  pub above : at t (parent d.at) ≡ Some directory
  pub guarded : sticky_lets directory.sticky directory.owner node.owner caller ≡ false
  pub bits : HasNoBits d

-- the caller is neither the owner of the node at the place nor the superuser
pub record IsAclOwnerDenial (t : Tree) (caller : Caller) (d : Denied) : Type 0 where
  pub node : Node
  pub there : at t d.at ≡ Some node
  pub other : may_set_access node.owner caller ≡ false
  pub bits : HasNoBits d

-- the owner and the group that a request asks for
abbrev pub asked_owner : Op → Option (List ℕ)
asked_owner (op.SetAccess path owner group permissions acl) = owner
asked_owner other = None

abbrev pub asked_group : Op → Option (List ℕ)
asked_group (op.SetAccess path owner group permissions acl) = group
asked_group other = None

-- another owner than the present one is asked for, and the caller isn't the superuser
pub record IsUserOwnerDenial (t : Tree) (e : Entry) (d : Denied) : Type 0 where
  pub node : Node
  pub owner : List ℕ
  pub there : at t d.at ≡ Some node
  pub asked : asked_owner e.request.op ≡ Some owner
  pub other : may_set_owner node.owner owner (caller_of e) ≡ false
  pub bits : HasNoBits d

-- another group than the present one is asked for, and the caller is neither the superuser nor an owner that belongs to it
pub record IsGroupOwnerDenial (t : Tree) (e : Entry) (d : Denied) : Type 0 where
  pub node : Node
  pub group : List ℕ
  pub there : at t d.at ≡ Some node
  pub asked : asked_group e.request.op ≡ Some group
  pub other : may_set_group node.owner node.group group (caller_of e) ≡ false
  pub bits : HasNoBits d

-- the caller isn't the superuser
pub record IsSuperuserDenial (caller : Caller) (d : Denied) : Type 0 where
  pub other : is_superuser caller ≡ false
  pub bits : HasNoBits d

-- what a denial by each rule says
abbrev pub IsDenialBy : Rule → Tree → Entry → Denied → Type 0
IsDenialBy rule.Owner t e d = IsCheckDenial t (caller_of e) d
IsDenialBy rule.NamedUser t e d = IsCheckDenial t (caller_of e) d
IsDenialBy rule.Other t e d = IsCheckDenial t (caller_of e) d
IsDenialBy rule.Sticky t e d = IsStickyDenial t (caller_of e) d
IsDenialBy rule.AclOwner t e d = IsAclOwnerDenial t (caller_of e) d
IsDenialBy rule.UserOwner t e d = IsUserOwnerDenial t e d
IsDenialBy rule.GroupOwner t e d = IsGroupOwnerDenial t e d
IsDenialBy rule.SuperuserOnly t e d = IsSuperuserDenial (caller_of e) d

abbrev pub IsDenial : Tree → Entry → Denied → Type 0
IsDenial t e d = IsDenialBy d.rule t e d

-- a denial of a reply is so
abbrev pub DeniesRightly : Tree → Entry → Reply → Type 0
DeniesRightly t e reply = IfSome reply.denied (IsDenial t e)

-- the status is 403 exactly where a denial is named
abbrev pub NamesDenials : Reply → Type 0
NamesDenials reply = (reply.status ≡ 403) ↔ IsSome reply.denied
