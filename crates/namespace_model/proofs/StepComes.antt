-- Each step is refused, with a code and without lines, or comes to one of the successes of its operation.
use Rattle.std.proofs.Common.{◌≡◌, ℕ, Bool, true, false, List, [], ◌++◌, Option, Some, None, is_some, Result, Ok, Err, refl, ap}
use Rattle.namespace_model.specs.declared.denied.Refusal.{Refusal}
use Rattle.namespace_model.specs.declared.denied.Rule.{Rule}
use Rattle.namespace_model.specs.declared.denied.Rule.TheVariants as rule
use Rattle.namespace_model.specs.declared.reply.Reply.{Reply}
use Rattle.namespace_model.specs.declared.request.Entry.{Entry}
use Rattle.namespace_model.specs.Access.{access_check, is_superuser, sticky_lets, may_set_access, may_set_owner, may_set_group}
use Rattle.namespace_model.specs.Effects.{nothing}
use Rattle.namespace_model.specs.Nodes.{Node}
use Rattle.namespace_model.specs.Outcomes.{Outcome, answered, reading}
use Rattle.namespace_model.specs.Refusals.{caller_of, deny_unless, denied_by, may_not_set_owner, may_not_set_group}
use Rattle.namespace_model.specs.Step.{acts}
use Rattle.namespace_model.specs.Trees.{Path, Tree}
use Rattle.namespace_model.proofs.DenialSteps.{Asked, IsLaw, acts_holds}
use Rattle.namespace_model.proofs.Successes.{IsSuccess}

-- refused, with a code and without lines
pub record IsRefused (o : Outcome) : Type 0 where
  pub coded : is_some o.reply.code ≡ true
  pub no_lines : o.reply.fields ≡ []
  pub none_new : o.fresh ≡ []
  pub nothing_done : o.effect ≡ nothing

-- an outcome is refused, or is a success but for what was read before
pub data Comes (t : Tree) (e : Entry) (o : Outcome) : Type 0 where
  is_refused : IsRefused o → Comes t e o
  succeeds : (s : Outcome) → IsSuccess t e s → o ≡ record s { read = o.read } → Comes t e o

module _ (t : Tree) (e : Entry) where
  read_first : (ps : List Path) (o : Outcome) → Comes t e o → Comes t e (reading ps o)
  read_first ps o (is_refused stop) = is_refused (record { coded = stop.coded; no_lines = stop.no_lines; none_new = stop.none_new; nothing_done = stop.nothing_done })
  read_first ps o (succeeds s success same) = succeeds s success (ap (λ (x : Outcome). record x { read = ps ++ o.read }) same)

  coded_comes : (reply : Reply) → is_some reply.code ≡ true → reply.fields ≡ [] → Comes t e (answered reply)
  coded_comes reply coded no_lines = is_refused (record { coded = coded; no_lines = no_lines; none_new = refl; nothing_done = refl })

  deny_comes : (b : Bool) (r : Rule) (p : Path) → Asked (Comes t e) (deny_unless b r p)
  deny_comes true r p = record { asked = tt }
  deny_comes false r p = record { asked = coded_comes _ refl refl }

  rights_come : (p : Path) (want : ℕ) (r : Result Unit Refusal) → Asked (Comes t e) (denied_by p want r)
  rights_come p want (Ok allowed) = record { asked = tt }
  rights_come p want (Err r) = record { asked = coded_comes _ refl refl }

  owner_comes : (p : Path) (x : Node) (new : Option (List ℕ)) → Asked (Comes t e) (may_not_set_owner (caller_of e) p x new)
  owner_comes p x None = record { asked = tt }
  owner_comes p x (Some new) = deny_comes (may_set_owner x.owner new (caller_of e)) rule.UserOwner p

  group_comes : (p : Path) (x : Node) (new : Option (List ℕ)) → Asked (Comes t e) (may_not_set_group (caller_of e) p x new)
  group_comes p x None = record { asked = tt }
  group_comes p x (Some new) = deny_comes (may_set_group x.owner x.group new (caller_of e)) rule.GroupOwner p

  comes_law : IsLaw t e (Comes t e)
  comes_law = record {
    reads = read_first;
    succeeds = λ o success. succeeds o success refl;
    refuses = λ c plain. coded_comes _ refl refl;
    unmodified = coded_comes _ refl refl;
    shut = λ to p r walks is. coded_comes _ refl refl;
    rights = λ want p x is wanted. rights_come p want (access_check x.acl.access x.owner x.group (caller_of e) want);
    sticky = λ dir p x is above guard. deny_comes (sticky_lets dir.sticky dir.owner x.owner (caller_of e)) rule.Sticky p;
    superuser = λ p for. deny_comes (is_superuser (caller_of e)) rule.SuperuserOnly p;
    access = λ p x is by. deny_comes (may_set_access x.owner (caller_of e)) rule.AclOwner p;
    owner = λ p x new is asks by. owner_comes p x new;
    group = λ p x new is asks by. group_comes p x new;
  }

  pub acts_come : Comes t e (acts t e e.request.op)
  acts_come = acts_holds t e (Comes t e) comes_law e.request.op refl (λ c is. coded_comes _ refl refl)
