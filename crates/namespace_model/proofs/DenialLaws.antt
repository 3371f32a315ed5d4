-- A step that denies access denies it for what is so on the tree, and its status says so.
use Rattle.std.proofs.Common.{◌≡◌, ℕ, Bool, true, false, ◌==◌, List, [], ◌∷◌, Option, Some, None, is_some, Result, Ok, Err, if◌then◌else◌, refl, ap, sym, subst, ◌∙◌}
use Rattle.std.proofs.lemmas.Bool.{false≢true}
use Rattle.std.specs.Prelude.{IfSome, IsSome}
use Rattle.std.specs.Cmp.{unsigned_Decides}
use Rattle.acl_text.specs.declared.who.Who.{Who}
use Rattle.acl_text.specs.declared.who.Who.TheVariants as who
use Rattle.namespace_model.specs.declared.caller.Caller.{Caller}
use Rattle.namespace_model.specs.declared.code.Code.{Code}
use Rattle.namespace_model.specs.declared.code.Code.TheVariants as code
use Rattle.namespace_model.specs.declared.denied.Denied.{Denied}
use Rattle.namespace_model.specs.declared.denied.Refusal.{Refusal}
use Rattle.namespace_model.specs.declared.denied.Rule.{Rule}
use Rattle.namespace_model.specs.declared.denied.Rule.TheVariants as rule
use Rattle.namespace_model.specs.declared.op.Op.{Op}
use Rattle.namespace_model.specs.declared.op.Op.TheVariants as op
use Rattle.namespace_model.specs.declared.reply.Reply.{Reply}
use Rattle.namespace_model.specs.declared.request.Entry.{Entry}
use Rattle.namespace_model.specs.Nodes.{Node}
use Rattle.namespace_model.specs.Trees.{Path, Tree, at, parent, IsDirectoryAt}
use Rattle.namespace_model.specs.Access.{access_check, judged, Case, decided, cases, bits_of, masked_by, is_within, is_superuser, sticky_lets, may_set_access, may_set_owner, may_set_group}
use Rattle.namespace_model.specs.Replies.{denial, not_modified}
use Rattle.namespace_model.specs.Outcomes.{Outcome, answered, refused}
use Rattle.namespace_model.specs.Refusals.{caller_of, deny_unless, denied_by, lacks, may_not_set_owner, may_not_set_group}
use Rattle.namespace_model.specs.Denials.{IsCheckDenial, HasNoBits, IsDenialBy, IsDenial, DeniesRightly, NamesDenials, asked_owner, asked_group}
use Rattle.namespace_model.specs.Sound.{IsSound, IsOperation, is_of_decoding}
use Rattle.namespace_model.specs.Step.{acts, outcome, closing}
use Rattle.namespace_model.proofs.WayLemmas.{IsShut}
use Rattle.namespace_model.proofs.SuccessReplies.{plain_success}
use Rattle.namespace_model.proofs.DenialSteps.{Asked, IsLaw, IsPlain, acts_holds}

-- ---- the rules of the check

unfoldable pub is_check_rule : Rule → Bool
is_check_rule rule.Owner = true
is_check_rule rule.NamedUser = true
is_check_rule rule.Other = true
is_check_rule rule.Sticky = false
is_check_rule rule.AclOwner = false
is_check_rule rule.UserOwner = false
is_check_rule rule.GroupOwner = false
is_check_rule rule.SuperuserOnly = false

-- where it denies, by one of the three rules of the check
abbrev pub ByCheck : Result Unit Refusal → Type 0
ByCheck (Ok allowed) = Unit {0}
ByCheck (Err r) = is_check_rule r.rule ≡ true

if_by_check : (b : Bool) (x y : Result Unit Refusal) → ByCheck x → ByCheck y → ByCheck (if b then x else y)
if_by_check true x y h k = h
if_by_check false x y h k = k

judged_by_check : (r : Rule) (want have : ℕ) → is_check_rule r ≡ true → ByCheck (judged r want have)
judged_by_check r want have h = if_by_check (is_within want have) (Ok tt) (Err (record { rule = r; have = have })) tt h

-- each case of the check
abbrev AllByCheck : List Case → Type 0
AllByCheck [] = Unit {0}
AllByCheck (c ∷ cs) = ByCheck c.says × AllByCheck cs

decided_by_check : (cs : List Case) (last : Result Unit Refusal) → AllByCheck cs → ByCheck last → ByCheck (decided cs last)
decided_by_check [] last h k = k
decided_by_check (c ∷ cs) last h k = if_by_check c.applies c.says (decided cs last) h.0 (decided_by_check cs last h.1 k)

pub check_by_check : (acl : List (Who × ℕ)) (owner group : List ℕ) (caller : Caller) (want : ℕ) → ByCheck (access_check acl owner group caller want)
unfolding access_check is_check_rule
check_by_check acl owner group caller want =
    decided_by_check (cases acl owner group caller want) (judged rule.Other want (bits_of acl who.Other)) (
      tt,
      (
        judged_by_check rule.Owner want (bits_of acl who.Owner) refl,
        (judged_by_check rule.NamedUser want (masked_by acl (bits_of acl (who.User caller.id))) refl, (tt, tt)),
      ),
    )
    (judged_by_check rule.Other want (bits_of acl who.Other) refl)

-- ---- what a denial says is so

pub deny_asked : (Q : Outcome → Type 0) (b : Bool) (r : Rule) (p : Path) → (b ≡ false → Q (answered (denial r p 0 0))) → Asked Q (deny_unless b r p)
deny_asked Q true r p h = record { asked = tt }
deny_asked Q false r p h = record { asked = h refl }

pub no_bits : (r : Rule) (p : Path) → HasNoBits (record { rule = r; at = p; want = 0; have = 0 })
no_bits r p = record { want = refl; have = refl }

module _ (t : Tree) (root : IsDirectoryAt t []) (e : Entry) where
  Rightly : Outcome → Type 0
  Rightly o = DeniesRightly t e o.reply

  by_rule : (r : Rule) (d : Denied) → is_check_rule r ≡ true → IsCheckDenial t (caller_of e) d → IsDenialBy r t e d
  unfolding is_check_rule
  by_rule rule.Owner d h k = k
  by_rule rule.NamedUser d h k = k
  by_rule rule.Other d h k = k
  by_rule rule.Sticky d h k = absurd (false≢true h)
  by_rule rule.AclOwner d h k = absurd (false≢true h)
  by_rule rule.UserOwner d h k = absurd (false≢true h)
  by_rule rule.GroupOwner d h k = absurd (false≢true h)
  by_rule rule.SuperuserOnly d h k = absurd (false≢true h)

  rights_by : (want : ℕ) (p : Path) (x : Node) → at t p ≡ Some x → (r : Result Unit Refusal) → access_check x.acl.access x.owner x.group (caller_of e) want ≡ r → ByCheck r
      → Asked Rightly (denied_by p want r)
  unfolding Rightly
  rights_by want p x is (Ok allowed) says h = record { asked = tt }
  rights_by want p x is (Err r) says h = record {
    asked = by_rule r.rule (record { rule = r.rule; at = p; want = want; have = r.have }) h (record { node = x; there = is; deciding = says });
  }

  shut_rightly : (whole p : Path) (r : Refusal) → IsShut t (caller_of e) whole p r → Rightly (answered (denial r.rule p 1 r.have))
  unfolding Rightly
  shut_rightly whole p r is =
      by_rule r.rule (record { rule = r.rule; at = p; want = 1; have = r.have })
      (subst ByCheck is.denies (check_by_check is.node.acl.access is.node.owner is.node.group (caller_of e) 1)) (record { node = is.node; there = is.there; deciding = is.denies })

  rights_rightly : (want : ℕ) (p : Path) (x : Node) → at t p ≡ Some x → Asked Rightly (lacks (caller_of e) want p x)
  rights_rightly want p x is =
      rights_by want p x is (access_check x.acl.access x.owner x.group (caller_of e) want) refl (check_by_check x.acl.access x.owner x.group (caller_of e) want)

  owner_rightly : (p : Path) (x : Node) (new : Option (List ℕ)) → at t p ≡ Some x → asked_owner e.request.op ≡ new → Asked Rightly (may_not_set_owner (caller_of e) p x new)
  unfolding Rightly
  owner_rightly p x None is asks = record { asked = tt }
  owner_rightly p x (Some new) is asks = deny_asked Rightly (may_set_owner x.owner new (caller_of e)) rule.UserOwner p (λ other.
      record { node = x; owner = new; there = is; asked = asks; other = other; bits = no_bits rule.UserOwner p })

  group_rightly : (p : Path) (x : Node) (new : Option (List ℕ)) → at t p ≡ Some x → asked_group e.request.op ≡ new → Asked Rightly (may_not_set_group (caller_of e) p x new)
  unfolding Rightly
  group_rightly p x None is asks = record { asked = tt }
  group_rightly p x (Some new) is asks = deny_asked Rightly (may_set_group x.owner x.group new (caller_of e)) rule.GroupOwner p (λ other.
      record { node = x; group = new; there = is; asked = asks; other = other; bits = no_bits rule.GroupOwner p })

  rightly_law : IsLaw t e Rightly
  unfolding Rightly
  rightly_law = record {
    reads = λ ps o h. h;
    succeeds = λ o success. subst (λ d. IfSome d (IsDenial t e)) (sym (plain_success t e o success).denied) tt;
    refuses = λ c plain. tt;
    unmodified = tt;
    shut = λ to p r walks is. shut_rightly (parent to) p r is;
    rights = λ want p x is wanted. rights_rightly want p x (is root);
    sticky = λ dir p x is above guard. deny_asked Rightly (sticky_lets dir.sticky dir.owner x.owner (caller_of e)) rule.Sticky p (λ guarded.
        record { node = x; directory = dir; there = is; above = above root; guarded = guarded; bits = no_bits rule.Sticky p });
    superuser = λ p for. deny_asked Rightly (is_superuser (caller_of e)) rule.SuperuserOnly p (λ other. record { other = other; bits = no_bits rule.SuperuserOnly p });
    access = λ p x is by. deny_asked Rightly (may_set_access x.owner (caller_of e)) rule.AclOwner p (λ other. record { node = x; there = is; other = other; bits = no_bits rule.AclOwner p });
    owner = λ p x new is asks by. owner_rightly p x new is asks;
    group = λ p x new is asks by. group_rightly p x new is asks;
  }

  acts_rightly : DeniesRightly t e (acts t e e.request.op).reply
  unfolding Rightly
  acts_rightly = acts_holds t e Rightly rightly_law e.request.op refl (λ c is. tt)

pub closing_denied : (close : Bool) (reply : Reply) → (closing close reply).denied ≡ reply.denied
closing_denied true reply = refl
closing_denied false reply = refl

closing_status : (close : Bool) (reply : Reply) → (closing close reply).status ≡ reply.status
closing_status true reply = refl
closing_status false reply = refl

-- what a denial says is so on the tree before the step
pub outcome_denies_rightly : (t : Tree) → IsDirectoryAt t [] → (e : Entry) → DeniesRightly t e (outcome t e).reply
unfolding outcome
outcome_denies_rightly t root e = subst (λ d. IfSome d (IsDenial t e)) (sym (closing_denied e.request.close (acts t e e.request.op).reply)) (acts_rightly t root e)

-- ---- the status of a denial

Named : Outcome → Type 0
Named o = NamesDenials o.reply

plain_named : (o : Outcome) → o.reply.denied ≡ None → (o.reply.status == 403) ≡ false → Named o
unfolding Named
plain_named o no_denial other =
    (λ is. absurd (false≢true (sym other ∙ (unsigned_Decides o.reply.status 403).1 is)), λ some. absurd (false≢true (sym (ap is_some no_denial) ∙ some)))

denial_named : (r : Rule) (p : Path) (want have : ℕ) → Named (answered (denial r p want have))
unfolding Named
denial_named r p want have = (λ is. refl, λ some. refl)

deny_named : (b : Bool) (r : Rule) (p : Path) → Asked Named (deny_unless b r p)
deny_named b r p = deny_asked Named b r p (λ other. denial_named r p 0 0)

rights_named : (p : Path) (want : ℕ) (r : Result Unit Refusal) → Asked Named (denied_by p want r)
rights_named p want (Ok allowed) = record { asked = tt }
rights_named p want (Err r) = record { asked = denial_named r.rule p want r.have }

owner_named : (caller : Caller) (p : Path) (x : Node) (new : Option (List ℕ)) → Asked Named (may_not_set_owner caller p x new)
owner_named caller p x None = record { asked = tt }
owner_named caller p x (Some new) = deny_named (may_set_owner x.owner new caller) rule.UserOwner p

group_named : (caller : Caller) (p : Path) (x : Node) (new : Option (List ℕ)) → Asked Named (may_not_set_group caller p x new)
group_named caller p x None = record { asked = tt }
group_named caller p x (Some new) = deny_named (may_set_group x.owner x.group new caller) rule.GroupOwner p

refusal_named : (c : Code) → IsPlain c → Named (refused c)
refusal_named c plain = plain_named (refused c) refl plain

named_law : (t : Tree) (e : Entry) → IsLaw t e Named
unfolding Named
named_law t e = record {
  reads = λ ps o h. h;
  succeeds = λ o success. let plain = plain_success t e o success in plain_named o plain.denied plain.status;
  refuses = refusal_named;
  unmodified = plain_named (answered not_modified) refl refl;
  shut = λ to p r walks is. denial_named r.rule p 1 r.have;
  rights = λ want p x is wanted. rights_named p want (access_check x.acl.access x.owner x.group (caller_of e) want);
  sticky = λ dir p x is above guard. deny_named (sticky_lets dir.sticky dir.owner x.owner (caller_of e)) rule.Sticky p;
  superuser = λ p for. deny_named (is_superuser (caller_of e)) rule.SuperuserOnly p;
  access = λ p x is by. deny_named (may_set_access x.owner (caller_of e)) rule.AclOwner p;
  owner = λ p x new is asks by. owner_named (caller_of e) p x new;
  group = λ p x new is asks by. group_named (caller_of e) p x new;
}

-- a code of decoding is no denial
decoding_plain : (c : Code) → is_of_decoding c ≡ true → IsPlain c
decoding_plain code.InvalidUri h = refl
decoding_plain code.InvalidResourceName h = refl
decoding_plain code.InvalidQueryParameterValue h = refl
decoding_plain code.OutOfRangeQueryParameterValue h = refl
decoding_plain code.MissingRequiredQueryParameter h = refl
decoding_plain code.MissingRequiredHeader h = refl
decoding_plain code.InvalidHeaderValue h = refl
decoding_plain code.UnsupportedHeader h = refl
decoding_plain code.InvalidInput h = refl
decoding_plain code.InvalidAcl h = refl
decoding_plain code.InvalidSourceUri h = refl
decoding_plain code.InvalidRenameSourcePath h = refl
decoding_plain code.UnsupportedHttpVerb h = refl
decoding_plain code.UnsupportedContentEncoding h = refl
decoding_plain code.NotBuiltYet h = refl
decoding_plain code.AuthorizationPermissionMismatch h = absurd (false≢true h)
decoding_plain other h = refl

sound_plain : (o : Op) (body : ℕ) → IsOperation o body → (c : Code) → o ≡ op.Refused c → IsPlain c
sound_plain o body sound c is = decoding_plain c (subst (λ (x : Op). IsOperation x body) is sound)

acts_named : (t : Tree) (e : Entry) → IsSound e.request → NamesDenials (acts t e e.request.op).reply
unfolding Named
acts_named t e sound =
    acts_holds t e Named (named_law t e) e.request.op refl (λ c is. refusal_named c (sound_plain e.request.op _ sound.operation c is))

-- the status is 403 exactly where a denial is named
pub outcome_names_denials : (t : Tree) (e : Entry) → IsSound e.request → NamesDenials (outcome t e).reply
unfolding outcome
outcome_names_denials t e sound =
    let reply = (acts t e e.request.op).reply in
    let named = acts_named t e sound in
    let status = closing_status e.request.close reply in
    let denied = closing_denied e.request.close reply in
    (λ is. subst (λ d. IsSome d) (sym denied) (named.0 (sym status ∙ is)), λ some. status ∙ named.1 (subst (λ d. IsSome d) denied some))
