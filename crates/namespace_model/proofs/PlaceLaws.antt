-- A step that denies access denies it at one of the places where it asks, for what it wants there.
use Rattle.std.proofs.Common.{◌≡◌, ◌⊎◌, inl, inr, ℕ, Bool, true, false, nat_lt, ◌+◌, suc, List, [], ◌∷◌, ◌++◌, length, Option, Some, None, Result, Ok, Err, refl, ap, sym, subst, ◌∙◌, append_assoc, arith}
use Rattle.std.proofs.lemmas.Bool.{false≢true}
use Rattle.std.proofs.lemmas.Bool.Decides.{nat_tests}
use Rattle.std.specs.Prelude.{IfSome}
use Rattle.namespace_model.specs.declared.denied.Denied.{Denied}
use Rattle.namespace_model.specs.declared.denied.Refusal.{Refusal}
use Rattle.namespace_model.specs.declared.denied.Rule.{Rule}
use Rattle.namespace_model.specs.declared.denied.Rule.TheVariants as rule
use Rattle.namespace_model.specs.declared.request.Entry.{Entry}
use Rattle.namespace_model.specs.Access.{access_check, is_superuser, sticky_lets, may_set_access, may_set_owner, may_set_group}
use Rattle.namespace_model.specs.DenialPlaces.{walks_to, IsAboveOnTheWay, IsWantedAt, passing, IsPlacedBy, DeniesInPlace, IsSetBy}
use Rattle.namespace_model.specs.Locality.{Among}
use Rattle.namespace_model.specs.Nodes.{Node}
use Rattle.namespace_model.specs.Outcomes.{Outcome, answered}
use Rattle.namespace_model.specs.Refusals.{caller_of, denied_by, lacks, may_not_set_owner, may_not_set_group}
use Rattle.namespace_model.specs.Replies.{denial}
use Rattle.namespace_model.specs.Step.{acts, outcome}
use Rattle.namespace_model.specs.Trees.{Path, Tree, parent, is_below}
use Rattle.namespace_model.proofs.DenialLaws.{is_check_rule, ByCheck, check_by_check, deny_asked, no_bits, closing_denied}
use Rattle.namespace_model.proofs.DenialSteps.{Asked, IsLaw, acts_holds}
use Rattle.namespace_model.proofs.Prefixes.{front_of_append, length_append, parent_name, together}
use Rattle.namespace_model.proofs.SuccessReplies.{plain_success}
use Rattle.namespace_model.proofs.WayLemmas.{IsShut}

-- ---- a directory on the way

longer : (d : Path) (n : List ℕ) (r : Path) → nat_lt (length d) (length (d ++ n ∷ r)) ≡ true
longer d n r =
    let whole : length (d ++ n ∷ r) ≡ length d + length (n ∷ r) = length_append d (n ∷ r) in
    let some : length (n ∷ r) ≡ suc (length r) = refl in
    grind (arith, nat_tests)

-- a path is below each front of it
below_front : (d : Path) (n : List ℕ) (r : Path) → is_below d (d ++ n ∷ r) ≡ true
below_front d n r = together (front_of_append d (n ∷ r)) (longer d n r)

named : (above : Path) (n : List ℕ) → above ++ n ∷ [] ≡ [] → ⊥
named [] n h = false≢true (sym (ap is_named h))
  where
    is_named : Path → Bool
    is_named [] = false
    is_named (m ∷ q) = true
named (m ∷ q) n h = false≢true (sym (ap is_named h))
  where
    is_named : Path → Bool
    is_named [] = false
    is_named (m ∷ q) = true

empty_left : (d r : Path) → d ++ r ≡ [] → d ≡ []
empty_left [] r h = refl
empty_left (m ∷ q) r h = absurd (false≢true (sym (ap is_named h)))
  where
    is_named : Path → Bool
    is_named [] = false
    is_named (m ∷ q) = true

module _ (t : Tree) (e : Entry) where
  above_path : (to p : Path) (r : Refusal) → IsShut t (caller_of e) (parent to) p r → IsAboveOnTheWay p to
  above_path to p r is = record { above = by_name (parent_name to); named = λ none. named is.above is.name (sym is.place ∙ none) }
    where
      by_name : (to ≡ []) ⊎ ((n : List ℕ) × (to ≡ parent to ++ n ∷ [])) → is_below p to ≡ true
      by_name (inl none) =
          let up : parent to ≡ [] = ap parent none in
          absurd (named is.above is.name (sym is.place ∙ empty_left p is.rest (sym is.whole_is ∙ up)))
      by_name (inr name) = by_rest is.rest (name.1 ∙ ap (λ q. q ++ name.0 ∷ []) is.whole_is ∙ append_assoc p is.rest (name.0 ∷ []))
        where
          by_rest : (rest : Path) → to ≡ p ++ (rest ++ name.0 ∷ []) → is_below p to ≡ true
          by_rest [] whole = subst (λ q. is_below p q ≡ true) (sym whole) (below_front p name.0 [])
          by_rest (m ∷ more) whole = subst (λ q. is_below p q ≡ true) (sym whole) (below_front p m (more ++ name.0 ∷ []))

  Placed : Outcome → Type 0
  Placed o = DeniesInPlace t e o.reply

  by_rule : (r : Rule) (d : Denied) → is_check_rule r ≡ true → IsWantedAt t (caller_of e) e.request.op d.at d.want → IsPlacedBy r t (caller_of e) e.request.op d
  unfolding is_check_rule
  by_rule rule.Owner d h k = k
  by_rule rule.NamedUser d h k = k
  by_rule rule.Other d h k = k
  by_rule rule.Sticky d h k = absurd (false≢true h)
  by_rule rule.AclOwner d h k = absurd (false≢true h)
  by_rule rule.UserOwner d h k = absurd (false≢true h)
  by_rule rule.GroupOwner d h k = absurd (false≢true h)
  by_rule rule.SuperuserOnly d h k = absurd (false≢true h)

  rights_by : (want : ℕ) (p : Path) (r : Result Unit Refusal) → ByCheck r → IsWantedAt t (caller_of e) e.request.op p want → Asked Placed (denied_by p want r)
  unfolding Placed
  rights_by want p (Ok allowed) h wanted = record { asked = tt }
  rights_by want p (Err r) h wanted = record { asked = by_rule r.rule (record { rule = r.rule; at = p; want = want; have = r.have }) h wanted }

  rights_placed : (want : ℕ) (p : Path) (x : Node) → IsWantedAt t (caller_of e) e.request.op p want → Asked Placed (lacks (caller_of e) want p x)
  rights_placed want p x wanted =
      rights_by want p (access_check x.acl.access x.owner x.group (caller_of e) want) (check_by_check x.acl.access x.owner x.group (caller_of e) want) wanted

  shut_placed : (to p : Path) (r : Refusal) → Among to (walks_to e.request.op) → IsShut t (caller_of e) (parent to) p r → Placed (answered (denial r.rule p 1 r.have))
  unfolding Placed
  shut_placed to p r walks is =
      by_rule r.rule (record { rule = r.rule; at = p; want = 1; have = r.have })
      (subst ByCheck is.denies (check_by_check is.node.acl.access is.node.owner is.node.group (caller_of e) 1)) (passing to walks (above_path to p r is) refl)

  owner_placed : (p : Path) (x : Node) (new : Option (List ℕ)) → IsSetBy e.request.op p → Asked Placed (may_not_set_owner (caller_of e) p x new)
  unfolding Placed
  owner_placed p x None by = record { asked = tt }
  owner_placed p x (Some new) by = deny_asked Placed (may_set_owner x.owner new (caller_of e)) rule.UserOwner p (λ other. (by, no_bits rule.UserOwner p))

  group_placed : (p : Path) (x : Node) (new : Option (List ℕ)) → IsSetBy e.request.op p → Asked Placed (may_not_set_group (caller_of e) p x new)
  unfolding Placed
  group_placed p x None by = record { asked = tt }
  group_placed p x (Some new) by = deny_asked Placed (may_set_group x.owner x.group new (caller_of e)) rule.GroupOwner p (λ other. (by, no_bits rule.GroupOwner p))

  placed_law : IsLaw t e Placed
  unfolding Placed
  placed_law = record {
    reads = λ ps o h. h;
    succeeds = λ o success. subst (λ x. IfSome x (λ (d : Denied). IsPlacedBy d.rule t (caller_of e) e.request.op d)) (sym (plain_success t e o success).denied) tt;
    refuses = λ c plain. tt;
    unmodified = tt;
    shut = shut_placed;
    rights = λ want p x is wanted. rights_placed want p x wanted;
    sticky = λ dir p x is above guard. deny_asked Placed (sticky_lets dir.sticky dir.owner x.owner (caller_of e)) rule.Sticky p (λ other. (guard, no_bits rule.Sticky p));
    superuser = λ p for. deny_asked Placed (is_superuser (caller_of e)) rule.SuperuserOnly p (λ other. (for, no_bits rule.SuperuserOnly p));
    access = λ p x is by. deny_asked Placed (may_set_access x.owner (caller_of e)) rule.AclOwner p (λ other. (by, no_bits rule.AclOwner p));
    owner = λ p x new is asks by. owner_placed p x new by;
    group = λ p x new is asks by. group_placed p x new by;
  }

  acts_placed : DeniesInPlace t e (acts t e e.request.op).reply
  unfolding Placed
  acts_placed = acts_holds t e Placed placed_law e.request.op refl (λ c is. tt)

pub outcome_denies_in_place : (t : Tree) (e : Entry) → DeniesInPlace t e (outcome t e).reply
unfolding outcome
outcome_denies_in_place t e =
    subst (λ x. IfSome x (λ (d : Denied). IsPlacedBy d.rule t (caller_of e) e.request.op d)) (sym (closing_denied e.request.close (acts t e e.request.op).reply)) (acts_placed t e)
