-- What a step asks before it goes on is answered by replies that can be spelled, and so is what comes of the way.
use Rattle.std.proofs.Common.{◌≡◌, ℕ, ◌≤◌, Bool, true, false, cond, not, ◌&&◌, List, [], ◌∷◌, Option, Some, None, option_map, Result, Ok, Err, refl, arith}
use Rattle.std.specs.Prelude.{IfSome}
use Rattle.lease_state.specs.declared.lease.TheConstants.{LAST_MOMENT}
use Rattle.file_data.specs.declared.fault.DataFault.{DataFault}
use Rattle.head_text.specs.declared.conditions.Unmet.{Unmet}
use Rattle.head_text.specs.declared.conditions.Unmet.TheVariants as unmet
use Rattle.lease_state.specs.declared.lease.LeaseFault.{LeaseFault}
use Rattle.namespace_model.specs.declared.caller.Caller.{Caller}
use Rattle.namespace_model.specs.declared.code.Code.{Code}
use Rattle.namespace_model.specs.declared.code.Code.TheVariants as code
use Rattle.namespace_model.specs.declared.denied.Refusal.{Refusal}
use Rattle.namespace_model.specs.declared.denied.Rule.{Rule}
use Rattle.namespace_model.specs.declared.denied.Rule.TheVariants as rule
use Rattle.namespace_model.specs.declared.reply.Reply.{Reply}
use Rattle.namespace_model.specs.declared.request.Entry.{Entry}
use Rattle.namespace_model.specs.Access.{access_check, sticky_lets}
use Rattle.namespace_model.specs.Contents.{staging_code, refused_staging, refused_flush}
use Rattle.namespace_model.specs.Delete.{not_clearable}
use Rattle.namespace_model.specs.Looks.{found}
use Rattle.namespace_model.specs.Nodes.{Node, is_directory}
use Rattle.namespace_model.specs.Outcomes.{Outcome, answered, refused, reading, unless, noted}
use Rattle.namespace_model.specs.Refusals.{caller_of, code_of_fault, denied_by, deny_unless, refuse_if, unmet_for_change, unmet_for_look, refused_by_lease, or_else, first_refusal, lacks, is_guarded}
use Rattle.namespace_model.specs.Replies.{refusal}
use Rattle.namespace_model.specs.Trees.{Path, Tree, at, node_at, parent, is_bare, children}
use Rattle.namespace_model.specs.Walks.{ended, hand_on, walk, walk_or, missing_below, missing_code}
use Rattle.namespace_model.specs.Ways.{Way, reached, missing, blocked, closed, way_of, read_on}
use Rattle.reply_text.specs.ReplyText.{CanSpell}
use Rattle.reply_text.proofs.Spellable.{refusal_spelled, not_modified_spelled, denial_spelled}
use Rattle.inode_tree.specs.Footprints.{HasDate}

-- the reply can be spelled
pub record IsFine (o : Outcome) : Type 0 where
  pub spelled : CanSpell o.reply

pub dated : (moment : ℕ) → HasDate moment → moment ≤ LAST_MOMENT
dated moment has = let last : LAST_MOMENT ≡ 253402300799999 = refl in omega (arith, has, last)

pub answered_fine : (r : Reply) → CanSpell r → IsFine (answered r)
answered_fine r can = record { spelled = can }

pub refused_fine : (c : Code) → IsFine (refused c)
refused_fine c = answered_fine _ (refusal_spelled c)

pub reading_fine : (ps : List Path) (o : Outcome) → IsFine o → IsFine (reading ps o)
reading_fine ps o fine = record { spelled = fine.spelled }

pub unless_fine : (q : Option Reply) (o : Outcome) → IfSome q CanSpell → IsFine o → IsFine (unless q o)
unless_fine None o can fine = fine
unless_fine (Some r) o can fine = answered_fine r can

-- ---- what is asked

pub denied_fine : (p : Path) (want : ℕ) (c : Result Unit Refusal) → IfSome (denied_by p want c) CanSpell
denied_fine p want (Ok x) = tt
denied_fine p want (Err r) = denial_spelled r.rule p want r.have

pub deny_fine : (b : Bool) (r : Rule) (p : Path) → IfSome (deny_unless b r p) CanSpell
deny_fine true r p = tt
deny_fine false r p = denial_spelled r p 0 0

pub refuse_fine : (b : Bool) (c : Code) → IfSome (refuse_if b c) CanSpell
refuse_fine true c = refusal_spelled c
refuse_fine false c = tt

pub change_fine : (c : Result Unit Unmet) → IfSome (unmet_for_change c) CanSpell
change_fine (Ok x) = tt
change_fine (Err u) = refusal_spelled code.ConditionNotMet

pub look_fine : (c : Result Unit Unmet) → IfSome (unmet_for_look c) CanSpell
look_fine (Ok x) = tt
look_fine (Err unmet.Match) = refusal_spelled code.ConditionNotMet
look_fine (Err unmet.Unmodified) = refusal_spelled code.ConditionNotMet
look_fine (Err unmet.NoneMatch) = not_modified_spelled
look_fine (Err unmet.Modified) = not_modified_spelled

pub lease_fine : (c : Result Unit LeaseFault) → IfSome (refused_by_lease c) CanSpell
lease_fine (Ok x) = tt
lease_fine (Err f) = refusal_spelled (code_of_fault f)

pub or_fine : (a b : Option Reply) → IfSome a CanSpell → IfSome b CanSpell → IfSome (or_else a b) CanSpell
or_fine None b one other = other
or_fine (Some r) b one other = one

pub first_fine : (asks : Path → Node → Option Reply) → ((p : Path) (x : Node) → IfSome (asks p x) CanSpell) → (t : Tree) (ps : List Path) → IfSome (first_refusal asks t ps) CanSpell
first_fine asks each t [] = tt
first_fine asks each t (p ∷ ps) = or_fine _ _ (each p _) (first_fine asks each t ps)

pub staging_fine : (c : Result Unit DataFault) → IfSome (refused_staging c) CanSpell
staging_fine (Ok x) = tt
staging_fine (Err f) = by_code (staging_code f)
  where
    by_code : (c : Option Code) → IfSome (option_map refusal c) CanSpell
    by_code None = tt
    by_code (Some c) = refusal_spelled c

pub flush_fine : (c : Result Unit DataFault) → IfSome (refused_flush c) CanSpell
flush_fine (Ok x) = tt
flush_fine (Err f) = refusal_spelled code.InvalidFlushPosition

pub clearable_fine : (t : Tree) (caller : Caller) (p : Path) (x : Node) → IfSome (not_clearable t caller p x) CanSpell
clearable_fine t caller p x = by_test (is_directory x && not (is_bare t p))
  where
    by_test : (b : Bool) → IfSome (cond b (or_else (lacks caller 7 p x) (first_refusal (is_guarded caller x) t (children t p))) None) CanSpell
    by_test true =
        or_fine (lacks caller 7 p x) (first_refusal (is_guarded caller x) t (children t p)) (denied_fine p 7 (access_check x.acl.access x.owner x.group caller 7))
        (first_fine (is_guarded caller x) (λ q y. deny_fine (sticky_lets x.sticky x.owner y.owner caller) rule.Sticky q) t (children t p))
    by_test false = tt

-- ---- the way, and the node

pub ended_fine : (lost : Path → Outcome) (c : Code) (after : Outcome) (w : Way) → ((d : Path) → IsFine (lost d)) → IsFine after → IsFine (ended lost c after w)
ended_fine lost c after reached missed fine = fine
ended_fine lost c after (missing d) missed fine = missed d
ended_fine lost c after (blocked p) missed fine = refused_fine c
ended_fine lost c after (closed p r) missed fine = answered_fine _ (denial_spelled r.rule p 1 r.have)

pub walk_or_fine : (t : Tree) (caller : Caller) (lost : Path → Node → Outcome) (c : Code) (p : Path) (next : Node → Outcome) → ((d : Path) (x : Node) → IsFine (lost d x))
    → ((x : Node) → IsFine (next x)) → IsFine (walk_or t caller lost c p next)
walk_or_fine t caller lost c p next missed fine =
    reading_fine (read_on t caller p) _
    (ended_fine (λ d. hand_on t d (lost d)) c (hand_on t (parent p) next) (way_of t caller p) (λ d. missed d (node_at t d)) (fine (node_at t (parent p))))

pub below_fine : (c : Code) (d : Path) → IsFine (missing_below c d)
below_fine c [] = refused_fine code.FilesystemNotFound
below_fine c (fs ∷ names) = refused_fine c

pub walk_fine : (t : Tree) (caller : Caller) (c : Code) (p : Path) (next : Node → Outcome) → ((x : Node) → IsFine (next x)) → IsFine (walk t caller c p next)
walk_fine t caller c p next fine = walk_or_fine t caller (λ d dir. missing_below c d) c p next (λ d x. below_fine c d) fine

pub noted_fine : (o : Option Node) (p : Path) (none : Outcome) (some : Node → Outcome) → IsFine none → ((x : Node) → o ≡ Some x → IsFine (some x)) → IsFine (noted o p none some)
noted_fine None p none some lost fine = lost
noted_fine (Some x) p none some lost fine = reading_fine (p ∷ []) _ (fine x refl)

-- the way to a node, and the node, which is one of the tree
pub found_fine : (t : Tree) (e : Entry) (p : Path) (some : Node → Outcome) → ((x : Node) → at t p ≡ Some x → IsFine (some x)) → IsFine (found t e p some)
found_fine t e p some fine =
    walk_fine t (caller_of e) code.PathNotFound p _
    (λ dir. noted_fine (at t p) p (refused (missing_code p code.PathNotFound)) some (refused_fine (missing_code p code.PathNotFound)) fine)
