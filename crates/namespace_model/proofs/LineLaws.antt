-- The lines of a reply stand in order, and an entry makes few nodes.
use Rattle.std.proofs.Common.{◌≡◌, ℕ, suc, ◌≤◌, ◌+◌, Bool, true, false, cond, ◌==◌, List, [], ◌∷◌, ◌++◌, map, length, drop, length-drop, Option, Some, None, lit≤, refl, ap, sym, subst, ◌∙◌, arith}
use Rattle.lease_state.specs.declared.lease.AppendLease.{AppendLease}
use Rattle.lease_state.specs.declared.lease.AppendLease.TheVariants as append
use Rattle.lease_state.specs.declared.lease.Lease.{Lease}
use Rattle.lease_state.specs.declared.lease.LeaseAction.{LeaseAction}
use Rattle.lease_state.specs.declared.lease.LeaseAction.TheVariants as action
use Rattle.lease_state.specs.declared.lease.State.{State}
use Rattle.lease_state.specs.declared.lease.State.TheVariants as state
use Rattle.lease_state.specs.LeaseTable.{lease_state, kept_secs}
use Rattle.namespace_model.specs.declared.field.Field.{Field}
use Rattle.namespace_model.specs.declared.field.Field.TheVariants as field
use Rattle.namespace_model.specs.declared.op.Op.{Op}
use Rattle.namespace_model.specs.declared.reply.Reply.{Reply}
use Rattle.namespace_model.specs.declared.request.Entry.{Entry}
use Rattle.namespace_model.specs.Append.{flush_fields, append_lease_fields}
use Rattle.namespace_model.specs.Create.{Making, new_directory, new_nodes}
use Rattle.namespace_model.specs.Effects.{Put}
use Rattle.namespace_model.specs.GetProperties.{length_fields, user_fields}
use Rattle.namespace_model.specs.LeaseNode.{action_fields}
use Rattle.namespace_model.specs.Lines.{line_place, AscendFrom, AreInOrder, open_tag, open_tags}
use Rattle.namespace_model.specs.Nodes.{Node, Content, directory, file}
use Rattle.namespace_model.specs.Outcomes.{Outcome}
use Rattle.namespace_model.specs.Replies.{property_fields, duration_fields, lease_fields, continuation_fields}
use Rattle.namespace_model.specs.Sound.{IsSound, IsOperation}
use Rattle.namespace_model.specs.Step.{acts, outcome, closing}
use Rattle.namespace_model.specs.Trees.{Path, Tree}
use Rattle.namespace_model.proofs.StepComes.{Comes, is_refused, succeeds, acts_come}
use Rattle.namespace_model.proofs.Successes.{IsSuccess, a_filesystem_is_made, a_filesystem_is_shown, a_filesystem_is_set, a_filesystem_goes, filesystems_are_listed, paths_are_listed, nodes_are_made, a_node_moves, a_file_is_read, a_part_is_read, properties_are_shown, access_is_shown, a_right_is_there, a_file_is_appended_to, a_file_is_flushed, properties_are_set, access_is_set, a_batch_is_done, a_lease_is_acted_on, nodes_go}

-- ---- lines

pub from_less : (fs : List Field) (n m : ℕ) → n ≤ m → AscendFrom m fs → AscendFrom n fs
from_less [] n m less h = tt
from_less (f ∷ fs) n m less h = (let k = h.0 in omega arith, h.1)

property_lines : (props : List (List ℕ × List ℕ)) (rest : List Field) (n : ℕ) → n ≤ 11 → AscendFrom 12 rest → AscendFrom n (property_fields props ++ rest)
property_lines props rest n less h = by_length (length props == 0)
  where
    by_length : (b : Bool) → AscendFrom n (cond b [] (field.Properties props ∷ []) ++ rest)
    by_length true = from_less rest n 12 (omega (arith, less)) h
    by_length false = (less, h)

duration_lines : (s : State) (secs : Option ℕ) (rest : List Field) → AscendFrom 15 rest → AscendFrom 14 (duration_fields s secs ++ rest)
duration_lines state.Available secs rest h = from_less rest 14 15 (lit≤ tt) h
duration_lines state.Leased secs rest h = (lit≤ tt, h)
duration_lines state.Expired secs rest h = from_less rest 14 15 (lit≤ tt) h
duration_lines state.Breaking secs rest h = from_less rest 14 15 (lit≤ tt) h
duration_lines state.Broken secs rest h = from_less rest 14 15 (lit≤ tt) h

lease_lines : (l : Lease) (now : ℕ) (rest : List Field) → AscendFrom 15 rest → AscendFrom 12 (lease_fields l now ++ rest)
lease_lines l now rest h = (lit≤ tt, (lit≤ tt, duration_lines (lease_state l now) (kept_secs l) rest h))

last_lease_lines : (l : Lease) (now : ℕ) → AscendFrom 12 (lease_fields l now)
last_lease_lines l now = (lit≤ tt, (lit≤ tt, by_state (lease_state l now)))
  where
    by_state : (s : State) → AscendFrom 14 (duration_fields s (kept_secs l))
    by_state state.Available = tt
    by_state state.Leased = (lit≤ tt, tt)
    by_state state.Expired = tt
    by_state state.Breaking = tt
    by_state state.Broken = tt

length_lines : (c : Content) → AscendFrom 15 (length_fields c)
length_lines directory = tt
length_lines (file bytes staged) = (lit≤ tt, tt)

user_lines : (status : Bool) (x : Node) (rest : List Field) → AscendFrom 12 rest → AscendFrom 10 (user_fields status x ++ rest)
user_lines true x rest h = from_less rest 10 12 (lit≤ tt) h
user_lines false x rest h = property_lines x.props rest 10 (lit≤ tt) h

page_lines : (fs : Option (List ℕ)) (next : Option Path) → AscendFrom 6 (continuation_fields fs next)
page_lines fs None = tt
page_lines fs (Some p) = (lit≤ tt, tt)

action_lines : (a : LeaseAction) (after : Lease) (now : ℕ) → AscendFrom 3 (action_fields a after now)
action_lines (action.Acquire id secs) after now = (lit≤ tt, tt)
action_lines (action.Renew id) after now = (lit≤ tt, tt)
action_lines (action.Change id other) after now = (lit≤ tt, tt)
action_lines (action.Release id) after now = tt
action_lines (action.Break period) after now = (lit≤ tt, tt)

pub append_lease_lines : (a : AppendLease) (after : Lease) → AscendFrom 3 (append_lease_fields a after)
append_lease_lines append.Plain after = tt
append_lease_lines (append.Acquire id secs) after = (lit≤ tt, tt)
append_lease_lines append.AutoRenew after = (lit≤ tt, tt)
append_lease_lines append.Release after = tt
append_lease_lines (append.AcquireRelease id secs) after = tt

append_lines : (flush : Bool) (moment : ℕ) (a : AppendLease) (after : Lease) → AscendFrom 1 (flush_fields flush moment ++ append_lease_fields a after)
append_lines true moment a after = (lit≤ tt, (lit≤ tt, append_lease_lines a after))
append_lines false moment a after = from_less (append_lease_fields a after) 1 3 (lit≤ tt) (append_lease_lines a after)

-- the lines of a success, behind the one that says that the connection ends
pub success_lines : (t : Tree) (e : Entry) (o : Outcome) → IsSuccess t e o → AscendFrom 1 o.reply.fields
success_lines t e o (a_filesystem_is_made path props is same) = subst (λ (x : Outcome). AscendFrom 1 x.reply.fields) (sym same) (lit≤ tt, (lit≤ tt, tt))
success_lines t e o (a_filesystem_is_shown path x is there same) =
    subst (λ (y : Outcome). AscendFrom 1 y.reply.fields) (sym same) (lit≤ tt, (lit≤ tt, property_lines x.props (field.NamespaceEnabled ∷ []) 3 (lit≤ tt) (lit≤ tt, tt)))
success_lines t e o (a_filesystem_is_set path props x is there same) = subst (λ (y : Outcome). AscendFrom 1 y.reply.fields) (sym same) (lit≤ tt, (lit≤ tt, tt))
success_lines t e o (a_filesystem_goes path x is same) = subst (λ (y : Outcome). AscendFrom 1 y.reply.fields) (sym same) tt
success_lines t e o (filesystems_are_listed prefix token max next body ps is same) =
    subst (λ (y : Outcome). AscendFrom 1 y.reply.fields) (sym same) (lit≤ tt, page_lines None next)
success_lines t e o (paths_are_listed dir recursive token max fs next body is same) =
    subst (λ (y : Outcome). AscendFrom 1 y.reply.fields) (sym same) (lit≤ tt, page_lines fs next)
success_lines t e o (nodes_are_made path kind permissions umask props base x replaced is base_is same) = subst (λ (y : Outcome). AscendFrom 1 y.reply.fields) (sym same) (lit≤ tt, (lit≤ tt, tt))
success_lines t e o (a_node_moves path source props x replaced is same) = subst (λ (y : Outcome). AscendFrom 1 y.reply.fields) (sym same) (lit≤ tt, (lit≤ tt, tt))
success_lines t e o (a_file_is_read path range x bytes is there same) =
    subst (λ (y : Outcome). AscendFrom 1 y.reply.fields) (sym same)
    (lit≤ tt, (lit≤ tt, (lit≤ tt, (lit≤ tt, (lit≤ tt, property_lines x.props (lease_fields x.lease e.moment) 7 (lit≤ tt) (last_lease_lines x.lease e.moment))))))
success_lines t e o (a_part_is_read path range x bytes from to is there same) =
    subst (λ (y : Outcome). AscendFrom 1 y.reply.fields) (sym same)
    (lit≤ tt, (lit≤ tt, (lit≤ tt, (lit≤ tt, (lit≤ tt, (lit≤ tt, property_lines x.props (lease_fields x.lease e.moment) 7 (lit≤ tt) (last_lease_lines x.lease e.moment)))))))
success_lines t e o (properties_are_shown path status x is there same) =
    subst (λ (y : Outcome). AscendFrom 1 y.reply.fields) (sym same) (
      lit≤ tt,
      (
        lit≤ tt,
        (
          lit≤ tt,
          (
            lit≤ tt,
            (
              lit≤ tt,
              (
                lit≤ tt,
                user_lines status x (lease_fields x.lease e.moment ++ length_fields x.content) (lease_lines x.lease e.moment (length_fields x.content) (length_lines x.content)),
              ),
            ),
          ),
        ),
      ),
    )
success_lines t e o (access_is_shown path x is there same) =
    subst (λ (y : Outcome). AscendFrom 1 y.reply.fields) (sym same) (lit≤ tt, (lit≤ tt, (lit≤ tt, (lit≤ tt, (lit≤ tt, (lit≤ tt, tt))))))
success_lines t e o (a_right_is_there path want is same) = subst (λ (y : Outcome). AscendFrom 1 y.reply.fields) (sym same) tt
success_lines t e o (a_file_is_appended_to path position flush retain act x after is there same) =
    subst (λ (y : Outcome). AscendFrom 1 y.reply.fields) (sym same) (append_lines flush e.moment act after)
success_lines t e o (a_file_is_flushed path position retain x is there same) = subst (λ (y : Outcome). AscendFrom 1 y.reply.fields) (sym same) (lit≤ tt, (lit≤ tt, tt))
success_lines t e o (properties_are_set path props x is there same) = subst (λ (y : Outcome). AscendFrom 1 y.reply.fields) (sym same) (lit≤ tt, (lit≤ tt, tt))
success_lines t e o (access_is_set path owner group permissions acl x pair is there same) = subst (λ (y : Outcome). AscendFrom 1 y.reply.fields) (sym same) (lit≤ tt, (lit≤ tt, tt))
success_lines t e o (a_batch_is_done path change token max force is same) = subst (λ (y : Outcome). AscendFrom 1 y.reply.fields) (sym same) (lit≤ tt, page_lines _ _)
success_lines t e o (a_lease_is_acted_on path act x after is there same) =
    subst (λ (y : Outcome). AscendFrom 1 y.reply.fields) (sym same) (lit≤ tt, (lit≤ tt, action_lines act after e.moment))
success_lines t e o (nodes_go path recursive is same) = subst (λ (y : Outcome). AscendFrom 1 y.reply.fields) (sym same) tt

acts_lines : (t : Tree) (e : Entry) (o : Outcome) → Comes t e o → AscendFrom 1 o.reply.fields
acts_lines t e o (is_refused stop) = subst (AscendFrom 1) (sym stop.no_lines) tt
acts_lines t e o (succeeds s success same) = subst (λ (x : Outcome). AscendFrom 1 x.reply.fields) (sym same) (success_lines t e s success)

closed_lines : (close : Bool) (reply : Reply) → AscendFrom 1 reply.fields → AreInOrder (closing close reply).fields
closed_lines true reply h = (lit≤ tt, h)
closed_lines false reply h = from_less reply.fields 0 1 (lit≤ tt) h

pub outcome_in_order : (t : Tree) (e : Entry) → AreInOrder (outcome t e).reply.fields
unfolding outcome
outcome_in_order t e = closed_lines e.request.close (acts t e e.request.op).reply (acts_lines t e (acts t e e.request.op) (acts_come t e))

-- ---- open ETags

no_tag : (f : Field) → 2 ≤ line_place f → open_tag f ≡ 0
no_tag (field.ETag None) h = absurd (let k : 2 ≤ 1 = h in omega arith)
no_tag (field.ETag (Some number)) h = refl
no_tag other h = refl

no_tags : (fs : List Field) (n : ℕ) → 2 ≤ n → AscendFrom n fs → open_tags fs ≡ 0
no_tags [] n late h = refl
no_tags (f ∷ fs) n late h =
    let k = h.0 in
    let here : open_tag f ≡ 0 = no_tag f (omega arith) in
    let rest : open_tags fs ≡ 0 = no_tags fs (suc (line_place f)) (omega arith) h.1 in
    omega arith

pub one_tag : (fs : List Field) (n : ℕ) → AscendFrom n fs → open_tags fs ≤ 1
one_tag [] n h = lit≤ tt
one_tag (f ∷ fs) n h = by_field f h.1 (one_tag fs (suc (line_place f)) h.1)
  where
    by_field : (g : Field) → AscendFrom (suc (line_place g)) fs → open_tags fs ≤ 1 → open_tag g + open_tags fs ≤ 1
    by_field (field.ETag None) after few = let none : open_tags fs ≡ 0 = no_tags fs 2 (lit≤ tt) after in omega arith
    by_field (field.ETag (Some number)) after few = omega (arith, few)
    by_field other after few = omega (arith, few)

-- ---- new nodes

many_new : (e : Entry) (m : Making) (above : Node) (done names : Path) → length (map (λ (x : Path × Put). x.0) (new_nodes e m above done names)) ≡ length names
many_new e m above done [] = refl
many_new e m above done (n ∷ []) = refl
many_new e m above done (n ∷ o ∷ names) = ap suc (many_new e m (new_directory e m above) (done ++ n ∷ []) (o ∷ names))

none_few : (o s : Outcome) → o ≡ s → s.fresh ≡ [] → length o.fresh ≤ 60
none_few o s same none = subst (λ (l : List Path). length l ≤ 60) (sym (ap (λ (x : Outcome). x.fresh) same ∙ none)) (lit≤ tt)

success_few : (t : Tree) (e : Entry) → IsSound e.request → (o : Outcome) → IsSuccess t e o → length o.fresh ≤ 60
success_few t e sound o (a_filesystem_is_made path props is same) = subst (λ (x : Outcome). length x.fresh ≤ 60) (sym same) (lit≤ tt)
success_few t e sound o (a_filesystem_is_shown path x is there same) = none_few o _ same refl
success_few t e sound o (a_filesystem_is_set path props x is there same) = none_few o _ same refl
success_few t e sound o (a_filesystem_goes path x is same) = none_few o _ same refl
success_few t e sound o (filesystems_are_listed prefix token max next body ps is same) = none_few o _ same refl
success_few t e sound o (paths_are_listed dir recursive token max fs next body is same) = none_few o _ same refl
success_few t e sound o (nodes_are_made path kind permissions umask props base x replaced is base_is same) =
    let m : Making = record { path = path; kind = kind; permissions = permissions; umask = umask; props = props } in
    let operation = subst (λ (a : Op). IsOperation a (length e.request.body)) is sound.operation in
    let short = operation.0.limits.depth_within in
    let few : length (map (λ (y : Path × Put). y.0) (new_nodes e m x base (drop (length base) path))) ≤ 60 = omega (arith, many_new e m x base (drop (length base) path), length-drop (length base) path, short) in
    subst (λ (y : Outcome). length y.fresh ≤ 60) (sym same) few
success_few t e sound o (a_node_moves path source props x replaced is same) = none_few o _ same refl
success_few t e sound o (a_file_is_read path range x bytes is there same) = none_few o _ same refl
success_few t e sound o (a_part_is_read path range x bytes from to is there same) = none_few o _ same refl
success_few t e sound o (properties_are_shown path status x is there same) = none_few o _ same refl
success_few t e sound o (access_is_shown path x is there same) = none_few o _ same refl
success_few t e sound o (a_right_is_there path want is same) = none_few o _ same refl
success_few t e sound o (a_file_is_appended_to path position flush retain act x after is there same) = none_few o _ same refl
success_few t e sound o (a_file_is_flushed path position retain x is there same) = none_few o _ same refl
success_few t e sound o (properties_are_set path props x is there same) = none_few o _ same refl
success_few t e sound o (access_is_set path owner group permissions acl x pair is there same) = none_few o _ same refl
success_few t e sound o (a_batch_is_done path change token max force is same) = none_few o _ same refl
success_few t e sound o (a_lease_is_acted_on path act x after is there same) = none_few o _ same refl
success_few t e sound o (nodes_go path recursive is same) = none_few o _ same refl

acts_few : (t : Tree) (e : Entry) → IsSound e.request → (o : Outcome) → Comes t e o → length o.fresh ≤ 60
acts_few t e sound o (is_refused stop) = subst (λ (l : List Path). length l ≤ 60) (sym stop.none_new) (lit≤ tt)
acts_few t e sound o (succeeds s success same) = subst (λ (x : Outcome). length x.fresh ≤ 60) (sym same) (success_few t e sound s success)

pub outcome_few : (t : Tree) (e : Entry) → IsSound e.request → length (outcome t e).fresh ≤ 60
unfolding outcome
outcome_few t e sound = acts_few t e sound (acts t e e.request.op) (acts_come t e)
