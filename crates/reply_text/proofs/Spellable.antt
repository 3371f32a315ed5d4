-- Which replies of the namespace can be spelled, for callers of `spell`.
use Rattle.std.proofs.Common.{◌≡◌, ℕ, suc, ◌≤◌, Bool, true, false, cond, List, [], ◌∷◌, ◌++◌, length, ◌==◌, Option, Some, None, lit≤, lit<, refl, arith, rules}
use Rattle.std.specs.Prelude.{All, count_by}
use Rattle.std.proofs.lemmas.List.Elements.{All-append, All-nil}
use Rattle.std.proofs.lemmas.List.Sums.{sum_by-append}
use Rattle.std.proofs.lemmas.Bool.Decides.{nat_tests}
use Rattle.http.specs.StatusCode.{IsStatusCode}
use Rattle.lease_state.specs.declared.lease.Lease.{Lease}
use Rattle.lease_state.specs.declared.lease.State.{State}
use Rattle.lease_state.specs.declared.lease.State.TheVariants as state
use Rattle.lease_state.specs.declared.lease.TheConstants.{LAST_MOMENT}
use Rattle.lease_state.specs.LeaseTable.{lease_state, kept_secs}
use Rattle.namespace_model.specs.declared.code.Code.{Code}
use Rattle.namespace_model.specs.declared.code.Code.TheVariants as code
use Rattle.namespace_model.specs.declared.denied.Rule.{Rule}
use Rattle.namespace_model.specs.declared.field.Field.{Field}
use Rattle.namespace_model.specs.declared.field.Field.TheVariants.{Close, ETag, LastModified, Properties, LeaseState, LeaseDuration}
use Rattle.namespace_model.specs.declared.reply.Reply.{Reply}
use Rattle.namespace_model.specs.Codes.{status_of}
use Rattle.namespace_model.specs.Nodes.{Node}
use Rattle.namespace_model.specs.Trees.{Path}
use Rattle.namespace_model.specs.Replies.{refusal, not_modified, denial, success, stamp_fields, node_fields, property_fields, duration_fields, lease_fields}
use Rattle.namespace_model.specs.Step.{closing}
use Rattle.reply_text.specs.ReplyText.{IsInTime, is_open, CanSpell}

-- fields whose moments are in range, and none of which leaves its number open
pub record AreClosed (fields : List Field) : Type 0 where
  pub moments : All IsInTime fields
  pub none_open : count_by is_open fields ≡ 0

all_more : (f : Field) (fs : List Field) → IsInTime f → All IsInTime fs → All IsInTime (f ∷ fs)
all_more f fs one more = search rules

pub closed_none : AreClosed []
closed_none = record { moments = All-nil IsInTime; none_open = refl }

pub closed_more : (f : Field) (fs : List Field) → IsInTime f → is_open f ≡ false → AreClosed fs → AreClosed (f ∷ fs)
closed_more f fs timely closed more =
    record { moments = all_more f fs timely more.moments; none_open = rw closed more.none_open }

pub closed_append : (fs gs : List Field) → AreClosed fs → AreClosed gs → AreClosed (fs ++ gs)
closed_append fs gs front back = record {
  moments = All-append IsInTime fs gs front.moments back.moments;
  none_open = omega (arith, sum_by-append (λ f. cond (is_open f) 1 0) fs gs, front.none_open, back.none_open);
}

not_zero : (n : ℕ) → (suc n == 0) ≡ false
not_zero n = grind (arith, nat_tests)

pub closed_properties : (props : List (List ℕ × List ℕ)) → AreClosed (property_fields props)
closed_properties [] = closed_none
closed_properties (p ∷ ps) = rw (not_zero (length ps)) (closed_more (Properties (p ∷ ps)) [] tt refl closed_none)

closed_duration : (s : State) (secs : Option ℕ) → AreClosed (duration_fields s secs)
closed_duration state.Available secs = closed_none
closed_duration state.Leased None = closed_more (LeaseDuration true) [] tt refl closed_none
closed_duration state.Leased (Some n) = closed_more (LeaseDuration false) [] tt refl closed_none
closed_duration state.Expired secs = closed_none
closed_duration state.Breaking secs = closed_none
closed_duration state.Broken secs = closed_none

pub closed_lease : (l : Lease) (now : ℕ) → AreClosed (lease_fields l now)
closed_lease l now =
    let duration = closed_duration (lease_state l now) (kept_secs l) in
    closed_more (LeaseState (lease_state l now)) _ tt refl (closed_more _ _ tt refl duration)

status_fits : (c : Code) → IsStatusCode (status_of c)
status_fits code.InvalidUri = (lit≤ tt, lit< tt)
status_fits other = (lit≤ tt, lit< tt)

pub refusal_spelled : (c : Code) → CanSpell (refusal c)
refusal_spelled c = record { status = status_fits c; moments = All-nil IsInTime; one_open = lit≤ tt }

pub not_modified_spelled : CanSpell not_modified
not_modified_spelled = record { status = (lit≤ tt, lit< tt); moments = All-nil IsInTime; one_open = lit≤ tt }

pub denial_spelled : (rule : Rule) (p : Path) (want have : ℕ) → CanSpell (denial rule p want have)
denial_spelled rule p want have = record { status = (lit≤ tt, lit< tt); moments = All-nil IsInTime; one_open = lit≤ tt }

-- a reply whose ETag is that of the very entry
pub stamped_spelled : (status moment : ℕ) (fs : List Field) → IsStatusCode status → moment ≤ LAST_MOMENT → AreClosed fs → CanSpell (success status (stamp_fields moment ++ fs))
stamped_spelled status moment fs three timely closed = record {
  status = three;
  moments = all_more (ETag None) (LastModified moment ∷ fs) tt (all_more (LastModified moment) fs timely closed.moments);
  one_open = let all = sum_by-append (λ f. cond (is_open f) 1 0) (ETag None ∷ LastModified moment ∷ []) fs in omega (arith, all, closed.none_open);
}

-- a reply whose ETag is that of a node
pub shown_spelled : (status : ℕ) (x : Node) (fs : List Field) → IsStatusCode status → x.moment ≤ LAST_MOMENT → AreClosed fs → CanSpell (success status (node_fields x ++ fs))
shown_spelled status x fs three timely closed = record {
  status = three;
  moments = all_more (ETag (Some x.number)) (LastModified x.moment ∷ fs) tt (all_more (LastModified x.moment) fs timely closed.moments);
  one_open = omega (arith, closed.none_open);
}

-- a reply without an ETag
pub plain_spelled : (status : ℕ) (fs : List Field) → IsStatusCode status → AreClosed fs → CanSpell (success status fs)
plain_spelled status fs three closed = record { status = three; moments = closed.moments; one_open = omega (arith, closed.none_open) }

-- a reply that can be spelled can also say that it ends its connection
pub closing_spelled : (close : Bool) (r : Reply) → CanSpell r → CanSpell (closing close r)
closing_spelled true r can = record { status = can.status; moments = all_more Close r.fields tt can.moments; one_open = omega (arith, can.one_open) }
closing_spelled false r can = can
