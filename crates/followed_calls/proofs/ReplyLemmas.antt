-- What a reply without a code has passed, and what a listing then says.
use Rattle.std.proofs.Common.{◌≡◌, ℕ, Bool, true, false, cond, not, List, [], ◌∷◌, slice_get, Option, Some, None, is_some, IfSome, Result, Ok, Err, refl, ap, sym, ◌∙◌}
use Rattle.std.proofs.lemmas.Bool.{false≢true}
use Rattle.namespace_model.specs.declared.caller.Caller.{Caller}
use Rattle.namespace_model.specs.declared.code.Code.{Code}
use Rattle.namespace_model.specs.declared.code.Code.TheVariants.{PathNotFound, ResourceTypeMismatch}
use Rattle.namespace_model.specs.declared.denied.Refusal.{Refusal}
use Rattle.namespace_model.specs.declared.denied.Rule.{Rule}
use Rattle.namespace_model.specs.declared.denied.Rule.TheVariants as rule
use Rattle.namespace_model.specs.declared.reply.Reply.{Reply}
use Rattle.namespace_model.specs.declared.request.Entry.{Entry}
use Rattle.namespace_model.specs.Access.{access_check, is_superuser, read_execute}
use Rattle.namespace_model.specs.ListFilesystems.{list_filesystems, filesystems, filesystems_body}
use Rattle.namespace_model.specs.ListPaths.{list_paths, list_page, list_node, is_closed, listed, paged, paths_body}
use Rattle.namespace_model.specs.Looks.{found}
use Rattle.namespace_model.specs.Nodes.{Node, is_directory}
use Rattle.namespace_model.specs.Outcomes.{Outcome, refused, unless, noted}
use Rattle.namespace_model.specs.Pages.{Page, page_of, above}
use Rattle.namespace_model.specs.Refusals.{caller_of, deny_unless, denied_by, first_refusal, is_no_superuser, lacks, or_else, refuse_if}
use Rattle.namespace_model.specs.Replies.{with_body, page_fields}
use Rattle.namespace_model.specs.Trees.{Path, Tree, at, node_at}
use Rattle.namespace_model.specs.Walks.{ended, hand_on, missing_below, missing_code}
use Rattle.namespace_model.specs.Ways.{Way, reached, missing, blocked, closed, way_of}

-- ---- questions that were passed

-- a question is answered by a reply with a code, or by none
abbrev pub IsCoded : Option Reply → Type 0
IsCoded asked = IfSome asked (λ reply. is_some reply.code ≡ true)

no_code : (reply : Reply) → is_some reply.code ≡ true → reply.code ≡ None → ⊥
no_code reply coded e = false≢true (sym (ap is_some e) ∙ coded)

pub passed : (asked : Option Reply) (o : Outcome) → IsCoded asked → (unless asked o).reply.code ≡ None → (unless asked o).reply ≡ o.reply
passed None o coded e = refl
passed (Some reply) o coded e = absurd (no_code reply coded e)

if_coded : (b : Bool) (code : Code) → IsCoded (refuse_if b code)
if_coded true code = refl
if_coded false code = tt

deny_coded : (b : Bool) (r : Rule) (p : Path) → IsCoded (deny_unless b r p)
deny_coded true r p = tt
deny_coded false r p = refl

rights_coded : (p : Path) (want : ℕ) (r : Result Unit Refusal) → IsCoded (denied_by p want r)
rights_coded p want (Ok allowed) = tt
rights_coded p want (Err r) = refl

lacks_coded : (caller : Caller) (want : ℕ) (p : Path) (x : Node) → IsCoded (lacks caller want p x)
lacks_coded caller want p x = rights_coded p want (access_check x.acl.access x.owner x.group caller want)

closed_coded : (caller : Caller) (p : Path) (x : Node) → IsCoded (is_closed caller p x)
closed_coded caller p x = by_kind (is_directory x)
  where
    by_kind : (b : Bool) → IsCoded (cond b (lacks caller read_execute p x) None)
    by_kind true = lacks_coded caller read_execute p x
    by_kind false = tt

first_coded : (caller : Caller) (t : Tree) (ps : List Path) → IsCoded (first_refusal (is_closed caller) t ps)
first_coded caller t [] = tt
first_coded caller t (p ∷ ps) = either (is_closed caller p (node_at t p)) (first_refusal (is_closed caller) t ps) (closed_coded caller p (node_at t p)) (first_coded caller t ps)
  where
    either : (one other : Option Reply) → IsCoded one → IsCoded other → IsCoded (or_else one other)
    either None other h k = k
    either (Some reply) other h k = h

-- ---- a node that was found

-- the node is there, and what is replied and done is what comes of it
pub record IsFound (t : Tree) (p : Path) (o : Outcome) (some : Node → Outcome) : Type 0 where
  pub node : Node
  pub there : at t p ≡ Some node
  pub replied : o.reply ≡ (some node).reply
  pub done : o.effect ≡ (some node).effect

pub was_found : (t : Tree) (e : Entry) (p : Path) (some : Node → Outcome) → (found t e p some).reply.code ≡ None → IsFound t p (found t e p some) some
was_found t e p some clean =
    let way = by_way (way_of t (caller_of e) p) clean in
    record { node = way.node; there = way.there; replied = way.replied; done = way.done }
  where
    ends : Way → Outcome
    ends w = ended (λ d. hand_on t d (λ dir. missing_below PathNotFound d)) PathNotFound (noted (at t p) p (refused (missing_code p PathNotFound)) some) w

    by_node : (u : Option Node) → at t p ≡ u → (noted u p (refused (missing_code p PathNotFound)) some).reply.code ≡ None → IsFound t p (noted u p (refused (missing_code p PathNotFound)) some) some
    by_node None there e = absurd (false≢true (sym (ap is_some e)))
    by_node (Some x) there e = record { node = x; there = there; replied = refl; done = refl }

    by_way : (w : Way) → (ends w).reply.code ≡ None → IsFound t p (ends w) some
    by_way reached e = by_node (at t p) refl e
    by_way (missing []) e = absurd (false≢true (sym (ap is_some e)))
    by_way (missing (fs ∷ names)) e = absurd (false≢true (sym (ap is_some e)))
    by_way (blocked q) e = absurd (false≢true (sym (ap is_some e)))
    by_way (closed q r) e = absurd (false≢true (sym (ap is_some e)))

-- ---- listings

pub paths_reply : (t : Tree) (e : Entry) (dir : Path) (recursive : Bool) (token : Option Path) (max : ℕ) → (list_paths t e dir recursive token max).reply.code ≡ None
    → (list_paths t e dir recursive token max).reply
    ≡ with_body 200 (page_fields (slice_get dir 0) (list_page t dir recursive token max).next) (paths_body t (list_page t dir recursive token max).paths)
unfolding list_paths
paths_reply t e dir recursive token max clean =
    let at_dir = was_found t e dir (list_node t e dir recursive token max) clean in
    at_dir.replied ∙ by_node at_dir.node (sym (ap (λ (r : Reply). r.code) at_dir.replied) ∙ clean)
  where
    page : Page
    page = list_page t dir recursive token max

    by_page : (below : Bool) → (paged t e dir below token page).reply.code ≡ None → (paged t e dir below token page).reply ≡ (listed t dir page).reply
    by_page true h =
        passed (first_refusal (is_closed (caller_of e)) t _) (listed t dir page) (first_coded (caller_of e) t _) h
    by_page false h = refl

    by_node : (x : Node) → (list_node t e dir recursive token max x).reply.code ≡ None → (list_node t e dir recursive token max x).reply ≡ (listed t dir page).reply
    by_node x h =
        let rights = unless (lacks (caller_of e) read_execute dir x) (paged t e dir recursive token page) in
        let kind = passed (refuse_if (not (is_directory x)) ResourceTypeMismatch) rights (if_coded (not (is_directory x)) ResourceTypeMismatch) h in
        let entered = passed (lacks (caller_of e) read_execute dir x) (paged t e dir recursive token page) (lacks_coded (caller_of e) read_execute dir x)
        (sym (ap (λ (r : Reply). r.code) kind) ∙ h) in
        kind ∙ entered ∙ by_page recursive (sym (ap (λ (r : Reply). r.code) (kind ∙ entered)) ∙ h)

pub filesystems_reply : (t : Tree) (e : Entry) (prefix : List ℕ) (token : Option Path) (max : ℕ) → (list_filesystems t e prefix token max).reply.code ≡ None
    → (list_filesystems t e prefix token max).reply
    ≡ with_body 200 (page_fields None (page_of max (above token (filesystems t prefix))).next) (filesystems_body t (page_of max (above token (filesystems t prefix))).paths)
unfolding list_filesystems
filesystems_reply t e prefix token max clean =
    passed (is_no_superuser (caller_of e) []) _ (deny_coded (is_superuser (caller_of e)) rule.SuperuserOnly []) clean
