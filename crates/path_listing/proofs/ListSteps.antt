-- The step of a listing, by what was found and read.
use Rattle.std.proofs.Common.{◌≡◌, ℕ, Bool, true, false, not, List, [], ◌∷◌, ◌++◌, slice_get, Option, Some, None, refl, sym, ap, ◌∙◌}
use Rattle.std.specs.Option.{unwrap_or}
use Rattle.namespace_model.specs.declared.caller.Caller.{Caller}
use Rattle.namespace_model.specs.declared.code.Code.TheVariants.{ResourceTypeMismatch}
use Rattle.namespace_model.specs.declared.op.Op.TheVariants as op
use Rattle.namespace_model.specs.declared.reply.Reply.{Reply}
use Rattle.namespace_model.specs.declared.request.Entry.{Entry}
use Rattle.namespace_model.specs.ListPaths.{is_closed, list_node, list_page, list_paths, listed, paged, paths_body}
use Rattle.namespace_model.specs.Looks as looks
use Rattle.namespace_model.specs.Nodes.{Node, is_directory}
use Rattle.namespace_model.specs.Outcomes.{answered, reading, unless}
use Rattle.namespace_model.specs.Pages.{Page, on_the_way}
use Rattle.namespace_model.specs.Refusals.{caller_of, lacks, refuse_if, or_else, first_refusal}
use Rattle.namespace_model.specs.Replies.{with_body, page_fields}
use Rattle.namespace_model.specs.Step.{acts}
use Rattle.namespace_model.specs.Trees.{Path, Tree, node_at, is_below}
use Rattle.inode_tree.specs.Inodes.{BareInode, node_of}
use Rattle.path_walk.proofs.QuestionLemmas.{unless_both, unless_answered}
use Rattle.path_listing.specs.Listed.{refusal_of, way_read}

-- the step looks at the node of the path
pub step_is : (t : Tree) (e : Entry) (dir : Path) (recursive : Bool) (token : Option Path) (max : ℕ) → acts t e (op.List dir recursive token max) ≡ looks.found t e dir (list_node t e dir recursive token max)
unfolding list_paths
step_is t e dir recursive token max = refl

module _ (t : Tree) (e : Entry) (dir : Path) (recursive : Bool) (token : Option Path) (max : ℕ) (caller : Caller) (by : caller_of e ≡ caller) where
  abbrev page : Page
  page = list_page t dir recursive token max

  -- the questions of the node are one
  pub node_is : (x : BareInode) → list_node t e dir recursive token max (node_of x) ≡ unless (refusal_of caller dir x) (paged t e dir recursive token page)
  node_is x =
      ap (λ c. unless (refuse_if (not (is_directory (node_of x))) ResourceTypeMismatch) (unless (lacks c 5 dir (node_of x)) (paged t e dir recursive token page))) by
      ∙ unless_both (refuse_if (not (is_directory (node_of x))) ResourceTypeMismatch) (lacks caller 5 dir (node_of x)) (paged t e dir recursive token page)

-- what is asked of all that is read, where all that is below is listed
abbrev pub asked : Caller → Tree → Bool → List Path → Option Reply
asked caller t true seen = first_refusal (is_closed caller) t seen
asked caller t false seen = None

-- the reply by a page
abbrev pub reply_of : Tree → Path → Page → Reply
reply_of t dir page = with_body 200 (page_fields (slice_get dir 0) page.next) (paths_body t page.paths)

-- the page and the way to it are read, and then comes the first refusal of them or the page
pub paged_is : (t : Tree) (e : Entry) (dir : Path) (recursive : Bool) (token : Option Path) (page : Page) (caller : Caller) → caller_of e ≡ caller
    → paged t e dir recursive token page ≡ reading (way_read t dir recursive token ++ page.paths) (answered (unwrap_or (asked caller t recursive (way_read t dir recursive token ++ page.paths)) (reply_of t dir page)))
paged_is t e dir true token p caller by =
    let seen = on_the_way t (is_below dir) token ++ p.paths in
    ap (λ c. reading seen (unless (first_refusal (is_closed c) t seen) (listed t dir p))) by
    ∙ ap (reading seen) (unless_answered (first_refusal (is_closed caller) t seen) (reply_of t dir p))
paged_is t e dir false token p caller by = refl

-- the first refusal of two lists
pub first_both : (asks : Path → Node → Option Reply) (t : Tree) (ps qs : List Path) → first_refusal asks t (ps ++ qs) ≡ or_else (first_refusal asks t ps) (first_refusal asks t qs)
first_both asks t [] qs = refl
first_both asks t (p ∷ ps) qs = ap (or_else (asks p (node_at t p))) (first_both asks t ps qs) ∙ sym (or_both (asks p (node_at t p)) (first_refusal asks t ps) (first_refusal asks t qs))
  where
    or_both : (a b c : Option Reply) → or_else (or_else a b) c ≡ or_else a (or_else b c)
    or_both None b c = refl
    or_both (Some r) b c = refl
