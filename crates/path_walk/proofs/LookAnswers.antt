-- What an answer owes of a step that looks at the node of a path.
use Rattle.std.proofs.Common.{◌≡◌, ◌≢◌, ℕ, Bool, true, false, List, [], ◌∷◌, ◌++◌, Option, Some, None, unwrap_or, refl, ap, sym, ◌∙◌, append-nil}
use Rattle.std.proofs.lemmas.Bool.{false≢true}
use Rattle.namespace_model.specs.declared.caller.Caller.{Caller}
use Rattle.namespace_model.specs.declared.code.Code.TheVariants.{PathNotFound}
use Rattle.namespace_model.specs.declared.reply.Reply.{Reply}
use Rattle.namespace_model.specs.declared.request.Entry.{Entry}
use Rattle.namespace_model.specs.declared.request.Request.{Request}
use Rattle.namespace_model.specs.Looks as looks
use Rattle.namespace_model.specs.Nodes.{Node}
use Rattle.namespace_model.specs.Outcomes.{Outcome, answered, reading, refused, noted}
use Rattle.namespace_model.specs.Refusals.{caller_of, nobody}
use Rattle.namespace_model.specs.Sound.{IsSound}
use Rattle.namespace_model.specs.Step.{acts}
use Rattle.namespace_model.specs.Trees.{Path, Tree, at}
use Rattle.namespace_model.specs.Walks.{missing_below, missing_code, ended}
use Rattle.inode_tree.specs.declared.draft.Draft.{Draft}
use Rattle.inode_tree.specs.declared.fresh.Fresh.{Fresh}
use Rattle.inode_tree.specs.declared.need.Need.{Need}
use Rattle.inode_tree.specs.Inodes.{node_of}
use Rattle.inode_tree.specs.Promises.{is_one_of, IsDraft, IsNeed}
use Rattle.inode_tree.specs.Views.{Held, Shown}
use Rattle.path_walk.specs.declared.find.Find.{Find}
use Rattle.path_walk.specs.declared.find.Found.{Found}
use Rattle.path_walk.specs.declared.find.Found.TheVariants as found
use Rattle.path_walk.specs.Answers.{stop_reply, IsAnswered, found_outcome}
use Rattle.path_walk.specs.Finds.{last_read, read_to, IsFound, IsFindFor, IsNeedOfFind}
use Rattle.path_walk.specs.Visits.{end_of, AreLookedAt}
use Rattle.namespace_model.specs.Ways.{Way, reached, missing, blocked, closed, way_of, read_on}
use Rattle.path_walk.proofs.AnswerLemmas.{answer_is_draft, read_need, stop_is, outcome_reads}
use Rattle.namespace_model.proofs.WayLemmas.{reading_both}

module _ (t : Tree) (e : Entry) (p : Path) (some : Node → Outcome) (caller : Caller) (by : caller_of e ≡ caller) where
  abbrev then_node : Option Node → Outcome
  then_node o = noted o p (refused (missing_code p PathNotFound)) some

  the_way : looks.found t e p some ≡ reading (read_on t caller p) (ended (missing_below PathNotFound) PathNotFound (then_node (at t p)) (way_of t caller p))
  the_way = ap (λ c. reading (read_on t c p) (ended (missing_below PathNotFound) PathNotFound (then_node (at t p)) (way_of t c p))) by

  nothing_more : (w : Way) (o : Option Node) → w ≢ reached → read_on t caller p ++ last_read w p o ≡ read_on t caller p
  nothing_more reached o un = absurd (un refl)
  nothing_more (missing d) o un = append-nil (read_on t caller p)
  nothing_more (blocked q) o un = append-nil (read_on t caller p)
  nothing_more (closed q r) o un = append-nil (read_on t caller p)

  pub node_is : (y : Node) → way_of t caller p ≡ reached → at t p ≡ Some y → looks.found t e p some ≡ reading (read_to t caller p) (some y)
  node_is y same there =
      the_way ∙ ap (λ w. reading (read_on t caller p) (ended (missing_below PathNotFound) PathNotFound (then_node (at t p)) w)) same
      ∙ ap (λ o. reading (read_on t caller p) (then_node o)) there
      ∙ reading_both (read_on t caller p) (p ∷ []) (some y)
      ∙ sym (ap (λ w. reading (read_on t caller p ++ last_read w p (at t p)) (some y)) same
      ∙ ap (λ o. reading (read_on t caller p ++ last_read reached p o) (some y)) there)

  -- the step reads what is read to find the node, and then comes what was found
  pub found_is : (f : Found) → IsFound t caller p f → looks.found t e p some ≡ reading (read_to t caller p) (found_outcome p some f)
  found_is (found.Node id x) is = node_is (node_of x) is.0 is.1
  found_is found.Nothing is =
      the_way ∙ ap (λ w. reading (read_on t caller p) (ended (missing_below PathNotFound) PathNotFound (then_node (at t p)) w)) is.0
      ∙ ap (λ o. reading (read_on t caller p) (then_node o)) is.1
      ∙ sym (ap (λ w. reading (read_on t caller p ++ last_read w p (at t p)) (refused (missing_code p PathNotFound))) is.0
      ∙ ap (λ o. reading (read_on t caller p ++ last_read reached p o) (refused (missing_code p PathNotFound))) is.1
      ∙ ap (λ l. reading l (refused (missing_code p PathNotFound))) (append-nil (read_on t caller p)))
  found_is (found.Stopped s) is =
      the_way ∙ ap (reading (read_on t caller p)) (stop_is PathNotFound (then_node (at t p)) (way_of t caller p) s is.1 is.0)
      ∙ sym (ap (λ l. reading l (answered (stop_reply PathNotFound s))) (nothing_more (way_of t caller p) (at t p) is.0))

abbrev is_reached_way : Way → Bool
is_reached_way reached = true
is_reached_way (missing d) = false
is_reached_way (blocked q) = false
is_reached_way (closed q r) = false

the_caller : (e : Entry) (request : Request) (caller : Caller) → e.request ≡ request → request.caller ≡ Some caller → caller_of e ≡ caller
the_caller e request caller asks by = ap (λ (r : Request). unwrap_or r.caller nobody) asks ∙ ap (λ c. unwrap_or c nobody) by

-- An answer by what was found at a path is a draft, where the step looks at the node of the path and this is its answer.
pub look_draft : (held : Held) (shown : Shown) (request : Request) (moment : ℕ) (fresh : Fresh) (caller : Caller) (path : Path) (some : Tree → Entry → Node → Outcome) (f : Find) (reply : Reply) (d : Draft)
    → IsSound request → request.caller ≡ Some caller
    → ((t : Tree) (e : Entry) → e.request ≡ request → acts t e e.request.op ≡ looks.found t e path (some t e))
    → IsFindFor shown caller path f → AreLookedAt held shown f.ids.items → IsAnswered request.close reply f.ids.items d
    → ((t : Tree) (e : Entry) → e.request ≡ request → e.moment ≡ moment → found_outcome path (some t e) f.found ≡ answered reply)
    → IsDraft held shown request moment fresh d
look_draft held shown request moment fresh caller path some f reply d sound by step finds looked is says =
    answer_is_draft held shown request moment fresh reply f.ids.items d sound looked is (λ parts t e possible of.
    let found = finds parts t possible.stands possible.agrees in (
      read_to t caller path,
      step t e.entry of.asks ∙ found_is t e.entry path (some t e.entry) caller (the_caller e.entry request caller of.asks by) f.found found.found_is
          ∙ ap (reading (read_to t caller path)) (says t e.entry of.asks of.comes_at),
      λ id. ap (λ (l : List ℕ). is_one_of id l) found.read,
    ))

-- what is read on the way to a node of a path is read by a step that looks at it
pub look_need : (held : Held) (shown : Shown) (request : Request) (moment : ℕ) (fresh : Fresh) (caller : Caller) (path : Path) (some : Tree → Entry → Node → Outcome) (n : Need)
    → request.caller ≡ Some caller → ((t : Tree) (e : Entry) → e.request ≡ request → acts t e e.request.op ≡ looks.found t e path (some t e))
    → IsNeedOfFind held shown caller path n → IsNeed held shown request moment fresh n
look_need held shown request moment fresh caller path some n by step before =
    read_need held shown request moment fresh n before.within before.asks before.lacks (λ parts t e possible of.
    let found = found_there t e.entry path (some t e.entry) caller (the_caller e.entry request caller of.asks by) in (
      read_to t caller path,
      outcome_reads t e (read_to t caller path) found.0 (step t e.entry of.asks ∙ found.1),
      before.needed parts t possible.stands possible.agrees,
    ))
  where
    found_there : (t : Tree) (e : Entry) (p : Path) (some : Node → Outcome) (caller : Caller) → caller_of e ≡ caller → (after : Outcome) × (looks.found t e p some ≡ reading (read_to t caller p) after)
    found_there t e p some caller by = by_way (way_of t caller p) refl (at t p) refl
      where
        lost : is_reached_way (way_of t caller p) ≡ false → (after : Outcome) × (looks.found t e p some ≡ reading (read_to t caller p) after)
        lost un =
            let s = found.Stopped (end_of (way_of t caller p)) in
            (found_outcome p some s, found_is t e p some caller by s ((λ h. false≢true (sym un ∙ ap is_reached_way h)), refl))

        by_way : (w : Way) → way_of t caller p ≡ w → (o : Option Node) → at t p ≡ o → (after : Outcome) × (looks.found t e p some ≡ reading (read_to t caller p) after)
        by_way reached same None none = (found_outcome p some found.Nothing, found_is t e p some caller by found.Nothing (same, none))
        by_way reached same (Some x) there = (some x, node_is t e p some caller by x same there)
        by_way (missing d) same o is = lost (ap is_reached_way same)
        by_way (blocked q) same o is = lost (ap is_reached_way same)
        by_way (closed q r) same o is = lost (ap is_reached_way same)
