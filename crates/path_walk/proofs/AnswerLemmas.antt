-- What an answer that changes nothing owes.
use Rattle.std.proofs.Common.{◌≡◌, ◌≢◌, ℕ, ◌==◌, ◌<◌, Bool, true, false, cond, ◌||◌, nat_lt, List, [], ◌∷◌, ◌++◌, map, zip, length, ◌+◌, suc, Option, refl, ap, sym, subst, ◌∙◌, append-nil, arith}
use Rattle.std.proofs.lemmas.Bool.{false≢true}
use Rattle.std.proofs.lemmas.Bool.Decides.{nat_tests}
use Rattle.lock_core.specs.declared.object.LockMode.TheVariants as mode
use Rattle.namespace_model.specs.declared.caller.Caller.{Caller}
use Rattle.namespace_model.specs.declared.code.Code.{Code}
use Rattle.namespace_model.specs.declared.code.Code.TheVariants.{FilesystemNotFound}
use Rattle.namespace_model.specs.declared.reply.Reply.{Reply}
use Rattle.namespace_model.specs.declared.request.Request.{Request}
use Rattle.namespace_model.specs.Outcomes.{Outcome, answered, reading, once}
use Rattle.namespace_model.specs.Locality.{Among}
use Rattle.namespace_model.specs.Replies.{refusal}
use Rattle.namespace_model.specs.Sound.{IsSound}
use Rattle.namespace_model.specs.Step.{acts, outcome, new_paths, closing}
use Rattle.namespace_model.specs.Trees.{Path, Tree}
use Rattle.namespace_model.specs.Walks.{missing_below, ended}
use Rattle.namespace_model.proofs.Alikeness.{among_left}
use Rattle.namespace_model.proofs.StepLocality.{among_once}
use Rattle.inode_tree.specs.declared.draft.Draft.{Draft}
use Rattle.inode_tree.specs.declared.fresh.Fresh.{Fresh}
use Rattle.inode_tree.specs.declared.id.NodeId.{NodeId}
use Rattle.inode_tree.specs.declared.need.Need.{Need}
use Rattle.inode_tree.specs.declared.placed.Placed.{Placed}
use Rattle.inode_tree.specs.Inodes.{BareInode}
use Rattle.inode_tree.specs.After.{known, relinks, turns, drawn_ids, outcome_on, turns_by}
use Rattle.inode_tree.specs.Drawing.{next_ids}
use Rattle.inode_tree.specs.Footprints.{ids_of, lies_in, writes}
use Rattle.inode_tree.specs.Parts.{Parts, inode_at}
use Rattle.inode_tree.specs.Promises.{IsEntryOf, numbers_of, is_one_of, IsOfStep, IsDraft, IsNeed, NeedsStripe}
use Rattle.inode_tree.specs.Views.{Held, Shown, ArePossible, covers}
use Rattle.inode_tree.proofs.PromiseLemmas.{of_step, outcome_there, changed_by}
use Rattle.inode_tree.proofs.TurnLemmas.{turned_by}
use Rattle.path_walk.specs.declared.stop.End.{End}
use Rattle.path_walk.specs.declared.stop.End.TheVariants as end
use Rattle.path_walk.specs.Answers.{stop_reply, IsAnswered}
use Rattle.path_walk.specs.Visits.{end_of, AreLookedAt, IsOnTheWay}
use Rattle.namespace_model.specs.Ways.{Way, reached, missing, blocked, closed, read_on}
use Rattle.path_walk.proofs.SetLemmas.{ids_once, lies_more}

-- ---- the outcome of a step that ends with a reply

abbrev acts_of : Tree → Placed → Outcome
acts_of t e = acts t e.entry e.entry.request.op

outcome_read : (t : Tree) (e : Placed) (ps : List Path) (reply : Reply) → acts_of t e ≡ reading ps (answered reply) → (outcome t e.entry).read ≡ once ps
unfolding outcome
outcome_read t e ps reply h = ap (λ (o : Outcome). once o.read) h ∙ ap once (append-nil ps)

outcome_written : (t : Tree) (e : Placed) (ps : List Path) (reply : Reply) → acts_of t e ≡ reading ps (answered reply) → (outcome t e.entry).written ≡ []
unfolding outcome
outcome_written t e ps reply h = ap (λ (o : Outcome). once o.written) h

outcome_fresh : (t : Tree) (e : Placed) (ps : List Path) (reply : Reply) → acts_of t e ≡ reading ps (answered reply) → (outcome t e.entry).fresh ≡ []
unfolding outcome
outcome_fresh t e ps reply h = ap (λ (o : Outcome). o.fresh) h

outcome_reply : (t : Tree) (e : Placed) (ps : List Path) (reply : Reply) → acts_of t e ≡ reading ps (answered reply) → (outcome t e.entry).reply ≡ closing e.entry.request.close reply
unfolding outcome
outcome_reply t e ps reply h = ap (λ (o : Outcome). closing e.entry.request.close o.reply) h

-- what an entry read before it went on is read
pub outcome_reads : (t : Tree) (e : Placed) (ps : List Path) (after : Outcome) → acts_of t e ≡ reading ps after → (p : Path) → Among p ps → Among p (outcome t e.entry).read
unfolding outcome
outcome_reads t e ps after h p k = among_once p (acts_of t e).read (subst (λ (o : Outcome). Among p o.read) (sym h) (among_left p ps after.read k))

-- no turns where nothing is written and nothing is new
no_turns : (o : Outcome) (parts : Parts) (ids : List ℕ) (number id : ℕ) (before : Option BareInode) → o.written ≡ [] → o.fresh ≡ [] → turned_by number id (turns_by o (known parts o.written) ids) before ≡ before
no_turns o parts ids number id before written fresh =
    ap (λ (w : List Path). turned_by number id (turns_by o (known parts w) ids) before) written
    ∙ ap (λ (f : List Path). turned_by number id (cond (nat_lt (length ids) (length f)) [] (turns o.effect (relinks o.effect [] (zip f ids)) [] (zip f ids))) before) fresh
    ∙ either (nat_lt (length ids) 0)
  where
    either : (b : Bool) → turned_by number id (cond b [] []) before ≡ before
    either true = refl
    either false = refl

module _ (shown : Shown) (request : Request) (moment : ℕ) (fresh : Fresh) (parts : Parts) (t : Tree) (e : Placed)
    (possible : ArePossible shown fresh.pass fresh.used parts t) (of : IsEntryOf request moment fresh t e) (sound : IsSound request) (ps : List Path) (reply : Reply) (ends : acts_of t e ≡ reading ps (answered reply)) where
  nothing_new : length (new_paths t e.entry) ≡ 0
  nothing_new = ap (λ (l : List Path). length l) (outcome_fresh t e ps reply ends)

  draws_nothing : drawn_ids e ≡ []
  draws_nothing = ap (λ (ids : List NodeId). map (λ (i : NodeId). i.0) ids) (of.draws ∙ ap (next_ids fresh.pass fresh.used) nothing_new)

  there : outcome_on parts e ≡ outcome t e.entry
  there = outcome_there shown request moment fresh parts t e possible of

  -- a draft with the reply and the ids that were read is that of the step
  pub answer_of_step : (ids : List NodeId) (d : Draft) → IsAnswered request.close reply ids d → ((id : ℕ) → is_one_of id (numbers_of ids) ≡ is_one_of id (ids_of parts ps)) → IsOfStep d parts t e
  answer_of_step ids d is same =
      of_step shown request moment fresh parts t e possible of d sound
      (is.replies ∙ ap (λ (r : Request). closing r.close reply) (sym of.asks) ∙ sym (outcome_reply t e ps reply ends))
      (is.draws_none ∙ sym nothing_new)
      (λ id. ap (λ (l : List NodeId). is_one_of id (numbers_of l)) is.reads_ids ∙ same id ∙ sym (ids_once parts ps id)
      ∙ sym (ap (λ (o : Outcome). is_one_of id (ids_of parts o.read)) there ∙ ap (λ (l : List Path). is_one_of id (ids_of parts l)) (outcome_read t e ps reply ends)))
      (λ id. ap (λ (l : List NodeId). is_one_of id (numbers_of l)) is.writes_none
      ∙ sym (ap (λ (o : Outcome). is_one_of id (ids_of parts o.written ++ drawn_ids e)) there ∙ ap (λ (l : List Path). is_one_of id (ids_of parts l ++ drawn_ids e)) (outcome_written t e ps reply ends)
      ∙ ap (λ (l : List ℕ). is_one_of id l) draws_nothing))
      (λ number id. ap (λ cs. changed_by number id cs (inode_at parts id)) is.changes_none
      ∙ sym (ap (λ (o : Outcome). turned_by number id (turns_by o (known parts o.written) (drawn_ids e)) (inode_at parts id)) there
      ∙ no_turns (outcome t e.entry) parts (drawn_ids e) number id (inode_at parts id) (outcome_written t e ps reply ends) (outcome_fresh t e ps reply ends)))

-- ---- a draft

-- An answer is a draft where it is one of the step for all possible parts, and each node that was read was looked at.
pub answer_is_draft : (held : Held) (shown : Shown) (request : Request) (moment : ℕ) (fresh : Fresh) (reply : Reply) (ids : List NodeId) (d : Draft) → IsSound request → AreLookedAt held shown ids
    → IsAnswered request.close reply ids d
    → ((parts : Parts) (t : Tree) (e : Placed) → ArePossible shown fresh.pass fresh.used parts t → IsEntryOf request moment fresh t e
    → (ps : List Path) × (acts_of t e ≡ reading ps (answered reply)) × ((id : ℕ) → is_one_of id (numbers_of ids) ≡ is_one_of id (ids_of parts ps)))
    → IsDraft held shown request moment fresh d
answer_is_draft held shown request moment fresh reply ids d sound looked is says = record {
  of_step = λ parts t e possible of.
      let said = says parts t e possible of in
      answer_of_step shown request moment fresh parts t e possible of sound said.0 reply said.1 ids d is said.2;
  held_exclusively = λ id h. absurd (false≢true (sym (ap (λ (l : List NodeId). is_one_of id (numbers_of l)) is.writes_none) ∙ h));
  held_shared = λ id h. (looked id (sym (ap (λ (l : List NodeId). is_one_of id (numbers_of l)) is.reads_ids) ∙ h)).0;
  looked_at = λ id h. (looked id (sym (ap (λ (l : List NodeId). is_one_of id (numbers_of l)) is.reads_ids) ∙ h)).1;
}

-- ---- a need

-- A stripe of paths that an entry reads is needed, where it isn't held.
pub read_need : (held : Held) (shown : Shown) (request : Request) (moment : ℕ) (fresh : Fresh) (n : Need) → n.stripe < 64 → n.mode ≡ mode.Shared → covers (held n.stripe) mode.Shared ≡ false
    → ((parts : Parts) (t : Tree) (e : Placed) → ArePossible shown fresh.pass fresh.used parts t → IsEntryOf request moment fresh t e
    → (ps : List Path) × ((p : Path) → Among p ps → Among p (outcome t e.entry).read) × (lies_in n.stripe (ids_of parts ps) ≡ true))
    → IsNeed held shown request moment fresh n
read_need held shown request moment fresh n within asks lacks says = record {
  within = within;
  lacks = ap (covers (held n.stripe)) asks ∙ lacks;
  needed = λ parts t e possible of.
      let said = says parts t e possible of in
      subst (λ m. NeedsStripe m n.stripe parts e) (sym asks)
      (ap (λ b. b || writes parts e n.stripe)
      (ap (λ (o : Outcome). lies_in n.stripe (ids_of parts o.read)) (outcome_there shown request moment fresh parts t e possible of) ∙ lies_more parts n.stripe said.0 (outcome t e.entry).read said.1 said.2));
}

-- a stripe of the way is needed by an entry that walks
pub way_need : (held : Held) (shown : Shown) (request : Request) (moment : ℕ) (fresh : Fresh) (caller : Caller) (path : Path) (n : Need) → IsOnTheWay held shown caller path n
    → ((parts : Parts) (t : Tree) (e : Placed) → ArePossible shown fresh.pass fresh.used parts t → IsEntryOf request moment fresh t e → (after : Outcome) × (acts_of t e ≡ reading (read_on t caller path) after))
    → IsNeed held shown request moment fresh n
way_need held shown request moment fresh caller path n on says =
    read_need held shown request moment fresh n on.within on.asks on.lacks (λ parts t e possible of.
    let said = says parts t e possible of in
    (read_on t caller path, outcome_reads t e (read_on t caller path) said.0 said.1, on.needed parts t possible.stands possible.agrees))

-- ---- a way that ends

-- the reply of a way that ends before the parent
pub stop_is : (code : Code) (after : Outcome) (w : Way) (e : End) → e ≡ end_of w → w ≢ reached → ended (missing_below code) code after w ≡ answered (stop_reply code e)
stop_is code after reached e same other = absurd (other refl)
stop_is code after (missing d) e same other = below d ∙ ap (λ x. answered (stop_reply code x)) (sym same)
  where
    deep : (m : ℕ) → (suc m + 1 == 1) ≡ false
    deep m = grind (arith, nat_tests)

    below : (d : Path) → missing_below code d ≡ answered (stop_reply code (end.NotFound (length d + 1)))
    below [] = refl
    below (fs ∷ names) = sym (ap (λ b. answered (refusal (cond b FilesystemNotFound code))) (deep (length names)))
stop_is code after (blocked p) e same other = ap (λ x. answered (stop_reply code x)) (sym same)
stop_is code after (closed p r) e same other = ap (λ x. answered (stop_reply code x)) (sym same)
