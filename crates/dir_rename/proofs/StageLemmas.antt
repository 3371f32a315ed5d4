-- How a rename goes on: what comes then is said in other words, more is read, it is answered, or a stripe is needed.
use Rattle.std.proofs.Common.{◌≡◌, ℕ, ◌<◌, ◌||◌, true, false, List, [], ◌++◌, Ok, Err, refl, ap, sym, subst, ◌∙◌}
use Rattle.std.proofs.lemmas.Bool.{false≢true}
use Rattle.lock_core.specs.declared.object.LockMode.TheVariants.{Shared}
use Rattle.namespace_model.specs.declared.code.Code.{Code}
use Rattle.namespace_model.specs.declared.reply.Reply.{Reply}
use Rattle.namespace_model.specs.declared.request.Entry.{Entry}
use Rattle.namespace_model.specs.Nodes.{Node}
use Rattle.namespace_model.specs.Outcomes.{Outcome, answered, reading}
use Rattle.namespace_model.specs.Step.{acts}
use Rattle.namespace_model.specs.Trees.{Path, Tree}
use Rattle.namespace_model.proofs.Alikeness.{among_right}
use Rattle.namespace_model.proofs.WayLemmas.{reading_both}
use Rattle.inode_tree.specs.declared.draft.Draft.{Draft}
use Rattle.inode_tree.specs.declared.draft.EvalStop.TheVariants as stop
use Rattle.inode_tree.specs.declared.id.NodeId.{NodeId}
use Rattle.inode_tree.specs.declared.need.Need.{Need}
use Rattle.inode_tree.specs.Footprints.{ids_of, lies_in}
use Rattle.inode_tree.specs.Parts.{Parts}
use Rattle.inode_tree.specs.Promises.{numbers_of, is_one_of}
use Rattle.inode_tree.specs.Stands.{Stands}
use Rattle.inode_tree.specs.Views.{Held, Shown, Agrees, covers}
use Rattle.path_walk.specs.declared.call.Call.{Call}
use Rattle.path_walk.specs.Answers.{IsAnswered}
use Rattle.path_walk.specs.Calls.{IsCall, Answers, GoesOn}
use Rattle.path_walk.specs.Visits.{AreLookedAt}
use Rattle.path_walk.proofs.AnswerLemmas.{answer_is_draft, read_need, outcome_reads}
use Rattle.path_walk.proofs.CallLemmas.{agrees_earlier, looked_later}
use Rattle.path_walk.proofs.FindLemmas.{ids_of_append}
use Rattle.path_walk.proofs.ReadLemmas.{both_lists, looked_both}
use Rattle.path_walk.proofs.SetLemmas.{lies_more}
use Rattle.path_walk.proofs.TrailLemmas.{one_of_append}
use Rattle.dir_rename.specs.declared.ends.Spot.{Spot}
use Rattle.dir_rename.specs.Ends.{end_step, comes_then, Reads, IsSpot, NeedsLook}
use Rattle.dir_rename.specs.Stages.{Rest, IsComing}

-- it is so at a later view too
pub coming_later : {O : Type 0} {held later : Held} {over over_later : O} {shown shown_later : Shown} → GoesOn held later over over_later shown shown_later → (call : Call) (reads : List NodeId) (rest : Rest)
    → IsComing held shown call reads rest → IsComing later shown_later call reads rest
coming_later on call reads rest is = record {
  comes = λ parts t stands agrees. is.comes parts t stands (agrees_earlier on parts agrees);
  looked = looked_later on reads is.looked;
}

module _ (held : Held) (shown : Shown) (call : Call) (is : IsCall call) where
  -- whatever is to be shown of each entry of the call, for all parts that stand for a tree and agree with what was shown
  abbrev pub Always : (Parts → Tree → Entry → Type 0) → Type 0
  Always so = (parts : Parts) (t : Tree) → Stands parts t → Agrees shown parts → (e : Entry) → e.request ≡ call.request.now → e.moment ≡ call.moment → so parts t e

  -- nothing was read yet
  pub begins : (rest : Rest) → Always (λ parts t e. acts t e e.request.op ≡ rest t e) → IsComing held shown call [] rest
  begins rest same = record {
    comes = λ parts t stands agrees e asks moment. record { paths = []; acts_so = same parts t stands agrees e asks moment; reads_are = λ id. refl };
    looked = λ id h. absurd (false≢true h);
  }

  -- in other words
  pub coming_as : (reads : List NodeId) (rest more : Rest) → IsComing held shown call reads rest → Always (λ parts t e. rest t e ≡ more t e) → IsComing held shown call reads more
  coming_as reads rest more coming same = record {
    comes = λ parts t stands agrees e asks moment.
        let c = coming.comes parts t stands agrees e asks moment in
        record { paths = c.paths; acts_so = c.acts_so ∙ ap (reading c.paths) (same parts t stands agrees e asks moment); reads_are = c.reads_are };
    looked = coming.looked;
  }

  -- more is read
  pub record ReadsMore (parts : Parts) (ids : List NodeId) (rest more : Outcome) : Type 0 where
    pub paths : List Path
    pub goes : rest ≡ reading paths more
    pub are : (id : ℕ) → is_one_of id (numbers_of ids) ≡ is_one_of id (ids_of parts paths)

  pub coming_on : (reads ids all : List NodeId) (rest more : Rest) → IsComing held shown call reads rest → AreLookedAt held shown ids → all ≡ reads ++ ids
      → Always (λ parts t e. ReadsMore parts ids (rest t e) (more t e)) → IsComing held shown call all more
  coming_on reads ids all rest more coming looked both reads_more = record {
    comes = λ parts t stands agrees e asks moment.
        let c = coming.comes parts t stands agrees e asks moment in
        let r = reads_more parts t stands agrees e asks moment in
        record {
          paths = c.paths ++ r.paths;
          acts_so = c.acts_so ∙ ap (reading c.paths) r.goes ∙ reading_both c.paths r.paths (more t e);
          reads_are = λ id.
              ap (λ (l : List NodeId). is_one_of id (numbers_of l)) both ∙ both_lists id reads ids
              ∙ ap (λ b. b || is_one_of id (numbers_of ids)) (c.reads_are id)
              ∙ ap (λ b. is_one_of id (ids_of parts c.paths) || b) (r.are id)
              ∙ sym (ap (is_one_of id) (ids_of_append parts c.paths r.paths) ∙ one_of_append id (ids_of parts c.paths) (ids_of parts r.paths));
        };
    looked = subst (λ (l : List NodeId). AreLookedAt held shown l) (sym both) (looked_both held shown reads ids coming.looked looked);
  }

  -- it is answered
  pub answer_comes : (reads : List NodeId) (rest : Rest) (reply : Reply) (d : Draft) → IsComing held shown call reads rest → Always (λ parts t e. rest t e ≡ answered reply) → IsAnswered call.request.now.close reply reads d
      → Answers held shown call (Ok d)
  answer_comes reads rest reply d coming same answers =
      answer_is_draft held shown call.request.now call.moment call.fresh reply reads d is.sound coming.looked answers (λ parts t e possible of.
      let c = coming.comes parts t possible.stands possible.agrees e.entry of.asks of.comes_at in (
        c.paths,
        c.acts_so ∙ ap (reading c.paths) (same parts t possible.stands possible.agrees e.entry of.asks of.comes_at),
        c.reads_are,
      ))

  -- a stripe is needed, in which a node lies that is read
  pub record NeedsMore (parts : Parts) (stripe : ℕ) (rest : Outcome) : Type 0 where
    pub paths : List Path
    pub after : Outcome
    pub goes : rest ≡ reading paths after
    pub lies : lies_in stripe (ids_of parts paths) ≡ true

  pub need_comes : (reads : List NodeId) (rest : Rest) (n : Need) → IsComing held shown call reads rest → n.stripe < 64 → n.mode ≡ Shared → covers (held n.stripe) Shared ≡ false
      → Always (λ parts t e. NeedsMore parts n.stripe (rest t e)) → Answers held shown call (Err (stop.Need n))
  need_comes reads rest n coming within asks lacks needs =
      read_need held shown call.request.now call.moment call.fresh n within asks lacks (λ parts t e possible of.
      let c = coming.comes parts t possible.stands possible.agrees e.entry of.asks of.comes_at in
      let more = needs parts t possible.stands possible.agrees e.entry of.asks of.comes_at in (
        c.paths ++ more.paths,
        outcome_reads t e (c.paths ++ more.paths) more.after (c.acts_so ∙ ap (reading c.paths) more.goes ∙ reading_both c.paths more.paths more.after),
        lies_more parts n.stripe more.paths (c.paths ++ more.paths) (λ p h. among_right p c.paths more.paths h) more.lies,
      ))

  -- ---- a look at one end

  module _ (code : Code) (p : Path) (none : Tree → Entry → Node → Outcome) (some : Tree → Entry → Node → Node → Outcome) (reads : List NodeId)
      (coming : IsComing held shown call reads (λ t e. end_step t call.caller.now code p (none t e) (some t e))) where
    -- it ends the call
    pub look_answer : (ids all : List NodeId) (reply : Reply) (d : Draft)
        → ((parts : Parts) (t : Tree) → Stands parts t → Agrees shown parts → Reads parts ids (end_step t call.caller.now code p) (λ none some. answered reply)) × AreLookedAt held shown ids
        → all ≡ reads ++ ids → IsAnswered call.request.now.close reply all d → Answers held shown call (Ok d)
    look_answer ids all reply d ends both answers =
        answer_comes all (λ t e. answered reply) reply d
        (coming_on reads ids all (λ t e. end_step t call.caller.now code p (none t e) (some t e)) (λ t e. answered reply) coming ends.1 both (λ parts t stands agrees e asks moment.
        let r = ends.0 parts t stands agrees in record { paths = r.paths; goes = r.goes (none t e) (some t e); are = λ id. ap (is_one_of id) r.are }))
        (λ parts t stands agrees e asks moment. refl) answers

    -- it goes on
    pub look_comes : (s : Spot) (all : List NodeId) → IsSpot held shown call.caller.now code p s → all ≡ reads ++ s.reads.items
        → IsComing held shown call all (λ t e. comes_then s.base.node s.found (none t e) (some t e))
    look_comes s all spot both =
        coming_on reads s.reads.items all (λ t e. end_step t call.caller.now code p (none t e) (some t e)) (λ t e. comes_then s.base.node s.found (none t e) (some t e)) coming spot.looked both (λ parts t stands agrees e asks moment.
        let r = (spot.is_spot parts t stands agrees).reads in record { paths = r.paths; goes = r.goes (none t e) (some t e); are = λ id. ap (is_one_of id) r.are })

    -- it needs a stripe
    pub look_needs : (n : Need) → NeedsLook held shown call.caller.now code p n → Answers held shown call (Err (stop.Need n))
    look_needs n needs =
        need_comes reads (λ t e. end_step t call.caller.now code p (none t e) (some t e)) n coming needs.within needs.asks needs.lacks (λ parts t stands agrees e asks moment.
        let one = needs.needed parts t stands agrees in
        let goes = one.1.1 (none t e) (some t e) in
        record { paths = one.0; after = goes.0; goes = goes.1; lies = one.1.0 })
