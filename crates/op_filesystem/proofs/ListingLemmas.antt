-- The answers of a call for a page of filesystems.
use Rattle.std.proofs.Common.{◌≡◌, ◌≤◌, ◌<◌, ℕ, List, [], ◌∷◌, length, inr, Option, Some, None, option_map, IfSome, option_and_then, slice_get, Ok, Err, refl, sym, ap, subst, ◌∙◌, arith}
use Rattle.namespace_model.specs.declared.op.Op.TheVariants as op
use Rattle.namespace_model.specs.declared.request.Entry.{Entry}
use Rattle.namespace_model.specs.declared.request.Request.{Request}
use Rattle.namespace_model.specs.ListFilesystems.{list_filesystems, filesystems, filesystems_body, filesystems_listed}
use Rattle.namespace_model.specs.Outcomes.{Outcome, answered, reading, unless}
use Rattle.namespace_model.specs.Pages.{Page, page_of, above}
use Rattle.namespace_model.specs.Refusals.{caller_of, is_no_superuser}
use Rattle.namespace_model.specs.Replies.{page_fields, with_body}
use Rattle.namespace_model.specs.Sound.{IsOperation, IsRootPath}
use Rattle.namespace_model.specs.Step.{acts}
use Rattle.namespace_model.specs.Trees.{Path, Tree}
use Rattle.inode_tree.specs.declared.draft.Draft.{Draft}
use Rattle.inode_tree.specs.declared.draft.EvalStop.TheVariants as stop
use Rattle.inode_tree.specs.declared.need.Need.{Need}
use Rattle.inode_tree.specs.After.{known}
use Rattle.inode_tree.specs.Footprints.{ids_of}
use Rattle.inode_tree.specs.Parts.{id_at}
use Rattle.inode_tree.specs.Promises.{is_one_of}
use Rattle.inode_tree.specs.Views.{Held, Shown, covers}
use Rattle.inode_tree.proofs.FrameLemmas.{short_id}
use Rattle.inode_tree.proofs.IndexLemmas.{reached_short}
use Rattle.inode_tree.proofs.PairLemmas.{known_has}
use Rattle.lock_core.specs.declared.object.LockMode.TheVariants.{Shared}
use Rattle.path_walk.specs.declared.call.Call.{Call}
use Rattle.path_walk.specs.Calls.{IsCall, Answers, path_of}
use Rattle.path_walk.proofs.AnswerLemmas.{answer_is_draft, read_need, outcome_reads}
use Rattle.path_walk.proofs.SetLemmas.{one_has, one_lies}
use Rattle.std.proofs.Math.Nat.{mod-lt}
use Rattle.std.proofs.Math.Dec.{lit<}
use Rattle.path_order.specs.Needs.{NeedsNode}
use Rattle.op_filesystem.specs.declared.page.Listed.{Listed}
use Rattle.op_filesystem.specs.Listed.{root_of, page_behind, IsListed, NeedsListed, IsToldPage}
use Rattle.op_filesystem.proofs.SuperuserLemmas.{AsksFirst, let_on}

abbrev first_of : Option Path → Option (List ℕ)
first_of token = option_and_then (λ p. slice_get p 0) token

-- a token is that of its first name
token_is : (token : Option Path) → IfSome token IsRootPath → root_of (first_of token) ≡ token
token_is None is = refl
token_is (Some p) is = by_path p is.parts
  where
    by_path : (p : Path) → length p ≡ 1 → root_of (first_of (Some p)) ≡ Some p
    by_path [] h = absurd (omega arith)
    by_path (fs ∷ []) h = refl
    by_path (fs ∷ n ∷ names) h = absurd (omega arith)

-- what comes of the call behind the first question
abbrev pub behind_account : Tree → List ℕ → Option Path → ℕ → Outcome
behind_account t prefix token max = reading ([] ∷ []) (filesystems_listed t (page_of max (above token (filesystems t prefix))))

-- the reply of a page
abbrev filesystems_told : Tree → Page → Outcome
filesystems_told t page = answered (with_body 200 (page_fields None page.next) (filesystems_body t page.paths))

list_is : (t : Tree) (e : Entry) (prefix : List ℕ) (token : Option Path) (max : ℕ) → list_filesystems t e prefix token max ≡ unless (is_no_superuser (caller_of e) []) (behind_account t prefix token max)
unfolding list_filesystems
list_is t e prefix token max = refl

module _ (call : Call) (is : IsCall call) (prefix : List ℕ) (token : Option Path) (max : ℕ) (asked : call.request.now.op ≡ op.ListFilesystems prefix token max) where
  -- the path of the call is the account
  pub at_account : call.path.now ≡ []
  at_account = sym is.named ∙ ap path_of asked

  operation : IsOperation (op.ListFilesystems prefix token max) (length call.request.now.body)
  operation = subst (λ o. IsOperation o (length call.request.now.body)) asked is.sound.operation

  pub some_page : 1 ≤ max
  some_page = operation.0.some

  -- the superuser is asked for first
  pub asks_first : AsksFirst call (λ t e. behind_account t prefix token max)
  asks_first t e asks =
      ap (λ (r : Request). acts t e r.op) asks ∙ ap (acts t e) asked ∙ list_is t e prefix token max
      ∙ ap (λ p. unless (is_no_superuser (caller_of e) p) (behind_account t prefix token max)) (sym at_account)

  module _ (allowed : is_no_superuser call.caller.now call.path.now ≡ None) where
    abbrev from : Option (List ℕ)
    from = first_of token

    -- the account is read, and then the roots of the page
    goes : (t : Tree) (e : Entry) → e.request ≡ call.request.now → acts t e e.request.op ≡ reading ([] ∷ []) (filesystems_listed t (page_behind t prefix from max))
    goes t e asks =
        let_on call is (λ t e. behind_account t prefix token max) asks_first allowed t e asks
        ∙ ap (λ k. reading ([] ∷ []) (filesystems_listed t (page_of max (above k (filesystems t prefix))))) (sym (token_is token operation.1))

    module _ (held : Held) (shown : Shown) where
      -- the account's stripe isn't held
      pub account_needed : (n : Need) → NeedsNode held 0 n → Answers held shown call (Err (stop.Need n))
      account_needed n needs =
          read_need held shown call.request.now call.moment call.fresh n (subst (λ s. s < 64) (sym needs.stripe) (mod-lt 0 (lit< tt))) needs.asks (ap (λ s. covers (held s) Shared) needs.stripe ∙ needs.lacks)
          (λ parts t e possible of. (
            [] ∷ [],
            outcome_reads t e ([] ∷ []) (filesystems_listed t (page_behind t prefix from max)) (goes t e.entry of.asks),
            one_lies n.stripe 0 (ids_of parts ([] ∷ [])) refl (sym needs.stripe),
          ))

      -- or that of a root of the page
      pub page_needed : (n : Need) → NeedsListed held shown prefix from max n → Answers held shown call (Err (stop.Need n))
      page_needed n needs =
          read_need held shown call.request.now call.moment call.fresh n needs.within needs.asks needs.lacks (λ parts t e possible of.
          let one = needs.needed parts t possible.stands possible.agrees in
          let paths = (page_behind t prefix from max).paths in
          let id : id_at parts one.0 ≡ Some one.1.0 = short_id parts one.0 (reached_short parts t possible.stands one.0 one.1.0 one.1.1.1.0) ∙ one.1.1.1.0 in (
            [] ∷ paths,
            outcome_reads t e ([] ∷ paths) (filesystems_told t (page_behind t prefix from max)) (goes t e.entry of.asks),
            one_lies n.stripe one.1.0 (ids_of parts ([] ∷ paths))
                (one_has (known parts ([] ∷ paths)) (one.0, one.1.0) (known_has parts ([] ∷ paths) one.0 one.1.0 (inr one.1.1.0) id)) (sym one.1.1.1.1),
          ))

      -- the page is told
      pub page_answer : (page : Listed) (d : Draft) → IsListed held shown prefix from max page → IsToldPage call.request.now.close page d → Answers held shown call (Ok d)
      page_answer page d listed told =
          answer_is_draft held shown call.request.now call.moment call.fresh (with_body 200 (page_fields None (root_of (option_map (λ n. n.now) page.next))) told.body) page.reads.items d is.sound listed.looked told.answers
          (λ parts t e possible of.
          let all = listed.is_listed parts t possible.stands possible.agrees in (
            [] ∷ all.paths,
            goes t e.entry of.asks ∙ ap (λ p. reading ([] ∷ []) (filesystems_listed t p)) all.is_page
                ∙ ap (λ b. reading ([] ∷ all.paths) (answered (with_body 200 (page_fields None (root_of (option_map (λ n. n.now) page.next))) b))) (sym (told.is_body t all.paths all.tells)),
            λ id. ap (is_one_of id) all.reads,
          ))
