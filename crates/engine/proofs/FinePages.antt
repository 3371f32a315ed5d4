-- What comes of a page or a batch is answered by replies that can be spelled.
use Rattle.std.proofs.Common.{ℕ, Bool, true, false, cond, not, List, [], ◌∷◌, ◌++◌, Option, Some, None, slice_get, lit≤, lit<, refl}
use Rattle.std.specs.Prelude.{IfSome}
use Rattle.namespace_model.specs.declared.caller.Caller.{Caller}
use Rattle.namespace_model.specs.declared.code.Code.TheVariants as code
use Rattle.namespace_model.specs.declared.denied.Rule.TheVariants as rule
use Rattle.namespace_model.specs.declared.field.Field.TheVariants.{ContentType, Continuation}
use Rattle.namespace_model.specs.declared.field.Media.TheVariants.{Json}
use Rattle.namespace_model.specs.declared.op.BatchChange.{BatchChange}
use Rattle.namespace_model.specs.declared.request.Entry.{Entry}
use Rattle.namespace_model.specs.Access.{access_check, is_superuser}
use Rattle.namespace_model.specs.ListFilesystems.{filesystems, filesystems_listed, filesystems_body, list_filesystems}
use Rattle.namespace_model.specs.ListPaths.{is_closed, list_page, listed, paged, paths_body, list_paths}
use Rattle.namespace_model.specs.Nodes.{Node, is_directory}
use Rattle.namespace_model.specs.Pages.{Page, above, on_the_way, page_of}
use Rattle.namespace_model.specs.Refusals.{caller_of, refuse_if, lacks, is_no_superuser, first_refusal}
use Rattle.namespace_model.specs.Replies.{with_body, page_fields, continuation_fields}
use Rattle.namespace_model.specs.SetAccessRecursive.{Batch, batch_next, batch_of, batch_page, batch_below, batched, batch_body, set_access_recursive}
use Rattle.namespace_model.specs.Trees.{Path, Tree, is_below}
use Rattle.path_text.specs.Tokens.{token_text}
use Rattle.reply_text.specs.ReplyText.{CanSpell}
use Rattle.reply_text.proofs.Spellable.{AreClosed, closed_none, closed_more, plain_spelled}
use Rattle.engine.proofs.FineQuestions.{IsFine, answered_fine, reading_fine, unless_fine, denied_fine, deny_fine, refuse_fine, first_fine, found_fine}
use Rattle.engine.proofs.FineNodes.{body_spelled}

closed_page : (fs : Option (List ℕ)) (next : Option Path) → AreClosed (page_fields fs next)
closed_page fs next = closed_more (ContentType Json) (continuation_fields fs next) tt refl (by_next next)
  where
    by_next : (o : Option Path) → AreClosed (continuation_fields fs o)
    by_next None = closed_none
    by_next (Some p) = closed_more (Continuation (token_text fs p)) [] tt refl closed_none

page_spelled : (fs : Option (List ℕ)) (next : Option Path) (bytes : List ℕ) → CanSpell (with_body 200 (page_fields fs next) bytes)
page_spelled fs next bytes = body_spelled 200 _ bytes (plain_spelled 200 (page_fields fs next) (lit≤ tt, lit< tt) (closed_page fs next))

module _ (t : Tree) (e : Entry) where
  closed_fine : (caller : Caller) (p : Path) (x : Node) → IfSome (is_closed caller p x) CanSpell
  closed_fine caller p x = by_kind (is_directory x)
    where
      by_kind : (b : Bool) → IfSome (cond b (lacks caller 5 p x) None) CanSpell
      by_kind true = denied_fine p 5 (access_check x.acl.access x.owner x.group caller 5)
      by_kind false = tt

  paged_fine : (dir : Path) (recursive : Bool) (token : Option Path) (page : Page) → IsFine (paged t e dir recursive token page)
  paged_fine dir true token page =
      reading_fine (on_the_way t (is_below dir) token ++ page.paths) _
      (unless_fine (first_refusal (is_closed (caller_of e)) t (on_the_way t (is_below dir) token ++ page.paths)) (listed t dir page)
      (first_fine (is_closed (caller_of e)) (closed_fine (caller_of e)) t (on_the_way t (is_below dir) token ++ page.paths))
      (answered_fine _ (page_spelled (slice_get dir 0) page.next (paths_body t page.paths))))
  paged_fine dir false token page = reading_fine page.paths (listed t dir page) (answered_fine _ (page_spelled (slice_get dir 0) page.next (paths_body t page.paths)))

  pub list_fine : (dir : Path) (recursive : Bool) (token : Option Path) (max : ℕ) → IsFine (list_paths t e dir recursive token max)
  unfolding list_paths
  list_fine dir recursive token max =
      found_fine t e dir _
      (λ x is. unless_fine (refuse_if (not (is_directory x)) code.ResourceTypeMismatch) _ (refuse_fine (not (is_directory x)) code.ResourceTypeMismatch)
      (unless_fine (lacks (caller_of e) 5 dir x) (paged t e dir recursive token (list_page t dir recursive token max)) (denied_fine dir 5 (access_check x.acl.access x.owner x.group (caller_of e) 5))
      (paged_fine dir recursive token (list_page t dir recursive token max))))

  pub list_filesystems_fine : (prefix : List ℕ) (token : Option Path) (max : ℕ) → IsFine (list_filesystems t e prefix token max)
  unfolding list_filesystems
  list_filesystems_fine prefix token max =
      let page : Page = page_of max (above token (filesystems t prefix)) in
      unless_fine (is_no_superuser (caller_of e) []) _ (deny_fine (is_superuser (caller_of e)) rule.SuperuserOnly [])
      (reading_fine ([] ∷ []) (filesystems_listed t page) (reading_fine page.paths _ (answered_fine _ (page_spelled None page.next (filesystems_body t page.paths)))))

  batched_fine : (p : Path) (force : Bool) (token : Option Path) (page : Page) (b : Batch) → IsFine (batched e p force token page b)
  batched_fine p force token page b = record { spelled = page_spelled (slice_get p 0) (batch_next force token page b) (batch_body b) }

  pub batch_fine : (p : Path) (change : BatchChange) (token : Option Path) (max : ℕ) (force : Bool) → IsFine (set_access_recursive t e p change token max force)
  unfolding set_access_recursive
  batch_fine p change token max force =
      found_fine t e p (batch_below t e p change token force (batch_page t p token max))
      (λ x is. reading_fine _ _ (batched_fine p force token (batch_page t p token max) (batch_of t e change force (batch_page t p token max).paths)))
