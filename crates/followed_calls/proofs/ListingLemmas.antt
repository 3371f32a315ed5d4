-- What the answer to a listing tells.
use Rattle.std.proofs.Common.{◌≡◌, ℕ, Bool, List, slice_get, Option, None, option_map, refl, ap, sym, ◌∙◌}
use Rattle.path_text.specs.Tokens.{token_text}
use Rattle.namespace_model.specs.declared.op.Op.{Op}
use Rattle.namespace_model.specs.declared.op.Op.TheVariants as op
use Rattle.namespace_model.specs.declared.reply.Reply.{Reply}
use Rattle.namespace_model.specs.declared.request.Entry.{Entry}
use Rattle.namespace_model.specs.ListFilesystems.{filesystems_body}
use Rattle.namespace_model.specs.ListPaths.{paths_body}
use Rattle.namespace_model.specs.PageRuns.{of_filesystems, of_directory, page_at}
use Rattle.namespace_model.specs.Replies.{page_fields, with_body}
use Rattle.namespace_model.specs.Step.{acts, closing, outcome}
use Rattle.namespace_model.specs.Trees.{Path, Tree}
use Rattle.inode_tree.specs.Promises.{IsOfStep}
use Rattle.followed_calls.specs.Calls.{AnsweredCall, KeepsPromise}
use Rattle.followed_calls.specs.Told.{token_line}
use Rattle.followed_calls.proofs.ReplyLemmas.{paths_reply, filesystems_reply}
use Rattle.followed_calls.proofs.TokenLemmas.{line_of_page, line_with_close, code_with_close, body_with_close}

-- ---- from the model's reply to the draft's

-- a reply with this body, and with the line of this token
pub record IsPageReply (fs : Option (List ℕ)) (next : Option Path) (body : List ℕ) (reply : Reply) : Type 0 where
  pub told : reply.body ≡ body
  pub line : token_line reply.fields ≡ option_map (token_text fs) next

pub of_step : (c : AnsweredCall) → KeepsPromise c → IsOfStep c.draft c.parts c.tree c.entry
of_step c is = is.evaluated.of_step c.parts c.tree c.entry is.possible is.entered

pub asked_of : (c : AnsweredCall) → KeepsPromise c → (asked : Op) → c.request.op ≡ asked → c.entry.entry.request.op ≡ asked
asked_of c is asked e = ap (λ r. r.op) is.entered.asks ∙ e

reply_is : (t : Tree) (e : Entry) → (outcome t e).reply ≡ closing e.request.close (acts t e e.request.op).reply
unfolding outcome
reply_is t e = refl

pub draft_reply : (c : AnsweredCall) → KeepsPromise c → (asked : Op) → c.request.op ≡ asked
    → c.draft.reply ≡ closing c.entry.entry.request.close (acts c.tree c.entry.entry asked).reply
draft_reply c is asked e =
    (of_step c is).reply ∙ reply_is c.tree c.entry.entry
    ∙ ap (λ o. closing c.entry.entry.request.close (acts c.tree c.entry.entry o).reply) (asked_of c is asked e)

pub clean_there : (c : AnsweredCall) (is : KeepsPromise c) (asked : Op) → c.request.op ≡ asked → c.draft.reply.code ≡ None → (acts c.tree c.entry.entry asked).reply.code ≡ None
clean_there c is asked e clean =
    sym (ap (λ (r : Reply). r.code) (draft_reply c is asked e) ∙ code_with_close c.entry.entry.request.close (acts c.tree c.entry.entry asked).reply) ∙ clean

pub page_reply : (c : AnsweredCall) (is : KeepsPromise c) (asked : Op) (e : c.request.op ≡ asked) (fs : Option (List ℕ)) (next : Option Path) (body : List ℕ)
    → (acts c.tree c.entry.entry asked).reply ≡ with_body 200 (page_fields fs next) body → IsPageReply fs next body c.draft.reply
page_reply c is asked e fs next body same =
    let whole = draft_reply c is asked e ∙ ap (closing c.entry.entry.request.close) same in
    let close = c.entry.entry.request.close in
    record {
      told = ap (λ (r : Reply). r.body) whole ∙ body_with_close close (with_body 200 (page_fields fs next) body);
      line = ap (λ (r : Reply). token_line r.fields) whole ∙ line_with_close close (with_body 200 (page_fields fs next) body) ∙ line_of_page fs next;
    }

-- ---- listings

pub paths_told : (c : AnsweredCall) (dir : Path) (recursive : Bool) (token : Option Path) (max : ℕ) → KeepsPromise c → c.request.op ≡ op.List dir recursive token max → c.draft.reply.code ≡ None
    → IsPageReply (slice_get dir 0) (page_at (of_directory dir recursive) max token c.tree).next (paths_body c.tree (page_at (of_directory dir recursive) max token c.tree).paths) c.draft.reply
paths_told c dir recursive token max is e clean =
    page_reply c is (op.List dir recursive token max) e _ _ _ (paths_reply c.tree c.entry.entry dir recursive token max (clean_there c is (op.List dir recursive token max) e clean))

pub filesystems_told : (c : AnsweredCall) (prefix : List ℕ) (token : Option Path) (max : ℕ) → KeepsPromise c → c.request.op ≡ op.ListFilesystems prefix token max → c.draft.reply.code ≡ None
    → IsPageReply None (page_at (of_filesystems prefix) max token c.tree).next (filesystems_body c.tree (page_at (of_filesystems prefix) max token c.tree).paths) c.draft.reply
filesystems_told c prefix token max is e clean =
    page_reply c is (op.ListFilesystems prefix token max) e _ _ _ (filesystems_reply c.tree c.entry.entry prefix token max (clean_there c is (op.ListFilesystems prefix token max) e clean))
