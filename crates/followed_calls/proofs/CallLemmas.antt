-- What the answer to a call tells, of each course.
use Rattle.std.proofs.Common.{◌≡◌, ◌⊎◌, ℕ, Bool, true, [], slice_get, Option, Some, None, option_map, ap, subst, ◌∙◌}
use Rattle.path_text.specs.Tokens.{token_text}
use Rattle.namespace_model.specs.declared.op.BatchChange.{BatchChange}
use Rattle.namespace_model.specs.declared.op.Op.TheVariants as op
use Rattle.namespace_model.specs.Locality.{Among}
use Rattle.namespace_model.specs.PageRuns.{Course, of_filesystems, of_directory, of_batch, course_of, page_at}
use Rattle.namespace_model.specs.Pages.{above}
use Rattle.namespace_model.specs.SetAccessRecursive.{batch_of}
use Rattle.namespace_model.specs.Trees.{Path, Tree}
use Rattle.namespace_model.proofs.PageLaws.{page_is_above}
use Rattle.namespace_model.proofs.PageOrder.{among_take}
use Rattle.followed_calls.specs.Calls.{AnsweredCall, KeepsPromise, AsksFor, IsNotStopped, filesystem_in}
use Rattle.followed_calls.specs.Told.{Tells, Handles, token_line}
use Rattle.followed_calls.specs.Followed.{AnswersFully}
use Rattle.followed_calls.specs.Laws.{TellsBehind, WritesBehind}
use Rattle.followed_calls.proofs.TokenLemmas.{above_among}
use Rattle.followed_calls.proofs.ListingLemmas.{paths_told, filesystems_told}
use Rattle.followed_calls.proofs.WrittenLemmas.{nothing_written, paths_write_nothing, filesystems_write_nothing, batch_writes_behind}
use Rattle.followed_calls.proofs.BatchLemmas.{batch_told, handled_of, next_of_page}

-- it tells the page of the course, and the page's token
pub record TellsPage (course : Course) (max : ℕ) (token : Option Path) (c : AnsweredCall) : Type 0 where
  pub told : Tells course c (page_at course max token c.tree).paths
  pub line : token_line c.draft.reply.fields ≡ option_map (token_text (filesystem_in course)) (page_at course max token c.tree).next

handles : (c : AnsweredCall) (p : Path) (change : BatchChange) (token : Option Path) (max : ℕ) (force : Bool) (is : KeepsPromise c) (e : c.request.op ≡ op.SetAccessRecursive p change token max force) (clean : c.draft.reply.code ≡ None)
    → Handles c (handled_of c.tree c.entry.entry change force (page_at (of_batch p) max token c.tree).paths).paths
handles c p change token max force is e clean =
    let reply = batch_told c p change token max force is e clean in
    record {
      batch = batch_of c.tree c.entry.entry change force (page_at (of_batch p) max token c.tree).paths;
      told = reply.replied.told;
      put = reply.put;
      handled = (handled_of c.tree c.entry.entry change force (page_at (of_batch p) max token c.tree).paths).in_turn;
    }

pub tells_page : (course : Course) (max : ℕ) (token : Option Path) (c : AnsweredCall) → AnswersFully course max token c → TellsPage course max token c
tells_page (of_filesystems prefix) max token c on =
    let reply = filesystems_told c prefix token max on.answered on.asks on.not_refused in
    record { told = reply.told; line = reply.line }
tells_page (of_directory dir recursive) max token c on =
    let reply = paths_told c dir recursive token max on.answered on.asks on.not_refused in
    record { told = reply.told; line = reply.line }
tells_page (of_batch p) max token c on =
    let change = on.asks.0 in
    let force = on.asks.1.0 in
    let page = page_at (of_batch p) max token c.tree in
    let batch = batch_of c.tree c.entry.entry change force page.paths in
    let goes : (force ≡ true) ⊎ (batch.failed ≡ []) = subst (IsNotStopped c) on.asks.1.1 on.not_stopped in
    let reply = batch_told c p change token max force on.answered on.asks.1.1 on.not_refused in
    record {
      told = subst (Handles c) ((handled_of c.tree c.entry.entry change force page.paths).whole goes) (handles c p change token max force on.answered on.asks.1.1 on.not_refused);
      line = reply.replied.line ∙ ap (option_map (token_text (slice_get p 0))) (next_of_page force token page batch goes);
    }

page_of_course : (course : Course) (max : ℕ) (token : Path) (t : Tree) (q : Path) → Among q (page_at course max (Some token) t).paths → Among q (course_of course t)
page_of_course course max token t q h = above_among (Some token) q (course_of course t) (among_take max q (above (Some token) (course_of course t)) h)

pub tells_behind : (course : Course) (max : ℕ) (token : Path) (c : AnsweredCall) → KeepsPromise c → AsksFor course max (Some token) c.request.op → c.draft.reply.code ≡ None → TellsBehind course token c
tells_behind (of_filesystems prefix) max token c is asks clean = record {
  paths = (page_at (of_filesystems prefix) max (Some token) c.tree).paths;
  told = (filesystems_told c prefix (Some token) max is asks clean).told;
  of_course = page_of_course (of_filesystems prefix) max token c.tree;
  behind = page_is_above (of_filesystems prefix) max token c.tree;
}
tells_behind (of_directory dir recursive) max token c is asks clean = record {
  paths = (page_at (of_directory dir recursive) max (Some token) c.tree).paths;
  told = (paths_told c dir recursive (Some token) max is asks clean).told;
  of_course = page_of_course (of_directory dir recursive) max token c.tree;
  behind = page_is_above (of_directory dir recursive) max token c.tree;
}
tells_behind (of_batch p) max token c is asks clean =
    let some = handled_of c.tree c.entry.entry asks.0 asks.1.0 (page_at (of_batch p) max (Some token) c.tree).paths in
    record {
      paths = some.paths;
      told = handles c p asks.0 (Some token) max asks.1.0 is asks.1.1 clean;
      of_course = λ q h. page_of_course (of_batch p) max token c.tree q (some.within q h);
      behind = λ q h. page_is_above (of_batch p) max token c.tree q (some.within q h);
    }

-- ---- what is written

pub writes_behind : (course : Course) (max : ℕ) (token : Path) (c : AnsweredCall) → KeepsPromise c → AsksFor course max (Some token) c.request.op → WritesBehind token c
writes_behind (of_filesystems prefix) max token c is asks = nothing_written c is _ asks (filesystems_write_nothing c.tree c.entry.entry prefix (Some token) max) token
writes_behind (of_directory dir recursive) max token c is asks = nothing_written c is _ asks (paths_write_nothing c.tree is.possible.stands.tree c.entry.entry dir recursive (Some token) max) token
writes_behind (of_batch p) max token c is asks = batch_writes_behind p max token c asks.0 asks.1.0 is asks.1.1
