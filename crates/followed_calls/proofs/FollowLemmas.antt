-- Calls that follow their tokens are the pages of the model, one behind the other.
use Rattle.std.proofs.Common.{◌≡◌, ℕ, ◌-◌, ◌≤◌, suc, List, [], ◌∷◌, ◌++◌, length, Option, Some, None, refl, ap, sym, subst, ◌∙◌, arith}
use Rattle.namespace_model.specs.declared.op.Op.{Op}
use Rattle.namespace_model.specs.PageRuns.{Course, of_filesystems, of_directory, of_batch, course_of, page_at, IsFollowed, followed_paths, token_after}
use Rattle.namespace_model.specs.Pages.{above}
use Rattle.namespace_model.specs.Sound.{IsOperation}
use Rattle.namespace_model.specs.Trees.{Path, Tree}
use Rattle.namespace_model.proofs.PageLaws.{above_ascends, course_ascends, followed_covers}
use Rattle.namespace_model.proofs.PageOrder.{Ascends}
use Rattle.followed_calls.specs.Calls.{AnsweredCall, AsksFor, filesystem_in}
use Rattle.followed_calls.specs.Told.{token_line}
use Rattle.followed_calls.specs.Followed.{AnswersFully, TellsToken, FollowTokens}
use Rattle.followed_calls.specs.Laws.{CoverTheirCourse, TellTogether, IsInOrder}
use Rattle.followed_calls.proofs.TokenLemmas.{IsInAccount, read_of_line, no_line}
use Rattle.followed_calls.proofs.CallLemmas.{tells_page}

-- ---- what a sound request keeps

in_account : (course : Course) (max : ℕ) (token : Option Path) (asked : Op) (body : ℕ) → AsksFor course max token asked → IsOperation asked body → IsInAccount course
in_account (of_filesystems prefix) max token asked body asks sound = tt
in_account (of_directory dir recursive) max token asked body asks sound = (subst (λ o. IsOperation o body) asks sound).0.parts
in_account (of_batch p) max token asked body asks sound = (subst (λ o. IsOperation o body) asks.1.1 sound).0.parts

at_least_one : (course : Course) (max : ℕ) (token : Option Path) (asked : Op) (body : ℕ) → AsksFor course max token asked → IsOperation asked body → 1 ≤ max
at_least_one (of_filesystems prefix) max token asked body asks sound = (subst (λ o. IsOperation o body) asks sound).0.some
at_least_one (of_directory dir recursive) max token asked body asks sound = (subst (λ o. IsOperation o body) asks sound).1.some
at_least_one (of_batch p) max token asked body asks sound = (subst (λ o. IsOperation o body) asks.1.1 sound).2.some

first_goes : (course : Course) (max : ℕ) (token : Option Path) (c : AnsweredCall) (more : List AnsweredCall) → FollowTokens course max token (c ∷ more) → AnswersFully course max token c
first_goes course max token c [] follow = follow.0
first_goes course max token c (d ∷ more) follow = follow.0

-- ---- one behind the other

abbrev trees : List AnsweredCall → List Tree
trees [] = []
trees (c ∷ more) = c.tree ∷ trees more

module _ (course : Course) (max : ℕ) where
  -- the token that was read is the one of the page
  goes_by : (token : Option Path) (c : AnsweredCall) (next : Path) → AnswersFully course max token c → TellsToken course c next → (page_at course max token c.tree).next ≡ Some next
  goes_by token c next on tells =
      read_of_line course max token c.tree tells.0 next on.answered.possible.stands.tree
      (in_account course max token c.request.op (length c.request.body) on.asks on.answered.sound.operation)
      (sym (tells_page course max token c on).line ∙ tells.1.0) tells.1.1

  ends_by : (token : Option Path) (c : AnsweredCall) → AnswersFully course max token c → token_line c.draft.reply.fields ≡ None → (page_at course max token c.tree).next ≡ None
  ends_by token c on none = no_line (filesystem_in course) (page_at course max token c.tree).next (sym (tells_page course max token c on).line ∙ none)

  followed : (token : Option Path) (c : AnsweredCall) (more : List AnsweredCall) → FollowTokens course max token (c ∷ more) → IsFollowed course max token (c.tree ∷ trees more)
  followed token c [] follow = ends_by token c follow.0 follow.1
  followed token c (d ∷ more) follow =
      (follow.1.0, goes_by token c follow.1.0 follow.0 follow.1.1.0, follow.1.1.1.0, followed (Some follow.1.0) d more follow.1.1.1.1)

  together : (token : Option Path) (c : AnsweredCall) (more : List AnsweredCall) → FollowTokens course max token (c ∷ more)
      → TellTogether course (c ∷ more) (followed_paths course max token (c.tree ∷ trees more))
  together token c [] follow = ((page_at course max token c.tree).paths, ([], (refl, ((tells_page course max token c follow.0).told, refl))))
  together token c (d ∷ more) follow = (
    (page_at course max token c.tree).paths,
    (
      followed_paths course max (Some follow.1.0) (d.tree ∷ trees more),
      (
        ap (λ o. (page_at course max token c.tree).paths ++ followed_paths course max (token_after token o) (d.tree ∷ trees more)) (goes_by token c follow.1.0 follow.0 follow.1.1.0),
        ((tells_page course max token c follow.0).told, together (Some follow.1.0) d more follow.1.1.1.1),
      ),
    ),
  )

in_order : (ps : List Path) → Ascends ps → IsInOrder ps
in_order [] up = tt
in_order (p ∷ ps) up = (up.0, in_order ps up.1)

pub tokens_cover : (course : Course) (max : ℕ) (token : Option Path) (first : AnsweredCall) (more : List AnsweredCall) → FollowTokens course max token (first ∷ more) → CoverTheirCourse course token first more
tokens_cover course max token first more follow = record {
  all = subst (TellTogether course (first ∷ more)) (by_size max (max - 1) (omega (arith, some)) (followed course max token first more follow)) (together course max token first more follow);
  once = in_order (above token (course_of course first.tree)) (above_ascends token (course_of course first.tree) (course_ascends course first.tree));
}
  where
    some : 1 ≤ max
    some = let on = first_goes course max token first more follow in at_least_one course max token first.request.op (length first.request.body) on.asks on.answered.sound.operation

    by_size : (k m : ℕ) → k ≡ suc m → IsFollowed course k token (first.tree ∷ trees more) → followed_paths course k token (first.tree ∷ trees more) ≡ above token (course_of course first.tree)
    by_size k m e h =
        ap (λ j. followed_paths course j token (first.tree ∷ trees more)) e
        ∙ followed_covers course m token first.tree (trees more) (subst (λ j. IsFollowed course j token (first.tree ∷ trees more)) e h)
