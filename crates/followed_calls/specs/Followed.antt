-- Calls that follow one another, each with the token that the reply before it told.
use Rattle.std.specs.Prelude.{◌≡◌, ℕ, List, [], ◌∷◌, Option, Some, None}
use Rattle.path_text.specs.Tokens.{token_path}
use Rattle.namespace_model.specs.PageRuns.{Course, HaveSamePaths}
use Rattle.namespace_model.specs.Trees.{Path}
use Rattle.followed_calls.specs.Calls.{AnsweredCall, KeepsPromise, AsksFor, IsNotStopped, filesystem_in}
use Rattle.followed_calls.specs.Told.{token_line}

-- one of the calls: it asks for this course behind this token, isn't refused, and isn't stopped by a failure
pub record AnswersFully (course : Course) (max : ℕ) (token : Option Path) (c : AnsweredCall) : Type 0 where
  pub answered : KeepsPromise c
  pub asks : AsksFor course max token c.request.op
  pub not_refused : c.draft.reply.code ≡ None
  pub not_stopped : IsNotStopped c c.request.op

-- the path that is read of the token in the reply
abbrev pub TellsToken : Course → AnsweredCall → Path → Type 0
TellsToken course c next =
    (text : List ℕ) × ((token_line c.draft.reply.fields ≡ Some text) × (token_path (filesystem_in course) text ≡ Some next))

-- Calls one after the other: the first with this token, each other one with the token that the reply before it told, and the last reply tells none.
-- From the tree of each to the tree of the next no path comes or goes.
abbrev pub FollowTokens : Course → ℕ → Option Path → List AnsweredCall → Type 0
FollowTokens course max token [] = ⊥
FollowTokens course max token (c ∷ []) = AnswersFully course max token c × (token_line c.draft.reply.fields ≡ None)
FollowTokens course max token (c ∷ d ∷ more) =
    AnswersFully course max token c
    × ((next : Path) × (TellsToken course c next × (HaveSamePaths c.tree d.tree × FollowTokens course max (Some next) (d ∷ more))))
