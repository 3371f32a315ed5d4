-- Moments of one entry more.
use Rattle.std.proofs.Common.{◌≡◌, ℕ, suc, ◌+◌, ◌<◌, ◌≤◌, List, [], ◌∷◌, ◌++◌, Option, Some, None, refl, ap, ◌∙◌, arith}
use Rattle.conn_io.specs.Moments.{HasTicked, IsForetold}
use Rattle.serving.specs.Moments.{Asks, Paced, Rise, FollowOn}

-- a clock that was not asked
pub ticked-none : (ahead : Option (ℕ → ℕ)) → HasTicked ahead ahead 0
ticked-none None = tt
ticked-none (Some f) = λ k. let place : k ≡ k + 0 = omega arith in ap f place

-- a clock that was asked, and then asked again
pub ticked-more : (ahead now then : Option (ℕ → ℕ)) (count more : ℕ) → HasTicked ahead now count → HasTicked now then more → HasTicked ahead then (count + more)
ticked-more None now then count more so_far further = tt
ticked-more (Some f) None then count more so_far further = absurd so_far
ticked-more (Some f) (Some g) None count more so_far further = absurd further
ticked-more (Some f) (Some g) (Some h) count more so_far further = λ k.
    let place : k + more + count ≡ k + (count + more) = omega arith in
    further k ∙ so_far (k + more) ∙ ap f place

-- an answer of the clock as it is now, among its answers from the start on
pub foretold-later : (ahead now : Option (ℕ → ℕ)) (count k moment : ℕ) → HasTicked ahead now count → IsForetold now k moment → IsForetold ahead (count + k) moment
foretold-later None now count k moment so_far is = tt
foretold-later (Some f) None count k moment so_far is = absurd so_far
foretold-later (Some f) (Some g) count k moment so_far is =
    let place : k + count ≡ count + k = omega arith in
    is ∙ so_far k ∙ ap f place

-- `Paced`, with how often the clock was asked on the whole
abbrev pub PacedTo : (rule : ℕ → ℕ → Type 0) → ℕ → List ℕ → ℕ → Type 0
PacedTo rule from [] to = to ≡ from
PacedTo rule from (k ∷ ks) to = (next : ℕ) × Asks rule from k next × PacedTo rule next ks to

-- one request more
pub paced-push : (rule : ℕ → ℕ → Type 0) (from : ℕ) (ks : List ℕ) (to k next : ℕ) → PacedTo rule from ks to → Asks rule to k next → PacedTo rule from (ks ++ k ∷ []) next
paced-push rule from [] to k next pace asks = (next, rw pace at asks, refl)
paced-push rule from (j ∷ ks) to k next pace asks = (pace.0, pace.1, paced-push rule pace.0 ks to k next pace.2 asks)

pub paced : (rule : ℕ → ℕ → Type 0) (from : ℕ) (ks : List ℕ) (to : ℕ) → PacedTo rule from ks to → Paced rule from ks
paced rule from [] to pace = tt
paced rule from (k ∷ ks) to pace = (pace.0, pace.1, paced rule pace.0 ks to pace.2)

-- where each request asks once, the answers follow on
pub paced-follow : (rule : ℕ → ℕ → Type 0) → ((answer times : ℕ) → rule answer times → (answer ≡ 0) × (times ≡ 1)) → (from : ℕ) (ks : List ℕ) → Paced rule from ks
    → FollowOn from ks
paced-follow rule once from [] pace = tt
paced-follow rule once from (k ∷ ks) pace =
    let asks = pace.1 in
    let is = once asks.answer asks.times asks.ruled in
    let next : pace.0 ≡ suc from = omega (arith, asks.next_is, is.1) in
    (omega (arith, asks.place, is.0), rw next at (paced-follow rule once pace.0 ks pace.2))

weaker : (from to : ℕ) (ks : List ℕ) → from ≤ to → Rise to ks → Rise from ks
weaker from to [] below rise = tt
weaker from to (k ∷ ks) below rise = let least : to ≤ k = rise.0 in (omega arith, rise.1)

-- where the moment is one of the answers of its request, the answers rise
pub paced-rise : (rule : ℕ → ℕ → Type 0) → ((answer times : ℕ) → rule answer times → answer < times) → (from : ℕ) (ks : List ℕ) → Paced rule from ks → Rise from ks
paced-rise rule among from [] pace = tt
paced-rise rule among from (k ∷ ks) pace =
    let asks = pace.1 in
    let is : asks.answer < asks.times = among asks.answer asks.times asks.ruled in
    let later : suc k ≤ pace.0 = omega (arith, asks.next_is, asks.place, is) in
    (omega (arith, asks.place), weaker (suc k) pace.0 ks later (paced-rise rule among pace.0 ks pace.2))
