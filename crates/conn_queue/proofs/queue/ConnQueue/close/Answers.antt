use Rattle.std.proofs.Common.{◌≡◌, ◌<◌, None, Option, max, ℕ, arith, sym, ap, ◌∙◌}
use Rattle.conn_queue.specs.declared.queue.Shut.{Shut}
use Rattle.conn_queue.specs.Turns.{shut_as}
use Rattle.conn_queue.proofs.queue.ConnQueue.close.Goals as goal

-- a queue that is not shut has not given as many as it was made for
below : (most given : ℕ) (kept : Option Shut) → shut_as (max most given) given kept ≡ None → given < most
below most given kept still = grind arith

pub returns-clause-some_left : goal.returns-clause-some_left
returns-clause-some_left g c none =
    below c.args.self.most (g.L.Listener.given c.close.result.0) c.into_state.result.kept
    (ap (λ n. shut_as (max c.args.self.most n) n c.into_state.result.kept) (ap g.L.Listener.given c.close.ensures.listener)
    ∙ ap (λ n. shut_as n (g.L.Listener.given c.into_state.result.listener) c.into_state.result.kept) (sym c.into_state.ensures)
    ∙ sym c.close.ensures.shut ∙ none)
