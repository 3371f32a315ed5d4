-- What a turn at a queue of connections says.
use Rattle.std.specs.Prelude.{◌≡◌, ◌⊎◌, ⊤, ℕ, suc, ◌<◌, ◌≤◌, nat_le, Bool, true, Option, Some, if◌then◌else◌}
use Rattle.conn_queue.specs.declared.queue.Shut.{Shut}
use Rattle.conn_queue.specs.declared.queue.Shut.TheVariants as shut
use Rattle.conn_queue.specs.declared.queue.Taken.{Taken}
use Rattle.conn_queue.specs.declared.queue.Taken.TheVariants.{Conn, Ended, Failed}

-- why no connection is taken any more, if none is, from the number of those that were taken and from what the listener answered for good
abbrev pub shut_as : (most given : ℕ) → Option Shut → Option Shut
shut_as most given kept = if nat_le most given then Some shut.Most else kept

-- the reason holds of the listener
abbrev pub HasShut : (most given : ℕ) (ended : Bool) (faults : ℕ) → Shut → Type 0
HasShut most given ended faults shut.Most = most ≤ given
HasShut most given ended faults shut.Ended = ended ≡ true
HasShut most given ended faults shut.Failed = 0 < faults

module _ {I O : Type 0} where
  -- A connection raises the number of those that were given by one, and has the number before; nothing else raises it.
  abbrev pub Numbers : (before now : ℕ) → Taken I O → Type 0
  Numbers before now (Conn number source sink) = (number ≡ before) × (now ≡ suc before)
  Numbers before now Ended = now ≡ before
  Numbers before now Failed = now ≡ before

  -- no connection is answered only where the queue is shut, and it tells why
  abbrev pub Tells : Option Shut → Taken I O → Type 0
  Tells reason (Conn number source sink) = ⊤
  Tells reason Ended = (reason ≡ Some shut.Most) ⊎ (reason ≡ Some shut.Ended)
  Tells reason Failed = reason ≡ Some shut.Failed

  -- what a queue that is shut answers
  abbrev pub answer_when : Shut → Taken I O
  answer_when shut.Most = Ended
  answer_when shut.Ended = Ended
  answer_when shut.Failed = Failed
