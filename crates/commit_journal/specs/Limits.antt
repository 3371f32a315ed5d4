-- The limits that a service is started with, and so a journal is made with.
use Rattle.std.specs.Prelude.{ℕ, ◌≤◌, Bool, ◌&&◌, nat_le, Option, Some, None, if◌then◌else◌}

-- what a contract sees of limits
pub record LimitNumbers : Type 0 where
  -- passes, which are workers
  pub passes : ℕ
  -- entries of the journal
  pub journal_max : ℕ
  -- bytes of retained bodies
  pub bytes_max : ℕ
  -- requests of one connection
  pub requests_max : ℕ

abbrev pub are_within : LimitNumbers → Bool
are_within n =
    nat_le 1 n.passes && nat_le n.passes 64
    && nat_le 1 n.journal_max && nat_le n.journal_max 4194304
    && nat_le n.bytes_max 2147483648
    && nat_le 1 n.requests_max && nat_le n.requests_max 1048576

-- each number is within its own limits
pub record AreWithin (n : LimitNumbers) : Type 0 where
  pub some_pass : 1 ≤ n.passes
  pub few_passes : n.passes ≤ 64
  pub some_entry : 1 ≤ n.journal_max
  pub few_entries : n.journal_max ≤ 4194304
  pub few_bytes : n.bytes_max ≤ 2147483648
  pub some_request : 1 ≤ n.requests_max
  pub few_requests : n.requests_max ≤ 1048576

-- limits are made of numbers within their limits, and of no others
abbrev pub limits_of : LimitNumbers → Option LimitNumbers
limits_of n = if are_within n then Some n else None
