-- What a contract sees of a journal. `E` is an entry, and `body` how many bytes its body has.
use Rattle.std.specs.Prelude.{◌≡◌, ◌≢◌, ℕ, ◌+◌, ◌<◌, ◌≤◌, List, length, sum_by}
use Rattle.commit_journal.specs.Limits.{LimitNumbers}

-- the entries in their order, the limits, and how many more entries there is memory for
pub record JournalView (E : Type 0) : Type 0 where
  pub entries : List E
  pub limits : LimitNumbers
  pub spare : ℕ

-- the bytes of all bodies
abbrev pub bodies_of : {E : Type 0} → (E → ℕ) → List E → ℕ
bodies_of body entries = sum_by body entries

-- it has as many entries as are allowed
abbrev pub IsFull : {E : Type 0} → JournalView E → Type 0
IsFull journal = length journal.entries ≡ journal.limits.journal_max

module _ {E : Type 0} (body : E → ℕ) where
  -- it has room for an entry, but not for a body of so many bytes
  pub record IsFullFor (journal : JournalView E) (bytes : ℕ) : Type 0 where
    pub not_full : length journal.entries ≢ journal.limits.journal_max
    pub too_large : journal.limits.bytes_max < bodies_of body journal.entries + bytes

  -- the entries and their bodies are within the limits
  pub record IsWithin (journal : JournalView E) : Type 0 where
    pub few : length journal.entries ≤ journal.limits.journal_max
    pub light : bodies_of body journal.entries ≤ journal.limits.bytes_max

  -- an entry with a body of so many bytes may be added
  pub record HasRoom (journal : JournalView E) (bytes : ℕ) : Type 0 where
    pub entry : length journal.entries < journal.limits.journal_max
    pub bytes_fit : bodies_of body journal.entries + bytes ≤ journal.limits.bytes_max
    pub memory : 0 < journal.spare

  -- a journal keeps its limits, and counts the bytes of its bodies
  pub record KeepsLimits (entries : List E) (limits : LimitNumbers) (counted : ℕ) : Type 0 where
    pub few : length entries ≤ limits.journal_max
    pub light : counted ≤ limits.bytes_max
    pub is_sum : counted ≡ bodies_of body entries
